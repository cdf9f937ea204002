-- Lists, bytes, numbers and results of a program; and who took the page, as an answer tells it.
use Rattle.std.proofs.Common.{◌≡◌, ℕ, zero, suc, ◌/◌, ◌<◌, Bool, true, false, cond, nat_le, Option}
use Rattle.std.proofs.Common.{Some, None, List, [], ◌∷◌, length, map, get_or, slice_get, slice_set}
use Rattle.std.proofs.Common.{arith, refl, sym, ◌∙◌, ap, subst}
use Rattle.std.specs.Prelude.{Result, Ok, Err, IsErr, IsErrAnd, IfErr, All}
use Rattle.std.proofs.lemmas.Grind.{common_steps}
use Rattle.std.proofs.lemmas.List.{length-map}
use Rattle.std.proofs.lemmas.Option.{gets, slice_get-get_or, same_Some}
use Rattle.bus_register.specs.declared.registers.SenderNo.{SenderNo}
use Rattle.bus_tenure.specs.Core.{Core, Election}
use Rattle.bus_tenure.specs.Situations.{waits, Situation, LooksAtStage, Elects, GivesBack}
use Rattle.bus_tenure.specs.Situations.{HasHanded, answer_at, answer_of_election, answer_of_return}
use Rattle.bus_tenure.specs.declared.phases.Reason.{Reason}
use Rattle.bus_tenure.specs.declared.phases.Reason.TheVariants.{Sent, FoundEnd, NoRoom}
use Rattle.bus_tenure.specs.declared.turns.Turn.TheVariants as turn
use Rattle.bus_world.specs.Private.Machines.{owners_after}
use Rattle.bus_world.specs.Turning.{owners_by}

-- a list with the same element in its place
pub set_same : {A : Type 0} (xs : List A) (p : ℕ) (x : A) → slice_get xs p ≡ Some x
    → slice_set xs p x ≡ xs
set_same xs p x h = grind (arith, common_steps, gets)

-- ---- results

pub passed_up : {T F : Type 0} (r : Result T F) (e : F) (P : F → Type 0)
    → IsErr r × IsErrAnd r (λ y. y ≡ e) → P e → IfErr r P
passed_up (Ok x) e P h p = absurd h.1
passed_up (Err y) e P h p = subst P (sym h.1) p

-- ---- who took the page
module _ {E : Type 0} (X : Election E) (c : Core E) (p : ℕ) (owners : List ℕ) where
  stage_told : (a b : Bool)
      → owners ≡ owners_by (cond a turn.Waiting (cond b turn.Spent turn.Going)) p owners
  stage_told true b = refl
  stage_told false true = refl
  stage_told false false = refl

  election_told : (t : ℕ) (o : Option ℕ) → owners ≡ owners_by (answer_of_election c t o) p owners
  election_told t None = refl
  election_told t (Some o) = grind (arith, common_steps)

  leaving_told : (t : ℕ) (reason : Reason)
      → owners ≡ owners_by (answer_of_return c.queue t reason) p owners
  leaving_told t Sent = grind (arith, common_steps)
  leaving_told t FoundEnd = refl
  leaving_told t NoRoom = refl

  pub owners_told : (z : Situation E) (got word : ℕ)
      → owners_after X c z p owners ≡ owners_by (answer_at X c z got word) p owners
  owners_told LooksAtStage got word = stage_told (waits c got) (nat_le c.layout.rows (got / 2))
  owners_told (Elects t e) got word = election_told t (X.owner (X.fed e got word))
  owners_told (GivesBack t page reason) got word = leaving_told t reason
  owners_told (HasHanded t reason) got word = leaving_told t reason
  owners_told z got word = refl

-- as many numbers as senders
pub numbers_many : (senders : List SenderNo) {most : ℕ} → length (map (λ s. s.0) senders) < most
    → length senders < most
numbers_many senders l = let same = length-map senders (λ (s : SenderNo). s.0) in omega arith

-- a sender or receiver that there is
pub there : {A : Type 0} (xs : List A) (p : ℕ) (x : A) → p < length xs → x ≡ get_or xs p x
    → slice_get xs p ≡ Some x
there xs p x l e = slice_get-get_or xs p x l ∙ ap Some (sym e)

pub one_there : {A : Type 0} (xs : List A) (r : ℕ) → r < length xs
    → (v : A) × (slice_get xs r ≡ Some v)
one_there [] r l = absurd (omega arith)
one_there (x ∷ xs) zero l = (x, refl)
one_there (x ∷ xs) (suc r) l = one_there xs r (omega arith)

-- the bytes of a program are bytes
pub small_bytes : (bytes : List ℕ) → ((i : ℕ) → get_or bytes i 0 < 256)
    → All (λ byte. byte < 256) bytes
small_bytes bytes f k d l = subst (λ z. z < 256)
    (same_Some _ _ (sym (slice_get-get_or bytes k 0 l) ∙ slice_get-get_or bytes k d l)) (f k)
