-- What an election's sender is after a step of it, from what its calls gave.
use Rattle.std.proofs.Common.{◌≡◌, ℕ, ◌+◌, ◌==◌, false, cond, Option, Some, None, is_some, sym}
use Rattle.std.proofs.Common.{◌∙◌, ap, subst}
use Rattle.std.proofs.lemmas.Option.{same_Some}
use Rattle.bus_register.specs.declared.registers.SenderNo.{SenderNo}
use Rattle.bus_batch.specs.Batches.{Pending}
use Rattle.bus_ownerbits.specs.ElectionNames.{sender}
use Rattle.bus_tenure.specs.declared.phases.Phase.TheVariants.{Resting, Electing}
use Rattle.bus_tenure.specs.declared.turns.Turn.TheVariants as turn
use Rattle.bus_tenure.specs.Core.{Core, Election, row_at}
use Rattle.bus_tenure.specs.Situations.{Elects, TakesPage, situation_of, situation_at, op_at}
use Rattle.bus_tenure.specs.Situations.{core_elected, fed_at, answer_at, answer_of_election}
use Rattle.bus_tenure.specs.Keeping.{SenderInvariant, PhaseKeeps, IsElecting}

pub sender_some : (x : Option ℕ) (v : SenderNo) → sender x ≡ Some v → x ≡ Some v.0
sender_some None v e = cc
sender_some (Some k) v e = let same : record { 0 = k } ≡ v = cc in ap (λ z. Some z.0) same

-- no owner yet
pub no_owner : (x y : Option ℕ) → sender x ≡ None → x ≡ y → (me o : ℕ) → y ≡ Some o → o ≡ me
no_owner None y e same me o f = absurd (let g = same ∙ f in cc g)
no_owner (Some k) y e same me o f = absurd cc

-- the owner is the sender itself
pub own_owner : (x y : Option ℕ) (v : SenderNo) → sender x ≡ Some v → x ≡ y → (me : ℕ) → v.0 ≡ me
    → (o : ℕ) → y ≡ Some o → o ≡ me
own_owner x y v e same me own o f =
    let g : Some o ≡ Some v.0 = sym f ∙ sym same ∙ sender_some x v e in same_Some _ _ g ∙ own

module _ {E : Type 0} (X : Election E) (c s : Core E) (same : c ≡ s) (t : ℕ) (e : E)
    (at : c.phase ≡ Electing t e) (unowned : is_some (X.owner e) ≡ false) where
  here : situation_of X c ≡ Elects t e
  here = ap (situation_at X c) at ∙ ap (λ z. cond z (TakesPage t) (Elects t e)) unowned

  pub its_op : (word : ℕ) → op_at X s (situation_of X s) word ≡ X.op e word
  its_op word =
      ap (λ z. op_at X z (situation_of X z) word) (sym same) ∙ ap (λ z. op_at X c z word) here

  module _ (got word : ℕ) (e' : E) (went : e' ≡ X.fed e got word) (o : ℕ)
      (owned : X.owner e' ≡ Some o) (other : (o == c.me) ≡ false) where
    owner_is : X.owner (X.fed e got word) ≡ Some o
    owner_is = ap X.owner (sym went) ∙ owned

    pub lost_state : (q : Pending) → q ≡ record c.queue { busy = false }
        → record c { queue = q; least = t + 1; phase = Resting }
        ≡ fed_at X s (situation_of X s) got word
    lost_state q back =
        ap (λ z. record c { queue = z; least = t + 1; phase = Resting }) back
        ∙ sym
        (ap (λ z. cond z (record c { phase = Electing t (X.fed e got word) })
        (record c { queue = record c.queue { busy = false }; least = t + 1; phase = Resting }))
        other)
        ∙ sym (ap (core_elected c t (X.fed e got word)) owner_is)
        ∙ sym (ap (λ z. fed_at X c z got word) here)
        ∙ ap (λ z. fed_at X z (situation_of X z) got word) same

    pub lost_answer : turn.Lost t record { 0 = o } ≡ answer_at X s (situation_of X s) got word
    lost_answer =
        sym (ap (λ z. cond z turn.Going (turn.Lost t record { 0 = o })) other)
        ∙ sym (ap (answer_of_election c t) owner_is)
        ∙ sym (ap (λ z. answer_at X c z got word) here)
        ∙ ap (λ z. answer_at X z (situation_of X z) got word) same

-- the election goes on
pub keeps_electing :
    {E : Type 0} (width : ℕ) (Belongs : ℕ → E → Type 0) (c : Core E) (t : ℕ) (e e' f : E)
    → SenderInvariant width Belongs c → c.phase ≡ Electing t e → e' ≡ f
    → (Belongs (row_at c.layout t) e → Belongs (row_at c.layout t) f)
    → SenderInvariant width Belongs (record c { phase = Electing t e' })
keeps_electing width Belongs c t e e' f k at went goes =
    let h : IsElecting Belongs c t e = subst (λ z. PhaseKeeps Belongs c z) at k.phase in
    record {
      sizes = k.sizes;
      me_below = k.me_below;
      sender_is = k.sender_is;
      limit_is = k.limit_is;
      phase = record {
        in_tenure = record { below = h.in_tenure.below; under_way = h.in_tenure.under_way };
        belongs = subst (Belongs (row_at c.layout t)) (sym went) (goes h.belongs);
      };
    }
