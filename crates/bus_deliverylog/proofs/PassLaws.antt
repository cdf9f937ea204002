-- When a receiver stores its place: where a frame ends, in its passed place, and once.
use Rattle.std.proofs.Common.{◌≡◌, ℕ, ◌<◌, List, length, Bool, true, false}
use Rattle.std.proofs.Common.{cond, nat_lt, ◌&&◌, Option, Some, None, arith, refl}
use Rattle.std.proofs.Common.{ap, ◌∙◌, subst, ◌+◌, ◌%◌, ◌==◌, IfSome}
use Rattle.std.specs.List.{list_any}
use Rattle.std.specs.Prelude.{if◌then◌else◌}
use Rattle.bus_register.specs.declared.registers.Op.TheVariants.{Load}
use Rattle.std.proofs.lemmas.Bool.{and_parts, ltb-true, lt-ltb, le-ltb}
use Rattle.bus_batch.specs.declared.messages.Piece.{Piece}
use Rattle.bus_batch.specs.Frames.{IsLog, is_end}
use Rattle.bus_batch.specs.Reading.{Reading, HasRead, is_between}
use Rattle.bus_batch.proofs.Standing.{stands_between, between_alike}
use Rattle.bus_deliverylog.specs.declared.receiving.RecvTurn.{RecvTurn}
use Rattle.bus_deliverylog.specs.Receiving.{Receiving, HasReceived, TakesPassed, reading_of}
use Rattle.bus_deliverylog.specs.Receiving.{passing_due, receiving_kind, receiving_op, leaving_op}
use Rattle.bus_deliverylog.specs.Receiving.{joining_by, joining_op, kind_by, op_by}
use Rattle.bus_deliverylog.specs.Receiving.{leaving_by, LiesApart, WritesApart}
use Rattle.bus_deliverylog.proofs.ReceiveLaws.{due_at}

by_test : (b : Bool) (o : Option ℕ) (at : ℕ) → cond b o None ≡ Some at
    → (b ≡ true) × (o ≡ Some at)
by_test true o at e = (refl, e)
by_test false o at e = absurd cc

pub ends_there : (v : Receiving) (words : List ℕ) (pieces : List (Option Piece)) (at : ℕ)
    → HasReceived words pieces (reading_of v) → passing_due v ≡ Some at
    → IsLog v.frames.senders words × (list_any is_end pieces ≡ false)
    × (v.place ≡ length words) × (v.passed < v.place) × (v.passed_at ≡ Some at)
ends_there v words pieces at had due =
    let test = by_test (is_between v.frames.place && nat_lt v.passed v.place) v.passed_at at due in
    let both = and_parts (is_between v.frames.place) (nat_lt v.passed v.place) test.0 in
    let log = (stands_between v.frames.senders words pieces v.frames had.read).0 both.0 in (
      log.0,
      log.1,
      had.place,
      ltb-true v.passed v.place both.1,
      test.1,
    )

pub due_there : (v : Receiving) (words : List ℕ) (pieces : List (Option Piece)) (at : ℕ)
    → HasReceived words pieces (reading_of v) → IsLog v.frames.senders words
    → list_any is_end pieces ≡ false → v.passed < v.place → v.passed_at ≡ Some at
    → passing_due v ≡ Some at
due_there v words pieces at had log going past is =
    ap (λ b. cond (b && nat_lt v.passed v.place) v.passed_at None)
    ((stands_between v.frames.senders words pieces v.frames had.read).1 (log, going))
    ∙ ap (λ b. cond b v.passed_at None) (lt-ltb v.passed v.place past) ∙ is

-- what is kept of the words that were read decides nothing about the next step
module _ (v : Receiving) (frames : Reading) (words : List ℕ) (pieces pieces' : List (Option Piece))
    (had : HasReceived words pieces (reading_of v))
    (had' : HasReceived words pieces' (reading_of (record v { frames = frames })))
    (senders : frames.senders ≡ v.frames.senders) where
  due_alike : passing_due (record v { frames = frames }) ≡ passing_due v
  due_alike = ap (λ b. cond (b && nat_lt v.passed v.place) v.passed_at None)
      (between_alike v.frames.senders words pieces' pieces frames v.frames
      (subst (λ n. HasRead n words pieces' frames) senders had'.read) had.read)

  pub same_kind : receiving_kind (record v { frames = frames }) ≡ receiving_kind v
  same_kind =
      ap (λ o. if v.ended then None else Some (kind_by o (record v { frames = frames }))) due_alike
      ∙ ap (λ k. if v.ended then None else Some k) (by (passing_due v))
    where
      by : (o : Option ℕ) → kind_by o (record v { frames = frames }) ≡ kind_by o v
      by None = refl
      by (Some at) = refl

  pub same_op : receiving_op (record v { frames = frames }) ≡ receiving_op v
  same_op =
      ap (λ o. if v.ended then None else Some (op_by o (record v { frames = frames }))) due_alike
      ∙ ap (λ k. if v.ended then None else Some k) (by (passing_due v))
    where
      by : (o : Option ℕ) → op_by o (record v { frames = frames }) ≡ op_by o v
      by None = refl
      by (Some at) = refl

-- it is not due again before more is read
pub once_there : (v : Receiving) (answer : RecvTurn) (new : Receiving) → TakesPassed v answer new
    → passing_due new ≡ None
once_there v answer new takes =
    ap (λ (w : Receiving). passing_due w) takes.1 ∙ by (is_between v.frames.place)
  where
    by : (b : Bool) → cond (b && nat_lt v.place v.place) v.passed_at None ≡ None
    by true = ap (λ t. cond t v.passed_at None) (le-ltb v.place v.place (omega arith))
    by false = refl

-- ---- what a receiver writes
abbrev IsApart : Receiving → Type 0
IsApart v = IfSome v.passed_at (LiesApart v.log_at v.length_at v.log_words)

-- is its passed place, with its next step
next_writes : (v : Receiving) → IsApart v → IfSome (receiving_op v) (WritesApart v)
next_writes v apart = by v.ended where
  loads : (b : Bool) → WritesApart v (cond b (Load (record { 0 = v.length_at }))
      (Load (record { 0 = v.log_at + v.place % v.log_words })))
  loads true = tt
  loads false = tt

  does : (o : Option ℕ) → ((at : ℕ) → o ≡ Some at → v.passed_at ≡ Some at)
      → WritesApart v (op_by o v)
  does None is = loads (v.place == v.known)
  does (Some at) is =
      subst (λ o. IfSome o (LiesApart v.log_at v.length_at v.log_words)) (is at refl) apart

  by : (b : Bool) → IfSome (cond b None (Some (op_by (passing_due v) v))) (WritesApart v)
  by true = tt
  by false = does (passing_due v) (due_at v)

-- and as it leaves
leaving_writes : (v : Receiving) → IsApart v → IfSome (leaving_op v) (WritesApart v)
leaving_writes v apart = by v.passed_at apart where
  by : (o : Option ℕ) → IfSome o (LiesApart v.log_at v.length_at v.log_words)
      → IfSome (leaving_by o) (WritesApart v)
  by None a = tt
  by (Some at) a = a

pub next_apart : (v w : Receiving) → v ≡ w → IsApart v → IfSome (receiving_op w) (WritesApart w)
next_apart v w same apart =
    subst (λ z. IfSome (receiving_op z) (WritesApart z)) same (next_writes v apart)

pub leaving_apart : (v w : Receiving) → v ≡ w → IsApart v → IfSome (leaving_op w) (WritesApart w)
leaving_apart v w same apart =
    subst (λ z. IfSome (leaving_op z) (WritesApart z)) same (leaving_writes v apart)

-- and as it joins
joining_writes : (v : Receiving) → IsApart v → IfSome (joining_op v) (WritesApart v)
joining_writes v apart = by v.passed_at apart where
  by : (o : Option ℕ) → IfSome o (LiesApart v.log_at v.length_at v.log_words)
      → IfSome (joining_by o v.passed) (WritesApart v)
  by None a = tt
  by (Some at) a = a

pub joining_apart : (v w : Receiving) → v ≡ w → IsApart v → IfSome (joining_op w) (WritesApart w)
joining_apart v w same apart =
    subst (λ z. IfSome (joining_op z) (WritesApart z)) same (joining_writes v apart)
