-- What a fork adds to what a history keeps: the new receiver counts what its maker was given.
use Rattle.std.proofs.Common.{◌≡◌, ℕ, ◌<◌, ◌≤◌, Bool, true, false, cond, Option, Some, List}
use Rattle.std.proofs.Common.{[], length, slice_get, slice_set, refl, sym, ap, subst, ◌∙◌, inl, inr}
use Rattle.std.proofs.Common.{arith}
use Rattle.std.specs.Prelude.{◌==◌, ◌+◌, slice_index_or}
use Rattle.std.proofs.Math.ListN.{length-set}
use Rattle.std.proofs.lemmas.Bool.{cases_eq}
use Rattle.std.proofs.lemmas.Bool.Decides.{eqb_tells}
use Rattle.std.proofs.lemmas.Option.{get_or_from_slice_get, slice_get_past, slice_get_within}
use Rattle.bus_register.specs.Protocol.{Protocol}
use Rattle.bus_register.specs.Private.TableLaws.{get_set_same, get_set_other}
use Rattle.bus_adoptcommit.specs.declared.verdicts.Verdict.{Verdict}
use Rattle.bus_deliverylog.specs.Receiving.{joining_op}
use Rattle.bus_deliverylog.specs.declared.receiving.RecvTurn.{RecvTurn}
use Rattle.bus_tenure.specs.Core.{Election, Layout}
use Rattle.bus_tenure.specs.Elections.{Elector}
use Rattle.bus_world.specs.Trails.{answers_joined}
use Rattle.bus_machine.proofs.Bases.CyclicTurns.{words_many}
use Rattle.bus_machine.specs.Machine.{Machine, Trails, Joins, Forks, fork_in, log_place}
use Rattle.bus_machine.specs.Machine.{trails_joined}
use Rattle.bus_machine.specs.Promise.{HasRows}
use Rattle.bus_replay.specs.Answers.{seats_with, fork_seats, fork_trails}
use Rattle.bus_replay.specs.Histories.{Kept, HasAllOf, HasSizes, IsHistoryOf, given_of, no_given}
use Rattle.bus_replay.specs.Histories.{kept_forked, kept_by_fork}
use Rattle.bus_replay.specs.declared.histories.Given.{Given}

-- ---- what was answered, and which seats were taken
joined_here : (before : List RecvTurn) (j n : ℕ) (H : ℕ → List RecvTurn)
    → answers_joined before j n H j ≡ before
joined_here before j n H = elim (eqb_tells j j) [
  | inl h ↦ ap (λ (b : Bool). cond b before (cond (j == n) (H j) (H j))) h.0
  | inr h ↦ absurd (h.1 refl)
]

-- of a number that is neither that of the new receiver nor that of nobody
joined_beside : (before : List RecvTurn) (j n q : ℕ) (H : ℕ → List RecvTurn) → (q ≡ j → ⊥)
    → (q ≡ n → ⊥) → answers_joined before j n H q ≡ H q
joined_beside before j n q H other nobody = elim (eqb_tells q j) [
  | inl h ↦ absurd (other h.1)
  | inr h ↦
      ap (λ (b : Bool). cond b before (cond (q == n) (H j) (H q))) h.0
      ∙ (elim (eqb_tells q n) [
        | inl i ↦ absurd (nobody i.1)
        | inr i ↦ ap (λ (b : Bool). cond b (H j) (H q)) i.0
      ])
]

taken_here : (j : ℕ) (taken : ℕ → Bool) → seats_with j taken j ≡ true
taken_here j taken = elim (eqb_tells j j) [
  | inl h ↦ ap (λ (b : Bool). cond b true (taken j)) h.0
  | inr h ↦ absurd (h.1 refl)
]

taken_beside : (j q : ℕ) (taken : ℕ → Bool) → (q ≡ j → ⊥) → seats_with j taken q ≡ taken q
taken_beside j q taken other = elim (eqb_tells q j) [
  | inl h ↦ absurd (other h.1)
  | inr h ↦ ap (λ (b : Bool). cond b true (taken q)) h.0
]

-- ---- counts
-- the new receiver has its maker's, and each other seat what it had
forked_counts : (h : Kept) (receivers i j n : ℕ) (T : Trails) (taken : ℕ → Bool) → i < receivers
    → j < receivers → receivers ≤ n → HasAllOf h receivers T taken
    → HasAllOf (kept_forked i j h) receivers (trails_joined i j n T) (seats_with j taken)
forked_counts h receivers i j n T taken maker there past k = record {
  log = k.log;
  many = length-set h.given j more ∙ k.many;
  given = λ q lt. elim (cases_eq q j) [
    | inl e ↦
        subst (λ p. slice_get (slice_set h.given j more) p
        ≡ Some (given_of (seats_with j taken p) (answers_joined (T.heard i) j n T.heard p)))
        (sym e) here
    | inr ne ↦
        get_set_other h.given j more q ne ∙ k.given q lt
        ∙ ap (λ (b : Bool). Some (given_of b (T.heard q))) (sym (taken_beside j q taken ne))
        ∙ ap (λ (l : List RecvTurn). Some (given_of (seats_with j taken q) l))
        (sym (joined_beside (T.heard i) j n q T.heard ne (λ same. omega (arith, same))))
  ];
} where
  more : Given
  more = record (slice_index_or h.given i no_given) { taken = true }

  here :
      slice_get (slice_set h.given j more) j
      ≡ Some (given_of (seats_with j taken j) (answers_joined (T.heard i) j n T.heard j))
  here =
      let many = k.many in
      get_set_same h.given j more (omega arith)
      ∙ ap (λ (g : Given). Some (record g { taken = true }))
      (get_or_from_slice_get h.given i (given_of (taken i) (T.heard i)) no_given
      (k.given i maker))
      ∙ ap (λ (b : Bool). Some (given_of b (T.heard i))) (sym (taken_here j taken))
      ∙ ap (λ (l : List RecvTurn). Some (given_of (seats_with j taken j) l))
      (sym (joined_here (T.heard i) j n T.heard))

-- ---- the machine
module _ {E : Type 0} (old new : Machine E) (i j : ℕ) where
  pub fork_many : (did : Bool) → Forks old i j did new
      → length new.receivers ≡ length old.receivers
  fork_many true d =
      ap (λ (y : Machine E). length y.receivers) d.after
      ∙ length-set old.receivers j (fork_in old j d.maker)
  fork_many false d = ap (λ (y : Machine E). length y.receivers) d.after

  maker_low : (did : Bool) → Forks old i j did new → i < length old.receivers
  maker_low did d = slice_get_within old.receivers i d.maker d.there

  number_low : (did : Bool) → Forks old i j did new → j < length old.receivers
  number_low did d = slice_get_within old.receivers j d.last d.was

-- of the numbers past the receivers it concerns none but that of nobody
pub fork_quiet : {E : Type 0} (old new : Machine E) (i j n q : ℕ) (did : Bool) (T : Trails)
    → Forks old i j did new → length old.receivers ≤ q → (q ≡ n → ⊥)
    → (fork_trails i j n did T).heard q ≡ T.heard q
fork_quiet old new i j n q true T d past other =
    let low = number_low old new i j true d in
    joined_beside (T.heard i) j n q T.heard (λ same. omega (arith, same)) other
fork_quiet old new i j n q false T d past other = refl

module _ {S : Type 0} (X : Election (Elector S)) (P : Protocol S Bool Verdict)
    (old new : Machine (Elector S)) (i j : ℕ) where
  forked_sizes : (did : Bool) → Forks old i j did new → HasSizes P old → HasSizes P new
  forked_sizes did d z =
      let layout_is : new.layout ≡ old.layout =
      ap (λ (y : Machine (Elector S)). y.layout) d.after in
      let reuse_is : new.reuse ≡ old.reuse =
      ap (λ (y : Machine (Elector S)). y.reuse) d.after in
      record {
        senders = z.senders;
        rounds = z.rounds;
        rows = z.rows;
        capacity = z.capacity;
        passers = z.passers;
        batch = z.batch;
        layout = layout_is ∙ z.layout;
        served = z.served;
        some = subst (λ (x : Layout). 0 < x.capacity) (sym layout_is) z.some;
        reuse = subst HasRows (sym reuse_is) z.reuse;
        many =
            ap (λ (y : Machine (Elector S)). length y.senders) d.after ∙ z.many
            ∙ sym (ap (λ (x : Layout). x.senders) layout_is);
        words =
            ap (λ (y : Machine (Elector S)). length y.words) d.after
            ∙ words_many old.words (joining_op (fork_in old j d.maker)) ∙ z.words
            ∙ sym (ap (λ (x : Layout). log_place x old.reuse + x.capacity) layout_is)
            ∙ sym (ap (λ (o : Option ℕ). log_place new.layout o + new.layout.capacity) reuse_is);
      }

  -- the history has all of it, where that number was answered nothing
  pub fork_holds : (did : Bool) (h : Kept) (n : ℕ) (T : Trails) (taken : ℕ → Bool)
      → Forks old i j did new → (did ≡ false → new ≡ old) → IsHistoryOf X P old h T taken
      → length old.receivers ≤ n → T.heard n ≡ []
      → IsHistoryOf X P new (kept_by_fork i j did h) (fork_trails i j n did T)
      (fork_seats j did taken)
  fork_holds false h n T taken d stays k past silent =
      subst (λ m. IsHistoryOf X P m h T taken) (sym (stays refl)) k
  fork_holds true h n T taken d stays k past silent = record {
    reached = Joins old new T i j n k.reached d (slice_get_past old.receivers n past) silent;
    sizes = forked_sizes true d k.sizes;
    capacity =
        k.capacity
        ∙ sym (ap (λ (y : Machine (Elector S)). y.layout.capacity) d.after);
    remembers =
        subst (λ many. HasAllOf (kept_forked i j h) many (trails_joined i j n T)
        (seats_with j taken)) (sym (fork_many old new i j true d))
        (forked_counts h (length old.receivers) i j n T taken (maker_low old new i j true d)
        (number_low old new i j true d) past k.remembers);
  }
