-- What the calls of a sender say, as its process has it.
use Rattle.std.proofs.Common.{◌≡◌, inl, inr, ℕ, ◌+◌, Bool, true, false, Option, Some, None, IsSome}
use Rattle.std.proofs.Common.{List, ◌∷◌, refl, sym, ◌∙◌, ap}
use Rattle.std.specs.Prelude.{IsTrue, ◌↔◌, ◌⊎◌}
use Rattle.atomic_table.specs.Table.{rest}
use Rattle.bus_adoptcommit.specs.declared.verdicts.Verdict.{Verdict}
use Rattle.bus_batch.specs.Batches.{Pending, next_of}
use Rattle.bus_core.specs.Keeping.{queue_of, page_out, core_without}
use Rattle.bus_core.proofs.Plain.{plain_stays, plain_going, plain_due, plain_wordless}
use Rattle.bus_core.specs.Plain.{IsPlain}
use Rattle.bus_core.specs.Telling.{RestTells}
use Rattle.bus_tenure.specs.declared.turns.Turn.{Turn}
use Rattle.bus_core.specs.Senders.{Sender, log_start, words_all}
use Rattle.bus_tenure.specs.declared.turns.Turn.TheVariants as turn
use Rattle.bus_core.specs.Table.{line_now}
use Rattle.bus_core.specs.declared.reuses.Reuse.{Reuse}
use Rattle.bus_core.specs.Reusing.Turns.{queue_seen}
use Rattle.bus_machine.specs.Machine.{log_place, moved}
use Rattle.bus_machine.specs.Remembering.{rows_in}
use Rattle.bus_presence.specs.declared.pins.Pin.{Pin}
use Rattle.bus_presence.specs.declared.pins.Pin.TheVariants.{Away, Announcing, Validating, Pinned}
use Rattle.bus_presence.specs.declared.pins.Pin.TheVariants.{Unpinning, Invalidated}
use Rattle.bus_register.specs.Protocol.{Protocol}
use Rattle.bus_register.specs.declared.kinds.Kind.{Kind}
use Rattle.bus_register.specs.declared.registers.Op.{Op}
use Rattle.bus_tenure.specs.Core.{Election, Layout, is_closed, is_leaving}
use Rattle.bus_tenure.specs.Elections.{Elector, election_with}
use Rattle.bus_tenure.specs.Seen.{AwaitsItsPage}
use Rattle.bus_tenure.specs.Situations.{PageMove, Stays, Comes, Returns}
use Rattle.bus_tenure.specs.declared.pages.Page.{Page}
use Rattle.bus_tenure.specs.declared.phases.Phase.{Phase}
use Rattle.bus_tenure.specs.declared.phases.Phase.TheVariants as phase
use Rattle.bus_world.specs.Turning.{before_step, laying}
use Rattle.bus_automaton.specs.Buses.{process_with}
use Rattle.bus_automaton.specs.OneProcess.{is_taken}
use Rattle.bus_automaton.specs.Processes.{Process}
use Rattle.bus_pageslot.specs.Steps.{out_with}

-- ---- a batch that is on its way
-- what does not look at that is of it what it is of the batch
seen_same : {A : Type 0} (f : Pending → A) → ((q : Pending) → f (record q { busy = true }) ≡ f q)
    → (q : Pending) (pin : Pin)
    → f (queue_seen q pin) ≡ f q
seen_same f h q Away = refl
seen_same f h q (Announcing t) = h q
seen_same f h q (Validating t) = h q
seen_same f h q (Pinned t) = h q
seen_same f h q (Unpinning t) = h q
seen_same f h q (Invalidated t) = h q

pub queue_same : {A : Type 0} (f : Pending → A)
    → ((q : Pending) → f (record q { busy = true }) ≡ f q) → (q : Pending) (r : Option Reuse)
    → f (queue_of q r) ≡ f q
queue_same f h q None = refl
queue_same f h q (Some r) = seen_same f h q r.pin

-- ---- the page
-- the page that goes out of its hands is out with its seat, and none where none goes
pub given_out : (m : PageMove) (page : Page) (carried : List (ℕ × Option Page))
    → page_out m ≡ Some page
    → out_with m carried ≡ (0, Some page) ∷ rest carried
given_out Stays page carried e = absurd (let bad : None ≡ Some page = e in cc)
given_out (Comes t) page carried e = absurd (let bad : None ≡ Some page = e in cc)
given_out (Returns t reason own) page carried e = ap (λ o. (0, o) ∷ rest carried) e

pub nothing_out : (m : PageMove) (carried : List (ℕ × Option Page)) → page_out m ≡ None
    → out_with m carried ≡ carried
nothing_out Stays carried e = refl
nothing_out (Comes t) carried e = refl
nothing_out (Returns t reason own) carried e = absurd (let bad : Some own ≡ None = e in cc)

module _ {E : Type 0} where
  without_is : (v : Sender E) (m : PageMove)
      → record v { core = core_without m v.core } ≡ moved (before_step m) None v
  without_is v Stays = refl
  without_is v (Comes t) = refl
  without_is v (Returns t reason page) = refl

  taken_not : (ph : Phase E) (b : Bool) → ((t : ℕ) → ph ≡ phase.Taken t → ⊥)
      → IsTrue b ↔ AwaitsItsPage ph → b ≡ false
  taken_not ph true none h = absurd (let w = h.0 refl in none w.tenure w.is)
  taken_not ph false none h = refl

  awaited : (ph : Phase E) (b : Bool) → IsTrue b ↔ AwaitsItsPage ph → b ≡ is_taken ph
  awaited phase.Resting b h = taken_not phase.Resting b (λ t e. cc) h
  awaited (phase.Electing u e) b h = taken_not (phase.Electing u e) b (λ t i. cc) h
  awaited (phase.Taken t) b h = h.1 (record { tenure = t; is = refl })
  awaited (phase.Holding u page stored published) b h =
      taken_not (phase.Holding u page stored published) b (λ t e. cc) h
  awaited (phase.Giving u reason) b h = taken_not (phase.Giving u reason) b (λ t e. cc) h

  awaits_by : (ph : Phase E) → is_taken ph ≡ true → AwaitsItsPage ph
  awaits_by (phase.Taken t) e = record { tenure = t; is = refl }
  awaits_by phase.Resting e = absurd cc
  awaits_by (phase.Electing u f) e = absurd cc
  awaits_by (phase.Holding u page stored published) e = absurd cc
  awaits_by (phase.Giving u reason) e = absurd cc

  -- the page is laid before it
  abbrev Lays : Sender E → Page → Sender E → Type 0
  Lays v page new =
      (t : ℕ) → v.core.phase ≡ phase.Taken t
      → new ≡ record v { core = record v.core { phase = phase.Holding t page 0 false } }

  laid_by : (v : Sender E) (page : Page) (new : Sender E) → Lays v page new
      → AwaitsItsPage v.core.phase
      → new ≡ moved (laying v.core.phase) (Some page) v
  laid_by v page new h w = h w.tenure w.is ∙ sym (ap (λ ph. moved (laying ph) (Some page) v) w.is)

-- ---- the words
start_same : (x : Layout) (r : Option Reuse) → log_start x r ≡ log_place x (rows_in r)
start_same x None = refl
start_same x (Some r) = refl

module _ {S : Type 0} (kind_of : S → Option Kind) (op : S → ℕ → Option Op) (fed : S → ℕ → ℕ → S)
    (Q : Protocol S Bool Verdict)
    (v : Sender (Elector S)) where
  abbrev X : Election (Elector S)
  X = election_with kind_of op fed Q

  abbrev P : Process (Sender (Elector S))
  P = process_with kind_of op fed Q

  pub limit_is : (P.queue v).limit ≡ v.core.queue.limit
  unfolding process_with
  limit_is = queue_same (λ q. q.limit) (λ q. refl) v.core.queue v.reuse

  pub next_is : next_of (P.queue v) ≡ next_of v.core.queue
  unfolding process_with
  next_is = queue_same next_of (λ q. refl) v.core.queue v.reuse

  pub closed_is : is_closed (P.queue v).phase ≡ is_closed v.core.queue.phase
  unfolding process_with
  closed_is = queue_same (λ q. is_closed q.phase) (λ q. refl) v.core.queue v.reuse

  pub leaving_is : is_leaving (P.queue v).phase ≡ is_leaving v.core.queue.phase
  unfolding process_with
  leaving_is = queue_same (λ q. is_leaving q.phase) (λ q. refl) v.core.queue v.reuse

  pub messages_are : (P.queue v).messages ≡ v.core.queue.messages
  unfolding process_with
  messages_are = queue_same (λ q. q.messages) (λ q. refl) v.core.queue v.reuse

  pub words_are : words_all v ≡ (P.table_layout v).words
  unfolding process_with
  words_are = ap (λ at. at + v.core.layout.capacity) (start_same v.core.layout v.reuse)

  pub given_is : (page : Option Page) → page ≡ page_out (line_now X v).move
      → page ≡ page_out (P.move v)
  unfolding process_with
  given_is page is = is

  pub handed_is : (new : Sender (Elector S))
      → new ≡ record v { core = core_without (line_now X v).move v.core } → new ≡ P.handed v
  unfolding process_with
  handed_is new is = is ∙ without_is v (line_now X v).move

  pub awaits_is : (b : Bool) → IsTrue b ↔ AwaitsItsPage v.core.phase → b ≡ P.awaits v
  unfolding process_with
  awaits_is b h = awaited v.core.phase b h

  pub laid_is : (page : Page) (new : Sender (Elector S)) → P.awaits v ≡ true → Lays v page new
      → new ≡ P.laid v page
  unfolding process_with
  laid_is page new e h = laid_by v page new h (awaits_by v.core.phase e)

  -- ---- a plain store
  pub plain_moves : IsPlain X v → P.move v ≡ Stays
  unfolding process_with
  plain_moves plain = plain_stays X v plain

  pub plain_handed : IsPlain X v → v ≡ P.handed v
  unfolding process_with
  plain_handed plain = ap (λ m. moved (before_step m) None v) (sym (plain_stays X v plain))

  pub plain_answer : IsPlain X v → (got word : ℕ) → turn.Going ≡ P.answer v got word
  unfolding process_with
  plain_answer plain got word = sym (plain_going X v plain got word)

  pub plain_op : IsPlain X v → (word : ℕ) → IsSome (P.op v word)
  unfolding process_with
  plain_op plain word = plain_due X v plain word

  pub plain_draws_none : IsPlain X v → P.wants_word v ≡ false
  unfolding process_with
  plain_draws_none plain = plain_wordless X v plain

  -- ---- an answer where no step is due
  pub rest_is_told : (a : Turn) → (a ≡ turn.Going) ⊎ RestTells v a → (a ≡ turn.Going → ⊥)
      → RestTells v a
  rest_is_told a (inl going) not = absurd (not going)
  rest_is_told a (inr tells) not = tells
