-- Whatever a receiver does keeps all that is kept: it loads a word, or stores in its passed place a
-- number no less than what stood there, where a frame begins or past all words.
use Rattle.std.proofs.Common.{◌≡◌, ◌⊎◌, inl, ℕ, ◌<◌, ◌≤◌, Bool, true, false, cond, Option, Some}
use Rattle.std.proofs.Common.{None, List, inr, length, is_some, arith, refl, sym, ◌∙◌, ap, subst}
use Rattle.std.proofs.lemmas.Bool.{true≢false}
use Rattle.std.proofs.lemmas.Option.{same_Some}
use Rattle.std.proofs.lemmas.Grind.{common_steps}
use Rattle.bus_presence.specs.Reclamation.{ReclamationSizes, Trails}
use Rattle.bus_presence.proofs.ReclamationKept.{lt_tells}
use Rattle.bus_register.specs.declared.kinds.Kind.TheVariants as kind
use Rattle.bus_register.specs.declared.registers.Op.{Op}
use Rattle.bus_register.specs.declared.registers.Op.TheVariants.{Store}
use Rattle.bus_register.specs.Protocol.{Protocol, Laws}
use Rattle.bus_batch.specs.Frames.{Frame, log_words}
use Rattle.bus_deliverylog.specs.declared.receiving.RecvTurn.{RecvTurn}
use Rattle.bus_ownerbits.specs.OneOwner.{OneOwner}
use Rattle.bus_tenure.specs.Core.{Election, Layout}
use Rattle.bus_world.specs.World.{IsLayout, RecvStep, RecvDoes, recv_found}
use Rattle.bus_core.specs.Reusing.Participants.{sizes_with}
use Rattle.bus_world.specs.Private.CyclicProtocols.{CyclicProtocol, protocol_heard}
use Rattle.bus_world.specs.Headline.{Action}
use Rattle.bus_world.proofs.CyclicProtocolKept as kept
use Rattle.bus_batch.specs.Reading.{is_between}
use Rattle.bus_deliverylog.specs.Receiving.{Receiving, passing_due, load_op, op_by, receiving_op}
use Rattle.bus_deliverylog.specs.Receiving.{leaving_by, leaving_op, with_leave}
use Rattle.bus_deliverylog.proofs.ReceiveLaws.{due_at}
use Rattle.bus_register.specs.declared.limits.TheConstants.{PLACES, PASSED_ALL}
use Rattle.bus_register.specs.Tables.{put}
use Rattle.bus_register.specs.Private.TableLaws.{put_here, put_beside}
use Rattle.bus_presence.specs.Reclamation.{Stores, Then}
use Rattle.bus_world.proofs.CyclicProtocolHears.{AllHear}
use Rattle.bus_world.proofs.Bounds.{words_low}
use Rattle.bus_world.proofs.FloorLaws.{floors_heard, floors_stored, place_begins, shown_low}
use Rattle.bus_world.proofs.LogLaws.{length-logged}
use Rattle.bus_world.proofs.ReceiverSteps.{load_stays, due_between}
use Rattle.bus_world.proofs.WorldLaws.{place_rises}
use Rattle.bus_world.proofs.RingWords.{laid_passed}
use Rattle.bus_world.specs.Floors.{IsBoundary, IsPasser, passed_place}

module _ {E : Type 0} (X : Election E) (P : Protocol E (Unit {0}) ℕ)
    (laws : Laws X.op X.fed P OneOwner) (x : Layout) (ok : IsLayout x)
    (width : x.width ≡ P.width x.senders)
    (starts : (n me at : ℕ) → X.started n me x.rounds at ≡ P.started n me tt at)
    (owner_is : (e : E) → X.owner e ≡ P.output e)
    (named : (e : E) (word : ℕ) → is_some (X.kind_of e) ≡ is_some (X.op e word))
    (announces : (e : E) → P.has_begun e ≡ false → X.kind_of e ≡ Some kind.Announce)
    (apart : (e : E) → X.kind_of e ≡ Some kind.TakePage → ⊥)
    (rows : ℕ) (two : 2 ≤ rows) where
  abbrev z : ReclamationSizes
  z = sizes_with x rows

  abbrev Kept : (ℕ → List RecvTurn) → CyclicProtocol E → Trails → (ℕ → List Action) → List ℕ
      → (ℕ → ℕ) → List Frame → Type 0
  Kept = kept.Kept X P laws x ok width starts owner_is named announces apart rows two

  abbrev HasKept : (ℕ → List RecvTurn) → CyclicProtocol E → Trails → (ℕ → List Action)
      → List ℕ → Type 0
  HasKept = kept.HasKept X P laws x ok width starts owner_is named announces apart rows two

  -- with what all hear then
  module _ (H H' : ℕ → List RecvTurn) (y : CyclicProtocol E) (T : Trails) (D : ℕ → List Action)
      (L : List ℕ) (V : ℕ → ℕ) (frames : List Frame) (k : Kept H y T D L V frames) (r : ℕ)
      (v : Receiving) (at : y.receivers r ≡ Some v) where
    abbrev HasHeard : Option Op → Receiving → Type 0
    HasHeard o next = HasKept H' (protocol_heard y r o next) T D L

    abbrev AllHearOf : Receiving → Type 0
    AllHearOf next = AllHear x rows (put r (Some next) y.receivers) frames H'

    its : IsPasser x rows y.reclamation.words k.floor r v
    its = k.floors.each r v at

    -- it stores nothing
    stays_kept : (next : Receiving) → IsPasser x rows y.reclamation.words k.floor r next
        → AllHearOf next → HasHeard None next
    stays_kept next own hears = record {
      V = V;
      frames = frames;
      kept = record {
        hears = hears;
        reached = k.reached;
        sending = k.sending;
        log_is = k.log_is;
        W = k.W;
        floor = k.floor;
        stored = k.stored;
        floors = floors_heard x rows y.reclamation.words y.passing y.receivers frames (V 0) k.floor
            k.floors r v at next own;
        laid = k.laid;
        ties = k.ties;
        notes = k.notes;
        participants = k.participants;
        ready = k.ready;
      };
    }

    -- it stores this number in its passed place
    abbrev passed_op : ℕ → Op
    passed_op n = Store record { 0 = passed_place x rows r } n

    abbrev shown_now : ℕ → ℕ → ℕ
    shown_now n = put (passed_place x rows r) n y.reclamation.words

    shows_kept : r < x.passers → (n : ℕ) (next : Receiving)
        → y.reclamation.words (passed_place x rows r) ≤ n
        → IsBoundary frames n ⊎ (n ≡ PASSED_ALL) → IsPasser x rows (shown_now n) k.floor r next
        → AllHearOf next → HasHeard (Some (passed_op n)) next
    shows_kept low n next higher edge own hears = record {
      V = V;
      frames = frames;
      kept = record {
        hears = hears;
        reached = Then y.reclamation (record y.reclamation { words = shown_now n }) T T k.reached
            (Stores y.reclamation T (passed_place x rows r) n (inr (omega arith)));
        sending = k.sending;
        log_is = k.log_is;
        W = k.W;
        floor = k.floor;
        stored = k.stored;
        floors = floors_stored x rows y.reclamation.words y.passing y.receivers frames (V 0)
            k.floor k.floors r v at n next higher edge own;
        laid = laid_passed x rows y.reclamation V k.W k.laid r n low two;
        ties = k.ties;
        notes = k.notes;
        participants = k.participants;
        ready = λ t held none. k.ready t
            (sym (put_beside (passed_place x rows r) n y.reclamation.words 1 (λ i. omega arith))
            ∙ held) none;
      };
    }

    -- ---- a turn
    module _ (stays : v.gone ≡ false) (answer : RecvTurn) (next : Receiving)
        (hears : AllHearOf next) where
      -- it has heard a whole frame, and stores its place
      passes_kept : r < x.passers → is_between v.frames.place ≡ true
          → next ≡ record v { passed = v.place } → HasHeard (Some (passed_op v.place)) next
      passes_kept low is now =
          let past = its.past in
          let behind = its.behind stays in
          let shows = its.shows stays low in
          shows_kept low v.place next (omega arith)
          (inl (place_begins x.senders frames (length (log_words frames)) v.place v.known v.frames
          (k.hears.each r v at).own.receives k.sending.log.lawful refl is))
          (subst (IsPasser x rows (shown_now v.place) k.floor r) (sym now) record {
            at = its.at;
            many = its.many;
            past = omega arith;
            behind = λ s. omega arith;
            shows = λ s l. put_here (passed_place x rows r) v.place y.reclamation.words;
            left = λ s l. absurd (true≢false (sym s ∙ stays));
          }) hears

      -- it loads a word
      loads_kept : passing_due v ≡ None
          → RecvStep v (recv_found y.reclamation.words v) answer next
          → HasHeard (Some (load_op v)) next
      loads_kept none step =
          let own = (k.hears.each r v at).own in
          let rises = place_rises x.senders frames (length (log_words frames))
          k.sending.log.lawful refl v own.senders own.receives
          (recv_found y.reclamation.words v) answer next step in
          let passed = ap (λ (w : Receiving). w.passed) (step.registers none) in
          let past = its.past in
          subst (λ w. HasKept H' (record y {
            reclamation = record y.reclamation { words = w };
            receivers = put r (Some next) y.receivers;
          }) T D L) (sym (load_stays y.reclamation.words v))
          (stays_kept next record {
            at = step.keeps.3 ∙ its.at;
            many = its.many;
            past = omega arith;
            behind = λ s. subst (λ n. k.floor ≤ n) (sym passed)
                (its.behind (sym step.keeps.4 ∙ s));
            shows = λ s l. its.shows (sym step.keeps.4 ∙ s) l ∙ sym passed;
            left = λ s l. its.left (sym step.keeps.4 ∙ s) l;
          } hears)

      pub turn_kept : RecvDoes y.reclamation.words v answer next → HasHeard (receiving_op v) next
      turn_kept does = by_end v.ended refl
        where
          -- a store that is due is on its own passed place
          by_place : RecvStep v (recv_found y.reclamation.words v) answer next → (place : ℕ)
              → passing_due v ≡ Some place → HasHeard (Some (op_by (Some place) v)) next
          by_place step place due =
              grind (arith, common_steps, lt_tells, same_Some, due_at, passes_kept, due_between)

          by_due : RecvStep v (recv_found y.reclamation.words v) answer next → (d : Option ℕ)
              → passing_due v ≡ d → HasHeard (Some (op_by d v)) next
          by_due step None none = loads_kept none step
          by_due step (Some place) due = by_place step place due

          by_end : (b : Bool) → v.ended ≡ b
              → HasHeard (cond b None (Some (op_by (passing_due v) v))) next
          by_end true e = grind (arith, common_steps, stays_kept, its)
          by_end false e = by_due (does.going e) (passing_due v) refl

    -- ---- it leaves for good, and what it shows is past all words
    pub leave_kept : AllHearOf (with_leave v) → HasHeard (leaving_op v) (with_leave v)
    leave_kept hears = elim (lt_tells r x.passers) [
      | inl low ↦ subst (λ o. HasHeard (leaving_by o) (with_leave v))
          (sym (its.at
          ∙ ap (λ b. cond {A = Option ℕ} b (Some (passed_place x rows r)) None) low.0))
          (shows_kept low.1 PASSED_ALL (with_leave v)
          (shown_low x rows y.reclamation.words y.passing y.receivers frames (V 0) k.floor k.floors
          (length-logged k.sending.log) few r low.1) (inr refl) record {
            at = its.at;
            many = its.many;
            past = its.past;
            behind = λ s. absurd (true≢false s);
            shows = λ s l. absurd (true≢false s);
            left = λ s l. put_here (passed_place x rows r) PASSED_ALL y.reclamation.words;
          } hears)
      | inr past ↦ grind (arith, common_steps, its, stays_kept, true≢false)
    ] where
      few : V 0 < PLACES
      few =
          let size = length-logged k.sending.log in
          let low = words_low x.senders frames k.sending.log.lawful in omega arith
