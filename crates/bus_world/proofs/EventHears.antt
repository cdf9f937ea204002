-- Every event keeps what ties the trails to the receivers, and so does a receiver that is copied to
-- another number.
use Rattle.std.proofs.Common.{◌≡◌, ℕ, ◌≤◌, ◌<◌, cond, ◌==◌, Option, Some, None, inl, inr, List}
use Rattle.std.proofs.Common.{[], ◌∷◌, ◌++◌, length, slice_get, slice_index, slice_set, arith, refl}
use Rattle.std.proofs.Common.{sym, ◌∙◌, ap, subst}
use Rattle.std.proofs.lemmas.Bool.Decides.{eqb_tells}
use Rattle.std.proofs.lemmas.List.{append-nil}
use Rattle.std.proofs.lemmas.Option.{same_Some, slice_get_within, none-some}
use Rattle.std.proofs.lemmas.Grind.{common_steps}
use Rattle.bus_register.specs.Protocol.{Protocol}
use Rattle.bus_register.specs.Private.TableLaws.{get_set_same, get_set_other}
use Rattle.bus_batch.specs.Frames.{Frame, log_words}
use Rattle.bus_deliverylog.specs.Receiving.{Receiving, with_leave}
use Rattle.bus_deliverylog.specs.declared.receiving.RecvTurn.{RecvTurn}
use Rattle.bus_tenure.specs.Core.{Election, Layout}
use Rattle.bus_world.specs.World.{Event, Put, Ask, Turn, Recv, Stop, Gone}
use Rattle.bus_world.specs.Trails.{answers_joined}
use Rattle.bus_world.specs.declared.events.Answer.{Answer}
use Rattle.bus_world.specs.Private.Answers.{Answers, RecvAnswers}
use Rattle.bus_world.specs.Private.Invariants.{LawfulBus}
use Rattle.bus_world.specs.Private.Machines.{Bus, Happens, LeaverDoes}
use Rattle.bus_world.specs.Private.Trails.{heard_of, answer_heard}
use Rattle.bus_world.proofs.HearTrails.{hears_later, hears_more, hears_left, told_later}
use Rattle.bus_world.proofs.HearTrails.{each_joined, silent_joined}
use Rattle.bus_world.proofs.LogLaws.{length-logged}
use Rattle.bus_world.proofs.Tying.{Hears, WasTold}
use Rattle.bus_world.proofs.WorldLaws.{found_flat, set_each}

-- each has heard what stands below its place, and where there is none nothing is heard, or what was
-- told of one that was there
pub record Heard (frames : List Frame) (receivers : List Receiving) (A : ℕ → List RecvTurn) :
    Type 0 where
  pub each : (r : ℕ) (v : Receiving) → slice_get receivers r ≡ Some v → Hears frames v (A r)
  pub silent : (r : ℕ) → slice_get receivers r ≡ None → WasTold frames (A r)

module _ (bases : List ℕ) {E : Type 0} (X : Election E) (P : Protocol E (Unit {0}) ℕ) (x : Layout)
    (flat : x.passers ≡ 0) where
  module _ (b b' : Bus E) (frames more : List Frame)
      (h : LawfulBus (slice_index bases) P x b frames) (A : ℕ → List RecvTurn)
      (H : Heard frames b.receivers A) where
    below : (r : ℕ) (v : Receiving) → slice_get b.receivers r ≡ Some v
        → v.place ≤ length (log_words frames)
    below r v i =
        let own = (h.keeps.receiving r v i).receives in
        let log = h.keeps.sending.log in
        let size = length-logged log in
        let a = own.place_below in let d = own.known_below in omega arith

    -- who is none hears nothing more
    silent_on : (r : ℕ) → slice_get b.receivers r ≡ None → WasTold (frames ++ more) (A r ++ [])
    silent_on r none = subst (WasTold (frames ++ more)) (sym (append-nil (A r)))
        (told_later frames more (A r) (H.silent r none))

    nobody_hears : b'.receivers ≡ b.receivers → Heard (frames ++ more) b'.receivers (λ r. A r ++ [])
    nobody_hears same = record {
      each = λ r v i.
          let was = ap (λ z. slice_get z r) (sym same) ∙ i in
          subst (Hears (frames ++ more) v) (sym (append-nil (A r)))
          (hears_later frames more v (A r) (below r v was) (H.each r v was));
      silent = λ r i. silent_on r (ap (λ z. slice_get z r) (sym same) ∙ i);
    }

    -- one that leaves hears nothing more, and what it heard stays
    leaver_hears : (q : ℕ) (o : Option Receiving) → slice_get b.receivers q ≡ o
        → LeaverDoes b.receivers q o b'.receivers
        → Heard (frames ++ more) b'.receivers (λ r. A r ++ [])
    leaver_hears q None i d = nobody_hears d
    leaver_hears q (Some v) i d = record {
      each = λ r u j. set_each b.receivers q v (with_leave v) i
          (λ n w. Hears (frames ++ more) w (A n ++ [])) later
          (hears_left (frames ++ more) v (A q ++ []) (later q v i)) r u
          (ap (λ z. slice_get z r) (sym d) ∙ j);
      silent = λ r j. elim (eqb_tells r q) [
        | inl y ↦ grind (arith, common_steps, none-some, slice_get, get_set_same, slice_get_within)
        | inr y ↦ silent_on r (sym (get_set_other b.receivers q (with_leave v) r y.1)
            ∙ ap (λ z. slice_get z r) (sym d) ∙ j)
      ];
    } where
      later : (r : ℕ) (w : Receiving) → slice_get b.receivers r ≡ Some w
          → Hears (frames ++ more) w (A r ++ [])
      later r w j = subst (Hears (frames ++ more) w) (sym (append-nil (A r)))
          (hears_later frames more w (A r) (below r w j) (H.each r w j))

    one_hears : b'.side ≡ b.side → (lawful : LawfulBus (slice_index bases) P x b' (frames ++ more))
        → (q : ℕ) (o : Option Receiving) → slice_get b.receivers q ≡ o → (a : Answer)
        → RecvAnswers b.side.words b.receivers q o a b'.receivers
        → Heard (frames ++ more) b'.receivers (λ r. A r ++ cond (r == q) (answer_heard a) [])
    one_hears side lawful q None i a w = absurd w
    one_hears side lawful q (Some v) i a w = subst
        (λ z. Heard (frames ++ more) b'.receivers (λ r. A r ++ cond (r == q) (answer_heard z) []))
        (sym w.4) record {
          each = λ r u j. elim (eqb_tells r q) [
            | inl y ↦
                let u_is : w.0 ≡ u = same_Some _ _
                (sym (get_set_same b.receivers q w.0 there) ∙ ap (λ z. slice_get z q) (sym w.3)
                ∙ ap (slice_get b'.receivers) (sym y.1) ∙ j) in
                subst (λ t. Hears (frames ++ more) u (A r ++ cond t (w.1 ∷ []) [])) (sym y.0)
                (subst (λ z. Hears (frames ++ more) u (A z ++ w.1 ∷ [])) (sym y.1)
                (subst (λ z. Hears (frames ++ more) z (A q ++ w.1 ∷ [])) u_is
                (hears_later frames more w.0 (A q ++ w.1 ∷ [])
                (next_below (subst (λ z. slice_get b'.receivers q ≡ Some z) refl
                (ap (λ z. slice_get z q) w.3 ∙ get_set_same b.receivers q w.0 there)))
                (hears_more x.senders frames (slice_index b.side.words 0)
                h.keeps.sending.log.lawful (length-logged h.keeps.sending.log) v
                (h.keeps.receiving q v i).senders (h.keeps.receiving q v i).receives (A q)
                (H.each q v i) w.1 w.0 (slice_index b.side.words)
                (found_flat x flat frames (slice_index b.side.words) h.keeps.sending.log v
                (h.keeps.receiving q v i)) w.2))))
            | inr y ↦
                let was =
                sym (get_set_other b.receivers q w.0 r y.1) ∙ ap (λ z. slice_get z r) (sym w.3)
                ∙ j in
                subst (λ t. Hears (frames ++ more) u (A r ++ cond t (w.1 ∷ []) [])) (sym y.0)
                (subst (Hears (frames ++ more) u) (sym (append-nil (A r)))
                (hears_later frames more u (A r) (below r u was) (H.each r u was)))
          ];
          silent = λ r j. elim (eqb_tells r q) [
            | inl y ↦ absurd (none-some w.0 (sym j ∙ ap (slice_get b'.receivers) y.1
                ∙ ap (λ z. slice_get z q) w.3 ∙ get_set_same b.receivers q w.0 there))
            | inr y ↦ subst (λ t. WasTold (frames ++ more) (A r ++ cond t (w.1 ∷ []) [])) (sym y.0)
                (silent_on r (sym (get_set_other b.receivers q w.0 r y.1)
                ∙ ap (λ z. slice_get z r) (sym w.3) ∙ j))
          ];
        } where
          there : q < length b.receivers
          there = slice_get_within b.receivers q v i

          -- a receiver takes no place past the length that it knew
          next_below : slice_get b'.receivers q ≡ Some w.0 → w.0.place ≤ length (log_words frames)
          next_below j =
              let own = (lawful.keeps.receiving q w.0 j).receives in
              let log = h.keeps.sending.log in
              let size = length-logged log in
              grind (arith, common_steps, slice_index)

    pub event_heard : LawfulBus (slice_index bases) P x b' (frames ++ more)
        → (e : Event) (a : Answer) → Happens X b e b' → Answers X b e a b'
        → Heard (frames ++ more) b'.receivers (λ r. A r ++ heard_of e a r)
    event_heard lawful (Put s bytes) a d w = nobody_hears d.1
    event_heard lawful (Ask s m) a d w = nobody_hears d.1
    event_heard lawful (Turn s word) a d w = nobody_hears d.1
    event_heard lawful (Recv r) a d w = one_hears d.0 lawful r (slice_get b.receivers r) refl a w
    event_heard lawful (Stop s) a d w = nobody_hears d.1
    event_heard lawful (Gone r) a d w = leaver_hears r (slice_get b.receivers r) refl d.1

  -- a receiver is copied to the number j of another
  module _ (b : Bus E) (frames : List Frame) (h : LawfulBus (slice_index bases) P x b frames)
      (A : ℕ → List RecvTurn) (H : Heard frames b.receivers A) (i j n : ℕ) (v w : Receiving)
      (from : slice_get b.receivers i ≡ Some v) (was : slice_get b.receivers j ≡ Some w)
      (nobody : slice_get b.receivers n ≡ None) where
    here : slice_get (slice_set b.receivers j v) j ≡ Some v
    here = get_set_same b.receivers j v (slice_get_within b.receivers j w was)

    pub copied_heard : Heard frames (slice_set b.receivers j v) (answers_joined (A i) j n A)
    copied_heard = record {
      each = each_joined (Hears frames) (WasTold frames) (slice_get b.receivers)
          (slice_get (slice_set b.receivers j v)) A H.each H.silent j n v here
          (get_set_other b.receivers j v) nobody (A i) (H.each i v from);
      silent = silent_joined (Hears frames) (WasTold frames) (slice_get b.receivers)
          (slice_get (slice_set b.receivers j v)) A H.each H.silent j n v here
          (get_set_other b.receivers j v) nobody (A i)
          (inr (w, below b b frames [] h A H j w was, H.each j w was));
    }
