-- What senders have noted stays true: what each has put, how its messages were numbered, and who
-- asked for a mark.
use Rattle.std.proofs.Common.{◌+◌, ◌≡◌, ◌≢◌, ℕ, true, nat_lt, nat_le, Option, Some, None, inl, inr}
use Rattle.std.proofs.Common.{List, [], ◌∷◌, ◌++◌, length, map, slice_get, arith, refl, sym, ◌∙◌}
use Rattle.std.proofs.Common.{ap, subst}
use Rattle.std.proofs.lemmas.Bool.{and_parts, cases_eq}
use Rattle.std.proofs.lemmas.Bool.Decides.{eqb_tells}
use Rattle.std.proofs.lemmas.Grind.{flat_map-append, common_steps}
use Rattle.std.proofs.lemmas.List.{append-nil, append_assoc, length-append}
use Rattle.bus_register.specs.Tables.{Beside, put}
use Rattle.bus_register.specs.Private.TableLaws.{put_here, put_beside}
use Rattle.bus_batch.specs.declared.batches.Phase.TheVariants.{Marking}
use Rattle.bus_batch.specs.declared.messages.Mark.{Mark}
use Rattle.bus_batch.specs.declared.messages.Item.{Item}
use Rattle.bus_batch.specs.Batches.{Pending, next_of}
use Rattle.bus_batch.specs.Frames.{Frame, Marked, order_of}
use Rattle.bus_deliverylog.specs.Orders.{of_sender}
use Rattle.bus_tenure.specs.Core.{Core}
use Rattle.bus_tenure.specs.declared.phases.Phase.TheVariants as phase
use Rattle.bus_world.specs.Private.Sending.{Fits}
use Rattle.bus_world.specs.Headline.{Action, HasPut, HasMarked, Asked, put_of, puts}
use Rattle.bus_world.specs.Log.{next_number}
use Rattle.bus_world.proofs.Waiting.{waiting_at, waiting_of}
use Rattle.bus_world.specs.Private.Machines.{can_put, can_close}
use Rattle.bus_world.specs.Trails.{actions_with, step_action}
use Rattle.bus_world.proofs.Accepting.{idle_rests, not_busy}
use Rattle.bus_world.proofs.Asking.{Askings, askings_on, one_waits, frames_later, own_asked}
use Rattle.bus_world.proofs.Asking.{own_asks}
use Rattle.bus_world.proofs.EventTrails.{numbered_more, same_number, marked_apart, stepped_apart}
use Rattle.bus_tenure.specs.declared.turns.Turn.{Turn as Answered}
use Rattle.bus_register.specs.declared.kinds.Kind.{Kind}
use Rattle.bus_world.proofs.Tying.{AreNumbered}
use Rattle.bus_world.proofs.Places.{none_in, only_one}

abbrev pub sent_by : List Frame → ℕ → List (List ℕ)
sent_by frames q = map (λ (i : Item). i.message) (of_sender q (order_of frames))

pub record IsNoted {E : Type 0} (base : ℕ → ℕ) (senders : ℕ → Option (Core E)) (frames : List Frame)
    (D : ℕ → List Action) : Type 0 where
  -- what a sender has put: its messages in the order, and those that wait
  pub put : (s : ℕ) → puts (D s) ≡ sent_by frames s ++ waiting_of (senders s)
  pub counted : (s : ℕ) → AreNumbered (base s) (D s)
  pub askings : Askings senders frames D

length_mapped : (xs : List Item) → length (map (λ (i : Item). i.message) xs) ≡ length xs
length_mapped [] = refl
length_mapped (x ∷ xs) = let a = length_mapped xs in omega arith

-- actions among which nothing is put
pub record PutsNothing (ds : List Action) : Type 0 where
  pub none : puts ds ≡ []
  pub never : (j n : ℕ) (bytes : List ℕ) → slice_get ds j ≡ Some (HasPut n bytes) → ⊥

module _ {base : ℕ → ℕ} {E : Type 0} (senders : ℕ → Option (Core E)) (frames : List Frame)
    (D : ℕ → List Action) (n : IsNoted base senders frames D) (p : ℕ) (c : Core E)
    (old : senders p ≡ Some c) where
  -- of the others nothing is noted
  noted_other : (ds : List Action) (q : ℕ) → q ≢ p → actions_with p ds D q ≡ D q
  noted_other ds q ne = grind (arith, common_steps, eqb_tells, append-nil)

  noted_own : (ds : List Action) (q : ℕ) → q ≡ p → actions_with p ds D q ≡ D q ++ ds
  noted_own ds q e = grind (arith, common_steps, eqb_tells)

  -- a turn: messages go from a batch into the order
  pub noted_turn : (senders' : ℕ → Option (Core E)) → Beside p senders senders' → (c' : Core E)
      → senders' p ≡ Some c' → (frames' : List Frame) (ds : List Action) → PutsNothing ds
      → ((q : ℕ)
      → sent_by frames' q ++ waiting_of (senders' q) ≡ sent_by frames q ++ waiting_of (senders q))
      → ((m : Mark) → c'.queue.phase ≡ Marking m → c.queue.phase ≡ Marking m)
      → ((i : ℕ) (f : Frame) (m : Mark) → slice_get frames' i ≡ Some f → f.body ≡ Marked m
      → Asked m (actions_with p ds D f.owner.0))
      → IsNoted base senders' frames' (actions_with p ds D)
  noted_turn senders' beside c' new frames' ds nothing waits marking says = record {
    put = λ q.
        grind (arith, common_steps, cases_eq, noted_own, flat_map-append, append-nil, noted_other);
    counted = λ q. elim (cases_eq q p) [
      | inl e ↦ subst (AreNumbered (base q)) (sym (noted_own ds q e))
          (numbered_more (base q) (D q) ds (n.counted q)
          (λ j m bytes at. absurd (nothing.never j m bytes at)))
      | inr ne ↦ subst (AreNumbered (base q)) (sym (noted_other ds q ne)) (n.counted q)
    ];
    askings = askings_on senders frames D n.askings p c old ds senders' beside c' new frames'
        (λ m e. own_asked senders frames D n.askings p c old ds m (marking m e)) says;
  }

  -- where the frames stay
  pub noted_over : (senders' : ℕ → Option (Core E)) → Beside p senders senders' → (c' : Core E)
      → senders' p ≡ Some c' → (ds : List Action) → PutsNothing ds
      → waiting_of (Some c') ≡ waiting_of (Some c)
      → ((m : Mark) → c'.queue.phase ≡ Marking m → c.queue.phase ≡ Marking m)
      → IsNoted base senders' frames (actions_with p ds D)
  noted_over senders' beside c' new ds nothing waits marking =
      noted_turn senders' beside c' new frames ds nothing (λ q. elim (cases_eq q p) [
        | inl e ↦ grind (arith, common_steps, waiting_of)
        | inr ne ↦ ap (λ z. sent_by frames q ++ waiting_of z) (beside q ne)
      ]) marking (frames_later senders frames D n.askings p c old ds)

  -- ---- what it accepts
  module _ (words : ℕ → ℕ) (fits : Fits base words frames c c.phase) (me : c.me ≡ p) where
    abbrev with_batch : Pending → ℕ → Option (Core E)
    with_batch q = put p (Some (record c { queue = q })) senders

    pub noted_put : (bytes : List ℕ) → can_put c.queue (length bytes) ≡ true
        → IsNoted base (with_batch (record c.queue { messages = c.queue.messages ++ bytes ∷ [] }))
        frames (actions_with p (HasPut (next_of c.queue) bytes ∷ []) D)
    noted_put bytes can = record {
      put = λ q. elim (cases_eq q p) [
        | inl e ↦
            ap puts (noted_own ds q e) ∙ flat_map-append put_of (D q) ds
            ∙ ap (λ z. z ++ bytes ∷ []) (n.put q)
            ∙ append_assoc (sent_by frames q) (waiting_of (senders q)) (bytes ∷ [])
            ∙ ap (λ z. sent_by frames q ++ (waiting_of z ++ bytes ∷ [])) (ap senders e ∙ old)
            ∙ ap (λ z. sent_by frames q ++ (z ++ bytes ∷ [])) before
            ∙ sym (ap (λ z. sent_by frames q ++ z) after)
            ∙ sym
            (ap (λ z. sent_by frames q ++ waiting_of z) (ap later e ∙ put_here p (Some c') senders))
        | inr ne ↦ grind (arith, common_steps, noted_other, ds, waiting_of, put_beside, c')
      ];
      counted = λ q. elim (cases_eq q p) [
        | inl e ↦ subst (AreNumbered (base q)) (sym (noted_own ds q e))
            (numbered_more (base q) (D q) ds (n.counted q) (λ j m b at.
            let one = only_one (HasPut (next_of c.queue) bytes) j (HasPut m b) at in (
              one.0,
              sym (same_number (next_of c.queue) m bytes b one.1) ∙ number
                  ∙ sym (ap (λ z. base z + length (puts (D z))) e),
            )))
        | inr ne ↦ subst (AreNumbered (base q)) (sym (noted_other ds q ne)) (n.counted q)
      ];
      askings = askings_on senders frames D n.askings p c old ds later
          (put_beside p (Some c') senders) c' (put_here p (Some c') senders) frames
          (λ m e. own_asked senders frames D n.askings p c old ds m e)
          (frames_later senders frames D n.askings p c old ds);
    } where
      c' : Core E
      c' = record c { queue = record c.queue { messages = c.queue.messages ++ bytes ∷ [] } }

      later : ℕ → Option (Core E)
      later = put p (Some c') senders

      ds : List Action
      ds = HasPut (next_of c.queue) bytes ∷ []

      rests : c.phase ≡ phase.Resting
      rests = grind (arith, and_parts, nat_le, length, nat_lt, idle_rests, not_busy)

      before : waiting_of (Some c) ≡ c.queue.messages
      before = ap (waiting_at c) rests

      after : waiting_of (Some c') ≡ c.queue.messages ++ bytes ∷ []
      after = ap (waiting_at c') rests

      first : c.queue.first ≡ next_number base p frames
      first =
          (subst (Fits base words frames c) rests fits).1.0 ∙ ap (λ z. next_number base z frames) me

      number : next_of c.queue ≡ base p + length (puts (D p))
      number =
          let a = ap length (n.put p ∙ ap (λ z. sent_by frames p ++ waiting_of z) old
          ∙ ap (λ z. sent_by frames p ++ z) before) in
          let b = length-append (sent_by frames p) c.queue.messages in
          let d = length_mapped (of_sender p (order_of frames)) in let e = first in omega arith

    pub noted_mark : (m : Mark) → can_close c.queue ≡ true
        → IsNoted base (with_batch (record c.queue { phase = Marking m })) frames
        (actions_with p (HasMarked m ∷ []) D)
    noted_mark m can = record {
      put = λ q. elim (cases_eq q p) [
        | inl e ↦
            ap puts (noted_own (HasMarked m ∷ []) q e)
            ∙ flat_map-append put_of (D q) (HasMarked m ∷ []) ∙ append-nil (puts (D q)) ∙ n.put q
            ∙ ap (λ z. sent_by frames q ++ waiting_of z) (ap senders e ∙ old)
            ∙ ap (λ z. sent_by frames q ++ z) (ap (waiting_at c) rests)
            ∙ sym (ap (λ z. sent_by frames q ++ z) (ap (waiting_at c') rests))
            ∙ sym
            (ap (λ z. sent_by frames q ++ waiting_of z) (ap later e ∙ put_here p (Some c') senders))
        | inr ne ↦ grind (arith, common_steps, noted_other, waiting_of, put_beside, c')
      ];
      counted = λ q. elim (cases_eq q p) [
        | inl e ↦ subst (AreNumbered (base q)) (sym (noted_own (HasMarked m ∷ []) q e))
            (numbered_more (base q) (D q) (HasMarked m ∷ []) (n.counted q)
            (λ j k b at. absurd (marked_apart m k b (only_one (HasMarked m) j (HasPut k b) at).1)))
        | inr ne ↦
            subst (AreNumbered (base q)) (sym (noted_other (HasMarked m ∷ []) q ne)) (n.counted q)
      ];
      askings = askings_on senders frames D n.askings p c old (HasMarked m ∷ []) later
          (put_beside p (Some c') senders) c' (put_here p (Some c') senders) frames
          (λ k e.
          own_asks senders frames D n.askings p c old (HasMarked m ∷ []) k (one_waits m k e))
          (frames_later senders frames D n.askings p c old (HasMarked m ∷ []));
    } where
      c' : Core E
      c' = record c { queue = record c.queue { phase = Marking m } }

      later : ℕ → Option (Core E)
      later = put p (Some c') senders

      rests : c.phase ≡ phase.Resting
      rests = grind (arith, and_parts, idle_rests, not_busy)

-- a turn's actions are steps
pub steps_put_nothing :
    (k : Option Kind) (tenure : Option ℕ) (got : ℕ) (chose : Option ℕ) (a : Answered)
    → PutsNothing (step_action k tenure got chose a)
steps_put_nothing None tenure got chose a =
    record { none = refl; never = λ j n bytes e. none_in j _ e }
steps_put_nothing (Some k) tenure got chose a = grind (arith, common_steps, stepped_apart, only_one)

pub nothing_put : PutsNothing []
nothing_put = record { none = refl; never = λ j n bytes e. none_in j _ e }
