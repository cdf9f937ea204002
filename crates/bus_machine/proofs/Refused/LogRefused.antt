-- No promise holds of a log that lacks what was put, or has a word that was never stored.
use Rattle.std.proofs.Common.{◌≡◌, ◌⊎◌, inl, inr, ℕ, ◌+◌, ◌-◌, ◌<◌, ◌≤◌, List, [], ◌∷◌, ◌++◌, drop}
use Rattle.std.proofs.Common.{length, map, slice_index, arith, refl, sym, ◌∙◌, ap, cond, subst}
use Rattle.std.proofs.lemmas.Grind.{flat_map-append, common_steps}
use Rattle.std.proofs.Math.Seq.{drop-append_seam}
use Rattle.std.proofs.lemmas.List.{length-append}
use Rattle.bus_batch.proofs.FrameLaws.{same_log, spells_one}
use Rattle.bus_batch.specs.Frames.{Frame, Order, frame_words, log_words}
use Rattle.bus_batch.specs.declared.messages.Item.{Item}
use Rattle.bus_deliverylog.specs.Orders.{of_sender}
use Rattle.bus_register.specs.declared.limits.TheConstants.{PASSED_ALL}
use Rattle.bus_tenure.specs.Core.{Election}
use Rattle.bus_world.specs.Waiting.{waiting_at}
use Rattle.bus_world.proofs.LogLaws.{index-read}
use Rattle.bus_world.specs.Floors.{IsBoundary}
use Rattle.bus_world.specs.Log.{words_in_ring}
use Rattle.bus_machine.proofs.Frames.Cells.{length-ring, index-ring}
use Rattle.bus_machine.specs.Machine.{Machine, Trails, floor_of, log_of, log_place}
use Rattle.bus_machine.specs.Promise.{IsPromised}
use Rattle.bus_machine.specs.LogRefusals.{LogsRefuse, PublishedRefuse}

no_zero_head : (frames : List Frame) (rest : List ℕ) → log_words frames ≡ 0 ∷ rest → ⊥
no_zero_head [] rest e = cc
no_zero_head (f ∷ fs) rest e = grind (arith, common_steps, length)

-- where some frames end there is no place within another one
apart : (front back rest rest' : List Frame) (f : Frame) → front ++ f ∷ rest ≡ back ++ rest'
    → (length (log_words back) ≤ length (log_words front))
    ⊎ (length (log_words front) + length (frame_words f) ≤ length (log_words back))
apart front [] rest rest' f e = inl (omega arith)
apart [] (g ∷ back) rest rest' f e = grind (arith, common_steps, length-append, length)
apart (h ∷ front) (g ∷ back) rest rest' f e =
    let same : h ≡ g = cc in
    let later : front ++ f ∷ rest ≡ back ++ rest' = cc in
    let one = ap (λ (w : Frame). length (frame_words w)) same in
    let long = length-append (frame_words h) (log_words front) in
    let long' = length-append (frame_words g) (log_words back) in
    elim (apart front back rest rest' f later) [
      | inl low ↦ inl (omega arith)
      | inr high ↦ inr (omega arith)
    ]

none_within : (front rest : List Frame) (f : Frame) (place : ℕ)
    → IsBoundary (front ++ f ∷ rest) place → length (log_words front) < place
    → place < length (log_words front) + length (frame_words f) → ⊥
none_within front rest f place b low high = grind (arith, common_steps, apart)

-- what stands is the words of the frames from the floor on
last_frames : {E : Type 0} (X : Election E) (m : Machine E) (T : Trails) (k : IsPromised X m T)
    → log_of m ≡ log_words k.by.edge.rest
last_frames X m T k = grind (arith, common_steps, drop, length, flat_map-append, drop-append_seam)

-- what joins one front is the same
front_off : (front xs ys : List ℕ) → front ++ xs ≡ front ++ ys → xs ≡ ys
front_off front xs ys e =
    sym (drop-append_seam front xs) ∙ ap (drop (length front)) e ∙ drop-append_seam front ys

-- so are two fronts of one length
front_same : (xs ys us vs : List ℕ) → length xs ≡ length ys → xs ++ us ≡ ys ++ vs → xs ≡ ys
front_same [] [] us vs many e = refl
front_same [] (y ∷ ys) us vs many e = absurd (omega arith)
front_same (x ∷ xs) [] us vs many e = absurd (omega arith)
front_same (x ∷ xs) (y ∷ ys) us vs many e =
    let first : x ≡ y = ap (λ l. slice_index l 0) e in
    ap (λ h. h ∷ xs) first
    ∙ ap (λ l. y ∷ l) (front_same xs ys us vs (omega arith) (ap (drop 1) e))

pub published_refused : {E : Type 0} (m : Machine E) (before : List ℕ) (f : Frame)
    → PublishedRefuse m before f
published_refused m before f =
    let since = slice_index m.words 0 - length before in
    let read = words_in_ring (slice_index m.words) (log_place m.layout m.reuse) m.layout.capacity
    (length before) since in
    let size : length read ≡ since = length-ring (slice_index m.words)
    (log_place m.layout m.reuse) m.layout.capacity (length before) since in
    record {
      other_word = λ place low other shown.
          let same : frame_words f ≡ read = front_off before (frame_words f) read shown.1 in
          let many = ap length same in
          let below : place < since = omega arith in
          other (sym (ap (λ ws. slice_index ws place) same
          ∙ index-ring (slice_index m.words) (log_place m.layout m.reuse) m.layout.capacity
          (length before) since place below));
      other_length = λ other shown. grind (arith, common_steps, length-append);
      nothing = λ more shown. let many = shown.0 in omega arith;
      fallen = λ less shown. let many = shown.0 in omega arith;
      other_before = λ front long other shown.
          other (front_same front before (frame_words f) read long shown.1);
    }

pub logs_refused : {E : Type 0} (X : Election E) (m : Machine E) (T : Trails) → LogsRefuse X m T
logs_refused {E} X m T = record {
  other_words = λ other kept. other kept.by.stands;
  lost_behind_a_floor = λ page place has past low other kept.
      other (kept.by.lasts page has place past low);
  wrapped = λ place flat low other kept. grind (arith, common_steps, slice_index, index-read);
  floor_within_a_frame = λ front rest f lawful are past below kept.
      let s = kept.by.spelled in
      let same = same_log m.layout.senders 0 0 s.frames (front ++ f ∷ rest) s.lawful lawful
      (s.words_are ∙ sym are) in
      none_within front rest f (floor_of m)
      (subst (λ fs. IsBoundary fs (floor_of m)) same kept.by.edge) past below;
  passed_ahead = λ r v at stays past kept. let low = kept.by.comes r v at stays in omega arith;
  passed_elsewhere = λ r v at other kept. other (kept.by.passes r v at).0;
  passed_otherwise = λ r v place at is stays other kept.
      other ((kept.by.passes r v at).1 place is ∙ ap (λ b. cond b PASSED_ALL v.passed) stays);
  passed_unheard = λ r v place at is stays past kept.
      let low = (kept.by.passed r v place at is stays).0 in omega arith;
  passed_within = λ r v place at is stays front rest f lawful are past below kept.
      grind (arith, same_log, none_within, slice_index);
  left_unshown = λ r v place at is left other kept.
      other ((kept.by.passes r v at).1 place is ∙ ap (λ b. cond b PASSED_ALL v.passed) left);
  dropped = λ s v order owners at spelled other kept.
      let one = spells_one m.layout.senders T.log kept.order order kept.owners owners
      kept.by.spelled spelled in
      let stand = λ (o : Order).
      map (λ (i : Item). i.message) (of_sender s o) ++ waiting_at v.core v.core.phase in
      other (kept.by.sent s v at ∙ ap stand one.0);
  length_before_words =
      λ rest zero kept.
      no_zero_head kept.by.edge.rest rest (sym (last_frames X m T kept) ∙ zero);
}
