-- To each of the wrong buses nothing leads.
use Rattle.std.proofs.Common.{◌≡◌, ◌⊎◌, inl, inr, ℕ, ◌+◌, ◌<◌, ◌≤◌, List, [], ◌∷◌, ◌++◌, length}
use Rattle.std.proofs.Common.{arith, sym, ◌∙◌, ap}
use Rattle.std.proofs.lemmas.Grind.{flat_map-append, common_steps}
use Rattle.std.proofs.lemmas.List.{length-append}
use Rattle.bus_register.specs.Protocol.{Protocol}
use Rattle.bus_batch.proofs.FrameLaws.{same_log}
use Rattle.bus_batch.specs.Frames.{Frame, frame_words, log_words}
use Rattle.bus_deliverylog.specs.declared.receiving.RecvTurn.{RecvTurn}
use Rattle.bus_presence.specs.Reclamation.{Trails}
use Rattle.bus_tenure.specs.Core.{Election, Layout}
use Rattle.bus_world.specs.Headline.{Action}
use Rattle.bus_world.specs.World.{IsLayout}
use Rattle.bus_world.specs.Private.CyclicProtocols.{CyclicProtocol, Led}
use Rattle.bus_world.specs.Floors.{IsBoundary}
use Rattle.bus_world.specs.Private.KeptProtocols.{IsKeptProtocol}
use Rattle.bus_world.specs.RingRefusals.{RingRefuses}
use Rattle.bus_world.proofs.Bounds.{words_low}
use Rattle.bus_world.proofs.CyclicProtocolLaws.{protocol_promised}
use Rattle.bus_world.proofs.Serving.{Serves}

-- where some frames end there is no place within another one
apart : (front back rest rest' : List Frame) (f : Frame) → front ++ f ∷ rest ≡ back ++ rest'
    → (length (log_words back) ≤ length (log_words front))
    ⊎ (length (log_words front) + length (frame_words f) ≤ length (log_words back))
apart front [] rest rest' f e = inl (omega arith)
apart [] (g ∷ back) rest rest' f e = grind (arith, common_steps, length-append, length)
apart (h ∷ front) (g ∷ back) rest rest' f e =
    let same : h ≡ g = cc in
    let later : front ++ f ∷ rest ≡ back ++ rest' = cc in
    let one = ap (λ (w : Frame). length (frame_words w)) same in
    let long = length-append (frame_words h) (log_words front) in
    let long' = length-append (frame_words g) (log_words back) in
    elim (apart front back rest rest' f later) [
      | inl low ↦ inl (omega arith)
      | inr high ↦ inr (omega arith)
    ]

none_within : (front rest : List Frame) (f : Frame) (place : ℕ)
    → IsBoundary (front ++ f ∷ rest) place → length (log_words front) < place
    → place < length (log_words front) + length (frame_words f) → ⊥
none_within front rest f place b low high = grind (arith, common_steps, apart)

module _ {E : Type 0} (X : Election E) (P : Protocol E (Unit {0}) ℕ) (x : Layout)
    (s : Serves X P x) (ok : IsLayout x) (rows : ℕ) (two : 2 ≤ rows) (y : CyclicProtocol E)
    (T : Trails) (D : ℕ → List Action) (H : ℕ → List RecvTurn) (L : List ℕ) where
  kept : Led X x rows y T D H L → IsKeptProtocol X x rows y T D H L
  kept led = protocol_promised X P s.laws x ok s.width s.starts s.owner_is s.named s.announces
      s.apart rows two y T D H L led

  floor_low : (k : IsKeptProtocol X x rows y T D H L) → k.floor ≤ y.reclamation.words 0
  floor_low k = (let a = k.by.ring.long in let b = k.by.ring.low in omega arith)

  pub refuses : RingRefuses X x rows y T D H L
  refuses = record {
    overwritten = λ r v at stays apart other led.
        other (((kept led).by.finds r v at stays).1 apart).1;
    loaded_ahead = λ r v at stays apart past led.
        let a = (((kept led).by.finds r v at stays).1 apart).0 in absurd (omega arith);
    another_length = λ r v at stays here other led.
        other (((kept led).by.finds r v at stays).0 here);
    lost_behind = λ r v place at stays from below other led. grind (arith, common_steps, kept);
    lost_behind_the_floor = λ page place at from below other led. grind (arith, common_steps, kept);
    lost_behind_a_held_floor = λ p t page stored published c place at is from below other led.
        let k = kept led in
        let same = k.by.floor_held p t page stored published c at is in
        other (k.by.ring.stands place (omega arith) below);
    floor_past_a_receiver = λ r v page at stays home high led. grind (arith, common_steps, kept);
    held_floor_past_a_receiver = λ r p t v page stored published c at stays there is high led.
        let k = kept led in
        let a = k.by.waits r v at stays in
        let b = k.by.floor_held p t page stored published c there is in absurd (omega arith);
    length_short_of_the_log = λ short led.
        let a = (kept led).by.ring.long in absurd (omega arith);
    length_past_the_log = λ longer led.
        let a = (kept led).by.ring.long in absurd (omega arith);
    floor_past_the_length = λ page at high led. grind (arith, common_steps, kept, floor_low);
    held_floor_past_the_length = λ p t page stored published c at is high led.
        let k = kept led in
        let a = floor_low k in
        let b = k.by.floor_held p t page stored published c at is in absurd (omega arith);
    passed_ahead = λ r v at stays low ahead led.
        let a = (kept led).by.comes r v at stays low in absurd (omega arith);
    passed_within_a_frame = λ front rest f r low lawful are past below led.
        let k = kept led in
        let same = same_log x.senders 0 0 k.by.spelled.frames (front ++ f ∷ rest)
        k.by.spelled.lawful lawful (k.by.spelled.words_are ∙ sym are) in
        elim (k.by.ring.edges r low) [
          | inl b ↦ grind (arith, common_steps, none_within)
          | inr all ↦ grind (arith, common_steps, words_low, length, flat_map-append, length-append)
        ];
  }
