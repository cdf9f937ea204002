-- Frames of so many messages at most are frames of more, and not the other way round; but those of
-- which none has more messages are of that limit.
use Rattle.std.proofs.Common.{◌≡◌, ℕ, ◌+◌, ◌<◌, ◌≤◌, List, [], ◌∷◌, refl, subst, arith}
use Rattle.std.proofs.Common.{All, length}
use Rattle.std.specs.Prelude.{◌≢◌}
use Rattle.std.proofs.Math.ListN.{length-map}
use Rattle.std.proofs.lemmas.List.Elements.{All-nil, All-cons, All-head, All-tail}
use Rattle.bus_register.specs.declared.limits.TheConstants.{MOST_MESSAGES}
use Rattle.bus_batch.specs.Messages.{Numbered, IsNumbered}
use Rattle.bus_batch.specs.Frames.{Frame, Body, Messages, Marked, IsBodyOf, IsFrameOf, AreFramesOf}
use Rattle.bus_batch.specs.Frames.{AreFramesFromOf, body_items, item_of, items_of, log_words}
use Rattle.bus_batch.proofs.FrameLaws.{same_log}
use Rattle.bus_register.specs.declared.registers.SenderNo.{SenderNo}

body_of_more : (few more : ℕ) (b : Body) → few ≤ more → IsBodyOf few b → IsBodyOf more b
body_of_more few more (Messages ms) within h = let n = h.1 in (h.0, omega arith, h.2)
body_of_more few more (Marked m) within h = tt

frame_of_more : (few more senders : ℕ) (f : Frame) → few ≤ more → IsFrameOf few senders f
    → IsFrameOf more senders f
frame_of_more few more senders f within h = record {
  tenure = h.tenure;
  owner = h.owner;
  owner_bits = h.owner_bits;
  body = body_of_more few more f.body within h.body;
}

pub frames_of_more : (few more senders least : ℕ) (frames : List Frame) → few ≤ more
    → AreFramesFromOf few senders least frames → AreFramesFromOf more senders least frames
frames_of_more few more senders least [] within h = tt
frames_of_more few more senders least (f ∷ frames) within h = (
  frame_of_more few more senders f within h.0,
  h.1,
  h.2,
  frames_of_more few more senders (f.tenure + 1) frames within h.3,
  h.4,
)

-- ---- no more messages than so many
body_of_fewer : (most few : ℕ) (owner : SenderNo) (b : Body) → length (body_items owner b) ≤ few
    → IsBodyOf most b → IsBodyOf few b
body_of_fewer most few owner (Messages ms) low h =
    (h.0, subst (λ n. n ≤ few) (length-map ms (item_of owner)) low, h.2)
body_of_fewer most few owner (Marked m) low h = tt

frame_of_fewer : (most few senders : ℕ) (f : Frame) → length (items_of f) ≤ few
    → IsFrameOf most senders f → IsFrameOf few senders f
frame_of_fewer most few senders f low h = record {
  tenure = h.tenure;
  owner = h.owner;
  owner_bits = h.owner_bits;
  body = body_of_fewer most few f.owner f.body low h.body;
}

pub frames_of_fewer : (most few senders least : ℕ) (frames : List Frame)
    → AreFramesFromOf most senders least frames → All (λ f. length (items_of f) ≤ few) frames
    → AreFramesFromOf few senders least frames
frames_of_fewer most few senders least [] h low = tt
frames_of_fewer most few senders least (f ∷ frames) h low = (
  frame_of_fewer most few senders f
      (All-head (λ (g : Frame). length (items_of g) ≤ few) f frames low) h.0,
  h.1,
  h.2,
  frames_of_fewer most few senders (f.tenure + 1) frames h.3
      (All-tail (λ (g : Frame). length (items_of g) ≤ few) f frames low),
  h.4,
)

-- ---- two messages
-- the message of no byte
abbrev pub empty : Numbered
empty = record { number = 0; message = [] }

-- a frame of two messages
abbrev pub two : Frame
two = record {
  tenure = 0;
  owner = record { 0 = 0 };
  body = Messages (empty ∷ empty ∷ []);
}

empty_lawful : IsNumbered empty
empty_lawful = (omega arith, (omega arith, All-nil (λ b. b < 256)))

pub two_lawful : AreFramesOf 2 1 (two ∷ [])
two_lawful = (
  record {
    tenure = omega arith;
    owner = omega arith;
    owner_bits = omega arith;
    body = (
      omega arith,
      omega arith,
      All-cons IsNumbered empty (empty ∷ []) empty_lawful
          (All-cons IsNumbered empty [] empty_lawful (All-nil IsNumbered)),
    );
  },
  omega arith,
  (λ _. refl),
  tt,
  (λ _. All-nil (λ g. g.owner ≢ two.owner)),
)

pub two_not_single : AreFramesOf 1 1 (two ∷ []) → ⊥
two_not_single h = let few = h.0.body.1 in omega arith

-- its words are those of no frames of one message each
pub no_singles : (frames : List Frame) → AreFramesOf 1 1 frames
    → log_words frames ≡ log_words (two ∷ []) → ⊥
no_singles frames single e = two_not_single (subst (AreFramesOf 1 1)
    (same_log 1 0 0 frames (two ∷ [])
    (frames_of_more 1 MOST_MESSAGES 1 0 frames (omega arith) single)
    (frames_of_more 2 MOST_MESSAGES 1 0 (two ∷ []) (omega arith) two_lawful) e) single)
