-- Frames whose words begin those of others begin them, and frames from one of them on are a log by
-- themselves: what stands of a log whose first frames are gone can be read as a whole one.
use Rattle.std.proofs.Common.{◌≡◌, ℕ, ◌+◌, ◌≤◌, List, [], ◌∷◌, ◌++◌, length, map, drop, arith, refl}
use Rattle.std.proofs.Common.{sym, ◌∙◌, append_assoc}
use Rattle.bus_batch.proofs.FrameLaws.{same_frame}
use Rattle.std.proofs.Math.Seq.{drop-append_seam}
use Rattle.std.proofs.lemmas.Grind.{flat_map-append, common_steps}
use Rattle.bus_batch.specs.Frames.{Frame, Spells, AreFramesFrom, AreFrames, frame_words, log_words}
use Rattle.bus_batch.specs.Frames.{order_of, tenure_and_owner}

pub frames_begin : (senders least least' : ℕ) (fs gs : List Frame) (rest : List ℕ)
    → AreFramesFrom senders least fs
    → AreFramesFrom senders least' gs → log_words fs ++ rest ≡ log_words gs
    → (more : List Frame) × (gs ≡ fs ++ more)
frames_begin senders least least' [] gs rest lawful lawful' e = (gs, refl)
frames_begin senders least least' (f ∷ fs) [] rest lawful lawful' e = absurd cc
frames_begin senders least least' (f ∷ fs) (g ∷ gs) rest lawful lawful' e =
    let s = same_frame senders f g (log_words fs ++ rest) (log_words gs) lawful.0 lawful'.0
    (sym (append_assoc (frame_words f) (log_words fs) rest) ∙ e) in
    let later =
    frames_begin senders (f.tenure + 1) (g.tenure + 1) fs gs rest lawful.3 lawful'.3 s.1 in
    (later.0, λ i. sym s.0 i ∷ later.1 i)

-- a lower first tenure asks no more
lower : (n a b : ℕ) (frames : List Frame) → b ≤ a → AreFramesFrom n a frames
    → AreFramesFrom n b frames
lower n a b [] low h = tt
lower n a b (f ∷ frames) low h = (h.0, (let l = h.1 in omega arith), h.2, h.3, h.4)

pub later_frames : (n least : ℕ) (front back : List Frame) → AreFramesFrom n least (front ++ back)
    → AreFrames n back
later_frames n least [] back h = lower n least 0 back (omega arith) h
later_frames n least (f ∷ front) back h = later_frames n (f.tenure + 1) front back h.3

-- the words behind those of some first frames spell what the other frames say
pub stands_as_log : (n : ℕ) (front back : List Frame) → AreFrames n (front ++ back)
    → Spells n (drop (length (log_words front)) (log_words (front ++ back))) (order_of back)
    (map tenure_and_owner back)
stands_as_log n front back h =
    grind (arith, common_steps, later_frames, drop, length, flat_map-append, drop-append_seam)
