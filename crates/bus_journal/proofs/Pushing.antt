-- The words of a log, appended frame by frame.
use Rattle.std.proofs.Common.{◌≡◌, ℕ, ◌+◌, ◌<◌, List, [], ◌∷◌, ◌++◌, length, get_or, take, drop}
use Rattle.std.proofs.Common.{map, min, refl, sym, ap, subst, ◌∙◌, append_assoc, arith}
use Rattle.std.proofs.lemmas.List.{length-append, append-nil, take_at, drop_at, map-append}
use Rattle.std.proofs.lemmas.List.Concat.{flat_map-append}
use Rattle.bus_register.specs.declared.limits.TheConstants.{MOST_MESSAGES}
use Rattle.bus_batch.specs.Frames.{Frame, IsFrame, AreFrames, AreFramesFrom, frame_words, log_words}
use Rattle.bus_batch.proofs.Heads.{body_most}
use Rattle.bus_journal.specs.Format.{record_bytes, records_bytes}
use Rattle.bus_journal.specs.Records.{count_of}
use Rattle.bus_journal.specs.Walks.{words_in}
use Rattle.bus_journal.proofs.Chunks.{length-chunk, records-push}
use Rattle.bus_journal.proofs.Frames.{frame_is_chunk, words_of_frames, no_words}

-- of these frames the first are appended, and the rest is the words of the others
pub record Pushed (place : ℕ) (rest old new : List ℕ) (at : ℕ) (frames : List Frame) :
    Type 0 where
  pub done : List Frame
  pub left : List Frame
  pub both : frames ≡ done ++ left
  pub left_is : log_words left ≡ rest
  pub new_is : new ≡ old ++ records_bytes place (map frame_words done)
  pub at_is : at ≡ place + length (log_words done)

pub pushed_none : (place : ℕ) (words old : List ℕ) (frames : List Frame) → log_words frames ≡ words
    → Pushed place words old old place frames
pushed_none place words old frames e = record {
  done = [];
  left = frames;
  both = refl;
  left_is = e;
  new_is = sym (append-nil old);
  at_is = omega arith;
}

frame_in : (senders least : ℕ) (done : List Frame) (f : Frame) (left : List Frame)
    → AreFramesFrom senders least (done ++ f ∷ left) → IsFrame senders f
frame_in senders least [] f left lawful = lawful.0
frame_in senders least (g ∷ done) f left lawful =
    frame_in senders (g.tenure + 1) done f left lawful.3

-- the words that come next are those of the next frame
next_frame : (senders count head : ℕ) (f : Frame) (left : List Frame) (rest : List ℕ)
    → IsFrame senders f → frame_words f ++ log_words left ≡ rest → head ≡ get_or rest 0 0
    → count ≡ min (count_of head + 1) (length rest) → count ≡ length (frame_words f)
next_frame senders count head f left rest lawful e head_is count_is =
    let k = frame_is_chunk senders MOST_MESSAGES f lawful (body_most f.body lawful.body) in
    let heads : head ≡ k.head =
    head_is
    ∙ ap (λ z. get_or z 0 0) (sym e ∙ ap (λ z. z ++ log_words left) k.words_are) in
    let counts = ap count_of heads in
    let size = length-chunk senders MOST_MESSAGES (frame_words f) k in
    let long = ap length e in
    let parts = length-append (frame_words f) (log_words left) in
    omega (arith, counts, size, long, parts, count_is)

pub pushed_more : (senders place at count head : ℕ) (rest old new new' : List ℕ)
    (frames : List Frame) → AreFrames senders frames → Pushed place rest old new at frames
    → 0 < length rest → head ≡ get_or rest 0 0
    → count ≡ min (count_of head + 1) (length rest)
    → new' ≡ new ++ record_bytes at (take count rest)
    → Pushed place (drop count rest) old new' (at + count) frames
pushed_more senders place at count head rest old new new' frames lawful p some head_is count_is e =
    more p.left p.both p.left_is
  where
    more : (left : List Frame) → frames ≡ p.done ++ left → log_words left ≡ rest
        → Pushed place (drop count rest) old new' (at + count) frames
    more [] both left_is = let none = ap length left_is in absurd (omega (arith, none, some))
    more (f ∷ left) both left_is =
        let one = frame_in senders 0 p.done f left
        (subst (λ z. AreFrames senders z) both lawful) in
        let size : count ≡ length (frame_words f) =
        next_frame senders count head f left rest one left_is head_is count_is in
        let front : take count rest ≡ frame_words f =
        ap (λ z. take count z) (sym left_is)
        ∙ take_at (frame_words f) (log_words left) count (sym size) in
        let behind : drop count rest ≡ log_words left =
        ap (λ z. drop count z) (sym left_is)
        ∙ drop_at (frame_words f) (log_words left) count (sym size) in
        let there : at ≡ place + length (words_in (map frame_words p.done)) =
        p.at_is ∙ ap (λ z. place + length z) (sym (words_of_frames p.done)) in
        let maps : map frame_words (p.done ++ f ∷ []) ≡ map frame_words p.done ++ frame_words f ∷ []
        = map-append frame_words p.done (f ∷ []) in
        let words = ap length (flat_map-append frame_words p.done (f ∷ [])) in
        let sum = length-append (log_words p.done) (frame_words f ++ []) in
        let last = ap length (append-nil (frame_words f)) in
        let before = p.at_is in
        record {
          done = p.done ++ f ∷ [];
          left = left;
          both = both ∙ sym (append_assoc p.done (f ∷ []) left);
          left_is = sym behind;
          new_is =
              e ∙ ap (λ z. new ++ record_bytes at z) front
              ∙ ap (λ z. new ++ record_bytes z (frame_words f)) there
              ∙ ap (λ z. z ++ record_bytes (place + length (words_in (map frame_words p.done)))
              (frame_words f)) p.new_is
              ∙ append_assoc old (records_bytes place (map frame_words p.done))
              (record_bytes (place + length (words_in (map frame_words p.done))) (frame_words f))
              ∙ ap (λ z. old ++ z)
              (sym (records-push place (map frame_words p.done) (frame_words f)))
              ∙ ap (λ z. old ++ records_bytes place z) (sym maps);
          at_is = omega (arith, size, words, sum, last, before);
        }

-- where nothing is left all are appended
pub pushed_all : (place at : ℕ) (rest old new : List ℕ) (frames : List Frame)
    → Pushed place rest old new at frames → rest ≡ []
    → new ≡ old ++ records_bytes place (map frame_words frames)
pushed_all place at rest old new frames p none =
    let nobody = no_words p.left (p.left_is ∙ none) in
    p.new_is
    ∙ ap (λ z. old ++ records_bytes place (map frame_words z))
    (sym (p.both ∙ ap (λ z. p.done ++ z) nobody ∙ append-nil p.done))
