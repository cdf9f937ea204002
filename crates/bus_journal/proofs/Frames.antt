-- The records of a log's frames.
use Rattle.std.proofs.Common.{◌≡◌, ◌≢◌, ℕ, zero, suc, ◌+◌, ◌*◌, ◌^◌, ◌<◌, ◌≤◌, List, [], ◌∷◌, ◌++◌}
use Rattle.std.proofs.Common.{length, take, drop, map, All, refl, sym, ap, subst, ◌∙◌, arith}
use Rattle.std.proofs.Common.{append_assoc, ◌/◌, ◌%◌}
use Rattle.std.specs.Prelude.{flat_map, replicate}
use Rattle.std.specs.List.{AllByRecursion}
use Rattle.std.proofs.lemmas.List.{length-append, length-take, length-replicate, append-nil}
use Rattle.std.proofs.lemmas.List.Elements.{All-head, All-tail, All-cons, All-nil, All-append}
use Rattle.std.proofs.lemmas.List.Elements.{All-take, All-drop, All-replicate, All-get_or}
use Rattle.bus_batch.specs.declared.messages.Mark.TheVariants as mark
use Rattle.bus_batch.specs.Messages.{Numbered, IsNumbered}
use Rattle.bus_batch.specs.Frames.{Frame, Body, Messages, Marked, IsFrame, IsBody, AreFramesFrom}
use Rattle.bus_batch.specs.Frames.{frame_words, body_words, log_words, head_word}
use Rattle.bus_batch.specs.Frames.{message_words, words_of_bytes, data_word, data_len}
use Rattle.bus_batch.proofs.Heads.{body_some, body_most}
use Rattle.bus_batch.proofs.FrameLaws.{same_frame}
use Rattle.bus_journal.specs.Records.{IsChunk, count_of}
use Rattle.bus_journal.specs.Reading.{AreFew}
use Rattle.bus_journal.specs.Walks.{words_in}
use Rattle.bus_journal.proofs.Words.{same_parts}

-- ---- a frame's words are a record's

abbrev Fits : ℕ → Type 0
Fits word = word < 2 ^ 64

data_word_fits : (bytes : List ℕ) → All (λ b. b < 256) bytes → data_word bytes < 2 ^ 64
unfolding data_word
data_word_fits bytes small =
    let eight = take 8 (bytes ++ replicate 8 0) in
    let size : length eight ≡ 8 =
    length-take 8 (bytes ++ replicate 8 0)
    ∙ (let e = length-append bytes (replicate 8 0) in
    let e' = length-replicate {A = ℕ} 8 0 in omega arith) in
    let each : All (λ b. b < 256) eight = All-take (λ b. b < 256) 8 (bytes ++ replicate 8 0)
    (All-append (λ b. b < 256) bytes (replicate 8 0) small
    (All-replicate (λ b. b < 256) 8 0 (omega arith))) in
    let at = λ (i : ℕ) (below : i < 8). All-get_or (λ b. b < 256) eight i 0 (omega arith) each in
    omega (
      arith,
      at 0 (omega arith),
      at 1 (omega arith),
      at 2 (omega arith),
      at 3 (omega arith),
      at 4 (omega arith),
      at 5 (omega arith),
      at 6 (omega arith),
      at 7 (omega arith),
    )

data_fits : (n : ℕ) (bytes : List ℕ) → All (λ b. b < 256) bytes → All Fits (words_of_bytes n bytes)
data_fits zero bytes small = All-nil Fits
data_fits (suc n) bytes small =
    All-cons Fits (data_word bytes) (words_of_bytes n (drop 8 bytes)) (data_word_fits bytes small)
    (data_fits n (drop 8 bytes) (All-drop (λ b. b < 256) 8 bytes small))

message_fits : (m : Numbered) → IsNumbered m → All Fits (message_words m)
message_fits m h =
    let number = h.0 in
    let few = h.1.0 in
    All-cons Fits _ (words_of_bytes (data_len (length m.message)) m.message) (omega arith)
    (data_fits (data_len (length m.message)) m.message h.1.1)

messages_fit : (ms : List Numbered) → All IsNumbered ms → All Fits (flat_map message_words ms)
messages_fit [] each = All-nil Fits
messages_fit (m ∷ ms) each =
    All-append Fits (message_words m) (flat_map message_words ms)
    (message_fits m (All-head IsNumbered m ms each))
    (messages_fit ms (All-tail IsNumbered m ms each))

body_fits : (b : Body) → IsBody b → All Fits (body_words b)
body_fits (Messages ms) h = messages_fit ms h.2
body_fits (Marked mark.End) h = All-cons Fits _ [] (omega arith) (All-nil Fits)
body_fits (Marked mark.Leave) h = All-cons Fits _ [] (omega arith) (All-nil Fits)

pub count_is : (o c t : ℕ) → o < 2 ^ 8 → c < 2 ^ 14 → t < 2 ^ 40 → count_of (head_word o c t) ≡ c
count_is o c t a b d = omega arith

tag_is : (o c t : ℕ) → o < 2 ^ 8 → c < 2 ^ 14 → t < 2 ^ 40 → head_word o c t / 2 ^ 62 ≡ 1
tag_is o c t a b d = omega arith

owner_is : (o c t : ℕ) → o < 2 ^ 8 → c < 2 ^ 14 → t < 2 ^ 40
    → head_word o c t % 2 ^ 62 / 2 ^ 54 ≡ o
owner_is o c t a b d = omega arith

head_below : (o c t : ℕ) → o < 2 ^ 8 → c < 2 ^ 14 → t < 2 ^ 40 → head_word o c t < 2 ^ 64
head_below o c t a b d = omega arith

-- what is known of a frame's head
record HasHead (f : Frame) : Type 0 where
  count : count_of (head_word f.owner.0 (length (body_words f.body)) f.tenure)
      ≡ length (body_words f.body)
  tag : head_word f.owner.0 (length (body_words f.body)) f.tenure / 2 ^ 62 ≡ 1
  owner : head_word f.owner.0 (length (body_words f.body)) f.tenure % 2 ^ 62 / 2 ^ 54 ≡ f.owner.0
  below : head_word f.owner.0 (length (body_words f.body)) f.tenure < 2 ^ 64

has_head : (senders : ℕ) (f : Frame) → IsFrame senders f → HasHead f
has_head senders f lawful =
    let most = body_most f.body lawful.body in
    let few : length (body_words f.body) < 2 ^ 14 = omega arith in
    record {
      count = count_is f.owner.0 (length (body_words f.body)) f.tenure lawful.owner_bits few
          lawful.tenure;
      tag = tag_is f.owner.0 (length (body_words f.body)) f.tenure lawful.owner_bits few
          lawful.tenure;
      owner = owner_is f.owner.0 (length (body_words f.body)) f.tenure lawful.owner_bits few
          lawful.tenure;
      below = head_below f.owner.0 (length (body_words f.body)) f.tenure lawful.owner_bits few
          lawful.tenure;
    }

pub frame_is_chunk : (senders most : ℕ) (f : Frame) → IsFrame senders f
    → length (body_words f.body) ≤ 8 * most → IsChunk senders most (frame_words f)
frame_is_chunk senders most f lawful few =
    let h = has_head senders f lawful in
    let some = body_some f.body lawful.body in
    let head = head_word f.owner.0 (length (body_words f.body)) f.tenure in
    record {
      head = head;
      body = body_words f.body;
      words_are = refl;
      may = record {
        tag = h.tag;
        owner = subst (λ z. z < senders) (sym h.owner) lawful.owner;
        some = subst (λ z. 1 ≤ z) (sym h.count) some;
        most_words = subst (λ z. z ≤ 8 * most) (sym h.count) few;
      };
      size = sym h.count;
      fit = All-cons Fits head (body_words f.body) h.below (body_fits f.body lawful.body);
    }

pub frames_are_chunks : (senders most least : ℕ) (fs : List Frame)
    → AreFramesFrom senders least fs → AreFew most fs
    → AllByRecursion (IsChunk senders most) (map frame_words fs)
frames_are_chunks senders most least [] lawful few = tt
frames_are_chunks senders most least (f ∷ fs) lawful few = (
  frame_is_chunk senders most f lawful.0
      (All-head (λ f. length (body_words f.body) ≤ 8 * most) f fs few),
  frames_are_chunks senders most (f.tenure + 1) fs lawful.3
      (All-tail (λ f. length (body_words f.body) ≤ 8 * most) f fs few),
)

chunk_few : (senders most : ℕ) (f : Frame) → IsChunk senders most (frame_words f)
    → length (body_words f.body) ≤ 8 * most
chunk_few senders most f c =
    let e = c.words_are in
    let bodies : body_words f.body ≡ c.body = cc in
    let size : length (body_words f.body) ≡ count_of c.head = ap length bodies ∙ c.size in
    subst (λ z. z ≤ 8 * most) (sym size) c.may.most_words

pub few_from_chunks : (senders most : ℕ) (fs : List Frame)
    → AllByRecursion (IsChunk senders most) (map frame_words fs) → AreFew most fs
few_from_chunks senders most [] each = All-nil (λ f. length (body_words f.body) ≤ 8 * most)
few_from_chunks senders most (f ∷ fs) each =
    All-cons (λ f. length (body_words f.body) ≤ 8 * most) f fs (chunk_few senders most f each.0)
    (few_from_chunks senders most fs each.1)

pub words_of_frames : (fs : List Frame) → words_in (map frame_words fs) ≡ log_words fs
words_of_frames [] = refl
words_of_frames (f ∷ fs) = ap (λ z. frame_words f ++ z) (words_of_frames fs)

-- ---- the first of a log's frames

front_all : {A : Type 0} (P : A → Type 0) (xs ys : List A) → All P (xs ++ ys) → All P xs
front_all P [] ys each = All-nil P
front_all P (x ∷ xs) ys each =
    All-cons P x xs (All-head P x (xs ++ ys) each)
    (front_all P xs ys (All-tail P x (xs ++ ys) each))

none_before : {A : Type 0} (xs ys : List A) → xs ++ ys ≡ [] → xs ≡ []
none_before [] ys e = refl
none_before (x ∷ xs) ys e = absurd cc

pub front_frames : (senders least : ℕ) (fs gs : List Frame) → AreFramesFrom senders least (fs ++ gs)
    → AreFramesFrom senders least fs
front_frames senders least [] gs lawful = tt
front_frames senders least (f ∷ fs) gs lawful = (
  lawful.0,
  lawful.1,
  λ is. none_before fs gs (lawful.2 is),
  front_frames senders (f.tenure + 1) fs gs lawful.3,
  λ is. front_all (λ g. g.owner ≢ f.owner) fs gs (lawful.4 is),
)

-- words that begin a log's, cut behind each head and as many words as it says, are its first frames
pub record Cuts (senders least : ℕ) (cs : List (List ℕ)) (fs : List Frame) (more : List ℕ) :
    Type 0 where
  pub front : List Frame
  pub back : List Frame
  pub both : fs ≡ front ++ back
  pub chunks_are : map frame_words front ≡ cs
  pub rest_is : log_words back ≡ more

one_chunk : (senders most : ℕ) (f : Frame) (c us vs : List ℕ) → IsFrame senders f
    → IsChunk senders most c → frame_words f ++ us ≡ c ++ vs → (frame_words f ≡ c) × (us ≡ vs)
one_chunk senders most f c us vs lawful k e =
    let h = has_head senders f lawful in
    let begin = e ∙ ap (λ z. z ++ vs) k.words_are in
    let heads : head_word f.owner.0 (length (body_words f.body)) f.tenure ≡ k.head = cc in
    let sizes : length (body_words f.body) ≡ length k.body =
    sym h.count ∙ ap count_of heads ∙ sym k.size in
    let long : length c ≡ suc (length k.body) = ap length k.words_are in
    same_parts (frame_words f) c us vs (ap suc sizes ∙ sym long) e

cuts_more : (senders least : ℕ) (f : Frame) (fs : List Frame) (c : List ℕ) (cs : List (List ℕ))
    (more : List ℕ) → frame_words f ≡ c → Cuts senders (f.tenure + 1) cs fs more
    → Cuts senders least (c ∷ cs) (f ∷ fs) more
cuts_more senders least f fs c cs more same k = record {
  front = f ∷ k.front;
  back = k.back;
  both = ap (λ z. f ∷ z) k.both;
  chunks_are = (let e = k.chunks_are in cc);
  rest_is = k.rest_is;
}

pub cuts : (senders most least : ℕ) (cs : List (List ℕ)) (fs : List Frame) (more : List ℕ)
    → AllByRecursion (IsChunk senders most) cs → AreFramesFrom senders least fs
    → log_words fs ≡ words_in cs ++ more → Cuts senders least cs fs more
cuts senders most least [] fs more each lawful e = record {
  front = [];
  back = fs;
  both = refl;
  chunks_are = refl;
  rest_is = e;
}
cuts senders most least (c ∷ cs) [] more each lawful e =
    let begin = e ∙ append_assoc c (words_in cs) more
    ∙ ap (λ z. z ++ (words_in cs ++ more)) each.0.words_are in
    absurd cc
cuts senders most least (c ∷ cs) (f ∷ fs) more each lawful e =
    let one = one_chunk senders most f c (log_words fs) (words_in cs ++ more) lawful.0 each.0
    (e ∙ append_assoc c (words_in cs) more) in
    cuts_more senders least f fs c cs more one.0
    (cuts senders most (f.tenure + 1) cs fs more each.1 lawful.3 one.1)

-- frames whose words go on as those of others go on as the others
pub goes_on_as : (senders least least' : ℕ) (fs gs : List Frame) (more : List (List ℕ))
    → AreFramesFrom senders least fs → AreFramesFrom senders least' gs
    → map frame_words gs ≡ map frame_words fs ++ more
    → (later : List Frame) × (gs ≡ fs ++ later) × (map frame_words later ≡ more)
goes_on_as senders least least' [] gs more lawful lawful' e = (gs, refl, e)
goes_on_as senders least least' (f ∷ fs) [] more lawful lawful' e = absurd cc
goes_on_as senders least least' (f ∷ fs) (g ∷ gs) more lawful lawful' e =
    let words : frame_words g ≡ frame_words f = cc in
    let rest : map frame_words gs ≡ map frame_words fs ++ more = cc in
    let same = (same_frame senders g f [] [] lawful'.0 lawful.0
    (append-nil (frame_words g) ∙ words ∙ sym (append-nil (frame_words f)))).0 in
    let later =
    goes_on_as senders (f.tenure + 1) (g.tenure + 1) fs gs more lawful.3 lawful'.3 rest in
    (later.0, (let k = later.1 in cc), later.2)

pub no_words : (fs : List Frame) → log_words fs ≡ [] → fs ≡ []
no_words [] e = refl
no_words (f ∷ fs) e = absurd cc

pub no_frames : (fs : List Frame) → map frame_words fs ≡ [] → fs ≡ []
no_frames [] e = refl
no_frames (f ∷ fs) e = absurd cc
