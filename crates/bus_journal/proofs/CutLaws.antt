-- A journal of which the first bytes are left, with zeros behind.
use Rattle.std.proofs.Common.{◌≡◌, ◌≢◌, ℕ, zero, suc, ◌+◌, ◌-◌, ◌*◌, ◌<◌, ◌≤◌, List, [], ◌∷◌}
use Rattle.std.proofs.Common.{◌++◌, length, get_or, take, drop, map, All, refl, sym, ap, subst, ◌∙◌}
use Rattle.std.proofs.Common.{append_assoc, arith, ◌⊎◌, inl, inr}
use Rattle.std.specs.List.{AllByRecursion}
use Rattle.std.proofs.lemmas.Bool.{cases_lt}
use Rattle.std.proofs.lemmas.List.{length-append, length-take, append-nil}
use Rattle.std.proofs.lemmas.List.{take-append-le, map-append, get_or-append_right}
use Rattle.std.proofs.lemmas.List.{get_or_append_left}
use Rattle.bus_batch.specs.Frames.{body_words}
use Rattle.std.proofs.Math.Seq.{take-append-add}
use Rattle.bus_batch.specs.Frames.{Frame, AreFrames, frame_words, log_words}
use Rattle.bus_journal.specs.declared.ends.JournalEnd.TheVariants as end
use Rattle.bus_journal.specs.Format.{Heading, IsHeading, header_bytes, journal_bytes, record_bytes}
use Rattle.bus_journal.specs.Format.{records_bytes, word_bytes, words_bytes}
use Rattle.bus_journal.specs.Records.{IsChunk, IsShort, IsTornRest}
use Rattle.bus_journal.specs.Reading.{AreFew, Answer, Reads, EndsAs}
use Rattle.bus_journal.specs.Cuts.{IsMostWithin}
use Rattle.bus_journal.specs.Walks.{words_in}
use Rattle.bus_journal.proofs.Words.{length-checksum, length-words, checksum_ends}
use Rattle.bus_journal.proofs.Chunks.{length-record, length-chunk, one_length, record_head, sum_of}
use Rattle.bus_journal.proofs.Chunks.{records-append}
use Rattle.bus_journal.proofs.Frames.{frames_are_chunks, front_frames, words_of_frames}
use Rattle.bus_journal.proofs.Shorts.{stands_before, word_kept}
use Rattle.bus_journal.proofs.AnswerLaws.{has_more}

-- ---- the last byte of a record

last_of_record : (place : ℕ) (words rest : List ℕ)
    → get_or (record_bytes place words ++ rest) (8 * length words + 7) 0 ≢ 0
last_of_record place words rest e =
    let sum = sum_of place words in
    let size = length-words words in
    let long = length-checksum (word_bytes place ++ words_bytes words) in
    let parts : get_or (record_bytes place words ++ rest) (8 * length words + 7) 0
    ≡ get_or sum 7 0 =
    ap (λ z. get_or z (8 * length words + 7) 0)
    (append_assoc (words_bytes words) sum rest)
    ∙ get_or-append_right (words_bytes words) (sum ++ rest) (8 * length words)
    (8 * length words + 7) 0 size (omega arith)
    ∙ ap (λ z. get_or (sum ++ rest) z 0) seven
    ∙ get_or_append_left sum rest 0 7 (omega arith) in
    checksum_ends (word_bytes place ++ words_bytes words) (sym parts ∙ e)
  where
    seven : (8 * length words + 7) - 8 * length words ≡ 7
    seven = omega arith

-- ---- where the bytes were cut

-- what is left of the record that was cut
data IsCut (senders most place : ℕ) : List (List ℕ) → List ℕ → ℕ → Type 0 where
  Nowhere : (n : ℕ) → IsCut senders most place [] [] n
  Within : (c : List ℕ) (cs : List (List ℕ)) (n : ℕ) → IsChunk senders most c
      → n < length (record_bytes place c)
      → IsCut senders most place (c ∷ cs) (take n (record_bytes place c)) n

-- the records that lie within the first bytes, and what is left of the next
record CutAt (senders most place : ℕ) (cs : List (List ℕ)) (j : ℕ) : Type 0 where
  done : List (List ℕ)
  left : List (List ℕ)
  tail : List ℕ
  behind : ℕ
  place' : ℕ
  place_is : place' ≡ place + length (words_in done)
  both : cs ≡ done ++ left
  front : take j (records_bytes place cs) ≡ records_bytes place done ++ tail
  lies : length (records_bytes place done) + behind ≡ j
  is_cut : IsCut senders most place' left tail behind

take_none : (n : ℕ) → take {A = ℕ} n [] ≡ []
take_none zero = refl
take_none (suc n) = refl

cut_within : (senders most place : ℕ) (c : List ℕ) (cs : List (List ℕ)) (j : ℕ)
    → IsChunk senders most c → j < length (record_bytes place c)
    → CutAt senders most place (c ∷ cs) j
cut_within senders most place c cs j k below = record {
  done = [];
  left = c ∷ cs;
  tail = take j (record_bytes place c);
  behind = j;
  place' = place;
  place_is = omega arith;
  both = refl;
  front =
      take-append-le j (record_bytes place c) (records_bytes (place + length c) cs) (omega arith);
  lies = omega arith;
  is_cut = Within c cs j k below;
}

cut_behind : (senders most place : ℕ) (c : List ℕ) (cs : List (List ℕ)) (j : ℕ)
    → length (record_bytes place c) ≤ j
    → CutAt senders most (place + length c) cs (j - length (record_bytes place c))
    → CutAt senders most place (c ∷ cs) j
cut_behind senders most place c cs j past k =
    let record' = record_bytes place c in
    let m = j - length record' in
    let is : j ≡ length record' + m = omega arith in
    let size = length-append c (words_in k.done) in
    let there = k.place_is in
    let all = length-append record' (records_bytes (place + length c) k.done) in
    let lies' = k.lies in
    record {
      done = c ∷ k.done;
      left = k.left;
      tail = k.tail;
      behind = k.behind;
      place' = k.place';
      place_is = omega arith;
      both = ap (λ z. c ∷ z) k.both;
      front = ap (λ z. take z (record' ++ records_bytes (place + length c) cs)) is
          ∙ take-append-add record' (records_bytes (place + length c) cs) m
          ∙ ap (λ z. record' ++ z) k.front
          ∙ sym (append_assoc record' (records_bytes (place + length c) k.done) k.tail);
      lies = omega arith;
      is_cut = k.is_cut;
    }

cut_at : (senders most place : ℕ) (cs : List (List ℕ)) (j : ℕ)
    → AllByRecursion (IsChunk senders most) cs → CutAt senders most place cs j
cut_at senders most place [] j each = record {
  done = [];
  left = [];
  tail = [];
  behind = j;
  place' = place;
  place_is = omega arith;
  both = refl;
  front = take_none j;
  lies = omega arith;
  is_cut = Nowhere j;
}
cut_at senders most place (c ∷ cs) j each = elim (cases_lt j (length (record_bytes place c))) [
  | inl below ↦ cut_within senders most place c cs j each.0 below
  | inr past ↦ cut_behind senders most place c cs j past
      (cut_at senders most (place + length c) cs (j - length (record_bytes place c)) each.1)
]

-- ---- no record begins there, and the tail is torn

-- of a record's first bytes eight or more begin with its head
cut_head : (senders most place : ℕ) (c : List ℕ) (n : ℕ) (k : IsChunk senders most c) → 8 ≤ n
    → take n (record_bytes place c)
    ≡ word_bytes k.head ++ take (n - 8) (words_bytes k.body ++ (sum_of place c ++ []))
cut_head senders most place c n k long =
    ap (λ z. take n z)
    (sym (append-nil (record_bytes place c)) ∙ record_head senders most place c [] k)
    ∙ word_kept k.head (words_bytes k.body ++ (sum_of place c ++ [])) n long

none_there : (senders most place n : ℕ) (left : List (List ℕ)) (tail zeros rest g : List ℕ)
    → IsCut senders most place left tail n → All (λ b. b ≡ 0) zeros → IsChunk senders most g
    → tail ++ zeros ≡ record_bytes place g ++ rest → ⊥
none_there senders most place n [] [] zeros rest g (Nowhere m) nothing l e =
    let before =
    stands_before [] zeros (record_bytes place g ++ rest) (8 * length g + 7) (sym e) nothing
    (last_of_record place g rest) in
    absurd (omega arith)
none_there senders most place n [] (b ∷ tail) zeros rest g cut nothing l e = elim cut [ ]
none_there senders most place n (c ∷ cs) tail zeros rest g (Within b bs m k below) nothing l e =
    let before = stands_before (take m (record_bytes place b)) zeros (record_bytes place g ++ rest)
    (8 * length g + 7) (sym e) nothing (last_of_record place g rest) in
    let size = length-take m (record_bytes place b) in
    let long : 8 ≤ m = omega arith in
    let head = cut_head senders most place b m k long in
    let same = one_length senders most most b g
    (take (m - 8) (words_bytes k.body ++ (sum_of place b ++ [])) ++ zeros)
    (words_bytes l.body ++ (sum_of place g ++ rest)) k l
    (sym (append_assoc (word_bytes k.head)
    (take (m - 8) (words_bytes k.body ++ (sum_of place b ++ []))) zeros)
    ∙ ap (λ z. z ++ zeros) (sym head) ∙ e ∙ record_head senders most place g rest l) in
    let one = length-record place b in
    absurd (omega arith)

cut_is_short : (senders most place n : ℕ) (left : List (List ℕ)) (tail : List ℕ)
    → IsCut senders most place left tail n → IsShort senders most tail
cut_is_short senders most place n [] [] (Nowhere m) = inl (omega arith)
cut_is_short senders most place n [] (b ∷ tail) cut = elim cut [ ]
cut_is_short senders most place n (c ∷ cs) tail (Within b bs m k below) =
    elim (cases_lt m 8) [
      | inl few ↦ inl (let size = length-take m (record_bytes place b) in omega arith)
      | inr long ↦ inr (
        k.head,
        take (m - 8) (words_bytes k.body ++ (sum_of place b ++ [])),
        cut_head senders most place b m k long,
        k.may,
        (let size = length-take m (record_bytes place b) in
            let one = length-record place b in
            let words = length-chunk senders most b k in omega arith),
      )
    ]

-- ---- lists cut in two

-- a list of mapped elements, cut in two
record MapCut {A B : Type 0} (f : A → B) (xs : List A) (ys zs : List B) : Type 0 where
  first : List A
  second : List A
  both : xs ≡ first ++ second
  first_is : map f first ≡ ys
  second_is : map f second ≡ zs

map_cut : {A B : Type 0} (f : A → B) (xs : List A) (ys zs : List B) → map f xs ≡ ys ++ zs
    → MapCut f xs ys zs
map_cut f xs [] zs e = record {
  first = [];
  second = xs;
  both = refl;
  first_is = refl;
  second_is = e;
}
map_cut f [] (y ∷ ys) zs e = absurd cc
map_cut f (x ∷ xs) (y ∷ ys) zs e =
    let head : f x ≡ y = cc in
    let k = map_cut f xs ys zs (cc) in
    record {
      first = x ∷ k.first;
      second = k.second;
      both = ap (λ z. x ∷ z) k.both;
      first_is = (let rest = k.first_is in cc);
      second_is = k.second_is;
    }

-- two beginnings of one list: the second begins the first, or goes past it
record GoesPast {A : Type 0} (first second others : List A) : Type 0 where
  next : A
  further : List A
  rest : List A
  longer : others ≡ first ++ next ∷ further
  second_is : second ≡ next ∷ rest

beginnings : {A : Type 0} (first second others rest : List A) → first ++ second ≡ others ++ rest
    → ((more : List A) × (first ≡ others ++ more)) ⊎ GoesPast first second others
beginnings first second [] rest e = inl (first, refl)
beginnings [] second (x ∷ others) rest e = inr (record {
  next = x;
  further = others;
  rest = others ++ rest;
  longer = refl;
  second_is = e;
})
beginnings (y ∷ first) second (x ∷ others) rest e =
    let head : y ≡ x = cc in
    elim (beginnings first second others rest (cc)) [
      | inl h ↦ inl (h.0, (let k = h.1 in cc))
      | inr g ↦ inr (record {
        next = g.next;
        further = g.further;
        rest = g.rest;
        longer = (let k = g.longer in cc);
        second_is = g.second_is;
      })
    ]

-- ---- the law

-- what is left of a file
record Left (h : Heading) (frames : List Frame) (k : ℕ) (zeros bytes : List ℕ) : Type 0 where
  cut : CutAt h.senders h.most h.place (map frame_words frames) (k - length (header_bytes h))
  frames_cut : MapCut frame_words frames cut.done cut.left
  lawful : AreFrames h.senders frames_cut.first
  few : AreFew h.most frames_cut.first
  bytes_are : bytes ≡ journal_bytes h frames_cut.first ++ (cut.tail ++ zeros)

few_first : (most : ℕ) (xs ys : List Frame) → AreFew most (xs ++ ys) → AreFew most xs
few_first most xs ys each i d below =
    let size = length-append xs ys in
    subst (λ (z : Frame). length (body_words z.body) ≤ 8 * most)
    (get_or_append_left xs ys d i below) (each i d (omega arith))

left_of : (h : Heading) (frames : List Frame) (k : ℕ) (zeros bytes : List ℕ)
    → AreFrames h.senders frames → AreFew h.most frames → length (header_bytes h) ≤ k
    → bytes ≡ take k (journal_bytes h frames) ++ zeros → Left h frames k zeros bytes
left_of h frames k zeros bytes lawful few long e =
    let j = k - length (header_bytes h) in
    let chunks = map frame_words frames in
    let c = cut_at h.senders h.most h.place chunks j
    (frames_are_chunks h.senders h.most 0 frames lawful few) in
    let m = map_cut frame_words frames c.done c.left c.both in
    let is : k ≡ length (header_bytes h) + j = omega arith in
    record {
      cut = c;
      frames_cut = m;
      lawful = front_frames h.senders 0 m.first m.second
          (subst (λ z. AreFrames h.senders z) m.both lawful);
      few = few_first h.most m.first m.second (subst (λ z. AreFew h.most z) m.both few);
      bytes_are =
          e
          ∙ ap (λ z. z ++ zeros)
          (ap (λ z. take z (header_bytes h ++ records_bytes h.place chunks)) is
          ∙ take-append-add (header_bytes h) (records_bytes h.place chunks) j
          ∙ ap (λ z. header_bytes h ++ z) c.front
          ∙ sym (append_assoc (header_bytes h) (records_bytes h.place c.done) c.tail))
          ∙ append_assoc (header_bytes h ++ records_bytes h.place c.done) c.tail zeros
          ∙ ap (λ z. (header_bytes h ++ records_bytes h.place z) ++ (c.tail ++ zeros))
          (sym m.first_is);
    }

-- what an answer of such a file is
record Told (h : Heading) (frames : List Frame) (k : ℕ) (zeros bytes : List ℕ) (told : List Frame)
    (a : Answer) : Type 0 where
  left : Left h frames k zeros bytes
  headings : a.heading ≡ h
  told_is : told ≡ left.frames_cut.first
  rest_is : left.cut.tail ++ zeros ≡ drop a.whole bytes

told_of : (h : Heading) (frames : List Frame) (k : ℕ) (zeros bytes : List ℕ) (told : List Frame)
    (a : Answer) → IsHeading h → AreFrames h.senders frames → AreFew h.most frames
    → length (header_bytes h) ≤ k → All (λ b. b ≡ 0) zeros
    → bytes ≡ take k (journal_bytes h frames) ++ zeros → Reads bytes told a
    → Told h frames k zeros bytes told a
told_of h frames k zeros bytes told a is lawful few long nothing e r =
    make (left_of h frames k zeros bytes lawful few long e)
  where
    make : Left h frames k zeros bytes → Told h frames k zeros bytes told a
    make l =
        let first = l.frames_cut.first in
        let m =
        has_more h first (l.cut.tail ++ zeros) bytes told a is l.lawful l.few l.bytes_are r in
        let there : h.place + length (log_words first) ≡ l.cut.place' =
        ap (λ z. h.place + length z)
        (sym (words_of_frames first) ∙ ap words_in l.frames_cut.first_is)
        ∙ sym l.cut.place_is in
        none l m.headings m.later m.longer
        (m.rest_is
        ∙ ap (λ z. records_bytes z (map frame_words m.later) ++ drop a.whole bytes) there)
        m.chunks
      where
        none : (l : Left h frames k zeros bytes) → a.heading ≡ h → (later : List Frame)
            → told ≡ l.frames_cut.first ++ later
            → l.cut.tail ++ zeros
            ≡ records_bytes l.cut.place' (map frame_words later) ++ drop a.whole bytes
            → AllByRecursion (IsChunk h.senders h.most) (map frame_words later)
            → Told h frames k zeros bytes told a
        none l same [] longer rest chunks = record {
          left = l;
          headings = same;
          told_is = longer ∙ append-nil l.frames_cut.first;
          rest_is = rest;
        }
        none l same (g ∷ later) longer rest chunks =
            let more =
            records_bytes (l.cut.place' + length (frame_words g)) (map frame_words later) in
            absurd
            (none_there h.senders h.most l.cut.place' l.cut.behind l.cut.left l.cut.tail zeros
            (more ++ drop a.whole bytes) (frame_words g) l.cut.is_cut nothing chunks.0
            (rest ∙ append_assoc (record_bytes l.cut.place' (frame_words g)) more
            (drop a.whole bytes)))

-- the record that was cut does not lie within
cut_long : (senders most place n : ℕ) (left : List (List ℕ)) (tail c : List ℕ) (cs : List (List ℕ))
    → IsCut senders most place left tail n → left ≡ c ∷ cs → n < length (record_bytes place c)
cut_long senders most place n [] [] c cs (Nowhere m) e = absurd cc
cut_long senders most place n [] (b ∷ tail) c cs cut e = elim cut [ ]
cut_long senders most place n (d ∷ ds) tail c cs (Within b bs m k below) e =
    let same : b ≡ c = cc in subst (λ z. m < length (record_bytes place z)) same below

length-journal : (h : Heading) (frames : List Frame) → length (journal_bytes h frames)
    ≡ length (header_bytes h) + length (records_bytes h.place (map frame_words frames))
length-journal h frames =
    length-append (header_bytes h) (records_bytes h.place (map frame_words frames))

most_within : (h : Heading) (frames : List Frame) (k : ℕ) (zeros bytes : List ℕ)
    → length (header_bytes h) ≤ k → (l : Left h frames k zeros bytes)
    → IsMostWithin k h l.frames_cut.first frames
most_within h frames k zeros bytes long l = record {
  later = l.frames_cut.second;
  first = l.frames_cut.both;
  within = (let size = length-journal h first in let lies = l.cut.lies in
      let same = ap (λ z. length (records_bytes h.place z)) l.frames_cut.first_is in omega arith);
  most = λ others rest e within.
      elim (beginnings first l.frames_cut.second others rest (sym l.frames_cut.both ∙ e)) [
        | inl h ↦ h
        | inr g ↦ absurd (too_long others g within)
      ];
}
  where
    first : List Frame
    first = l.frames_cut.first

    too_long : (others : List Frame) → GoesPast first l.frames_cut.second others
        → length (journal_bytes h others) ≤ k → ⊥
    too_long others g within =
        let left_is : l.cut.left ≡ frame_words g.next ∷ map frame_words g.rest =
        sym l.frames_cut.second_is ∙ ap (λ z. map frame_words z) g.second_is in
        let long' = cut_long h.senders h.most l.cut.place' l.cut.behind l.cut.left l.cut.tail
        (frame_words g.next) (map frame_words g.rest) l.cut.is_cut left_is in
        let place : h.place + length (words_in (map frame_words first)) ≡ l.cut.place' =
        ap (λ z. h.place + length (words_in z)) l.frames_cut.first_is ∙ sym l.cut.place_is in
        let next = record_bytes l.cut.place' (frame_words g.next) in
        let more =
        records_bytes (l.cut.place' + length (frame_words g.next)) (map frame_words g.further) in
        let records_are : records_bytes h.place (map frame_words others)
        ≡ records_bytes h.place l.cut.done ++ (next ++ more) =
        ap (λ z. records_bytes h.place z)
        (ap (λ z. map frame_words z) g.longer ∙ map-append frame_words first (g.next ∷ g.further))
        ∙ records-append h.place (map frame_words first) (map frame_words (g.next ∷ g.further))
        ∙ ap (λ z. records_bytes h.place (map frame_words first)
        ++ records_bytes z (map frame_words (g.next ∷ g.further))) place
        ∙ ap (λ z. records_bytes h.place z ++ (next ++ more)) l.frames_cut.first_is in
        let size = length-journal h others in
        let sizes = ap length records_are in
        let a = length-append (records_bytes h.place l.cut.done) (next ++ more) in
        let b = length-append next more in
        let lies = l.cut.lies in
        absurd (omega arith)

pub cut_told : (h : Heading) (frames : List Frame) (k : ℕ) (zeros bytes : List ℕ)
    (told : List Frame) (a : Answer) → IsHeading h → AreFrames h.senders frames
    → AreFew h.most frames → length (header_bytes h) ≤ k → All (λ b. b ≡ 0) zeros
    → bytes ≡ take k (journal_bytes h frames) ++ zeros → Reads bytes told a
    → (a.heading ≡ h) × IsMostWithin k h told frames
cut_told h frames k zeros bytes told a is lawful few long nothing e r =
    let t = told_of h frames k zeros bytes told a is lawful few long nothing e r in (
      t.headings,
      subst (λ z. IsMostWithin k h z frames) (sym t.told_is)
          (most_within h frames k zeros bytes long t.left),
    )

pub cut_ends : (h : Heading) (frames : List Frame) (k : ℕ) (zeros bytes : List ℕ)
    (told : List Frame) (a : Answer) → IsHeading h → AreFrames h.senders frames
    → AreFew h.most frames → length (header_bytes h) ≤ k → All (λ b. b ≡ 0) zeros
    → bytes ≡ take k (journal_bytes h frames) ++ zeros → Reads bytes told a → a.end ≢ end.Damaged
cut_ends h frames k zeros bytes told a is lawful few long nothing e r damaged =
    let t = told_of h frames k zeros bytes told a is lawful few long nothing e r in
    let c = t.left.cut in
    let torn : IsTornRest h.senders h.most (drop a.whole bytes) = record {
      written = c.tail;
      zeros = zeros;
      parts = sym t.rest_is;
      short = cut_is_short h.senders h.most c.place' c.behind c.left c.tail c.is_cut;
      nothing = nothing;
    } in
    (subst (λ z. EndsAs a.heading.senders a.heading.most (drop a.whole bytes) z) damaged r.ends)
    (subst (λ (z : Heading). IsTornRest z.senders z.most (drop a.whole bytes)) (sym t.headings)
    torn)
