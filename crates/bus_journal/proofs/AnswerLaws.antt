-- What answers of a journal are.
use Rattle.std.proofs.Common.{◌≡◌, ◌≢◌, ℕ, ◌+◌, ◌*◌, ◌≤◌, List, [], ◌∷◌, ◌++◌, length}
use Rattle.std.proofs.Common.{drop, map, refl, sym, ap, subst, ◌∙◌, append_assoc, arith}
use Rattle.std.proofs.Common.{inl, inr, get_or, take, ◌-◌}
use Rattle.std.specs.List.{AllByRecursion}
use Rattle.std.proofs.lemmas.List.{length-append, length-drop, append-nil, append_cancel_left}
use Rattle.std.proofs.lemmas.List.{nil_from_length, map-append}
use Rattle.std.proofs.lemmas.List.Elements.{All-nil, All-cons}
use Rattle.std.proofs.lemmas.List.{map_push, take_all, length-take-le, take-append-drop}
use Rattle.std.proofs.lemmas.List.{get_or-append_right}
use Rattle.std.specs.Prelude.{◌||◌, Bool, true, false, IsTrue, ◌↔◌, flat_map}
use Rattle.std.proofs.lemmas.List.Concat.{flat_map-append}
use Rattle.bus_register.specs.declared.limits.TheConstants.{MOST_MESSAGES}
use Rattle.bus_register.specs.declared.registers.SenderNo.{SenderNo}
use Rattle.bus_batch.specs.Frames.{Frame, Order, IsFrame, AreFrames, frame_words, body_words}
use Rattle.bus_batch.specs.Frames.{order_of, log_words, tenure_and_owner}
use Rattle.bus_batch.specs.declared.messages.Mark.TheVariants as mark
use Rattle.bus_batch.specs.Frames.{Body, Messages, Marked, AreFramesFrom, has_end, ends, entries_of}
use Rattle.bus_batch.proofs.Heads.{body_most}
use Rattle.bus_deliverylog.specs.Orders.{IsPrefixOfOrder}
use Rattle.bus_journal.specs.declared.ends.JournalEnd.{JournalEnd}
use Rattle.bus_journal.specs.declared.ends.JournalEnd.TheVariants as end
use Rattle.bus_journal.specs.Format.{Heading, IsHeading, header_bytes, journal_bytes, record_bytes}
use Rattle.bus_journal.specs.Format.{records_bytes, word_bytes, words_bytes, checksum}
use Rattle.bus_journal.specs.Records.{IsChunk, IsTornRest, IsShort, HidesRecord, count_of}
use Rattle.bus_journal.specs.Reading.{AreFew, Answer, Reads, EndsAs, IsJournal, HasRecords}
use Rattle.bus_journal.specs.Walks.{words_in}
use Rattle.bus_journal.proofs.Words.{length-words, length-checksum, same_parts, one_word}
use Rattle.bus_journal.proofs.Chunks.{length-record, one_length, record_head, head_fits}
use Rattle.bus_journal.proofs.Chunks.{length-chunk}
use Rattle.bus_journal.proofs.Chunks.{records-append, records-push, sum_of, chunk_head}
use Rattle.bus_journal.proofs.Frames.{frames_are_chunks, frame_is_chunk, words_of_frames}
use Rattle.bus_journal.proofs.Shorts.{torn_is_short}
use Rattle.bus_journal.proofs.HeaderLaws.{one_header}

-- ---- two answers

both_begin : {A : Type 0} (xs ys m n : List A) → xs ≡ ys ++ m → ys ≡ xs ++ n → xs ≡ ys
both_begin xs ys m n e e' =
    let size = ap length e in
    let size' = ap length e' in
    let a = length-append ys m in
    let b = length-append xs n in
    e ∙ ap (λ z. ys ++ z) (nil_from_length m (omega arith)) ∙ append-nil ys

nothing_torn : (senders most : ℕ) → IsTornRest senders most []
nothing_torn senders most = record {
  written = [];
  zeros = [];
  parts = refl;
  short = inl (omega arith);
  nothing = All-nil (λ b. b ≡ 0);
}

-- a rest ends in one way
one_end : (senders most : ℕ) (rest : List ℕ) (e f : JournalEnd) → EndsAs senders most rest e
    → EndsAs senders most rest f → e ≡ f
one_end senders most rest end.Whole end.Whole a b = refl
one_end senders most rest end.Whole end.Torn a b = absurd (b.0 a)
one_end senders most rest end.Whole end.Damaged a b =
    absurd (b (subst (IsTornRest senders most) (sym a) (nothing_torn senders most)))
one_end senders most rest end.Torn end.Whole a b = absurd (a.0 b)
one_end senders most rest end.Torn end.Torn a b = refl
one_end senders most rest end.Torn end.Damaged a b = absurd (b a.1)
one_end senders most rest end.Damaged end.Whole a b =
    absurd (a (subst (IsTornRest senders most) (sym b) (nothing_torn senders most)))
one_end senders most rest end.Damaged end.Torn a b = absurd (a b.1)
one_end senders most rest end.Damaged end.Damaged a b = refl

abbrev answer_as : Heading → Order → List (ℕ × SenderNo) → List ℕ → ℕ → JournalEnd → ℕ → Bool
    → Answer
answer_as h o w s p e n b = record {
  heading = h;
  order = o;
  owners = w;
  words = s;
  place = p;
  end = e;
  whole = n;
  hides = b;
}

same_answer : (a b : Answer) → a.heading ≡ b.heading → a.order ≡ b.order → a.owners ≡ b.owners
    → a.words ≡ b.words → a.place ≡ b.place → a.end ≡ b.end → a.whole ≡ b.whole
    → a.hides ≡ b.hides → a ≡ b
same_answer a b h o w s p e n i =
    ap (λ z. answer_as z a.order a.owners a.words a.place a.end a.whole a.hides) h
    ∙ ap (λ z. answer_as b.heading z a.owners a.words a.place a.end a.whole a.hides) o
    ∙ ap (λ z. answer_as b.heading b.order z a.words a.place a.end a.whole a.hides) w
    ∙ ap (λ z. answer_as b.heading b.order b.owners z a.place a.end a.whole a.hides) s
    ∙ ap (λ z. answer_as b.heading b.order b.owners b.words z a.end a.whole a.hides) p
    ∙ ap (λ z. answer_as b.heading b.order b.owners b.words b.place z a.whole a.hides) e
    ∙ ap (λ z. answer_as b.heading b.order b.owners b.words b.place b.end z a.hides) n
    ∙ ap (λ z. answer_as b.heading b.order b.owners b.words b.place b.end b.whole z) i

-- what two answers say is true just where the same is
same_hiding : {P Q : Type 0} (x y : Bool) → IsTrue x ↔ P → IsTrue y ↔ Q → (P → Q) → (Q → P)
    → x ≡ y
same_hiding true true a b there back = refl
same_hiding false false a b there back = refl
same_hiding true false a b there back = sym (b.1 (there (a.0 refl)))
same_hiding false true a b there back = a.1 (back (b.0 refl))

-- two journals in the same bytes have one header and one body
record OneBody (h k : Heading) (b c : List ℕ) : Type 0 where
  headings : h ≡ k
  bodies : b ≡ c

one_body : (h k : Heading) (fs gs : List Frame) (r s bytes : List ℕ) (i : IsJournal h fs r bytes)
    (j : IsJournal k gs s bytes) → OneBody h k i.body j.body
one_body h k fs gs r s bytes i j =
    let one = one_header h k i.body j.body i.heading j.heading (sym i.bytes_are ∙ j.bytes_are) in
    record { headings = one.0; bodies = one.1 }

same_size : (bytes : List ℕ) (m n : ℕ) → m ≤ length bytes → n ≤ length bytes
    → drop m bytes ≡ drop n bytes → m ≡ n
same_size bytes m n few few' e =
    let a = length-drop m bytes in
    let b = length-drop n bytes in
    let c = ap length e in
    omega arith

pub one_answer : (bytes : List ℕ) (fs gs : List Frame) (a b : Answer) → Reads bytes fs a
    → Reads bytes gs b → (fs ≡ gs) × (a ≡ b)
one_answer bytes fs gs a b r s =
    let i = r.tells.journal in
    let j = s.tells.journal in
    let one =
    one_body a.heading b.heading fs gs (drop a.whole bytes) (drop b.whole bytes) bytes i j in
    let h = one.headings in
    let begin = r.longest gs (drop b.whole bytes)
    (subst (λ z. IsJournal z gs (drop b.whole bytes) bytes) (sym h) j) in
    let begin' = s.longest fs (drop a.whole bytes)
    (subst (λ z. IsJournal z fs (drop a.whole bytes) bytes) h i) in
    let frames = both_begin fs gs begin.0 begin'.0 begin.1 begin'.1 in
    let records = records_bytes a.heading.place (map frame_words fs) in
    let records_are : records_bytes b.heading.place (map frame_words gs) ≡ records =
    ap (λ (z : Heading). records_bytes z.place (map frame_words gs)) (sym h)
    ∙ ap (λ z. records_bytes a.heading.place (map frame_words z)) (sym frames) in
    let rests : drop a.whole bytes ≡ drop b.whole bytes =
    append_cancel_left records (drop a.whole bytes) (drop b.whole bytes)
    (sym i.records.body_is ∙ one.bodies ∙ j.records.body_is
    ∙ ap (λ z. z ++ drop b.whole bytes) records_are) in
    let ends = one_end a.heading.senders a.heading.most (drop a.whole bytes) a.end b.end r.ends
    (subst (λ (z : Heading). EndsAs z.senders z.most (drop a.whole bytes) b.end) (sym h)
    (subst (λ z. EndsAs b.heading.senders b.heading.most z b.end) (sym rests) s.ends)) in
    let places : a.place ≡ b.place =
    r.tells.place_is
    ∙ ap (λ (z : Heading). z.place + length (log_words fs)) h
    ∙ ap (λ z. b.heading.place + length (log_words z)) frames
    ∙ sym s.tells.place_is in (
      frames,
      same_answer a b h
          (r.tells.order_is ∙ ap order_of frames ∙ sym s.tells.order_is)
          (r.tells.owners_are ∙ ap (λ z. map tenure_and_owner z) frames ∙ sym s.tells.owners_are)
          (r.tells.words_are ∙ ap log_words frames ∙ sym s.tells.words_are)
          places
          ends
          (same_size bytes a.whole b.whole r.tells.within s.tells.within rests)
          (same_hiding a.hides b.hides r.hides s.hides
          (hiding a.heading b.heading a.place b.place (drop a.whole bytes) (drop b.whole bytes)
          a.end b.end h places rests ends)
          (hiding b.heading a.heading b.place a.place (drop b.whole bytes) (drop a.whole bytes)
          b.end a.end (sym h) (sym places) (sym rests) (sym ends))),
    )
  where
    Hides : Heading → ℕ → List ℕ → JournalEnd → Type 0
    Hides h place rest e = (e ≡ end.Torn) × HidesRecord h.senders h.most place rest

    hiding : (h k : Heading) (p q : ℕ) (x y : List ℕ) (e f : JournalEnd) → h ≡ k → p ≡ q → x ≡ y
        → e ≡ f → Hides h p x e → Hides k q y f
    hiding h k p q x y e f hk pq xy ef hides =
        subst (λ z. Hides k q y z) ef (subst (λ z. Hides k q z e) xy
        (subst (λ z. Hides k z x e) pq (subst (λ z. Hides z p x e) hk hides)))

-- ---- an answer of what was written

pub journal_there : (h : Heading) (frames : List Frame) (behind bytes : List ℕ) → IsHeading h
    → AreFrames h.senders frames → AreFew h.most frames → bytes ≡ journal_bytes h frames ++ behind
    → IsJournal h frames behind bytes
journal_there h frames behind bytes is lawful few e =
    let records = records_bytes h.place (map frame_words frames) in
    record {
      heading = is;
      body = records ++ behind;
      records = record { lawful = lawful; few = few; body_is = refl };
      bytes_are = e ∙ append_assoc (header_bytes h) records behind;
    }

-- what an answer has behind frames that were written
pub record HasMore (h : Heading) (frames : List Frame) (behind bytes : List ℕ) (told : List Frame)
    (a : Answer) : Type 0 where
  pub headings : a.heading ≡ h
  pub later : List Frame
  pub longer : told ≡ frames ++ later
  pub rest_is : behind
      ≡ records_bytes (h.place + length (log_words frames)) (map frame_words later)
      ++ drop a.whole bytes
  pub chunks : AllByRecursion (IsChunk h.senders h.most) (map frame_words later)

back_chunks : (P : List ℕ → Type 0) (cs ds : List (List ℕ)) → AllByRecursion P (cs ++ ds)
    → AllByRecursion P ds
back_chunks P [] ds each = each
back_chunks P (c ∷ cs) ds each = back_chunks P cs ds each.1

pub has_more : (h : Heading) (frames : List Frame) (behind bytes : List ℕ) (told : List Frame)
    (a : Answer) → IsHeading h → AreFrames h.senders frames → AreFew h.most frames
    → bytes ≡ journal_bytes h frames ++ behind → Reads bytes told a
    → HasMore h frames behind bytes told a
unfolding journal_there
has_more h frames behind bytes told a is lawful few e r =
    let i = r.tells.journal in
    let j = journal_there h frames behind bytes is lawful few e in
    let one = one_body a.heading h told frames (drop a.whole bytes) behind bytes i j in
    let k = r.longest frames behind
    (subst (λ z. IsJournal z frames behind bytes) (sym one.headings) j) in
    let maps : map frame_words told ≡ map frame_words frames ++ map frame_words k.0 =
    ap (λ z. map frame_words z) k.1 ∙ map-append frame_words frames k.0 in
    let has : HasRecords h told (drop a.whole bytes) i.body =
    subst (λ z. HasRecords z told (drop a.whole bytes) i.body) one.headings i.records in
    let records = records_bytes h.place (map frame_words frames) in
    let there = h.place + length (words_in (map frame_words frames)) in
    let more = records_bytes there (map frame_words k.0) in
    let whole : records ++ behind ≡ records ++ (more ++ drop a.whole bytes) =
    sym one.bodies ∙ has.body_is
    ∙ ap (λ z. z ++ drop a.whole bytes)
    (ap (λ z. records_bytes h.place z) maps
    ∙ records-append h.place (map frame_words frames) (map frame_words k.0))
    ∙ append_assoc records more (drop a.whole bytes) in
    record {
      headings = one.headings;
      later = k.0;
      longer = k.1;
      rest_is = append_cancel_left records behind (more ++ drop a.whole bytes) whole
          ∙ ap (λ z. records_bytes (h.place + length z) (map frame_words k.0) ++ drop a.whole bytes)
          (words_of_frames frames);
      chunks = back_chunks (IsChunk h.senders h.most) (map frame_words frames)
          (map frame_words k.0)
          (subst (AllByRecursion (IsChunk h.senders h.most)) maps
          (frames_are_chunks h.senders h.most 0 told has.lawful has.few));
    }

-- ---- what is not allowed

-- a record whose checksum fails is no record, nor is anything behind it told
pub none_skipped : (h : Heading) (frames : List Frame) (f : Frame) (sum behind bytes : List ℕ)
    (told : List Frame) (a : Answer) → IsHeading h → AreFrames h.senders frames
    → AreFew h.most frames → IsFrame h.senders f → length sum ≡ 8
    → sum
    ≢ checksum (word_bytes (h.place + length (log_words frames)) ++ words_bytes (frame_words f))
    → bytes ≡ journal_bytes h frames ++ (words_bytes (frame_words f) ++ (sum ++ behind))
    → Reads bytes told a → told ≡ frames
none_skipped h frames f sum behind bytes told a is lawful few lawful' size other e r =
    none m.later m.longer m.rest_is m.chunks
  where
    tail : List ℕ
    tail = words_bytes (frame_words f) ++ (sum ++ behind)

    m : HasMore h frames tail bytes told a
    m = has_more h frames tail bytes told a is lawful few e r

    place : ℕ
    place = h.place + length (log_words frames)

    none : (later : List Frame) → told ≡ frames ++ later
        → tail ≡ records_bytes place (map frame_words later) ++ drop a.whole bytes
        → AllByRecursion (IsChunk h.senders h.most) (map frame_words later) → told ≡ frames
    none [] longer rest chunks = longer ∙ append-nil frames
    none (g ∷ later) longer rest chunks =
        let more = records_bytes (place + length (frame_words g)) (map frame_words later)
        ++ drop a.whole bytes in
        let parts : tail ≡ record_bytes place (frame_words g) ++ more =
        rest ∙ append_assoc (record_bytes place (frame_words g))
        (records_bytes (place + length (frame_words g)) (map frame_words later))
        (drop a.whole bytes) in
        let k = frame_is_chunk h.senders MOST_MESSAGES f lawful' (body_most f.body lawful'.body) in
        let l = chunks.0 in
        let heads = sym (chunk_head h.senders MOST_MESSAGES (frame_words f) (sum ++ behind) k) in
        let long = one_length h.senders MOST_MESSAGES h.most (frame_words f) (frame_words g)
        (words_bytes k.body ++ (sum ++ behind))
        (words_bytes l.body ++ (sum_of place (frame_words g) ++ more)) k l
        (heads ∙ parts ∙ record_head h.senders h.most place (frame_words g) more l) in
        let split = same_parts (words_bytes (frame_words f)) (words_bytes (frame_words g))
        (sum ++ behind) (sum_of place (frame_words g) ++ more)
        (length-words (frame_words f) ∙ ap (λ z. 8 * z) long ∙ sym (length-words (frame_words g)))
        (parts ∙ append_assoc (words_bytes (frame_words g)) (sum_of place (frame_words g)) more) in
        let sums = same_parts sum (sum_of place (frame_words g)) behind more
        (size ∙ sym (length-checksum (word_bytes place ++ words_bytes (frame_words g)))) split.1 in
        absurd (other (sums.0 ∙ ap (λ z. checksum (word_bytes place ++ z)) (sym split.0)))

-- Where such a record has all its bytes, nothing behind it and no zero at the end, the file is
-- damaged.
pub none_torn : (h : Heading) (frames : List Frame) (f : Frame) (sum bytes : List ℕ)
    (told : List Frame) (a : Answer) → IsHeading h → AreFrames h.senders frames
    → AreFew h.most frames → IsFrame h.senders f → length sum ≡ 8 → get_or sum 7 0 ≢ 0
    → sum
    ≢ checksum (word_bytes (h.place + length (log_words frames)) ++ words_bytes (frame_words f))
    → bytes ≡ journal_bytes h frames ++ (words_bytes (frame_words f) ++ sum)
    → Reads bytes told a → a.end ≡ end.Damaged
none_torn h frames f sum bytes told a is lawful few lawful' size last other e r =
    one_end a.heading.senders a.heading.most (drop a.whole bytes) a.end end.Damaged r.ends
    (subst (λ z. ¬ IsTornRest a.heading.senders a.heading.most z) rest
    (not_torn a.heading.senders a.heading.most))
  where
    tail : List ℕ
    tail = words_bytes (frame_words f) ++ sum

    m : HasMore h frames tail bytes told a
    m = has_more h frames tail bytes told a is lawful few e r

    place : ℕ
    place = h.place + length (log_words frames)

    told_is : told ≡ frames
    told_is = none_skipped h frames f sum [] bytes told a is lawful few lawful' size other
        (e ∙ ap (λ z. journal_bytes h frames ++ (words_bytes (frame_words f) ++ z))
        (sym (append-nil sum))) r

    nobody : (later : List Frame) → told ≡ frames ++ later → later ≡ []
    nobody later longer =
        let long = ap length (sym longer ∙ told_is) in
        let parts = length-append frames later in
        nil_from_length later (omega (arith, long, parts))

    rest : tail ≡ drop a.whole bytes
    rest =
        m.rest_is
        ∙ ap (λ z. records_bytes place (map frame_words z) ++ drop a.whole bytes)
        (nobody m.later m.longer)

    k : IsChunk h.senders MOST_MESSAGES (frame_words f)
    k = frame_is_chunk h.senders MOST_MESSAGES f lawful' (body_most f.body lawful'.body)

    long : length tail ≡ 8 * (length (frame_words f) + 1)
    long =
        let parts = length-append (words_bytes (frame_words f)) sum in
        let words = length-words (frame_words f) in
        omega (arith, parts, words, size)

    last_is : get_or tail (length tail - 1) 0 ≢ 0
    last_is zero =
        let words = length-words (frame_words f) in
        let at : (length tail - 1) - 8 * length (frame_words f) ≡ 7 = omega (arith, long) in
        last (sym (get_or-append_right (words_bytes (frame_words f)) sum
        (8 * length (frame_words f)) (length tail - 1) 0 words (omega (arith, long))
        ∙ ap (λ z. get_or sum z 0) at) ∙ zero)

    not_short : (senders most : ℕ) → ¬ IsShort senders most tail
    not_short senders most (inl few) = absurd (omega (arith, few, long))
    not_short senders most (inr s) =
        let heads = one_word k.head s.0 (words_bytes k.body ++ sum) s.1
        (head_fits h.senders MOST_MESSAGES k.head k.may) (head_fits senders most s.0 s.3)
        (sym (chunk_head h.senders MOST_MESSAGES (frame_words f) sum k) ∙ s.2) in
        let counts = ap count_of heads.0 in
        let words = length-chunk h.senders MOST_MESSAGES (frame_words f) k in
        let few = s.4 in
        absurd (omega (arith, few, words, counts, long))

    not_torn : (senders most : ℕ) → ¬ IsTornRest senders most tail
    not_torn senders most t =
        not_short senders most (subst (λ z. IsShort senders most z)
        (take_all (length tail) tail (omega arith))
        (torn_is_short senders most tail (length tail) (omega arith) (λ some. last_is) t))

-- one byte more is torn
pub byte_torn : (h : Heading) (frames : List Frame) (byte : ℕ) (bytes : List ℕ) (told : List Frame)
    (a : Answer) → IsHeading h → AreFrames h.senders frames → AreFew h.most frames
    → bytes ≡ journal_bytes h frames ++ byte ∷ [] → Reads bytes told a → a.end ≡ end.Torn
byte_torn h frames byte bytes told a is lawful few e r =
    let m = has_more h frames (byte ∷ []) bytes told a is lawful few e r in
    one_end a.heading.senders a.heading.most (drop a.whole bytes) a.end end.Torn r.ends
    (subst (λ z. EndsAs a.heading.senders a.heading.most z end.Torn)
    (none m.later m.rest_is) ((λ empty. absurd cc), torn a.heading.senders a.heading.most))
  where
    torn : (senders most : ℕ) → IsTornRest senders most (byte ∷ [])
    torn senders most = record {
      written = byte ∷ [];
      zeros = [];
      parts = refl;
      short = inl (omega arith);
      nothing = All-nil (λ b. b ≡ 0);
    }

    none : (later : List Frame)
        → byte ∷ [] ≡ records_bytes (h.place + length (log_words frames)) (map frame_words later)
        ++ drop a.whole bytes
        → byte ∷ [] ≡ drop a.whole bytes
    none [] e = e
    none (g ∷ later) e =
        let place = h.place + length (log_words frames) in
        let size = ap length e in
        let records = records_bytes (place + length (frame_words g)) (map frame_words later) in
        let all = length-append (record_bytes place (frame_words g) ++ records)
        (drop a.whole bytes) in
        let both = length-append (record_bytes place (frame_words g)) records in
        let one = length-record place (frame_words g) in
        absurd (omega arith)

-- no frame is left out at the end
pub not_early : (h : Heading) (frames : List Frame) (f : Frame) (bytes : List ℕ) (a : Answer)
    → IsHeading h → AreFrames h.senders (frames ++ f ∷ []) → AreFew h.most (frames ++ f ∷ [])
    → bytes ≡ journal_bytes h (frames ++ f ∷ []) → Reads bytes frames a → ⊥
not_early h frames f bytes a is lawful few e r =
    let all = frames ++ f ∷ [] in
    let m = has_more h all [] bytes frames a is lawful few
    (e ∙ sym (append-nil (journal_bytes h all))) r in
    let long = ap length m.longer in
    let parts = length-append all m.later in
    let one = length-append frames (f ∷ []) in
    absurd (omega (arith, long, parts, one))

-- ---- a tail that is cut off

-- so much as the whole records have is what is written of their frames
pub is_left : (bytes : List ℕ) (frames : List Frame) (a : Answer) → Reads bytes frames a
    → take a.whole bytes ≡ journal_bytes a.heading frames
is_left bytes frames a r =
    (same_parts left (journal_bytes a.heading frames) (drop a.whole bytes) (drop a.whole bytes)
    sizes both).0
  where
    i : IsJournal a.heading frames (drop a.whole bytes) bytes
    i = r.tells.journal

    left : List ℕ
    left = take a.whole bytes

    both : left ++ drop a.whole bytes ≡ journal_bytes a.heading frames ++ drop a.whole bytes
    both =
        take-append-drop a.whole bytes ∙ i.bytes_are
        ∙ ap (λ z. header_bytes a.heading ++ z) i.records.body_is
        ∙ sym (append_assoc (header_bytes a.heading)
        (records_bytes a.heading.place (map frame_words frames)) (drop a.whole bytes))

    sizes : length left ≡ length (journal_bytes a.heading frames)
    sizes =
        let all = ap length both in
        let one = length-append left (drop a.whole bytes) in
        let other = length-append (journal_bytes a.heading frames) (drop a.whole bytes) in
        omega (arith, all, one, other)

-- and each answer of it is of just these frames, and whole
pub mended : (bytes : List ℕ) (frames told : List Frame) (a b : Answer) → Reads bytes frames a
    → Reads (take a.whole bytes) told b
    → (told ≡ frames) × (b.heading ≡ a.heading) × (b.end ≡ end.Whole) × (b.whole ≡ a.whole)
mended bytes frames told a b r s =
    (m.longer ∙ ap (λ z. frames ++ z) nobody.0 ∙ append-nil frames, m.headings, end_is, same)
  where
    left : List ℕ
    left = take a.whole bytes

    i : IsJournal a.heading frames (drop a.whole bytes) bytes
    i = r.tells.journal

    is_journal : left ≡ journal_bytes a.heading frames ++ []
    is_journal = is_left bytes frames a r ∙ sym (append-nil (journal_bytes a.heading frames))

    m : HasMore a.heading frames [] left told b
    m = has_more a.heading frames [] left told b i.heading i.records.lawful i.records.few
        is_journal s

    none : (later : List Frame)
        → [] ≡ records_bytes (a.heading.place + length (log_words frames)) (map frame_words later)
        ++ drop b.whole left
        → (later ≡ []) × (drop b.whole left ≡ [])
    none [] e = (refl, sym e)
    none (g ∷ later) e =
        let place = a.heading.place + length (log_words frames) in
        let size = ap length e in
        let records = records_bytes (place + length (frame_words g)) (map frame_words later) in
        let all = length-append (record_bytes place (frame_words g) ++ records)
        (drop b.whole left) in
        let both = length-append (record_bytes place (frame_words g)) records in
        let one = length-record place (frame_words g) in
        absurd (omega (arith, size, all, both, one))

    nobody : (m.later ≡ []) × (drop b.whole left ≡ [])
    nobody = none m.later m.rest_is

    end_is : b.end ≡ end.Whole
    end_is = one_end b.heading.senders b.heading.most (drop b.whole left) b.end end.Whole s.ends
        nobody.1

    same : b.whole ≡ a.whole
    same =
        let size = length-take-le a.whole bytes r.tells.within in
        let rest = length-drop b.whole left in
        let nothing = ap length nobody.1 in
        let within = s.tells.within in
        omega (arith, size, rest, nothing, within)

-- ---- what is written grows

pub grows_none : (h : Heading) → journal_bytes h [] ≡ header_bytes h
grows_none h = append-nil (header_bytes h)

pub grows_more : (h : Heading) (frames : List Frame) (f : Frame)
    → journal_bytes h (frames ++ f ∷ [])
    ≡ journal_bytes h frames ++ record_bytes (h.place + length (log_words frames)) (frame_words f)
grows_more h frames f =
    let records = records_bytes h.place (map frame_words frames) in
    ap (λ z. header_bytes h ++ z)
    (ap (λ z. records_bytes h.place z) (map_push frame_words frames f)
    ∙ records-push h.place (map frame_words frames) (frame_words f)
    ∙ ap (λ z. records ++ record_bytes (h.place + length z) (frame_words f))
    (words_of_frames frames))
    ∙ sym (append_assoc (header_bytes h) records
    (record_bytes (h.place + length (log_words frames)) (frame_words f)))

-- a batch of as many messages as a frame has at most leaves none out
pub grows_by : (h : Heading) (frames others : List Frame)
    → journal_bytes h (frames ++ others) ≡ journal_bytes h frames
    ++ records_bytes (h.place + length (log_words frames)) (map frame_words others)
grows_by h frames others =
    ap (λ z. header_bytes h ++ records_bytes h.place z) (map-append frame_words frames others)
    ∙ ap (λ z. header_bytes h ++ z)
    (records-append h.place (map frame_words frames) (map frame_words others))
    ∙ ap (λ z. header_bytes h ++ (records_bytes h.place (map frame_words frames)
    ++ records_bytes (h.place + length z) (map frame_words others))) (words_of_frames frames)
    ∙ sym (append_assoc (header_bytes h) (records_bytes h.place (map frame_words frames))
    (records_bytes (h.place + length (log_words frames)) (map frame_words others)))

pub all_few : (senders least most : ℕ) (frames : List Frame) → AreFramesFrom senders least frames
    → MOST_MESSAGES ≤ most → AreFew most frames
all_few senders least most [] lawful enough = All-nil (λ f. length (body_words f.body) ≤ 8 * most)
all_few senders least most (f ∷ frames) lawful enough =
    let words = body_most f.body lawful.0.body in
    All-cons (λ f. length (body_words f.body) ≤ 8 * most) f frames (omega arith)
    (all_few senders (f.tenure + 1) most frames lawful.3 enough)

-- ---- an order that begins another

nothing_behind : {A : Type 0} (xs ys : List A) → xs ++ ys ≡ [] → ys ≡ []
nothing_behind [] ys e = e
nothing_behind (x ∷ xs) ys e = absurd cc

-- nothing follows an end mark
none_follow : (senders least : ℕ) (frames later : List Frame)
    → AreFramesFrom senders least (frames ++ later) → has_end frames ≡ true → later ≡ []
none_follow senders least [] later lawful ended = absurd cc
none_follow senders least (f ∷ frames) later lawful ended =
    at f.body refl (none_follow senders (f.tenure + 1) frames later lawful.3)
  where
    at : (b : Body) → f.body ≡ b → (has_end frames ≡ true → later ≡ []) → later ≡ []
    at (Messages ms) e behind = behind (sym (ap (λ z. ends z || has_end frames) e) ∙ ended)
    at (Marked mark.End) e behind = nothing_behind frames later (lawful.2 e)
    at (Marked mark.Leave) e behind =
        behind (sym (ap (λ z. ends z || has_end frames) e) ∙ ended)

pub order_begins : (senders : ℕ) (frames later : List Frame) (order : Order)
    → AreFrames senders (frames ++ later) → order ≡ order_of (frames ++ later)
    → IsPrefixOfOrder (order_of frames) order
order_begins senders frames later order lawful e = record {
  later = flat_map entries_of later;
  entries = ap (λ (z : Order). z.entries) e ∙ flat_map-append entries_of frames later;
  ended = λ is.
      let none = none_follow senders 0 frames later lawful is in
      sym (e ∙ ap (λ z. order_of (frames ++ z)) none ∙ ap order_of (append-nil frames));
}

pub written_read : (h : Heading) (frames : List Frame) (behind bytes : List ℕ) (told : List Frame)
    (a : Answer) → IsHeading h → AreFrames h.senders frames → AreFew h.most frames
    → bytes ≡ journal_bytes h frames ++ behind → Reads bytes told a
    → (a.heading ≡ h) × IsPrefixOfOrder (order_of frames) a.order
    × ((later : List Frame) × (told ≡ frames ++ later)
    × (a.order ≡ order_of (frames ++ later))
    × (a.owners ≡ map tenure_and_owner (frames ++ later))
    × (a.words ≡ log_words (frames ++ later)))
written_read h frames behind bytes told a is lawful few e r =
    let m = has_more h frames behind bytes told a is lawful few e r in (
      m.headings,
      order_begins h.senders frames m.later a.order
          (subst (λ z. AreFrames h.senders z) m.longer
          (subst (λ (z : Heading). AreFrames z.senders told) m.headings
          r.tells.journal.records.lawful))
          (r.tells.order_is ∙ ap order_of m.longer),
      (
        m.later,
        m.longer,
        r.tells.order_is ∙ ap order_of m.longer,
        r.tells.owners_are ∙ ap (λ z. map tenure_and_owner z) m.longer,
        r.tells.words_are ∙ ap log_words m.longer,
      ),
    )
