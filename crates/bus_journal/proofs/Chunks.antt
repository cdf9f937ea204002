-- Records, one behind another: bytes have one longest list of them.
use Rattle.std.proofs.Common.{◌≡◌, ℕ, zero, suc, ◌+◌, ◌*◌, ◌^◌, ◌<◌, ◌≤◌, List, [], ◌∷◌, ◌++◌}
use Rattle.std.proofs.Common.{length, take, drop, All, refl, sym, ap, subst, ◌∙◌, append_assoc}
use Rattle.std.proofs.Common.{arith, get_or, ◌⊎◌, inl, inr}
use Rattle.std.specs.List.{AllByRecursion}
use Rattle.std.specs.Int.{w64, from_be_bytes}
use Rattle.std.proofs.lemmas.List.{length-append, append-nil, length-take-le, length-drop, take_at}
use Rattle.std.proofs.lemmas.List.{length-take, drop_at, take-append-drop, get_or-drop}
use Rattle.std.proofs.lemmas.List.{get_or-take, get_or_past}
use Rattle.std.proofs.lemmas.Bool.{cases_lt}
use Rattle.std.proofs.lemmas.List.Elements.{All-head, All-cons, All-nil}
use Rattle.bus_journal.specs.Format.{word_bytes, words_bytes, checksum, record_bytes, records_bytes}
use Rattle.bus_journal.specs.Records.{IsRecordHead, IsChunk, count_of, BeginsHead, BeginsWith}
use Rattle.bus_journal.specs.Walks.{words_in}
use Rattle.bus_journal.proofs.Words.{same_parts, same_word, same_words, length-word, length-words}
use Rattle.bus_journal.proofs.Words.{length-checksum, one_word, word_there}

-- a record's checksum
abbrev pub sum_of : ℕ → List ℕ → List ℕ
sum_of place words = checksum (word_bytes place ++ words_bytes words)

pub length-record : (place : ℕ) (words : List ℕ)
    → length (record_bytes place words) ≡ 8 * length words + 8
length-record place words =
    let all = length-append (words_bytes words) (sum_of place words) in
    let front = length-words words in
    let back = length-checksum (word_bytes place ++ words_bytes words) in
    omega arith

pub head_fits : (senders most head : ℕ) → IsRecordHead senders most head → head < 2 ^ 64
head_fits senders most head may = let tag = may.tag in omega arith

pub length-chunk : (senders most : ℕ) (words : List ℕ) (c : IsChunk senders most words)
    → length words ≡ count_of c.head + 1
length-chunk senders most words c =
    let e : length words ≡ suc (length c.body) = ap length c.words_are in
    let s = c.size in omega arith

-- what words begin with
pub chunk_head : (senders most : ℕ) (words rest : List ℕ) (c : IsChunk senders most words)
    → words_bytes words ++ rest ≡ word_bytes c.head ++ (words_bytes c.body ++ rest)
chunk_head senders most words rest c =
    ap (λ z. words_bytes z ++ rest) c.words_are
    ∙ append_assoc (word_bytes c.head) (words_bytes c.body) rest

-- what a record begins with
pub record_head : (senders most place : ℕ) (words rest : List ℕ) (c : IsChunk senders most words)
    → record_bytes place words ++ rest
    ≡ word_bytes c.head ++ (words_bytes c.body ++ (sum_of place words ++ rest))
record_head senders most place words rest c =
    append_assoc (words_bytes words) (sum_of place words) rest
    ∙ chunk_head senders most words (sum_of place words ++ rest) c

-- records that begin with one head are as long
pub one_length : (senders most most' : ℕ) (c d : List ℕ) (r s : List ℕ)
    (k : IsChunk senders most c) (l : IsChunk senders most' d)
    → word_bytes k.head ++ r ≡ word_bytes l.head ++ s → length c ≡ length d
one_length senders most most' c d r s k l e =
    let bytes = same_parts (word_bytes k.head) (word_bytes l.head) r s
    (length-word k.head ∙ sym (length-word l.head)) e in
    let heads = same_word k.head l.head (head_fits senders most k.head k.may)
    (head_fits senders most' l.head l.may) bytes.0 in
    length-chunk senders most c k ∙ ap (λ z. count_of z + 1) heads
    ∙ sym (length-chunk senders most' d l)

-- bytes begin with one record at most
pub one_record : (senders most place : ℕ) (c d r s : List ℕ) → IsChunk senders most c
    → IsChunk senders most d → record_bytes place c ++ r ≡ record_bytes place d ++ s
    → (c ≡ d) × (r ≡ s)
one_record senders most place c d r s k l e =
    let begin = sym (record_head senders most place c r k) ∙ e
    ∙ record_head senders most place d s l in
    let size = one_length senders most most c d (words_bytes k.body ++ (sum_of place c ++ r))
    (words_bytes l.body ++ (sum_of place d ++ s)) k l begin in
    let parts = same_parts (words_bytes c) (words_bytes d) (sum_of place c ++ r)
    (sum_of place d ++ s)
    (length-words c ∙ ap (λ z. 8 * z) size ∙ sym (length-words d))
    (sym (append_assoc (words_bytes c) (sum_of place c) r) ∙ e
    ∙ append_assoc (words_bytes d) (sum_of place d) s) in
    let ends = same_parts (sum_of place c) (sum_of place d) r s
    (length-checksum (word_bytes place ++ words_bytes c)
    ∙ sym (length-checksum (word_bytes place ++ words_bytes d))) parts.1 in
    (same_words c d size k.fit l.fit parts.0, ends.1)

-- ---- lists of records

-- one list of words goes on as the other, with records of what it has more in the first one's rest
pub record GoesOn (place : ℕ) (cs : List (List ℕ)) (r : List ℕ) (ds : List (List ℕ)) (s : List ℕ) :
    Type 0 where
  pub more : List (List ℕ)
  pub longer : ds ≡ cs ++ more
  pub rest_is : r ≡ records_bytes (place + length (words_in cs)) more ++ s

goes_on : (place : ℕ) (c : List ℕ) (cs ds : List (List ℕ)) (r s : List ℕ)
    → GoesOn (place + length c) cs r ds s → GoesOn place (c ∷ cs) r (c ∷ ds) s
goes_on place c cs ds r s g =
    let size = length-append c (words_in cs) in
    let there : (place + length c) + length (words_in cs) ≡ place + length (words_in (c ∷ cs)) =
    omega arith in
    record {
      more = g.more;
      longer = ap (λ z. c ∷ z) g.longer;
      rest_is = g.rest_is ∙ ap (λ z. records_bytes z g.more ++ s) there;
    }

starts : (place : ℕ) (ds : List (List ℕ)) (r s : List ℕ) → r ≡ records_bytes place ds ++ s
    → GoesOn place [] r ds s
starts place ds r s e =
    let here : place ≡ place + 0 = omega arith in
    record {
      more = ds;
      longer = refl;
      rest_is = e ∙ ap (λ z. records_bytes z ds ++ s) here;
    }

-- two lists of records in the same bytes: one begins the other
pub comparable : (senders most place : ℕ) (cs ds : List (List ℕ)) (r s : List ℕ)
    → AllByRecursion (IsChunk senders most) cs → AllByRecursion (IsChunk senders most) ds
    → records_bytes place cs ++ r ≡ records_bytes place ds ++ s
    → GoesOn place cs r ds s ⊎ GoesOn place ds s cs r
comparable senders most place [] ds r s each each' e = inl (starts place ds r s e)
comparable senders most place (c ∷ cs) [] r s each each' e =
    inr (starts place (c ∷ cs) s r (sym e))
comparable senders most place (c ∷ cs) (d ∷ ds) r s each each' e =
    let one = one_record senders most place c d (records_bytes (place + length c) cs ++ r)
    (records_bytes (place + length d) ds ++ s) each.0 each'.0
    (sym (append_assoc (record_bytes place c) (records_bytes (place + length c) cs) r) ∙ e
    ∙ append_assoc (record_bytes place d) (records_bytes (place + length d) ds) s) in
    let same = one.0 in
    let rest : records_bytes (place + length c) cs ++ r ≡ records_bytes (place + length c) ds ++ s =
    one.1 ∙ ap (λ z. records_bytes (place + length z) ds ++ s) (sym same) in
    elim (comparable senders most (place + length c) cs ds r s each.1 each'.1 rest) [
      | inl g ↦
          inl (subst (λ z. GoesOn place (c ∷ cs) r (z ∷ ds) s) same (goes_on place c cs ds r s g))
      | inr g ↦
          inr (subst (λ z. GoesOn place (z ∷ ds) s (c ∷ cs) r) same (goes_on place c ds cs s r g))
    ]

-- one record more at the end
pub records-push : (place : ℕ) (cs : List (List ℕ)) (c : List ℕ)
    → records_bytes place (cs ++ c ∷ [])
    ≡ records_bytes place cs ++ record_bytes (place + length (words_in cs)) c
records-push place [] c =
    let here : place ≡ place + 0 = omega arith in
    append-nil (record_bytes place c) ∙ ap (λ z. record_bytes z c) here
records-push place (d ∷ cs) c =
    let size = length-append d (words_in cs) in
    let there : (place + length d) + length (words_in cs) ≡ place + length (words_in (d ∷ cs)) =
    omega arith in
    ap (λ z. record_bytes place d ++ z) (records-push (place + length d) cs c)
    ∙ sym (append_assoc (record_bytes place d) (records_bytes (place + length d) cs)
    (record_bytes ((place + length d) + length (words_in cs)) c))
    ∙ ap (λ z. records_bytes place (d ∷ cs) ++ record_bytes z c) there

-- records before others
pub records-append : (place : ℕ) (cs ds : List (List ℕ))
    → records_bytes place (cs ++ ds)
    ≡ records_bytes place cs ++ records_bytes (place + length (words_in cs)) ds
records-append place [] ds =
    let here : place ≡ place + 0 = omega arith in ap (λ z. records_bytes z ds) here
records-append place (c ∷ cs) ds =
    let size = length-append c (words_in cs) in
    let there : (place + length c) + length (words_in cs) ≡ place + length (words_in (c ∷ cs)) =
    omega arith in
    ap (λ z. record_bytes place c ++ z) (records-append (place + length c) cs ds)
    ∙ sym (append_assoc (record_bytes place c) (records_bytes (place + length c) cs)
    (records_bytes ((place + length c) + length (words_in cs)) ds))
    ∙ ap (λ z. records_bytes place (c ∷ cs) ++ records_bytes z ds) there

pub chunks-push : (senders most : ℕ) (cs : List (List ℕ)) (c : List ℕ)
    → AllByRecursion (IsChunk senders most) cs → IsChunk senders most c
    → AllByRecursion (IsChunk senders most) (cs ++ c ∷ [])
chunks-push senders most [] c each last = (last, tt)
chunks-push senders most (d ∷ cs) c each last = (each.0, chunks-push senders most cs c each.1 last)

pub words-push : (cs : List (List ℕ)) (c : List ℕ) → words_in (cs ++ c ∷ []) ≡ words_in cs ++ c
words-push [] c = append-nil c
words-push (d ∷ cs) c =
    ap (λ z. d ++ z) (words-push cs c) ∙ sym (append_assoc d (words_in cs) c)

pub words-append : (cs ds : List (List ℕ)) → words_in (cs ++ ds) ≡ words_in cs ++ words_in ds
words-append [] ds = refl
words-append (c ∷ cs) ds =
    ap (λ z. c ++ z) (words-append cs ds) ∙ sym (append_assoc c (words_in cs) (words_in ds))

-- records have more bytes than words
pub words_few : (place : ℕ) (cs : List (List ℕ))
    → length (words_in cs) ≤ length (records_bytes place cs)
words_few place [] = omega arith
words_few place (c ∷ cs) =
    let later = words_few (place + length c) cs in
    let words = length-append c (words_in cs) in
    let bytes = length-append (record_bytes place c) (records_bytes (place + length c) cs) in
    let one = length-record place c in
    omega arith

-- no records but none have no bytes
pub no_records : (place : ℕ) (cs : List (List ℕ)) (r : List ℕ) → r ≡ records_bytes place cs ++ r
    → cs ≡ []
no_records place [] r e = refl
no_records place (c ∷ cs) r e =
    let size = ap length e in
    let all = length-append (records_bytes place (c ∷ cs)) r in
    let bytes = length-append (record_bytes place c) (records_bytes (place + length c) cs) in
    let one = length-record place c in
    absurd (omega arith)

-- ---- one record in bytes

-- how many words a record has is what its head says
pub counted : (senders most place count : ℕ) (bytes words rest : List ℕ)
    → BeginsHead senders most bytes count → IsChunk senders most words
    → bytes ≡ record_bytes place words ++ rest → length words ≡ count
counted senders most place count bytes words rest b k e =
    let same = one_word k.head b.head (words_bytes k.body ++ (sum_of place words ++ rest)) b.rest
    (head_fits senders most k.head k.may) (head_fits senders most b.head b.may)
    (sym (record_head senders most place words rest k) ∙ sym e ∙ b.parts) in
    length-chunk senders most words k ∙ ap (λ z. count_of z + 1) same.0 ∙ sym b.count_is

pub long_enough : (place : ℕ) (bytes words rest : List ℕ)
    → bytes ≡ record_bytes place words ++ rest → 8 * length words + 8 ≤ length bytes
long_enough place bytes words rest e =
    let all = ap length e in
    let both = length-append (record_bytes place words) rest in
    let one = length-record place words in
    omega arith

-- a record's parts
pub record_parts : (place count : ℕ) (bytes words rest : List ℕ)
    → bytes ≡ record_bytes place words ++ rest → length words ≡ count
    → (take (8 * count) bytes ≡ words_bytes words)
    × (drop (8 * count) bytes ≡ sum_of place words ++ rest)
record_parts place count bytes words rest e size =
    let parts = e ∙ append_assoc (words_bytes words) (sum_of place words) rest in
    let long : length (words_bytes words) ≡ 8 * count =
    length-words words ∙ ap (λ z. 8 * z) size in (
      ap (λ z. take (8 * count) z) parts
          ∙ take_at (words_bytes words) (sum_of place words ++ rest) (8 * count) long,
      ap (λ z. drop (8 * count) z) parts
          ∙ drop_at (words_bytes words) (sum_of place words ++ rest) (8 * count) long,
    )

pub sum_there : (place count : ℕ) (bytes words rest : List ℕ)
    → bytes ≡ record_bytes place words ++ rest → length words ≡ count
    → take 8 (drop (8 * count) bytes) ≡ checksum (word_bytes place ++ take (8 * count) bytes)
sum_there place count bytes words rest e size =
    let parts = record_parts place count bytes words rest e size in
    ap (λ z. take 8 z) parts.1
    ∙ take_at (sum_of place words) rest 8 (length-checksum (word_bytes place ++ words_bytes words))
    ∙ ap (λ z. checksum (word_bytes place ++ z)) (sym parts.0)

abbrev Fits : ℕ → Type 0
Fits word = word < 2 ^ 64

abbrev pub AreBytes : List ℕ → Type 0
AreBytes bytes = (i : ℕ) → get_or bytes i 0 < 256

AreBytes-take : (n : ℕ) (bytes : List ℕ) → AreBytes bytes → AreBytes (take n bytes)
AreBytes-take n bytes h i = elim (cases_lt i n) as (λ _. get_or (take n bytes) i 0 < 256) [
  | inl below ↦ rw (get_or-take n bytes i 0 below) (h i)
  | inr past ↦ elim (cases_lt i (length (take n bytes))) as (λ _. get_or (take n bytes) i 0 < 256) [
    | inl within ↦ absurd (omega (arith, length-take n bytes))
    | inr none ↦ rw (get_or_past (take n bytes) i 0 none) (omega arith)
  ]
]

AreBytes-drop : (n : ℕ) (bytes : List ℕ) → AreBytes bytes → AreBytes (drop n bytes)
AreBytes-drop n bytes h i = rw (get_or-drop n bytes i 0) (h (n + i))

word_fits : (bytes : List ℕ) → AreBytes bytes → from_be_bytes w64 bytes < 2 ^ 64
word_fits bytes h = omega (arith, h 0, h 1, h 2, h 3, h 4, h 5, h 6, h 7)

-- bytes as words
pub record AsWords (bytes : List ℕ) (n : ℕ) : Type 0 where
  pub words : List ℕ
  pub size : length words ≡ n
  pub bytes_are : bytes ≡ words_bytes words
  pub fit : All Fits words

pub as_words : (bytes : List ℕ) (n : ℕ) → length bytes ≡ 8 * n → AreBytes bytes → AsWords bytes n
as_words [] zero size each = record {
  words = [];
  size = refl;
  bytes_are = refl;
  fit = All-nil Fits;
}
as_words (b ∷ bytes) zero size each = absurd (omega arith)
as_words bytes (suc n) size each =
    let long : 8 ≤ length bytes = omega arith in
    let word = from_be_bytes w64 (take 8 bytes) in
    let left = length-drop 8 bytes in
    let later = as_words (drop 8 bytes) n (omega arith) (AreBytes-drop 8 bytes each) in
    record {
      words = word ∷ later.words;
      size = ap suc later.size;
      bytes_are = word_there bytes word long each refl
          ∙ ap (λ z. word_bytes word ++ z) later.bytes_are;
      fit = All-cons Fits word later.words (word_fits (take 8 bytes) (AreBytes-take 8 bytes each))
          later.fit;
    }

chunk_from : (senders most count : ℕ) (bytes words behind : List ℕ)
    → (b : BeginsHead senders most bytes count) → length words ≡ count → All Fits words
    → bytes ≡ words_bytes words ++ behind → IsChunk senders most words
chunk_from senders most count bytes [] behind b size fit e =
    let is = b.count_is in absurd (omega arith)
chunk_from senders most count bytes (w ∷ words) behind b size fit e =
    let same = one_word w b.head (words_bytes words ++ behind) b.rest (All-head Fits w words fit)
    (head_fits senders most b.head b.may)
    (sym (append_assoc (word_bytes w) (words_bytes words) behind) ∙ sym e ∙ b.parts) in
    let is = b.count_is in
    let counts = ap count_of same.0 in
    record {
      head = w;
      body = words;
      words_are = refl;
      may = subst (IsRecordHead senders most) (sym same.0) b.may;
      size = omega arith;
      fit = fit;
    }

-- a head, enough bytes and the right checksum are a record
pub begins_with : (senders most place room count : ℕ) (bytes : List ℕ)
    → BeginsHead senders most bytes count → count ≤ room → 8 * count + 8 ≤ length bytes
    → AreBytes bytes
    → take 8 (drop (8 * count) bytes) ≡ checksum (word_bytes place ++ take (8 * count) bytes)
    → BeginsWith senders most place room bytes count
begins_with senders most place room count bytes b few long each sum =
    let front = take (8 * count) bytes in
    let back = drop (8 * count) bytes in
    let k = as_words front count (length-take-le (8 * count) bytes (omega arith))
    (AreBytes-take (8 * count) bytes each) in
    let parts : bytes ≡ words_bytes k.words ++ back =
    sym (take-append-drop (8 * count) bytes) ∙ ap (λ z. z ++ back) k.bytes_are in
    record {
      words = k.words;
      rest = drop 8 back;
      chunk = chunk_from senders most count bytes k.words back b k.size k.fit parts;
      count_is = sym k.size;
      few = few;
      bytes_are =
          parts
          ∙ ap (λ z. words_bytes k.words ++ z)
          (sym (take-append-drop 8 back)
          ∙ ap (λ z. z ++ drop 8 back)
          (sum ∙ ap (λ z. checksum (word_bytes place ++ z)) k.bytes_are))
          ∙ sym (append_assoc (words_bytes k.words) (sum_of place k.words) (drop 8 back));
    }

-- the words and the rest of a record are these
pub walked_one : (senders most place room count : ℕ) (bytes more : List ℕ)
    (b : BeginsWith senders most place room bytes count) → take (8 * count) bytes ≡ words_bytes more
    → All Fits more → (more ≡ b.words) × (drop 8 (drop (8 * count) bytes) ≡ b.rest)
walked_one senders most place room count bytes more b e fit =
    let parts = record_parts place count bytes b.words b.rest b.bytes_are (sym b.count_is) in
    let same : words_bytes more ≡ words_bytes b.words = sym e ∙ parts.0 in
    let sizes = ap length same in
    let m = length-words more in
    let n = length-words b.words in (
      same_words more b.words (omega arith) fit b.chunk.fit same,
      ap (λ z. drop 8 z) parts.1
          ∙ drop_at (sum_of place b.words) b.rest 8
          (length-checksum (word_bytes place ++ words_bytes b.words)),
    )
