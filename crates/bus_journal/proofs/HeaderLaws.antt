-- Headers: bytes begin with one at most.
use Rattle.std.proofs.Common.{◌≡◌, ◌≢◌, ℕ, ◌+◌, ◌*◌, ◌^◌, ◌<◌, ◌≤◌, List, [], ◌∷◌, ◌++◌}
use Rattle.std.proofs.Common.{length, take, drop, All, refl, sym, ap, ◌∙◌, append_assoc, arith}
use Rattle.std.proofs.Common.{min, inl, inr, subst}
use Rattle.std.proofs.lemmas.Bool.{cases_lt}
use Rattle.std.proofs.Math.Seq.{take-append-add}
use Rattle.std.proofs.lemmas.List.Concat.{flat_map-append}
use Rattle.std.proofs.lemmas.List.{length-append, append_cancel_left, take_at, take_all, drop_at}
use Rattle.std.proofs.lemmas.List.{take-take, take-append-le, append-nil}
use Rattle.std.proofs.lemmas.List.{length-drop, length-take-le, take-append-drop, drop-drop}
use Rattle.bus_register.specs.declared.limits.TheConstants.{MOST_MESSAGES, MOST_SENDERS}
use Rattle.bus_journal.specs.Walks.{BeginsHeader}
use Rattle.std.proofs.lemmas.List.Elements.{All-cons}
use Rattle.bus_journal.specs.declared.headers.JournalFault.{JournalFault}
use Rattle.bus_journal.specs.declared.headers.JournalFault.TheVariants as fault
use Rattle.bus_journal.specs.Format.{Heading, IsHeading, magic, version, word_bytes, words_bytes}
use Rattle.bus_journal.specs.Format.{checksum, header_front, header_bytes}
use Rattle.bus_journal.specs.Reading.{IsOtherMagic, IsOtherVersion, IsTornHeader, IsDamagedHeader}
use Rattle.bus_journal.specs.Reading.{IsRefused}
use Rattle.bus_journal.proofs.Words.{same_parts, same_words, length-word, length-words}
use Rattle.bus_journal.proofs.Words.{length-checksum, one_word, word_first}

pub length-magic : length magic ≡ 8
unfolding magic
length-magic = refl

-- the words of a header
abbrev pub header_words : Heading → List ℕ
header_words h = version ∷ h.senders ∷ h.most ∷ h.place ∷ h.first

pub header_parts : (h : Heading) (r : List ℕ) → header_bytes h ++ r
    ≡ magic ++ (words_bytes (header_words h) ++ (checksum (header_front h) ++ r))
header_parts h r =
    append_assoc (header_front h) (checksum (header_front h)) r
    ∙ append_assoc magic (words_bytes (header_words h)) (checksum (header_front h) ++ r)

-- the first two words of a header
pub header_begins : (h : Heading) (r : List ℕ) → (behind : List ℕ)
    × (header_bytes h ++ r ≡ magic ++ (word_bytes version ++ (word_bytes h.senders ++ behind)))
header_begins h r =
    let later = words_bytes (h.most ∷ h.place ∷ h.first) in
    let sum = checksum (header_front h) in (
      later ++ (sum ++ r),
      header_parts h r
          ∙ ap (λ z. magic ++ z)
          (append_assoc (word_bytes version) (word_bytes h.senders ++ later) (sum ++ r)
          ∙ ap (λ z. word_bytes version ++ z)
          (append_assoc (word_bytes h.senders) later (sum ++ r))),
    )

pub length-front : (h : Heading) → IsHeading h → length (header_front h) ≡ 40 + 8 * h.senders
length-front h is =
    let all = length-append magic (words_bytes (header_words h)) in
    let words = length-words (header_words h) in
    let first = is.each_sender in
    let m = length-magic in
    omega arith

pub length-header : (h : Heading) → IsHeading h → length (header_bytes h) ≡ 48 + 8 * h.senders
length-header h is =
    let all = length-append (header_front h) (checksum (header_front h)) in
    let front = length-front h is in
    let sum = length-checksum (header_front h) in
    omega arith

pub one_senders : (s t : ℕ) (a b : List ℕ) → s < 2 ^ 64 → t < 2 ^ 64
    → magic ++ (word_bytes version ++ (word_bytes s ++ a))
    ≡ magic ++ (word_bytes version ++ (word_bytes t ++ b)) → s ≡ t
one_senders s t a b fits fits' e =
    let behind = append_cancel_left magic (word_bytes version ++ (word_bytes s ++ a))
    (word_bytes version ++ (word_bytes t ++ b)) e in
    (one_word s t a b fits fits'
    (append_cancel_left (word_bytes version) (word_bytes s ++ a) (word_bytes t ++ b) behind)).0

abbrev Fits : ℕ → Type 0
Fits word = word < 2 ^ 64

words_fit : (h : Heading) → IsHeading h → All Fits (header_words h)
words_fit h is =
    let most = is.most_senders in
    let messages = is.most_messages in
    let place = is.place in
    All-cons Fits version (h.senders ∷ h.most ∷ h.place ∷ h.first) (omega arith)
    (All-cons Fits h.senders (h.most ∷ h.place ∷ h.first) (omega arith)
    (All-cons Fits h.most (h.place ∷ h.first) (omega arith)
    (All-cons Fits h.place h.first (omega arith) is.words)))

abbrev heading_as : ℕ → ℕ → ℕ → List ℕ → Heading
heading_as s m p f = record { senders = s; most = m; place = p; first = f }

same_heading : (h k : Heading) → header_words h ≡ header_words k → h ≡ k
same_heading h k e =
    let s : h.senders ≡ k.senders = cc in
    let m : h.most ≡ k.most = cc in
    let p : h.place ≡ k.place = cc in
    let f : h.first ≡ k.first = cc in
    ap (λ z. heading_as z h.most h.place h.first) s
    ∙ ap (λ z. heading_as k.senders z h.place h.first) m
    ∙ ap (λ z. heading_as k.senders k.most z h.first) p
    ∙ ap (λ z. heading_as k.senders k.most k.place z) f

-- bytes begin with one header at most
pub one_header : (h k : Heading) (r s : List ℕ) → IsHeading h → IsHeading k
    → header_bytes h ++ r ≡ header_bytes k ++ s → (h ≡ k) × (r ≡ s)
one_header h k r s is is' e =
    let sums = checksum (header_front h) ++ r in
    let sums' = checksum (header_front k) ++ s in
    let begins = header_begins h r in
    let begins' = header_begins k s in
    let most = is.most_senders in
    let most' = is'.most_senders in
    let senders = one_senders h.senders k.senders begins.0 begins'.0 (omega arith) (omega arith)
    (sym begins.1 ∙ e ∙ begins'.1) in
    let behind : words_bytes (header_words h) ++ sums ≡ words_bytes (header_words k) ++ sums' =
    append_cancel_left magic (words_bytes (header_words h) ++ sums)
    (words_bytes (header_words k) ++ sums') (sym (header_parts h r) ∙ e ∙ header_parts k s) in
    let first = is.each_sender in
    let first' = is'.each_sender in
    let long : length (header_words h) ≡ length (header_words k) = omega arith in
    let parts = same_parts (words_bytes (header_words h)) (words_bytes (header_words k)) sums sums'
    (length-words (header_words h) ∙ ap (λ z. 8 * z) long ∙ sym (length-words (header_words k)))
    behind in
    let words = same_words (header_words h) (header_words k) long (words_fit h is) (words_fit k is')
    parts.0 in
    let ends = same_parts (checksum (header_front h)) (checksum (header_front k)) r s
    (length-checksum (header_front h) ∙ sym (length-checksum (header_front k))) parts.1 in
    (same_heading h k words, ends.1)

-- ---- what is refused

pub magic_there : (rest : List ℕ)
    → take 8 (magic ++ rest) ≡ take (length (magic ++ rest)) magic
magic_there rest =
    let m = length-magic in
    let all = length-append magic rest in
    take_at magic rest 8 m ∙ sym (take_all (length (magic ++ rest)) magic (omega arith))

-- how many bytes begin with the magic and words
pub length-begun : (v : ℕ) (rest : List ℕ)
    → length (magic ++ (word_bytes v ++ rest)) ≡ 16 + length rest
length-begun v rest =
    let m = length-magic in
    let all = length-append magic (word_bytes v ++ rest) in
    let one = word_first v rest in
    omega arith

pub length-begun_twice : (v w : ℕ) (rest : List ℕ)
    → length (magic ++ (word_bytes v ++ (word_bytes w ++ rest))) ≡ 24 + length rest
length-begun_twice v w rest =
    let outer = length-begun v (word_bytes w ++ rest) in
    let one = word_first w rest in
    omega arith

-- of the first eight bytes as many as are there, compared with the magic
pub as_magic : (bytes : List ℕ) (known : ℕ) → known ≡ min (length bytes) 8
    → (take 8 bytes ≡ take known bytes) × (take (length bytes) magic ≡ take known magic)
as_magic bytes known is = elim (cases_lt (length bytes) 8) [
  | inl few ↦
      let all : known ≡ length bytes = omega arith in (
        take_all 8 bytes (omega arith) ∙ sym (take_all known bytes (omega arith)),
        ap (λ z. take z magic) (sym all),
      )
  | inr many ↦
      let all : known ≡ 8 = omega arith in
      let m = length-magic in (
        ap (λ z. take z bytes) (sym all),
        take_all (length bytes) magic (omega arith) ∙ sym (take_all known magic (omega arith)),
      )
]

-- where as many as are there are the magic's
pub begins_as : (bytes : List ℕ) (known : ℕ) → known ≡ min (length bytes) 8
    → take known bytes ≡ take known magic → take 8 bytes ≡ take (length bytes) magic
begins_as bytes known is e =
    let k = as_magic bytes known is in k.0 ∙ e ∙ sym k.1

pub other_magic : (bytes : List ℕ) (known : ℕ) → known ≡ min (length bytes) 8
    → (take known bytes ≡ take known magic → ⊥) → IsOtherMagic bytes
other_magic bytes known is never e =
    let k = as_magic bytes known is in never (sym k.0 ∙ e ∙ k.1)

-- fewer than sixteen bytes
pub torn_early : (bytes : List ℕ) → take 8 bytes ≡ take (length bytes) magic
    → length bytes < 16 → IsTornHeader bytes
torn_early bytes begins few = record {
  begins = begins;
  versions = λ other v.
      let long = ap length v.1 in
      let all = length-begun other v.0 in
      absurd (omega arith);
  short = λ senders rest fits e.
      let long = ap length e in
      let all = length-begun_twice version senders rest in
      absurd (omega arith);
}

-- the magic, and then what is behind
pub magic_behind : (bytes : List ℕ) → take 8 bytes ≡ take (length bytes) magic → 8 ≤ length bytes
    → bytes ≡ magic ++ drop 8 bytes
magic_behind bytes begins long =
    let m = length-magic in
    sym (take-append-drop 8 bytes)
    ∙ ap (λ z. z ++ drop 8 bytes) (begins ∙ take_all (length bytes) magic (omega arith))

one_version : (bytes behind : List ℕ) (v other : ℕ) → v < 2 ^ 64
    → bytes ≡ magic ++ (word_bytes v ++ behind) → (o : IsOtherVersion other bytes) → v ≡ other
one_version bytes behind v other fits e o =
    (one_word v other behind o.0 fits o.2
    (append_cancel_left magic (word_bytes v ++ behind) (word_bytes other ++ o.0) (sym e ∙ o.1))).0

no_other : (bytes behind : List ℕ) (other : ℕ) → bytes ≡ magic ++ (word_bytes version ++ behind)
    → IsOtherVersion other bytes → ⊥
no_other bytes behind other e o =
    o.3 (sym (one_version bytes behind version other (omega arith) e o))

-- fewer than twenty-four bytes, of this version
pub torn_behind_version : (bytes behind : List ℕ)
    → bytes ≡ magic ++ (word_bytes version ++ behind) → length bytes < 24 → IsTornHeader bytes
torn_behind_version bytes behind e few = record {
  begins = ap (λ z. take 8 z) e ∙ magic_there (word_bytes version ++ behind)
      ∙ ap (λ z. take (length z) magic) (sym e);
  versions = λ other o. no_other bytes behind other e o;
  short = λ senders rest fits e'.
      let long = ap length e' in
      let all = length-begun_twice version senders rest in
      absurd (omega arith);
}

-- fewer bytes than the senders say
pub torn_behind_senders : (bytes behind : List ℕ) (senders : ℕ) → senders < 2 ^ 64
    → bytes ≡ magic ++ (word_bytes version ++ (word_bytes senders ++ behind)) → 1 ≤ senders
    → senders ≤ MOST_SENDERS → length bytes < 48 + 8 * senders → IsTornHeader bytes
torn_behind_senders bytes behind senders fits e some most few = record {
  begins = ap (λ z. take 8 z) e
      ∙ magic_there (word_bytes version ++ (word_bytes senders ++ behind))
      ∙ ap (λ z. take (length z) magic) (sym e);
  versions = λ other o. no_other bytes (word_bytes senders ++ behind) other e o;
  short = λ others rest fits' e'.
      let same = one_senders senders others behind rest fits fits' (sym e ∙ e') in
      (omega arith, omega arith, omega arith);
}

-- the senders of a header that bytes begin with
pub senders_are : (bytes behind : List ℕ) (senders : ℕ) → senders < 2 ^ 64
    → bytes ≡ magic ++ (word_bytes version ++ (word_bytes senders ++ behind))
    → (h : Heading) (r : List ℕ) → IsHeading h → bytes ≡ header_bytes h ++ r
    → h.senders ≡ senders
senders_are bytes behind senders fits e h r is e' =
    let begins = header_begins h r in
    let most = is.most_senders in
    one_senders h.senders senders begins.0 behind (omega arith) fits
    (sym begins.1 ∙ sym e' ∙ e)

-- senders that no bus has
pub damaged_senders : (bytes behind : List ℕ) (senders : ℕ) → senders < 2 ^ 64
    → bytes ≡ magic ++ (word_bytes version ++ (word_bytes senders ++ behind))
    → (1 ≤ senders → senders ≤ MOST_SENDERS → ⊥) → IsDamagedHeader bytes
damaged_senders bytes behind senders fits e never = record {
  rest = word_bytes senders ++ behind;
  begins = e;
  enough = λ t. let s = t.short senders behind fits e in never s.0 s.1;
  none = λ h r is e'.
      let same = senders_are bytes behind senders fits e h r is e' in
      let some = is.some_senders in
      let most = is.most_senders in
      never (omega arith) (omega arith);
}

-- ---- a header of which all bytes are there

pub not_torn : (senders : ℕ) (bytes : List ℕ) → BeginsHeader senders bytes → IsTornHeader bytes → ⊥
not_torn senders bytes b t =
    let most = b.most in
    let s = t.short senders b.behind (omega arith) b.parts in
    let few = s.2 in
    let long = b.long in
    absurd (omega arith)

pub damaged_header : (senders : ℕ) (bytes : List ℕ) → BeginsHeader senders bytes
    → ((h : Heading) (r : List ℕ) → IsHeading h → bytes ≡ header_bytes h ++ r → ⊥)
    → IsDamagedHeader bytes
damaged_header senders bytes b none = record {
  rest = word_bytes senders ++ b.behind;
  begins = b.parts;
  enough = not_torn senders bytes b;
  none = none;
}

-- where a header's parts stand
pub record HeaderThere (senders : ℕ) (bytes : List ℕ) (h : Heading) (r : List ℕ) : Type 0 where
  pub senders_are : h.senders ≡ senders
  pub front : take (40 + 8 * senders) bytes ≡ header_front h
  pub back : drop (40 + 8 * senders) bytes ≡ checksum (header_front h) ++ r

pub header_there : (senders : ℕ) (bytes : List ℕ) → BeginsHeader senders bytes → (h : Heading)
    (r : List ℕ) → IsHeading h → bytes ≡ header_bytes h ++ r → HeaderThere senders bytes h r
header_there senders bytes b h r is e =
    let most = b.most in
    let same = senders_are bytes b.behind senders (omega arith) b.parts h r is e in
    let long : length (header_front h) ≡ 40 + 8 * senders =
    length-front h is ∙ ap (λ z. 40 + 8 * z) same in
    let parts = e ∙ append_assoc (header_front h) (checksum (header_front h)) r in
    record {
      senders_are = same;
      front = ap (λ z. take (40 + 8 * senders) z) parts
          ∙ take_at (header_front h) (checksum (header_front h) ++ r) (40 + 8 * senders) long;
      back = ap (λ z. drop (40 + 8 * senders) z) parts
          ∙ drop_at (header_front h) (checksum (header_front h) ++ r) (40 + 8 * senders) long;
    }

-- a checksum that fails
pub damaged_sum : (senders : ℕ) (bytes : List ℕ) → BeginsHeader senders bytes
    → (take 8 (drop (40 + 8 * senders) bytes) ≡ checksum (take (40 + 8 * senders) bytes) → ⊥)
    → IsDamagedHeader bytes
damaged_sum senders bytes b never = damaged_header senders bytes b (λ h r is e.
    let there = header_there senders bytes b h r is e in
    never (ap (λ z. take 8 z) there.back
    ∙ take_at (checksum (header_front h)) r 8 (length-checksum (header_front h))
    ∙ ap checksum (sym there.front)))

-- the words behind the senders
front_tail : (h : Heading) → IsHeading h
    → drop 24 (header_front h) ≡ word_bytes h.most ++ (word_bytes h.place ++ words_bytes h.first)
front_tail h is =
    let tail = word_bytes h.most ++ (word_bytes h.place ++ words_bytes h.first) in
    let m = length-magic in
    let one = length-word version in
    let two = length-word h.senders in
    let first = length-append magic (word_bytes version ++ word_bytes h.senders) in
    let both = length-append (word_bytes version) (word_bytes h.senders) in
    let regrouped : header_front h
    ≡ (magic ++ (word_bytes version ++ word_bytes h.senders)) ++ tail =
    ap (λ z. magic ++ z) (sym (append_assoc (word_bytes version) (word_bytes h.senders) tail))
    ∙ sym (append_assoc magic (word_bytes version ++ word_bytes h.senders) tail) in
    ap (λ z. drop 24 z) regrouped
    ∙ drop_at (magic ++ (word_bytes version ++ word_bytes h.senders)) tail 24 (omega arith)

-- numbers that no header has
pub damaged_numbers : (senders most place : ℕ) (bytes : List ℕ) → BeginsHeader senders bytes
    → most < 2 ^ 64 → place < 2 ^ 64
    → drop 24 (take (40 + 8 * senders) bytes)
    ≡ word_bytes most ++ drop 8 (drop 24 (take (40 + 8 * senders) bytes))
    → drop 8 (drop 24 (take (40 + 8 * senders) bytes))
    ≡ word_bytes place ++ drop 8 (drop 8 (drop 24 (take (40 + 8 * senders) bytes)))
    → (1 ≤ most → most ≤ MOST_MESSAGES → place < 2 ^ 63 → ⊥) → IsDamagedHeader bytes
damaged_numbers senders most place bytes b fits fits' e e' never =
    damaged_header senders bytes b (λ h r is k.
    let there = header_there senders bytes b h r is k in
    let tail = ap (λ z. drop 24 z) there.front ∙ front_tail h is in
    let x = drop 24 (take (40 + 8 * senders) bytes) in
    let m = is.most_messages in
    let p = is.place in
    let some = is.some_messages in
    let first = one_word h.most most (word_bytes h.place ++ words_bytes h.first) (drop 8 x)
    (omega arith) fits (sym tail ∙ e) in
    let second =
    one_word h.place place (words_bytes h.first) (drop 8 (drop 8 x)) (omega arith) fits'
    (first.1 ∙ e') in
    let a = first.0 in
    let c = second.0 in
    never (omega arith) (omega arith) (omega arith))

-- the words behind the senders are a heading's
pub is_header : (senders most place : ℕ) (first bytes : List ℕ) → BeginsHeader senders bytes
    → drop 24 (take (40 + 8 * senders) bytes)
    ≡ word_bytes most ++ (word_bytes place ++ words_bytes first)
    → take 8 (drop (40 + 8 * senders) bytes) ≡ checksum (take (40 + 8 * senders) bytes)
    → (length first ≡ senders)
    × (bytes ≡ header_bytes (heading_as senders most place first)
    ++ drop (40 + 8 * senders + 8) bytes)
is_header senders most place first bytes b tail sum =
    let h = heading_as senders most place first in
    let f = 40 + 8 * senders in
    let long = b.long in
    let front = take f bytes in
    let size = length-take-le f bytes (omega arith) in
    let parts = b.parts in
    let begun = magic ++ (word_bytes version ++ word_bytes senders) in
    let m = length-magic in
    let one = length-word version in
    let two = length-word senders in
    let both = length-append magic (word_bytes version ++ word_bytes senders) in
    let inner = length-append (word_bytes version) (word_bytes senders) in
    let twenty_four : length begun ≡ 24 = omega arith in
    let regrouped : bytes ≡ begun ++ b.behind =
    b.parts
    ∙ ap (λ z. magic ++ z) (sym (append_assoc (word_bytes version) (word_bytes senders) b.behind))
    ∙ sym (append_assoc magic (word_bytes version ++ word_bytes senders) b.behind) in
    let there : f ≡ length begun + (16 + 8 * senders) = omega arith in
    let taken : front ≡ begun ++ take (16 + 8 * senders) b.behind =
    ap (λ z. take f z) regrouped ∙ ap (λ z. take z (begun ++ b.behind)) there
    ∙ take-append-add begun b.behind (16 + 8 * senders) in
    let rest : take (16 + 8 * senders) b.behind ≡ drop 24 front =
    sym (ap (λ z. drop 24 z) taken
    ∙ drop_at begun (take (16 + 8 * senders) b.behind) 24 twenty_four) in
    let front_is : front ≡ header_front h =
    taken ∙ ap (λ z. begun ++ z) (rest ∙ tail)
    ∙ append_assoc magic (word_bytes version ++ word_bytes senders)
    (word_bytes most ++ (word_bytes place ++ words_bytes first))
    ∙ ap (λ z. magic ++ z) (append_assoc (word_bytes version) (word_bytes senders)
    (word_bytes most ++ (word_bytes place ++ words_bytes first))) in
    let back = drop f bytes in
    let sizes = ap length tail in
    let left = length-drop 24 front in
    let a = word_first most (word_bytes place ++ words_bytes first) in
    let c = word_first place (words_bytes first) in
    let d = length-words first in (
      omega arith,
      sym (take-append-drop f bytes)
          ∙ ap (λ z. z ++ back) front_is
          ∙ ap (λ z. header_front h ++ z)
          (sym (take-append-drop 8 back) ∙ ap (λ z. z ++ drop 8 back) (sum ∙ ap checksum front_is)
          ∙ ap (λ z. checksum (header_front h) ++ z) (drop-drop 8 f bytes))
          ∙ sym (append_assoc (header_front h) (checksum (header_front h)) (drop (f + 8) bytes)),
    )

-- ---- faults exclude each other, and a header

magic_not_version : (bytes : List ℕ) (v : ℕ) (rest : List ℕ) → IsOtherMagic bytes
    → bytes ≡ magic ++ (word_bytes v ++ rest) → ⊥
magic_not_version bytes v rest m e =
    m (ap (λ z. take 8 z) e ∙ magic_there (word_bytes v ++ rest)
    ∙ ap (λ z. take (length z) magic) (sym e))

pub one_fault : (bytes : List ℕ) (f g : JournalFault) → IsRefused bytes f → IsRefused bytes g
    → f ≢ fault.NoMemory → g ≢ fault.NoMemory → f ≡ g
one_fault bytes fault.NoMemory g r s some some' = absurd (some refl)
one_fault bytes fault.OtherMagic fault.NoMemory r s some some' = absurd (some' refl)
one_fault bytes (fault.OtherVersion v) fault.NoMemory r s some some' = absurd (some' refl)
one_fault bytes fault.TornHeader fault.NoMemory r s some some' = absurd (some' refl)
one_fault bytes fault.DamagedHeader fault.NoMemory r s some some' = absurd (some' refl)
one_fault bytes fault.OtherMagic fault.OtherMagic r s some some' = refl
one_fault bytes fault.OtherMagic (fault.OtherVersion v) r s some some' =
    absurd (magic_not_version bytes v s.0 r s.1)
one_fault bytes fault.OtherMagic fault.TornHeader r s some some' = absurd (r s.begins)
one_fault bytes fault.OtherMagic fault.DamagedHeader r s some some' =
    absurd (magic_not_version bytes version s.rest r s.begins)
one_fault bytes (fault.OtherVersion v) fault.OtherMagic r s some some' =
    absurd (magic_not_version bytes v r.0 s r.1)
one_fault bytes (fault.OtherVersion v) (fault.OtherVersion w) r s some some' =
    ap (λ z. fault.OtherVersion z) (one_version bytes r.0 v w r.2 r.1 s)
one_fault bytes (fault.OtherVersion v) fault.TornHeader r s some some' = absurd (s.versions v r)
one_fault bytes (fault.OtherVersion v) fault.DamagedHeader r s some some' =
    absurd (no_other bytes s.rest v s.begins r)
one_fault bytes fault.TornHeader fault.OtherMagic r s some some' = absurd (s r.begins)
one_fault bytes fault.TornHeader (fault.OtherVersion v) r s some some' = absurd (r.versions v s)
one_fault bytes fault.TornHeader fault.TornHeader r s some some' = refl
one_fault bytes fault.TornHeader fault.DamagedHeader r s some some' = absurd (s.enough r)
one_fault bytes fault.DamagedHeader fault.OtherMagic r s some some' =
    absurd (magic_not_version bytes version r.rest s r.begins)
one_fault bytes fault.DamagedHeader (fault.OtherVersion v) r s some some' =
    absurd (no_other bytes r.rest v r.begins s)
one_fault bytes fault.DamagedHeader fault.TornHeader r s some some' = absurd (r.enough s)
one_fault bytes fault.DamagedHeader fault.DamagedHeader r s some some' = refl

-- bytes that begin with a header have no fault
pub no_fault : (h : Heading) (body bytes : List ℕ) (f : JournalFault) → IsHeading h
    → bytes ≡ header_bytes h ++ body → IsRefused bytes f → f ≡ fault.NoMemory
no_fault h body bytes fault.OtherMagic is e r =
    let b = header_begins h body in
    absurd (magic_not_version bytes version (word_bytes h.senders ++ b.0) r (e ∙ b.1))
no_fault h body bytes (fault.OtherVersion v) is e r =
    let b = header_begins h body in
    absurd (no_other bytes (word_bytes h.senders ++ b.0) v (e ∙ b.1) r)
no_fault h body bytes fault.TornHeader is e r =
    let b = header_begins h body in
    let most = is.most_senders in
    let s = r.short h.senders b.0 (omega arith) (e ∙ b.1) in
    let few = s.2 in
    let long = ap length e in
    let all = length-append (header_bytes h) body in
    let size = length-header h is in
    absurd (omega arith)
no_fault h body bytes fault.DamagedHeader is e r = absurd (r.none h body is e)
no_fault h body bytes fault.NoMemory is e r = refl

-- ---- what was read and written, put together

pub version_parts : (bytes : List ℕ) (known v : ℕ) (front behind : List ℕ)
    → known ≡ min (length bytes) 8 → front ≡ take known bytes → front ≡ take known magic
    → behind ≡ drop known bytes → 8 ≤ length behind → behind ≡ word_bytes v ++ drop 8 behind
    → bytes ≡ magic ++ (word_bytes v ++ drop 8 behind)
version_parts bytes known v front behind is front_is same behind_is long some =
    let left = length-drop known bytes in
    let there = ap length behind_is in
    let eight : known ≡ 8 = omega arith in
    magic_behind bytes (begins_as bytes known is (sym front_is ∙ same)) (omega arith)
    ∙ ap (λ z. magic ++ z)
    (ap (λ z. drop z bytes) (sym eight) ∙ sym behind_is ∙ some)

pub senders_parts : (bytes : List ℕ) (known v senders : ℕ) (front behind later : List ℕ)
    → known ≡ min (length bytes) 8 → front ≡ take known bytes → front ≡ take known magic
    → behind ≡ drop known bytes → 8 ≤ length behind → behind ≡ word_bytes v ++ drop 8 behind
    → v ≡ version → later ≡ drop 16 bytes → later ≡ word_bytes senders ++ drop 8 later
    → bytes ≡ magic ++ (word_bytes version ++ (word_bytes senders ++ drop 8 later))
senders_parts bytes known v senders front behind later is front_is same behind_is long some one
    later_is some' =
    let parts = version_parts bytes known v front behind is front_is same behind_is long some in
    let m = length-magic in
    let w = length-word v in
    let both = length-append magic (word_bytes v) in
    let there : drop 16 bytes ≡ drop 8 behind =
    ap (λ z. drop 16 z) (parts ∙ sym (append_assoc magic (word_bytes v) (drop 8 behind)))
    ∙ drop_at (magic ++ word_bytes v) (drop 8 behind) 16 (omega arith) in
    parts ∙ ap (λ z. magic ++ (word_bytes z ++ drop 8 behind)) one
    ∙ ap (λ z. magic ++ (word_bytes version ++ z)) (sym there ∙ sym later_is ∙ some')

pub header_pushed : (h : Heading) (old a b c d sum : List ℕ) → a ≡ old ++ magic
    → b ≡ a ++ words_bytes (version ∷ h.senders ∷ h.most ∷ h.place ∷ [])
    → c ≡ b ++ words_bytes h.first → d ≡ c ++ sum → sum ≡ checksum (drop (length old) c)
    → d ≡ old ++ header_bytes h
header_pushed h old a b c d sum is_a is_b is_c is_d seal =
    let four = version ∷ h.senders ∷ h.most ∷ h.place ∷ [] in
    let words : words_bytes four ++ words_bytes h.first ≡ words_bytes (header_words h) =
    sym (flat_map-append word_bytes four h.first) in
    let front : c ≡ old ++ header_front h =
    is_c ∙ ap (λ z. z ++ words_bytes h.first) (is_b ∙ ap (λ z. z ++ words_bytes four) is_a)
    ∙ append_assoc (old ++ magic) (words_bytes four) (words_bytes h.first)
    ∙ ap (λ z. (old ++ magic) ++ z) words
    ∙ append_assoc old magic (words_bytes (header_words h)) in
    is_d ∙ ap (λ z. z ++ sum) front
    ∙ append_assoc old (header_front h) sum
    ∙ ap (λ z. old ++ (header_front h ++ z))
    (seal ∙ ap checksum (ap (λ z. drop (length old) z) front
    ∙ drop_at old (header_front h) (length old) refl))

-- ---- a header that is cut off

three_parts : (a b c d rest : List ℕ)
    → (a ++ (b ++ (c ++ d))) ++ rest ≡ a ++ (b ++ (c ++ (d ++ rest)))
three_parts a b c d rest =
    append_assoc a (b ++ (c ++ d)) rest
    ∙ ap (λ z. a ++ z) (append_assoc b (c ++ d) rest ∙ ap (λ z. b ++ z) (append_assoc c d rest))

-- the first bytes of what begins with the magic are the magic's
cut_magic : (k : ℕ) (tail bytes : List ℕ) → bytes ≡ take k (magic ++ tail)
    → k ≤ length (magic ++ tail) → take 8 bytes ≡ take (length bytes) magic
cut_magic k tail bytes e within = elim (cases_lt 8 k) [
  | inl many ↦
      let first : take 8 bytes ≡ magic =
      ap (λ z. take 8 z) e ∙ take-take 8 k (magic ++ tail) (omega arith)
      ∙ take_at magic tail 8 length-magic in
      first
      ∙ sym (take_all (length bytes) magic (let m = length-magic in let s = size in omega arith))
  | inr few ↦
      let m = length-magic in
      let s = size in
      let all : bytes ≡ take k magic = e ∙ take-append-le k magic tail (omega arith) in
      take_all 8 bytes (omega arith) ∙ all ∙ ap (λ z. take z magic) (sym size)
]
  where
    size : length bytes ≡ k
    size = ap length e ∙ length-take-le k (magic ++ tail) within

pub torn_cut : (h : Heading) (k : ℕ) (bytes : List ℕ) → IsHeading h
    → k < length (header_bytes h) → bytes ≡ take k (header_bytes h) → IsTornHeader bytes
torn_cut h k bytes is below e =
    let rest = drop k (header_bytes h) in
    let begins = header_begins h [] in
    let begun = sym (append-nil (header_bytes h)) ∙ begins.1 in
    let whole : header_bytes h ≡ bytes ++ rest =
    sym (take-append-drop k (header_bytes h)) ∙ ap (λ z. z ++ rest) (sym e) in
    let tail = words_bytes (header_words h) ++ checksum (header_front h) in
    let parts = append_assoc magic (words_bytes (header_words h)) (checksum (header_front h)) in
    let size = ap length e ∙ length-take-le k (header_bytes h) (omega arith) in
    let long = length-header h is in
    let some = is.some_senders in
    let most = is.most_senders in
    record {
      begins = cut_magic k tail bytes (e ∙ ap (λ z. take k z) parts)
          (subst (λ (z : List ℕ). k ≤ length z) parts (omega arith));
      versions =
          λ other o. no_other (header_bytes h) (word_bytes h.senders ++ begins.0) other begun (
            o.0 ++ rest,
            whole ∙ ap (λ z. z ++ rest) o.1 ∙ append_assoc magic (word_bytes other ++ o.0) rest
                ∙ ap (λ z. magic ++ z) (append_assoc (word_bytes other) o.0 rest),
            o.2,
            o.3,
          );
      short = λ senders r fits e'.
          let same = one_senders h.senders senders begins.0 (r ++ rest) (omega arith) fits
          (sym begun ∙ whole ∙ ap (λ z. z ++ rest) e'
          ∙ three_parts magic (word_bytes version) (word_bytes senders) r rest) in
          (omega arith, omega arith, omega arith);
    }
