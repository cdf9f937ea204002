-- From a reader's fields to what one word does to it.
use Rattle.std.proofs.Common.{◌≡◌, ℕ, ◌+◌, ◌-◌, ◌*◌, ◌^◌, ◌<◌, ◌≤◌, List, ◌++◌, length, take, drop}
use Rattle.std.proofs.Common.{arith, refl, sym, ap, ◌∙◌, subst, Ok, Err, None}
use Rattle.std.specs.Prelude.{All, Bool, Option, Result}
use Rattle.std.specs.Int.{w64, to_be_bytes}
use Rattle.std.proofs.lemmas.List.{length-drop, take_all}
use Rattle.bus_register.specs.declared.registers.SenderNo.{SenderNo}
use Rattle.bus_batch.specs.declared.messages.Piece.{Piece}
use Rattle.bus_batch.specs.declared.readers.BadWord.{BadWord}
use Rattle.bus_batch.specs.declared.readers.Place.{Place}
use Rattle.bus_batch.specs.declared.readers.Place.TheVariants as place
use Rattle.bus_batch.specs.Frames.{data_len}
use Rattle.bus_batch.specs.Reading.{Reading, IsSound}
use Rattle.bus_batch.proofs.Bytes.{spread_len, takes_part}
use Rattle.bus_batch.specs.Steps.{Steps, Takes, Refuses}

abbrev pub reading : ℕ → ℕ → ℕ → List Bool → Place → List ℕ → Reading
reading most senders least gone p bytes = record {
  senders = senders;
  most = most;
  least = least;
  left = gone;
  place = p;
  bytes = bytes;
}

pub good : (old new : Reading) (word : ℕ) (found : Option Piece) → Takes old word found new
    → Steps old word (Ok found) new
good old new word found takes = record { good = takes; bad = tt }

pub refused : (old new : Reading) (word : ℕ) → Refuses old word × (new ≡ old)
    → Steps old word (Err (record {})) new
refused old new word refuses = record { good = tt; bad = refuses }

-- a reader whose fields and place are known
pub at_place : (most senders least : ℕ) (gone : List Bool) (p q : Place) (bytes : List ℕ) (word : ℕ)
    (answer : Result (Option Piece) BadWord) (old new : Reading)
    → reading most senders least gone q bytes ≡ old → old.place ≡ p
    → Steps (reading most senders least gone p bytes) word answer new → Steps old word answer new
at_place most senders least gone p q bytes word answer old new is here steps =
    let at_q : q ≡ p = ap (λ (r : Reading). r.place) is ∙ here in
    subst (λ r. Steps r word answer new) is
    (subst (λ z. Steps (reading most senders least gone z bytes) word answer new) (sym at_q) steps)

-- where no log goes on with the word, such a reader stays as it is
pub refuses_at :
    (most senders least : ℕ) (gone : List Bool) (p q : Place) (bytes : List ℕ) (word : ℕ)
    (old : Reading)
    → reading most senders least gone q bytes ≡ old → old.place ≡ p
    → Refuses (reading most senders least gone p bytes) word → Refuses old word
refuses_at most senders least gone p q bytes word old is here refuses =
    let at_q : q ≡ p = ap (λ (r : Reading). r.place) is ∙ here in
    subst (λ r. Refuses r word) is
    (subst (λ z. Refuses (reading most senders least gone z bytes) word) (sym at_q) refuses)

pub refused_at : (most senders least : ℕ) (gone : List Bool) (p q : Place) (bytes : List ℕ)
    (word : ℕ)
    (old : Reading)
    → reading most senders least gone q bytes ≡ old → old.place ≡ p
    → Refuses (reading most senders least gone p bytes) word → Steps old word (Err (record {})) old
refused_at most senders least gone p q bytes word old is here refuses = refused old old word (
  refuses_at most senders least gone p q bytes word old is here refuses,
  refl,
)

pub sound_at : (most senders least : ℕ) (gone : List Bool) (p q : Place) (bytes : List ℕ)
    (old : Reading)
    → reading most senders least gone q bytes ≡ old → old.place ≡ p → IsSound most q bytes
    → IsSound most p bytes
sound_at most senders least gone p q bytes old is here sound =
    subst (λ z. IsSound most z bytes) (ap (λ (r : Reading). r.place) is ∙ here) sound

-- the zero bytes of a data word
pub zero_rest : (k word : ℕ) (bytes : List ℕ) → bytes ≡ to_be_bytes w64 word
    → All (λ b. b ≡ 0) (take (8 - k) (drop k bytes))
    → All (λ b. b ≡ 0) (drop k (to_be_bytes w64 word))
zero_rest k word bytes is zero =
    let size : length (drop k (to_be_bytes w64 word)) ≤ 8 - k =
    let e = length-drop k (to_be_bytes w64 word) in let e' = spread_len word in omega arith in
    subst (λ z. All (λ b. b ≡ 0) z) (take_all (8 - k) (drop k (to_be_bytes w64 word)) size)
    (subst (λ z. All (λ b. b ≡ 0) (take (8 - k) (drop k z))) is zero)

pub zero_part : (k word : ℕ) (bytes : List ℕ) → bytes ≡ to_be_bytes w64 word
    → All (λ b. b ≡ 0) (drop k (to_be_bytes w64 word))
    → All (λ b. b ≡ 0) (take (8 - k) (drop k bytes))
zero_part k word bytes is zero =
    let size : length (drop k (to_be_bytes w64 word)) ≤ 8 - k =
    let e = length-drop k (to_be_bytes w64 word) in let e' = spread_len word in omega arith in
    subst (λ z. All (λ b. b ≡ 0) (take (8 - k) (drop k z))) (sym is)
    (subst (λ z. All (λ b. b ≡ 0) z) (sym (take_all (8 - k) (drop k (to_be_bytes w64 word)) size))
    zero)

-- eight bytes of a message that has more
none_left : (word : ℕ) → All (λ b. b ≡ 0) (drop 8 (to_be_bytes w64 word))
none_left word i d below =
    absurd (let e = length-drop 8 (to_be_bytes w64 word) in let e' = spread_len word in omega arith)

pub takes_eight : (most senders least word : ℕ) (gone : List Bool) (owner : SenderNo)
    (left room number len : ℕ) (bytes : List ℕ) → word < 2 ^ 64
    → data_len (len - length bytes) ≤ left → left ≤ data_len (len - length bytes) + 8 * room
    → room < most → length bytes + 8 < len
    → Steps (reading most senders least gone (place.Data owner left room number len) bytes) word
    (Ok None) (reading most senders least gone (place.Data owner (left - 1) room number len)
    (bytes ++ to_be_bytes w64 word))
takes_eight most senders least word gone owner left room number len bytes fits within fillable few
    more =
    let all : take 8 (to_be_bytes w64 word) ≡ to_be_bytes w64 word =
    take_all 8 (to_be_bytes w64 word) (let e = spread_len word in omega arith) in
    good _ _ word None
    (subst (λ z. Takes (reading most senders least gone (place.Data owner left room number len)
    bytes)
    word None
    (reading most senders least gone (place.Data owner (left - 1) room number len) (bytes
    ++ z))) all
    (takes_part most senders least word gone owner left room number len 8 bytes fits
    (omega arith) within
    fillable few (omega arith) (none_left word) (omega arith)))
