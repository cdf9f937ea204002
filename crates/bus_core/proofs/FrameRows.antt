-- Words of a frame in words of the log that follow one another.
use Rattle.std.proofs.Common.{◌≡◌, ℕ, zero, suc, ◌+◌, ◌<◌, ◌≤◌, List, length, take, arith}
use Rattle.std.proofs.Common.{get_or, refl, sym, ◌∙◌, ap, subst, false}
use Rattle.std.proofs.Math.Nat.{mod-eq_of_lt, mod-add-mod, min-le_left, min-le_right}
use Rattle.std.proofs.lemmas.List.{get_or-take, length-take}
use Rattle.bus_batch.specs.Batches.{frame_of}
use Rattle.bus_batch.specs.Frames.{frame_words}
use Rattle.bus_tenure.specs.Core.{Core, Election, Layout, cell_of, frame_len}
use Rattle.bus_tenure.specs.Doings.{doing_of, FitsBehind, AreWords, with_stored, phase_stored}
use Rattle.bus_tenure.specs.Seen.{HoldsPublished}
use Rattle.bus_tenure.specs.declared.doings.Doing.TheVariants as doing
use Rattle.bus_tenure.specs.Paging.{PageKeeps}
use Rattle.bus_tenure.specs.Situations.{StoresWord, situation_of as own_situation}
use Rattle.bus_tenure.specs.declared.pages.Page.{Page}
use Rattle.bus_tenure.specs.declared.phases.Phase.TheVariants.{Holding}
use Rattle.bus_tenure.proofs.Words.{holds_unpublished, word_fits, word_due}
use Rattle.bus_core.specs.Keeping.{IsAway, sender}
use Rattle.bus_core.specs.Plain.{IsPlain, Word, Clear, StoresPlain, StoresRow, StoresWords}
use Rattle.bus_core.specs.Plain.{stored_on}
use Rattle.bus_core.specs.Senders.{Sender, Does, log_start, situation, situation_by, words_all}
use Rattle.bus_core.specs.Table.{line, line_now}
use Rattle.bus_core.proofs.Kept.{Keeps}
use Rattle.bus_core.proofs.Plain.{away_word, plain_away, word_place, word_stores}
use Rattle.bus_core.proofs.Reusing.Keeps.{ElectionsKeep}
use Rattle.bus_core.proofs.Rows.{keeps_on, row_of}
use Rattle.bus_core.proofs.Situated.{own_is}

-- a place some words behind another lives so many words behind it, where the log does not end first
cell_behind : (x : Layout) (place n : ℕ) → cell_of x place + n < x.capacity
    → cell_of x (place + n) ≡ cell_of x place + n
cell_behind x place n few =
    sym (mod-add-mod place x.capacity n) ∙ mod-eq_of_lt few

module _ {E : Type 0} (X : Election E) (v : Sender E) (away : IsAway v.reuse) (t : ℕ) (page : Page)
    (stored : ℕ) (own : own_situation X v.core ≡ StoresWord t page stored) where
  -- the sender where so many words of the frame are stored
  abbrev pub worded : ℕ → Sender E
  worded n = sender (record v.core { phase = Holding t page n false }) v.reuse

  words_on : (n : ℕ) → n < frame_len v.core → situation X (worded n) ≡ Does (StoresWord t page n)
  words_on n lt =
      ap (situation_by v.core.layout.passers v.reuse) (word_due X v.core t page stored own n lt)
      ∙ away_word v.core.layout.passers v.reuse away t page n

  -- so many of its steps store so many words
  pub words_many : (n : ℕ) → stored + n ≤ frame_len v.core → stored_on X v n ≡ worded (stored + n)
  words_many zero left =
      let same : stored ≡ stored + 0 = omega arith in
      ap (λ ph. sender (record v.core { phase = ph }) v.reuse)
      (holds_unpublished X v.core t page stored own ∙ ap (λ m. Holding t page m false) same)
  words_many (suc n) left =
      let more : stored + n + 1 ≡ stored + suc n = omega arith in
      ap (λ y. (line_now X y).fed 0 0) (words_many n (omega (arith, left)))
      ∙ ap (λ z. (line X (worded (stored + n)) z).fed 0 0)
      (words_on (stored + n) (omega (arith, left)))
      ∙ ap worded more

  -- each of which is plain
  pub words_plain : (n : ℕ) → stored + n < frame_len v.core → IsPlain X (stored_on X v n)
  words_plain n lt =
      subst (IsPlain X) (sym (words_many n (omega (arith, lt))))
      (Word t page (stored + n) (words_on (stored + n) lt))

  -- and stores this value in the word behind
  pub words_row : FitsBehind v.core page.words → (n : ℕ) → stored + n < frame_len v.core
      → (at : ℕ)
      → at ≡ log_start v.core.layout v.reuse + cell_of v.core.layout (page.words + stored)
      → cell_of v.core.layout (page.words + stored) + n < v.core.layout.capacity
      → (value : ℕ)
      → value ≡ get_or (frame_words (frame_of v.core.queue t)) (stored + n) 0
      → StoresPlain X (stored_on X v n) (at + n) value
  words_row fits n lt at place few value word =
      let behind : page.words + stored + n ≡ page.words + (stored + n) = omega arith in
      let cell = cell_behind v.core.layout (page.words + stored) n few in
      let here : at + n
      ≡ log_start v.core.layout v.reuse + cell_of v.core.layout (page.words + stored + n) =
      omega (arith, place, cell) in
      subst (λ y. StoresPlain X y (at + n) value) (sym (words_many n (omega (arith, lt))))
      (word_stores X (worded (stored + n)) t page.words (stored + n)
      (ap doing_of (word_due X v.core t page stored own (stored + n) lt))
      (λ other. away_word v.core.layout.passers v.reuse away t other (stored + n))
      (at + n)
      (here ∙ ap (λ m. log_start v.core.layout v.reuse + cell_of v.core.layout m) behind)
      value word record {
        tenure = t;
        page = page;
        stored = stored + n;
        published = false;
        holds = refl;
        kept = kept;
        words_are = refl;
        room = word_fits X v.core t page stored own;
      } lt)
    where
      same : fits.page ≡ page
      same =
          let e = sym fits.holds ∙ holds_unpublished X v.core t page stored own in
          cc

      kept : PageKeeps page
      kept = subst PageKeeps same fits.kept

-- the first so many of such words are such words
pub fewer_words : {E : Type 0} (c : Core E) (t stored many : ℕ) (words : List ℕ)
    → AreWords c t stored words → AreWords c t stored (take many words)
fewer_words c t stored many words are = record {
  within =
      let most = are.within in
      let few = short in
      omega (arith, most, few);
  each = λ n lt.
      let long = length-take many words in
      let low = min-le_left many (length words) in
      let few = short in
      get_or-take many words n 0 (omega (arith, lt, long, low))
      ∙ are.each n (omega (arith, lt, few));
} where
  short : length (take many words) ≤ length words
  short =
      let long = length-take many words in
      let high = min-le_right many (length words) in
      omega (arith, long, high)

module _ {E : Type 0} (X : Election E) (W : Layout → ℕ) (B : Layout → ℕ → ℕ → E → Type 0)
    (law : ElectionsKeep X W B) (v : Sender E) (k : Keeps X W B law v) (t : ℕ) (page : Page)
    (stored : ℕ) (i : situation X v ≡ Does (StoresWord t page stored)) where
  own_word : own_situation X v.core ≡ StoresWord t page stored
  own_word = own_is X v (StoresWord t page stored) i

  unpinned : IsAway v.reuse
  unpinned =
      plain_away X v (W v.core.layout) (B v.core.layout v.core.me) k (Word t page stored i)

  -- words of its frame that follow one another in the log
  pub frame_row : FitsBehind v.core page.words → (at value : ℕ) → StoresPlain X v at value
      → (words : List ℕ) → AreWords v.core t stored words → at + length words ≤ words_all v
      → StoresRow X v at (λ n. get_or words n 0) (length words)
  frame_row fits at value stores words are room =
      row_of X W B law v k at (λ n. get_or words n 0) (length words) each where
        place : at
            ≡ log_start v.core.layout v.reuse + cell_of v.core.layout (page.words + stored)
        place = word_place X v t page stored at value i stores.step

        each : (n : ℕ) → n < length words
            → StoresPlain X (stored_on X v n) (at + n) (get_or words n 0)
        each n lt =
            let most = are.within in
            words_row X v unpinned t page stored own_word fits n (omega (arith, lt, most)) at place
            (omega (arith, lt, room, place))
            (get_or words n 0) (are.each n lt)

  -- once so many are stored
  module _ (many : ℕ) (within : stored + many ≤ frame_len v.core) where
    pub frame_stored : sender (with_stored v.core many) v.reuse ≡ stored_on X v many
    frame_stored =
        ap (λ ph. sender (record v.core { phase = phase_stored ph many }) v.reuse)
        (holds_unpublished X v.core t page stored own_word)
        ∙ sym (words_many X v unpinned t page stored own_word many within)

    pub frame_keeps : Keeps X W B law (stored_on X v many)
    frame_keeps =
        keeps_on X W B law v k many
        (λ n lt. words_plain X v unpinned t page stored own_word n (omega (arith, lt, within))) many
        (omega arith)

-- what is told of the words that are left, and of the first of them that were asked for
module _ {E : Type 0} (X : Election E) (W : Layout → ℕ) (B : Layout → ℕ → ℕ → E → Type 0)
    (law : ElectionsKeep X W B) (v : Sender E) (k : Keeps X W B law v)
    (none : HoldsPublished v.core.phase → ⊥) (at value : ℕ) (stores : StoresPlain X v at value)
    (left within asked : List ℕ) (room most : ℕ)
    (next : (t words stored : ℕ) → doing_of (own_situation X v.core) ≡ doing.Word t words stored
    → AreWords v.core t stored left)
    (fits : (t words stored : ℕ) → doing_of (own_situation X v.core) ≡ doing.Word t words stored
    → FitsBehind v.core words)
    (log : words_all v ≡ at + room) (first : within ≡ take room left) (few : length within ≤ room)
    (then : asked ≡ take most within) (fewer : length asked ≤ length within) where
  asked_are : (t words stored : ℕ) → doing_of (own_situation X v.core) ≡ doing.Word t words stored
      → AreWords v.core t stored asked
  asked_are t words stored due =
      subst (AreWords v.core t stored) (sym (then ∙ ap (take most) first))
      (fewer_words v.core t stored most (take room left)
      (fewer_words v.core t stored room left (next t words stored due)))

  by_situation : {A : Type 0} → IsPlain X v
      → ((t : ℕ) (page : Page) (stored : ℕ) → situation X v ≡ Does (StoresWord t page stored) → A)
      → A
  by_situation (Word t page stored i) f = f t page stored i
  by_situation (Clear s i c h) f = absurd (none h)

  pub asked_words : StoresWords X v (length asked)
  asked_words = by_situation stores.plain λ t page stored i.
      let are =
      asked_are t page.words stored (ap doing_of (own_is X v (StoresWord t page stored) i)) in
      record { tenure = t; page = page; stored = stored; is = i; within = are.within }

  pub asked_row : StoresRow X v at (λ n. get_or asked n 0) (length asked)
  asked_row = by_situation stores.plain λ t page stored i.
      let due = ap doing_of (own_is X v (StoresWord t page stored) i) in
      frame_row X W B law v k t page stored i (fits t page.words stored due) at value stores asked
      (asked_are t page.words stored due) (omega (arith, log, few, fewer))
