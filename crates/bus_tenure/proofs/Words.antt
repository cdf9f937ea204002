-- Who stores a word of its frame, and the words behind that one.
use Rattle.std.proofs.Common.{◌≡◌, ℕ, ◌+◌, ◌<◌, ◌≤◌, Bool, true, false, cond, nat_lt, sym, ◌∙◌, ap}
use Rattle.std.proofs.lemmas.Bool.{leb-true, ltb-true, lt-ltb}
use Rattle.bus_tenure.specs.Core.{Core, Election, frame_len, has_room}
use Rattle.bus_tenure.specs.Situations.{StoresWord, StoresLength, GivesBack, situation_of}
use Rattle.bus_tenure.specs.Situations.{situation_at}
use Rattle.bus_tenure.specs.declared.pages.Page.{Page}
use Rattle.bus_tenure.specs.declared.phases.Phase.TheVariants.{Holding}
use Rattle.bus_tenure.specs.declared.phases.Reason.TheVariants.{FoundEnd, NoRoom}
use Rattle.bus_tenure.proofs.Caused.{told_word}
use Rattle.bus_tenure.proofs.Situated.{tells}

module _ {E : Type 0} (X : Election E) (c : Core E) (t : ℕ) (page : Page) (stored : ℕ)
    (i : situation_of X c ≡ StoresWord t page stored) where
  held : (published : Bool) × (c.phase ≡ Holding t page stored published)
      × (published ≡ false) × (page.ended ≡ false) × (has_room c page ≡ true)
      × (nat_lt stored (frame_len c) ≡ true)
  held =
      let ph = tells X c (StoresWord t page stored) i in
      let q = told_word {E = E} t page stored ph.0 _ _ _ (ap (situation_at X c) (sym ph.1) ∙ i) in
      (ph.0, ph.1, q.0, q.1, q.2, q.3)

  -- has its page before it, and the length not stored
  pub holds_unpublished : c.phase ≡ Holding t page stored false
  holds_unpublished = held.1 ∙ ap (Holding t page stored) held.2

  pub word_left : stored < frame_len c
  word_left = ltb-true _ _ held.5

  pub word_fits : page.words + frame_len c ≤ c.layout.capacity + page.floor
  word_fits = leb-true _ _ held.4

  -- and stores any other where as many of the frame are stored
  pub word_due : (n : ℕ) → n < frame_len c
      → situation_of X (record c { phase = Holding t page n false }) ≡ StoresWord t page n
  word_due n lt =
      ap (λ a. cond a (GivesBack t page FoundEnd)
      (cond (has_room c page)
      (cond (nat_lt n (frame_len c)) (StoresWord t page n) (StoresLength t page n))
      (GivesBack t page NoRoom)))
      held.3
      ∙ ap (λ a. cond a
      (cond (nat_lt n (frame_len c)) (StoresWord t page n) (StoresLength t page n))
      (GivesBack t page NoRoom))
      held.4
      ∙ ap (λ a. cond a (StoresWord t page n) (StoresLength t page n)) (lt-ltb n (frame_len c) lt)
