-- That frames fit the log, and lengths their word.
use Rattle.std.proofs.Common.{◌≡◌, ℕ, ◌+◌, ◌<◌, ◌≤◌, ◌^◌, arith, sym, ◌∙◌, ap, subst}
use Rattle.std.proofs.Math.Nat.{mod-eq_of_lt}
use Rattle.std.proofs.lemmas.Bool.{le-leb, lt-leb}
use Rattle.bus_tenure.specs.Core.{Core, Election, Layout, cell_of, frame_len, GoesByFloor}
use Rattle.bus_tenure.specs.Doings.{doing_of, FitsBehind}
use Rattle.bus_tenure.specs.Keeping.{SenderInvariant, PhaseKeeps, IsHolding}
use Rattle.bus_tenure.specs.Situations.{StoresWord, StoresLength, situation_of, situation_at}
use Rattle.bus_tenure.specs.declared.doings.Doing.TheVariants as doing
use Rattle.bus_tenure.specs.declared.pages.Page.{Page}
use Rattle.bus_tenure.proofs.Caused.{word_room, length_room}
use Rattle.bus_tenure.proofs.Inverted.{word_is, length_is}
use Rattle.bus_tenure.proofs.Situated.{tells}

-- a frame fits that ends no further behind the floor than the log is long, and no other
pub goes_by_floor : {E : Type 0} (c : Core E) (page : Page) → GoesByFloor c page
goes_by_floor c page = (λ low. le-leb _ _ low, λ high. lt-leb _ _ high)

-- a place that no whole log lies below lives in the word of its number
pub cell_straight : (x : Layout) (place : ℕ) → place < x.capacity → cell_of x place ≡ place
cell_straight x place few = mod-eq_of_lt few

-- and so does that of a word which is stored on a page whose floor is the first place
pub word_straight : {E : Type 0} (X : Election E) (c : Core E) (t : ℕ) (page : Page) (stored : ℕ)
    → situation_of X c ≡ StoresWord t page stored → page.floor ≡ 0
    → cell_of c.layout (page.words + stored) ≡ page.words + stored
word_straight X c t page stored at floor =
    let ph = tells X c (StoresWord t page stored) at in
    let r = word_room c t page stored ph.0 ph.1 (ap (situation_at X c) (sym ph.1) ∙ at) in
    let room = r.0 in
    let left = r.1 in
    cell_straight c.layout (page.words + stored) (omega arith)

-- a log that a frame fits has words
pub some_fits : {E : Type 0} (c : Core E) (words stored : ℕ) → FitsBehind c words
    → stored < frame_len c → 0 < c.layout.capacity
some_fits c words stored fits below =
    let behind = fits.kept.behind in
    let words_are = fits.words_are in
    let room = fits.room in
    omega arith

module _ {E : Type 0} (X : Election E) (width : ℕ) (Belongs : ℕ → E → Type 0) (c s : Core E)
    (same : c ≡ s) (k : SenderInvariant width Belongs c) where
  -- who is seen to store a word of its frame has room and that word left, and the length behind its
  -- frame is a number
  abbrev Goes : Core E → (words stored : ℕ) → Type 0
  Goes y words stored =
      FitsBehind y words × (stored < frame_len y) × (words + frame_len y < 2 ^ 64)

  pub word_goes : (t words stored : ℕ)
      → doing_of (situation_of X s) ≡ doing.Word t words stored → Goes s words stored
  word_goes t words stored d = subst (λ y. Goes y words stored) same (by here) where
    here : doing_of (situation_of X c) ≡ doing.Word t words stored
    here = ap (λ y. doing_of (situation_of X y)) same ∙ d

    by : doing_of (situation_of X c) ≡ doing.Word t words stored → Goes c words stored
    by i =
        let z = word_is (situation_of X c) t words stored i in
        let ph = tells X c (StoresWord t z.0 stored) z.2 in
        let h : IsHolding c t z.0 stored ph.0 = subst (PhaseKeeps Belongs c) ph.1 k.phase in
        let fits = word_room c t z.0 stored ph.0 ph.1
        (ap (situation_at X c) (sym ph.1) ∙ z.2) in
        let behind = h.kept.behind in
        let few = h.kept.few in
        let capacity_few = k.sizes.capacity_few in
        let words_are = z.1 in
        let room = fits.0 in (
          record {
            tenure = t;
            page = z.0;
            stored = stored;
            published = ph.0;
            holds = ph.1;
            kept = h.kept;
            words_are = z.1;
            room = subst (λ n. n + frame_len c ≤ c.layout.capacity + z.0.floor) z.1 room;
          },
          fits.1,
          omega arith,
        )

  -- the length behind a frame that is stored is a number
  pub length_fits : (t words : ℕ)
      → doing_of (situation_of X s) ≡ doing.Length t words → words + frame_len s < 2 ^ 64
  length_fits t words d = subst (λ y. words + frame_len y < 2 ^ 64) same (by here) where
    here : doing_of (situation_of X c) ≡ doing.Length t words
    here = ap (λ y. doing_of (situation_of X y)) same ∙ d

    by : doing_of (situation_of X c) ≡ doing.Length t words → words + frame_len c < 2 ^ 64
    by i =
        let z = length_is (situation_of X c) t words i in
        let ph = tells X c (StoresLength t z.0 z.1) z.3 in
        let h : IsHolding c t z.0 z.1 ph.0 = subst (PhaseKeeps Belongs c) ph.1 k.phase in
        let fits = length_room c t z.0 z.1 ph.0 ph.1
        (ap (situation_at X c) (sym ph.1) ∙ z.3) in
        let few = h.kept.few in
        let capacity_few = k.sizes.capacity_few in
        let words_are = z.2 in
        omega arith
