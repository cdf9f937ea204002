-- Plain stores in words one behind another: what they leave, and how many there are.
use Rattle.std.proofs.Common.{◌≡◌, ℕ, zero, suc, ◌+◌, ◌-◌, ◌<◌, ◌≤◌, ◌==◌, cond, arith, Option}
use Rattle.std.proofs.Common.{Some, None, nat_lt, refl, sym, ◌∙◌, ap, subst}
use Rattle.std.proofs.lemmas.Bool.{lt-ltb, le-ltb}
use Rattle.std.proofs.lemmas.Option.{same_Some}
use Rattle.bus_presence.specs.Reclaimers.{Reclaiming, IsClearing, reclaim_fed, with_cleared}
use Rattle.bus_presence.specs.Reclaimers.{clears_left}
use Rattle.bus_register.specs.Words.{register}
use Rattle.bus_register.specs.declared.registers.Op.TheVariants.{Store}
use Rattle.bus_tenure.specs.Core.{Election, Layout}
use Rattle.bus_tenure.specs.Seen.{HoldsPublished}
use Rattle.bus_tenure.specs.Situations.{StoresWord, TakesPage, GivesBack, situation_at}
use Rattle.bus_tenure.specs.declared.pages.Page.{Page}
use Rattle.bus_tenure.specs.declared.phases.Reason.TheVariants.{Sent}
use Rattle.bus_core.specs.Keeping.{ReuseKeeps, IsAway, reclaimer_in, sender}
use Rattle.bus_core.specs.Plain.{IsPlain, Word, Clear, StoresPlain, StoresRow, stored_on}
use Rattle.bus_core.specs.Plain.{clears_from}
use Rattle.bus_core.specs.Senders.{Sender, Does, Clears, log_start, situation, words_all}
use Rattle.bus_core.specs.Table.{line, line_now, reuse_reclaiming}
use Rattle.bus_core.specs.Telling.{FeedTells}
use Rattle.bus_core.specs.declared.reuses.Reuse.{Reuse}
use Rattle.bus_core.proofs.Kept.{Keeps, keeps_line}
use Rattle.bus_core.proofs.Plain.{clears_by, clear_stores, plain_away, plain_due, plain_going}
use Rattle.bus_core.proofs.Plain.{word_unpublished, reclaims}
use Rattle.bus_core.proofs.Reusing.Keeps.{ElectionsKeep}
use Rattle.bus_core.proofs.Reusing.Tells.{ChoosesItself}
use Rattle.bus_core.proofs.Situated.{own_is}
use Rattle.bus_core.proofs.Told.{line_told}

-- ---- of whichever words
module _ {E : Type 0} (X : Election E) where
  -- who stores plainly takes no page
  takes_none : (v : Sender E) → IsPlain X v → ChoosesItself X v.core
  takes_none v (Word t page stored i) u e =
      let bad : StoresWord t page stored ≡ TakesPage u =
      sym (own_is X v (StoresWord t page stored) i) ∙ e in
      absurd cc
  takes_none v (Clear s i c h) u e =
      let bad : GivesBack h.tenure h.page Sent ≡ TakesPage u =
      sym (ap (situation_at X v.core) h.is) ∙ e in
      absurd cc

  module _ (W : Layout → ℕ) (B : Layout → ℕ → ℕ → E → Type 0) (law : ElectionsKeep X W B)
      (v : Sender E) (k : Keeps X W B law v) where
    -- what a sender keeps it keeps behind plain stores
    pub keeps_on : (many : ℕ) → ((n : ℕ) → n < many → IsPlain X (stored_on X v n))
        → (n : ℕ) → n ≤ many → Keeps X W B law (stored_on X v n)
    keeps_on many plain zero few = k
    keeps_on many plain (suc n) few =
        keeps_line X W B law (stored_on X v n) 0 0 (keeps_on many plain n (omega (arith, few)))
        (plain_due X (stored_on X v n) (plain n (omega (arith, few))) 0)

    -- and each of these is told to be answered Going
    pub row_of : (at : ℕ) (values : ℕ → ℕ) (many : ℕ)
        → ((n : ℕ) → n < many → StoresPlain X (stored_on X v n) (at + n) (values n))
        → StoresRow X v at values many
    row_of at values many stores = record {
      stores = stores;
      tells = λ n got word lt.
          let y = stored_on X v n in
          let plain = (stores n lt).plain in
          subst (FeedTells X y got word) (plain_going X y plain got word)
          (line_told X (W y.core.layout) (B y.core.layout y.core.me) y got word
          (keeps_on many (λ m less. (stores m less).plain) n (omega (arith, lt)))
          (takes_none y plain)
          (plain_due X y plain word));
    }

-- ---- words of the next row
-- a reclamation that clears has a word more cleared
fed_clearing : (s : Reclaiming) (got : ℕ) → IsClearing s → reclaim_fed s got ≡ with_cleared s 1
fed_clearing s got c =
    ap (λ a. cond a (cond (got == 1 + s.past) s (record s { scanned = s.scanned + 1 }))
    (cond (nat_lt s.cleared s.width) (with_cleared s 1) s))
    (le-ltb s.scanned s.senders c.passed)
    ∙ ap (λ b. cond b (with_cleared s 1) s) (lt-ltb s.cleared s.width c.left)

-- with none more it is as it was
none_cleared : (r : Option Reuse) (s : Reclaiming) → reclaimer_in r ≡ Some s
    → reuse_reclaiming r (with_cleared s 0) ≡ r
none_cleared None s is = absurd cc
none_cleared (Some r) s is =
    let same : s.cleared + 0 ≡ s.cleared = omega arith in
    ap (λ n. Some (record r { reclaimer = Some (record s { cleared = n }) })) same
    ∙ ap (λ q. Some (record r { reclaimer = q })) (sym is)

-- with some more and one it has all these
one_more : (r : Option Reuse) (s : Reclaiming) (n : ℕ)
    → reuse_reclaiming (reuse_reclaiming r (with_cleared s n)) (with_cleared (with_cleared s n) 1)
    ≡ reuse_reclaiming r (with_cleared s (suc n))
one_more None s n = refl
one_more (Some r) s n =
    let same : s.cleared + n + 1 ≡ s.cleared + suc n = omega arith in
    ap (λ m. Some (record r { reclaimer = Some (record s { cleared = m }) })) same

-- it is where it was
reclaiming_is : (r : Option Reuse) (s q : Reclaiming) → reclaimer_in r ≡ Some s
    → reclaimer_in (reuse_reclaiming r q) ≡ Some q
reclaiming_is None s q is = absurd cc
reclaiming_is (Some r) s q is = refl

reclaiming_away : (r : Option Reuse) (q : Reclaiming) → IsAway r → IsAway (reuse_reclaiming r q)
reclaiming_away None q a = tt
reclaiming_away (Some r) q a = a

-- a sender whose reclamation has cleared so many words more
abbrev pub cleared_by : {E : Type 0} → Sender E → Reclaiming → ℕ → Sender E
cleared_by v s n = sender v.core (reuse_reclaiming v.reuse (with_cleared s n))

module _ {E : Type 0} (X : Election E) (v : Sender E) (away : IsAway v.reuse)
    (h : HoldsPublished v.core.phase) (s : Reclaiming) (is : reclaimer_in v.reuse ≡ Some s)
    (passed : s.senders ≤ s.scanned) where
  clearing_on : (n : ℕ) → s.cleared + n < s.width → IsClearing (with_cleared s n)
  clearing_on n left = record { passed = passed; left = left }

  -- it clears the next word
  clears_on : (n : ℕ) → s.cleared + n < s.width
      → situation X (cleared_by v s n) ≡ Clears (with_cleared s n)
  clears_on n left =
      clears_by X (cleared_by v s n) (reclaiming_away v.reuse (with_cleared s n) away) h
      (with_cleared s n) (reclaiming_is v.reuse s (with_cleared s n) is) (clearing_on n left)

  -- and has that one more cleared then
  cleared_on : (n : ℕ) → s.cleared + n < s.width
      → (line_now X (cleared_by v s n)).fed 0 0 ≡ cleared_by v s (suc n)
  cleared_on n left =
      ap (λ z. (line X (cleared_by v s n) z).fed 0 0) (clears_on n left)
      ∙ ap (λ q. sender v.core (reuse_reclaiming (reuse_reclaiming v.reuse (with_cleared s n)) q))
      (fed_clearing (with_cleared s n) 0 (clearing_on n left))
      ∙ ap (sender v.core) (one_more v.reuse s n)

  -- so many of its steps clear so many words
  pub clears_many : (n : ℕ) → s.cleared + n ≤ s.width → stored_on X v n ≡ cleared_by v s n
  clears_many zero left = sym (ap (sender v.core) (none_cleared v.reuse s is))
  clears_many (suc n) left =
      ap (λ y. (line_now X y).fed 0 0) (clears_many n (omega arith))
      ∙ cleared_on n (omega arith)

  -- each of which is plain
  pub clears_plain : (n : ℕ) → s.cleared + n < s.width → IsPlain X (stored_on X v n)
  clears_plain n left =
      subst (IsPlain X) (sym (clears_many n (omega (arith, left))))
      (Clear (with_cleared s n) (clears_on n left) (clearing_on n left) h)

  -- and stores 0 in the word behind
  pub clears_row : (width : ℕ) (Belongs : ℕ → E → Type 0) (n : ℕ) → s.cleared + n < s.width
      → ReuseKeeps width Belongs (stored_on X v n).core (stored_on X v n).reuse
      → (at : ℕ) → at ≡ s.row + s.cleared → StoresPlain X (stored_on X v n) (at + n) 0
  clears_row width Belongs n left k at e =
      let same = clears_many n (omega (arith, left)) in
      subst (λ y. StoresPlain X y (at + n) 0) (sym same)
      (clear_stores X (cleared_by v s n) width Belongs
      (subst (λ (y : Sender E). ReuseKeeps width Belongs y.core y.reuse) same k) (with_cleared s n)
      (clears_on n left) (reclaiming_is v.reuse s (with_cleared s n) is) (clearing_on n left) h
      (at + n) (omega (arith, e)))

-- the words stay where they are
words_cleared : {E : Type 0} (v : Sender E) (s : Reclaiming) (n : ℕ)
    → words_all (cleared_by v s n) ≡ words_all v
words_cleared v s n = ap (λ m. m + v.core.layout.capacity) (by v.reuse) where
  by : (r : Option Reuse)
      → log_start v.core.layout (reuse_reclaiming r (with_cleared s n)) ≡ log_start v.core.layout r
  by None = refl
  by (Some r) = refl

-- where a reclamation clears
clear_place : {E : Type 0} (X : Election E) (v : Sender E) (s : Reclaiming) (at value : ℕ)
    → situation X v ≡ Clears s → StoresPlain X v at value → at ≡ s.row + s.cleared
clear_place X v s at value i stores =
    let e : Store record { 0 = s.row + s.cleared } 0 ≡ Store record { 0 = at } value =
    same_Some _ _ (ap (λ z. (line X v z).op 0) (sym i) ∙ stores.step 0) in
    sym (ap register e)

-- how many words it clears
left_of : (s : Reclaiming) → IsClearing s → clears_left s ≡ s.width - s.cleared
left_of s c =
    ap (λ a. cond a 0 (s.width - s.cleared)) (le-ltb s.scanned s.senders c.passed)

-- who clears a word next clears all that are left
module _ {E : Type 0} (X : Election E) (W : Layout → ℕ) (B : Layout → ℕ → ℕ → E → Type 0)
    (law : ElectionsKeep X W B) (v : Sender E) (k : Keeps X W B law v) (s : Reclaiming)
    (i : situation X v ≡ Clears s) (c : IsClearing s) (h : HoldsPublished v.core.phase)
    (at value : ℕ)
    (stores : StoresPlain X v at value) where
  unpinned : IsAway v.reuse
  unpinned = plain_away X v (W v.core.layout) (B v.core.layout v.core.me) k (Clear s i c h)

  reclaimed_is : reclaimer_in v.reuse ≡ Some s
  reclaimed_is = reclaims X v v.reuse s i

  fits_in : (n : ℕ) → n < clears_left s → s.cleared + n < s.width
  fits_in n lt = let e = left_of s c in omega (arith, lt)

  each_clears : (n : ℕ) → n < clears_left s → StoresPlain X (stored_on X v n) (at + n) 0
  each_clears n lt =
      let y = stored_on X v n in
      let kept : Keeps X W B law y = keeps_on X W B law v k (clears_left s)
      (λ m less. clears_plain X v unpinned h s reclaimed_is c.passed m (fits_in m less)) n
      (omega (arith, lt)) in
      clears_row X v unpinned h s reclaimed_is c.passed (W y.core.layout)
      (B y.core.layout y.core.me) n (fits_in n lt)
      kept at (clear_place X v s at value i stores)

  pub clears_all : StoresRow X v at (λ n. 0) (clears_left s)
  clears_all = row_of X W B law v k at (λ n. 0) (clears_left s) each_clears

  -- within the words of the bus
  pub clears_within : at + clears_left s ≤ words_all v
  clears_within = by (clears_left s) refl where
    by : (many : ℕ) → clears_left s ≡ many → at + many ≤ words_all v
    by zero e = omega (arith, stores.below)
    by (suc n) e =
        let lt : n < clears_left s = omega (arith, e) in
        let below = (each_clears n lt).below in
        let fit = fits_in n lt in
        let same : words_all (stored_on X v n) ≡ words_all v =
        ap words_all (clears_many X v unpinned h s reclaimed_is c.passed n (omega (arith, fit)))
        ∙ words_cleared v s n in
        omega (arith, below, same)

-- the same of whose next step is plain, once its frame stands in the log
module _ {E : Type 0} (X : Election E) (W : Layout → ℕ) (B : Layout → ℕ → ℕ → E → Type 0)
    (law : ElectionsKeep X W B) (v : Sender E) (k : Keeps X W B law v)
    (h : HoldsPublished v.core.phase) (many : ℕ)
    (e : (s : Reclaiming) → reclaimer_in v.reuse ≡ Some s → many ≡ clears_left s) where
  pub clears_are : IsPlain X v → many ≡ clears_from (situation X v)
  clears_are (Word t page stored i) = absurd (word_unpublished X v t page stored i h)
  clears_are (Clear s i c p) = e s (reclaims X v v.reuse s i) ∙ ap clears_from (sym i)

  pub row_clears : IsPlain X v → (at value : ℕ) → StoresPlain X v at value
      → StoresRow X v at (λ n. 0) many
  row_clears (Word t page stored i) at value stores =
      absurd (word_unpublished X v t page stored i h)
  row_clears (Clear s i c p) at value stores =
      subst (StoresRow X v at (λ n. 0)) (sym (e s (reclaims X v v.reuse s i)))
      (clears_all X W B law v k s i c h at value stores)

  pub row_within : IsPlain X v → (at value : ℕ) → StoresPlain X v at value → at + many ≤ words_all v
  row_within (Word t page stored i) at value stores =
      absurd (word_unpublished X v t page stored i h)
  row_within (Clear s i c p) at value stores =
      let same = e s (reclaims X v v.reuse s i) in
      let within = clears_within X W B law v k s i c h at value stores in
      omega (arith, same, within)

-- ---- once words of the next row are cleared
module _ {E : Type 0} (X : Election E) (W : Layout → ℕ) (B : Layout → ℕ → ℕ → E → Type 0)
    (law : ElectionsKeep X W B) (v : Sender E) (k : Keeps X W B law v) (many : ℕ) (some : 0 < many)
    (few : many ≤ clears_from (situation X v)) where
  -- where a word of the frame is due no word is left
  word_clears : {A : Type 0} (t : ℕ) (page : Page) (stored : ℕ)
      → situation X v ≡ Does (StoresWord t page stored) → A
  word_clears t page stored i =
      let none : clears_from (situation X v) ≡ 0 = ap clears_from i in
      absurd (omega (arith, some, few, none))

  fits : (s : Reclaiming) → situation X v ≡ Clears s → IsClearing s → s.cleared + many ≤ s.width
  fits s i c =
      let left : clears_from (situation X v) ≡ s.width - s.cleared =
      ap clears_from i ∙ left_of s c in
      let below = c.left in
      omega (arith, few, left, below)

  -- so many of them were left
  pub cleared_few : IsPlain X v → (s : Reclaiming) → reclaimer_in v.reuse ≡ Some s
      → s.cleared + many ≤ s.width
  cleared_few (Word t page stored i) s e = word_clears t page stored i
  cleared_few (Clear q i c h) s e =
      subst (λ (y : Reclaiming). y.cleared + many ≤ y.width)
      (same_Some q s (sym (reclaims X v v.reuse q i) ∙ e)) (fits q i c)

  -- the sender is the one behind so many steps
  pub cleared_is : IsPlain X v → (r : Option Reuse)
      → ((s : Reclaiming) → reclaimer_in v.reuse ≡ Some s
      → r ≡ reuse_reclaiming v.reuse (with_cleared s many))
      → sender v.core r ≡ stored_on X v many
  cleared_is (Word t page stored i) r f = word_clears t page stored i
  cleared_is (Clear s i c h) r f =
      let is = reclaims X v v.reuse s i in
      ap (sender v.core) (f s is)
      ∙ sym (clears_many X v (plain_away X v (W v.core.layout) (B v.core.layout v.core.me) k
      (Clear s i c h)) h s is c.passed many (fits s i c))

  -- and keeps what it kept
  pub cleared_keeps : IsPlain X v → Keeps X W B law (stored_on X v many)
  cleared_keeps (Word t page stored i) = word_clears t page stored i
  cleared_keeps (Clear s i c h) =
      let fit = fits s i c in
      keeps_on X W B law v k many
      (λ m less. clears_plain X v (plain_away X v (W v.core.layout) (B v.core.layout v.core.me) k
      (Clear s i c h)) h s (reclaims X v v.reuse s i) c.passed m (omega (arith, fit, less)))
      many (omega arith)
