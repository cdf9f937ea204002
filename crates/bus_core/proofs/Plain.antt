-- Plain stores: when one is due, and what it leaves.
use Rattle.std.proofs.Common.{◌≡◌, ℕ, ◌+◌, ◌<◌, ◌≤◌, ◌==◌, false, cond, slice_index, arith, Option}
use Rattle.std.proofs.Common.{Some, None, IsSome, nat_lt, refl, sym, ◌∙◌, ap, subst}
use Rattle.std.proofs.lemmas.Option.{same_Some}
use Rattle.std.specs.Prelude.{◌&&◌, if◌then◌else◌}
use Rattle.std.proofs.lemmas.Bool.{lt-ltb, le-ltb}
use Rattle.std.proofs.lemmas.Nat.{mod_below}
use Rattle.bus_presence.specs.Reclaimers.{Reclaiming, IsClearing, reclaim_op, reclaim_fed}
use Rattle.bus_presence.specs.declared.pins.Pin.TheVariants.{Away}
use Rattle.bus_register.specs.Words.{register}
use Rattle.bus_register.specs.declared.registers.Op.TheVariants.{Load, Store}
use Rattle.bus_batch.specs.Batches.{frame_of}
use Rattle.bus_batch.specs.Frames.{frame_words}
use Rattle.bus_tenure.specs.Core.{Core, Election, Layout, cell_of, frame_len}
use Rattle.bus_tenure.specs.Doings.{doing_of, IsWord, FitsBehind, StoresNext}
use Rattle.bus_tenure.proofs.Fitting.{some_fits}
use Rattle.bus_tenure.proofs.Inverted.{word_is}
use Rattle.bus_tenure.proofs.Situated.{tells}
use Rattle.bus_tenure.specs.Seen.{HoldsPublished}
use Rattle.bus_tenure.specs.declared.doings.Doing.TheVariants as doing
use Rattle.bus_tenure.specs.Situations.{Situation as Own, StoresWord, GivesBack}
use Rattle.bus_tenure.specs.Situations.{situation_of as own_situation, situation_at, fed_at, Stays}
use Rattle.bus_tenure.specs.declared.pages.Page.{Page}
use Rattle.bus_tenure.specs.declared.phases.Reason.TheVariants.{Sent}
use Rattle.bus_tenure.specs.declared.phases.Phase.TheVariants.{Holding}
use Rattle.bus_tenure.specs.declared.turns.Turn.TheVariants.{Going}
use Rattle.bus_core.specs.Reusing.Turns.{answer_of_reclaim}
use Rattle.bus_core.specs.Keeping.{ReuseKeeps, IsAway, reclaimer_in, reclaimer_left, sender}
use Rattle.bus_core.specs.Plain.{IsPlain, Word, Clear, StoresPlain}
use Rattle.bus_core.specs.Reusing.Keeping.{IsOutside}
use Rattle.bus_core.specs.Reusing.Passing.{passing_left}
use Rattle.bus_core.specs.Senders.{Sender, Does, Scans, Clears, log_start, pinning, situation_by}
use Rattle.bus_core.specs.Senders.{situation, words_all}
use Rattle.bus_core.specs.Table.{line, line_now, reuse_reclaiming}
use Rattle.bus_core.specs.declared.reuses.Reuse.{Reuse}
use Rattle.bus_core.proofs.Situated.{SituationTells, tells_by, situation_tells, own_is, calm_home}
use Rattle.bus_core.proofs.Situated.{goes_does, away_does, calm_away, goes_away, held_reclaimer}
use Rattle.bus_core.proofs.Stepped.{fed_word, reclaimed_below}

-- ---- when one is due
-- who has no pin stores a word as its turns do
pub away_word : {E : Type 0} (n : ℕ) (r : Option Reuse) → IsAway r
    → (t : ℕ) (page : Page) (stored : ℕ)
    → situation_by {E = E} n r (StoresWord t page stored) ≡ Does (StoresWord t page stored)
away_word n r away t page stored = away_does n r (StoresWord t page stored) away (λ l s. refl)

-- a reclamation that is to clear does so
clears_when : {E : Type 0} (s : Reclaiming) (z : Own E) → IsClearing s
    → cond (nat_lt s.scanned s.senders) (Scans s)
    (cond (nat_lt s.cleared s.width) (Clears s) (Does z)) ≡ Clears s
clears_when s z h =
    ap (λ a. cond a (Scans s) (cond (nat_lt s.cleared s.width) (Clears s) (Does z)))
    (le-ltb s.scanned s.senders h.passed)
    ∙ ap (λ b. cond b (Clears s) (Does z)) (lt-ltb s.cleared s.width h.left)

-- the same of whose page has its frame in the log
clears_again : {E : Type 0} (n : ℕ) (r : Reuse) → r.pin ≡ Away → (s : Reclaiming)
    → r.reclaimer ≡ Some s
    → IsClearing s → (t : ℕ) (page : Page)
    → situation_by {E = E} n (Some r) (GivesBack t page Sent) ≡ Clears s
clears_again n r away s is h t page =
    (λ i. pinning (away i) (passing_left n r.passed) (is i) (GivesBack t page Sent))
    ∙ clears_when s (GivesBack t page Sent) h

module _ {E : Type 0} (X : Election E) where
  -- who holds a page with its frame in the log clears, where a word is left to clear
  pub clears_by : (v : Sender E) → IsAway v.reuse → HoldsPublished v.core.phase → (s : Reclaiming)
      → reclaimer_in v.reuse ≡ Some s → IsClearing s
      → situation X v ≡ Clears s
  clears_by v away h s is c = by v.reuse away is where
    own : own_situation X v.core ≡ GivesBack h.tenure h.page Sent
    own = ap (situation_at X v.core) h.is

    by : (r : Option Reuse) → IsAway r → reclaimer_in r ≡ Some s
        → situation_by v.core.layout.passers r (own_situation X v.core) ≡ Clears s
    by None a i = absurd cc
    by (Some r) a i =
        ap (situation_by v.core.layout.passers (Some r)) own
        ∙ clears_again v.core.layout.passers r a s i c h.tenure h.page

-- the word that is cleared is one of the bus
clear_below : {E : Type 0} (width : ℕ) (Belongs : ℕ → E → Type 0) (v : Sender E)
    → ReuseKeeps width Belongs v.core v.reuse
    → (s : Reclaiming) → reclaimer_in v.reuse ≡ Some s → IsClearing s → (at : ℕ)
    → at ≡ s.row + s.cleared → at < words_all v
clear_below width Belongs v k s is c at e =
    subst (λ n. n < words_all v) (sym e) (by v.reuse k is) where
      op : reclaim_op s ≡ Some (Store record { 0 = s.row + s.cleared } 0)
      op =
          ap (λ a. cond a (Some (Load record { 0 = s.presences + s.scanned }))
          (cond (nat_lt s.cleared s.width) (Some (Store record { 0 = s.row + s.cleared } 0)) None))
          (le-ltb s.scanned s.senders c.passed)
          ∙ ap (λ b. cond b (Some (Store record { 0 = s.row + s.cleared } 0)) None)
          (lt-ltb s.cleared s.width c.left)

      by : (r : Option Reuse) → ReuseKeeps width Belongs v.core r → reclaimer_in r ≡ Some s
          → s.row + s.cleared < words_all (record { core = v.core; reuse = r })
      by None k i = absurd cc
      by (Some r) k i = reclaimed_below width Belongs v.core (Some r) k
          (Store record { 0 = s.row + s.cleared } 0) (ap reclaimer_left i ∙ op)

-- ---- what it leaves
module _ {E : Type 0} (X : Election E) (v : Sender E) where
  -- a word of the frame is no step of who holds a page with its frame in the log
  pub word_unpublished : (t : ℕ) (page : Page) (stored : ℕ)
      → situation X v ≡ Does (StoresWord t page stored) → HoldsPublished v.core.phase → ⊥
  word_unpublished t page stored i h =
      let bad : doing.Word t page.words stored ≡ doing.Back h.tenure Sent = ap doing_of
      (sym (own_is X v (StoresWord t page stored) i) ∙ ap (situation_at X v.core) h.is) in
      cc

  -- whose reclamation clears has that one
  pub reclaims : (u : Option Reuse) (s : Reclaiming)
      → situation_by v.core.layout.passers u (own_situation X v.core) ≡ Clears s
      → reclaimer_in u ≡ Some s
  reclaims u s j =
      by u (tells_by v.core.layout.passers u (own_situation X v.core) (Clears s) j)
    where
      by : (u : Option Reuse)
          → SituationTells v.core.layout.passers (Clears s) u (own_situation X v.core)
          → reclaimer_in u ≡ Some s
      by None w = absurd w
      by (Some r) w = w.0.is

  -- the reclamation of whose next step is plain clears, once the frame stands in the log
  pub plain_clearing : IsPlain X v → HoldsPublished v.core.phase → (s : Reclaiming)
      → reclaimer_in v.reuse ≡ Some s → IsClearing s
  plain_clearing (Word t page stored i) h s e = absurd (word_unpublished t page stored i h)
  plain_clearing (Clear q i k p) h s e =
      subst IsClearing (same_Some q s (sym (reclaims v.reuse q i) ∙ e)) k

  -- and its step leaves what the line says
  pub plain_cleared : IsPlain X v → HoldsPublished v.core.phase → (r : Option Reuse)
      → ((s : Reclaiming) (got : ℕ) → reclaimer_in v.reuse ≡ Some s
      → r ≡ reuse_reclaiming v.reuse (reclaim_fed s got))
      → (got word : ℕ) → sender v.core r ≡ (line_now X v).fed got word
  plain_cleared (Word t page stored i) h r f got word = absurd (word_unpublished t page stored i h)
  plain_cleared (Clear s i k p) h r f got word =
      ap (sender v.core) (f s got (reclaims v.reuse s i))
      ∙ ap (λ z. (line X v z).fed got word) (sym i)

  -- before that it stores a word
  pub plain_is_word : IsPlain X v → (HoldsPublished v.core.phase → ⊥)
      → IsWord (doing_of (own_situation X v.core))
  plain_is_word (Word t page stored i) none = record {
    tenure = t;
    words = page.words;
    stored = stored;
    is = ap doing_of (own_is X v (StoresWord t page stored) i);
  }
  plain_is_word (Clear s i k p) none = absurd (none p)

  -- which leaves what the line says
  pub plain_worded : IsPlain X v → (HoldsPublished v.core.phase → ⊥) → (c : Core E)
      → ((got word : ℕ) → c ≡ fed_at X v.core (own_situation X v.core) got word) → (got word : ℕ)
      → sender c v.reuse ≡ (line_now X v).fed got word
  plain_worded (Word t page stored i) none c f got word =
      ap (λ y. sender y v.reuse) (f got word)
      ∙ fed_word X v.core v.reuse got word (own_situation X v.core) t page.words stored
      (ap doing_of (own_is X v (StoresWord t page stored) i))
      ∙ ap (λ z. (line X v z).fed got word)
      (ap Does (own_is X v (StoresWord t page stored) i) ∙ sym i)
  plain_worded (Clear s i k p) none c f got word = absurd (none p)

  -- with the page before it still, and no length
  pub plain_unpublished : IsPlain X v → (HoldsPublished v.core.phase → ⊥) → (c : Core E)
      → ((got word : ℕ) → c ≡ fed_at X v.core (own_situation X v.core) got word)
      → HoldsPublished c.phase → ⊥
  plain_unpublished (Word t page stored i) none c f h =
      let own = own_is X v (StoresWord t page stored) i in
      let after : c.phase ≡ Holding t page (stored + 1) false =
      ap (λ (y : Core E). y.phase) (f 0 0 ∙ ap (λ z. fed_at X v.core z 0 0) own) in
      let bad = sym after ∙ h.is in
      cc
  plain_unpublished (Clear s i k p) none c f h = none p

  -- and no pin of a tenure
  pub plain_away : (width : ℕ) (Belongs : ℕ → E → Type 0) → ReuseKeeps width Belongs v.core v.reuse
      → IsPlain X v → IsAway v.reuse
  plain_away width Belongs k (Word t page stored i) =
      let held =
      tells X v.core (StoresWord t page stored) (own_is X v (StoresWord t page stored) i) in
      goes_away width Belongs v.core v.reuse k (subst IsOutside (sym held.1) tt)
      (own_situation X v.core)
      (situation_tells X v (Does (StoresWord t page stored)) i).1
  plain_away width Belongs k (Clear s i c h) = by v.reuse k (situation_tells X v (Clears s) i) where
    by : (r : Option Reuse) → ReuseKeeps width Belongs v.core r
        → SituationTells v.core.layout.passers (Clears s) r (own_situation X v.core) → IsAway r
    by None m w = absurd w
    by (Some r) m w = calm_away width Belongs v.core r m (subst IsOutside (sym h.is) tt) w.0.calm

  -- no page goes anywhere
  pub plain_stays : IsPlain X v → (line_now X v).move ≡ Stays
  plain_stays (Word t page stored i) = ap (λ z. (line X v z).move) i
  plain_stays (Clear s i k p) = ap (λ z. (line X v z).move) i

  -- a step is due
  pub plain_due : IsPlain X v → (word : ℕ) → IsSome ((line_now X v).op word)
  plain_due (Word t page stored i) word = subst (λ z. IsSome ((line X v z).op word)) (sym i) refl
  plain_due (Clear s i k p) word = subst (λ z. IsSome ((line X v z).op word)) (sym i) refl

  -- and nobody is behind
  pub plain_going : IsPlain X v → (got word : ℕ) → (line_now X v).answer got word ≡ Going
  plain_going (Word t page stored i) got word = ap (λ z. (line X v z).answer got word) i
  plain_going (Clear s i k p) got word =
      ap (λ z. (line X v z).answer got word) i
      ∙ ap (λ a. answer_of_reclaim (if a && (got == 1 + s.past)
      then Some record { tenure = s.past; sender = s.scanned } else None))
      (le-ltb s.scanned s.senders k.passed)

  -- it asks for no random word
  pub plain_wordless : IsPlain X v → (line_now X v).wants_word ≡ false
  plain_wordless (Word t page stored i) = ap (λ z. (line X v z).wants_word) i
  plain_wordless (Clear s i k p) = ap (λ z. (line X v z).wants_word) i

  -- what it finds makes no difference
  pub plain_same : IsPlain X v → (got word : ℕ)
      → (line_now X v).fed 0 0 ≡ (line_now X v).fed got word
  plain_same (Word t page stored i) got word =
      ap (λ z. (line X v z).fed 0 0) i ∙ ap (λ z. (line X v z).fed got word) (sym i)
  plain_same (Clear s i k p) got word =
      ap (λ z. (line X v z).fed 0 0) i
      ∙ ap (λ q. record v { reuse = reuse_reclaiming v.reuse q }) (any 0 ∙ sym (any got))
      ∙ ap (λ z. (line X v z).fed got word) (sym i)
    where
      clears : Reclaiming
      clears = cond (nat_lt s.cleared s.width) (record s { cleared = s.cleared + 1 }) s

      any : (n : ℕ) → reclaim_fed s n ≡ clears
      any n =
          ap (λ a. cond a (cond (n == 1 + s.past) s (record s { scanned = s.scanned + 1 })) clears)
          (le-ltb s.scanned s.senders k.passed)

-- ---- which one is due behind it
-- whose reclamation clears lets any clear
clear_by : {E : Type 0} (n : ℕ) (reuse : Option Reuse) (z : Own E) (p q : Reclaiming)
    → SituationTells n (Clears p) reuse z → IsClearing q
    → (t : ℕ) (page : Page)
    → situation_by {E = E} n (reuse_reclaiming reuse q) (GivesBack t page Sent) ≡ Clears q
clear_by n None z p q w h t page = absurd w
clear_by n (Some r) z p q w h t page =
    calm_home (record r { reclaimer = Some q }) (passing_left n r.passed) (GivesBack t page Sent)
    w.0.calm
    ∙ clears_when q (GivesBack t page Sent) h

-- a word of the log lies within it
within : (x : Layout) (start place at : ℕ) → 0 < x.capacity → at ≡ start + cell_of x place
    → at < start + x.capacity
within x start place at some e =
    let below = mod_below place x.capacity some in
    omega arith

-- the log begins behind the length and the stage
log_above : (x : Layout) (r : Option Reuse) → 2 ≤ log_start x r
log_above x None = omega arith
log_above x (Some r) = omega arith

-- and so do the rows
clear_above : {E : Type 0} (width : ℕ) (Belongs : ℕ → E → Type 0) (c : Core E) (r : Option Reuse)
    → ReuseKeeps width Belongs c r
    → (s : Reclaiming) → reclaimer_in r ≡ Some s → (at : ℕ) → at ≡ s.row + s.cleared → 2 ≤ at
clear_above width Belongs c None k s is at e = absurd cc
clear_above width Belongs c (Some r) k s is at e =
    let from = (held_reclaimer width Belongs c r k s is).after.row in
    omega arith

module _ {E : Type 0} (X : Election E) (v : Sender E) where
  -- a word of its frame is a plain store
  pub word_stores : (t words stored : ℕ)
      → doing_of (own_situation X v.core) ≡ doing.Word t words stored
      → ((page : Page)
      → situation_by {E = E} v.core.layout.passers v.reuse (StoresWord t page stored)
      ≡ Does (StoresWord t page stored))
      → (at : ℕ)
      → at ≡ log_start v.core.layout v.reuse + cell_of v.core.layout (words + stored)
      → (value : ℕ)
      → value ≡ slice_index (frame_words (frame_of v.core.queue t)) stored
      → FitsBehind v.core words → stored < frame_len v.core
      → StoresPlain X v at value
  word_stores t words stored due may at place value word room below =
      let w = word_is (own_situation X v.core) t words stored due in
      let now : situation X v ≡ Does (StoresWord t w.0 stored) =
      ap (situation_by v.core.layout.passers v.reuse) w.2 ∙ may w.0 in
      let low = log_above v.core.layout v.reuse in
      record {
        plain = Word t w.0 stored now;
        step = λ n. ap (λ z. (line X v z).op n) now
            ∙ (λ j. Some (Store record {
              0 =
                  (ap (λ m. log_start v.core.layout v.reuse + cell_of v.core.layout (m + stored))
                  w.1
                  ∙ sym place) j;
            } (sym word j)));
        behind = omega arith;
        below = within v.core.layout (log_start v.core.layout v.reuse) (words + stored) at
            (some_fits v.core words stored room below) place;
      }

  -- so is a word of the next row that a reclamation clears
  pub clear_stores : (width : ℕ) (Belongs : ℕ → E → Type 0)
      → ReuseKeeps width Belongs v.core v.reuse → (q : Reclaiming)
      → situation X v ≡ Clears q → reclaimer_in v.reuse ≡ Some q → IsClearing q
      → HoldsPublished v.core.phase
      → (at : ℕ) → at ≡ q.row + q.cleared → StoresPlain X v at 0
  clear_stores width Belongs k q now is c h at e = record {
    plain = Clear q now c h;
    step = λ word.
        ap (λ z. (line X v z).op word) now ∙ ap (λ n. Some (Store record { 0 = n } 0)) (sym e);
    behind = clear_above width Belongs v.core v.reuse k q is at e;
    below = clear_below width Belongs v k q is c at e;
  }

module _ {E : Type 0} (X : Election E) (v : Sender E) where
  -- where its word goes
  pub word_place : (t : ℕ) (page : Page) (stored at value : ℕ)
      → situation X v ≡ Does (StoresWord t page stored)
      → ((word : ℕ) → (line_now X v).op word ≡ Some (Store record { 0 = at } value))
      → at ≡ log_start v.core.layout v.reuse + cell_of v.core.layout (page.words + stored)
  word_place t page stored at value i step =
      let e : Store record {
        0 = log_start v.core.layout v.reuse + cell_of v.core.layout (page.words + stored);
      }
      (slice_index (frame_words (frame_of v.core.queue t)) stored)
      ≡ Store record { 0 = at } value =
      same_Some _ _ (ap (λ z. (line X v z).op 0) (sym i) ∙ step 0) in
      sym (ap register e)

  -- the log stays where it is
  layout_stays : (c : Core E)
      → ((got word : ℕ) → c ≡ fed_at X v.core (own_situation X v.core) got word)
      → (t : ℕ) (page : Page) (stored : ℕ) → situation X v ≡ Does (StoresWord t page stored)
      → c.layout ≡ v.core.layout
  layout_stays c fed t page stored i =
      ap (λ (y : Core E). y.layout)
      (fed 0 0 ∙ ap (λ z. fed_at X v.core z 0 0) (own_is X v (StoresWord t page stored) i))

  -- before a word that is stored next comes the one that is stored
  pub word_before : IsPlain X v → (HoldsPublished v.core.phase → ⊥) → (at value : ℕ)
      → ((word : ℕ) → (line_now X v).op word ≡ Some (Store record { 0 = at } value)) → (c : Core E)
      → ((got word : ℕ) → c ≡ fed_at X v.core (own_situation X v.core) got word) → (place : ℕ)
      → ((t words stored : ℕ) → doing_of (own_situation X v.core) ≡ doing.Word t words stored
      → place ≡ words + (stored + 1))
      → (before : ℕ) × (place ≡ before + 1)
      × (at ≡ log_start c.layout v.reuse + cell_of c.layout before)
  word_before (Clear s i k p) none at value step c fed place goes = absurd (none p)
  word_before (Word t page stored i) none at value step c fed place goes =
      let own = own_is X v (StoresWord t page stored) i in
      let here = goes t page.words stored (ap doing_of own) in (
        page.words + stored,
        omega arith,
        word_place t page stored at value i step
            ∙ ap (λ (x : Layout). log_start x v.reuse + cell_of x (page.words + stored))
            (sym (layout_stays c fed t page stored i)),
      )

  -- a log has words where one of a frame is stored next
  pub word_some : IsPlain X v → (HoldsPublished v.core.phase → ⊥) → (c : Core E) → (next : ℕ)
      → ((t words stored : ℕ) → doing_of (own_situation X v.core) ≡ doing.Word t words stored
      → StoresNext X c t words (stored + 1) next)
      → 0 < c.layout.capacity
  word_some (Clear s i k p) none c next stores = absurd (none p)
  word_some (Word t page stored i) none c next stores =
      let after = stores t page.words stored (ap doing_of (own_is X v (StoresWord t page stored) i))
      in some_fits c page.words (stored + 1) after.room after.below

  -- once a word is stored, and another one is to be
  pub word_behind : IsPlain X v → (HoldsPublished v.core.phase → ⊥) → (c : Core E)
      → (next place : ℕ)
      → ((t words stored : ℕ) → doing_of (own_situation X v.core) ≡ doing.Word t words stored
      → StoresNext X c t words (stored + 1) next)
      → ((t words stored : ℕ) → doing_of (own_situation X v.core) ≡ doing.Word t words stored
      → place ≡ words + (stored + 1))
      → (at : ℕ) → at ≡ log_start c.layout v.reuse + cell_of c.layout place
      → StoresPlain X (sender c v.reuse) at next
  word_behind (Clear s i k p) none c next place stores goes at e = absurd (none p)
  word_behind (Word t page stored i) none c next place stores goes at e =
      let own = own_is X v (StoresWord t page stored) i in
      let after = stores t page.words stored (ap doing_of own) in
      word_stores X (sender c v.reuse) t page.words (stored + 1) after.due
      (λ other. goes_does c.layout.passers v.reuse (own_situation X v.core)
      (StoresWord t other (stored + 1))
      (situation_tells X v (Does (StoresWord t page stored)) i).1 (λ l s. refl))
      at
      (e ∙ ap (λ n. log_start c.layout v.reuse + cell_of c.layout n)
      (goes t page.words stored (ap doing_of own)))
      next after.word after.room after.below

  -- once a word is cleared, and another one is to be
  pub clear_behind : (width : ℕ) (Belongs : ℕ → E → Type 0) → IsPlain X v
      → HoldsPublished v.core.phase → (r : Option Reuse)
      → ((s : Reclaiming) (got : ℕ) → reclaimer_in v.reuse ≡ Some s
      → r ≡ reuse_reclaiming v.reuse (reclaim_fed s got))
      → ReuseKeeps width Belongs v.core r → (q : Reclaiming) → reclaimer_in r ≡ Some q
      → IsClearing q → (at : ℕ) → at ≡ q.row + q.cleared
      → StoresPlain X (sender v.core r) at 0
  clear_behind width Belongs (Word t page stored i) h r f k q is c at e =
      absurd (word_unpublished X v t page stored i h)
  clear_behind width Belongs (Clear s i d p) h r f k q is c at e =
      let own : own_situation X v.core ≡ GivesBack h.tenure h.page Sent =
      ap (situation_at X v.core) h.is in
      let grown = f s 0 (reclaims X v v.reuse s i) in
      let same : r ≡ reuse_reclaiming v.reuse q =
      grown
      ∙ ap (reuse_reclaiming v.reuse) (held v.reuse s (reclaim_fed s 0) (reclaims X v v.reuse s i)
      (sym (ap reclaimer_in grown) ∙ is)) in
      clear_stores X (sender v.core r) width Belongs k q
      ((λ j. situation_by v.core.layout.passers (same j) (own j))
      ∙ clear_by v.core.layout.passers v.reuse (own_situation X v.core) s q
      (situation_tells X v (Clears s) i) c h.tenure
      h.page)
      is c h at e where
        held : (u : Option Reuse) (s n : Reclaiming) → reclaimer_in u ≡ Some s
            → reclaimer_in (reuse_reclaiming u n) ≡ Some q → n ≡ q
        held None s n is j = absurd cc
        held (Some u) s n is j = same_Some n q j
