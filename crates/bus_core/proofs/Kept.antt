-- Each line of the table keeps what a sender keeps.
use Rattle.std.proofs.Common.{◌≡◌, ◌≢◌, inl, inr, ℕ, ◌+◌, ◌-◌, ◌/◌, ◌%◌, ◌<◌, ◌≤◌, Bool, true}
use Rattle.std.proofs.Common.{false, Option, Some, None, IsSome, IfSome, nat_lt, nat_le, ◌==◌}
use Rattle.std.proofs.Common.{cond, refl, sym, ◌∙◌, ap, subst, arith}
use Rattle.std.proofs.lemmas.Bool.{leb-false, ltb-false, lt-ltb, eqb-false}
use Rattle.std.proofs.lemmas.Option.{same_Some}
use Rattle.bus_register.specs.declared.registers.Op.{Op}
use Rattle.bus_register.specs.declared.registers.SenderNo.{SenderNo}
use Rattle.bus_batch.specs.Batches.{Pending}
use Rattle.bus_presence.specs.Reclamation.{ReclamationSizes, presence_at, row_of, reclaimer_after}
use Rattle.bus_presence.specs.Reclaimers.{Reclaiming, reclaim_fed, is_reclaimed}
use Rattle.bus_presence.specs.declared.pins.Pin.{Pin}
use Rattle.bus_presence.specs.declared.pins.Pin.TheVariants.{Away, Announcing, Validating, Pinned}
use Rattle.bus_presence.specs.declared.pins.Pin.TheVariants.{Unpinning, Invalidated}
use Rattle.bus_tenure.specs.Core.{Core, Election, Layout, row_at}
use Rattle.bus_tenure.specs.Situations.{IsClosed, IsIdle, IsSpent, LooksAtStage, Elects, TakesPage}
use Rattle.bus_tenure.specs.Situations.{AwaitsPage, StoresWord, StoresLength, GivesBack, HasHanded}
use Rattle.bus_tenure.specs.Situations.{situation_of, situation_at, resting, waits, core_begun}
use Rattle.bus_tenure.specs.Situations.{core_elected, core_floored, phase_floored}
use Rattle.bus_tenure.specs.declared.pages.Page.{Page}
use Rattle.bus_tenure.specs.declared.phases.Phase.{Phase}
use Rattle.bus_tenure.specs.declared.phases.Phase.TheVariants.{Resting, Electing, Taken, Holding}
use Rattle.bus_tenure.specs.declared.phases.Phase.TheVariants.{Giving}
use Rattle.bus_tenure.specs.declared.phases.Reason.{Reason}
use Rattle.bus_tenure.specs.declared.phases.Reason.TheVariants.{Sent, FoundEnd, NoRoom}
use Rattle.bus_tenure.proofs.Looking.{looks_at_rest}
use Rattle.bus_tenure.proofs.Situated.{tells}
use Rattle.bus_core.specs.Keeping.{ReuseKeeps, sender}
use Rattle.bus_core.specs.Reusing.Keeping.{IsBound, IsOutside, PinKeeps, ReclaimerKeeps, LostKeeps}
use Rattle.bus_core.specs.Reusing.Keeping.{held_of, LoadedKeeps}
use Rattle.bus_core.specs.Reusing.Participants.{sizes_with}
use Rattle.bus_core.specs.Reusing.Passing.{passing_begun, passing_fed}
use Rattle.bus_core.specs.Senders.{Sender, Situation, Does, Announces, Validates, Unpins}
use Rattle.bus_core.specs.Senders.{Withdraws, Scans, Clears, ReadsPassed, situation}
use Rattle.bus_core.specs.Senders.{situation_by}
use Rattle.bus_core.specs.Table.{line, line_now, in_row, seen, reuse_elected}
use Rattle.bus_core.specs.declared.reuses.Passing.{Passing}
use Rattle.bus_core.specs.declared.reuses.Reuse.{Reuse}
use Rattle.bus_core.proofs.Bridged.{at_none}
use Rattle.bus_core.proofs.Loading.{loads_all_first}
use Rattle.bus_core.proofs.Reusing.Keeps.{ElectionsKeep, runs_pinned}
use Rattle.bus_core.proofs.Situated.{IsCalm, GoesCalmly, Reclaims, Passes, SituationTells}
use Rattle.bus_core.proofs.Situated.{situation_tells}
use Rattle.bus_core.proofs.Situated.{calm_away, held_reclaimer}

-- ---- its reclamation
-- nobody reclaims but a holder
unreclaimed : {E : Type 0} (x : ReclamationSizes) (p q : Phase E) (s : Option Reclaiming)
    → ReclaimerKeeps x p s → held_of p ≡ None
    → held_of q ≡ None → ReclaimerKeeps x q s
unreclaimed x p q None k h g = λ t e. absurd (let r = sym g ∙ e in cc)
unreclaimed x p q (Some s) k h g = absurd (let r = sym h ∙ k.held in cc)

-- the reclamation goes on with another phase of the same tenure, and is done where the page is
-- handed on
rephased : {E : Type 0} (x : ReclamationSizes) (p q : Phase E) (s : Option Reclaiming)
    → ReclaimerKeeps x p s → held_of q ≡ held_of p
    → ((t : ℕ) (reason : Reason) → q ≡ Giving t reason → IfSome s (λ y. is_reclaimed y ≡ true))
    → ReclaimerKeeps x q s
rephased x p q None k held done = λ t e. k t (sym held ∙ e)
rephased x p q (Some s) k held done = record {
  tenure = k.tenure;
  held = held ∙ k.held;
  after = k.after;
  handed = done;
}

-- the reclaimer of a holder that has just taken the page
begins : {E : Type 0} (x : ReclamationSizes) (p : Phase E) (t : ℕ) (b : Bool) → p ≡ Taken t
    → nat_lt (t + 1) x.rows ≡ b
    → ReclaimerKeeps x p (cond b None (Some record {
      past = t + 1 - x.rows;
      senders = x.senders;
      presences = presence_at x 0;
      row = row_of x (t + 1);
      width = x.width;
      scanned = 0;
      cleared = 0;
    }))
begins x p t true is e = λ u held.
    let same : t ≡ u = same_Some _ _ (sym (ap held_of is) ∙ held) in
    let early : t + 1 < x.rows = grind (arith, lt-ltb, e) in
    subst (λ w. w + 1 < x.rows) same early
begins x p t false is e =
    let late : x.rows ≤ t + 1 = grind (arith, lt-ltb, e) in
    record {
      tenure = t;
      held = ap held_of is;
      after = record {
        used = late;
        past = omega arith;
        senders = refl;
        presences = refl;
        row = refl;
        width = refl;
      };
      handed = λ u reason g. absurd (let r = sym is ∙ g in cc);
    }

-- who holds a page has not handed it on
not_giving : {E : Type 0} (p : Phase E) (t : ℕ) (page : Page) (stored : ℕ) (published : Bool)
    → p ≡ Holding t page stored published
    → (u : ℕ) (reason : Reason) → p ≢ Giving u reason
not_giving p t page stored published i u reason e =
    let q : Holding t page stored published ≡ Giving u reason = sym i ∙ e in cc q

-- a reclamation goes on
reclaimed_on : {E : Type 0} (x : ReclamationSizes) (p : Phase E) (s : Reclaiming) (got : ℕ)
    → ReclaimerKeeps x p (Some s)
    → ((t : ℕ) (reason : Reason) → p ≢ Giving t reason)
    → ReclaimerKeeps x p (Some (reclaim_fed s got))
reclaimed_on x p s got k not =
    by (nat_lt s.scanned s.senders) (got == 1 + s.past) (nat_lt s.cleared s.width)
  where
    -- of the same row
    on : (n m : ℕ) → ReclaimerKeeps x p (Some (record s { scanned = n; cleared = m }))
    on n m =
        let a = k.after in
        record {
          tenure = k.tenure;
          held = k.held;
          after = record {
            used = a.used;
            past = a.past;
            senders = a.senders;
            presences = a.presences;
            row = a.row;
            width = a.width;
          };
          handed = λ t r e. absurd (not t r e);
        }

    by : (a b d : Bool)
        → ReclaimerKeeps x p
        (Some (cond a (cond b s (record s { scanned = s.scanned + 1 }))
        (cond d (record s { cleared = s.cleared + 1 }) s)))
    by true true d = k
    by true false d = on (s.scanned + 1) s.cleared
    by false b true = on s.scanned (s.cleared + 1)
    by false b false = k

module _ {E : Type 0} (X : Election E) (W : Layout → ℕ) (B : Layout → ℕ → ℕ → E → Type 0)
    (law : ElectionsKeep X W B) where
  -- what a sender keeps beside its turns
  abbrev pub Keeps : Sender E → Type 0
  Keeps v = ReuseKeeps (W v.core.layout) (B v.core.layout v.core.me) v.core v.reuse

  -- ---- where rows are used again
  -- whatever of the passed places it has loaded
  repassed : (c : Core E) (r : Reuse) → Keeps (sender c (Some r)) → (p : Passing)
      → LoadedKeeps c.layout.passers c.phase p
      → Keeps (sender c (Some (record r { passed = p })))
  repassed c r k p loaded = record {
    sizes = k.sizes;
    tenures = k.tenures;
    rows_some = k.rows_some;
    rows_few = k.rows_few;
    me_below = k.me_below;
    pin = k.pin;
    reclaimer = k.reclaimer;
    lost = k.lost;
    loaded = loaded;
  }

  module _ (c : Core E) (r : Reuse) (k : Keeps (sender c (Some r))) where
    -- its sizes
    abbrev sizes : ReclamationSizes
    sizes = sizes_with c.layout r.rows

    -- with its batch, the tenures that are past for it, its phase, its pin, its reclamation and
    -- whom it lost to
    abbrev with : Pending → ℕ → Phase E → Pin → Option Reclaiming → Option SenderNo → Sender E
    with q least p u s l =
        sender (record c { queue = q; least = least; phase = p })
        (Some record { pin = u; reclaimer = s; passed = r.passed; lost = l; rows = r.rows })

    -- all of which it may be with, if its pin, its reclamation and whom it lost to are kept
    kept : (q : Pending) (least : ℕ) (p : Phase E) (u : Pin) (s : Option Reclaiming)
        (l : Option SenderNo)
        → PinKeeps (B c.layout c.me) (record c { queue = q; least = least; phase = p }) u
        → ReclaimerKeeps sizes p s → LostKeeps c.me p u l
        → LoadedKeeps c.layout.passers p r.passed → Keeps (with q least p u s l)
    kept q least p u s l pin reclaimer lost loaded = record {
      sizes = k.sizes;
      tenures = k.tenures;
      rows_some = k.rows_some;
      rows_few = k.rows_few;
      me_below = k.me_below;
      pin = pin;
      reclaimer = reclaimer;
      lost = lost;
      loaded = loaded;
    }

    -- ---- a step of its pin
    -- whom it lost to is forgotten, and its presence names no tenure that it lost
    repinned : (u : Pin) → PinKeeps (B c.layout c.me) c u → ((t : ℕ) → u ≢ Unpinning t)
        → Keeps (with c.queue c.least c.phase u r.reclaimer None)
    repinned u pin other =
        kept c.queue c.least c.phase u r.reclaimer None pin k.reclaimer (λ t e. absurd (other t e))
        k.loaded

    -- its pin is this one
    pin_at : (u : Pin) → r.pin ≡ u → PinKeeps (B c.layout c.me) c u
    pin_at u e = subst (PinKeeps (B c.layout c.me) c) e k.pin

    -- it looks at the stage again
    validated : (t : ℕ) → IsBound c t → (b : Bool)
        → Keeps (sender (cond b (core_begun X c t) c)
        (Some (record r { pin = cond b (Pinned t) (Invalidated t); lost = None })))
    validated t h true =
        let started = X.started c.layout.senders c.me c.layout.rounds (row_at c.layout t) in
        let belongs = law.starts c.layout c.me (row_at c.layout t) k.me_below
        (let f = k.sizes.few in omega arith) in
        kept (record c.queue { busy = true }) c.least (Electing t started) (Pinned t) r.reclaimer
        None
        record { election = started; is = refl; belongs = belongs; below = h.below }
        (unreclaimed sizes c.phase (Electing t started) r.reclaimer k.reclaimer
        (ap held_of h.looks.rests) refl) (λ u e. absurd cc) tt
    validated t h false =
        repinned (Invalidated t) h.looks.rests (λ u e. cc)

    -- ---- in its tenure
    -- whose pin asks for no step has lost to nobody
    unlost : IsCalm r.pin → r.lost ≡ None
    unlost calm = by r.lost refl k.lost where
      by : (l : Option SenderNo) → r.lost ≡ l → LostKeeps c.me c.phase r.pin l → r.lost ≡ None
      by None e h = e
      by (Some o) e h = absurd (elim calm [
        | inl a ↦ (let bad = sym a ∙ h.parts in cc)
        | inr p ↦ (let bad = sym p.1 ∙ h.parts in cc)
      ])

    -- so whom it lost to is kept with another phase and pin
    lost_on : IsCalm r.pin → (p : Phase E) (u : Pin)
        → ((t : ℕ) → u ≡ Unpinning t → held_of p ≡ Some t) → LostKeeps c.me p u r.lost
    lost_on calm p u holds = subst (LostKeeps c.me p u) (sym (unlost calm)) holds

    -- who goes on, and whose election does not run, stays as it is
    goes : IsCalm r.pin → IsOutside c.phase
        → (q : Pending) (least : ℕ) (p : Phase E) (s : Option Reclaiming) → IsOutside p
        → ReclaimerKeeps sizes p s → LoadedKeeps c.layout.passers p r.passed
        → Keeps (with q least p r.pin s r.lost)
    goes calm out q least p s after reclaimer loaded =
        let away = calm_away (W c.layout) (B c.layout c.me) c r k out calm in
        kept q least p r.pin s r.lost
        (subst (PinKeeps (B c.layout c.me) (record c { queue = q; least = least; phase = p }))
        (sym away) after) reclaimer
        (lost_on calm p r.pin (λ t e. let bad = sym away ∙ e in absurd cc)) loaded

    -- with another phase of the same tenure
    holds : IsCalm r.pin → IsOutside c.phase → (p : Phase E) → IsOutside p
        → held_of p ≡ held_of c.phase
        → ((t : ℕ) (reason : Reason) → p ≡ Giving t reason
        → IfSome r.reclaimer (λ s. is_reclaimed s ≡ true))
        → LoadedKeeps c.layout.passers p r.passed
        → Keeps (with c.queue c.least p r.pin r.reclaimer r.lost)
    holds calm out p after same done loaded =
        goes calm out c.queue c.least p r.reclaimer after
        (rephased sizes c.phase p r.reclaimer k.reclaimer same done) loaded

    -- a first look at the stage
    looks : (got : ℕ) → IsCalm r.pin → c.phase ≡ Resting → resting c ≡ LooksAtStage
        → Keeps (seen X c (Some r) got)
    looks got calm rests left = by (waits c got) (nat_le c.layout.rows (got / 2)) refl refl where
      out : IsOutside c.phase
      out = subst IsOutside (sym rests) tt

      away : (least : ℕ) → Keeps (with c.queue least c.phase Away r.reclaimer r.lost)
      away least = kept c.queue least c.phase Away r.reclaimer r.lost out k.reclaimer
          (lost_on calm c.phase Away (λ t e. absurd cc)) k.loaded

      bound : (a : Bool) → (got % 2 == 0) ≡ a → cond a (nat_lt (got / 2) c.least) true ≡ false
          → c.least ≤ got / 2
      bound true i w = ltb-false _ _ w
      bound false i w = absurd cc

      by : (a b : Bool) → waits c got ≡ a → nat_le c.layout.rows (got / 2) ≡ b
          → Keeps (sender (cond a c (cond b (record c { least = got / 2 }) c))
          (Some (record r { pin = cond a Away (cond b Away (Announcing (got / 2))) })))
      by true b i j = away c.least
      by false true i j = away (got / 2)
      by false false i j = kept c.queue c.least c.phase (Announcing (got / 2)) r.reclaimer r.lost
          record {
            looks = looks_at_rest c rests left;
            least = bound (got % 2 == 0) refl i;
            below = leb-false _ _ j;
          } k.reclaimer
          (lost_on calm c.phase (Announcing (got / 2)) (λ t e. absurd cc)) k.loaded

    -- a step of its election
    elects : (t : ℕ) (e next : E) → IsCalm r.pin → c.phase ≡ Electing t e
        → B c.layout c.me (row_at c.layout t) next → (o : Option ℕ)
        → Keeps (sender (core_elected c t next o) (reuse_elected c (Some r) t o))
    elects t e next calm at belongs o = by o where
      outside : (p : Phase E) → held_of p ≡ None → ReclaimerKeeps sizes p r.reclaimer
      outside p none = unreclaimed sizes c.phase p r.reclaimer k.reclaimer (ap held_of at) none

      runs : Keeps (with c.queue c.least (Electing t next) (Pinned t) r.reclaimer r.lost)
      runs = kept c.queue c.least (Electing t next) (Pinned t) r.reclaimer r.lost
          record {
            election = next;
            is = refl;
            belongs = belongs;
            below = (runs_pinned (B c.layout c.me) c r.pin t e k.pin at).2;
          }
          (outside (Electing t next) refl)
          (lost_on calm (Electing t next) (Pinned t) (λ u e. absurd cc)) tt

      ends : (o : ℕ) (b : Bool) → (o == c.me) ≡ b
          → Keeps (sender
          (cond b (record c { phase = Electing t next })
          (record c { queue = record c.queue { busy = false }; least = t + 1; phase = Resting }))
          (Some (record r {
            pin = cond b (Pinned t) (Unpinning t);
            lost = cond b r.lost (Some record { 0 = o });
          })))
      ends o true e = runs
      ends o false e = kept (record c.queue { busy = false }) (t + 1) Resting (Unpinning t)
          r.reclaimer (Some record { 0 = o }) tt
          (outside Resting refl) record {
            tenure = t;
            parts = refl;
            rests = refl;
            other = eqb-false o c.me e;
          } tt

      by : (o : Option ℕ) → Keeps (sender (core_elected c t next o) (reuse_elected c (Some r) t o))
      by None = runs
      by (Some o) = ends o (o == c.me) refl

    -- the page is taken
    taken_keeps : (t : ℕ) → IsCalm r.pin
        → Keeps (with c.queue c.least (Taken t) (Unpinning t) (reclaimer_after sizes t) r.lost)
    taken_keeps t calm =
        kept c.queue c.least (Taken t) (Unpinning t) (reclaimer_after sizes t) r.lost tt
        (begins sizes (Taken t) t (nat_lt (t + 1) r.rows) refl refl)
        (lost_on calm (Taken t) (Unpinning t) (λ u e. let same : t ≡ u = cc in ap Some same)) tt

    -- a passed place is loaded, and with the last one the page gets its floor
    passes : (t : ℕ) (p q : Passing) → Passes c.layout.passers r (situation_of X c) t p → (b : Bool)
        → Keeps (sender (cond b (core_floored c q.least) c) (Some (record r { passed = q })))
    passes t p q w true =
        let at = (tells X c (GivesBack t w.page NoRoom) w.gives).2 in
        repassed (core_floored c q.least) r
        (holds w.calm (subst IsOutside (sym at) tt) (phase_floored q.least c.phase)
        (subst (λ ph. IsOutside (phase_floored q.least ph)) (sym at) tt)
        (ap (λ ph. held_of (phase_floored q.least ph)) at ∙ sym (ap held_of at))
        (λ u reason e. let bad = sym (ap (phase_floored q.least) at) ∙ e in absurd cc)
        (subst (λ ph. LoadedKeeps c.layout.passers (phase_floored q.least ph) r.passed) (sym at)
        tt))
        q
        (subst (λ ph. LoadedKeeps c.layout.passers (phase_floored q.least ph) q) (sym at) tt)
    passes t p q w false =
        let at = (tells X c (GivesBack t w.page NoRoom) w.gives).2 in
        repassed c r k q (subst (λ ph. LoadedKeeps c.layout.passers ph q) (sym at) tt)

    -- a reclamation goes on
    reclaims : (s : Reclaiming) (got : ℕ) → Reclaims r (situation_of X c) s
        → Keeps (with c.queue c.least c.phase r.pin (Some (reclaim_fed s got)) r.lost)
    reclaims s got w =
        let at = (tells X c (GivesBack w.tenure w.page w.reason) w.gives).2 in
        kept c.queue c.least c.phase r.pin (Some (reclaim_fed s got)) r.lost k.pin
        (reclaimed_on sizes c.phase s got
        (held_reclaimer (W c.layout) (B c.layout c.me) c r k s w.is)
        (λ t reason e. not_giving c.phase _ _ _ _ at t reason e))
        k.lost k.loaded

    module _ (got word : ℕ) where
      -- ---- each situation
      by_situation : (z : Situation E)
          → SituationTells c.layout.passers z (Some r) (situation_of X c)
          → IsSome ((line X (sender c (Some r)) z).op word)
          → Keeps ((line X (sender c (Some r)) z).fed got word)
      by_situation (Does IsClosed) w h = k
      by_situation (Does IsIdle) w h = k
      by_situation (Does IsSpent) w h = k
      by_situation (Does LooksAtStage) w h =
          let rests = tells X c LooksAtStage w.0 in
          looks got w.1.calm rests (sym (ap (situation_at X c) rests) ∙ w.0)
      by_situation (Does (Elects t e)) w h =
          let at = (tells X c (Elects t e) w.0).0 in
          let o = some_op (X.op e word) h in
          elects t e (X.fed e got word) w.1.calm at
          (law.goes c.layout c.me (row_at c.layout t) e got word o.0
          (runs_pinned (B c.layout c.me) c r.pin t e k.pin at).1 o.1)
          (X.owner (X.fed e got word))
        where
          some_op : (x : Option Op) → IsSome (in_row c.layout (Some r) t x)
              → (o : Op) × (x ≡ Some o)
          some_op None g = absurd (let q : false ≡ true = g in cc)
          some_op (Some o) g = (o, refl)
      by_situation (Does (TakesPage t)) w h =
          let taken = record r {
            pin = Unpinning t;
            reclaimer = reclaimer_after sizes t;
          } in
          repassed (record c { phase = Taken t }) taken (taken_keeps t w.1.calm) passing_begun tt
      by_situation (Does (AwaitsPage t)) w h = k
      by_situation (Does (StoresWord t page stored)) w h =
          let at = (tells X c (StoresWord t page stored) w.0).1 in
          holds w.1.calm (subst IsOutside (sym at) tt) (Holding t page (stored + 1) false) tt
          (sym (ap held_of at))
          (λ u reason e. absurd cc) tt
      by_situation (Does (StoresLength t page stored)) w h =
          let at = (tells X c (StoresLength t page stored) w.0).1 in
          holds w.1.calm (subst IsOutside (sym at) tt) (Holding t page stored true) tt
          (sym (ap held_of at)) (λ u reason e. absurd cc) tt
      by_situation (Does (GivesBack t page reason)) w h =
          let at = (tells X c (GivesBack t page reason) w.0).2 in
          goes w.1.calm (subst IsOutside (sym at) tt) _ (t + 1) Resting None tt (λ u e. absurd cc)
          tt
      by_situation (Does (HasHanded t reason)) w h =
          let at = tells X c (HasHanded t reason) w.0 in
          goes w.1.calm (subst IsOutside (sym at) tt) _ (t + 1) Resting None tt (λ u e. absurd cc)
          tt
      by_situation (Announces t) w h = repinned (Validating t) (pin_at (Announcing t) w) (λ u e. cc)
      by_situation (Validates t) w h = validated t (pin_at (Validating t) w) (got / 2 == t)
      by_situation (Unpins t) w h = repinned Away (pin_at (Unpinning t) w) (λ u e. cc)
      by_situation (Withdraws t) w h =
          repinned Away (subst IsOutside (sym (pin_at (Invalidated t) w)) tt) (λ u e. cc)
      by_situation (Scans s) w h = reclaims s got w.0
      by_situation (Clears s) w h = reclaims s got w.0
      by_situation (ReadsPassed t p) w h =
          passes t p (passing_fed p got) w
          ((passing_fed p got).loaded == c.layout.passers)

  -- ---- with both kinds of rows
  -- the sender after its line
  pub keeps_line : (v : Sender E) (got word : ℕ) → Keeps v → IsSome ((line_now X v).op word)
      → Keeps ((line_now X v).fed got word)
  keeps_line v got word k h = by v.reuse k h where
    by : (r : Option Reuse) → Keeps (sender v.core r)
        → IsSome ((line_now X (sender v.core r)).op word)
        → Keeps ((line_now X (sender v.core r)).fed got word)
    by None k h = subst Keeps (sym (ap (λ l. l.fed got word) (at_none X v.core))) tt
    by (Some r) k h =
        let w = sender v.core (Some r) in
        by_situation v.core r k got word (situation X w) (situation_tells X w _ refl) h

  -- the page goes out of its hands
  pub keeps_out : (v : Sender E) → Keeps v → (t : ℕ) (page : Page) (reason : Reason)
      → situation_of X v.core ≡ GivesBack t page reason
      → situation X v ≡ Does (GivesBack t page reason)
      → Keeps record v { core = record v.core { phase = Giving t reason } }
  keeps_out v k t page reason is d =
      by v.reuse k d (situation_tells X v (Does (GivesBack t page reason)) d).1
    where
      -- it has loaded all passed places, where it is for want of room
      all : (why : Reason) (r : Reuse)
          → situation_by v.core.layout.passers (Some r) (situation_of X v.core)
          ≡ Does (GivesBack t page why)
          → LoadedKeeps {E = E} v.core.layout.passers (Giving t why) r.passed
      all Sent r i = tt
      all FoundEnd r i = tt
      all NoRoom r i = (loads_all_first X (sender v.core (Some r))).given t page i

      by : (r : Option Reuse) → Keeps (sender v.core r)
          → situation_by v.core.layout.passers r (situation_of X v.core)
          ≡ Does (GivesBack t page reason)
          → IfSome r (λ r. GoesCalmly r (situation_of X v.core))
          → Keeps (sender (record v.core { phase = Giving t reason }) r)
      by None k i g = tt
      by (Some r) k i g =
          let at = (tells X v.core (GivesBack t page reason) is).2 in
          holds v.core r k g.calm (subst IsOutside (sym at) tt) (Giving t reason) tt
          (sym (ap held_of at)) (λ u w e. g.done t page reason is) (all reason r i)
