-- In rows used again each tenure's object keeps its law, as if over a row for itself.
use Rattle.std.proofs.Common.{◌≡◌, ◌≢◌, ◌⊎◌, inl, inr, ℕ, ◌+◌, ◌-◌, ◌*◌, ◌/◌, ◌<◌, ◌≤◌, Option}
use Rattle.std.proofs.Common.{Some, None, arith, refl, sym, ◌∙◌, ap, subst}
use Rattle.std.proofs.lemmas.Bool.{cases_eq, cases_lt}
use Rattle.std.proofs.lemmas.Option.{same_Some}
use Rattle.bus_register.specs.declared.limits.TheConstants.{MOST_PROCESSES}
use Rattle.bus_register.specs.declared.registers.Op.{Op}
use Rattle.bus_register.specs.declared.registers.Op.TheVariants.{Load}
use Rattle.bus_register.specs.Words.{register, after}
use Rattle.bus_register.specs.Tables.{Beside, put}
use Rattle.bus_register.specs.Protocol.{Protocol, Laws}
use Rattle.bus_register.specs.Private.TableLaws.{put_here, put_beside}
use Rattle.bus_presence.specs.declared.pins.Pin.{Pin}
use Rattle.bus_presence.specs.declared.pins.Pin.TheVariants.{Away, Announcing, Validating, Pinned}
use Rattle.bus_presence.specs.declared.pins.Pin.TheVariants.{Unpinning, Invalidated}
use Rattle.bus_presence.specs.Pins.{step_at, pin_fed}
use Rattle.bus_presence.specs.Reclaimers.{Reclaiming, reclaim_op, reclaim_fed}
use Rattle.bus_presence.specs.Reclamation.{ReclamationSizes, Reclamation, Trails, stage_at}
use Rattle.bus_presence.specs.Reclamation.{presence_at, row_of, tenure_of, new_reclamation}
use Rattle.bus_presence.specs.Reclamation.{no_trails, number_of_step, words_after, reclaimer_after}
use Rattle.bus_presence.specs.Reclamation.{Moves, Begins, Pins, Parts, Takes, Reclaims, GivesBack}
use Rattle.bus_presence.specs.Reclamation.{Stores, Reached}
use Rattle.bus_presence.specs.Rows.{Locals, no_locals, with_local, Played, New, Moved, Starts}
use Rattle.bus_presence.specs.Rows.{Steps, AreApart}
use Rattle.bus_presence.proofs.PinTrails.{HasStood, none_is_not}
use Rattle.bus_presence.proofs.ReclamationKept.{IsReclaimer, Keeps, keeps_new, keeps_worked}
use Rattle.bus_presence.proofs.ReclamationKept.{stander, one_of_row, rows_apart, visitor, put_same}
use Rattle.bus_presence.proofs.ReclaimerLaws.{moves_keep, no_stage, no_row, reclaim_does, Scans}
use Rattle.bus_presence.proofs.ReclaimerLaws.{keeps}
use Rattle.bus_presence.proofs.ReclamationLaws.{safe}

-- a step of a pin is on the sender's presence, or it loads
pub pin_place : (x : ReclamationSizes) (v : Pin) (p : ℕ) (o : Op)
    → step_at v (presence_at x p) (stage_at x) ≡ Some o
    → (register o ≡ presence_at x p) ⊎ ((r : ℕ) × (o ≡ Load record { 0 = r }))
pin_place x Away p o e = absurd (none_is_not o e)
pin_place x (Announcing t) p o e = inl (ap register (sym (same_Some _ _ e)))
pin_place x (Validating t) p o e = inr (stage_at x, sym (same_Some _ _ e))
pin_place x (Pinned t) p o e = absurd (none_is_not o e)
pin_place x (Unpinning t) p o e = inl (ap register (sym (same_Some _ _ e)))
pin_place x (Invalidated t) p o e = inl (ap register (sym (same_Some _ _ e)))

pub load_same : (h : Reclamation) (o : Op) → (r : ℕ) × (o ≡ Load record { 0 = r })
    → words_after h o ≡ h.words
load_same h o load = ap (words_after h) load.1 ∙ put_same load.0 h.words

-- the row of a tenure is the tenure's still: the tenure was opened, its row has not gone on, and no
-- reclaimer of it has begun to clear
pub record IsLive (x : ReclamationSizes) (h : Reclamation) (t : ℕ) : Type 0 where
  pub opened : t ≤ tenure_of x h
  pub stays : tenure_of x h < t + x.rows
  pub unreclaimed : (s : Reclaiming) → h.reclaimer ≡ Some s → x.senders ≤ s.scanned
      → tenure_of x h + 1 < t + x.rows

-- two tenures whose rows are theirs have different rows
pub live_apart : (x : ReclamationSizes) (h : Reclamation) (t u j k : ℕ) → t ≢ u → t ≤ tenure_of x h
    → tenure_of x h < t + x.rows → u ≤ tenure_of x h → tenure_of x h < u + x.rows → j < x.width
    → k < x.width → row_of x t + j ≢ row_of x u + k
live_apart x h t u j k ne a b c d low high = rows_apart x t u j k (λ same. ne (elim (cases_lt t u) [
  | inl less ↦ one_of_row x.rows t u (omega arith) (omega arith) same
  | inr more ↦ sym (one_of_row x.rows u t more (omega arith) (sym same))
])) low high

-- the stage and the reclaimer are as they were, so the same rows live
pub alive_same : (x : ReclamationSizes) (h h' : Reclamation) (t : ℕ)
    → h'.words (stage_at x) ≡ h.words (stage_at x) → h'.reclaimer ≡ h.reclaimer → IsLive x h' t
    → IsLive x h t
alive_same x h h' t e f live =
    let same : tenure_of x h' ≡ tenure_of x h = ap (λ z. z / 2) e in
    let a = live.opened in let b = live.stays in record {
      opened = omega arith;
      stays = omega arith;
      unreclaimed = λ s is all. let z = live.unreclaimed s (f ∙ is) all in omega arith;
    }

-- who stands in a tenure finds its row its own
pub alive_pinned : (x : ReclamationSizes) → 2 ≤ x.rows → (h : Reclamation) (T : Trails)
    → Keeps x h T → (p t : ℕ) → h.pins p ≡ Pinned t → IsLive x h t
alive_pinned x two h T k p t at =
    let stood : HasStood (h.pins p) t = subst (λ z. HasStood z t) (sym at) refl in
    let below = stander x two h T k p t stood in let b = k.stood p t stood in record {
      opened = b.0;
      stays = b.1;
      unreclaimed = λ s is all.
          let w = k.reclaims s is in
          let held = w.held in let l = w.passed p t (omega arith) stood in omega arith;
    }

module _ {S I O : Type 0} (op : S → ℕ → Option Op) (fed : S → ℕ → ℕ → S) (P : Protocol S I O)
    (Outcome : (ℕ → Option I) → (ℕ → Option O) → Type 0) (laws : Laws op fed P Outcome)
    (x : ReclamationSizes) (two : 2 ≤ x.rows) (few : x.senders ≤ MOST_PROCESSES)
    (wide : x.width ≡ P.width x.senders) where
  -- words over which the law of a tenure's object holds: while its row is its own, those that stand
  -- there
  record IsKept (h : Reclamation) (L : Locals S) (t : ℕ) : Type 0 where
    words : ℕ → ℕ
    law : P.Keeps x.senders (row_of x t) words (L t)
    stand : IsLive x h t → (place : ℕ) → place < x.width
        → h.words (row_of x t + place) ≡ words (row_of x t + place)

  record KeepsAll (h : Reclamation) (T : Trails) (L : Locals S) : Type 0 where
    reclamation : Keeps x h T
    kept : (t : ℕ) → IsKept h L t
    unopened : (t p : ℕ) → tenure_of x h < t → L t p ≡ None

  -- the same objects in a reclamation where what lives was alive before, with the same words
  kept_on : (h h' : Reclamation) (L : Locals S) (t : ℕ) → (IsLive x h' t → IsLive x h t)
      → (IsLive x h' t → (place : ℕ) → place < x.width
      → h'.words (row_of x t + place) ≡ h.words (row_of x t + place)) → IsKept h L t → IsKept h' L t
  kept_on h h' L t lives same k = record {
    words = k.words;
    law = k.law;
    stand = λ live place low. same live place low ∙ k.stand (lives live) place low;
  }

  -- what stands keeps the law of an object whose row is its own
  law_here : (h : Reclamation) (L : Locals S) (t : ℕ) → IsKept h L t → IsLive x h t
      → P.Keeps x.senders (row_of x t) h.words (L t)
  law_here h L t k live =
      laws.frame x.senders (row_of x t) k.words h.words (L t) (L t) k.law (λ r low high.
      let same = k.stand live (r - row_of x t) (omega arith) in
      let place : row_of x t + (r - row_of x t) ≡ r = omega arith in
      ap h.words (sym place) ∙ same ∙ ap k.words place) (λ q. refl)

  -- no object yet, over words of zero
  kept_fresh : (h : Reclamation) (L : Locals S) (t : ℕ) → ((p : ℕ) → L t p ≡ None)
      → ((place : ℕ) → place < x.width → h.words (row_of x t + place) ≡ 0) → IsKept h L t
  kept_fresh h L t none zero = record {
    words = h.words;
    law = laws.frame x.senders (row_of x t) h.words h.words (λ p. None) (L t)
        (laws.fresh x.senders (row_of x t) h.words (λ r low high.
        let place : row_of x t + (r - row_of x t) ≡ r = omega arith in
        ap h.words (sym place) ∙ zero (r - row_of x t) (omega arith))) (λ r a b. refl) none;
    stand = λ live place low. refl;
  }

  keeps_all_new : KeepsAll new_reclamation no_trails no_locals
  keeps_all_new = record {
    reclamation = keeps_new x;
    kept = λ t. kept_fresh new_reclamation no_locals t (λ p. refl) (λ place low. refl);
    unopened = λ t p late. refl;
  }

  -- ---- moves of a reclamation
  abbrev IsAlive : Reclamation → Reclamation → ℕ → Type 0
  IsAlive h h' t = IsLive x h' t → IsLive x h t

  abbrev SameRow : Reclamation → Reclamation → ℕ → Type 0
  SameRow h h' t =
      IsLive x h' t → (place : ℕ) → place < x.width
      → h'.words (row_of x t + place) ≡ h.words (row_of x t + place)

  module _ (h : Reclamation) (T : Trails) (L : Locals S) (k : KeepsAll h T L) where
    -- all objects stay, where all that lives was alive before, with the same words
    all_on : (h' : Reclamation) (T' : Trails) → Keeps x h' T' → ((t : ℕ) → IsAlive h h' t)
        → ((t : ℕ) → SameRow h h' t) → tenure_of x h ≤ tenure_of x h' → KeepsAll h' T' L
    all_on h' T' reclamation alive same more = record {
      reclamation = reclamation;
      kept = λ t. kept_on h h' L t (alive t) (same t) (k.kept t);
      unopened = λ t p late. k.unopened t p (omega arith);
    }

    -- words beside the rows have changed at most, and not the stage
    all_beside : (h' : Reclamation) (T' : Trails) → Keeps x h' T'
        → h'.words (stage_at x) ≡ h.words (stage_at x) → h'.reclaimer ≡ h.reclaimer
        → ((t place : ℕ) → place < x.width
        → h'.words (row_of x t + place) ≡ h.words (row_of x t + place)) → KeepsAll h' T' L
    all_beside h' T' reclamation stage reclaimer rows = all_on h' T' reclamation
        (λ t. alive_same x h h' t stage reclaimer) (λ t live place low. rows t place low)
        (let e = ap (λ z. z / 2) stage in omega arith)

    pins_on : (p : ℕ) (v : Pin) (o : Op) (T' : Trails) → p < x.senders → h.pins p ≡ v
        → step_at v (presence_at x p) (stage_at x) ≡ Some o
        → Keeps x
        (record h { words = words_after h o; pins = put p (pin_fed v (number_of_step h o)) h.pins })
        T'
        → KeepsAll
        (record h { words = words_after h o; pins = put p (pin_fed v (number_of_step h o)) h.pins })
        T' L
    pins_on p v o T' below at due reclamation = let place = pin_place x v p o due in
        all_beside
        (record h { words = words_after h o; pins = put p (pin_fed v (number_of_step h o)) h.pins })
        T' reclamation
        (elim place [
          | inl e ↦ put_beside (register o) (after o (number_of_step h o)) h.words (stage_at x)
              (λ z. omega arith)
          | inr load ↦ ap (λ z. z (stage_at x)) (load_same h o load)
        ]) refl
        (λ t j low. elim place [
          | inl e ↦ put_beside (register o) (after o (number_of_step h o)) h.words (row_of x t + j)
              (λ z. omega arith)
          | inr load ↦ ap (λ z. z (row_of x t + j)) (load_same h o load)
        ])

    -- the page is taken: a reclaimer that has passed nobody begins, or none
    taken_on : (t : ℕ) (T' : Trails) → h.words (stage_at x) ≡ 2 * t
        → Keeps x
        (record h { words = put (stage_at x) (2 * t + 1) h.words; reclaimer = reclaimer_after x t })
        T'
        → KeepsAll
        (record h { words = put (stage_at x) (2 * t + 1) h.words; reclaimer = reclaimer_after x t })
        T' L
    taken_on t T' home reclamation = let stage = put_here (stage_at x) (2 * t + 1) h.words in
        all_on
        (record h { words = put (stage_at x) (2 * t + 1) h.words; reclaimer = reclaimer_after x t })
        T' reclamation
        (λ u live. let a = live.opened in let b = live.stays in record {
          opened = omega arith;
          stays = omega arith;
          unreclaimed =
              λ s is all. absurd (let held = (k.reclamation.reclaims s is).held in omega arith);
        })
        (λ u live place low.
        put_beside (stage_at x) (2 * t + 1) h.words (row_of x u + place) (λ e. omega arith))
        (omega arith)

    -- the page is given back: the next tenure opens over words of zero
    module _ (t : ℕ) where
      abbrev given : Reclamation
      given = record h { words = put (stage_at x) (2 * t + 2) h.words; reclaimer = None }

      given_stage : given.words (stage_at x) ≡ 2 * t + 2
      given_stage = put_here (stage_at x) (2 * t + 2) h.words

      given_rows : (u place : ℕ) → given.words (row_of x u + place) ≡ h.words (row_of x u + place)
      given_rows u place =
          put_beside (stage_at x) (2 * t + 2) h.words (row_of x u + place) (λ e. omega arith)

      back_on : (T' : Trails) → h.words (stage_at x) ≡ 2 * t + 1
          → ((place : ℕ) → place < x.width → h.words (row_of x (t + 1) + place) ≡ 0)
          → Keeps x given T' → KeepsAll given T' L
      back_on T' held clean reclamation = record {
        reclamation = reclamation;
        kept = λ u. elim (cases_eq u (t + 1)) [
          | inl e ↦ subst (IsKept given L) (sym e)
              (kept_fresh given L (t + 1) (λ p. k.unopened (t + 1) p (omega arith))
              (λ place low. given_rows (t + 1) place ∙ clean place low))
          | inr ne ↦ kept_on h given L u (λ live.
              let a = live.opened in
              let b = live.stays in
              let e = given_stage in
              record {
                opened = omega arith;
                stays = omega arith;
                unreclaimed = λ s is all. omega arith;
              }) (λ live place low. given_rows u place) (k.kept u)
        ];
        unopened = λ u p late. k.unopened u p (let e = given_stage in omega arith);
      }

    -- a reclaimer scans: where all have passed now, more rows have gone on
    scanned_on : (s : Reclaiming) (o : Op) (T' : Trails) → h.reclaimer ≡ Some s → Scans s o
        → Keeps x (record h {
          words = words_after h o;
          reclaimer = Some (reclaim_fed s (number_of_step h o));
        }) T'
        → KeepsAll (record h {
          words = words_after h o;
          reclaimer = Some (reclaim_fed s (number_of_step h o));
        }) T' L
    scanned_on s o T' is a reclamation =
        let same = load_same h o (s.presences + s.scanned, a.loads) in
        all_on (record h {
          words = words_after h o;
          reclaimer = Some (reclaim_fed s (number_of_step h o));
        }) T' reclamation
        (λ u live.
        let e = ap (λ z. z (stage_at x)) same in
        let b = live.opened in let c = live.stays in record {
          opened = omega arith;
          stays = omega arith;
          unreclaimed = λ z at all. absurd (let one =
              ap (λ (y : Reclaiming). y.scanned) (same_Some _ _ (sym is ∙ at)) in
              let n = (k.reclamation.reclaims s is).senders in let few = a.few in omega arith);
        })
        (λ u live place low. ap (λ z. z (row_of x u + place)) same)
        (let e = ap (λ z. z (stage_at x)) same in omega arith)

    -- a reclaimer clears: of the rows that live none is the one that it clears
    module _ (s : Reclaiming) (is : h.reclaimer ≡ Some s) (all : s.senders ≤ s.scanned)
        (less : s.cleared < s.width) where
      abbrev wiped : Reclamation
      wiped = record h {
        words = put (s.row + s.cleared) 0 h.words;
        reclaimer = Some record s { cleared = s.cleared + 1 };
      }

      w : IsReclaimer x h s
      w = k.reclamation.reclaims s is

      apart : Beside (s.row + s.cleared) h.words wiped.words
      apart = put_beside (s.row + s.cleared) 0 h.words

      wiped_stage : wiped.words (stage_at x) ≡ h.words (stage_at x)
      wiped_stage = let r = w.row in apart (stage_at x) (λ e. omega arith)

      later : (u : ℕ) → IsLive x wiped u → tenure_of x h + 1 < u + x.rows
      later u live =
          let n = w.senders in
          let e = ap (λ z. z / 2) wiped_stage in
          let l = live.unreclaimed (record s { cleared = s.cleared + 1 }) refl (omega arith) in
          omega arith

      wiped_on : (T' : Trails) → Keeps x wiped T' → KeepsAll wiped T' L
      wiped_on T' reclamation =
          let same = ap (λ z. z / 2) wiped_stage in all_on wiped T' reclamation
          (λ u live.
          let b = live.opened in
          let d = live.stays in
          record {
            opened = omega arith;
            stays = omega arith;
            unreclaimed = λ z at some. later u live;
          })
          (λ u live place low. apart (row_of x u + place) (λ e.
          let l = later u live in
          let held = w.held in let b = live.opened in let r = w.row in let width = w.width in
          rows_apart x u (w.tenure + 1) place s.cleared
          (λ one.
          let eq = one_of_row x.rows u (w.tenure + 1) (omega arith) (omega arith) one in
          omega arith) low (omega arith) (e ∙ ap (λ z. z + s.cleared) r))) (omega arith)

    reclaimed_on : (s : Reclaiming) (o : Op) (T' : Trails) → h.reclaimer ≡ Some s
        → reclaim_op s ≡ Some o
        → Keeps x (record h {
          words = words_after h o;
          reclaimer = Some (reclaim_fed s (number_of_step h o));
        }) T'
        → KeepsAll (record h {
          words = words_after h o;
          reclaimer = Some (reclaim_fed s (number_of_step h o));
        }) T' L
    reclaimed_on s o T' is due = elim (reclaim_does s o due) [
      | inl a ↦ scanned_on s o T' is a
      | inr c ↦ subst (λ z.
          Keeps x (record h {
            words = words_after h z;
            reclaimer = Some (reclaim_fed s (number_of_step h z));
          }) T'
          → KeepsAll (record h {
            words = words_after h z;
            reclaimer = Some (reclaim_fed s (number_of_step h z));
          }) T' L) (sym c.stores)
          (subst (λ z.
          Keeps x (record h { words = put (s.row + s.cleared) 0 h.words; reclaimer = Some z }) T'
          → KeepsAll (record h { words = put (s.row + s.cleared) 0 h.words; reclaimer = Some z }) T'
          L) (sym (c.fed (h.words (s.row + s.cleared)))) (wiped_on s is c.all c.less T'))
    ]

  moves_on : (h h' : Reclamation) (T T' : Trails) (L : Locals S) → Moves x h T h' T'
      → KeepsAll h T L → KeepsAll h' T' L
  moves_on h h' T T' L (Begins g U p t below at) k = all_beside g U L k _ _
      (moves_keep x two _ _ _ _ (Begins g U p t below at) k.reclamation) refl refl
      (λ u place low. refl)
  moves_on h h' T T' L (Pins g U p o due) k = pins_on g U L k p (g.pins p) o _
      (visitor x two g U k.reclamation p
      (λ a. none_is_not o (subst (λ z. step_at z (presence_at x p) (stage_at x) ≡ Some o) a due)))
      refl due (moves_keep x two _ _ _ _ (Pins g U p o due) k.reclamation)
  moves_on h h' T T' L (Parts g U p t at) k = all_beside g U L k _ _
      (moves_keep x two _ _ _ _ (Parts g U p t at) k.reclamation) refl refl (λ u place low. refl)
  moves_on h h' T T' L (Takes g U p t at home) k =
      taken_on g U L k t _ home (moves_keep x two _ _ _ _ (Takes g U p t at home) k.reclamation)
  moves_on h h' T T' L (Reclaims g U s o is due) k = reclaimed_on g U L k s o _ is due
      (moves_keep x two _ _ _ _ (Reclaims g U s o is due) k.reclamation)
  moves_on h h' T T' L (GivesBack g U t held ready) k = back_on g U L k t _ held
      (λ place low. (safe x two g U k.reclamation).clean t place held ready low)
      (moves_keep x two _ _ _ _ (GivesBack g U t held ready) k.reclamation)
  moves_on h h' T T' L (Stores g U place number far) k =
      all_beside g U L k _ _ (moves_keep x two _ _ _ _ (Stores g U place number far) k.reclamation)
      (put_beside place number g.words (stage_at x) (no_stage x two place far)) refl
      (λ u j low. put_beside place number g.words (row_of x u + j) (no_row x two u j place low far))

  -- ---- steps of objects
  module _ (h : Reclamation) (T : Trails) (L : Locals S) (k : KeepsAll h T L) (p t : ℕ)
      (at : h.pins p ≡ Pinned t) where
    stood : HasStood (h.pins p) t
    stood = subst (λ z. HasStood z t) (sym at) refl

    below : p < x.senders
    below = stander x two h T k.reclamation p t stood

    alive : IsLive x h t
    alive = alive_pinned x two h T k.reclamation p t at

    here : (s : S) → with_local L t p s t ≡ put p (Some s) (L t)
    here s = put_here t (put p (Some s) (L t)) L

    there : (s : S) → Beside t L (with_local L t p s)
    there s = put_beside t (put p (Some s) (L t)) L

    late_none : (s : S) (u q : ℕ) → tenure_of x h < u → with_local L t p s u q ≡ None
    late_none s u q late =
        let o = alive.opened in ap (λ z. z q) (there s u (λ e. omega arith)) ∙ k.unopened u q late

    starts_on : (v : I) → L t p ≡ None
        → KeepsAll h T (with_local L t p (P.started x.senders p v (row_of x t)))
    starts_on v none = let s : S = P.started x.senders p v (row_of x t) in record {
      reclamation = k.reclamation;
      kept = λ u. elim (cases_eq u t) [
        | inl e ↦ let old = k.kept t in subst (IsKept h (with_local L t p s)) (sym e) (record {
          words = old.words;
          law = subst (P.Keeps x.senders (row_of x t) old.words) (sym (here s))
              (laws.enters x.senders (row_of x t) old.words (L t) (put p (Some s) (L t)) p v old.law
              below few none (put_here p (Some s) (L t)) (put_beside p (Some s) (L t)));
          stand = old.stand;
        })
        | inr ne ↦
            let old = k.kept u in
            record {
              words = old.words;
              law = subst (P.Keeps x.senders (row_of x u) old.words) (sym (there s u ne)) old.law;
              stand = old.stand;
            }
      ];
      unopened = late_none s;
    }

    module _ (word : ℕ) (s : S) (o : Op) (has : L t p ≡ Some s) (due : op s word ≡ Some o) where
      law : P.Keeps x.senders (row_of x t) h.words (L t)
      law = law_here h L t (k.kept t) alive

      within : (row_of x t ≤ register o) × (register o < row_of x t + x.width)
      within =
          let known = laws.known x.senders (row_of x t) h.words (L t) p s law has in
          let g = laws.goes x.senders p (row_of x t) s 0 word o known.1 due in
          let low = g.below in (g.above, omega arith)

      abbrev stepped : Reclamation
      stepped = record h { words = words_after h o }

      abbrev next : S
      next = fed s (number_of_step h o) word

      beside_word : Beside (register o) h.words stepped.words
      beside_word = put_beside (register o) (after o (number_of_step h o)) h.words

      place : row_of x t + (register o - row_of x t) ≡ register o
      place = let l = within.0 in omega arith

      reclamation_on : Keeps x stepped T
      reclamation_on =
          let high = within.1 in
          subst (λ z. Keeps x (record h { words = put z (after o (number_of_step h o)) h.words }) T)
          place (keeps_worked x two h T k.reclamation p t (register o - row_of x t)
          (after o (number_of_step h o)) at (omega (arith, place)))

      same_stage : stepped.words (stage_at x) ≡ h.words (stage_at x)
      same_stage = let l = within.0 in beside_word (stage_at x) (λ e. omega arith)

      same_row : (u : ℕ) → u ≢ t → IsLive x h u → (j : ℕ) → j < x.width
          → stepped.words (row_of x u + j) ≡ h.words (row_of x u + j)
      same_row u ne live j low =
          let a = alive.opened in
          let b = alive.stays in let c = live.opened in let d = live.stays in let high = within.1 in
          beside_word (row_of x u + j) (λ e. live_apart x h u t j (register o - row_of x t) ne c d a
          b low (omega (arith, place)) (e ∙ sym place))

      steps_on : KeepsAll stepped T (with_local L t p next)
      steps_on = record {
        reclamation = reclamation_on;
        kept = λ u. elim (cases_eq u t) [
          | inl e ↦ subst (IsKept stepped (with_local L t p next)) (sym e) (record {
            words = stepped.words;
            law = subst (P.Keeps x.senders (row_of x t) stepped.words) (sym (here next))
                (laws.moves x.senders (row_of x t) h.words stepped.words (L t)
                (put p (Some next) (L t)) p s word o law has due (put_here p (Some next) (L t))
                (put_beside p (Some next) (L t))
                record {
                  here = put_here (register o) (after o (number_of_step h o)) h.words;
                  elsewhere = λ r a b ne. beside_word r ne;
                });
            stand = λ live j low. refl;
          })
          | inr ne ↦
              let alive_before = alive_same x h stepped u same_stage refl in
              subst (λ z. IsKept stepped z u) refl
              (let old = kept_on h stepped L u alive_before
              (λ live j low. same_row u ne (alive_before live) j low) (k.kept u) in
              record {
                words = old.words;
                law = subst (P.Keeps x.senders (row_of x u) old.words) (sym (there next u ne))
                    old.law;
                stand = old.stand;
              })
        ];
        unopened = λ u q late. late_none next u q (subst (λ z. z / 2 < u) same_stage late);
      }

  keeps_all : (h : Reclamation) (T : Trails) (L : Locals S) → Played op fed P x h T L
      → KeepsAll h T L
  keeps_all h T L New = keeps_all_new
  keeps_all h T L (Moved g g' U U' M r m) = moves_on g g' U U' M m (keeps_all g U M r)
  keeps_all h T L (Starts g U M p t v r at none) = starts_on g U M (keeps_all g U M r) p t at v none
  keeps_all h T L (Steps g U M p t word s o r at has due) =
      steps_on g U M (keeps_all g U M r) p t at word s o has due

  pub tenures_apart : (h : Reclamation) (T : Trails) (L : Locals S) → Played op fed P x h T L
      → AreApart op P Outcome x h T L
  tenures_apart h T L r = let k = keeps_all h T L r in record {
    safe = safe x two h T k.reclamation;
    outcomes = λ t. laws.outcome x.senders (row_of x t) (k.kept t).words (L t) (k.kept t).law;
    fits = λ p t word s o at has due. laws.fits x.senders (row_of x t) h.words (L t) p s word o
        (law h T L k p t at word s o has due) has due;
  }

-- ---- tenures
-- the stage never falls to an earlier tenure
module _ (x : ReclamationSizes) (two : 2 ≤ x.rows) where
  moves_rise : (h h' : Reclamation) (T T' : Trails) → Keeps x h T → Moves x h T h' T'
      → tenure_of x h ≤ tenure_of x h'
  moves_rise h h' T T' k (Begins g U p t below at) = omega arith
  moves_rise h h' T T' k (Pins g U p o due) =
      let below = visitor x two g U k p
      (λ a. none_is_not o (subst (λ z. step_at z (presence_at x p) (stage_at x) ≡ Some o) a due)) in
      let same : words_after g o (stage_at x) ≡ g.words (stage_at x) =
      elim (pin_place x (g.pins p) p o due) [
        | inl e ↦ put_beside (register o) (after o (number_of_step g o)) g.words (stage_at x)
            (λ z. omega arith)
        | inr load ↦ ap (λ z. z (stage_at x)) (load_same g o load)
      ] in
      omega (arith, ap (λ z. z / 2) same)
  moves_rise h h' T T' k (Parts g U p t at) = omega arith
  moves_rise h h' T T' k (Takes g U p t at home) =
      omega (arith, put_here (stage_at x) (2 * t + 1) g.words)
  moves_rise h h' T T' k (Reclaims g U s o is due) =
      let same : words_after g o (stage_at x) ≡ g.words (stage_at x) = elim (reclaim_does s o due) [
        | inl a ↦ ap (λ z. z (stage_at x)) (load_same g o (s.presences + s.scanned, a.loads))
        | inr c ↦ put_beside (register o) (after o (number_of_step g o)) g.words (stage_at x)
            (λ z.
            let r = (k.reclaims s is).row in
            let at : register o ≡ s.row + s.cleared = ap register c.stores in omega arith)
      ] in
      omega (arith, ap (λ z. z / 2) same)
  moves_rise h h' T T' k (GivesBack g U t held ready) =
      omega (arith, put_here (stage_at x) (2 * t + 2) g.words)
  moves_rise h h' T T' k (Stores g U place number far) =
      let same = put_beside place number g.words (stage_at x) (no_stage x two place far) in
      omega (arith, ap (λ z. z / 2) same)

pub tenures_rise : (x : ReclamationSizes) → 2 ≤ x.rows → (h h' : Reclamation) (T T' : Trails)
    → Reached x h T → Moves x h T h' T' → tenure_of x h ≤ tenure_of x h'
tenures_rise x two h h' T T' r m = moves_rise x two h h' T T' (keeps x two h T r) m
