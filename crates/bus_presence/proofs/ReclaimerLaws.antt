-- Steps of the stage and of a reclaimer keep what each reclamation keeps, and so does what is
-- stored elsewhere: whatever is reached keeps it.
use Rattle.std.proofs.Common.{◌≡◌, ◌≢◌, ◌⊎◌, inl, inr, ℕ, ◌+◌, ◌-◌, ◌*◌, ◌/◌, ◌%◌, ◌<◌, ◌≤◌, true}
use Rattle.std.proofs.Common.{false, Option, Some, None, nat_lt, nat_le, ◌&&◌, ◌==◌, if◌then◌else◌}
use Rattle.std.proofs.Common.{arith, refl, sym, ◌∙◌, ap, subst}
use Rattle.std.proofs.lemmas.Bool.{cases_eq, and_parts}
use Rattle.std.proofs.lemmas.Bool.Decides.{eqb_tells, leb_tells}
use Rattle.std.proofs.lemmas.Nat.{row_fits, mod_below}
use Rattle.std.proofs.lemmas.Option.{same_Some}
use Rattle.bus_register.specs.declared.registers.Op.{Op}
use Rattle.bus_register.specs.declared.registers.Op.TheVariants.{Load, Store}
use Rattle.bus_register.specs.Tables.{Beside, put}
use Rattle.bus_register.specs.Private.TableLaws.{put_here, put_beside}
use Rattle.bus_presence.specs.Reclaimers.{Reclaiming, reclaim_op, reclaim_fed, behind_of}
use Rattle.bus_presence.specs.Reclamation.{ReclamationSizes, Reclamation, Trails, stage_at}
use Rattle.bus_presence.specs.Reclamation.{presence_at, row_of, tenure_of, reclaimer_after, IsReady}
use Rattle.bus_presence.specs.Reclamation.{number_of_step, words_after, Moves, Begins, Pins, Parts}
use Rattle.bus_presence.specs.Reclamation.{Takes, Reclaims, GivesBack, Stores, IsElsewhere, Reached}
use Rattle.bus_presence.specs.Reclamation.{New, Then, Works}
use Rattle.bus_presence.proofs.PinTrails.{none_is_not, HasStood, stood_shows}
use Rattle.bus_presence.proofs.ReclamationKept.{IsReclaimer, Keeps, keeps_new, put_same, lt_tells}
use Rattle.bus_presence.proofs.ReclamationKept.{stander, keeps_worked, keeps_begun, keeps_parted}
use Rattle.bus_presence.proofs.ReclamationKept.{keeps_pin_stepped}

false_is_not : false ≡ true → ⊥
false_is_not e = cc

pub le_told : (a b : ℕ) → nat_le a b ≡ true → a ≤ b
le_told a b e = elim (leb_tells a b) [ inl l ↦ l.1 | inr m ↦ absurd (false_is_not (sym m.0 ∙ e)) ]

module _ (x : ReclamationSizes) (two : 2 ≤ x.rows) (h : Reclamation) (T : Trails)
    (k : Keeps x h T) where
  -- the stage goes on, and a reclaimer begins or ends
  module _ (number : ℕ) (reclaimer : Option Reclaiming) (more : tenure_of x h ≤ number / 2)
      (window : (p u : ℕ) → HasStood (h.pins p) u → number / 2 < u + x.rows) where
    abbrev staged : Reclamation
    staged = record h { words = put (stage_at x) number h.words; reclaimer = reclaimer }

    stage_now : staged.words (stage_at x) ≡ number
    stage_now = put_here (stage_at x) number h.words

    beside_stage : Beside (stage_at x) h.words staged.words
    beside_stage = put_beside (stage_at x) number h.words

    keeps_staged : ((s : Reclaiming) → reclaimer ≡ Some s → IsReclaimer x staged s)
        → Keeps x staged T
    keeps_staged reclaims = record {
      shows = λ q l. beside_stage (presence_at x q) (λ e. omega arith) ∙ k.shows q l;
      tells = k.tells;
      stood = λ q u s.
          let b = (k.stood q u s).0 in
          subst (λ z. (u ≤ z / 2) × (z / 2 < u + x.rows)) (sym stage_now)
          (omega arith, window q u s);
      below = k.below;
      reclaims = reclaims;
      unused = λ u j a b c.
          let late = subst (λ z. z / 2 < u) stage_now a in
          beside_stage (row_of x u + j) (λ e. omega arith) ∙ k.unused u j (omega arith) b c;
    }

  pub reclaimer_is : (t : ℕ) (s : Reclaiming) → reclaimer_after x t ≡ Some s
      → (x.rows ≤ t + 1)
      × (s ≡ record {
        past = t + 1 - x.rows;
        senders = x.senders;
        presences = presence_at x 0;
        row = row_of x (t + 1);
        width = x.width;
        scanned = 0;
        cleared = 0;
      })
  reclaimer_is t s = elim (lt_tells (t + 1) x.rows) [
    | inl l ↦ λ e. absurd (none_is_not s
        (sym
        (ap (λ z.
        if z then None else Some record {
          past = t + 1 - x.rows;
          senders = x.senders;
          presences = presence_at x 0;
          row = row_of x (t + 1);
          width = x.width;
          scanned = 0;
          cleared = 0;
        }) l.0) ∙ e))
    | inr m ↦ λ e. (
      m.1,
      sym (same_Some _ _
          (sym
          (ap (λ z.
          if z then None else Some record {
            past = t + 1 - x.rows;
            senders = x.senders;
            presences = presence_at x 0;
            row = row_of x (t + 1);
            width = x.width;
            scanned = 0;
            cleared = 0;
          }) m.0) ∙ e)),
    )
  ]

  keeps_taken : (t : ℕ) → h.words (stage_at x) ≡ 2 * t
      → Keeps x
      (record h { words = put (stage_at x) (2 * t + 1) h.words; reclaimer = reclaimer_after x t }) T
  keeps_taken t home = keeps_staged (2 * t + 1) (reclaimer_after x t) (omega arith)
      (λ p u s. let b = (k.stood p u s).1 in omega arith)
      (λ s e. let is = reclaimer_is t s e in let new = is.1 in record {
        tenure = t;
        held = put_here (stage_at x) (2 * t + 1) h.words;
        used = is.0;
        past = ap (λ (z : Reclaiming). z.past) new;
        senders = ap (λ (z : Reclaiming). z.senders) new;
        presences = ap (λ (z : Reclaiming). z.presences) new;
        row = ap (λ (z : Reclaiming). z.row) new;
        width = ap (λ (z : Reclaiming). z.width) new;
        passed =
            λ p u low st. absurd (let none = ap (λ (z : Reclaiming). z.scanned) new in omega arith);
        all_first =
            λ some. absurd (let none = ap (λ (z : Reclaiming). z.cleared) new in omega arith);
        within = let none = ap (λ (z : Reclaiming). z.cleared) new in omega arith;
        cleared = λ j l. absurd (let none = ap (λ (z : Reclaiming). z.cleared) new in omega arith);
      })

  ready_late : (t : ℕ) (o : Option Reclaiming) → h.words (stage_at x) ≡ 2 * t + 1 → h.reclaimer ≡ o
      → IsReady x t o → (p u : ℕ) → HasStood (h.pins p) u → t + 1 < u + x.rows
  ready_late t None held is ready p u s = omega arith
  ready_late t (Some s) held is ready p u st =
      let o = k.reclaims s is in
      let z = o.held in let a = o.senders in let few = stander x two h T k p u st in
      let all : s.senders ≤ s.scanned = le_told s.senders s.scanned
      (and_parts (nat_le s.senders s.scanned) (nat_le s.width s.cleared) ready).0 in
      let l = o.passed p u (omega arith) st in omega arith

  keeps_back : (t : ℕ) → h.words (stage_at x) ≡ 2 * t + 1 → IsReady x t h.reclaimer
      → Keeps x (record h { words = put (stage_at x) (2 * t + 2) h.words; reclaimer = None }) T
  keeps_back t held ready = keeps_staged (2 * t + 2) None (omega arith)
      (λ p u s. let l = ready_late t h.reclaimer held refl ready p u s in omega arith)
      (λ s e. absurd (none_is_not s e))

  keeps_reclaimer : (s : Reclaiming) → IsReclaimer x h s
      → Keeps x (record h { reclaimer = Some s }) T
  keeps_reclaimer s w = record {
    shows = k.shows;
    tells = k.tells;
    stood = k.stood;
    below = k.below;
    reclaims =
        λ z e. subst (IsReclaimer x (record h { reclaimer = Some s })) (same_Some _ _ e) (record {
          tenure = w.tenure;
          held = w.held;
          used = w.used;
          past = w.past;
          senders = w.senders;
          presences = w.presences;
          row = w.row;
          width = w.width;
          passed = w.passed;
          all_first = w.all_first;
          within = w.within;
          cleared = w.cleared;
        });
    unused = k.unused;
  }

  -- one more presence has passed
  passes : (s : Reclaiming) → IsReclaimer x h s → s.scanned < s.senders
      → h.words (s.presences + s.scanned) ≢ 1 + s.past
      → IsReclaimer x h (record s { scanned = s.scanned + 1 })
  passes s w few other = record {
    tenure = w.tenure;
    held = w.held;
    used = w.used;
    past = w.past;
    senders = w.senders;
    presences = w.presences;
    row = w.row;
    width = w.width;
    passed = λ p u low st. elim (cases_eq p s.scanned) [
      | inl e ↦
          let place : s.presences + s.scanned ≡ presence_at x p =
          (let a = w.presences in omega arith) in
          let shown_u =
          ap h.words place ∙ k.shows p (stander x two h T k p u st) ∙ stood_shows (h.pins p) u st in
          let b = (k.stood p u st).1 in let z = w.held in let y = w.past in let used = w.used in
          elim (cases_eq u s.past) [
            | inl same ↦ absurd (other (shown_u ∙ ap (λ z. 1 + z) same))
            | inr ne ↦ omega arith
          ]
      | inr ne ↦ w.passed p u (omega arith) st
    ];
    all_first = λ some. let a = w.all_first some in omega arith;
    within = w.within;
    cleared = w.cleared;
  }

  -- one more word is cleared
  module _ (s : Reclaiming) (w : IsReclaimer x h s) (all : s.senders ≤ s.scanned)
      (less : s.cleared < s.width) where
    abbrev wiped : ℕ → ℕ
    wiped = put (s.row + s.cleared) 0 h.words

    beside_wiped : Beside (s.row + s.cleared) h.words wiped
    beside_wiped = put_beside (s.row + s.cleared) 0 h.words

    same_stage_wiped : wiped (stage_at x) ≡ h.words (stage_at x)
    same_stage_wiped = let r = w.row in beside_wiped (stage_at x) (λ e. omega arith)

    wipes : IsReclaimer x
        (record h { words = wiped; reclaimer = Some record s { cleared = s.cleared + 1 } })
        (record s { cleared = s.cleared + 1 })
    wipes = record {
      tenure = w.tenure;
      held = same_stage_wiped ∙ w.held;
      used = w.used;
      past = w.past;
      senders = w.senders;
      presences = w.presences;
      row = w.row;
      width = w.width;
      passed = w.passed;
      all_first = λ some. let a = w.senders in omega arith;
      within = let a = w.width in omega arith;
      cleared = λ j l. elim (cases_eq j s.cleared) [
        | inl e ↦ ap wiped (let r = w.row in omega arith) ∙ put_here (s.row + s.cleared) 0 h.words
        | inr ne ↦
            beside_wiped (row_of x (w.tenure + 1) + j) (λ e. let r = w.row in ne (omega arith))
            ∙ w.cleared j (omega arith)
      ];
    }

    keeps_wiped : Keeps x
        (record h { words = wiped; reclaimer = Some record s { cleared = s.cleared + 1 } }) T
    keeps_wiped = record {
      shows =
          λ q l. beside_wiped (presence_at x q) (λ e. let r = w.row in omega arith) ∙ k.shows q l;
      tells = k.tells;
      stood = λ q u st.
          subst (λ z. (u ≤ z / 2) × (z / 2 < u + x.rows)) (sym same_stage_wiped) (k.stood q u st);
      below = k.below;
      reclaims = λ z e. subst (IsReclaimer x
          (record h { words = wiped; reclaimer = Some record s { cleared = s.cleared + 1 } }))
          (same_Some _ _ e) wipes;
      unused = λ u j a b c. absurd (let late = subst (λ z. z / 2 < u) same_stage_wiped a in
          let z = w.held in let y = w.used in omega arith);
    }

-- ---- a step of a reclamation
-- it loads a presence
pub record Scans (s : Reclaiming) (o : Op) : Type 0 where
  pub few : s.scanned < s.senders
  pub loads : o ≡ Load record { 0 = s.presences + s.scanned }
  pub fed : (got : ℕ)
      → reclaim_fed s got ≡ (if got == 1 + s.past then s else record s { scanned = s.scanned + 1 })
  pub behind : (got : ℕ)
      → behind_of s got
      ≡ (if got == 1 + s.past then Some record { tenure = s.past; sender = s.scanned } else None)

-- it clears a word
pub record Wipes (s : Reclaiming) (o : Op) : Type 0 where
  pub all : s.senders ≤ s.scanned
  pub less : s.cleared < s.width
  pub stores : o ≡ Store record { 0 = s.row + s.cleared } 0
  pub fed : (got : ℕ) → reclaim_fed s got ≡ record s { cleared = s.cleared + 1 }

pub reclaim_does : (s : Reclaiming) (o : Op) → reclaim_op s ≡ Some o → Scans s o ⊎ Wipes s o
reclaim_does s o = elim (lt_tells s.scanned s.senders) [
  | inl l ↦ λ e. inl record {
    few = l.1;
    loads = same_Some _ _ (sym e
        ∙ ap (λ z.
        if z then Some (Load record { 0 = s.presences + s.scanned })
        else (if nat_lt s.cleared s.width then Some (Store record { 0 = s.row + s.cleared } 0)
        else None)) l.0);
    fed = λ got. ap (λ z.
        if z then (if got == 1 + s.past then s else record s { scanned = s.scanned + 1 })
        else (if nat_lt s.cleared s.width then record s { cleared = s.cleared + 1 } else s)) l.0;
    behind = λ got. ap (λ z.
        if z && (got == 1 + s.past) then Some record { tenure = s.past; sender = s.scanned }
        else None) l.0;
  }
  | inr m ↦ elim (lt_tells s.cleared s.width) [
    | inl l ↦ λ e. inr record {
      all = m.1;
      less = l.1;
      stores = same_Some _ _ (sym e
          ∙ ap (λ z.
          if z then Some (Load record { 0 = s.presences + s.scanned })
          else (if nat_lt s.cleared s.width then Some (Store record { 0 = s.row + s.cleared } 0)
          else None)) m.0
          ∙ ap (λ z. if z then Some (Store record { 0 = s.row + s.cleared } 0) else None) l.0);
      fed = λ got. ap (λ z.
          if z then (if got == 1 + s.past then s else record s { scanned = s.scanned + 1 })
          else (if nat_lt s.cleared s.width then record s { cleared = s.cleared + 1 } else s)) m.0
          ∙ ap (λ z. if z then record s { cleared = s.cleared + 1 } else s) l.0;
    }
    | inr n ↦ λ e. absurd (none_is_not o
        (sym
        (ap (λ z.
        if z then Some (Load record { 0 = s.presences + s.scanned })
        else (if nat_lt s.cleared s.width then Some (Store record { 0 = s.row + s.cleared } 0)
        else None)) m.0
        ∙ ap (λ z. if z then Some (Store record { 0 = s.row + s.cleared } 0) else None) n.0) ∙ e))
  ]
]

module _ (x : ReclamationSizes) (two : 2 ≤ x.rows) where
  keeps_reclaimed : (h : Reclamation) (T : Trails) (k : Keeps x h T) (s : Reclaiming) (o : Op)
      → h.reclaimer ≡ Some s → reclaim_op s ≡ Some o
      → Keeps x
      (record h { words = words_after h o; reclaimer = Some (reclaim_fed s (number_of_step h o)) })
      T
  keeps_reclaimed h T k s o is due = elim (reclaim_does s o due) [
    | inl a ↦ subst (λ z. Keeps x (record h {
      words = words_after h z;
      reclaimer = Some (reclaim_fed s (number_of_step h z));
    }) T) (sym a.loads)
        (subst (λ z. Keeps x (record h {
          words = z;
          reclaimer = Some (reclaim_fed s (h.words (s.presences + s.scanned)));
        }) T) (sym (put_same (s.presences + s.scanned) h.words)) (scanned a))
    | inr c ↦ subst (λ z. Keeps x (record h {
      words = words_after h z;
      reclaimer = Some (reclaim_fed s (number_of_step h z));
    }) T) (sym c.stores)
        (subst (λ z.
        Keeps x (record h { words = put (s.row + s.cleared) 0 h.words; reclaimer = Some z }) T)
        (sym (c.fed (h.words (s.row + s.cleared))))
        (keeps_wiped x two h T k s (k.reclaims s is) c.all c.less))
  ]
    where
      scanned : Scans s o
          → Keeps x
          (record h { reclaimer = Some (reclaim_fed s (h.words (s.presences + s.scanned))) }) T
      scanned a =
          let got = h.words (s.presences + s.scanned) in
          subst (λ z. Keeps x (record h { reclaimer = Some z }) T) (sym (a.fed got))
          (elim (eqb_tells got (1 + s.past)) [
            | inl e ↦ subst (λ z. Keeps x (record h {
              reclaimer = Some (if z then s else record s { scanned = s.scanned + 1 });
            }) T) (sym e.0) (keeps_reclaimer x two h T k s (k.reclaims s is))
            | inr ne ↦ subst (λ z. Keeps x (record h {
              reclaimer = Some (if z then s else record s { scanned = s.scanned + 1 });
            }) T) (sym ne.0)
                (keeps_reclaimer x two h T k (record s { scanned = s.scanned + 1 })
                (passes x two h T k s (k.reclaims s is) a.few ne.1))
          ])

  -- a word of a row is none elsewhere
  pub no_row : (t j place : ℕ) → j < x.width → IsElsewhere x place → row_of x t + j ≢ place
  no_row t j place low far e =
      let below = mod_below t x.rows (omega arith) in
      let fits = row_fits (t % x.rows) x.width x.rows x.width below (omega arith) in
      elim far [ inl l ↦ omega arith | inr m ↦ omega arith ]

  no_presence : (p place : ℕ) → p < x.senders → IsElsewhere x place → presence_at x p ≢ place
  no_presence p place few far e = elim far [ inl l ↦ omega arith | inr m ↦ omega arith ]

  pub no_stage : (place : ℕ) → IsElsewhere x place → stage_at x ≢ place
  no_stage place far e = elim far [ inl l ↦ omega arith | inr m ↦ omega arith ]

  keeps_stored : (h : Reclamation) (T : Trails) (k : Keeps x h T) (place number : ℕ)
      → IsElsewhere x place → Keeps x (record h { words = put place number h.words }) T
  keeps_stored h T k place number far =
      let beside = put_beside place number h.words in
      let stage = beside (stage_at x) (no_stage place far) in record {
        shows = λ q l. beside (presence_at x q) (no_presence q place l far) ∙ k.shows q l;
        tells = k.tells;
        stood =
            λ q u s. subst (λ z. (u ≤ z / 2) × (z / 2 < u + x.rows)) (sym stage) (k.stood q u s);
        below = k.below;
        reclaims = λ s e. let o = k.reclaims s e in record {
          tenure = o.tenure;
          held = stage ∙ o.held;
          used = o.used;
          past = o.past;
          senders = o.senders;
          presences = o.presences;
          row = o.row;
          width = o.width;
          passed = o.passed;
          all_first = o.all_first;
          within = o.within;
          cleared = λ j l.
              let w = o.within in
              beside (row_of x (o.tenure + 1) + j) (no_row (o.tenure + 1) j place (omega arith) far)
              ∙ o.cleared j l;
        };
        unused = λ u j a b c.
            let late = subst (λ z. z / 2 < u) stage a in
            beside (row_of x u + j) (no_row u j place c far) ∙ k.unused u j late b c;
      }

  pub moves_keep : (h h' : Reclamation) (T T' : Trails) → Moves x h T h' T' → Keeps x h T
      → Keeps x h' T'
  moves_keep h h' T T' (Begins g U p t below at) k = keeps_begun x two g U k p t below at
  moves_keep h h' T T' (Pins g U p o due) k = keeps_pin_stepped x two g U k p (g.pins p) o refl due
  moves_keep h h' T T' (Parts g U p t at) k = keeps_parted x two g U k p t at
  moves_keep h h' T T' (Takes g U p t at home) k = keeps_taken x two g U k t home
  moves_keep h h' T T' (Reclaims g U s o is due) k = keeps_reclaimed g U k s o is due
  moves_keep h h' T T' (GivesBack g U t held ready) k = keeps_back x two g U k t held ready
  moves_keep h h' T T' (Stores g U place number far) k = keeps_stored g U k place number far

  pub keeps : (h : Reclamation) (T : Trails) → Reached x h T → Keeps x h T
  keeps h T New = keeps_new x
  keeps h T (Then g g' U U' r m) = moves_keep g g' U U' m (keeps g U r)
  keeps h T (Works g U p t place number r at low) =
      keeps_worked x two g U (keeps g U r) p t place number at low
