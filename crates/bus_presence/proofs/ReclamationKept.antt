-- What each reclamation keeps; and that steps of pins keep it, and what is stored in the row of a
-- tenure in which a sender stands.
use Rattle.std.proofs.Common.{◌≡◌, ◌≢◌, ◌⊎◌, inl, inr, ℕ, suc, ◌+◌, ◌-◌, ◌*◌, ◌/◌, ◌%◌, ◌<◌, ◌≤◌}
use Rattle.std.proofs.Common.{true, false, Some, [], ◌∷◌, ◌++◌, nat_lt, if◌then◌else◌, arith, refl}
use Rattle.std.proofs.Common.{sym, ◌∙◌, ap, subst}
use mathlib.Core.Path.{fun_ext}
use Rattle.std.proofs.lemmas.Bool.{cases_eq, cases_lt}
use Rattle.std.proofs.lemmas.Bool.Decides.{eqb_tells, leb_tells}
use Rattle.std.proofs.lemmas.Nat.{div-add-mod', row_fits, mul-le}
use Rattle.std.proofs.lemmas.Option.{same_Some}
use Rattle.bus_register.specs.declared.registers.Op.{Op}
use Rattle.bus_register.specs.declared.registers.Op.TheVariants.{Load, Store}
use Rattle.bus_register.specs.Tables.{Beside, put}
use Rattle.bus_register.specs.Private.TableLaws.{put_here, put_beside}
use Rattle.bus_presence.specs.declared.pins.Pin.{Pin}
use Rattle.bus_presence.specs.declared.pins.Pin.TheVariants.{Away, Announcing, Validating, Pinned}
use Rattle.bus_presence.specs.declared.pins.Pin.TheVariants.{Unpinning, Invalidated}
use Rattle.bus_presence.specs.Pins.{number_shown, step_at, pin_fed}
use Rattle.bus_presence.specs.Reclaimers.{Reclaiming}
use Rattle.bus_presence.specs.Reclamation.{ReclamationSizes, Reclamation, Entry, Trails, stage_at}
use Rattle.bus_presence.specs.Reclamation.{presence_at, row_of, tenure_of, new_reclamation}
use Rattle.bus_presence.specs.Reclamation.{no_trails, trails_with_entry, number_of_step}
use Rattle.bus_presence.specs.Reclamation.{words_after}
use Rattle.bus_presence.proofs.PinTrails.{none_is_not, HasStood, Tells, fed_shows, fed_stood}
use Rattle.bus_presence.proofs.PinTrails.{tells_none, tells_begun, tells_parted, tells_entered}
use Rattle.bus_presence.proofs.PinTrails.{tells_looked, tells_withdrawn}

-- ---- rows
-- of so many tenures one after another no two use one row
pub one_of_row : (m t u : ℕ) → t ≤ u → u < t + m → t % m ≡ u % m → t ≡ u
one_of_row m t u low high same = elim (cases_lt (t / m) (u / m)) [
  | inl less ↦ absurd (omega (
    arith,
    div-add-mod' t m,
    div-add-mod' u m,
    row_fits (t / m) m (u / m) m less (omega arith),
  ))
  | inr more ↦ omega (
    arith,
    div-add-mod' t m,
    div-add-mod' u m,
    mul-le (u / m) m (t / m) m more (omega arith),
  )
]

-- words of two rows are different words
pub rows_apart : (x : ReclamationSizes) (t u j k : ℕ) → t % x.rows ≢ u % x.rows → j < x.width
    → k < x.width → row_of x t + j ≢ row_of x u + k
rows_apart x t u j k ne low high same = elim (cases_lt (t % x.rows) (u % x.rows)) [
  | inl less ↦ omega (arith, row_fits (t % x.rows) x.width (u % x.rows) x.width less (omega arith))
  | inr more ↦ omega (
    arith,
    row_fits (u % x.rows) x.width (t % x.rows) x.width (omega arith) (omega arith),
  )
]

-- ---- what each reclamation keeps
grown_here : (T : Trails) (p : ℕ) (d : Entry) → trails_with_entry T p d p ≡ T p ++ d ∷ []
grown_here T p d = elim (eqb_tells p p) [
  | inl h ↦ ap (λ z. if z then T p ++ d ∷ [] else T p) h.0
  | inr h ↦ absurd (h.1 refl)
]

grown_beside : (T : Trails) (p : ℕ) (d : Entry) → Beside p T (trails_with_entry T p d)
grown_beside T p d q ne = elim (eqb_tells q p) [
  | inl h ↦ absurd (ne h.1)
  | inr h ↦ ap (λ z. if z then T q ++ d ∷ [] else T q) h.0
]

-- A holder's stage is odd. Of those whose presences have passed nobody stands in the past tenure of
-- the row. No word is cleared before all have passed.
pub record IsReclaimer (x : ReclamationSizes) (h : Reclamation) (s : Reclaiming) : Type 0 where
  pub tenure : ℕ
  pub held : h.words (stage_at x) ≡ 2 * tenure + 1
  pub used : x.rows ≤ tenure + 1
  pub past : s.past ≡ tenure + 1 - x.rows
  pub senders : s.senders ≡ x.senders
  pub presences : s.presences ≡ presence_at x 0
  pub row : s.row ≡ row_of x (tenure + 1)
  pub width : s.width ≡ x.width
  pub passed : (p t : ℕ) → p < s.scanned → HasStood (h.pins p) t → tenure + 1 < t + x.rows
  pub all_first : 0 < s.cleared → x.senders ≤ s.scanned
  pub within : s.cleared ≤ x.width
  pub cleared : (place : ℕ) → place < s.cleared → h.words (row_of x (tenure + 1) + place) ≡ 0

pub record Keeps (x : ReclamationSizes) (h : Reclamation) (T : Trails) : Type 0 where
  pub shows : (p : ℕ) → p < x.senders → h.words (presence_at x p) ≡ number_shown (h.pins p)
  pub tells : (p : ℕ) → Tells x p (T p) (h.pins p)
  pub stood : (p t : ℕ) → HasStood (h.pins p) t → (t ≤ tenure_of x h) × (tenure_of x h < t + x.rows)
  pub below : (p : ℕ) → (h.pins p ≡ Away) ⊎ (p < x.senders)
  pub reclaims : (s : Reclaiming) → h.reclaimer ≡ Some s → IsReclaimer x h s
  -- rows that no tenure has used yet
  pub unused : (t place : ℕ) → tenure_of x h < t → t < x.rows → place < x.width
      → h.words (row_of x t + place) ≡ 0

pub keeps_new : (x : ReclamationSizes) → Keeps x new_reclamation no_trails
keeps_new x = record {
  shows = λ p l. refl;
  tells = λ p. tells_none x p;
  stood = λ p t h. absurd h;
  below = λ p. inl refl;
  reclaims = λ s e. absurd (none_is_not s e);
  unused = λ t place a b c. refl;
}

-- one pin has gone on, and words of the rows and the stage are as they were
module _ (x : ReclamationSizes) (two : 2 ≤ x.rows) (h : Reclamation) (T : Trails) (k : Keeps x h T)
    (p : ℕ) (v : Pin) (words : ℕ → ℕ)
    (shows_v : p < x.senders → words (presence_at x p) ≡ number_shown v)
    (beside : Beside (presence_at x p) h.words words)
    (T' : Trails) (tells_v : Tells x p (T' p) v) (others : Beside p T T')
    (from : (t : ℕ) → HasStood v t → HasStood (h.pins p) t ⊎ (t ≡ tenure_of x h))
    (below : p < x.senders) where
  abbrev reclamation : Reclamation
  reclamation = record h { words = words; pins = put p v h.pins }

  here : put p v h.pins p ≡ v
  here = put_here p v h.pins

  there : Beside p h.pins (put p v h.pins)
  there = put_beside p v h.pins

  same_stage : words (stage_at x) ≡ h.words (stage_at x)
  same_stage = beside (stage_at x) (λ e. omega arith)

  same_tenure_of : tenure_of x reclamation ≡ tenure_of x h
  same_tenure_of = ap (λ z. z / 2) same_stage

  same_rows : (t place : ℕ) → words (row_of x t + place) ≡ h.words (row_of x t + place)
  same_rows t place = beside (row_of x t + place) (λ e. omega arith)

  stood_now : (q t : ℕ) → HasStood (reclamation.pins q) t
      → HasStood (h.pins q) t ⊎ (t ≡ tenure_of x h)
  stood_now q t s = elim (cases_eq q p) [
    | inl e ↦ subst (λ z. HasStood (h.pins z) t ⊎ (t ≡ tenure_of x h)) (sym e)
        (from t (subst (λ z. HasStood z t) (ap reclamation.pins e ∙ here) s))
    | inr ne ↦ inl (subst (λ z. HasStood z t) (there q ne) s)
  ]

  keeps_pin : Keeps x reclamation T'
  keeps_pin = record {
    shows = λ q l. elim (cases_eq q p) [
      | inl e ↦ subst (λ z. words (presence_at x z) ≡ number_shown (put p v h.pins z)) (sym e)
          (shows_v below ∙ sym (ap number_shown here))
      | inr ne ↦
          beside (presence_at x q) (λ e. ne (omega arith)) ∙ k.shows q l
          ∙ sym (ap number_shown (there q ne))
    ];
    tells = λ q. elim (cases_eq q p) [
      | inl e ↦ subst (λ z. Tells x z (T' z) (put p v h.pins z)) (sym e)
          (subst (Tells x p (T' p)) (sym here) tells_v)
      | inr ne ↦ subst (λ z. Tells x q z (put p v h.pins q)) (sym (others q ne))
          (subst (Tells x q (T q)) (sym (there q ne)) (k.tells q))
    ];
    stood = λ q t s. elim (stood_now q t s) [
      | inl old ↦ subst (λ z. (t ≤ z) × (z < t + x.rows)) (sym same_tenure_of) (k.stood q t old)
      | inr e ↦
          subst (λ z. (t ≤ z) × (z < t + x.rows)) (sym same_tenure_of) (omega arith, omega arith)
    ];
    below = λ q. elim (cases_eq q p) [
      | inl e ↦ inr (omega arith)
      | inr ne ↦ elim (k.below q) [ inl a ↦ inl (there q ne ∙ a) | inr b ↦ inr b ]
    ];
    reclaims = λ s e. let o = k.reclaims s e in record {
      tenure = o.tenure;
      held = same_stage ∙ o.held;
      used = o.used;
      past = o.past;
      senders = o.senders;
      presences = o.presences;
      row = o.row;
      width = o.width;
      passed = λ q t low st. elim (stood_now q t st) [
        | inl old ↦ o.passed q t low old
        | inr now ↦ (let held = o.held in omega arith)
      ];
      all_first = o.all_first;
      within = o.within;
      cleared = λ place l. same_rows (o.tenure + 1) place ∙ o.cleared place l;
    };
    unused = λ t place a b c.
        same_rows t place ∙ k.unused t place (subst (λ z. z < t) same_tenure_of a) b c;
  }

-- a word that is stored as it was
pub put_same : (r : ℕ) (words : ℕ → ℕ) → put r (words r) words ≡ words
put_same r words = fun_ext (λ q. elim (cases_eq q r) [
  | inl e ↦ ap (put r (words r) words) e ∙ put_here r (words r) words ∙ sym (ap words e)
  | inr ne ↦ put_beside r (words r) words q ne
])

pub lt_tells : (a b : ℕ) → ((nat_lt a b ≡ true) × (a < b)) ⊎ ((nat_lt a b ≡ false) × (b ≤ a))
lt_tells a b = elim (leb_tells (suc a) b) [
  | inl h ↦ inl (h.0, h.1)
  | inr h ↦ inr (h.0, let z = h.1 in omega arith)
]

module _ (x : ReclamationSizes) (two : 2 ≤ x.rows) (h : Reclamation) (T : Trails)
    (k : Keeps x h T) where
  pub visitor : (p : ℕ) → (h.pins p ≡ Away → ⊥) → p < x.senders
  visitor p there = elim (k.below p) [ inl a ↦ absurd (there a) | inr b ↦ b ]

  pub stander : (p t : ℕ) → HasStood (h.pins p) t → p < x.senders
  stander p t s = visitor p (λ a. subst (λ z. HasStood z t) a s)

  pub keeps_begun : (p t : ℕ) → p < x.senders → h.pins p ≡ Away
      → Keeps x (record h { pins = put p (Announcing t) h.pins }) T
  keeps_begun p t below at =
      keeps_pin x two h T k p (Announcing t) h.words (λ l. k.shows p l ∙ ap number_shown at)
      (λ q ne. refl) T (tells_begun x p (T p) t (subst (Tells x p (T p)) at (k.tells p)))
      (λ q ne. refl) (λ u s. absurd s) below

  pub keeps_parted : (p t : ℕ) → h.pins p ≡ Pinned t
      → Keeps x (record h { pins = put p (Unpinning t) h.pins }) T
  keeps_parted p t at =
      keeps_pin x two h T k p (Unpinning t) h.words (λ l. k.shows p l ∙ ap number_shown at)
      (λ q ne. refl) T (tells_parted x p (T p) t (subst (Tells x p (T p)) at (k.tells p)))
      (λ q ne. refl)
      (λ u s. inl (subst (λ z. HasStood z u) (sym at) s))
      (stander p t (subst (λ z. HasStood z t) (sym at) refl))

  -- the reclamation after a pin's step, where the pin was this one
  abbrev pin_stepped : ℕ → Pin → Op → Reclamation
  pin_stepped p v o = record h {
    words = words_after h o;
    pins = put p (pin_fed v (number_of_step h o)) h.pins;
  }

  abbrev told : ℕ → Op → Trails
  told p o = trails_with_entry T p record { op = o; got = number_of_step h o }

  keeps_told : (p : ℕ) (v : Pin) (o : Op) → (h.pins p ≡ Away → ⊥)
      → (p < x.senders
      → words_after h o (presence_at x p) ≡ number_shown (pin_fed v (number_of_step h o)))
      → Beside (presence_at x p) h.words (words_after h o)
      → Tells x p (T p ++ record { op = o; got = number_of_step h o } ∷ [])
      (pin_fed v (number_of_step h o))
      → ((t : ℕ) → HasStood (pin_fed v (number_of_step h o)) t
      → HasStood (h.pins p) t ⊎ (t ≡ tenure_of x h)) → Keeps x (pin_stepped p v o) (told p o)
  keeps_told p v o there shows_v beside tells from =
      keeps_pin x two h T k p (pin_fed v (number_of_step h o)) (words_after h o) shows_v beside
      (told p o) (subst (λ z. Tells x p z (pin_fed v (number_of_step h o)))
      (sym (grown_here T p record { op = o; got = number_of_step h o })) tells)
      (grown_beside T p record { op = o; got = number_of_step h o }) from (visitor p there)

  -- its presence is cleared
  keeps_away : (p : ℕ) (v : Pin) → (h.pins p ≡ Away → ⊥) → ((got : ℕ) → pin_fed v got ≡ Away)
      → Keeps x (pin_stepped p v (Store record { 0 = presence_at x p } 0))
      (told p (Store record { 0 = presence_at x p } 0))
  keeps_away p v there leaves = let o : Op = Store record { 0 = presence_at x p } 0 in
      keeps_told p v o there (λ l.
      put_here (presence_at x p) 0 h.words ∙ sym (ap number_shown (leaves (number_of_step h o))))
      (put_beside (presence_at x p) 0 h.words)
      (subst (Tells x p (T p ++ record { op = o; got = number_of_step h o } ∷ []))
      (sym (leaves (number_of_step h o))) (tells_withdrawn x p (T p) (number_of_step h o)))
      (λ u s. absurd (subst (λ z. HasStood z u) (leaves (number_of_step h o)) s))

  pub keeps_pin_stepped : (p : ℕ) (v : Pin) (o : Op) → h.pins p ≡ v
      → step_at v (presence_at x p) (stage_at x) ≡ Some o → Keeps x (pin_stepped p v o) (told p o)
  keeps_pin_stepped p Away o at is = absurd (none_is_not o is)
  keeps_pin_stepped p (Announcing t) o at is =
      subst (λ z. Keeps x (pin_stepped p (Announcing t) z) (told p z)) (same_Some _ _ is)
      (let e : Op = Store record { 0 = presence_at x p } (1 + t) in
      keeps_told p (Announcing t) e (λ a. not_away (sym at ∙ a))
      (λ l. put_here (presence_at x p) (1 + t) h.words)
      (put_beside (presence_at x p) (1 + t) h.words)
      (tells_entered x p (T p) t (number_of_step h e) (subst (Tells x p (T p)) at (k.tells p)))
      (λ u s. absurd s))
    where
      not_away : Announcing t ≡ Away → ⊥
      not_away e = cc
  keeps_pin_stepped p (Validating t) o at is =
      subst (λ z. Keeps x (pin_stepped p (Validating t) z) (told p z)) (same_Some _ _ is)
      (let e : Op = Load record { 0 = (stage_at x) } in let same = put_same (stage_at x) h.words in
      keeps_told p (Validating t) e (λ a. not_away (sym at ∙ a))
      (λ l.
      ap (λ z. z (presence_at x p)) same ∙ k.shows p l ∙ ap number_shown at
      ∙ sym (fed_shows t (h.words (stage_at x)))) (λ q ne. ap (λ z. z q) same)
      (tells_looked x p (T p) t (h.words (stage_at x)) (subst (Tells x p (T p)) at (k.tells p)))
      (λ u s. inr (fed_stood t (h.words (stage_at x)) u s)))
    where
      not_away : Validating t ≡ Away → ⊥
      not_away e = cc
  keeps_pin_stepped p (Pinned t) o at is = absurd (none_is_not o is)
  keeps_pin_stepped p (Unpinning t) o at is = subst
      (λ z. Keeps x (pin_stepped p (Unpinning t) z) (told p z)) (same_Some _ _ is)
      (keeps_away p (Unpinning t) (λ a. not_away (sym at ∙ a)) (λ got. refl))
    where
      not_away : Unpinning t ≡ Away → ⊥
      not_away e = cc
  keeps_pin_stepped p (Invalidated t) o at is = subst
      (λ z. Keeps x (pin_stepped p (Invalidated t) z) (told p z)) (same_Some _ _ is)
      (keeps_away p (Invalidated t) (λ a. not_away (sym at ∙ a)) (λ got. refl))
    where
      not_away : Invalidated t ≡ Away → ⊥
      not_away e = cc

  -- a number is stored in the row of a tenure in which a sender stands
  module _ (p t place number : ℕ) (at : h.pins p ≡ Pinned t) (low : place < x.width) where
    in_time : (t ≤ tenure_of x h) × (tenure_of x h < t + x.rows)
    in_time = k.stood p t (subst (λ z. HasStood z t) (sym at) refl)

    other_row : (u j : ℕ) → t ≤ u → u < t + x.rows → t ≢ u → j < x.width
        → row_of x u + j ≢ row_of x t + place
    other_row u j less more ne l e =
        rows_apart x t u place j (λ same. ne (one_of_row x.rows t u less more same)) low l (sym e)

    abbrev worked : ℕ → ℕ
    worked = put (row_of x t + place) number h.words

    pub keeps_worked : Keeps x (record h { words = worked }) T
    keeps_worked =
        let stage =
        put_beside (row_of x t + place) number h.words (stage_at x) (λ e. omega arith) in
        record {
          shows = λ q l.
              put_beside (row_of x t + place) number h.words (presence_at x q) (λ e. omega arith)
              ∙ k.shows q l;
          tells = k.tells;
          stood =
              λ q u s. subst (λ z. (u ≤ z / 2) × (z / 2 < u + x.rows)) (sym stage) (k.stood q u s);
          below = k.below;
          reclaims = λ s e. let o = k.reclaims s e in record {
            tenure = o.tenure;
            held = stage ∙ o.held;
            used = o.used;
            past = o.past;
            senders = o.senders;
            presences = o.presences;
            row = o.row;
            width = o.width;
            passed = o.passed;
            all_first = o.all_first;
            within = o.within;
            cleared = λ j l.
                let held = o.held in
                let all = o.all_first (omega arith) in
                let few = stander p t (subst (λ z. HasStood z t) (sym at) refl) in
                let later = o.passed p t (omega arith) (subst (λ z. HasStood z t) (sym at) refl) in
                let a = in_time.0 in let w = o.within in
                put_beside (row_of x t + place) number h.words (row_of x (o.tenure + 1) + j)
                (other_row (o.tenure + 1) j (omega arith) later (λ e. omega arith) (omega arith))
                ∙ o.cleared j l;
          };
          unused = λ u j a b c. let late = subst (λ z. z / 2 < u) stage a in let i = in_time.0 in
              put_beside (row_of x t + place) number h.words (row_of x u + j)
              (other_row u j (omega arith) (omega arith) (λ e. omega arith) c)
              ∙ k.unused u j late b c;
        }
