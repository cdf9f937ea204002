-- Every reclamation that is reached is safe.
use Rattle.std.proofs.Common.{◌≡◌, ◌≢◌, ◌⊎◌, inl, inr, ℕ, ◌+◌, ◌*◌, ◌%◌, ◌<◌, ◌≤◌, Option, Some}
use Rattle.std.proofs.Common.{None, List, [], ◌∷◌, slice_get, nat_le, ◌&&◌, ◌==◌, if◌then◌else◌}
use Rattle.std.proofs.Common.{arith, refl, sym, ◌∙◌, ap, subst}
use Rattle.std.proofs.lemmas.Bool.{cases_eq, cases_lt, and_parts}
use Rattle.std.proofs.lemmas.Bool.Decides.{eqb_tells}
use Rattle.std.proofs.Math.Nat.{add-mod_right}
use Rattle.std.proofs.lemmas.Option.{same_Some, slice_get_past}
use Rattle.bus_register.specs.declared.registers.Op.{Op}
use Rattle.bus_register.specs.declared.registers.Op.TheVariants.{Load, Store}
use Rattle.bus_register.specs.Words.{register}
use Rattle.bus_presence.specs.declared.pins.Pin.{Pin}
use Rattle.bus_presence.specs.declared.pins.Pin.TheVariants.{Away, Announcing, Validating, Pinned}
use Rattle.bus_presence.specs.declared.pins.Pin.TheVariants.{Unpinning, Invalidated}
use Rattle.bus_presence.specs.declared.reclaimers.Behind.{Behind}
use Rattle.bus_presence.specs.Pins.{number_shown}
use Rattle.bus_presence.specs.Reclaimers.{Reclaiming, reclaim_op, behind_of}
use Rattle.bus_presence.specs.Reclamation.{ReclamationSizes, Reclamation, Entry, Trails, stage_at}
use Rattle.bus_presence.specs.Reclamation.{presence_at, row_of, tenure_of, IsReady, number_of_step}
use Rattle.bus_presence.specs.Reclamation.{Reached}
use Rattle.bus_presence.specs.Standing.{Stands, IsSafe}
use Rattle.bus_presence.specs.Refused.{SafetyRefuses, shows_it, sees_stage, has_come}
use Rattle.bus_presence.proofs.PinTrails.{none_is_not, HasStood, load_no_store, looking}
use Rattle.bus_presence.proofs.PinTrails.{withdrawing}
use Rattle.bus_presence.proofs.ReclamationKept.{one_of_row, Keeps, lt_tells, stander}
use Rattle.bus_presence.proofs.ReclaimerLaws.{le_told, Wipes, reclaim_does, keeps}

-- ---- what follows
module _ (x : ReclamationSizes) (two : 2 ≤ x.rows) (h : Reclamation) (T : Trails)
    (k : Keeps x h T) where
  window : (p t : ℕ) → Stands x p (T p) t → (t ≤ tenure_of x h) × (tenure_of x h < t + x.rows)
  window p t s = k.stood p t ((k.tells p).stood t s)

  held_tenure : (s : Reclaiming) (is : h.reclaimer ≡ Some s)
      → tenure_of x h ≡ (k.reclaims s is).tenure
  held_tenure s is = let e = (k.reclaims s is).held in omega arith

  stood_is : (v : Pin) (t : ℕ) → HasStood v t → (v ≡ Pinned t) ⊎ (v ≡ Unpinning t)
  stood_is Away t e = absurd e
  stood_is (Announcing u) t e = absurd e
  stood_is (Validating u) t e = absurd e
  stood_is (Pinned u) t e = inl (ap Pinned e)
  stood_is (Unpinning u) t e = inr (ap Unpinning e)
  stood_is (Invalidated u) t e = absurd e

  cleared : (s : Reclaiming) (r number : ℕ) (is : h.reclaimer ≡ Some s)
      → reclaim_op s ≡ Some (Store record { 0 = r } number)
      → (place : ℕ) × (r ≡ row_of x (tenure_of x h + 1) + place) × (place < x.width) × (number ≡ 0)
      × (x.senders ≤ s.scanned)
  cleared s r number is due = elim (reclaim_does s _ due) [
    | inl a ↦ absurd (load_no_store (s.presences + s.scanned) r number (sym a.loads))
    | inr c ↦
        let w = k.reclaims s is in
        let e = stores_is c.stores in
        let less = c.less in let all = c.all in let width = w.width in let n = w.senders in (
          s.cleared,
          e.0
              ∙ ap (λ z. z + s.cleared)
              (w.row ∙ ap (λ z. row_of x (z + 1)) (sym (held_tenure s is))),
          omega arith,
          e.1,
          omega arith,
        )
  ]
    where
      stores_is : Store record { 0 = r } number ≡ Store record { 0 = s.row + s.cleared } 0
          → (r ≡ s.row + s.cleared) × (number ≡ 0)
      stores_is e = (ap register e, cc)

  waits : (s : Reclaiming) (o : Op) (b : Behind) (is : h.reclaimer ≡ Some s) → reclaim_op s ≡ Some o
      → behind_of s (number_of_step h o) ≡ Some b
      → (o ≡ Load record { 0 = presence_at x b.sender }) × (b.sender < x.senders)
      × (number_of_step h o ≡ 1 + b.tenure) × (b.tenure + x.rows ≡ tenure_of x h + 1)
  waits s o b is due =
      let got = number_of_step h o in let w = k.reclaims s is in elim (reclaim_does s o due) [
        | inr c ↦ λ e. absurd (none_is_not b (sym (passes_by c got) ∙ e))
        | inl a ↦ elim (eqb_tells got (1 + s.past)) [
          | inr ne ↦ λ e. absurd (none_is_not b
              (sym (a.behind got
              ∙ ap (λ z. if z then Some record { tenure = s.past; sender = s.scanned } else None)
              ne.0) ∙ e))
          | inl q ↦ λ e.
              let named = same_Some _ _
              (sym (a.behind got
              ∙ ap (λ z. if z then Some record { tenure = s.past; sender = s.scanned } else None)
              q.0) ∙ e) in
              let n = w.senders in
              let past = w.past in
              let used = w.used in
              let now = held_tenure s is in let few = a.few in let at = w.presences in
              let place : s.presences + s.scanned ≡ presence_at x s.scanned = omega arith in
              subst (λ (z : Behind).
              (o ≡ Load record { 0 = presence_at x z.sender }) × (z.sender < x.senders)
              × (number_of_step h o ≡ 1 + z.tenure) × (z.tenure + x.rows ≡ tenure_of x h + 1)) named
              (a.loads ∙ ap (λ z. Load record { 0 = z }) place, omega arith, q.1, omega arith)
        ]
      ]
    where
      passes_by : Wipes s o → (got : ℕ) → behind_of s got ≡ None
      passes_by c got = elim (lt_tells s.scanned s.senders) [
        | inl l ↦ absurd (let all = c.all in let less = l.1 in omega arith)
        | inr m ↦ ap (λ z.
            if z && (got == 1 + s.past) then Some record { tenure = s.past; sender = s.scanned }
            else None) m.0
      ]

  cleaned : (t : ℕ) (o : Option Reclaiming) → h.words (stage_at x) ≡ 2 * t + 1 → h.reclaimer ≡ o
      → IsReady x t o → (place : ℕ) → place < x.width → h.words (row_of x (t + 1) + place) ≡ 0
  cleaned t None held is ready place low = k.unused (t + 1) place (omega arith) ready low
  cleaned t (Some s) held is ready place low =
      let w = k.reclaims s is in let z = w.held in let width = w.width in
      let all : s.width ≤ s.cleared = le_told s.width s.cleared
      (and_parts (nat_le s.senders s.scanned) (nat_le s.width s.cleared) ready).1 in
      let same : w.tenure ≡ t = omega arith in
      ap (λ z. h.words (row_of x (z + 1) + place)) (sym same) ∙ w.cleared place (omega arith)

  pub safe : IsSafe x h T
  safe = record {
    shows = k.shows;
    stands = λ p t at. (k.tells p).came t (subst (λ z. HasStood z t) (sym at) refl);
    pinned = λ p t s.
        let stood = (k.tells p).stood t s in
        (stander x two h T k p t stood, stood_is (h.pins p) t stood);
    opened = λ p t s. (window p t s).0;
    in_time = λ p t s. (window p t s).1;
    alone = λ p q t u s s' same.
        let a = window p t s in
        let b = window q u s' in let a0 = a.0 in let a1 = a.1 in let b0 = b.0 in let b1 = b.1 in
        elim (cases_lt t u) [
          | inl less ↦ one_of_row x.rows t u (omega arith) (omega arith) same
          | inr more ↦ sym (one_of_row x.rows u t more (omega arith) (sym same))
        ];
    held = λ s is. let e = (k.reclaims s is).held in let now = held_tenure s is in omega arith;
    clears = cleared;
    reclaimed = λ s is all p t st same. let w = k.reclaims s is in let a0 = (window p t st).0 in
        let few = stander x two h T k p t ((k.tells p).stood t st) in let now = held_tenure s is in
        let later = w.passed p t (omega arith) ((k.tells p).stood t st) in
        let e = one_of_row x.rows t (tenure_of x h + 1) (omega arith) (omega arith) same in
        omega arith;
    wiped = λ s place is low.
        ap (λ z. h.words (row_of x (z + 1) + place)) (held_tenure s is)
        ∙ (k.reclaims s is).cleared place low;
    awaited = waits;
    clean = λ t place held ready low. cleaned t h.reclaimer held refl ready place low;
  }

pub every_reclamation_is_safe : (x : ReclamationSizes) → 2 ≤ x.rows → (h : Reclamation) (T : Trails)
    → Reached x h T → IsSafe x h T
every_reclamation_is_safe x two h T r = safe x two h T (keeps x two h T r)

-- ---- what is refused
-- who has come stands in its tenure
come : (x : ReclamationSizes) (p t : ℕ) (trail : List Entry) → trail ≡ has_come x p t
    → Stands x p trail t
come x p t trail e = subst (λ z. Stands x p z t) (sym e) (record {
  entered = 0;
  before = 0;
  enters = refl;
  looked = 1;
  stage = 2 * t;
  looks = refl;
  after = omega arith;
  of_tenure = omega arith;
  stays = λ k got more is. elim (cases_eq k 1) [
    | inl one ↦ load_no_store (stage_at x) (presence_at x p) 0
        (ap (λ (e : Entry). e.op) (same_Some _ _ (ap (slice_get (has_come x p t)) (sym one) ∙ is)))
    | inr ne ↦ none_is_not (withdrawing x p got)
        (sym (slice_get_past (has_come x p t) k (omega arith)) ∙ is)
  ];
})

-- who has looked before it came does not stand in any
no_look : (x : ReclamationSizes) (p t u : ℕ) (trail : List Entry)
    → trail ≡ sees_stage x t ∷ shows_it x p t ∷ [] → Stands x p trail u → ⊥
no_look x p t u trail e s = let after = s.after in elim (cases_eq s.looked 1) [
  | inl one ↦ load_no_store (stage_at x) (presence_at x p) (1 + t)
      (ap (λ (e : Entry). e.op) (same_Some _ _ (sym s.looks ∙ ap (λ z. slice_get z s.looked) e
      ∙ ap (slice_get (sees_stage x t ∷ shows_it x p t ∷ [])) one)))
  | inr ne ↦ none_is_not (looking x s.stage)
      (sym (ap (λ z. slice_get z s.looked) e
      ∙ slice_get_past (sees_stage x t ∷ shows_it x p t ∷ []) s.looked (omega arith)) ∙ s.looks)
]

-- nor does one whose look found the stage of another
no_other : (x : ReclamationSizes) (p t u : ℕ) (trail : List Entry)
    → trail ≡ shows_it x p t ∷ sees_stage x u ∷ [] → t ≢ u → Stands x p trail t → ⊥
no_other x p t u trail e other s =
    let after = s.after in let found = s.of_tenure in elim (cases_eq s.looked 1) [
      | inl one ↦
          let same : 2 * u ≡ s.stage = ap (λ (e : Entry). e.got)
          (same_Some _ _ (ap (slice_get (shows_it x p t ∷ sees_stage x u ∷ [])) (sym one)
          ∙ ap (λ z. slice_get z s.looked) (sym e) ∙ s.looks)) in
          other (omega arith)
      | inr ne ↦ none_is_not (looking x s.stage)
          (sym (ap (λ z. slice_get z s.looked) e
          ∙ slice_get_past (shows_it x p t ∷ sees_stage x u ∷ []) s.looked (omega arith)) ∙ s.looks)
    ]

next_row : (t rows : ℕ) → (t + rows) % rows ≡ t % rows
next_row t rows = add-mod_right t rows

pub safety_refused : SafetyRefuses
safety_refused = record {
  unlooked = λ x h T p t at e safe. no_look x p t t (T p) e (safe.stands p t at);
  another_stage =
      λ x h T p t u at e other safe. no_other x p t u (T p) e other (safe.stands p t at);
  shown_away = λ x h T p t below away set safe.
      let none : 1 + t ≡ 0 = sym set ∙ safe.shows p below ∙ ap number_shown away in omega arith;
  stale = λ x h T p t e late safe. let l = safe.in_time p t (come x p t (T p) e) in omega arith;
  early = λ x h T p t e late safe. let l = safe.opened p t (come x p t (T p) e) in omega arith;
  shared = λ x h T p q t some e e' safe.
      let same = safe.alone p q t (t + x.rows) (come x p t (T p) e) (come x q (t + x.rows) (T q) e')
      (sym (next_row t x.rows)) in
      omega arith;
  cleared_under = λ x h T p t r s e is due now safe. safe.reclaimed s is
      (safe.clears s r 0 is due).4 p t (come x p t (T p) e)
      (sym (next_row t x.rows) ∙ ap (λ z. z % x.rows) (sym now));
  unscanned = λ x h T r s is due few safe. let all = (safe.clears s r 0 is due).4 in omega arith;
  causeless = λ x h T s o b is due behind other safe. other (safe.awaited s o b is due behind).3;
  unclean = λ x h T t place held ready low some safe.
      let z = safe.clean t place held ready low in omega arith;
}
