-- What a sender's pin has to do with the trail of its steps: in which tenure it stands, and which
-- one its presence shows.
use Rattle.std.proofs.Common.{◌≡◌, ◌≢◌, inl, inr, ℕ, ◌+◌, ◌/◌, ◌<◌, Some, None, List, [], ◌∷◌, ◌++◌}
use Rattle.std.proofs.Common.{length, slice_get, if◌then◌else◌, arith, refl, sym, ◌∙◌, ap, subst}
use Rattle.std.proofs.lemmas.Bool.{cases_eq}
use Rattle.std.proofs.lemmas.Bool.Decides.{eqb_tells}
use Rattle.std.proofs.lemmas.List.{length_push}
use Rattle.std.proofs.lemmas.Option.{same_Some, slice_get_past, slice_get_within}
use Rattle.bus_register.specs.declared.registers.Op.TheVariants.{Load, Store}
use Rattle.bus_register.specs.Private.TableLaws.{push_here, push_beside}
use Rattle.bus_presence.specs.declared.pins.Pin.{Pin}
use Rattle.bus_presence.specs.declared.pins.Pin.TheVariants.{Away, Announcing, Validating, Pinned}
use Rattle.bus_presence.specs.declared.pins.Pin.TheVariants.{Unpinning, Invalidated}
use Rattle.bus_presence.specs.Pins.{number_shown, pin_fed}
use Rattle.bus_presence.specs.Reclamation.{ReclamationSizes, Entry, stage_at, presence_at}
use Rattle.bus_presence.specs.Standing.{Stands}

store_is : (r x y : ℕ) → Store record { 0 = r } x ≡ Store record { 0 = r } y → x ≡ y
store_is r x y h = cc

pub load_no_store : (r q x : ℕ) → Load record { 0 = r } ≡ Store record { 0 = q } x → ⊥
load_no_store r q x h = cc

pub none_is_not : {A : Type 0} (x : A) → None ≡ Some x → ⊥
none_is_not x h = cc

nothing_shown : (t : ℕ) → 0 ≡ 1 + t → ⊥
nothing_shown t h = omega arith

-- ---- what a pin has to do with its trail
-- it stood in this tenure after it had looked, and may be done with it
abbrev pub HasStood : Pin → ℕ → Type 0
HasStood Away t = ⊥
HasStood (Announcing u) t = ⊥
HasStood (Validating u) t = ⊥
HasStood (Pinned u) t = u ≡ t
HasStood (Unpinning u) t = u ≡ t
HasStood (Invalidated u) t = ⊥

pub stood_shows : (v : Pin) (t : ℕ) → HasStood v t → number_shown v ≡ 1 + t
stood_shows Away t h = absurd h
stood_shows (Announcing u) t h = absurd h
stood_shows (Validating u) t h = absurd h
stood_shows (Pinned u) t h = ap (λ z. 1 + z) h
stood_shows (Unpinning u) t h = ap (λ z. 1 + z) h
stood_shows (Invalidated u) t h = absurd h

pub fed_shows : (t got : ℕ) → number_shown (pin_fed (Validating t) got) ≡ 1 + t
fed_shows t got = elim (eqb_tells (got / 2) t) [
  | inl h ↦ ap (λ z. number_shown (if z then Pinned t else Invalidated t)) h.0
  | inr h ↦ ap (λ z. number_shown (if z then Pinned t else Invalidated t)) h.0
]

fed_same : (t got u : ℕ) → HasStood (pin_fed (Validating t) got) u → (u ≡ t) × (got / 2 ≡ u)
fed_same t got u = elim (eqb_tells (got / 2) t) [
  | inl h ↦ λ s.
      let same : t ≡ u = subst (λ z. HasStood (if z then Pinned t else Invalidated t) u) h.0 s in
      (sym same, h.1 ∙ same)
  | inr h ↦ λ s. absurd (subst (λ z. HasStood (if z then Pinned t else Invalidated t) u) h.0 s)
]

pub fed_stood : (t got u : ℕ) → HasStood (pin_fed (Validating t) got) u → u ≡ got / 2
fed_stood t got u = elim (eqb_tells (got / 2) t) [
  | inl h ↦ λ s. sym (h.1 ∙ subst (λ z. HasStood (if z then Pinned t else Invalidated t) u) h.0 s)
  | inr h ↦ λ s. absurd (subst (λ z. HasStood (if z then Pinned t else Invalidated t) u) h.0 s)
]

module _ (x : ReclamationSizes) where
  -- ---- a trail and one step more
  abbrev entering : ℕ → ℕ → ℕ → Entry
  entering p t got = record { op = Store record { 0 = presence_at x p } (1 + t); got = got }

  abbrev pub looking : ℕ → Entry
  looking got = record { op = Load record { 0 = (stage_at x) }; got = got }

  abbrev pub withdrawing : ℕ → ℕ → Entry
  withdrawing p got = record { op = Store record { 0 = presence_at x p } 0; got = got }

  entered_is : (p t u got got' : ℕ) → entering p t got ≡ entering p u got' → t ≡ u
  entered_is p t u got got' h =
      let e = store_is (presence_at x p) (1 + t) (1 + u) (ap (λ (e : Entry). e.op) h) in omega arith

  looked_is : (a b : ℕ) → looking a ≡ looking b → a ≡ b
  looked_is a b h = ap (λ (e : Entry). e.got) h

  looked_no_enter : (p t got got' : ℕ) → looking got ≡ entering p t got' → ⊥
  looked_no_enter p t got got' h =
      load_no_store (stage_at x) (presence_at x p) (1 + t) (ap (λ (e : Entry). e.op) h)

  withdrew_no_enter : (p t got got' : ℕ) → withdrawing p got ≡ entering p t got' → ⊥
  withdrew_no_enter p t got got' h =
      let e = store_is (presence_at x p) 0 (1 + t) (ap (λ (e : Entry). e.op) h) in omega arith

  -- it stored the presence of this tenure at this place, and has not cleared its presence since
  pub record Shows (p : ℕ) (trail : List Entry) (place t : ℕ) : Type 0 where
    before : ℕ
    enters : slice_get trail place ≡ Some (entering p t before)
    stays : (k got : ℕ) → place < k → slice_get trail k ≢ Some (withdrawing p got)

  nothing_past : (trail : List Entry) (d : Entry) (k : ℕ) → length trail < k
      → slice_get (trail ++ d ∷ []) k ≡ None
  nothing_past trail d k more =
      slice_get_past (trail ++ d ∷ []) k (omega (arith, length_push trail d))

  module _ (p : ℕ) (trail : List Entry) (d : Entry) where
    shows_before : (place t : ℕ) → place ≢ length trail → Shows p (trail ++ d ∷ []) place t
        → Shows p trail place t
    shows_before place t ne s = record {
      before = s.before;
      enters = sym (push_beside trail d place ne) ∙ s.enters;
      stays = λ k got more is. elim (cases_eq k (length trail)) [
        | inl e ↦ none_is_not (withdrawing p got) (sym (slice_get_past trail k (omega arith)) ∙ is)
        | inr other ↦ s.stays k got more (push_beside trail d k other ∙ is)
      ];
    }

    not_at_end : (place t : ℕ) → ((got : ℕ) → d ≡ entering p t got → ⊥)
        → Shows p (trail ++ d ∷ []) place t → place ≢ length trail
    not_at_end place t other s e =
        other s.before (same_Some _ _ (sym (push_here trail d place e) ∙ s.enters))

    stands_before : (t : ℕ) (s : Stands x p (trail ++ d ∷ []) t) → s.entered ≢ length trail
        → s.looked ≢ length trail → Stands x p trail t
    stands_before t s ne ne' =
        let z = shows_before s.entered t ne
        (record { before = s.before; enters = s.enters; stays = s.stays }) in
        record {
          entered = s.entered;
          before = z.before;
          enters = z.enters;
          looked = s.looked;
          stage = s.stage;
          looks = sym (push_beside trail d s.looked ne') ∙ s.looks;
          after = s.after;
          of_tenure = s.of_tenure;
          stays = z.stays;
        }

  shows_of : (p : ℕ) (trail : List Entry) (t : ℕ) (s : Stands x p trail t)
      → Shows p trail s.entered t
  shows_of p trail t s = record { before = s.before; enters = s.enters; stays = s.stays }

  pub record Tells (p : ℕ) (trail : List Entry) (v : Pin) : Type 0 where
    shows : (place t : ℕ) → Shows p trail place t → number_shown v ≡ 1 + t
    pub stood : (t : ℕ) → Stands x p trail t → HasStood v t
    -- and the other way
    entered : (t : ℕ) → number_shown v ≡ 1 + t → (place : ℕ) × Shows p trail place t
    pub came : (t : ℕ) → HasStood v t → Stands x p trail t

  pub tells_none : (p : ℕ) → Tells p [] Away
  tells_none p = record {
    shows = λ place t s. absurd (none_is_not (entering p t s.before) s.enters);
    stood = λ t s. absurd (none_is_not (entering p t s.before) s.enters);
    entered = λ t e. absurd (nothing_shown t e);
    came = λ t h. absurd h;
  }

  pub tells_begun : (p : ℕ) (trail : List Entry) (t : ℕ) → Tells p trail Away
      → Tells p trail (Announcing t)
  tells_begun p trail t h = record {
    shows = h.shows;
    stood = h.stood;
    entered = h.entered;
    came = h.came;
  }

  pub tells_parted : (p : ℕ) (trail : List Entry) (t : ℕ) → Tells p trail (Pinned t)
      → Tells p trail (Unpinning t)
  tells_parted p trail t h = record {
    shows = h.shows;
    stood = h.stood;
    entered = h.entered;
    came = h.came;
  }

  module _ (p : ℕ) (trail : List Entry) (t got : ℕ) (h : Tells p trail (Announcing t)) where
    alone_at_end : (place u : ℕ) → Shows p (trail ++ entering p t got ∷ []) place u
        → place ≡ length trail
    alone_at_end place u s = elim (cases_eq place (length trail)) [
      | inl e ↦ e
      | inr ne ↦ absurd
          (nothing_shown u (h.shows place u (shows_before p trail (entering p t got) place u ne s)))
    ]

    pub tells_entered : Tells p (trail ++ entering p t got ∷ []) (Validating t)
    tells_entered = record {
      shows = λ place u s. ap (λ z. 1 + z) (entered_is p t u got s.before
          (same_Some _ _
          (sym (push_here trail (entering p t got) place (alone_at_end place u s)) ∙ s.enters)));
      stood = λ u s.
          let e = alone_at_end s.entered u (shows_of p (trail ++ entering p t got ∷ []) u s) in
          let after = s.after in
          none_is_not (looking s.stage)
          (sym (nothing_past trail (entering p t got) s.looked (omega arith)) ∙ s.looks);
      entered = λ u e. (
        length trail,
        record {
          before = got;
          enters =
              push_here trail (entering p t got) (length trail) refl
              ∙ ap (λ z. Some (entering p z got)) (let same : t ≡ u = omega arith in same);
          stays = λ k g more is. none_is_not (withdrawing p g)
              (sym (nothing_past trail (entering p t got) k more) ∙ is);
        },
      );
      came = λ u s. absurd s;
    }

  module _ (p : ℕ) (trail : List Entry) (t got : ℕ) (h : Tells p trail (Validating t)) where
    earlier : (place u : ℕ) → Shows p (trail ++ looking got ∷ []) place u → place ≢ length trail
    earlier place u s = not_at_end p trail (looking got) place u (looked_no_enter p u got) s

    same_tenure : (place u : ℕ) → Shows p (trail ++ looking got ∷ []) place u → t ≡ u
    same_tenure place u s =
        let e =
        h.shows place u (shows_before p trail (looking got) place u (earlier place u s) s) in
        omega arith

    looked_last : (u : ℕ) (s : Stands x p (trail ++ looking got ∷ []) u) → got / 2 ≡ u
    looked_last u s = elim (cases_eq s.looked (length trail)) [
      | inl e ↦
          ap (λ z. z / 2) (looked_is got s.stage
          (same_Some _ _ (sym (push_here trail (looking got) s.looked e) ∙ s.looks))) ∙ s.of_tenure
      | inr ne ↦ absurd (h.stood u (stands_before p trail (looking got) u s
          (earlier s.entered u (shows_of p (trail ++ looking got ∷ []) u s)) ne))
    ]

    fed_pinned : got / 2 ≡ t → HasStood (pin_fed (Validating t) got) t
    fed_pinned e = elim (eqb_tells (got / 2) t) [
      | inl h ↦ subst (λ z. HasStood (if z then Pinned t else Invalidated t) t) (sym h.0) refl
      | inr h ↦ absurd (h.1 e)
    ]

    -- what was shown is shown still
    still : (place u : ℕ) → Shows p trail place u → Shows p (trail ++ looking got ∷ []) place u
    still place u s = let within = slice_get_within trail place _ s.enters in record {
      before = s.before;
      enters = push_beside trail (looking got) place (λ e. omega arith) ∙ s.enters;
      stays = λ k g more is. elim (cases_eq k (length trail)) [
        | inl e ↦ load_no_store (stage_at x) (presence_at x p) 0
            (ap (λ (e : Entry). e.op)
            (same_Some _ _ (sym (push_here trail (looking got) k e) ∙ is)))
        | inr ne ↦ s.stays k g more (sym (push_beside trail (looking got) k ne) ∙ is)
      ];
    }

    pub tells_looked : Tells p (trail ++ looking got ∷ []) (pin_fed (Validating t) got)
    tells_looked = record {
      shows = λ place u s. fed_shows t got ∙ ap (λ z. 1 + z) (same_tenure place u s);
      stood = λ u s.
          let e = same_tenure s.entered u (shows_of p (trail ++ looking got ∷ []) u s) in
          subst (HasStood (pin_fed (Validating t) got)) e (fed_pinned (looked_last u s ∙ sym e));
      entered = λ u e.
          let same : t ≡ u = (let z = fed_shows t got in omega arith) in
          let old = h.entered t refl in
          (old.0, subst (Shows p (trail ++ looking got ∷ []) old.0) same (still old.0 t old.1));
      came = λ u s.
          let old = h.entered t refl in
          let z = still old.0 t old.1 in let in_t = fed_same t got u s in record {
            entered = old.0;
            before = z.before;
            enters = z.enters ∙ ap (λ y. Some (entering p y z.before)) (sym in_t.0);
            looked = length trail;
            stage = got;
            looks = push_here trail (looking got) (length trail) refl;
            after = slice_get_within trail old.0 _ old.1.enters;
            of_tenure = in_t.1;
            stays = z.stays;
          };
    }

  module _ (p : ℕ) (trail : List Entry) (got : ℕ) where
    nothing_open : (place u : ℕ) → Shows p (trail ++ withdrawing p got ∷ []) place u → ⊥
    nothing_open place u s =
        let ne = not_at_end p trail (withdrawing p got) place u (withdrew_no_enter p u got) s in
        let within = slice_get_within trail place _
        (shows_before p trail (withdrawing p got) place u ne s).enters in
        s.stays (length trail) got within (push_here trail (withdrawing p got) (length trail) refl)

    pub tells_withdrawn : Tells p (trail ++ withdrawing p got ∷ []) Away
    tells_withdrawn = record {
      shows = λ place u s. absurd (nothing_open place u s);
      stood = λ u s. nothing_open s.entered u (shows_of p (trail ++ withdrawing p got ∷ []) u s);
      entered = λ u e. absurd (nothing_shown u e);
      came = λ u s. absurd s;
    }
