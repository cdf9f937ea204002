-- The arrows that a picture has are those that it is to have.
use Rattle.std.proofs.Common.{◌≡◌, ◌≢◌, ◌⊎◌, inl, inr, ℕ, zero, suc, ◌+◌, ◌<◌, Bool, true, false}
use Rattle.std.proofs.Common.{cond, List, [], ◌∷◌, length, take, Option, Some, None, slice_get}
use Rattle.std.proofs.Common.{refl, sym, ap, ◌∙◌, subst, eqb-true, length-take, arith}
use Rattle.std.specs.Option.{option_and_then}
use Rattle.std.proofs.lemmas.Bool.{false≢true, false_from_ne_true, and_from, and_parts, cases_order}
use Rattle.std.proofs.lemmas.Bool.Decides.{Decides-eqb}
use Rattle.std.proofs.lemmas.Slice.Eq.{bytes_eq-Decides}
use Rattle.std.proofs.lemmas.Option.{none-some, same_Some, slice_get_within, option_and_then_some}
use Rattle.std.specs.Str.{bytes_eq}
use Rattle.bus_picture.specs.declared.finding.Found.{Found}
use Rattle.bus_picture.specs.declared.processes.Process.{Process}
use Rattle.bus_picture.specs.declared.processes.Process.TheVariants.{Sender, Receiver}
use Rattle.bus_picture.specs.Rows.{Shown, reads, writes, rows_of}
use Rattle.bus_picture.specs.Finding.{is_same, stores_in, latest}
use Rattle.bus_picture.specs.Arrows.{IsLatestStore, IsArrow, AreArrows}
use Rattle.bus_picture.specs.Drawing.{of_another, source_of, arrows_of}
use Rattle.bus_picture.specs.Pictures.{HasItsArrows, picture}

-- ---- processes, tests and places
same_process : (p q : Process) → is_same p q ≡ true → p ≡ q
same_process (Sender a) (Sender b) e = ap Sender (eqb-true a b e)
same_process (Receiver a) (Receiver b) e = ap Receiver (eqb-true a b e)
same_process (Sender a) (Receiver b) e = absurd (false≢true e)
same_process (Receiver a) (Sender b) e = absurd (false≢true e)

itself : (p : Process) → is_same p p ≡ true
itself (Sender a) = (Decides-eqb a a).1 refl
itself (Receiver a) = (Decides-eqb a a).1 refl

other_process : (p q : Process) → p ≢ q → is_same p q ≡ false
other_process p q other = false_from_ne_true (is_same p q) (λ e. other (same_process p q e))

stored : (word : List ℕ) (s : Shown) → writes s ≡ true → s.word ≡ word → stores_in word s ≡ true
stored word s w e =
    and_from (writes s) (bytes_eq s.word word) w ((bytes_eq-Decides s.word word).1 e)

taken : (n : ℕ) (rows : List Shown) (k : ℕ) → k < n → slice_get (take n rows) k ≡ slice_get rows k
taken zero rows k lt = absurd (omega arith)
taken (suc n) [] k lt = refl
taken (suc n) (s ∷ rows) zero lt = refl
taken (suc n) (s ∷ rows) (suc k) lt = taken n rows k (omega arith)

within : (n : ℕ) (rows : List Shown) (k : ℕ) (s : Shown) → slice_get (take n rows) k ≡ Some s
    → k < n
within n rows k s e =
    let h : k < length (take n rows) = slice_get_within (take n rows) k s e in
    omega (arith, length-take n rows)

abbrev found_at : ℕ → Process → Found
found_at place p = record { place = place; process = p }

same_found : (f g : Found) → f.place ≡ g.place → f.process ≡ g.process → f ≡ g
same_found f g p q =
    ap (λ (n : ℕ). found_at n f.process) p ∙ ap (λ (x : Process). found_at g.place x) q

-- ---- the last row that passes
abbrev NonePass : (Shown → Bool) → List Shown → Type 0
NonePass passes rows = (k : ℕ) (s : Shown) → slice_get rows k ≡ Some s → passes s ≡ true → ⊥

-- of rows of which the first has this place
record IsLast (passes : Shown → Bool) (place : ℕ) (rows : List Shown) (f : Found) : Type 0 where
  index : ℕ
  row : Shown
  stands : slice_get rows index ≡ Some row
  passed : passes row ≡ true
  place_is : f.place ≡ place + index
  process_is : f.process ≡ row.process
  none_later : (k : ℕ) (s : Shown) → index < k → slice_get rows k ≡ Some s → passes s ≡ true → ⊥

abbrev Sought : (Shown → Bool) → ℕ → Option Found → List Shown → Option Found → Type 0
Sought passes place earlier rows r =
    (NonePass passes rows × (r ≡ earlier))
    ⊎ ((f : Found) × (r ≡ Some f) × IsLast passes place rows f)

none_behind : (passes : Shown → Bool) (first : Shown) (rows : List Shown) (n : ℕ)
    → ((k : ℕ) (s : Shown) → n < k → slice_get rows k ≡ Some s → passes s ≡ true → ⊥)
    → (k : ℕ) (s : Shown) → suc n < k → slice_get (first ∷ rows) k ≡ Some s → passes s ≡ true → ⊥
none_behind passes first rows n h zero s lt e p = absurd (omega arith)
none_behind passes first rows n h (suc k) s lt e p = h k s (omega arith) e p

none_beside : (passes : Shown → Bool) (first : Shown) (rows : List Shown) → NonePass passes rows
    → (k : ℕ) (s : Shown) → 0 < k → slice_get (first ∷ rows) k ≡ Some s → passes s ≡ true → ⊥
none_beside passes first rows h zero s lt e p = absurd (omega arith)
none_beside passes first rows h (suc k) s lt e p = h k s e p

none_with : (passes : Shown → Bool) (first : Shown) (rows : List Shown) → passes first ≡ false
    → NonePass passes rows → NonePass passes (first ∷ rows)
none_with passes first rows unfit h zero s e p =
    false≢true (sym unfit ∙ ap passes (same_Some first s e) ∙ p)
none_with passes first rows unfit h (suc k) s e p = h k s e p

seek_more : (passes : Shown → Bool) (place : ℕ) (earlier next r : Option Found) (s : Shown)
    (rows : List Shown) (b : Bool) → passes s ≡ b
    → next ≡ cond b (Some (found_at place s.process)) earlier
    → Sought passes (place + 1) next rows r → Sought passes place earlier (s ∷ rows) r
seek_more passes place earlier next r s rows true is next_is (inl h) =
    inr (
      found_at place s.process,
      h.1 ∙ next_is,
      record {
        index = 0;
        row = s;
        stands = refl;
        passed = is;
        place_is = omega arith;
        process_is = refl;
        none_later = none_beside passes s rows h.0;
      },
    )
seek_more passes place earlier next r s rows false is next_is (inl h) =
    inl (none_with passes s rows is h.0, h.1 ∙ next_is)
seek_more passes place earlier next r s rows b is next_is (inr h) =
    let l = h.2 in
    inr (
      h.0,
      h.1,
      record {
        index = suc l.index;
        row = l.row;
        stands = l.stands;
        passed = l.passed;
        place_is = omega (arith, l.place_is);
        process_is = l.process_is;
        none_later = none_behind passes s rows l.index l.none_later;
      },
    )

sought : (passes : Shown → Bool) (place : ℕ) (earlier : Option Found) (rows : List Shown)
    → Sought passes place earlier rows (latest passes place earlier rows)
sought passes place earlier [] = inl ((λ k s e p. none-some s e), refl)
sought passes place earlier (s ∷ rows) =
    let next : Option Found = cond (passes s) (Some (found_at place s.process)) earlier in
    seek_more passes place earlier next (latest passes (place + 1) next rows) s rows (passes s) refl
    refl (sought passes (place + 1) next rows)

-- ---- from what is drawn to the law
of_other : (b : Bool) (f source : Found) → cond b None (Some f) ≡ Some source
    → (b ≡ false) × (f ≡ source)
of_other true f source e = absurd (none-some source e)
of_other false f source e = (refl, same_Some f source e)

source_parts : (b : Bool) (p : Process) (o : Option Found) (source : Found)
    → cond b (of_another p o) None ≡ Some source
    → (b ≡ true) × (o ≡ Some source) × (is_same source.process p ≡ false)
source_parts true p None source e = absurd (none-some source e)
source_parts true p (Some f) source e =
    let h = of_other (is_same f.process p) f source e in (
      refl,
      ap (λ (g : Found). Some g) h.1,
      subst (λ (g : Found). is_same g.process p ≡ false) h.1 h.0,
    )
source_parts false p o source e = absurd (none-some source e)

module _ (rows : List Shown) (to : ℕ) (load : Shown) (is : slice_get rows to ≡ Some load)
    (source : Found) where
  latest_store : (last : IsLast (stores_in load.word) 0 (take to rows) source)
      → IsLatestStore rows load.word to source
  latest_store last =
      let here : source.place ≡ last.index = omega (arith, last.place_is) in
      let below = within to rows last.index last.row last.stands in
      let both_are = and_parts (writes last.row) (bytes_eq last.row.word load.word) last.passed in
      record {
        store = last.row;
        stands = ap (slice_get rows) here ∙ sym (taken to rows last.index below) ∙ last.stands;
        whose = last.process_is;
        above = omega (arith, here, below);
        stores = both_are.0;
        there = (bytes_eq-Decides last.row.word load.word).0 both_are.1;
        latest = λ place row behind above at stores word. last.none_later place row
            (omega (arith, here, behind)) (taken to rows place above ∙ at)
            (stored load.word row stores word);
      }

  drawn_is : source_of (take to rows) load ≡ Some source → IsArrow rows source to
  drawn_is e =
      let h = source_parts (reads load) load.process
      (latest (stores_in load.word) 0 None (take to rows)) source e in
      elim (sought (stores_in load.word) 0 None (take to rows)) [
        | inl none ↦ absurd (none-some source (sym none.1 ∙ h.1))
        | inr found ↦ record {
          load = load;
          stands = is;
          loads = h.0;
          latest = latest_store (subst (IsLast (stores_in load.word) 0 (take to rows))
              (same_Some found.0 source (sym found.1 ∙ h.1)) found.2);
          other = λ same. false≢true (sym h.2
              ∙ subst (λ (p : Process). is_same source.process p ≡ true) same
              (itself source.process));
        }
      ]

-- ---- and back
module _ (rows : List Shown) (word : List ℕ) (to : ℕ) (source : Found)
    (h : IsLatestStore rows word to source) where
  passes_there : stores_in word h.store ≡ true
  passes_there = stored word h.store h.stores h.there

  stands_above : slice_get (take to rows) source.place ≡ Some h.store
  stands_above = taken to rows source.place h.above ∙ h.stands

  same_place : (f : Found) (last : IsLast (stores_in word) 0 (take to rows) f)
      → f.place ≡ source.place
  same_place f last =
      let at : f.place ≡ last.index = omega (arith, last.place_is) in
      let both_are = and_parts (writes last.row) (bytes_eq last.row.word word) last.passed in
      let below = within to rows last.index last.row last.stands in
      elim (cases_order f.place source.place) [
        | inl same ↦ same
        | inr (inl less) ↦ absurd (last.none_later source.place h.store (omega (arith, at, less))
            stands_above passes_there)
        | inr (inr more) ↦ absurd (h.latest last.index last.row (omega (arith, at, more)) below
            (sym (taken to rows last.index below) ∙ last.stands) both_are.0
            ((bytes_eq-Decides last.row.word word).0 both_are.1))
      ]

  same_source : (f : Found) → IsLast (stores_in word) 0 (take to rows) f → f ≡ source
  same_source f last =
      let place = same_place f last in
      let at : last.index ≡ source.place = omega (arith, last.place_is, place) in
      let row : last.row ≡ h.store = same_Some last.row h.store
      (sym last.stands ∙ ap (slice_get (take to rows)) at ∙ stands_above) in
      same_found f source place (last.process_is ∙ ap (λ (s : Shown). s.process) row ∙ sym h.whose)

  latest_is : latest (stores_in word) 0 None (take to rows) ≡ Some source
  latest_is = elim (sought (stores_in word) 0 None (take to rows)) [
    | inl none ↦ absurd (none.0 source.place h.store stands_above passes_there)
    | inr found ↦ found.1 ∙ ap (λ (g : Found). Some g) (same_source found.0 found.2)
  ]

is_drawn : (rows : List Shown) (to : ℕ) (source : Found) → IsArrow rows source to
    → arrows_of rows to ≡ Some source
is_drawn rows to source a =
    let kept : Option Found → Option Found = of_another a.load.process in
    ap (option_and_then (source_of (take to rows))) a.stands
    ∙ ap (λ (b : Bool). cond b (kept (latest (stores_in a.load.word) 0 None (take to rows))) None)
    a.loads
    ∙ ap kept (latest_is rows a.load.word to source a.latest)
    ∙ ap (λ (b : Bool). cond b None (Some source))
    (other_process source.process a.load.process a.other)

arrows_are : (rows : List Shown) → AreArrows rows (arrows_of rows)
arrows_are rows to source = (
  (λ e. option_and_then_some (source_of (take to rows)) (slice_get rows to) source e
      (λ load is drawn. drawn_is rows to load is source drawn)),
  is_drawn rows to source,
)

pub have_arrows : (trace : List ℕ) → HasItsArrows trace (picture trace)
have_arrows trace = (arrows_of (rows_of trace), arrows_are (rows_of trace), refl)
