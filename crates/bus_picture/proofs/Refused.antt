-- Each of the wrong arrows is refused, and one that is left out.
use Rattle.std.proofs.Common.{◌≡◌, ◌<◌, ℕ, true, false, List, [], ◌∷◌, Some, slice_get, codes}
use Rattle.std.proofs.Common.{refl, sym, ap, ◌∙◌, arith, lit<}
use Rattle.std.proofs.lemmas.Bool.{false≢true}
use Rattle.std.proofs.lemmas.Option.{none-some, same_Some}
use Rattle.bus_picture.specs.declared.finding.Found.{Found}
use Rattle.bus_picture.specs.declared.processes.Process.TheVariants.{Sender, Receiver}
use Rattle.bus_picture.specs.Rows.{Shown, reads, writes}
use Rattle.bus_picture.specs.Arrows.{IsArrow}
use Rattle.std.specs.List.{join_with_byte}
use Rattle.bus_picture.specs.AllLines.{HasAllLines}
use Rattle.bus_picture.specs.Processes.{process_of}
use Rattle.bus_picture.specs.Refusals.{unread_text, stage, stores, loads, exchanges, at}
use Rattle.bus_picture.specs.Refusals.{ArrowsRefuse}

-- the row that an arrow goes to, and the one that it comes from, where they are known
load_is : (rows : List Shown) (source : Found) (to : ℕ) (row : Shown) → slice_get rows to ≡ Some row
    → (a : IsArrow rows source to) → row ≡ a.load
load_is rows source to row is a = same_Some row a.load (sym is ∙ a.stands)

store_is : (rows : List Shown) (source : Found) (to : ℕ) (row : Shown)
    → slice_get rows source.place ≡ Some row → (a : IsArrow rows source to) → row ≡ a.latest.store
store_is rows source to row is a = same_Some row a.latest.store (sym is ∙ a.latest.stands)

-- ---- what no arrow is
covered : (rows : List Shown) (source : Found) (to place : ℕ) (row load : Shown)
    → IsArrow rows source to → source.place < place → place < to → slice_get rows place ≡ Some row
    → writes row ≡ true → slice_get rows to ≡ Some load → row.word ≡ load.word → ⊥
covered rows source to place row load a behind above is leaves goes same =
    a.latest.latest place row behind above is leaves
    (same ∙ ap (λ (s : Shown). s.word) (load_is rows source to load goes a))

own : (rows : List Shown) (source : Found) (to : ℕ) (load : Shown) → IsArrow rows source to
    → slice_get rows to ≡ Some load → source.process ≡ load.process → ⊥
own rows source to load a goes same =
    a.other (same ∙ ap (λ (s : Shown). s.process) (load_is rows source to load goes a))

no_load : (rows : List Shown) (source : Found) (to : ℕ) (row : Shown) → IsArrow rows source to
    → slice_get rows to ≡ Some row → reads row ≡ false → ⊥
no_load rows source to row a goes unfit =
    false≢true (sym unfit ∙ ap reads (load_is rows source to row goes a) ∙ a.loads)

no_store : (rows : List Shown) (source : Found) (to : ℕ) (row : Shown) → IsArrow rows source to
    → slice_get rows source.place ≡ Some row → writes row ≡ false → ⊥
no_store rows source to row a comes unfit =
    false≢true (sym unfit ∙ ap writes (store_is rows source to row comes a) ∙ a.latest.stores)

not_there : (rows : List Shown) (source : Found) (to : ℕ) (row load : Shown)
    → IsArrow rows source to → slice_get rows source.place ≡ Some row
    → slice_get rows to ≡ Some load → row.word ≡ load.word
not_there rows source to row load a comes goes =
    ap (λ (s : Shown). s.word) (store_is rows source to row comes a) ∙ a.latest.there
    ∙ sym (ap (λ (s : Shown). s.word) (load_is rows source to load goes a))

whose : (rows : List Shown) (source : Found) (to : ℕ) (row : Shown) → IsArrow rows source to
    → slice_get rows source.place ≡ Some row → source.process ≡ row.process
whose rows source to row a comes =
    a.latest.whose ∙ sym (ap (λ (s : Shown). s.process) (store_is rows source to row comes a))

-- ---- one that there is
senders_differ : Sender 0 ≡ Sender 1 → ⊥
senders_differ e = cc

columns_differ : Receiver 0 ≡ Sender 0 → ⊥
columns_differ e = cc

words_differ : codes "length" ≡ stage → ⊥
words_differ e = cc

arrow_there : IsArrow (stores (Sender 0) stage ∷ loads (Sender 1) stage ∷ []) (at 0 (Sender 0)) 1
arrow_there = record {
  load = loads (Sender 1) stage;
  stands = refl;
  loads = refl;
  latest = record {
    store = stores (Sender 0) stage;
    stands = refl;
    whose = refl;
    above = omega arith;
    stores = refl;
    there = refl;
    latest = λ place row behind above is leaves word. absurd (omega (arith, behind, above));
  };
  other = senders_differ;
}

pub refuses : ArrowsRefuse
refuses = record {
  older = λ h. covered
      (stores (Sender 0) stage ∷ stores (Sender 1) stage ∷ loads (Receiver 0) stage ∷ [])
      (at 0 (Sender 0)) 2 1 (stores (Sender 1) stage) (loads (Receiver 0) stage)
      ((h 2 (at 0 (Sender 0))).0 refl) (omega arith) (omega arith) refl refl refl refl;
  over_its_own = λ h. covered
      (stores (Sender 0) stage ∷ stores (Sender 1) stage ∷ loads (Sender 1) stage ∷ [])
      (at 0 (Sender 0)) 2 1 (stores (Sender 1) stage) (loads (Sender 1) stage)
      ((h 2 (at 0 (Sender 0))).0 refl) (omega arith) (omega arith) refl refl refl refl;
  within = λ h. own (stores (Sender 0) stage ∷ loads (Sender 0) stage ∷ []) (at 0 (Sender 0)) 1
      (loads (Sender 0) stage) ((h 1 (at 0 (Sender 0))).0 refl) refl refl;
  missing = λ h. none-some (at 0 (Sender 0)) ((h 1 (at 0 (Sender 0))).1 arrow_there);
  to_a_store = λ h. no_load (stores (Sender 0) stage ∷ stores (Sender 1) stage ∷ [])
      (at 0 (Sender 0)) 1 (stores (Sender 1) stage) ((h 1 (at 0 (Sender 0))).0 refl) refl refl;
  to_an_exchange = λ h. no_load (stores (Sender 0) stage ∷ exchanges (Sender 1) (codes "2") ∷ [])
      (at 0 (Sender 0)) 1 (exchanges (Sender 1) (codes "2")) ((h 1 (at 0 (Sender 0))).0 refl) refl
      refl;
  from_a_load = λ h. no_store (loads (Sender 0) stage ∷ loads (Sender 1) stage ∷ [])
      (at 0 (Sender 0)) 1 (loads (Sender 0) stage) ((h 1 (at 0 (Sender 0))).0 refl) refl refl;
  from_no_exchange = λ h. no_store (exchanges (Sender 0) (codes "1") ∷ loads (Sender 1) stage ∷ [])
      (at 0 (Sender 0)) 1 (exchanges (Sender 0) (codes "1")) ((h 1 (at 0 (Sender 0))).0 refl) refl
      refl;
  other_word = λ h. words_differ
      (not_there (stores (Sender 0) (codes "length") ∷ loads (Sender 1) stage ∷ [])
      (at 0 (Sender 0)) 1 (stores (Sender 0) (codes "length")) (loads (Sender 1) stage)
      ((h 1 (at 0 (Sender 0))).0 refl) refl refl);
  upwards = λ h.
      let a = (h 0 (at 1 (Sender 0))).0 refl in
      let above : 1 < 0 = a.latest.above in absurd (omega arith);
  other_column = λ h. columns_differ (whose (stores (Sender 0) stage ∷ loads (Sender 1) stage ∷ [])
      (at 0 (Receiver 0)) 1 (stores (Sender 0) stage) ((h 1 (at 0 (Receiver 0))).0 refl) refl);
}

-- ---- a line that is left out
its_line : List ℕ
its_line = join_with_byte 9 (codes "1" ∷ codes "2" ∷ codes "sender 64" ∷ codes "-" ∷ codes "put"
    ∷ codes "-" ∷ codes "-" ∷ codes "-" ∷ codes "number 0" ∷ [])

pub left_out : ¬ HasAllLines unread_text
unfolding its_line process_of
left_out h = false≢true (h 1 its_line (lit< tt) refl (1, lit< tt, refl))
