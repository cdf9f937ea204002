-- The words of a bus whose rows and whose log are used again, beside those of one that has a row
-- for each tenure and a log without an end.
use Rattle.std.proofs.Common.{◌≡◌, inl, inr, ℕ, ◌+◌, ◌*◌, ◌/◌, ◌%◌, ◌<◌, ◌≤◌, None}
use Rattle.std.proofs.Common.{arith, refl, sym, ◌∙◌, ap}
use Rattle.std.proofs.Math.Nat.{mod-eq_of_lt}
use Rattle.std.proofs.lemmas.Bool.{cases_eq}
use Rattle.std.proofs.lemmas.Nat.{mod_below, row_fits}
use Rattle.std.proofs.lemmas.Grind.{common_steps}
use Rattle.bus_register.specs.Tables.{Beside, put}
use Rattle.bus_register.specs.Private.TableLaws.{put_here, put_beside}
use Rattle.bus_presence.specs.declared.pins.Pin.{Pin}
use Rattle.bus_presence.specs.Reclamation.{ReclamationSizes, Reclamation, Trails}
use Rattle.bus_presence.specs.Reclamation.{row_of, tenure_of}
use Rattle.bus_presence.specs.Reclamation.{reclaimer_after}
use Rattle.bus_presence.proofs.ReclamationKept.{Keeps, one_of_row}
use Rattle.bus_presence.proofs.RowLaws.{IsLive, live_apart, alive_same}
use Rattle.bus_tenure.specs.Core.{Layout, row_at, log_at}
use Rattle.bus_world.proofs.CyclicProtocolWords.{IsQuiet, behind_rows, far_rows}
use Rattle.bus_world.specs.Floors.{passed_place}
use Rattle.bus_core.specs.Reusing.Participants.{sizes_with, log_from}

-- Words of 0 to the log's end stand in a ring: of all that was stored so far the last, as many as
-- the log has cells.
module _ (x : Layout) (rows : ℕ) where
  abbrev z : ReclamationSizes
  z = sizes_with x rows

  -- The words that stand in the reclamation are these, of a layout with a row for each tenure and a
  -- log without an end: as far as rows are their tenures', and of the log's words, of which so many
  -- are stored so far, the last.
  pub record Laid (h : Reclamation) (V : ℕ → ℕ) (W : ℕ) : Type 0 where
    pub length : h.words 0 ≡ V 0
    pub stage : h.words 1 ≡ V 1
    pub log : (k : ℕ) → k < W → W ≤ k + x.capacity
        → h.words (log_from x rows + k % x.capacity) ≡ V (log_at x + k)
    pub row : (t k : ℕ) → t < x.rows → k < x.width → IsLive z h t
        → h.words (row_of z t + k) ≡ V (row_at x t + k)
    -- nothing is stored in the row of a tenure that was not opened
    pub late : (t k : ℕ) → tenure_of z h < t → t < x.rows → k < x.width → V (row_at x t + k) ≡ 0

  pub laid_quiet : (h h' : Reclamation) (V : ℕ → ℕ) (W : ℕ) → IsQuiet x rows h h' → Laid h V W
      → Laid h' V W
  laid_quiet h h' V W q l = record {
    length = q.length ∙ l.length;
    stage = q.stage ∙ l.stage;
    log = λ k low last.
        q.log (k % x.capacity) (mod_below k x.capacity (omega arith)) ∙ l.log k low last;
    row = λ t k room low live. q.row t k low live ∙ l.row t k room low (q.alive t live);
    late =
        λ t k late room low. l.late t k (let e = ap (λ w. w / 2) q.stage in omega arith) room low;
  }

  -- ---- the same number stored in both
  -- in the row of a tenure
  module _ (h : Reclamation) (pins : ℕ → Pin) (V : ℕ → ℕ) (W : ℕ) (l : Laid h V W) (t k n : ℕ)
      (room : t < x.rows) (low : k < x.width) (live : IsLive z h t) where
    abbrev worked : Reclamation
    worked = record { words = put (row_of z t + k) n h.words; pins = pins; reclaimer = h.reclaimer }

    beside_here : Beside (row_of z t + k) h.words worked.words
    beside_here = put_beside (row_of z t + k) n h.words

    beside_there : Beside (row_at x t + k) V (put (row_at x t + k) n V)
    beside_there = put_beside (row_at x t + k) n V

    worked_stage : worked.words 1 ≡ h.words 1
    worked_stage = beside_here 1 (λ e. omega arith)

    -- a row ends before the log
    row_ends : row_at x t + k < log_at x
    row_ends = omega (arith, row_fits t x.width x.rows x.width room (omega arith))

    slot_ends : (two : 2 ≤ rows) → row_of z t + k < log_from x rows
    slot_ends two = grind (arith, common_steps, row_fits, mod_below)

    pub laid_worked : 2 ≤ rows → Laid worked (put (row_at x t + k) n V) W
    laid_worked two = let a = row_ends in let b = slot_ends two in record {
      length =
          beside_here 0 (λ e. omega arith) ∙ l.length ∙ sym (beside_there 0 (λ e. omega arith));
      stage = worked_stage ∙ l.stage ∙ sym (beside_there 1 (λ e. omega arith));
      log = λ j less last. grind (arith, common_steps, beside_here, beside_there);
      row = λ u j in_rows less lives.
          let before = alive_same z h worked u worked_stage refl lives in elim (cases_eq u t) [
            | inl i ↦ grind (arith, common_steps, cases_eq, put_here, beside_here, beside_there)
            | inr ne ↦
                let p = before.opened in
                let q = before.stays in let r = live.opened in let s = live.stays in
                beside_here (row_of z u + j) (live_apart z h u t j k ne p q r s less low)
                ∙ l.row u j in_rows less before
                ∙ sym (beside_there (row_at x u + j) (far_rows x.width u t j k ne less low))
          ];
      late = λ u j later in_rows less.
          let r = live.opened in let same = ap (λ y. y / 2) worked_stage in
          beside_there (row_at x u + j) (far_rows x.width u t j k (omega arith) less low)
          ∙ l.late u j (omega arith) in_rows less;
    }

  -- a word of the log, or the length
  module _ (h : Reclamation) (pins : ℕ → Pin) (V : ℕ → ℕ) (W : ℕ) (l : Laid h V W) (n : ℕ) where
    pub laid_logged : 2 ≤ rows
        → Laid (record {
          words = put (log_from x rows + W % x.capacity) n h.words;
          pins = pins;
          reclaimer = h.reclaimer;
        }) (put (log_at x + W) n V) (W + 1)
    laid_logged two =
        let here = put_beside (log_from x rows + W % x.capacity) n h.words in
        let there = put_beside (log_at x + W) n V in
        let stage = here 1 (λ e. omega arith) in record {
          length = here 0 (λ e. omega arith) ∙ l.length ∙ sym (there 0 (λ e. omega arith));
          stage = stage ∙ l.stage ∙ sym (there 1 (λ e. omega arith));
          log = λ j less last. grind (arith, common_steps, cases_eq, put_here, one_of_row);
          row = λ u j room less live.
              let a = row_fits (u % rows) x.width rows x.width (mod_below u rows (omega arith))
              (omega arith) in
              let b = row_fits u x.width x.rows x.width room (omega arith) in
              here (row_of z u + j) (λ e. omega arith)
              ∙ l.row u j room less (alive_same z h (record {
                words = put (log_from x rows + W % x.capacity) n h.words;
                pins = pins;
                reclaimer = h.reclaimer;
              }) u stage refl live) ∙ sym (there (row_at x u + j) (λ e. omega arith));
          late = λ u j late room less.
              let b = row_fits u x.width x.rows x.width room (omega arith) in
              let same = ap (λ y. y / 2) stage in
              there (row_at x u + j) (λ e. omega arith) ∙ l.late u j (omega arith) room less;
        }

    pub laid_told : Laid (record { words = put 0 n h.words; pins = pins; reclaimer = h.reclaimer })
        (put 0 n V) W
    laid_told = grind (arith, common_steps, put_beside, put_here, alive_same)

  -- a passed place, of which the other table has none
  module _ (h : Reclamation) (V : ℕ → ℕ) (W : ℕ) (l : Laid h V W) (r n : ℕ) (low : r < x.passers)
    where
      pub laid_passed : 2 ≤ rows
          → Laid (record h { words = put (passed_place x rows r) n h.words }) V W
      laid_passed two = grind (arith, common_steps, put_beside, behind_rows, alive_same)

  -- the stage, where the page is taken: the reclaimer of the next row begins, and has passed nobody
  module _ (h : Reclamation) (T : Trails) (keeps : Keeps z h T) (pins : ℕ → Pin) (V : ℕ → ℕ) (W : ℕ)
      (l : Laid h V W) (t : ℕ) where
    pub laid_taken : h.words 1 ≡ 2 * t
        → Laid
        (record { words = put 1 (2 * t + 1) h.words; pins = pins; reclaimer = reclaimer_after z t })
        (put 1 (2 * t + 1) V) W
    laid_taken home =
        let h' : Reclamation = record {
          words = put 1 (2 * t + 1) h.words;
          pins = pins;
          reclaimer = reclaimer_after z t;
        } in
        let here = put_beside 1 (2 * t + 1) h.words in let there = put_beside 1 (2 * t + 1) V in
        let stage = put_here 1 (2 * t + 1) h.words in record {
          length = here 0 (λ e. omega arith) ∙ l.length ∙ sym (there 0 (λ e. omega arith));
          stage = stage ∙ sym (put_here 1 (2 * t + 1) V);
          log = λ j less last. grind (arith, common_steps);
          row = λ u j room less live. let a = live.opened in let b = live.stays in
              here (row_of z u + j) (λ e. omega arith) ∙ l.row u j room less record {
                opened = omega arith;
                stays = omega arith;
                unreclaimed = λ s is all.
                    absurd (let w = keeps.reclaims s is in let held = w.held in omega arith);
              } ∙ sym (there (row_at x u + j) (λ e. omega arith));
          late = λ u j late room less.
              there (row_at x u + j) (λ e. omega arith) ∙ l.late u j (omega arith) room less;
        }

    -- and where it is given back: the next tenure opens over words of zero
    pub laid_given : h.words 1 ≡ 2 * t + 1
        → ((k : ℕ) → k < x.width → h.words (row_of z (t + 1) + k) ≡ 0)
        → Laid (record { words = put 1 (2 * t + 2) h.words; pins = pins; reclaimer = None })
        (put 1 (2 * t + 2) V) W
    laid_given held clean =
        let here = put_beside 1 (2 * t + 2) h.words in let there = put_beside 1 (2 * t + 2) V in
        let stage = put_here 1 (2 * t + 2) h.words in record {
          length = here 0 (λ e. omega arith) ∙ l.length ∙ sym (there 0 (λ e. omega arith));
          stage = stage ∙ sym (put_here 1 (2 * t + 2) V);
          log = λ j less last. grind (arith, common_steps);
          row = λ u j room less live. let a = live.opened in let b = live.stays in
              here (row_of z u + j) (λ e. omega arith) ∙ elim (cases_eq u (t + 1)) [
                | inl e ↦ grind (arith, common_steps)
                | inr ne ↦ grind (arith, common_steps)
              ] ∙ sym (there (row_at x u + j) (λ e. omega arith));
          late = λ u j late room less.
              there (row_at x u + j) (λ e. omega arith) ∙ l.late u j (omega arith) room less;
        }

  -- ---- what a receiver finds
  -- the word at its place, where all that is stored reaches no further than the ring behind a floor
  -- that its place has passed
  pub found_there : (h : Reclamation) (V : ℕ → ℕ) (W floor place : ℕ) → Laid h V W
      → W ≤ x.capacity + floor → floor ≤ place → place < W
      → h.words (log_from x rows + place % x.capacity) ≡ V (log_at x + place)
  found_there h V W floor place l room low below = l.log place below (omega arith)

  -- of a log that does not wrap: each word stands in the cell of its own number
  pub found_straight : (h : Reclamation) (V : ℕ → ℕ) (W place : ℕ) → Laid h V W → W ≤ x.capacity
      → place < W → h.words (log_from x rows + place) ≡ V (log_at x + place)
  found_straight h V W place l room below = grind (arith, common_steps, mod-eq_of_lt, found_there)
