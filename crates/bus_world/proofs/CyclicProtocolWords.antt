-- Steps of a bus whose rows are used again that change no word of a tenure's row: those of pins,
-- and those that clear the next row.
use Rattle.std.proofs.Common.{◌≡◌, ◌≢◌, inl, inr, ℕ, ◌+◌, ◌*◌, ◌/◌, ◌%◌, ◌<◌, ◌≤◌, Some}
use Rattle.std.proofs.Common.{arith, refl, sym, ◌∙◌, ap, subst}
use Rattle.std.proofs.lemmas.Bool.{cases_eq, cases_lt}
use Rattle.std.proofs.lemmas.Nat.{mod_below, row_fits}
use Rattle.std.proofs.lemmas.Option.{same_Some}
use Rattle.std.proofs.lemmas.Grind.{common_steps}
use Rattle.bus_register.specs.declared.registers.Op.{Op}
use Rattle.bus_register.specs.Words.{after}
use Rattle.bus_register.specs.Tables.{put}
use Rattle.bus_register.specs.Private.TableLaws.{put_here, put_beside}
use Rattle.bus_presence.specs.declared.pins.Pin.{Pin}
use Rattle.bus_presence.specs.Pins.{step_at}
use Rattle.bus_presence.specs.Reclaimers.{Reclaiming, reclaim_op, reclaim_fed}
use Rattle.bus_presence.specs.Reclamation.{ReclamationSizes, Reclamation, Trails, presence_at}
use Rattle.bus_presence.specs.Reclamation.{row_of, tenure_of, number_of_step, words_after}
use Rattle.bus_presence.proofs.ReclamationKept.{IsReclaimer, Keeps, one_of_row, rows_apart}
use Rattle.bus_presence.proofs.ReclaimerLaws.{reclaim_does, Scans}
use Rattle.bus_presence.proofs.RowLaws.{IsLive, alive_same, pin_place, load_same}
use Rattle.bus_tenure.specs.Core.{Layout}
use Rattle.bus_core.specs.Reusing.Participants.{sizes_with, log_from}
use Rattle.bus_world.specs.Floors.{passed_place}

-- a table stays where what stands at a place is put there
pub put_is : {A : Type 0} (p : ℕ) (v : A) (table : ℕ → A) → table p ≡ v → put p v table ≡ table
put_is p v table e = grind (arith, common_steps, cases_eq, put_here, put_beside)

-- words of two rows of two tenures are different words
pub far_rows : (width t u j k : ℕ) → t ≢ u → j < width → k < width
    → 2 + t * width + j ≢ 2 + u * width + k
far_rows width t u j k ne low high same = grind (arith, common_steps, cases_lt, row_fits)

module _ (x : Layout) (rows : ℕ) where
  abbrev z : ReclamationSizes
  z = sizes_with x rows

  -- passed places stand behind all rows
  pub behind_rows : 2 ≤ rows → (t k r : ℕ) → k < x.width
      → passed_place x rows r ≢ row_of z t + k
  behind_rows two t k r low same = grind (arith, common_steps, row_fits, mod_below)

  -- a reclamation after another, with the same words but for those that are no tenure's
  pub record IsQuiet (h h' : Reclamation) : Type 0 where
    pub length : h'.words 0 ≡ h.words 0
    pub stage : h'.words 1 ≡ h.words 1
    pub log : (k : ℕ) → k < x.capacity
        → h'.words (log_from x rows + k) ≡ h.words (log_from x rows + k)
    pub passed : (r : ℕ) → r < x.passers
        → h'.words (passed_place x rows r) ≡ h.words (passed_place x rows r)
    pub alive : (t : ℕ) → IsLive z h' t → IsLive z h t
    pub row : (t k : ℕ) → k < x.width → IsLive z h' t
        → h'.words (row_of z t + k) ≡ h.words (row_of z t + k)

  pub quiet_same : (h h' : Reclamation) → h'.words ≡ h.words → h'.reclaimer ≡ h.reclaimer
      → IsQuiet h h'
  quiet_same h h' e f = grind (arith, common_steps, alive_same)

  quiet_presence : (h : Reclamation) (pins : ℕ → Pin) (p n : ℕ) → p < x.senders
      → IsQuiet h
      (record { words = put (presence_at z p) n h.words; pins = pins; reclaimer = h.reclaimer })
  quiet_presence h pins p n below = grind (arith, common_steps, put_beside, alive_same)

  -- a step of a pin
  pub quiet_pin : (h : Reclamation) (pins : ℕ → Pin) (p : ℕ) (v : Pin) (o : Op) → p < x.senders
      → step_at v (presence_at z p) 1 ≡ Some o
      → IsQuiet h (record { words = words_after h o; pins = pins; reclaimer = h.reclaimer })
  quiet_pin h pins p v o below due = elim (pin_place z v p o due) [
    | inl e ↦ subst (λ r. IsQuiet h (record {
      words = put r (after o (number_of_step h o)) h.words;
      pins = pins;
      reclaimer = h.reclaimer;
    })) (sym e) (quiet_presence h pins p (after o (number_of_step h o)) below)
    | inr load ↦ grind (arith, common_steps, quiet_same, load_same)
  ]

  -- a step of a reclamation
  module _ (two : 2 ≤ rows) (h : Reclamation) (T : Trails) (keeps : Keeps z h T) (s : Reclaiming)
      (is : h.reclaimer ≡ Some s) where
    w : IsReclaimer z h s
    w = keeps.reclaims s is

    quiet_scans : (o : Op) → Scans s o
        → IsQuiet h (record h {
          words = words_after h o;
          reclaimer = Some (reclaim_fed s (number_of_step h o));
        })
    quiet_scans o a = grind (arith, common_steps, load_same, same_Some)

    quiet_wipes : s.senders ≤ s.scanned → s.cleared < s.width
        → IsQuiet h (record h {
          words = put (s.row + s.cleared) 0 h.words;
          reclaimer = Some record s { cleared = s.cleared + 1 };
        })
    quiet_wipes all less =
        let wiped : Reclamation = record h {
          words = put (s.row + s.cleared) 0 h.words;
          reclaimer = Some record s { cleared = s.cleared + 1 };
        } in
        let beside = put_beside (s.row + s.cleared) 0 h.words in
        let at = w.row in let width = w.width in
        let in_rows = row_fits ((w.tenure + 1) % rows) x.width rows x.width
        (mod_below (w.tenure + 1) rows (omega arith)) (omega arith) in
        let stage = beside 1 (λ e. omega arith) in
        let same = ap (λ y. y / 2) stage in
        let later : (u : ℕ) → IsLive z wiped u → tenure_of z h + 1 < u + rows = λ u live.
        let n = w.senders in
        let l = live.unreclaimed (record s { cleared = s.cleared + 1 }) refl (omega arith) in
        omega arith in
        record {
          length = beside 0 (λ e. omega arith);
          stage = stage;
          log = λ k low. beside (log_from x rows + k) (λ e. omega arith);
          passed = λ r low. beside (passed_place x rows r) (λ e. omega arith);
          alive = λ u live. grind (arith, common_steps);
          row = λ u k low live. beside (row_of z u + k) (λ e.
              let l = later u live in let held = w.held in let b = live.opened in
              rows_apart z u (w.tenure + 1) k s.cleared
              (λ one.
              let eq = one_of_row rows u (w.tenure + 1) (omega arith) (omega arith) one in
              omega arith) low (omega arith) (e ∙ ap (λ y. y + s.cleared) at));
        }

    pub quiet_reclaimer : (o : Op) → reclaim_op s ≡ Some o
        → IsQuiet h (record h {
          words = words_after h o;
          reclaimer = Some (reclaim_fed s (number_of_step h o));
        })
    quiet_reclaimer o due = elim (reclaim_does s o due) [
      | inl a ↦ quiet_scans o a
      | inr c ↦ subst (λ y. IsQuiet h (record h {
        words = words_after h y;
        reclaimer = Some (reclaim_fed s (number_of_step h y));
      })) (sym c.stores)
          (subst (λ y.
          IsQuiet h (record h { words = put (s.row + s.cleared) 0 h.words; reclaimer = Some y }))
          (sym (c.fed (h.words (s.row + s.cleared)))) (quiet_wipes c.all c.less))
    ]
