-- No more than a whole log of words lies behind the floor that the words show, nor behind that of
-- the page at home.
use Rattle.std.proofs.Common.{◌≡◌, ℕ, zero, suc, ◌+◌, ◌*◌, ◌<◌, ◌≤◌, Option, Some, None}
use Rattle.std.proofs.Common.{length, slice_index, inl, inr, arith, refl, sym, ◌∙◌, ap, subst}
use Rattle.std.proofs.lemmas.Bool.{cases_lt}
use Rattle.bus_core.specs.declared.limits.TheConstants.{PASSED_APART}
use Rattle.bus_register.specs.Protocol.{Protocol}
use Rattle.bus_tenure.specs.Core.{Election}
use Rattle.bus_tenure.specs.declared.pages.Page.{Page}
use Rattle.bus_world.proofs.FloorLaws.{lesser_is}
use Rattle.bus_world.proofs.LogLaws.{length-logged}
use Rattle.bus_world.specs.Log.{floor_shown, least_passed}
use Rattle.bus_machine.proofs.Bases.AtNone.{flat_at_none}
use Rattle.bus_machine.proofs.Bases.CyclicTurns.{protocol_kept}
use Rattle.bus_machine.proofs.Frames.Framed.{IsFramed, framed}
use Rattle.bus_machine.proofs.Bases.Leading.{Sits, two_rows, led_some}
use Rattle.bus_machine.specs.Machine.{Machine, Trails, Reached, floor_of, passers_place}

-- what is past no passed place, and not past the length, is not past the least of them
least_above : (words : ℕ → ℕ) (at len floor n : ℕ) → floor ≤ len
    → ((r : ℕ) → r < n → floor ≤ words (at + PASSED_APART * r))
    → floor ≤ least_passed words at n len
least_above words at len floor zero low behind = low
least_above words at len floor (suc k) low behind =
    let before = least_above words at len floor k low (λ r l. behind r (omega arith)) in
    let here = behind k (omega arith) in
    elim (lesser_is (words (at + PASSED_APART * k)) (least_passed words at k len)) [
      | inl a ↦ let is = a.0 in omega arith
      | inr b ↦ let is = b.0 in omega arith
    ]

shown_above : (words : ℕ → ℕ) (at len floor n : ℕ) → floor ≤ len → (n ≡ 0 → floor ≡ 0)
    → ((r : ℕ) → r < n → floor ≤ words (at + PASSED_APART * r))
    → floor ≤ floor_shown words at n len
shown_above words at len floor zero low none behind = let first = none refl in omega arith
shown_above words at len floor (suc k) low none behind =
    least_above words at len floor (suc k) low behind

-- and the least of them is not past any of them
least_below : (words : ℕ → ℕ) (at len n r : ℕ) → r < n
    → least_passed words at n len ≤ words (at + PASSED_APART * r)
least_below words at len zero r low = absurd (omega arith)
least_below words at len (suc k) r low =
    let below : least_passed words at (suc k) len ≤ least_passed words at k len =
    elim (lesser_is (words (at + PASSED_APART * k)) (least_passed words at k len)) [
      | inl a ↦ let is = a.0 in let less = a.1 in omega arith
      | inr b ↦ let is = b.0 in omega arith
    ] in
    let here : least_passed words at (suc k) len ≤ words (at + PASSED_APART * k) =
    elim (lesser_is (words (at + PASSED_APART * k)) (least_passed words at k len)) [
      | inl a ↦ let is = a.0 in omega arith
      | inr b ↦ let is = b.0 in let less = b.1 in omega arith
    ] in
    elim (cases_lt r k) [
      | inl before ↦ let more = least_below words at len k r before in omega arith
      | inr last ↦
          let same : k ≡ r = omega arith in
          subst (λ q. least_passed words at (suc k) len ≤ words (at + PASSED_APART * q)) same here
    ]

pub shown_below : (words : ℕ → ℕ) (at len n r : ℕ) → r < n
    → floor_shown words at n len ≤ words (at + PASSED_APART * r)
shown_below words at len zero r low = absurd (omega arith)
shown_below words at len (suc k) r low = least_below words at len (suc k) r low

-- the floor that the page has, and room from there on
pub record HasRoom {E : Type 0} (m : Machine E) (T : Trails) : Type 0 where
  pub floor : ℕ
  pub low : floor ≤ floor_of m
  pub room : length T.log ≤ m.layout.capacity + floor
  pub home : (page : Page) → m.home ≡ Some page → page.floor ≡ floor

module _ {E : Type 0} (X : Election E) (P : Protocol E (Unit {0}) ℕ) (m : Machine E) (T : Trails)
    (S : Sits X P m) (h : Reached X m T) where
  abbrev f : IsFramed P m T
  f = framed X P m T S h

  pub has_room : HasRoom m T
  has_room = by m.reuse refl
    where
      by : (o : Option ℕ) → m.reuse ≡ o → HasRoom m T
      by None e =
          let flat = flat_at_none X m T h e in
          let first = f.flat flat in
          record {
            floor = f.floor;
            low = f.low;
            room =
                let many = ap length f.log_is in
                let size = length-logged f.sending.log in
                let fits = f.sending.log.fits flat in omega arith;
            home = f.floored_home;
          }
      by (Some rows) e =
          let led = led_some X P m T S h rows e in
          let kept = protocol_kept X P rows m T S.serves S.ok (two_rows X P m S rows e) led in
          let long : length T.log ≡ kept.V 0 =
          sym (ap length kept.kept.log_is) ∙ length-logged kept.kept.sending.log in
          let few = kept.kept.stored.few in
          let least = kept.kept.stored.low in
          record {
            floor = kept.kept.floor;
            low =
                subst (λ o. kept.kept.floor ≤ floor_shown (slice_index m.words)
                (passers_place m.layout o) m.layout.passers (slice_index m.words 0)) (sym e)
                (shown_above (slice_index m.words) (passers_place m.layout (Some rows))
                (slice_index m.words 0) kept.kept.floor m.layout.passers
                (let low = kept.kept.floors.low in
                let size = f.length in
                let many = ap length f.log_is in
                let whole = length-logged f.sending.log in omega arith)
                kept.kept.floors.none kept.kept.floors.behind);
            room = omega arith;
            home = kept.kept.stored.floor_home;
          }
