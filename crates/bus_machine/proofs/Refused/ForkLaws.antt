-- No fork is one that goes down, takes a number that is taken, or makes another than its maker.
use Rattle.std.proofs.Common.{◌≡◌, ◌≢◌, ℕ, Bool, true, false, cond, Some, List, slice_get}
use Rattle.std.proofs.Common.{slice_index, slice_set, arith, refl, sym, ◌∙◌, ap}
use Rattle.std.proofs.lemmas.Bool.{true≢false}
use Rattle.std.proofs.lemmas.List.{get_or-set_same}
use Rattle.std.proofs.lemmas.Option.{same_Some, slice_get_within}
use Rattle.std.proofs.lemmas.Grind.{common_steps}
use Rattle.bus_deliverylog.specs.Receiving.{Receiving}
use Rattle.bus_register.specs.Private.TableLaws.{get_set_same, get_set_other}
use Rattle.bus_machine.specs.Forking.{ForkRefuses}
use Rattle.bus_machine.specs.Leaves.{is_gone}
use Rattle.bus_machine.specs.Machine.{Machine, Forks, fork_in, passed_by}

-- whether it is done or not, the others are what they were
set_beside : (receivers : List Receiving) (j r : ℕ) (v : Receiving) (did : Bool) → r ≢ j
    → slice_get (cond did (slice_set receivers j v) receivers) r ≡ slice_get receivers r
set_beside receivers j r v true other = get_set_other receivers j v r other
set_beside receivers j r v false other = refl

-- ---- a fork that is done
module _ {E : Type 0} (old new : Machine E) (i j : ℕ) (h : Forks old i j true new) where
  stands : slice_get new.receivers j ≡ Some (fork_in old j h.maker)
  stands = grind (arith, common_steps, slice_get, get_set_same, slice_get_within)

  -- the new one is what its maker is, but for its passed place
  made_of : (maker made : Receiving) → slice_get old.receivers i ≡ Some maker
      → slice_get new.receivers j ≡ Some made → made ≡ fork_in old j maker
  made_of maker made there now = grind (arith, common_steps, same_Some, stands)

  -- its passed place shows what that has passed
  shows : (place : ℕ) → passed_by old.layout old.reuse j ≡ Some place
      → slice_index new.words place ≡ h.maker.passed
  shows place is = grind (arith, common_steps, slice_index, slice_set, get_or-set_same)

pub fork_refused : {E : Type 0} → ForkRefuses E
fork_refused {E} = record {
  downwards = λ old new i j did low h. let up = h.up in omega arith;
  left = λ old new i j did left h. true≢false (sym left ∙ ap is_gone h.there ∙ h.stays);
  taken = λ old new i j stays h. true≢false (h.free ∙ sym (ap is_gone h.was) ∙ stays);
  free = λ old new i j left h. true≢false (sym left ∙ ap is_gone h.was ∙ sym h.free);
  idle = λ m i j h.
      true≢false (h.free ∙ ap is_gone (sym h.was ∙ stands m m i j h) ∙ h.stays);
  others = λ old new i j r did other changed h. grind (arith, common_steps, slice_get, set_beside);
  elsewhere = λ old new i j maker made there now other h.
      other (ap (λ (v : Receiving). v.place) (made_of old new i j h maker made there now));
  forgetful = λ old new i j maker made there now other h.
      other (ap (λ (v : Receiving). v.frames) (made_of old new i j h maker made there now));
  unshown = λ old new i j place maker there is other h.
      other (shows old new i j h place is
      ∙ ap (λ (v : Receiving). v.passed) (same_Some h.maker maker (sym h.there ∙ there)));
}
