-- How a new bus gets its free seats.
use Rattle.std.proofs.Common.{◌≡◌, ℕ, zero, suc, ◌+◌, ◌-◌, ◌≤◌, Bool, false}
use Rattle.std.proofs.Common.{Some, length, slice_get, arith, refl, sym, ap, subst}
use Rattle.std.proofs.Common.{◌∙◌}
use Rattle.bus_register.specs.Protocol.{Protocol}
use Rattle.bus_register.specs.Private.TableLaws.{get_set_other}
use Rattle.bus_adoptcommit.specs.declared.verdicts.Verdict.{Verdict}
use Rattle.bus_deliverylog.specs.Receiving.{Receiving, with_leave}
use Rattle.bus_tenure.specs.Core.{Election}
use Rattle.bus_tenure.specs.Elections.{Elector}
use Rattle.bus_world.specs.World.{Gone, no_bases}
use Rattle.bus_world.specs.declared.events.Answer.TheVariants as answer
use Rattle.bus_machine.specs.Machine.{Machine}
use Rattle.bus_machine.specs.Playing.{IsMadeWith, IsServed, Answers}
use Rattle.bus_replay.specs.Answers.{Empties, IsOpened}
use Rattle.bus_replay.specs.Lines.{shape_in, made_in, seats_in, reuse_in, passers_in}
use Rattle.bus_replay.specs.declared.lines.FirstLine.{FirstLine}
use Rattle.bus_replay.proofs.HistoryLemmas.{same_receivers}

-- none of these receivers has left, from this number on
abbrev pub StayFrom : {E : Type 0} → ℕ → Machine E → Type 0
StayFrom {E} from m =
    (r : ℕ) (v : Receiving) → from ≤ r → slice_get m.receivers r ≡ Some v → v.gone ≡ false

module _ {S : Type 0} (X : Election (Elector S)) (P : Protocol S Bool Verdict) where
  -- one more leaves, behind so many
  emptied_more : (m : Machine (Elector S)) (seat many : ℕ) (mid new : Machine (Elector S))
      → Empties X P m seat many mid → Answers X P mid (Gone (seat + many)) answer.Gone new
      → Empties X P m seat (suc many) new
  emptied_more m seat zero mid new run goes =
      let same : seat + 0 ≡ seat = omega arith in
      let here : Answers X P m (Gone (seat + 0)) answer.Gone new =
      subst (λ b. Answers X P b (Gone (seat + 0)) answer.Gone new) run goes in
      (new, subst (λ r. Answers X P m (Gone r) answer.Gone new) same here, refl)
  emptied_more m seat (suc many) mid new run goes =
      let same : seat + suc many ≡ seat + 1 + many = omega arith in (
        run.0,
        run.1,
        emptied_more run.0 (seat + 1) many mid new run.2
            (subst (λ r. Answers X P mid (Gone r) answer.Gone new) same goes),
      )

  -- the same, by the number of the one that leaves
  pub one_emptied : (m : Machine (Elector S)) (first seat : ℕ) (mid new : Machine (Elector S))
      → first ≤ seat → Empties X P m first (seat - first) mid
      → Answers X P mid (Gone seat) answer.Gone new → Empties X P m first (seat + 1 - first) new
  one_emptied m first seat mid new low run goes =
      let place : seat ≡ first + (seat - first) = omega arith in
      let more : suc (seat - first) ≡ seat + 1 - first = omega arith in
      subst (λ many. Empties X P m first many new) more
      (emptied_more m first (seat - first) mid new run
      (subst (λ r. Answers X P mid (Gone r) answer.Gone new) place goes))

  module _ (mid new : Machine (Elector S)) (seat : ℕ)
      (goes : Answers X P mid (Gone seat) answer.Gone new) where
    pub one_many : length new.receivers ≡ length mid.receivers
    one_many = same_receivers X mid new (Gone seat) answer.Gone goes.happens

    -- those past it have not left
    pub one_stays : StayFrom seat mid → StayFrom (seat + 1) new
    one_stays stay r v low at =
        let d = goes.happens in
        stay r v (omega arith)
        (sym (ap (λ (y : Machine (Elector S)). slice_get y.receivers r) d.after
        ∙ get_set_other mid.receivers seat (with_leave d.receiver) r (λ same. omega (arith, same)))
        ∙ at)

  -- of a bus that is no ring each seat has a receiver
  pub opened_whole : (first : FirstLine) (m : Machine (Elector S))
      → seats_in first ≡ (shape_in first).receivers → IsServed (shape_in first) (reuse_in first)
      → IsMadeWith X P (made_in first) (reuse_in first) (passers_in first) no_bases m
      → IsOpened X P first m
  opened_whole first m all served made = record {
    served = served;
    seats = (omega (arith, all), (let few = served.receivers.1 in omega (arith, all)));
    made = m;
    is_made = made;
    emptied = subst (λ many. Empties X P m (shape_in first).receivers many m) none refl;
  } where
    none : 0 ≡ seats_in first - (shape_in first).receivers
    none = omega (arith, all)
