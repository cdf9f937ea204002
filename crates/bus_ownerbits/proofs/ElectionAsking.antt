-- An election asks for a random word where its machine says so.
use Rattle.std.proofs.Common.{◌≡◌, Bool, false, refl}
use Rattle.bus_register.specs.Protocol.{Protocol}
use Rattle.bus_adoptcommit.specs.declared.verdicts.Verdict.{Verdict}
use Rattle.bus_binconsensus.specs.declared.objects.Object.{Object}
use Rattle.bus_binconsensus.specs.declared.objects.Object.TheVariants.{Ratify, Concile, Fall}
use Rattle.bus_binconsensus.specs.Objects.{Decider, decide_protocol, object_wants, object_calls}
use Rattle.bus_ownerbits.specs.declared.stages.Stage.{Stage}
use Rattle.bus_ownerbits.specs.declared.stages.Stage.TheVariants.{Announce, Propose, Search, Alone}
use Rattle.bus_ownerbits.specs.Election.{Electing}
use Rattle.bus_ownerbits.specs.ElectionAsks.{AsksAsTold}
use Rattle.bus_ownerbits.specs.ElectionKeeps.{wants_at}
use Rattle.bus_ownerbits.specs.ElectionNames.{calls_at}

object_asks : {S T : Type 0} (P : Protocol S Bool Verdict) (C : Protocol T Bool Bool)
    → ((q : S) → P.wants_word q ≡ false) → (x : Object S T) → object_wants P C x ≡ object_calls C x
object_asks P C never (Ratify q) = never q
object_asks P C never (Concile c) = refl
object_asks P C never (Fall f) = refl

stage_asks : {S T : Type 0} (P : Protocol S Bool Verdict) (C : Protocol T Bool Bool)
    → ((q : S) → P.wants_word q ≡ false)
    → (stage : Stage (Decider S T)) (s : Electing (Decider S T))
    → wants_at (decide_protocol P C) stage s ≡ calls_at C stage
stage_asks P C never Announce s = refl
stage_asks P C never (Propose d) s = object_asks P C never d.object
stage_asks P C never (Search i) s = refl
stage_asks P C never Alone s = refl

pub asks_as_told : {S T : Type 0} (P : Protocol S Bool Verdict) (C : Protocol T Bool Bool)
    → ((q : S) → P.wants_word q ≡ false) → AsksAsTold P C
asks_as_told P C never rounds s = stage_asks P C never s.stage s
