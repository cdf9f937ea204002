-- What is appended to receivers at their starts.
use Rattle.std.proofs.Common.{ℕ, ◌+◌, Option, List, [], ◌∷◌, ◌++◌, arith, sym, ◌∙◌, subst}
use Rattle.std.proofs.lemmas.List.{length-append}
use Rattle.bus_deliverylog.specs.Receiving.{Receiving}
use Rattle.bus_register.proofs.PushLaws.{each_more}
use Rattle.bus_world.specs.Starting.{IsNewReceiver, AreNewReceivers, passed_behind}

pub one_more_receiver : (n log capacity : ℕ) (first : Option ℕ) (many : ℕ)
    (receivers : List Receiving) (v : Receiving)
    → AreNewReceivers n log capacity first many receivers
    → IsNewReceiver n log capacity (passed_behind first many) v
    → AreNewReceivers n log capacity first (many + 1) (receivers ++ v ∷ [])
one_more_receiver n log capacity first many receivers v h new = record {
  many_are = length-append receivers (v ∷ []) ∙ (let z = h.many_are in omega arith);
  each = each_more (λ r w. IsNewReceiver n log capacity (passed_behind first r) w) receivers v
      h.each
      (subst (λ r. IsNewReceiver n log capacity (passed_behind first r) v) (sym h.many_are) new);
}
