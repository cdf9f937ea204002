use Rattle.bus_deliverylog.proofs.PassLaws.{next_apart, leaving_apart, joining_apart}
use Rattle.bus_deliverylog.proofs.receiving.Reader.writes_apart.Goals as goal

pub returns-clause-next : goal.returns-clause-next
returns-clause-next c = next_apart _ _ c.self.view_is c.self.invariant.5

pub returns-clause-leaving : goal.returns-clause-leaving
returns-clause-leaving c = leaving_apart _ _ c.self.view_is c.self.invariant.5

pub returns-clause-joining : goal.returns-clause-joining
returns-clause-joining c = joining_apart _ _ c.self.view_is c.self.invariant.5
