use Rattle.bus_adoptcommit.proofs.Names.{refuses_orders}
use Rattle.bus_adoptcommit.proofs.laws.orders_refuse.Goals as goal

pub returns : goal.returns
returns c = refuses_orders
