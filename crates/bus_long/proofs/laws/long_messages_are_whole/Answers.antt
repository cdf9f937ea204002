use Rattle.bus_long.proofs.Orders.{longs_one, longs_grow, longs_joined, longs_whole}
use Rattle.bus_long.proofs.laws.long_messages_are_whole.Goals as goal

pub returns-clause-one : goal.returns-clause-one
returns-clause-one c = longs_one

pub returns-clause-grow : goal.returns-clause-grow
returns-clause-grow c = longs_grow

pub returns-clause-joined : goal.returns-clause-joined
returns-clause-joined c = longs_joined

pub returns-clause-whole : goal.returns-clause-whole
returns-clause-whole c = longs_whole
