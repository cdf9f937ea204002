use Rattle.std.proofs.Common.{Ok, Err, refl}
use Rattle.bus_handles.specs.declared.answers.RingFault.TheVariants.{Make}
use Rattle.bus_world.specs.declared.shapes.MakeFault.TheVariants.{NoMemory}
use Rattle.bus_c.proofs.buses.bus_c_open.Goals as goal

pub returns-in-Ok-hand_out : goal.returns-in-Ok-hand_out
returns-in-Ok-hand_out c = record {
  given = Ok (c.in-Ok.sending.items, c.in-Ok.receiving.items);
  opens = (
    c.in-Ok.ensures.opened,
    c.in-Ok.ensures.served.0,
    c.in-Ok.ensures.served.1,
    tt,
    c.in-Ok-hand_out.ensures.filled.0,
    c.in-Ok-hand_out.ensures.filled.1,
  );
  code = refl;
}

pub returns-in-Err-hand_out : goal.returns-in-Err-hand_out
returns-in-Err-hand_out c = record {
  given = Err (Make NoMemory);
  opens = (
    (c.in-Ok.ensures.served.0, λ _. c.in-Ok.ensures.served.1),
    c.in-Err-hand_out.ensures.refused.0,
    c.in-Err-hand_out.ensures.refused.1,
  );
  code = refl;
}

pub returns-in-Err : goal.returns-in-Err
returns-in-Err c = record {
  given = Err c.in-Err.fault;
  opens = (c.in-Err.ensures.fault, refl, refl);
  code = c.refused_code.ensures;
}
