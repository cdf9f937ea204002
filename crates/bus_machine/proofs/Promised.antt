-- Whatever leads to a machine, the promise holds of it: of both kinds of rows, by the frames of its
-- log.
use Rattle.std.proofs.Common.{ℕ, map, arith}
use Rattle.std.proofs.lemmas.Grind.{common_steps}
use Rattle.bus_batch.specs.Frames.{Spells, order_of, tenure_and_owner}
use Rattle.bus_register.specs.Protocol.{Protocol}
use Rattle.bus_tenure.specs.Core.{Election}
use Rattle.bus_machine.proofs.Frames.FloorWords.{page_lasts}
use Rattle.bus_machine.proofs.Frames.Framed.{IsFramed, framed, read_below, reuses, floors_low}
use Rattle.bus_machine.proofs.Frames.Knowing.{knows, out, past, owns, counts}
use Rattle.bus_machine.proofs.Bases.Leading.{Sits}
use Rattle.bus_machine.proofs.Ring.LoadsInTurn.{loads_in_turn}
use Rattle.bus_machine.proofs.Frames.Paging.{paged_it, takes_it, holds_it}
use Rattle.bus_machine.proofs.Memory.Remembering.{remembered}
use Rattle.bus_machine.proofs.Ring.ShownPlaces.{all_shown}
use Rattle.bus_machine.proofs.Tenures.PagesTaken.{takers_told}
use Rattle.bus_machine.specs.Machine.{Machine, Trails, Reached}
use Rattle.bus_machine.specs.Promise.{IsPromised, TakersTold}

module _ {E : Type 0} (X : Election E) (P : Protocol E (Unit {0}) ℕ) (m : Machine E) (T : Trails)
    (s : Sits X P m) (r : Reached X m T) where
  f : IsFramed P m T
  f = framed X P m T s r

  -- what was published spells the order of its frames
  spelled : Spells m.layout.senders T.log (order_of f.frames) (map tenure_and_owner f.frames)
  spelled = grind (arith, common_steps, f)

  -- who took the pages
  told : TakersTold m.reuse m.owners T.actions
  told = takers_told X P m T s r

  -- the promise
  pub promised : IsPromised X m T
  unfolding spelled
  promised = record {
    order = order_of f.frames;
    owners = map tenure_and_owner f.frames;
    by = record {
      stands = f.stands;
      below = λ flat. read_below P m T f flat;
      spelled = spelled;
      few = f.sending.log.few;
      edge = f.edge;
      comes = λ p v at stays. (f.reads p v at).3 stays;
      passes = f.passes;
      passed = f.heard;
      takers = told;
      promises = f.promises;
      paged = paged_it X P m T s f;
      finds = takes_it X P m T s f;
      holds = holds_it X P m T s f;
      owns = owns X P m T f told;
      counts = counts X P m T f told;
      knows = knows X P m T f (order_of f.frames) (map tenure_and_owner f.frames) spelled;
      out = out X P m T f told;
      floors = λ page has. floors_low P m T f page has;
      lasts = λ page has. page_lasts P m T f page has;
      loads = λ p v t word l at i. loads_in_turn X P m T s r p v t word l at i;
      shown = λ p v t page stored published q n at held found.
          all_shown X P m T s r p v t page stored published q n at held found;
      past = λ p v t page stored word o at. past X P m T f p v at t page stored word o;
      sent = f.puts;
      remembers = remembered X P m T s r;
      reuse = reuses X P m T s r;
    };
  }
