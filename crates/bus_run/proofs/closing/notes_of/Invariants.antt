use Rattle.std.proofs.Common.{◌≡◌, length, map, vec_len, None, [], Some}
use Rattle.std.specs.Prelude.{All, IfSome, slice_get}
use Rattle.std.specs.Vec.{vec_capacity}
use Rattle.bus_receiver.specs.Listening.{bus_of}
use Rattle.bus_run.specs.Audit.{IsSummed}
use Rattle.bus_run.proofs.closing.notes_of.Given as goal

abbrev pub invariant-loop-receive_worker : goal.invariant-loop-receive_worker
invariant-loop-receive_worker g l = record {
  notes : l.heards.items ≡ map (λ receive_worker. receive_worker.heard) l.yielded;
  summed : All IsSummed l.heards.items;
  many : vec_len l.heards ≡ length l.yielded;
  room : vec_capacity l.heards ≡ vec_capacity l.fn.room;
  table : IfSome l.first (λ r. bus_of r ≡ g.B.OfBus.table);
  first : IfSome l.first (λ r.
      slice_get (map (λ receive_worker. receive_worker.receiver.me.0) l.yielded) 0 ≡ Some r.me.0);
  some : l.first ≡ None → l.yielded ≡ [];
}
