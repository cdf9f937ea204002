use Rattle.std.proofs.Common.{◌≡◌, ◌++◌, map, string_bytes, drop}
use Rattle.std.specs.Prelude.{codes, flat_map}
use Rattle.bus_replay.specs.Text.{behind}
use Rattle.bus_replay.proofs.closing.push_owners.Given as goal

abbrev pub invariant-loop-owner : goal.invariant-loop-owner
invariant-loop-owner l =
    string_bytes l.text ++ flat_map behind (map (λ s. s.0) (drop l.owner-index l.owners))
    ≡ string_bytes l.fn.text ++ codes "owners" ++ flat_map behind (map (λ s. s.0) l.owners)
