use Rattle.std.proofs.Common.{rules, ◌+◌, ◌-◌, ◌≤◌, length, slice_index, arith}
use Rattle.bus_replay.proofs.HistoryLemmas.{copied}
use Rattle.bus_replay.proofs.histories.History.copy_published.Goals as goal

pub loop-place-preserved : goal.loop-place-preserved
loop-place-preserved c =
    let words = c.args.words.now in
    let before = length c.args.self.now.log in
    let capacity = c.args.self.now.capacity in
    let place = c.loop-place.place in
    let i = c.loop-place.invariant in
    let below : place + 1 - before ≤ slice_index words 0 - before = search rules in (
      omega (arith, i.0),
      below,
      i.2,
      i.3,
      search rules,
      copied (slice_index words) (length words - capacity) capacity before place _
          c.args.self.now.log c.loop-place.self-inside.log.items c.push.new.self.items i.0 i.5
          (search rules) c.in_ok-push.ensures.items,
    )
