use Rattle.std.proofs.Common.{◌≡◌, length}
use Rattle.bus_register.specs.declared.limits.TheConstants.{MOST_SENDERS}
use Rattle.bus_automaton.specs.Buses.{process_with}
use Rattle.bus_handles.specs.Pages.{AreNoted}
use Rattle.bus_handles.proofs.pages.senders_page.Given as goal

abbrev pub invariant-loop-place : goal.invariant-loop-place
invariant-loop-place g l =
    let P = process_with g.Q.Machine.kind_of g.Q.Machine.op g.Q.Machine.fed g.Q.Ratifier.protocol in
    (length l.next ≡ MOST_SENDERS) × AreNoted P l.senders l.place l.next
