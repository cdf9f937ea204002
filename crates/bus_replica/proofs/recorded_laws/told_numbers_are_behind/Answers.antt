use Rattle.std.proofs.Common.{◌<◌, ◌≤◌, get_or, length, slice_index, subst, sym}
use Rattle.bus_replica.specs.Pages.{next_before, next_behind}
use Rattle.bus_replica.proofs.PageLaws.{behind_all, get_front, told_behind}
use Rattle.bus_replica.proofs.recorded_laws.told_numbers_are_behind.Goals as goal

pub returns-clause-told : goal.returns-clause-told
returns-clause-told c = λ before read page k item is at within low.
    let sender = item.sender.0 in
    subst (λ z. item.number < z) (sym (is.numbers sender within))
    (told_behind read.log.order.items.items
    (get_or read.header.first.items sender (next_before before sender)) k item at low)

pub returns-clause-earlier : goal.returns-clause-earlier
returns-clause-earlier c = λ before page read sender is follows within.
    let first = read.header.first.items in
    let items = read.log.order.items.items in
    let old = slice_index before.next sender in
    subst (λ z. old ≤ z) (sym (is.numbers sender within))
    (subst (λ z. old ≤ next_behind sender items (get_or z sender old)) (sym follows)
    (subst (λ z. old ≤ next_behind sender items z)
    (sym (get_front (length first) before.next sender))
    (behind_all sender items old)))
