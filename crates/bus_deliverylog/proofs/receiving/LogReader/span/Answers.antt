use Rattle.std.proofs.Common.{[], subst}
use Rattle.bus_deliverylog.specs.declared.receiving.RecvTurn.TheVariants as turn
use Rattle.bus_deliverylog.specs.Receiving.{LogReading, TakesNext, TakesWithin, midway_in}
use Rattle.bus_deliverylog.proofs.ReceiveLaws.{if_some, span_begins, span_goes_on}
use Rattle.bus_deliverylog.proofs.receiving.LogReader.span.Goals as goal

pub returns-clause-begins : goal.returns-clause-begins
returns-clause-begins c =
    if_some
    (λ span leads.
    subst (λ (r : LogReading). TakesNext r c.args.told turn.Going (midway_in r span []))
    c.self.view_is (span_begins _ span c.args.told leads)) c.span.result c.span.ensures.begins

pub returns-clause-within : goal.returns-clause-within
returns-clause-within c =
    let parts : LogReading = record {
      known = c.self.inside.known;
      place = c.self.inside.place;
      frames = c.self.inside.frames;
      ended = c.self.inside.ended;
    } in
    if_some
    (λ span goes. subst (λ (r : LogReading). TakesWithin r span) c.self.view_is
    (span_goes_on parts span goes)) c.span.result c.span.ensures.within
