use Rattle.std.proofs.Common.{sym, ap, ◌∙◌}
use Rattle.std.proofs.lemmas.Bool.{false≢true}
use Rattle.bus_batch.specs.Reading.{Reading, is_between}
use Rattle.bus_batch.proofs.Feeding.{between_is_log, between_goes_on, outside_between, not_between}
use Rattle.bus_batch.proofs.readers.FrameReader.is_between.Goals as goal

pub returns-in-Between-clause-log : goal.returns-in-Between-clause-log
returns-in-Between-clause-log c most words pieces had _ =
    let at = sym (ap (λ (r : Reading). is_between r.place) c.self.view_is)
    ∙ ap is_between c.in-Between.is in (
      between_is_log most c.args.self.now.senders words pieces c.args.self.now had at,
      between_goes_on most c.args.self.now.senders words pieces c.args.self.now had at,
    )

pub returns-in_default : goal.returns-in_default
returns-in_default c =
    let not = not_between c.self.inside.place c.in_default.not-Between
    ∙ ap (λ (r : Reading). is_between r.place) c.self.view_is in
    record {
      between = not;
      log = λ most words pieces had t. absurd (false≢true t);
      within = λ most words pieces had _. outside_between most c.args.self.now.senders words pieces
          c.args.self.now had (sym not);
    }
