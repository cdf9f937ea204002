use Rattle.std.proofs.Common.{refl, ◌∙◌, subst}
use Rattle.bus_register.specs.declared.limits.TheConstants.{MOST_MESSAGES}
use Rattle.bus_batch.specs.Frames.{Spells, order_in, owners_in}
use Rattle.bus_batch.proofs.FrameLaws.{spells_one}
use Rattle.bus_deliverylog.specs.Logs.{IsTorn}
use Rattle.bus_deliverylog.proofs.ReadLaws.{begins}
use Rattle.bus_deliverylog.proofs.reading.read_log.Goals as goal

pub returns-then-inside-clause-torn : goal.returns-then-inside-clause-torn
returns-then-inside-clause-torn c _ =
    let r = c.in_ok-read.ensures.read in
    subst (λ z. IsTorn z c.args.words.now) r.senders_are (record {
      good = begins MOST_MESSAGES c.in_ok-read.reader.senders c.args.words.now r.pieces
          c.in_ok-read.reader r.had;
      unfinished = c.if-inside.ensures.torn _ c.args.words.now r.pieces r.had refl;
    })

pub returns-then-inside-clause-exact : goal.returns-then-inside-clause-exact
returns-then-inside-clause-exact c order owners spelt =
    let torn = returns-then-inside-clause-torn c refl in
    absurd (torn.unfinished (record {
      frames = spelt.frames;
      lawful = spelt.lawful;
      words_are = spelt.words_are;
    }))

pub returns-clause-exact : goal.returns-clause-exact
returns-clause-exact c order owners spelt =
    let r = c.in_ok-read.ensures.read in
    let whole : Spells c.args.senders c.args.words.now (order_in r.pieces) (owners_in r.pieces) =
    subst (λ z. Spells z c.args.words.now (order_in r.pieces) (owners_in r.pieces)) r.senders_are
    (c.inside.ensures.whole _ c.args.words.now r.pieces r.had c.if-inside.false) in
    let same = spells_one c.args.senders c.args.words.now (order_in r.pieces) order
    (owners_in r.pieces) owners whole spelt in
    (r.order_is ∙ same.0, r.owners_are ∙ same.1)
