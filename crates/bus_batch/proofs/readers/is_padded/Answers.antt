use Rattle.std.proofs.Common.{rules}
use Rattle.bus_batch.proofs.Padding.{padded}
use Rattle.bus_batch.proofs.readers.is_padded.Goals as goal

pub returns : goal.returns
returns c =
    let p = padded c.args.bytes c.args.word c.requires.0 c.requires.1 in (
      λ yes. p.0 (search rules),
      λ none. let e = p.1 none in search rules,
    )
