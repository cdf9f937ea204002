use Rattle.example_ledger.proofs.Outcomes.{functions}
use Rattle.example_ledger.proofs.ledgers_are_linearizable.Goals as goal

pub returns : goal.returns
returns c = record {
  functions = functions;
  histories = λ replayed first orders last calls.
      c.histories_are_linearizable.ensures replayed first orders last calls functions;
}
