use Rattle.bus_batch.proofs.Standing.{stands_between, stands_ended, pieces_alike, between_alike}
use Rattle.bus_batch.proofs.Standing.{ended_alike, awaits_alike, behind_frame, behind_end}
use Rattle.bus_batch.proofs.laws.stands_where_its_words_end.Goals as goal

pub returns-clause-between : goal.returns-clause-between
returns-clause-between c = stands_between

pub returns-clause-ended : goal.returns-clause-ended
returns-clause-ended c = stands_ended

pub returns-clause-one : goal.returns-clause-one
returns-clause-one c senders words pieces pieces' r r' had had' = (
  pieces_alike senders words pieces pieces' r r' had had',
  between_alike senders words pieces pieces' r r' had had',
  ended_alike senders words pieces pieces' r r' had had',
)

pub returns-clause-awaits : goal.returns-clause-awaits
returns-clause-awaits c senders words pieces pieces' r r' rest further had had' =
    awaits_alike senders words pieces pieces' r r' had had' rest further

pub returns-clause-frame : goal.returns-clause-frame
returns-clause-frame c senders f r lawful had = (
  behind_frame senders f r lawful had,
  behind_end senders f r lawful had,
)
