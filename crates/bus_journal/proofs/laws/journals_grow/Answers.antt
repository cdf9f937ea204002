use Rattle.bus_journal.proofs.AnswerLaws.{grows_none, grows_more, grows_by, all_few}
use Rattle.bus_journal.proofs.laws.journals_grow.Goals as goal

pub returns-clause-none : goal.returns-clause-none
returns-clause-none c = grows_none

pub returns-clause-more : goal.returns-clause-more
returns-clause-more c = grows_more

pub returns-clause-several : goal.returns-clause-several
returns-clause-several c = grows_by

pub returns-clause-few : goal.returns-clause-few
returns-clause-few c senders most frames lawful enough =
    all_few senders 0 most frames lawful enough
