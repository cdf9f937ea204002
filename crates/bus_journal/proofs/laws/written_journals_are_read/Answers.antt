use Rattle.std.proofs.Common.{map, ◌∙◌, ◌++◌, append_assoc}
use Rattle.bus_batch.specs.Frames.{frame_words}
use Rattle.bus_journal.specs.Format.{header_bytes, records_bytes}
use Rattle.bus_journal.proofs.AnswerLaws.{written_read}
use Rattle.bus_journal.proofs.HeaderLaws.{no_fault}
use Rattle.bus_journal.proofs.WrittenLaws.{told_whole}
use Rattle.bus_journal.proofs.laws.written_journals_are_read.Goals as goal

pub returns-clause-told : goal.returns-clause-told
returns-clause-told c = written_read

pub returns-clause-never : goal.returns-clause-never
returns-clause-never c h frames behind bytes f is e refused =
    let records = records_bytes h.place (map frame_words frames) in
    no_fault h (records ++ behind) bytes f is
    (e ∙ append_assoc (header_bytes h) records behind) refused

pub returns-clause-whole : goal.returns-clause-whole
returns-clause-whole c = told_whole
