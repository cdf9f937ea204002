use Rattle.std.proofs.Common.{map, ◌∙◌, arith}
use Rattle.std.proofs.lemmas.List.{take-append-le}
use Rattle.bus_batch.specs.Frames.{frame_words}
use Rattle.bus_journal.specs.Format.{header_bytes, records_bytes}
use Rattle.bus_journal.proofs.CutLaws.{cut_told, cut_ends}
use Rattle.bus_journal.proofs.HeaderLaws.{torn_cut}
use Rattle.bus_journal.proofs.laws.cut_journals_are_torn.Goals as goal

pub returns-clause-header : goal.returns-clause-header
returns-clause-header c h frames k bytes is below e =
    torn_cut h k bytes is below
    (e ∙ take-append-le k (header_bytes h) (records_bytes h.place (map frame_words frames))
    (omega arith))

pub returns-clause-told : goal.returns-clause-told
returns-clause-told c = cut_told

pub returns-clause-ends : goal.returns-clause-ends
returns-clause-ends c = cut_ends
