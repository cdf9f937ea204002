-- What faults of journals are called where they are shown to a reader.
use Rattle.std.specs.Prelude.{ℕ, List, ◌++◌, codes, decimal}
use Rattle.bus_journal.specs.declared.headers.JournalFault.{JournalFault}
use Rattle.bus_journal.specs.declared.headers.JournalFault.TheVariants as fault

abbrev pub journal_fault_text : JournalFault → List ℕ
journal_fault_text fault.OtherMagic = codes "no journal"
journal_fault_text (fault.OtherVersion version) = codes "a journal of version " ++ decimal version
journal_fault_text fault.TornHeader = codes "the bytes end within the header"
journal_fault_text fault.DamagedHeader = codes "the header is damaged"
journal_fault_text fault.NoMemory = codes "no memory"
