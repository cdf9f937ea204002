-- What kinds of step are called: as they stand in the program.
use Rattle.std.specs.Prelude.{ℕ, List, codes}
use Rattle.bus_register.specs.declared.kinds.Kind.{Kind}
use Rattle.bus_register.specs.declared.kinds.Kind.TheVariants as kind

abbrev pub kind_name : Kind → List ℕ
kind_name kind.LoadStage = codes "LoadStage"
kind_name kind.Announce = codes "Announce"
kind_name kind.WriteFirst = codes "WriteFirst"
kind_name kind.ReadFirst = codes "ReadFirst"
kind_name kind.WriteSecond = codes "WriteSecond"
kind_name kind.ReadSecond = codes "ReadSecond"
kind_name kind.SetMark = codes "SetMark"
kind_name kind.ReadOtherMark = codes "ReadOtherMark"
kind_name kind.Vote = codes "Vote"
kind_name kind.ReadVotes = codes "ReadVotes"
kind_name kind.Fallback = codes "Fallback"
kind_name kind.ReadAnnouncement = codes "ReadAnnouncement"
kind_name kind.TakePage = codes "TakePage"
kind_name kind.StoreLogWord = codes "StoreLogWord"
kind_name kind.StoreLength = codes "StoreLength"
kind_name kind.GivePageBack = codes "GivePageBack"
kind_name kind.LoadLength = codes "LoadLength"
kind_name kind.LoadLogWord = codes "LoadLogWord"
kind_name kind.Enter = codes "Enter"
kind_name kind.LoadStageAgain = codes "LoadStageAgain"
kind_name kind.Withdraw = codes "Withdraw"
kind_name kind.ReadPresence = codes "ReadPresence"
kind_name kind.ClearRow = codes "ClearRow"
kind_name kind.ReadPassed = codes "ReadPassed"
kind_name kind.StorePassed = codes "StorePassed"
