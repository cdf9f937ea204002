-- Each kind of step has its family: name by name.
use Rattle.std.proofs.Common.{◌≡◌, Some, refl}
use Rattle.bus_register.specs.declared.kinds.Kind.{Kind}
use Rattle.bus_register.specs.declared.kinds.Kind.TheVariants as kind
use Rattle.bus_register.specs.Names.{kind_name}
use Rattle.bus_picture.specs.Families.{family_of, family_at}

pub has_family : (k : Kind) → family_of (kind_name k) ≡ Some (family_at k)
has_family kind.LoadStage = refl
has_family kind.Announce = refl
has_family kind.WriteFirst = refl
has_family kind.ReadFirst = refl
has_family kind.WriteSecond = refl
has_family kind.ReadSecond = refl
has_family kind.SetMark = refl
has_family kind.ReadOtherMark = refl
has_family kind.Vote = refl
has_family kind.ReadVotes = refl
has_family kind.Fallback = refl
has_family kind.ReadAnnouncement = refl
has_family kind.TakePage = refl
has_family kind.StoreLogWord = refl
has_family kind.StoreLength = refl
has_family kind.GivePageBack = refl
has_family kind.LoadLength = refl
has_family kind.LoadLogWord = refl
has_family kind.Enter = refl
has_family kind.LoadStageAgain = refl
has_family kind.Withdraw = refl
has_family kind.ReadPresence = refl
has_family kind.ClearRow = refl
has_family kind.ReadPassed = refl
has_family kind.StorePassed = refl
