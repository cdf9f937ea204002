-- Families of kinds, by which marks are shaped.
use Rattle.std.specs.Prelude.{ℕ, Bool, List, [], ◌∷◌, Option, Some, None, codes, if◌then◌else◌}
use Rattle.std.specs.List.{list_any}
use Rattle.std.specs.Str.{bytes_eq}
use Rattle.bus_register.specs.declared.kinds.Kind.{Kind}
use Rattle.bus_register.specs.declared.kinds.Kind.TheVariants as kind
use Rattle.bus_picture.specs.declared.families.Family.{Family}
use Rattle.bus_picture.specs.declared.families.Family.TheVariants as family

-- one of these texts
abbrev pub is_one_of : List (List ℕ) → List ℕ → Bool
is_one_of texts text = list_any (λ one. bytes_eq text one) texts

abbrev pub looks : List (List ℕ)
looks =
    codes "LoadStage" ∷ codes "ReadFirst" ∷ codes "ReadSecond" ∷ codes "ReadOtherMark"
    ∷ codes "ReadVotes" ∷ codes "ReadAnnouncement" ∷ codes "LoadLength" ∷ codes "LoadLogWord"
    ∷ codes "LoadStageAgain" ∷ codes "ReadPresence" ∷ codes "ReadPassed" ∷ []

abbrev pub stores : List (List ℕ)
stores =
    codes "Announce" ∷ codes "WriteFirst" ∷ codes "WriteSecond" ∷ codes "SetMark"
    ∷ codes "StoreLogWord" ∷ codes "StoreLength" ∷ codes "Enter" ∷ codes "Withdraw"
    ∷ codes "ClearRow" ∷ codes "StorePassed" ∷ []

abbrev pub calls : List (List ℕ)
calls =
    codes "put" ∷ codes "close" ∷ codes "leave" ∷ codes "stop" ∷ codes "gone" ∷ codes "fork" ∷ []

-- the family of what stands in the column of kinds, where that is a kind's name, a fork's, a call's
-- or a dash
abbrev pub family_of : List ℕ → Option Family
family_of kind =
    if is_one_of looks kind then Some family.Look else
    (if is_one_of stores kind then Some family.Store else
    (if bytes_eq kind (codes "Vote") then Some family.Add else
    (if is_one_of (codes "Fallback" ∷ codes "Fork" ∷ []) kind then Some family.Exchange else
    (if is_one_of (codes "TakePage" ∷ codes "GivePageBack" ∷ []) kind then Some family.Page else
    (if is_one_of calls kind then Some family.Call else
    (if bytes_eq kind (codes "-") then Some family.Nothing else None))))))

-- the shape of its mark
abbrev pub mark_name : Family → List ℕ
mark_name family.Look = codes "look"
mark_name family.Store = codes "store"
mark_name family.Add = codes "add"
mark_name family.Exchange = codes "exchange"
mark_name family.Page = codes "page"
mark_name family.Call = codes "call"
mark_name family.Nothing = codes "nothing"

-- of a kind of step: what it does to its word, and whether that is the stage
abbrev pub family_at : Kind → Family
family_at kind.LoadStage = family.Look
family_at kind.Announce = family.Store
family_at kind.WriteFirst = family.Store
family_at kind.ReadFirst = family.Look
family_at kind.WriteSecond = family.Store
family_at kind.ReadSecond = family.Look
family_at kind.SetMark = family.Store
family_at kind.ReadOtherMark = family.Look
family_at kind.Vote = family.Add
family_at kind.ReadVotes = family.Look
family_at kind.Fallback = family.Exchange
family_at kind.ReadAnnouncement = family.Look
family_at kind.TakePage = family.Page
family_at kind.StoreLogWord = family.Store
family_at kind.StoreLength = family.Store
family_at kind.GivePageBack = family.Page
family_at kind.LoadLength = family.Look
family_at kind.LoadLogWord = family.Look
family_at kind.Enter = family.Store
family_at kind.LoadStageAgain = family.Look
family_at kind.Withdraw = family.Store
family_at kind.ReadPresence = family.Look
family_at kind.ClearRow = family.Store
family_at kind.ReadPassed = family.Look
family_at kind.StorePassed = family.Store
