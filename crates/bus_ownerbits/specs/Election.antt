-- One process in an election of at most 64 processes: it announces itself, and then proposes its
-- candidate's bits, from the highest, to a binary decision for each. After a bit that does not fit
-- its candidate, it looks for another one.
use Rattle.std.specs.Prelude.{ℕ, ◌+◌, ◌*◌, ◌-◌, ◌/◌, ◌^◌, Bool, Option, Some, None, ◌==◌, nat_lt}
use Rattle.std.specs.Prelude.{if◌then◌else◌}
use Rattle.bus_register.specs.declared.kinds.Kind.{Kind}
use Rattle.bus_register.specs.declared.kinds.Kind.TheVariants as kinds
use Rattle.bus_register.specs.declared.registers.Op.{Op}
use Rattle.bus_register.specs.declared.registers.Op.TheVariants.{Load, Store}
use Rattle.bus_register.specs.Protocol.{Protocol}
use Rattle.bus_register.specs.Digits.{digit}
use Rattle.bus_ownerbits.specs.declared.stages.Stage.{Stage}
use Rattle.bus_ownerbits.specs.declared.stages.Stage.TheVariants.{Announce, Propose, Search, Alone}
use Rattle.bus_ownerbits.specs.Sizes.{bit_at}

-- the decision of one bit, by the rounds that it has
abbrev pub Decisions : Type 0 → Type 1
Decisions S = ℕ → Protocol S Bool Bool

-- what one process holds
pub record Electing (S : Type 0) : Type 0 where
  pub n : ℕ
  pub me : ℕ
  pub rounds : ℕ
  pub at : ℕ
  -- how many bits are not decided yet
  pub left : ℕ
  -- the number that the decided bits spell
  pub spelled : ℕ
  pub candidate : ℕ
  -- how many turns are left, at most
  pub turns : ℕ
  pub stage : Stage S

-- the first word of the decision of the bit of value 2 ^ k: the announcements come before all
-- decisions
abbrev pub place : {S : Type 0} → Decisions S → Electing S → ℕ → ℕ
place D s k = s.at + s.n + k * (D s.rounds).width s.n

-- the process proposes its candidate's next bit
abbrev pub proposing : {S : Type 0} → Decisions S → Electing S → Electing S
proposing D s = record s {
  stage = Propose
      ((D s.rounds).started s.n s.me (bit_at (s.left - 1) s.candidate) (place D s (s.left - 1)));
}

-- it goes on with its candidate; where there is no bit it is alone
abbrev pub going : {S : Type 0} → Decisions S → Electing S → Electing S
going D s = if s.left == 0 then record s { stage = Alone } else proposing D s

-- a number fits the bits that are decided
abbrev pub fits_bits : {S : Type 0} → Electing S → ℕ → Bool
fits_bits s number = number / 2 ^ s.left == s.spelled

-- it goes on where its candidate fits, and else searches from the lowest number that fits
abbrev pub seeking : {S : Type 0} → Decisions S → Electing S → Electing S
seeking D s =
    if fits_bits s s.candidate then going D s
    else (if nat_lt (s.spelled * 2 ^ s.left) s.n
    then record s { stage = Search (s.spelled * 2 ^ s.left) } else going D s)

-- one more bit is decided
abbrev pub with_bit : {S : Type 0} → Electing S → Bool → Electing S
with_bit s bit = record s { left = s.left - 1; spelled = 2 * s.spelled + digit bit }

-- what follows a decision: after the last bit nothing
abbrev pub decided_by : {S : Type 0} → Decisions S → Electing S → Option Bool → Electing S
decided_by D s None = s
decided_by D s (Some bit) = if nat_lt 1 s.left then seeking D (with_bit s bit) else s

-- what follows the load of the announcement of i
abbrev pub search_after : {S : Type 0} → Decisions S → Electing S → ℕ → ℕ → Electing S
search_after D s i got =
    if got == 0
    then (if nat_lt (i + 1) s.n
    then (if fits_bits s (i + 1) then record s { stage = Search (i + 1) }
    else going D (record s { candidate = i })) else going D (record s { candidate = i }))
    else going D (record s { candidate = i })

abbrev pub fed_at : {S : Type 0} → Decisions S → (S → ℕ → ℕ → S) → Stage S → Electing S → ℕ → ℕ
    → Electing S
fed_at D fed Announce s got word = going D s
fed_at D fed (Propose d) s got word = decided_by D (record s { stage = Propose (fed d got word) })
    ((D s.rounds).output (fed d got word))
fed_at D fed (Search i) s got word = search_after D s i got
fed_at D fed Alone s got word = s

-- what the process holds after a step that found this number
abbrev pub election_fed : {S : Type 0} → Decisions S → (S → ℕ → ℕ → S) → Electing S → ℕ → ℕ
    → Electing S
election_fed D fed s got word = fed_at D fed s.stage (record s { turns = s.turns - 1 }) got word

abbrev pub op_at : {S : Type 0} → (S → ℕ → Option Op) → Stage S → Electing S → ℕ → Option Op
op_at op Announce s word = Some (Store record { 0 = s.at + s.me } 1)
op_at op (Propose d) s word = op d word
op_at op (Search i) s word = Some (Load record { 0 = s.at + i })
op_at op Alone s word = None

-- the next step
abbrev pub election_op : {S : Type 0} → (S → ℕ → Option Op) → Electing S → ℕ → Option Op
election_op op s word = op_at op s.stage s word

abbrev pub kind_at : {S : Type 0} → (S → Option Kind) → Stage S → Option Kind
kind_at kind Announce = Some kinds.Announce
kind_at kind (Propose d) = kind d
kind_at kind (Search i) = Some kinds.ReadAnnouncement
kind_at kind Alone = None

-- what the next step is for
abbrev pub election_kind : {S : Type 0} → (S → Option Kind) → Electing S → Option Kind
election_kind kind s = kind_at kind s.stage

abbrev pub bit_told : Option Bool → ℕ → Option ℕ
bit_told None spelled = None
bit_told (Some bit) spelled = Some (2 * spelled + digit bit)

abbrev pub owner_at : {S : Type 0} → Decisions S → Stage S → Electing S → Option ℕ
owner_at D Announce s = None
owner_at D (Propose d) s = bit_told ((D s.rounds).output d) s.spelled
owner_at D (Search i) s = None
owner_at D Alone s = Some s.spelled

-- the owner, once the last bit is decided: the number that the bits spell
abbrev pub owner_of : {S : Type 0} → Decisions S → Electing S → Option ℕ
owner_of D s = owner_at D s.stage s
