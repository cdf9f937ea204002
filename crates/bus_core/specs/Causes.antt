-- Why a sender takes a step of each kind: what holds of it before the step, read off what it holds.
-- In a tenure the causes are the same with both kinds of rows. Where rows are used again it stands
-- in that tenure besides, and six kinds come only there.
use Rattle.std.specs.Prelude.{◌≡◌, ◌⊎◌, ℕ, ◌<◌, Bool, true, false, Some, IfSome, IsSomeAnd}
use Rattle.bus_register.specs.declared.kinds.Kind.{Kind}
use Rattle.bus_register.specs.declared.kinds.Kind.TheVariants as kind
use Rattle.bus_register.specs.declared.registers.SenderNo.{SenderNo}
use Rattle.bus_register.specs.Protocol.{Protocol}
use Rattle.bus_adoptcommit.specs.declared.verdicts.Verdict.{Verdict}
use Rattle.bus_presence.specs.Reclaimers.{Reclaiming, IsClearing}
use Rattle.bus_presence.specs.declared.pins.Pin.TheVariants.{Away, Announcing, Validating, Pinned}
use Rattle.bus_presence.specs.declared.pins.Pin.TheVariants.{Unpinning, Invalidated}
use Rattle.bus_tenure.specs.Causes.{BeginsElection, IsInRatifier, IsInConciliator, AsksCoin}
use Rattle.bus_tenure.specs.Causes.{CountsVotes, IsAtFallback, SearchesCandidate, IsElected}
use Rattle.bus_tenure.specs.Causes.{HasWordLeft, HasStoredAll, LeavesPage, HoldsUnfitting}
use Rattle.bus_tenure.specs.Causes.{HasHandedOn}
use Rattle.bus_tenure.specs.Core.{Election}
use Rattle.bus_tenure.specs.Elections.{Elector}
use Rattle.bus_tenure.specs.declared.phases.Phase.TheVariants.{Resting, Electing}
use Rattle.bus_coinconc.specs.declared.conciliators.Stage.TheVariants.{SetMark, ReadOtherMark}
use Rattle.bus_walkcoin.specs.declared.coins.Phase.TheVariants.{Vote}
use Rattle.bus_core.specs.Reusing.Keeping.{IsBound, IsReclaimerAfter, IsRowReady, held_of}
use Rattle.bus_core.specs.Reusing.Turns.{Participant, sizes_of}
use Rattle.bus_core.specs.Senders.{Sender, participant_of}
use Rattle.bus_core.specs.Table.{line_now}
use Rattle.bus_core.specs.Keeping.{IsAway}
use Rattle.bus_core.specs.Telling.{LooksFirst}

-- ---- only where rows are used again: its pin
-- it may begin a tenure, which is not past for it, and which its presence does not name yet
pub record EntersTenure {E : Type 0} (v : Participant E) : Type 0 where
  pub tenure : ℕ
  pub pin : v.pin ≡ Announcing tenure
  pub may : IsBound v.core tenure

-- its presence names a tenure that it may begin, whose stage it has not seen since
pub record LooksAgain {E : Type 0} (v : Participant E) : Type 0 where
  pub tenure : ℕ
  pub pin : v.pin ≡ Validating tenure
  pub may : IsBound v.core tenure

-- its presence names a tenure that it remembers to have lost, or whose page it has taken, or that
-- it may not stand in
pub data LeavesTenure {E : Type 0} (v : Participant E) : Type 0 where
  AsLoser : (tenure : ℕ) (owner : SenderNo) → v.pin ≡ Unpinning tenure → v.lost ≡ Some owner
      → v.core.phase ≡ Resting → LeavesTenure v
  AsHolder : (tenure : ℕ) → v.pin ≡ Unpinning tenure → held_of v.core.phase ≡ Some tenure
      → LeavesTenure v
  AsLate : (tenure : ℕ) → v.pin ≡ Invalidated tenure → v.core.phase ≡ Resting → LeavesTenure v

-- it stands in the very tenure whose election it goes through
pub record StandsInRow {E : Type 0} (v : Participant E) : Type 0 where
  pub tenure : ℕ
  pub election : E
  pub pin : v.pin ≡ Pinned tenure
  pub elects : v.core.phase ≡ Electing tenure election

-- ---- its reclamation
-- it would give back the page of a tenure, and first makes the row of the next one ready
pub record MakesRowReady {E : Type 0} (v : Participant E) (s : Reclaiming) : Type 0 where
  pub away : v.pin ≡ Away
  pub leaves : LeavesPage v.core
  pub reclaims : v.reclaimer ≡ Some s
  pub tenure : ℕ
  pub held : held_of v.core.phase ≡ Some tenure
  pub after : IsReclaimerAfter (sizes_of v) tenure s

-- the presence of a sender has not passed yet
pub record AsksSender {E : Type 0} (v : Participant E) : Type 0 where
  pub reclaimer : Reclaiming
  pub makes : MakesRowReady v reclaimer
  pub sender_left : reclaimer.scanned < reclaimer.senders

-- each sender's presence has passed, and a word of the row is not cleared yet
pub record ClearsWord {E : Type 0} (v : Participant E) : Type 0 where
  pub reclaimer : Reclaiming
  pub makes : MakesRowReady v reclaimer
  pub clearing : IsClearing reclaimer

-- ---- its floor
-- it pins no tenure, its frame does not fit the log by the page's floor, and it has not loaded all
-- passed places
pub record AsksPassed {E : Type 0} (v : Participant E) : Type 0 where
  pub away : v.pin ≡ Away
  pub lacks : HoldsUnfitting v.core
  pub left : v.passed.loaded < v.core.layout.passers

-- ---- the page goes back
-- it pins no tenure, and the row of the tenure after the one whose page it has is ready
pub record HasRowReady {E : Type 0} (v : Participant E) : Type 0 where
  pub away : v.pin ≡ Away
  pub tenure : ℕ
  pub held : held_of v.core.phase ≡ Some tenure
  pub ready : IsRowReady (sizes_of v) tenure v.reclaimer

-- ---- with both kinds of rows
-- where rows are used again, it stands in the very tenure whose election it goes through
abbrev pub StandsInside : {E : Type 0} → Sender E → Type 0
StandsInside v = IfSome v.reuse (λ r. StandsInRow (participant_of v.core r))

-- it would give the page of a tenure back, or has handed it on; where rows are used again, it pins
-- none, and the row of the next one is ready
abbrev pub GivesPage : {E : Type 0} → Sender E → Type 0
GivesPage v =
    (LeavesPage v.core ⊎ HasHandedOn v.core)
    × IfSome v.reuse (λ r. HasRowReady (participant_of v.core r))

-- The sender has a cause for a step of this kind. The kinds of the last lines are a receiver's.
abbrev pub HasCause : {S : Type 0} → Protocol S Bool Verdict → Sender (Elector S) → Kind → Type 0
HasCause P v kind.LoadStage = LooksFirst v
HasCause P v kind.Enter = IsSomeAnd v.reuse (λ r. EntersTenure (participant_of v.core r))
HasCause P v kind.LoadStageAgain = IsSomeAnd v.reuse (λ r. LooksAgain (participant_of v.core r))
HasCause P v kind.Announce = StandsInside v × BeginsElection P v.core
HasCause P v kind.WriteFirst = StandsInside v × IsInRatifier P v.core false
HasCause P v kind.ReadFirst = StandsInside v × IsInRatifier P v.core true
HasCause P v kind.WriteSecond = StandsInside v × IsInRatifier P v.core true
HasCause P v kind.ReadSecond = StandsInside v × IsInRatifier P v.core true
HasCause P v kind.SetMark = StandsInside v × IsInConciliator P v.core SetMark
HasCause P v kind.ReadOtherMark = StandsInside v × IsInConciliator P v.core ReadOtherMark
HasCause P v kind.Vote = StandsInside v × AsksCoin P v.core Vote
HasCause P v kind.ReadVotes = StandsInside v × CountsVotes P v.core
HasCause P v kind.Fallback = StandsInside v × IsAtFallback P v.core
HasCause P v kind.ReadAnnouncement = StandsInside v × SearchesCandidate v.core
HasCause P v kind.Withdraw = IsSomeAnd v.reuse (λ r. LeavesTenure (participant_of v.core r))
HasCause P v kind.TakePage = StandsInside v × IsElected P v.core
HasCause P v kind.StoreLogWord = IsAway v.reuse × HasWordLeft v.core
HasCause P v kind.StoreLength = IsAway v.reuse × HasStoredAll v.core
HasCause P v kind.ReadPresence = IsSomeAnd v.reuse (λ r. AsksSender (participant_of v.core r))
HasCause P v kind.ClearRow = IsSomeAnd v.reuse (λ r. ClearsWord (participant_of v.core r))
HasCause P v kind.ReadPassed = IsSomeAnd v.reuse (λ r. AsksPassed (participant_of v.core r))
HasCause P v kind.GivePageBack = GivesPage v
HasCause P v kind.LoadLength = ⊥
HasCause P v kind.LoadLogWord = ⊥
HasCause P v kind.StorePassed = ⊥

-- whatever its next step is for, it has a cause
abbrev pub IsCaused : {S : Type 0} → Election (Elector S) → Protocol S Bool Verdict
    → Sender (Elector S) → Type 0
IsCaused X P v = (k : Kind) → (line_now X v).kind ≡ Some k → HasCause P v k
