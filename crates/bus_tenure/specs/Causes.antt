-- Why a sender takes a step in its tenures: what holds of it before the step, read off what it
-- holds. Which kind of step wants which of these is a list of bus_core (HasCause).
use Rattle.std.specs.Prelude.{◌≡◌, ◌≢◌, ℕ, ◌+◌, ◌<◌, ◌≤◌, ◌⊎◌, Bool, true, false, Some, None}
use Rattle.bus_register.specs.Protocol.{Protocol}
use Rattle.bus_adoptcommit.specs.declared.verdicts.Verdict.{Verdict}
use Rattle.bus_batch.specs.Batches.{HasSomething}
use Rattle.bus_batch.specs.declared.batches.Phase.TheVariants.{Closed}
use Rattle.bus_binconsensus.specs.declared.objects.Object.TheVariants.{Ratify, Concile, Fall}
use Rattle.bus_binconsensus.specs.declared.fallbacks.Fallback.{Fallback}
use Rattle.bus_binconsensus.specs.Objects.{Decider}
use Rattle.bus_walkcoin.specs.declared.coins.Phase.{Phase}
use Rattle.bus_walkcoin.specs.declared.coins.Phase.TheVariants.{ReadVotes}
use Rattle.bus_walkcoin.specs.Coin.{CoinState}
use Rattle.bus_coinconc.specs.declared.conciliators.Stage.{Stage}
use Rattle.bus_coinconc.specs.declared.conciliators.Stage.TheVariants.{AskCoin}
use Rattle.bus_coinconc.specs.Conciliator.{ConciliatorState}
use Rattle.bus_ownerbits.specs.declared.stages.Stage.TheVariants.{Propose, Search}
use Rattle.bus_ownerbits.specs.Election.{fits_bits}
use Rattle.bus_ownerbits.specs.Sizes.{bits_of}
use Rattle.bus_tenure.specs.declared.pages.Page.{Page}
use Rattle.bus_tenure.specs.declared.phases.Reason.{Reason}
use Rattle.bus_tenure.specs.declared.phases.Phase.TheVariants.{Resting, Electing, Holding, Giving}
use Rattle.bus_tenure.specs.Core.{Core, row_at, frame_len}
use Rattle.bus_tenure.specs.Elections.{Elector, elections}

-- it has begun no tenure, has something to send, and has a tenure left to enter
pub record LooksForTenure {E : Type 0} (c : Core E) : Type 0 where
  pub rests : c.phase ≡ Resting
  pub not_closed : c.queue.phase ≢ Closed
  pub something : HasSomething c.queue
  pub tenure_left : c.least < c.layout.rows

-- its election is as it started
pub record BeginsElection {S : Type 0} (P : Protocol S Bool Verdict) (c : Core (Elector S)) :
    Type 0 where
  pub tenure : ℕ
  pub starts : c.phase
      ≡ Electing tenure
      ((elections P c.layout.rounds).started c.layout.senders c.me tt (row_at c.layout tenure))

-- its election has no owner yet, and is at the decision of a bit, where it stands thus
pub record IsDeciding {S : Type 0} (P : Protocol S Bool Verdict) (c : Core (Elector S))
    (decision : Decider S ConciliatorState) : Type 0 where
  pub tenure : ℕ
  pub election : Elector S
  pub elects : c.phase ≡ Electing tenure election
  pub proposes : election.stage ≡ Propose decision
  pub unended : (elections P c.layout.rounds).output election ≡ None

-- it is in a ratifier of a bit's decision, and has taken its first step there, or has not
pub record IsInRatifier {S : Type 0} (P : Protocol S Bool Verdict) (c : Core (Elector S))
    (begun : Bool) : Type 0 where
  pub decision : Decider S ConciliatorState
  pub deciding : IsDeciding P c decision
  pub ratifier : S
  pub here : decision.object ≡ Ratify ratifier
  pub stands : P.has_begun ratifier ≡ begun

-- it is in a conciliator of a bit's decision, at this stage of it
pub record IsInConciliator {S : Type 0} (P : Protocol S Bool Verdict) (c : Core (Elector S))
    (stage : Stage) : Type 0 where
  pub decision : Decider S ConciliatorState
  pub deciding : IsDeciding P c decision
  pub conciliator : ConciliatorState
  pub here : decision.object ≡ Concile conciliator
  pub stands : conciliator.stage ≡ stage

-- it has seen the other mark of a conciliator set, and asks the coin, which is at this phase
pub record AsksCoin {S : Type 0} (P : Protocol S Bool Verdict) (c : Core (Elector S))
    (phase : Phase) : Type 0 where
  pub coin : CoinState
  pub asks : IsInConciliator P c (AskCoin coin)
  pub stands : coin.phase ≡ phase

-- it has voted, and is at the load of the counter
abbrev pub CountsVotes : {S : Type 0} → Protocol S Bool Verdict → Core (Elector S) → Type 0
CountsVotes P c = AsksCoin P c ReadVotes

-- it is at the fallback word of a bit's decision, past all rounds
pub record IsAtFallback {S : Type 0} (P : Protocol S Bool Verdict) (c : Core (Elector S)) :
    Type 0 where
  pub decision : Decider S ConciliatorState
  pub deciding : IsDeciding P c decision
  pub fallback : Fallback
  pub here : decision.object ≡ Fall fallback
  pub last : decision.after ≡ 0

-- it has seen a bit decided, not the last, the bits so far do not fit its candidate, and the number
-- that it searches is a sender's
pub record SearchesCandidate {S : Type 0} (c : Core (Elector S)) : Type 0 where
  pub tenure : ℕ
  pub election : Elector S
  pub number : ℕ
  pub elects : c.phase ≡ Electing tenure election
  pub searches : election.stage ≡ Search number
  pub below : number < c.layout.senders
  pub some_decided : election.left < bits_of c.layout.senders
  pub some_left : 1 ≤ election.left
  pub unfit : fits_bits election election.candidate ≡ false

-- its election has ended, at the last bit, and the bits spell the sender itself
pub record IsElected {S : Type 0} (P : Protocol S Bool Verdict) (c : Core (Elector S)) :
    Type 0 where
  pub tenure : ℕ
  pub election : Elector S
  pub elects : c.phase ≡ Electing tenure election
  pub last_bit : election.left ≤ 1
  pub spells : (elections P c.layout.rounds).output election ≡ Some c.me

-- the page lies before it, the order has not ended, its frame fits the log, and so many words of it
-- are stored
pub record HoldsFitting {E : Type 0} (c : Core E) (stored : ℕ) : Type 0 where
  pub tenure : ℕ
  pub page : Page
  pub holds : c.phase ≡ Holding tenure page stored false
  pub not_ended : page.ended ≡ false
  pub room : page.words + frame_len c ≤ c.layout.capacity + page.floor

-- a word of its frame is not stored yet
pub record HasWordLeft {E : Type 0} (c : Core E) : Type 0 where
  pub stored : ℕ
  pub holds : HoldsFitting c stored
  pub word_left : stored < frame_len c

-- all words of its frame are stored
pub record HasStoredAll {E : Type 0} (c : Core E) : Type 0 where
  pub holds : HoldsFitting c (frame_len c)

-- the page lies before it, and the length is stored, or the order has ended, or its frame does not
-- fit the log
pub record LeavesPage {E : Type 0} (c : Core E) : Type 0 where
  pub tenure : ℕ
  pub page : Page
  pub stored : ℕ
  pub published : Bool
  pub holds : c.phase ≡ Holding tenure page stored published
  pub why : (published ≡ true)
      ⊎ ((page.ended ≡ true) ⊎ (c.layout.capacity + page.floor < page.words + frame_len c))

-- the page lies before it, the order has not ended, and its frame does not fit the log by the
-- page's floor
pub record HoldsUnfitting {E : Type 0} (c : Core E) : Type 0 where
  pub tenure : ℕ
  pub page : Page
  pub stored : ℕ
  pub holds : c.phase ≡ Holding tenure page stored false
  pub goes_on : page.ended ≡ false
  pub full : c.layout.capacity + page.floor < page.words + frame_len c

-- it has handed the page on
pub record HasHandedOn {E : Type 0} (c : Core E) : Type 0 where
  pub tenure : ℕ
  pub reason : Reason
  pub gives : c.phase ≡ Giving tenure reason
