-- What is no cause of a sender's step.
use Rattle.std.specs.Prelude.{◌≡◌, ◌≢◌, ℕ, ◌+◌, ◌<◌, ◌≤◌, false, true, Bool, Some, None, []}
use Rattle.bus_register.specs.declared.kinds.Kind.{Kind}
use Rattle.bus_register.specs.declared.kinds.Kind.TheVariants as kind
use Rattle.bus_register.specs.Protocol.{Protocol}
use Rattle.bus_adoptcommit.specs.declared.verdicts.Verdict.{Verdict}
use Rattle.bus_adoptcommit.specs.Kinds.{IsOfRatifier}
use Rattle.bus_batch.specs.declared.batches.Phase.TheVariants.{Open, Closed}
use Rattle.bus_binconsensus.specs.Objects.{Decider}
use Rattle.bus_walkcoin.specs.Coin.{CoinState}
use Rattle.bus_walkcoin.specs.declared.coins.Phase.TheVariants.{Vote}
use Rattle.bus_coinconc.specs.declared.conciliators.Stage.{Stage}
use Rattle.bus_coinconc.specs.declared.conciliators.Stage.TheVariants.{SetMark, AskCoin}
use Rattle.bus_coinconc.specs.Conciliator.{ConciliatorState}
use Rattle.bus_coinconc.specs.ConciliatorKinds.{IsOfConciliator}
use Rattle.bus_presence.specs.Reclamation.{row_of}
use Rattle.bus_presence.specs.Reclaimers.{Reclaiming, is_reclaimed}
use Rattle.bus_presence.specs.declared.pins.Pin.TheVariants.{Away, Announcing, Validating, Pinned}
use Rattle.bus_presence.specs.declared.pins.Pin.TheVariants.{Unpinning, Invalidated}
use Rattle.bus_tenure.specs.Causes.{IsDeciding, IsInRatifier, IsInConciliator, AsksCoin}
use Rattle.bus_tenure.specs.Causes.{CountsVotes, IsAtFallback}
use Rattle.bus_ownerbits.specs.declared.stages.Stage.TheVariants.{Search}
use Rattle.bus_ownerbits.specs.Election.{fits_bits}
use Rattle.bus_ownerbits.specs.Sizes.{bits_of}
use Rattle.bus_tenure.specs.Core.{frame_len}
use Rattle.bus_tenure.specs.Elections.{Elector, elections}
use Rattle.bus_tenure.specs.declared.pages.Page.{Page}
use Rattle.bus_tenure.specs.declared.phases.Phase.TheVariants.{Resting, Electing, Holding}
use Rattle.bus_core.specs.Reusing.Participants.{sizes_with}
use Rattle.bus_core.specs.Reusing.Keeping.{held_of}
use Rattle.bus_core.specs.declared.reuses.Reuse.{Reuse}
use Rattle.bus_core.specs.Causes.{HasCause}
use Rattle.bus_core.specs.Senders.{Sender}

-- a step of an election, or the one that takes the page
abbrev pub IsOfElection : Kind → Type 0
IsOfElection kind.Announce = Unit {0}
IsOfElection kind.WriteFirst = Unit {0}
IsOfElection kind.ReadFirst = Unit {0}
IsOfElection kind.WriteSecond = Unit {0}
IsOfElection kind.ReadSecond = Unit {0}
IsOfElection kind.SetMark = Unit {0}
IsOfElection kind.ReadOtherMark = Unit {0}
IsOfElection kind.Vote = Unit {0}
IsOfElection kind.ReadVotes = Unit {0}
IsOfElection kind.Fallback = Unit {0}
IsOfElection kind.ReadAnnouncement = Unit {0}
IsOfElection kind.TakePage = Unit {0}
IsOfElection kind.LoadStage = ⊥
IsOfElection kind.Enter = ⊥
IsOfElection kind.LoadStageAgain = ⊥
IsOfElection kind.Withdraw = ⊥
IsOfElection kind.ReadPresence = ⊥
IsOfElection kind.ClearRow = ⊥
IsOfElection kind.ReadPassed = ⊥
IsOfElection kind.StoreLogWord = ⊥
IsOfElection kind.StoreLength = ⊥
IsOfElection kind.GivePageBack = ⊥
IsOfElection kind.LoadLength = ⊥
IsOfElection kind.LoadLogWord = ⊥
IsOfElection kind.StorePassed = ⊥

-- in its tenures, with both kinds of rows
pub record RefusesOwn {S : Type 0} (P : Protocol S Bool Verdict) (v : Sender (Elector S)) :
    Type 0 where
  -- it looks at the stage with nothing to send, once its batch is closed, with no tenure left to
  -- enter, or in an election
  pub looks_with_nothing : v.core.queue.messages ≡ [] → v.core.queue.phase ≡ Open
      → ¬ HasCause P v kind.LoadStage
  pub looks_once_closed : v.core.queue.phase ≡ Closed → ¬ HasCause P v kind.LoadStage
  pub looks_past_the_last : v.core.layout.rows ≤ v.core.least → ¬ HasCause P v kind.LoadStage
  pub looks_in_an_election : (t : ℕ) (e : Elector S) → v.core.phase ≡ Electing t e
      → ¬ HasCause P v kind.LoadStage
  -- it rests, and takes the page, stores a word of a log or a length, gives a page back, or goes to
  -- a fallback word
  pub resting_takes : v.core.phase ≡ Resting → ¬ HasCause P v kind.TakePage
  pub resting_stores : v.core.phase ≡ Resting → ¬ HasCause P v kind.StoreLogWord
  pub resting_publishes : v.core.phase ≡ Resting → ¬ HasCause P v kind.StoreLength
  pub resting_gives_back : v.core.phase ≡ Resting → ¬ HasCause P v kind.GivePageBack
  pub resting_falls_back : v.core.phase ≡ Resting → ¬ HasCause P v kind.Fallback
  -- it holds the page of an order that has ended, or one on which its frame does not fit the log,
  -- and stores a word of it or a length
  pub ended_stores : (tenure : ℕ) (page : Page) (stored : ℕ)
      → v.core.phase ≡ Holding tenure page stored false → page.ended ≡ true
      → ¬ HasCause P v kind.StoreLogWord
  pub ended_publishes : (tenure : ℕ) (page : Page) (stored : ℕ)
      → v.core.phase ≡ Holding tenure page stored false → page.ended ≡ true
      → ¬ HasCause P v kind.StoreLength
  pub stores_without_room : (tenure : ℕ) (page : Page) (stored : ℕ)
      → v.core.phase ≡ Holding tenure page stored false
      → v.core.layout.capacity + page.floor < page.words + frame_len v.core
      → ¬ HasCause P v kind.StoreLogWord
  pub publishes_without_room : (tenure : ℕ) (page : Page) (stored : ℕ)
      → v.core.phase ≡ Holding tenure page stored false
      → v.core.layout.capacity + page.floor < page.words + frame_len v.core
      → ¬ HasCause P v kind.StoreLength
  -- it holds a page, and stores a length before all words of its frame are stored
  pub unstored_publishes : (tenure : ℕ) (page : Page) (stored : ℕ)
      → v.core.phase ≡ Holding tenure page stored false → stored < frame_len v.core
      → ¬ HasCause P v kind.StoreLength
  -- it holds a page, and stores a word past its frame, or the length a second time
  pub stores_past_the_frame : (tenure : ℕ) (page : Page) (stored : ℕ)
      → v.core.phase ≡ Holding tenure page stored false
      → frame_len v.core ≤ stored → ¬ HasCause P v kind.StoreLogWord
  pub publishes_again : (tenure : ℕ) (page : Page) (stored : ℕ)
      → v.core.phase ≡ Holding tenure page stored true → ¬ HasCause P v kind.StoreLength
  -- it holds the page of an order that goes on, its frame fits the log, and it gives the page back
  -- before the length is stored
  pub unsent_gives_back : (tenure : ℕ) (page : Page) (stored : ℕ)
      → v.core.phase ≡ Holding tenure page stored false → page.ended ≡ false
      → page.words + frame_len v.core ≤ v.core.layout.capacity + page.floor
      → ¬ HasCause P v kind.GivePageBack
  -- it announces itself, and its election has begun
  pub announces_again : (t : ℕ) (e : Elector S) → v.core.phase ≡ Electing t e
      → (elections P v.core.layout.rounds).has_begun e ≡ true
      → ¬ HasCause P v kind.Announce
  -- it has brought nothing to a ratifier, and goes on there, or has brought its bit, and begins
  -- again
  pub unbrought_reads_first : IsInRatifier P v.core false → ¬ HasCause P v kind.ReadFirst
  pub unbrought_writes_second : IsInRatifier P v.core false → ¬ HasCause P v kind.WriteSecond
  pub unbrought_reads_second : IsInRatifier P v.core false → ¬ HasCause P v kind.ReadSecond
  pub brings_again : IsInRatifier P v.core true → ¬ HasCause P v kind.WriteFirst
  -- it takes a step of another object than the one in which it stands
  pub ratifies_in_a_conciliator : (k : Kind) (stage : Stage) → IsOfRatifier k
      → IsInConciliator P v.core stage → ¬ HasCause P v k
  pub conciles_in_a_ratifier : (k : Kind) (begun : Bool) → IsOfConciliator k
      → IsInRatifier P v.core begun → ¬ HasCause P v k
  pub ratifies_at_the_fallback : (k : Kind) → IsOfRatifier k → IsAtFallback P v.core
      → ¬ HasCause P v k
  pub conciles_at_the_fallback : (k : Kind) → IsOfConciliator k → IsAtFallback P v.core
      → ¬ HasCause P v k
  -- it has not set its mark, and loads the other one, or has set it, and sets it again, or asks the
  -- coin, and loads the other mark again
  pub unmarked_reads : IsInConciliator P v.core SetMark → ¬ HasCause P v kind.ReadOtherMark
  pub marks_again : (stage : Stage) → IsInConciliator P v.core stage → stage ≢ SetMark
      → ¬ HasCause P v kind.SetMark
  pub reads_mark_again : (coin : CoinState) → IsInConciliator P v.core (AskCoin coin)
      → ¬ HasCause P v kind.ReadOtherMark
  -- it does not ask the coin, and votes, or loads votes, or is to load votes, and votes again, or
  -- is to vote, and loads votes
  pub unasking_votes : (stage : Stage) → IsInConciliator P v.core stage
      → ((coin : CoinState) → stage ≢ AskCoin coin) → ¬ HasCause P v kind.Vote
  pub unasking_counts : (stage : Stage) → IsInConciliator P v.core stage
      → ((coin : CoinState) → stage ≢ AskCoin coin)
      → ¬ HasCause P v kind.ReadVotes
  pub counting_votes : CountsVotes P v.core → ¬ HasCause P v kind.Vote
  pub unvoted_counts : AsksCoin P v.core Vote → ¬ HasCause P v kind.ReadVotes
  -- it goes to a fallback word while an object is left before that
  pub falls_back_too_soon : (d : Decider S ConciliatorState) → IsDeciding P v.core d → 1 ≤ d.after
      → ¬ HasCause P v kind.Fallback
  -- its election has an owner, and it takes another step of it than the one that takes the page
  pub steps_once_elected : (k : Kind) → IsOfElection k → k ≢ kind.TakePage
      → (t o : ℕ) (e : Elector S) → v.core.phase ≡ Electing t e
      → (elections P v.core.layout.rounds).output e ≡ Some o → ¬ HasCause P v k
  -- it searches for another candidate, though the bits so far fit its own
  pub fitting_searches : (t : ℕ) (e : Elector S) → v.core.phase ≡ Electing t e
      → fits_bits e e.candidate ≡ true
      → ¬ HasCause P v kind.ReadAnnouncement
  -- it searches before a bit is decided, after the last one, with none left, or past the last
  -- sender
  pub searches_before_a_bit : (t : ℕ) (e : Elector S) → v.core.phase ≡ Electing t e
      → e.left ≡ bits_of v.core.layout.senders
      → ¬ HasCause P v kind.ReadAnnouncement
  pub searches_after_the_last : (t o : ℕ) (e : Elector S) → v.core.phase ≡ Electing t e
      → (elections P v.core.layout.rounds).output e ≡ Some o
      → ¬ HasCause P v kind.ReadAnnouncement
  pub searches_with_none_left : (t : ℕ) (e : Elector S) → v.core.phase ≡ Electing t e → e.left ≡ 0
      → ¬ HasCause P v kind.ReadAnnouncement
  pub searches_beyond : (t i : ℕ) (e : Elector S) → v.core.phase ≡ Electing t e → e.stage ≡ Search i
      → v.core.layout.senders ≤ i
      → ¬ HasCause P v kind.ReadAnnouncement
  -- a page whose election has not ended, or has chosen another
  pub takes_undecided : (t : ℕ) (e : Elector S) → v.core.phase ≡ Electing t e
      → (elections P v.core.layout.rounds).output e ≡ None
      → ¬ HasCause P v kind.TakePage
  pub takes_what_it_lost : (t o : ℕ) (e : Elector S) → v.core.phase ≡ Electing t e
      → (elections P v.core.layout.rounds).output e ≡ Some o
      → o ≢ v.core.me → ¬ HasCause P v kind.TakePage

-- with a row for each tenure: a presence that is stored, cleared or asked, another look at the
-- stage, a row that is cleared, and a passed place that is loaded
pub record RefusesApart {S : Type 0} (P : Protocol S Bool Verdict) (v : Sender (Elector S)) :
    Type 0 where
  pub enters : v.reuse ≡ None → ¬ HasCause P v kind.Enter
  pub looks_again : v.reuse ≡ None → ¬ HasCause P v kind.LoadStageAgain
  pub withdraws : v.reuse ≡ None → ¬ HasCause P v kind.Withdraw
  pub asks : v.reuse ≡ None → ¬ HasCause P v kind.ReadPresence
  pub clears : v.reuse ≡ None → ¬ HasCause P v kind.ClearRow
  pub reads_passed : v.reuse ≡ None → ¬ HasCause P v kind.ReadPassed

-- with rows that are used again
pub record RefusesAgain {S : Type 0} (P : Protocol S Bool Verdict) (v : Sender (Elector S))
    (r : Reuse) : Type 0 where
  -- a step of an election where it pins no tenure, has not stored its presence, has not looked at
  -- the stage again, stands in another tenure, or is to clear its presence
  pub elects_away : (k : Kind) → IsOfElection k → r.pin ≡ Away → ¬ HasCause P v k
  pub elects_unseen : (k : Kind) (t : ℕ) → IsOfElection k → r.pin ≡ Announcing t → ¬ HasCause P v k
  pub elects_too_soon : (k : Kind) (t : ℕ) → IsOfElection k → r.pin ≡ Validating t
      → ¬ HasCause P v k
  pub elects_elsewhere : (k : Kind) (t u : ℕ) (e : Elector S) → IsOfElection k → r.pin ≡ Pinned t
      → v.core.phase ≡ Electing u e → t ≢ u
      → ¬ HasCause P v k
  pub elects_while_unpinning : (k : Kind) (t : ℕ) → IsOfElection k → r.pin ≡ Unpinning t
      → ¬ HasCause P v k
  pub elects_invalidated : (k : Kind) (t : ℕ) → IsOfElection k → r.pin ≡ Invalidated t
      → ¬ HasCause P v k
  -- a presence of a tenure that is past for it, and another look at the stage of one
  pub enters_the_past : (t : ℕ) → r.pin ≡ Announcing t → t < v.core.least
      → ¬ HasCause P v kind.Enter
  pub looks_again_at_the_past : (t : ℕ) → r.pin ≡ Validating t → t < v.core.least
      → ¬ HasCause P v kind.LoadStageAgain
  -- a presence of a tenure that is entered with nothing to send, and another look at the stage of
  -- one
  pub enters_with_nothing : v.core.queue.messages ≡ [] → v.core.queue.phase ≡ Open
      → ¬ HasCause P v kind.Enter
  pub looks_again_with_nothing : v.core.queue.messages ≡ [] → v.core.queue.phase ≡ Open
      → ¬ HasCause P v kind.LoadStageAgain
  -- a presence that is cleared while it pins no tenure, or stands in one, or of one that it neither
  -- lost nor has the page of
  pub withdraws_away : r.pin ≡ Away → ¬ HasCause P v kind.Withdraw
  pub withdraws_pinned : (t : ℕ) → r.pin ≡ Pinned t → ¬ HasCause P v kind.Withdraw
  pub withdraws_undone : (t : ℕ) → r.pin ≡ Unpinning t → r.lost ≡ None
      → held_of v.core.phase ≢ Some t → ¬ HasCause P v kind.Withdraw
  -- a presence that is scanned by who rests, or once all have passed
  pub asks_at_rest : v.core.phase ≡ Resting → ¬ HasCause P v kind.ReadPresence
  pub asks_past_all : (s : Reclaiming) → r.reclaimer ≡ Some s → s.senders ≤ s.scanned
      → ¬ HasCause P v kind.ReadPresence
  -- a word that is cleared before all are scanned, of another row than that of the tenure after its
  -- own, or once all are cleared
  pub clears_before_it_scanned : (s : Reclaiming) → r.reclaimer ≡ Some s → s.scanned < s.senders
      → ¬ HasCause P v kind.ClearRow
  pub clears_elsewhere : (s : Reclaiming) (t : ℕ) → r.reclaimer ≡ Some s
      → held_of v.core.phase ≡ Some t
      → s.row ≢ row_of (sizes_with v.core.layout r.rows) (t + 1) → ¬ HasCause P v kind.ClearRow
  pub clears_past_all : (s : Reclaiming) → r.reclaimer ≡ Some s → s.width ≤ s.cleared
      → ¬ HasCause P v kind.ClearRow
  -- a presence that is scanned, and a word that is cleared, before the length is stored, while the
  -- order goes on and its frame fits the log
  pub asks_unsent : (tenure : ℕ) (page : Page) (stored : ℕ)
      → v.core.phase ≡ Holding tenure page stored false → page.ended ≡ false
      → page.words + frame_len v.core ≤ v.core.layout.capacity + page.floor
      → ¬ HasCause P v kind.ReadPresence
  pub clears_unsent : (tenure : ℕ) (page : Page) (stored : ℕ)
      → v.core.phase ≡ Holding tenure page stored false → page.ended ≡ false
      → page.words + frame_len v.core ≤ v.core.layout.capacity + page.floor
      → ¬ HasCause P v kind.ClearRow
  -- a passed place that is loaded by who rests, or while its presence is to be cleared
  pub reads_passed_at_rest : v.core.phase ≡ Resting → ¬ HasCause P v kind.ReadPassed
  pub reads_passed_while_unpinning : (t : ℕ) → r.pin ≡ Unpinning t → ¬ HasCause P v kind.ReadPassed
  -- a passed place that is loaded once the order has ended, once the length is stored, where the
  -- frame fits the log by the page's floor, or once all are loaded
  pub reads_passed_past_the_end : (tenure : ℕ) (page : Page) (stored : ℕ) (published : Bool)
      → v.core.phase ≡ Holding tenure page stored published → page.ended ≡ true
      → ¬ HasCause P v kind.ReadPassed
  pub reads_passed_once_sent : (tenure : ℕ) (page : Page) (stored : ℕ)
      → v.core.phase ≡ Holding tenure page stored true → ¬ HasCause P v kind.ReadPassed
  pub reads_passed_with_room : (tenure : ℕ) (page : Page) (stored : ℕ) (published : Bool)
      → v.core.phase ≡ Holding tenure page stored published
      → page.words + frame_len v.core ≤ v.core.layout.capacity + page.floor
      → ¬ HasCause P v kind.ReadPassed
  pub reads_passed_past_all : v.core.layout.passers ≤ r.passed.loaded
      → ¬ HasCause P v kind.ReadPassed
  -- another step while its presence is to be cleared
  pub looks_while_unpinning : (t : ℕ) → r.pin ≡ Unpinning t → ¬ HasCause P v kind.LoadStage
  pub looks_invalidated : (t : ℕ) → r.pin ≡ Invalidated t → ¬ HasCause P v kind.LoadStage
  pub publishes_while_unpinning : (t : ℕ) → r.pin ≡ Unpinning t → ¬ HasCause P v kind.StoreLength
  pub publishes_invalidated : (t : ℕ) → r.pin ≡ Invalidated t → ¬ HasCause P v kind.StoreLength
  -- a page that is given back before the next row is ready: its reclamation is not done, was of
  -- another row, or never began
  pub gives_back_unready : (s : Reclaiming) → r.reclaimer ≡ Some s → is_reclaimed s ≡ false
      → ¬ HasCause P v kind.GivePageBack
  pub gives_back_reclaimed_elsewhere : (s : Reclaiming) (t : ℕ) → r.reclaimer ≡ Some s
      → held_of v.core.phase ≡ Some t
      → s.row ≢ row_of (sizes_with v.core.layout r.rows) (t + 1) → ¬ HasCause P v kind.GivePageBack
  pub gives_back_unreclaimed : (t : ℕ) → r.reclaimer ≡ None → held_of v.core.phase ≡ Some t
      → r.rows ≤ t + 1 → ¬ HasCause P v kind.GivePageBack

pub record RefusesCauses {S : Type 0} (P : Protocol S Bool Verdict) (v : Sender (Elector S)) :
    Type 0 where
  pub own : RefusesOwn P v
  pub apart : RefusesApart P v
  pub again : (r : Reuse) → v.reuse ≡ Some r → RefusesAgain P v r
