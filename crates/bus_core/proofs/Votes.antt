-- A sender asks for a random word exactly where its next step is a vote.
use Rattle.std.specs.Prelude.{◌↔◌, IsTrue}
use Rattle.std.proofs.Common.{◌≡◌, inl, inr, ℕ, Bool, false, Option, Some, None, refl, sym, ◌∙◌}
use Rattle.bus_register.specs.declared.kinds.Kind.{Kind}
use Rattle.bus_register.specs.declared.kinds.Kind.TheVariants as kind
use Rattle.bus_register.specs.declared.registers.Op.{Op}
use Rattle.bus_register.specs.Protocol.{Protocol}
use Rattle.bus_adoptcommit.specs.declared.verdicts.Verdict.{Verdict}
use Rattle.bus_adoptcommit.specs.Kinds.{IsOfRatifier}
use Rattle.bus_walkcoin.specs.declared.coins.Phase.{Phase}
use Rattle.bus_walkcoin.specs.declared.coins.Phase.TheVariants.{Vote, ReadVotes, Answered}
use Rattle.bus_walkcoin.specs.Coin as coin
use Rattle.bus_coinconc.specs.declared.conciliators.Stage.{Stage as ConciliatorStage}
use Rattle.bus_coinconc.specs.declared.conciliators.Stage.TheVariants.{SetMark, ReadOtherMark}
use Rattle.bus_coinconc.specs.declared.conciliators.Stage.TheVariants.{AskCoin}
use Rattle.bus_coinconc.specs.declared.conciliators.Stage.TheVariants as conciliator_stage
use Rattle.bus_coinconc.specs.Conciliator.{ConciliatorState, conciliator_kind}
use Rattle.bus_coinconc.specs.Conciliator as conciliator
use Rattle.bus_coinconc.specs.ConciliatorProtocol.{conciliator_protocol}
use Rattle.bus_binconsensus.specs.declared.objects.Object.{Object}
use Rattle.bus_binconsensus.specs.declared.objects.Object.TheVariants.{Ratify, Concile, Fall}
use Rattle.bus_binconsensus.specs.Fallback.{kind_from}
use Rattle.bus_binconsensus.specs.Objects.{Decider, object_kind, object_calls}
use Rattle.bus_ownerbits.specs.declared.stages.Stage.{Stage}
use Rattle.bus_ownerbits.specs.declared.stages.Stage.TheVariants.{Announce, Propose, Search, Alone}
use Rattle.bus_ownerbits.specs.Election.{kind_at as election_kind_at}
use Rattle.bus_ownerbits.specs.ElectionNames.{calls_at}
use Rattle.bus_tenure.specs.Core.{Election}
use Rattle.bus_tenure.specs.Elections.{Elector, election_with}
use Rattle.bus_tenure.specs.Situations.{IsClosed, IsIdle, IsSpent, LooksAtStage, Elects, TakesPage}
use Rattle.bus_tenure.specs.Situations.{AwaitsPage, StoresWord, StoresLength, GivesBack, HasHanded}
use Rattle.bus_core.specs.Senders.{Sender, Situation, Does, Announces, Validates, Unpins}
use Rattle.bus_core.specs.Senders.{Withdraws, Scans, Clears, ReadsPassed, situation}
use Rattle.bus_core.specs.Table.{line, line_now}

-- a word is asked for exactly where the step is a vote
abbrev pub IsForVote : Bool → Option Kind → Type 0
IsForVote wants next = IsTrue wants ↔ (next ≡ Some kind.Vote)

-- no word is asked for, of a step that is no vote
for_another : (next : Option Kind) → (next ≡ Some kind.Vote → ⊥) → IsForVote false next
for_another next other = (λ h. absurd cc, λ e. absurd (other e))

-- ---- an election
coin_votes : (phase : Phase) → IsForVote (coin.wants_at phase) (coin.kind_at phase)
coin_votes Vote = (λ h. refl, λ e. refl)
coin_votes ReadVotes = for_another _ (λ e. absurd cc)
coin_votes (Answered answer) = for_another _ (λ e. absurd cc)

conciliator_votes : (stage : ConciliatorStage)
    → IsForVote (conciliator.wants_at stage) (conciliator.kind_at stage)
conciliator_votes SetMark = for_another _ (λ e. absurd cc)
conciliator_votes ReadOtherMark = for_another _ (λ e. absurd cc)
conciliator_votes conciliator_stage.Alone = for_another _ (λ e. absurd cc)
conciliator_votes (AskCoin c) = coin_votes c.phase

fallback_votes : (decided : Option Bool) → IsForVote false (kind_from decided)
fallback_votes None = for_another _ (λ e. absurd cc)
fallback_votes (Some bit) = for_another _ (λ e. absurd cc)

-- no kind of a ratifier is a vote
no_vote : (k : Kind) → IsOfRatifier k → k ≡ kind.Vote → ⊥
no_vote k (inl x) e = let z = sym x ∙ e in cc
no_vote k (inr (inl x)) e = let z = sym x ∙ e in cc
no_vote k (inr (inr (inl x))) e = let z = sym x ∙ e in cc
no_vote k (inr (inr (inr x))) e = let z = sym x ∙ e in cc

module _ {S : Type 0} (kind_of : S → Option Kind) (op : S → ℕ → Option Op) (fed : S → ℕ → ℕ → S)
    (P : Protocol S Bool Verdict)
    (own : (s : S) (k : Kind) → kind_of s ≡ Some k → IsOfRatifier k) where
  abbrev X : Election (Elector S)
  X = election_with kind_of op fed P

  object_votes : (x : Object S ConciliatorState)
      → IsForVote (object_calls conciliator_protocol x) (object_kind kind_of conciliator_kind x)
  object_votes (Ratify q) = for_another _ (λ e. no_vote kind.Vote (own q kind.Vote e) refl)
  object_votes (Concile c) = conciliator_votes c.stage
  object_votes (Fall f) = fallback_votes f.decided

  stage_votes : (stage : Stage (Decider S ConciliatorState))
      → IsForVote (calls_at conciliator_protocol stage)
      (election_kind_at (λ d. object_kind kind_of conciliator_kind d.object) stage)
  stage_votes Announce = for_another _ (λ e. absurd cc)
  stage_votes (Propose d) = object_votes d.object
  stage_votes (Search i) = for_another _ (λ e. absurd cc)
  stage_votes Alone = for_another _ (λ e. absurd cc)

  -- ---- each situation
  situation_votes : (v : Sender (Elector S)) (z : Situation (Elector S))
      → IsForVote (line X v z).wants_word (line X v z).kind
  situation_votes v (Does IsClosed) = for_another _ (λ e. absurd cc)
  situation_votes v (Does IsIdle) = for_another _ (λ e. absurd cc)
  situation_votes v (Does IsSpent) = for_another _ (λ e. absurd cc)
  situation_votes v (Does LooksAtStage) = for_another _ (λ e. absurd cc)
  situation_votes v (Does (Elects t e)) = stage_votes e.stage
  situation_votes v (Does (TakesPage t)) = for_another _ (λ e. absurd cc)
  situation_votes v (Does (AwaitsPage t)) = for_another _ (λ e. absurd cc)
  situation_votes v (Does (StoresWord t page stored)) = for_another _ (λ e. absurd cc)
  situation_votes v (Does (StoresLength t page stored)) = for_another _ (λ e. absurd cc)
  situation_votes v (Does (GivesBack t page reason)) = for_another _ (λ e. absurd cc)
  situation_votes v (Does (HasHanded t reason)) = for_another _ (λ e. absurd cc)
  situation_votes v (Announces t) = for_another _ (λ e. absurd cc)
  situation_votes v (Validates t) = for_another _ (λ e. absurd cc)
  situation_votes v (Unpins t) = for_another _ (λ e. absurd cc)
  situation_votes v (Withdraws t) = for_another _ (λ e. absurd cc)
  situation_votes v (Scans s) = for_another _ (λ e. absurd cc)
  situation_votes v (Clears s) = for_another _ (λ e. absurd cc)
  situation_votes v (ReadsPassed t p) = for_another _ (λ e. absurd cc)

  -- the line of the situation that it is in asks so
  pub line_votes : (v : Sender (Elector S))
      → IsForVote (line_now X v).wants_word (line_now X v).kind
  line_votes v = situation_votes v (situation X v)
