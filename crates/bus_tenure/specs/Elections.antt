-- The election that a sender goes by, made of any ratifier's members: with binary decisions out of
-- that ratifier, the conciliator and the fallback word.
use Rattle.std.specs.Prelude.{◌≡◌, ℕ, Bool, false, Option, Some}
use Rattle.bus_register.specs.declared.kinds.Kind.{Kind}
use Rattle.bus_register.specs.declared.registers.Op.{Op}
use Rattle.bus_register.specs.Protocol.{Protocol}
use Rattle.bus_adoptcommit.specs.declared.verdicts.Verdict.{Verdict}
use Rattle.bus_coinconc.specs.Conciliator.{conciliator_kind, conciliator_op, conciliator_fed}
use Rattle.bus_coinconc.specs.ConciliatorProtocol.{conciliator_protocol}
use Rattle.bus_binconsensus.specs.Objects.{object_kind, decide_op, decide_fed}
use Rattle.bus_binconsensus.specs.Decisions.{decisions}
use Rattle.bus_ownerbits.specs.Election.{election_kind, election_op, election_fed, owner_of}
pub use Rattle.bus_ownerbits.specs.Electors.{Elector, elections}
use Rattle.bus_ownerbits.specs.ElectionNames.{calls_of}
use Rattle.bus_tenure.specs.Core.{Layout, Election}

-- what a sender's part in an election keeps: it is of its row, stands as it started until its first
-- step, and has chosen no other
pub record ElectorKeeps {S : Type 0} (P : Protocol S Bool Verdict) (rounds n me at : ℕ)
    (e : Elector S) : Type 0 where
  pub belongs : (elections P rounds).Belongs n me at e
  pub unbegun : (elections P rounds).has_begun e ≡ false
      → e ≡ (elections P rounds).started n me tt at
  pub unlost : (o : ℕ) → (elections P rounds).output e ≡ Some o → o ≡ me

-- the members of a ratifier, as a bound names them together
abbrev pub Ratifying : Type 0 → Type 1
Ratifying S = record {
  kind_of : S → Option Kind;
  op : S → ℕ → Option Op;
  fed : S → ℕ → ℕ → S;
  protocol : Protocol S Bool Verdict;
}

-- what a sender goes by, made of a ratifier's members one by one
abbrev pub election_with : {S : Type 0} → (S → Option Kind) → (S → ℕ → Option Op) → (S → ℕ → ℕ → S)
    → Protocol S Bool Verdict → Election (Elector S)
election_with kind op fed P = record {
  kind_of = election_kind (λ d. object_kind kind conciliator_kind d.object);
  op = election_op (decide_op op conciliator_op);
  fed = election_fed (decisions P) (decide_fed P conciliator_protocol fed conciliator_fed);
  owner = owner_of (decisions P);
  wants_word = calls_of conciliator_protocol;
  turns_left = λ e. e.turns;
  started = λ n me rounds at. (elections P rounds).started n me tt at;
}

-- of all of them
abbrev pub election_of : {S : Type 0} → Ratifying S → Election (Elector S)
election_of q = election_with q.kind_of q.op q.fed q.protocol

-- the sizes of a bus of so many senders, rounds, rows, log words, passed places and messages of a
-- batch
abbrev pub layout_with : {S : Type 0} → Protocol S Bool Verdict
    → (senders rounds rows capacity passers batch : ℕ) → Layout
layout_with P senders rounds rows capacity passers batch = record {
  senders = senders;
  rounds = rounds;
  rows = rows;
  width = (elections P rounds).width senders;
  capacity = capacity;
  passers = passers;
  batch = batch;
}
