use Rattle.std.proofs.Common.{◌≡◌, ◌+◌, false, is_some, IsSome, sym, ◌∙◌, ap, subst}
use Rattle.std.proofs.lemmas.Bool.{ne_eqb, eq-eqb}
use Rattle.bus_binconsensus.specs.Objects.{decide_protocol}
use Rattle.bus_coinconc.specs.ConciliatorProtocol.{conciliator_protocol}
use Rattle.bus_ownerbits.specs.Election.{owner_of}
use Rattle.bus_batch.specs.Batches.{Pending}
use Rattle.bus_tenure.specs.Elections.{election_with}
use Rattle.bus_tenure.specs.declared.phases.Phase.TheVariants as phase
use Rattle.bus_tenure.proofs.Lawful.{keeps_after}
use Rattle.bus_tenure.proofs.ElectionTurns.{sender_some, no_owner, own_owner, its_op, lost_state}
use Rattle.bus_tenure.proofs.ElectionTurns.{lost_answer, keeps_electing}
use Rattle.bus_tenure.proofs.Electing.{own_state}
use Rattle.bus_tenure.proofs.Inverted.{unowned as not_yet}
use Rattle.bus_tenure.proofs.turning.Turns.elect_on.Goals as goal

pub invariant_of-self : goal.invariant_of-self
invariant_of-self g c =
    let X =
    election_with g.Q.Machine.kind_of g.Q.Machine.op g.Q.Machine.fed g.Q.Ratifier.protocol in
    let unowned : is_some
    (owner_of (decide_protocol g.Q.Ratifier.protocol conciliator_protocol) c.in-Electing.election)
    ≡ false =
    (not_yet X c.args.self.now c.in-Electing.tenure c.args.started c.in-Electing.election
    (sym (ap (λ z. z.phase) c.self.view_is) ∙ c.in-Electing.is) c.requires.elects).0 in
    keeps_electing _ _ _ c.in-Electing.tenure c.in-Electing.election c.feed.new.self _
    c.self.invariant c.in-Electing.is c.feed.ensures
    (λ b. keeps_after g.Q.Machine.op g.Q.Machine.fed g.Q.Ratifier.protocol g.met.Q.Ratifier.laws
    g.met.Q.Ratifier.wordless c.self.inside.sizes.rounds c.self.inside.sizes.senders
    c.self.inside.me.0 _ c.in-Electing.election c.args.got c.args.word b
    (subst IsSome (its_op X _ _ c.self.view_is c.in-Electing.tenure c.in-Electing.election
    c.in-Electing.is unowned c.args.word) c.requires.steps)
    (no_owner _ _ (sym c.owner.ensures ∙ c.in_default-owner.is)
    (ap (owner_of (decide_protocol g.Q.Ratifier.protocol conciliator_protocol)) c.feed.ensures)
    c.self.inside.me.0))

pub invariant_of-self-then-owner-self : goal.invariant_of-self-then-owner-self
invariant_of-self-then-owner-self g c =
    let X =
    election_with g.Q.Machine.kind_of g.Q.Machine.op g.Q.Machine.fed g.Q.Ratifier.protocol in
    let unowned : is_some
    (owner_of (decide_protocol g.Q.Ratifier.protocol conciliator_protocol) c.in-Electing.election)
    ≡ false =
    (not_yet X c.args.self.now c.in-Electing.tenure c.args.started c.in-Electing.election
    (sym (ap (λ z. z.phase) c.self.view_is) ∙ c.in-Electing.is) c.requires.elects).0 in
    keeps_electing _ _ _ c.in-Electing.tenure c.in-Electing.election c.feed.new.self _
    c.self.invariant c.in-Electing.is c.feed.ensures
    (λ b. keeps_after g.Q.Machine.op g.Q.Machine.fed g.Q.Ratifier.protocol g.met.Q.Ratifier.laws
    g.met.Q.Ratifier.wordless c.self.inside.sizes.rounds c.self.inside.sizes.senders
    c.self.inside.me.0 _ c.in-Electing.election c.args.got c.args.word b
    (subst IsSome (its_op X _ _ c.self.view_is c.in-Electing.tenure c.in-Electing.election
    c.in-Electing.is unowned c.args.word) c.requires.steps)
    (own_owner _ _ c.in-Some.owner (sym c.owner.ensures ∙ c.in-Some.is)
    (ap (owner_of (decide_protocol g.Q.Ratifier.protocol conciliator_protocol)) c.feed.ensures)
    c.self.inside.me.0 c.if-owner-self.true))

pub returns-clause-state : goal.returns-clause-state
returns-clause-state g c =
    let X =
    election_with g.Q.Machine.kind_of g.Q.Machine.op g.Q.Machine.fed g.Q.Ratifier.protocol in
    let unowned : is_some
    (owner_of (decide_protocol g.Q.Ratifier.protocol conciliator_protocol) c.in-Electing.election)
    ≡ false =
    (not_yet X c.args.self.now c.in-Electing.tenure c.args.started c.in-Electing.election
    (sym (ap (λ z. z.phase) c.self.view_is) ∙ c.in-Electing.is) c.requires.elects).0 in
    ap (λ n. record {
      layout = record {
        senders = c.self.inside.sizes.senders;
        rounds = c.self.inside.sizes.rounds;
        rows = c.self.inside.sizes.rows;
        width = c.self.inside.sizes.width;
        capacity = c.self.inside.sizes.capacity;
        passers = c.self.inside.sizes.passers;
        batch = n;
      };
      me = c.self.inside.me.0;
      queue = c.back.new.self;
      least = c.in-Electing.tenure + 1;
      phase = phase.Resting;
    }) (ap (λ (q : Pending). q.limit) c.back.ensures)
    ∙ lost_state X _ _ c.self.view_is c.in-Electing.tenure c.in-Electing.election c.in-Electing.is
    unowned c.args.got c.args.word c.feed.new.self c.feed.ensures c.in-Some.owner.0
    (sender_some _ c.in-Some.owner (sym c.owner.ensures ∙ c.in-Some.is))
    (ne_eqb _ _ c.if-owner-self.false) c.back.new.self c.back.ensures

pub returns-clause-answer : goal.returns-clause-answer
returns-clause-answer g c =
    let X =
    election_with g.Q.Machine.kind_of g.Q.Machine.op g.Q.Machine.fed g.Q.Ratifier.protocol in
    let unowned : is_some
    (owner_of (decide_protocol g.Q.Ratifier.protocol conciliator_protocol) c.in-Electing.election)
    ≡ false =
    (not_yet X c.args.self.now c.in-Electing.tenure c.args.started c.in-Electing.election
    (sym (ap (λ z. z.phase) c.self.view_is) ∙ c.in-Electing.is) c.requires.elects).0 in
    lost_answer X _ _ c.self.view_is c.in-Electing.tenure c.in-Electing.election c.in-Electing.is
    unowned c.args.got c.args.word c.feed.new.self c.feed.ensures c.in-Some.owner.0
    (sender_some _ c.in-Some.owner (sym c.owner.ensures ∙ c.in-Some.is))
    (ne_eqb _ _ c.if-owner-self.false)

pub returns-then-owner-self-clause-state : goal.returns-then-owner-self-clause-state
returns-then-owner-self-clause-state g c =
    let X =
    election_with g.Q.Machine.kind_of g.Q.Machine.op g.Q.Machine.fed g.Q.Ratifier.protocol in
    let unowned : is_some
    (owner_of (decide_protocol g.Q.Ratifier.protocol conciliator_protocol) c.in-Electing.election)
    ≡ false =
    (not_yet X c.args.self.now c.in-Electing.tenure c.args.started c.in-Electing.election
    (sym (ap (λ z. z.phase) c.self.view_is) ∙ c.in-Electing.is) c.requires.elects).0 in
    own_state X _ _ c.self.view_is c.in-Electing.tenure c.in-Electing.election c.in-Electing.is
    unowned c.args.got c.args.word c.feed.new.self c.feed.ensures c.in-Some.owner.0
    (sender_some _ c.in-Some.owner (sym c.owner.ensures ∙ c.in-Some.is))
    (eq-eqb _ _ c.if-owner-self.true)
