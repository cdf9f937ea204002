-- Where no word of the log is used again, the bus alone decides its closing lines.
use Rattle.std.proofs.Common.{◌≡◌, ℕ, zero, suc, ◌+◌, ◌<◌, Bool, List, [], ◌++◌, length}
use Rattle.std.proofs.Common.{if◌then◌else◌, arith, refl, sym, ◌∙◌, ap, subst}
use Rattle.std.specs.Prelude.{flat_map}
use Rattle.std.specs.List.{range_with_len}
use Rattle.bus_adoptcommit.specs.declared.verdicts.Verdict.{Verdict}
use Rattle.bus_batch.proofs.FrameLaws.{same_log}
use Rattle.bus_batch.specs.Frames.{Order, Spells}
use Rattle.bus_machine.proofs.Frames.Framed.{IsFramed, framed, read_below}
use Rattle.bus_machine.proofs.Bases.Leading.{Sits}
use Rattle.bus_machine.proofs.Promised.{promised}
use Rattle.bus_machine.specs.Machine.{Machine, Trails, Reached, ShowsLog}
use Rattle.bus_register.specs.Protocol.{Protocol}
use Rattle.bus_tenure.specs.Core.{Election}
use Rattle.bus_tenure.specs.Elections.{Elector}
use Rattle.bus_world.proofs.PlayingLaws.{one_there}
use Rattle.bus_world.specs.Headline.{order_given}
use Rattle.bus_world.specs.Private.Invariants.{given_at}
use Rattle.bus_replay.specs.Answers.{Closes}
use Rattle.bus_replay.specs.Text.{order_text, given_line, given_text, owners_line}

-- the line of a seat, if it has or had a receiver that was given this
abbrev seat_given : (ℕ → Bool) → (ℕ → Order) → ℕ → List ℕ
seat_given taken f r = if taken r then given_line r (f r) else []

-- where each was given the same the lines are the same
same_lines : (taken : ℕ → Bool) (f g : ℕ → Order) (k n : ℕ)
    → ((r : ℕ) → r < n → f (k + r) ≡ g (k + r))
    → flat_map (seat_given taken f) (range_with_len k n)
    ≡ flat_map (seat_given taken g) (range_with_len k n)
same_lines taken f g k zero same = refl
same_lines taken f g k (suc n) same =
    let place : k + 0 ≡ k = omega arith in
    let first : f k ≡ g k = subst (λ q. f q ≡ g q) place (same 0 (omega arith)) in
    let later = same_lines taken f g (k + 1) n (λ r low.
    let next : k + suc r ≡ k + 1 + r = omega arith in
    subst (λ q. f q ≡ g q) next (same (suc r) (omega arith))) in
    ap (λ (o : Order). (if taken k then given_line k o else [])
    ++ flat_map (seat_given taken f) (range_with_len (k + 1) n)) first
    ∙ ap (λ (l : List ℕ). seat_given taken g k ++ l) later

module _ {S : Type 0} (X : Election (Elector S)) (Q : Protocol S Bool Verdict)
    (P : Protocol (Elector S) (Unit {0}) ℕ) (m : Machine (Elector S)) (T U : Trails)
    (sits : Sits X P m) (led : Reached X m T) (other : Reached X m U)
    (flat : m.layout.passers ≡ 0) where
  f : IsFramed P m T
  f = framed X P m T sits led

  g : IsFramed P m U
  g = framed X P m U sits other

  log_same : T.log ≡ U.log
  log_same = sym (read_below P m T f flat) ∙ read_below P m U g flat

  frames_same : f.frames ≡ g.frames
  frames_same = same_log m.layout.senders 0 0 f.frames g.frames f.sending.log.lawful
      g.sending.log.lawful (f.log_is ∙ log_same ∙ sym g.log_is)

  given_same : (r : ℕ) → r < length m.receivers → order_given (T.heard r) ≡ order_given (U.heard r)
  given_same r low =
      let v = one_there m.receivers r low in
      f.given r v.0 v.1 ∙ ap (λ fs. given_at fs v.0) frames_same ∙ sym (g.given r v.0 v.1)

  all_given : (taken : ℕ → Bool)
      → given_text taken (λ r. order_given (T.heard r)) (length m.receivers)
      ≡ given_text taken (λ r. order_given (U.heard r)) (length m.receivers)
  all_given taken = same_lines taken (λ r. order_given (T.heard r)) (λ r. order_given (U.heard r)) 0
      (length m.receivers) (λ r low.
      let same : r ≡ 0 + r = omega arith in
      subst (λ q. order_given (T.heard q) ≡ order_given (U.heard q)) same (given_same r low))

  pub closes_alike : (taken : ℕ → Bool) (text : List ℕ) → Closes X Q m T taken text
      → Closes X Q m U taken text
  closes_alike taken text c = record {
    order = c.order;
    owners = c.owners;
    happened = other;
    stands = subst (ShowsLog m) log_same c.stands;
    spelled = subst (λ ws. Spells m.layout.senders ws c.order c.owners) log_same c.spelled;
    took = (promised X P m U sits other).by.takers;
    text_is =
        c.text_is
        ∙ ap (λ (l : List ℕ). owners_line m.owners ++ order_text c.order ++ l) (all_given taken);
  }
