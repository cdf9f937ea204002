use Rattle.std.proofs.Common.{sym, subst, arith}
use Rattle.bus_trace.proofs.SizeLemmas.{AreFew, decision_fits, few_apart, few_again}
use Rattle.bus_trace.proofs.SizeLemmas.{few_in_ring, rows_fit}
use Rattle.bus_trace.proofs.words.memory_map_of.Goals as goal
use Rattle.bus_trace.proofs.words.memory_map_of.Goals.{in-Shape, in-Cycle, in-Ring}

pub overflow_mul-passed : goal.overflow_mul-passed
overflow_mul-passed g c =
    let q = c.match-first.presences in
    let few : AreFew q.0 q.1 q.2 = elim c.match-first.branch [
      | in-Shape w ↦ subst (λ z. AreFew z.0 z.1 z.2) (sym w.presences-is)
          (few_apart c.args.first w.in-Shape.shape w.in-Shape.is c.requires.served)
      | in-Cycle w ↦ subst (λ z. AreFew z.0 z.1 z.2) (sym w.presences-is)
          (few_again c.args.first w.in-Cycle.shape w.in-Cycle.is c.requires.served)
      | in-Ring w ↦ subst (λ z. AreFew z.0 z.1 z.2) (sym w.presences-is)
          (few_in_ring c.args.first w.in-Ring.shape w.in-Ring.seats w.in-Ring.is
          c.requires.served c.requires.seats)
    ] in
    let all = rows_fit q.0 q.1 q.2 (g.Q.Ratifier.protocol.width q.0.senders) c.width-row.result few
    (g.met.Q.Ratifier.narrow q.0.senders
    (let z = few.senders in omega arith)) c.width-row.ensures.words in
    omega arith

pub overflow_add-passed-2 : goal.overflow_add-passed-2
overflow_add-passed-2 g c =
    let q = c.match-first.presences in
    let few : AreFew q.0 q.1 q.2 = elim c.match-first.branch [
      | in-Shape w ↦ subst (λ z. AreFew z.0 z.1 z.2) (sym w.presences-is)
          (few_apart c.args.first w.in-Shape.shape w.in-Shape.is c.requires.served)
      | in-Cycle w ↦ subst (λ z. AreFew z.0 z.1 z.2) (sym w.presences-is)
          (few_again c.args.first w.in-Cycle.shape w.in-Cycle.is c.requires.served)
      | in-Ring w ↦ subst (λ z. AreFew z.0 z.1 z.2) (sym w.presences-is)
          (few_in_ring c.args.first w.in-Ring.shape w.in-Ring.seats w.in-Ring.is
          c.requires.served c.requires.seats)
    ] in
    let all = rows_fit q.0 q.1 q.2 (g.Q.Ratifier.protocol.width q.0.senders) c.width-row.result few
    (g.met.Q.Ratifier.narrow q.0.senders
    (let z = few.senders in omega arith)) c.width-row.ensures.words in
    let some = few.presences_few in
    omega arith

pub overflow_add-result : goal.overflow_add-result
overflow_add-result g c =
    let q = c.match-first.presences in
    let few : AreFew q.0 q.1 q.2 = elim c.match-first.branch [
      | in-Shape w ↦ subst (λ z. AreFew z.0 z.1 z.2) (sym w.presences-is)
          (few_apart c.args.first w.in-Shape.shape w.in-Shape.is c.requires.served)
      | in-Cycle w ↦ subst (λ z. AreFew z.0 z.1 z.2) (sym w.presences-is)
          (few_again c.args.first w.in-Cycle.shape w.in-Cycle.is c.requires.served)
      | in-Ring w ↦ subst (λ z. AreFew z.0 z.1 z.2) (sym w.presences-is)
          (few_in_ring c.args.first w.in-Ring.shape w.in-Ring.seats w.in-Ring.is
          c.requires.served c.requires.seats)
    ] in
    let all = rows_fit q.0 q.1 q.2 (g.Q.Ratifier.protocol.width q.0.senders) c.width-row.result few
    (g.met.Q.Ratifier.narrow q.0.senders
    (let z = few.senders in omega arith)) c.width-row.ensures.words in
    let some = few.presences_few in
    let more = few.passers_few in
    omega arith

pub invariant_of-result : goal.invariant_of-result
invariant_of-result g c =
    let q = c.match-first.presences in
    let few : AreFew q.0 q.1 q.2 = elim c.match-first.branch [
      | in-Shape w ↦ subst (λ z. AreFew z.0 z.1 z.2) (sym w.presences-is)
          (few_apart c.args.first w.in-Shape.shape w.in-Shape.is c.requires.served)
      | in-Cycle w ↦ subst (λ z. AreFew z.0 z.1 z.2) (sym w.presences-is)
          (few_again c.args.first w.in-Cycle.shape w.in-Cycle.is c.requires.served)
      | in-Ring w ↦ subst (λ z. AreFew z.0 z.1 z.2) (sym w.presences-is)
          (few_in_ring c.args.first w.in-Ring.shape w.in-Ring.seats w.in-Ring.is
          c.requires.served c.requires.seats)
    ] in
    let narrow = g.met.Q.Ratifier.narrow q.0.senders (let z = few.senders in omega arith) in
    let some = few.some_senders in
    record {
      ratifier_few = (let is = c.width.ensures in omega arith);
      decision_some = (let is = c.width-2.ensures.words in omega arith);
      decision_few = decision_fits q.0.rounds (g.Q.Ratifier.protocol.width q.0.senders)
          c.width-2.result few.rounds narrow c.width-2.ensures.words;
      row_some = (let is = c.width-row.ensures.words in omega arith);
    }
