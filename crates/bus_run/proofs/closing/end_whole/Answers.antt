use Rattle.std.proofs.Common.{ℕ, ◌<◌, ◌≤◌, inl, inr, All, List, Option, Some, length, map, refl}
use Rattle.std.proofs.Common.{sym, ap, subst, ◌∙◌}
use Rattle.std.specs.Vec.{vec_capacity}
use Rattle.std.proofs.lemmas.List.{length-map}
use Rattle.std.proofs.lemmas.Option.{slice_get_within}
use Rattle.bus_register.specs.declared.limits.TheConstants.{MOST_SENDERS}
use Rattle.bus_deliverylog.specs.Orders.{of_sender}
use Rattle.bus_tenure.specs.declared.pages.Page.{Page}
use Rattle.bus_pageslot.specs.Rule.{known_in}
use Rattle.bus_automaton.specs.Buses.{plan_passers}
use Rattle.bus_automaton.specs.declared.plans.Plan.{Plan}
use Rattle.bus_run.specs.Audit.{IsFair, IsFirstFault}
use Rattle.bus_run.specs.Left.{Shown, run_plan, IsLeftBy, IsToldByAll, number_of, senders_of}
use Rattle.bus_run.specs.Stops.{HasSent, IsFirstUnsent, IsFirstMiscount, IsFirstUnfair, IsLate}
use Rattle.bus_run.specs.Told.{HasTold}
use Rattle.bus_run.specs.declared.faults.RunFault.{RunFault}
use Rattle.bus_run.proofs.CountLemmas.{all_counted}
use Rattle.bus_run.proofs.LeftLemmas.{leaves, left_open, told_of_bus}
use Rattle.bus_run.proofs.StopLemmas.{of_each, passed_up}
use Rattle.bus_run.proofs.ToldLemmas.{carries, still_told, told_all}
use Rattle.bus_run.proofs.closing.end_whole.Goals as goal

-- the plan of a run has no passed places
pub end_closed-requires-clause-flat : goal.end_closed-requires-clause-flat
end_closed-requires-clause-flat g c = ap plan_passers c.requires.bus

pub returns-in-Some-clause-late : goal.returns-in-Some-clause-late
returns-in-Some-clause-late g c =
    let unsent = subst (λ ds.
    IsFirstUnsent (λ send_worker. HasSent c.args.messages send_worker.sender) ds c.in-Some.sender)
    c.as_slice.ensures.value c.in-Some.ensures.unsent in (
      subst (λ n. c.in-Some.sender < n) c.requires.whole.all_send
          (slice_get_within c.args.send_workers.items c.in-Some.sender unsent.1 unsent.2),
      inl unsent,
    )

pub returns-in_err-first-clause-late : goal.returns-in_err-first-clause-late
returns-in_err-first-clause-late g c =
    let seats = map (λ receive_worker. receive_worker.receiver.me.0) c.args.receive_workers.items in
    let heards = map (λ receive_worker. receive_worker.heard) c.args.receive_workers.items in
    let Late : RunFault → Type 0 = IsLate (λ send_worker. send_worker.sender) c.args.shape
    c.args.messages (vec_capacity c.args.room) c.args.send_workers.items seats heards in
    let sent = subst (All (λ send_worker. HasSent c.args.messages send_worker.sender))
    c.as_slice.ensures.value (c.first_unsent.ensures.none c.in_default.is) in
    let full = c.in_err-first.ensures.full in
    passed_up _ _ Late c.from_residual.ensures (subst Late (sym full.0) (
      sent,
      subst (λ n. vec_capacity c.args.room < n)
          (sym (length-map c.args.receive_workers.items (λ receive_worker. receive_worker.heard)))
          full.1,
    ))

pub returns-in_err-ended-clause-late : goal.returns-in_err-ended-clause-late
returns-in_err-ended-clause-late g c =
    let seats = map (λ receive_worker. receive_worker.receiver.me.0) c.args.receive_workers.items in
    let heards = map (λ receive_worker. receive_worker.heard) c.args.receive_workers.items in
    let Late : RunFault → Type 0 = IsLate (λ send_worker. send_worker.sender) c.args.shape
    c.args.messages (vec_capacity c.args.room) c.args.send_workers.items seats heards in
    let Ends : Shown → Type 0 = IsToldByAll (λ send_worker. send_worker.sender) c.args.shape.senders
    c.args.messages c.args.send_workers.items seats in
    let last = c.tell_all-told.result.me.0 in
    let told : (log : List ℕ) (home : Option Page) → IsLeftBy _ last log home → Ends last =
    λ log home left. record {
      first = _;
      first_is = c.in_ok-first.ensures.first;
      learnt = c.tell_all-told.ensures.learnt;
      told = told_of_bus (λ send_worker. send_worker.sender) _ (run_plan c.args.shape)
          c.requires.bus last log home c.args.messages c.args.send_workers.items left
          c.tell_all-told.ensures.told;
    } in
    let sent = subst (All (λ send_worker. HasSent c.args.messages send_worker.sender))
    c.as_slice.ensures.value (c.first_unsent.ensures.none c.in_default.is) in
    let room = subst (λ n. n ≤ vec_capacity c.args.room)
    (sym (length-map c.args.receive_workers.items (λ receive_worker. receive_worker.heard)))
    c.in_ok-first.ensures.room in
    let stays = c.in_err-ended.ensures.open in
    passed_up _ _ Late c.from_residual-in_err-ended.ensures (subst Late (sym stays.0) (
      c.requires.whole.one_sends,
      inr (inl (
        (sent, room),
        refl,
        left_open _ (run_plan c.args.shape) c.requires.bus Ends last told stays.1,
      )),
    ))

pub returns-in_err-all_sent-clause-late : goal.returns-in_err-all_sent-clause-late
returns-in_err-all_sent-clause-late g c =
    let seats = map (λ receive_worker. receive_worker.receiver.me.0) c.args.receive_workers.items in
    let heards = map (λ receive_worker. receive_worker.heard) c.args.receive_workers.items in
    let Late : RunFault → Type 0 = IsLate (λ send_worker. send_worker.sender) c.args.shape
    c.args.messages (vec_capacity c.args.room) c.args.send_workers.items seats heards in
    let Ends : Shown → Type 0 = IsToldByAll (λ send_worker. send_worker.sender) c.args.shape.senders
    c.args.messages c.args.send_workers.items seats in
    let last = c.tell_all-told.result.me.0 in
    let told : Ends last = record {
      first = _;
      first_is = c.in_ok-first.ensures.first;
      learnt = c.tell_all-told.ensures.learnt;
      told = told_of_bus (λ send_worker. send_worker.sender) _ (run_plan c.args.shape)
          c.requires.bus last c.in_ok-ended.ended.log (Some c.in_ok-ended.ended.page)
          c.args.messages c.args.send_workers.items c.in_ok-ended.ensures.left
          c.tell_all-told.ensures.told;
    } in
    let sent = subst (All (λ send_worker. HasSent c.args.messages send_worker.sender))
    c.as_slice.ensures.value (c.first_unsent.ensures.none c.in_default.is) in
    let room = subst (λ n. n ≤ vec_capacity c.args.room)
    (sym (length-map c.args.receive_workers.items (λ receive_worker. receive_worker.heard)))
    c.in_ok-first.ensures.room in
    let ended = c.in_ok-ended in
    let short = c.in_err-all_sent.ensures.fault in
    passed_up _ _ Late c.from_residual-in_err-all_sent.ensures (subst Late (sym short.1) (
      short.2,
      inr (inr (
        (sent, room),
        leaves _ (run_plan c.args.shape) c.requires.bus Ends last ended.ended
            (IsFirstMiscount short.0 c.args.messages) told ended.ensures.of ended.ensures.left
            (λ order owners spells. (
              ended.ensures.closed order owners spells,
              (short.4 order owners spells).0,
              (short.4 order owners spells).1,
            )),
      )),
    ))

pub returns-in_err-audit-clause-late : goal.returns-in_err-audit-clause-late
returns-in_err-audit-clause-late g c =
    let seats = map (λ receive_worker. receive_worker.receiver.me.0) c.args.receive_workers.items in
    let heards = map (λ receive_worker. receive_worker.heard) c.args.receive_workers.items in
    let Late : RunFault → Type 0 = IsLate (λ send_worker. send_worker.sender) c.args.shape
    c.args.messages (vec_capacity c.args.room) c.args.send_workers.items seats heards in
    let Ends : Shown → Type 0 = IsToldByAll (λ send_worker. send_worker.sender) c.args.shape.senders
    c.args.messages c.args.send_workers.items seats in
    let last = c.tell_all-told.result.me.0 in
    let told : Ends last = record {
      first = _;
      first_is = c.in_ok-first.ensures.first;
      learnt = c.tell_all-told.ensures.learnt;
      told = told_of_bus (λ send_worker. send_worker.sender) _ (run_plan c.args.shape)
          c.requires.bus last c.in_ok-ended.ended.log (Some c.in_ok-ended.ended.page)
          c.args.messages c.args.send_workers.items c.in_ok-ended.ensures.left
          c.tell_all-told.ensures.told;
    } in
    let sent = subst (All (λ send_worker. HasSent c.args.messages send_worker.sender))
    c.as_slice.ensures.value (c.first_unsent.ensures.none c.in_default.is) in
    let room = subst (λ n. n ≤ vec_capacity c.args.room)
    (sym (length-map c.args.receive_workers.items (λ receive_worker. receive_worker.heard)))
    c.in_ok-first.ensures.room in
    let ended = c.in_ok-ended in
    let why = c.in_err-audit.field-0.0 in
    let notes = c.as_slice-2.ensures.value ∙ c.in_ok-first.ensures.notes in
    passed_up _ _ Late c.from_residual-in_err-audit.ensures (
      (sent, room),
      leaves _ (run_plan c.args.shape) c.requires.bus Ends last ended.ended
          (IsFirstUnfair c.args.shape.senders c.args.messages heards why) told ended.ensures.of
          ended.ensures.left (λ order owners spells. (
            ended.ensures.closed order owners spells,
            c.in_ok-all_sent.ensures.ok order owners spells,
            subst (λ hs. IsFirstFault order hs why) notes
                (c.in_err-audit.ensures.fault order owners spells),
          )),
    )

pub returns-clause-report : goal.returns-clause-report
returns-clause-report g c =
    let left = c.in_ok-ended.ended in
    let many = c.args.messages in
    let known = known_in c.tell_all-told.result.me.0 in
    let senders_are =
    c.in_ok-ended.ensures.of ∙ ap (λ (x : Plan). x.shape.senders) c.requires.bus in
    record {
      senders_are = senders_are;
      left_behind = record {
        seen = c.tell_all-told.result.me.0;
        left = subst (λ x. IsLeftBy x c.tell_all-told.result.me.0 left.log (Some left.page))
            c.requires.bus c.in_ok-ended.ensures.left;
      };
      words = c.in_ok-ended.ensures.words;
      spelled = c.audit.ensures.spelled;
      heard = λ order owners spells.
          let sends = c.in_ok-all_sent.ensures.ok order owners spells in
          let fair = subst (All (IsFair order)) c.as_slice-2.ensures.value
          (c.in_ok-audit.ensures.ok order owners spells) in
          record {
            sends = sends;
            carried = λ s k item lt at.
                let below : s < length c.args.send_workers.items =
                subst (λ n. s < n) (sym c.requires.whole.all_send) lt in
                let told = of_each (λ send_worker. number_of send_worker.sender)
                (λ send_worker.
                HasTold (senders_of send_worker.sender) (number_of send_worker.sender) many known)
                c.args.send_workers.items s c.requires.whole.in_order c.tell_all-told.ensures.told
                below in
                let its = senders_of told.0.sender in
                let has_told = still_told its s many known left.log
                (subst (λ n. HasTold its n many known) told.1 told.2) c.in_ok-ended.ensures.front in
                carries (of_sender s order) many k item
                (told_all its s many left.log left.senders order owners has_told spells
                (sends s lt)) at;
            closed = c.in_ok-ended.ensures.closed order owners spells;
            stay = c.in_ok-audit.ensures.stay order owners spells;
            fair = fair;
            all = all_counted left.senders left.log order owners _
                (subst (λ n. n ≤ MOST_SENDERS) (sym senders_are) c.requires.senders) spells
                c.in_ok-first.ensures.summed fair;
          };
      each =
          ap length c.in_ok-first.ensures.notes
          ∙ length-map c.args.receive_workers.items (λ receive_worker. receive_worker.heard)
          ∙ c.requires.whole.all_hear;
    }

pub returns-clause-by : goal.returns-clause-by
returns-clause-by g c = (
  record {
    seen = c.tell_all-told.result.me.0;
    left = subst (λ x. IsLeftBy x c.tell_all-told.result.me.0 c.in_ok-ended.ended.log
        (Some c.in_ok-ended.ended.page)) c.requires.bus c.in_ok-ended.ensures.left;
  },
  record {
    first = _;
    first_is = c.in_ok-first.ensures.first;
    learnt = c.tell_all-told.ensures.learnt;
    told = told_of_bus (λ send_worker. send_worker.sender) _ (run_plan c.args.shape) c.requires.bus
        c.tell_all-told.result.me.0 c.in_ok-ended.ended.log (Some c.in_ok-ended.ended.page)
        c.args.messages c.args.send_workers.items c.in_ok-ended.ensures.left
        c.tell_all-told.ensures.told;
  },
)
