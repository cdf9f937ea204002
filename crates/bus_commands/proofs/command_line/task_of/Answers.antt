use Rattle.std.proofs.Common.{Bool, codes, refl, ◌∙◌}
use Rattle.clap.specs.Words.{Text, found_of, one_text, one_of, rows_of}
use Rattle.clap.proofs.WalkLemmas.{one_text-rows}
use Rattle.clap.specs.declared.parser.matches.ArgMatches.{ArgMatches}
use Rattle.bus_commands.proofs.Naming.{Flagged, not_given, not_left_out, of_log, of_run}
use Rattle.bus_commands.proofs.Naming.{of_journal, of_trace}
use Rattle.bus_commands.proofs.command_line.task_of.Goals as goal

-- by the rows of a command
by_rows : (m : ArgMatches) (name : Text) (flag : Bool) → Flagged (one_text (found_of m) name) flag
    → Flagged (one_of name (rows_of (found_of m))) flag
by_rows m name flag f =
    let same = one_text-rows (found_of m) name in
    record {
      none = λ e. f.none (same ∙ e);
      value = λ e. f.value (same ∙ e);
      other = λ e. f.other (same ∙ e);
    }

pub returns-in-trace : goal.returns-in-trace
returns-in-trace c =
    let given = c.args.given.now in
    let e = c.get_flag.ensures in
    let f = by_rows given (codes "svg") c.get_flag.result
    record { none = e.none; value = e.value; other = e.other } in
    let on =
    not_left_out (codes "svg") (rows_of (found_of given)) c.get_flag.result f c.if-get_flag.true in
    of_trace c.args.name.now (rows_of (found_of given)) _ c.in-trace.is (λ a b d. absurd (on a))
    (λ a. refl) (λ a b. absurd (on a)) (λ a b d. absurd (on a))

pub returns-in-trace-2 : goal.returns-in-trace-2
returns-in-trace-2 c =
    let given = c.args.given.now in
    let e = c.get_flag.ensures in
    let e' = c.get_flag-then-str_eq-2.ensures in
    let f = by_rows given (codes "svg") c.get_flag.result
    record { none = e.none; value = e.value; other = e.other } in
    let f' = by_rows given (codes "html") c.get_flag-then-str_eq-2.result
    record { none = e'.none; value = e'.value; other = e'.other } in
    let off =
    not_given (codes "svg") (rows_of (found_of given)) c.get_flag.result f c.if-get_flag.false in
    let on = not_left_out (codes "html") (rows_of (found_of given)) c.get_flag-then-str_eq-2.result
    f' c.if-get_flag-2.true in
    of_trace c.args.name.now (rows_of (found_of given)) _ c.in-trace.is (λ a b d. absurd (on b))
    (λ a. absurd (off a)) (λ a b. refl) (λ a b d. absurd (on b))

pub returns-in-trace-3 : goal.returns-in-trace-3
returns-in-trace-3 c =
    let given = c.args.given.now in
    let e = c.get_flag.ensures in
    let e' = c.get_flag-then-str_eq-2.ensures in
    let e'' = c.get_flag-then-str_eq-2-2.ensures in
    let f = by_rows given (codes "svg") c.get_flag.result
    record { none = e.none; value = e.value; other = e.other } in
    let f' = by_rows given (codes "html") c.get_flag-then-str_eq-2.result
    record { none = e'.none; value = e'.value; other = e'.other } in
    let f'' = by_rows given (codes "play") c.get_flag-then-str_eq-2-2.result
    record { none = e''.none; value = e''.value; other = e''.other } in
    let off =
    not_given (codes "svg") (rows_of (found_of given)) c.get_flag.result f c.if-get_flag.false in
    let off' = not_given (codes "html") (rows_of (found_of given)) c.get_flag-then-str_eq-2.result
    f' c.if-get_flag-2.false in
    let on =
    not_left_out (codes "play") (rows_of (found_of given)) c.get_flag-then-str_eq-2-2.result
    f'' c.if-get_flag-3.true in
    of_trace c.args.name.now (rows_of (found_of given)) _ c.in-trace.is (λ a b d. absurd (on d))
    (λ a. absurd (off a)) (λ a b. absurd (off' b)) (λ a b d. refl)

pub returns-in-trace-4 : goal.returns-in-trace-4
returns-in-trace-4 c =
    let given = c.args.given.now in
    let e = c.get_flag.ensures in
    let e' = c.get_flag-then-str_eq-2.ensures in
    let e'' = c.get_flag-then-str_eq-2-2.ensures in
    let f = by_rows given (codes "svg") c.get_flag.result
    record { none = e.none; value = e.value; other = e.other } in
    let f' = by_rows given (codes "html") c.get_flag-then-str_eq-2.result
    record { none = e'.none; value = e'.value; other = e'.other } in
    let f'' = by_rows given (codes "play") c.get_flag-then-str_eq-2-2.result
    record { none = e''.none; value = e''.value; other = e''.other } in
    let off =
    not_given (codes "svg") (rows_of (found_of given)) c.get_flag.result f c.if-get_flag.false in
    let off' = not_given (codes "html") (rows_of (found_of given)) c.get_flag-then-str_eq-2.result
    f' c.if-get_flag-2.false in
    let off'' = not_given (codes "play") (rows_of (found_of given))
    c.get_flag-then-str_eq-2-2.result f'' c.if-get_flag-3.false in
    of_trace c.args.name.now (rows_of (found_of given)) _ c.in-trace.is (λ a b d. refl)
    (λ a. absurd (off a)) (λ a b. absurd (off' b)) (λ a b d. absurd (off'' d))

pub returns-in-run : goal.returns-in-run
returns-in-run c =
    let given = c.args.given.now in
    let e = c.get_flag-then-str_eq-3.ensures in
    let f = by_rows given (codes "log") c.get_flag-then-str_eq-3.result
    record { none = e.none; value = e.value; other = e.other } in
    let on = not_left_out (codes "log") (rows_of (found_of given)) c.get_flag-then-str_eq-3.result f
    c.if-get_flag-4.true in
    let r = c.request_of.ensures in
    of_run c.args.name.now (rows_of (found_of given)) _ c.request_of.result c.in-run.is
    record {
      senders = r.senders;
      receivers = r.receivers;
      messages = r.messages;
      seed = r.seed;
    } (λ a b. absurd (on a)) (λ a. refl) (λ a b. absurd (on a))

pub returns-in-run-2 : goal.returns-in-run-2
returns-in-run-2 c =
    let given = c.args.given.now in
    let e = c.get_flag-then-str_eq-3.ensures in
    let e' = c.get_flag-then-str_eq-3-2.ensures in
    let f = by_rows given (codes "log") c.get_flag-then-str_eq-3.result
    record { none = e.none; value = e.value; other = e.other } in
    let f' = by_rows given (codes "journal") c.get_flag-then-str_eq-3-2.result
    record { none = e'.none; value = e'.value; other = e'.other } in
    let off = not_given (codes "log") (rows_of (found_of given)) c.get_flag-then-str_eq-3.result f
    c.if-get_flag-4.false in
    let on = not_left_out (codes "journal") (rows_of (found_of given))
    c.get_flag-then-str_eq-3-2.result f' c.if-get_flag-5.true in
    let r = c.request_of-in-run-2.ensures in
    of_run c.args.name.now (rows_of (found_of given)) _ c.request_of-in-run-2.result c.in-run.is
    record {
      senders = r.senders;
      receivers = r.receivers;
      messages = r.messages;
      seed = r.seed;
    } (λ a b. absurd (on b)) (λ a. absurd (off a)) (λ a b. refl)

pub returns-in-run-3 : goal.returns-in-run-3
returns-in-run-3 c =
    let given = c.args.given.now in
    let e = c.get_flag-then-str_eq-3.ensures in
    let e' = c.get_flag-then-str_eq-3-2.ensures in
    let f = by_rows given (codes "log") c.get_flag-then-str_eq-3.result
    record { none = e.none; value = e.value; other = e.other } in
    let f' = by_rows given (codes "journal") c.get_flag-then-str_eq-3-2.result
    record { none = e'.none; value = e'.value; other = e'.other } in
    let off = not_given (codes "log") (rows_of (found_of given)) c.get_flag-then-str_eq-3.result f
    c.if-get_flag-4.false in
    let off' = not_given (codes "journal") (rows_of (found_of given))
    c.get_flag-then-str_eq-3-2.result f' c.if-get_flag-5.false in
    let r = c.request_of-in-run-3.ensures in
    of_run c.args.name.now (rows_of (found_of given)) _ c.request_of-in-run-3.result c.in-run.is
    record {
      senders = r.senders;
      receivers = r.receivers;
      messages = r.messages;
      seed = r.seed;
    } (λ a b. refl) (λ a. absurd (off a)) (λ a b. absurd (off' b))

pub returns-in-log : goal.returns-in-log
returns-in-log c =
    of_log c.args.name.now (rows_of (found_of c.args.given.now)) c.number_of.result
    c.number_of-in-log.result c.in-log.is c.number_of.ensures c.number_of-in-log.ensures

pub returns-in-journal : goal.returns-in-journal
returns-in-journal c =
    let given = c.args.given.now in
    let e = c.get_flag-then-str_eq-5.ensures in
    let f = by_rows given (codes "repair") c.get_flag-then-str_eq-5.result
    record { none = e.none; value = e.value; other = e.other } in
    let on = not_left_out (codes "repair") (rows_of (found_of given))
    c.get_flag-then-str_eq-5.result f c.if-get_flag-6.true in
    of_journal c.args.name.now (rows_of (found_of given)) _ c.in-journal.is (λ a. absurd (on a))
    (λ a. refl)

pub returns-in-journal-2 : goal.returns-in-journal-2
returns-in-journal-2 c =
    let given = c.args.given.now in
    let e = c.get_flag-then-str_eq-5.ensures in
    let f = by_rows given (codes "repair") c.get_flag-then-str_eq-5.result
    record { none = e.none; value = e.value; other = e.other } in
    let off = not_given (codes "repair") (rows_of (found_of given))
    c.get_flag-then-str_eq-5.result f c.if-get_flag-6.false in
    of_journal c.args.name.now (rows_of (found_of given)) _ c.in-journal.is (λ a. refl)
    (λ a. absurd (off a))
