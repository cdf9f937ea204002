use Rattle.std.proofs.Common.{List, Option, Some, None, option_map, is_some, map, string_bytes, ap}
use Rattle.std.proofs.Common.{ap₂, sym, subst, refl, ◌∙◌, ◌≡◌, true, false}
use Rattle.std.specs.Box.{box_value}
use Rattle.std.specs.Prelude.{Box}
use Rattle.clap.specs.Words.{App, Row, Text, is_simple, subcommand_of, subcommand_rows}
use Rattle.clap.specs.Words.{subcommand_rows_of, rows_of, found_of}
use Rattle.clap.specs.declared.parser.matches.ArgMatches.TheViews.{out-ArgMatches, out-SubCommand}
use Rattle.clap.specs.declared.parser.matches.SubCommand.{SubCommand}
use Rattle.bus_commands.specs.CommandLine.{bus_command, NamesTask}
use Rattle.bus_commands.specs.declared.command_line.Task.TheVariants as task
use Rattle.bus_commands.proofs.command_line.parse.Goals.{in-Some, in-None}
use Rattle.bus_commands.proofs.command_line.parse.Goals as goal

-- the command of `bus` is one whose matches are known from the words
simple : is_simple bus_command ≡ true
simple = refl

-- the name and the rows of what was met, told apart, are those told together
joined : (o : Option (Text × List Row)) (name : Text) (rows : List Row)
    → option_map (λ (p : Text × List Row). p.0) o ≡ Some name
    → option_map (λ (p : Text × List Row). p.1) o ≡ Some rows → o ≡ Some (name, rows)
joined None name rows e f = absurd cc
joined (Some p) name rows e f =
    let a : p.0 ≡ name = cc in let b : p.1 ≡ rows = cc in ap₂ (λ x y. Some (x, y)) a b

module _ {Z : Type 0} where
  name_of : (o : Option (Box SubCommand Z))
      → option_map (λ (p : Text × List Row). p.0) (subcommand_rows o)
      ≡ option_map (λ b. (out-SubCommand (box_value b)).name.now) o
  name_of None = refl
  name_of (Some b) = refl

  none_met : (o : Option (Box SubCommand Z)) → false ≡ is_some o → subcommand_rows o ≡ None
  none_met None e = refl
  none_met (Some b) e = absurd cc

nothing : NamesTask None task.Ratify
nothing = record {
  ratify = λ r e. absurd cc;
  replay = λ r e. absurd cc;
  trace = λ r e a b d. absurd cc;
  picture = λ r e a. absurd cc;
  webpage = λ r e a b. absurd cc;
  play = λ r e a b d. absurd cc;
  run = λ r e a b. absurd cc;
  run_log = λ r e a. absurd cc;
  run_journal = λ r e a b. absurd cc;
  log = λ r e. absurd cc;
  journal = λ r e a. absurd cc;
  repair = λ r e a. absurd cc;
}

pub returns : goal.returns
returns c =
    let m = c.in_ok-matches.matches in
    let words = map string_bytes c.args.words.now in
    let met : subcommand_rows_of m ≡ subcommand_of bus_command words =
    (c.in_ok-matches.ensures.matches (ap is_simple c.in_ok-bus_command.ensures ∙ simple)).1
    ∙ ap (λ (a : App). subcommand_of a words) c.in_ok-bus_command.ensures in
    elim c.match-subcommand.branch [
      | in-Some w ↦
          let own : NamesTask (Some (w.in-Some.name.now, rows_of (found_of w.in-Some.given.now)))
          w.task_of.result = record {
            ratify = w.task_of.ensures.ratify;
            replay = w.task_of.ensures.replay;
            trace = w.task_of.ensures.trace;
            picture = w.task_of.ensures.picture;
            webpage = w.task_of.ensures.webpage;
            play = w.task_of.ensures.play;
            run = w.task_of.ensures.run;
            run_log = w.task_of.ensures.run_log;
            run_journal = w.task_of.ensures.run_journal;
            log = w.task_of.ensures.log;
            journal = w.task_of.ensures.journal;
            repair = w.task_of.ensures.repair;
          } in
          let o = (out-ArgMatches m).subcommand in
          let both =
          joined (subcommand_rows o) w.in-Some.name.now (rows_of (found_of w.in-Some.given.now))
          (name_of o ∙ sym w.in-Some.ensures.name) (sym w.in-Some.ensures.rows) in
          record {
            named = subst (NamesTask (subcommand_of bus_command words)) (sym w.result-is)
                (subst (λ z. NamesTask z w.task_of.result) (sym both ∙ met) own);
          }
      | in-None w ↦
          let none = none_met (out-ArgMatches m).subcommand w.in-None.ensures.variant in
          record {
            named = subst (NamesTask (subcommand_of bus_command words)) (sym w.result-is)
                (subst (λ z. NamesTask z task.Ratify) (sym none ∙ met) nothing);
          }
    ]
