-- Which task a command names, by its name and what its options were given.
use Rattle.std.proofs.Common.{◌≡◌, ℕ, Bool, true, false, List, Option, Some, None, inl, inr, codes}
use Rattle.std.proofs.Common.{refl, sym, ◌∙◌, ap, subst}
use Rattle.std.proofs.lemmas.Option.{same_Some}
use Rattle.std.specs.Str.{bytes_eq}
use Rattle.clap.specs.Words.{Row, Text, one_of}
use Rattle.bus_commands.specs.CommandLine.{IsGiven, IsLeftOut, IsNumberOf, AsksFor, NamesTask}
use Rattle.bus_commands.specs.declared.printing.Request.{Request}
use Rattle.bus_commands.specs.declared.command_line.Task.{Task}
use Rattle.bus_commands.specs.declared.command_line.Task.TheVariants as task
use Rattle.bus_webpage.specs.declared.webpages.Purpose.TheVariants as purpose

-- two names that are written out differ
apart : (a b : Text) → bytes_eq a b ≡ false → bytes_eq b b ≡ true → a ≡ b → ⊥
apart a b differ same e =
    let bad : false ≡ true = sym differ ∙ ap (λ t. bytes_eq t b) e ∙ same in cc

-- what `get_flag` says of an option
pub record Flagged (text : Option Text) (flag : Bool) : Type 0 where
  pub none : text ≡ None → flag ≡ false
  pub value : text ≡ Some (codes "true") → flag ≡ true
  pub other : text ≡ Some (codes "false") → flag ≡ false

pub not_given : (name : Text) (rows : List Row) (flag : Bool) → Flagged (one_of name rows) flag
    → flag ≡ false → IsGiven name rows → ⊥
not_given name rows flag f off given = let bad = sym off ∙ f.value given in cc

pub not_left_out : (name : Text) (rows : List Row) (flag : Bool) → Flagged (one_of name rows) flag
    → flag ≡ true → IsLeftOut name rows → ⊥
not_left_out name rows flag f on (inl none) = let bad = sym on ∙ f.none none in cc
not_left_out name rows flag f on (inr off) = let bad = sym on ∙ f.other off in cc

-- a command that was met, with what its options were given
abbrev met : Text → List Row → Option (Text × List Row)
met name rows = Some (name, rows)

module _ (name : Text) (rows : List Row) where
  name_is : (m : Text) (rows' : List Row) → met name rows ≡ met m rows' → name ≡ m
  name_is m rows' e = ap (λ (z : Text × List Row). z.0) (same_Some (name, rows) (m, rows') e)

  rows_are : (m : Text) (rows' : List Row) → met name rows ≡ met m rows' → rows' ≡ rows
  rows_are m rows' e = ap (λ (z : Text × List Row). z.1) (sym (same_Some (name, rows) (m, rows') e))

  pub of_trace : (t : Task) → name ≡ codes "trace"
      → (IsLeftOut (codes "svg") rows → IsLeftOut (codes "html") rows
      → IsLeftOut (codes "play") rows → t ≡ task.Trace)
      → (IsGiven (codes "svg") rows → t ≡ task.Picture)
      → (IsLeftOut (codes "svg") rows → IsGiven (codes "html") rows → t ≡ task.Webpage purpose.Step)
      → (IsLeftOut (codes "svg") rows → IsLeftOut (codes "html") rows → IsGiven (codes "play") rows
      → t ≡ task.Webpage purpose.Play) → NamesTask (Some (name, rows)) t
  of_trace t is trace picture webpage play =
      let other : (m : Text) (rows' : List Row) → bytes_eq (codes "trace") m ≡ false
      → bytes_eq m m ≡ true → met name rows ≡ met m rows' → ⊥ =
      λ m rows' differ same e.
      apart (codes "trace") m differ same (sym is ∙ name_is m rows' e) in
      record {
        ratify = λ r e. absurd (other (codes "ratify") r refl refl e);
        replay = λ r e. absurd (other (codes "replay") r refl refl e);
        trace = λ r e a b d.
            let same = rows_are (codes "trace") r e in
            trace (subst (IsLeftOut (codes "svg")) same a)
            (subst (IsLeftOut (codes "html")) same b) (subst (IsLeftOut (codes "play")) same d);
        picture = λ r e a. picture (subst (IsGiven (codes "svg")) (rows_are (codes "trace") r e) a);
        webpage = λ r e a b.
            let same = rows_are (codes "trace") r e in
            webpage (subst (IsLeftOut (codes "svg")) same a)
            (subst (IsGiven (codes "html")) same b);
        play = λ r e a b d.
            let same = rows_are (codes "trace") r e in
            play (subst (IsLeftOut (codes "svg")) same a)
            (subst (IsLeftOut (codes "html")) same b) (subst (IsGiven (codes "play")) same d);
        run = λ r e a b. absurd (other (codes "run") r refl refl e);
        run_log = λ r e a. absurd (other (codes "run") r refl refl e);
        run_journal = λ r e a b. absurd (other (codes "run") r refl refl e);
        log = λ r e. absurd (other (codes "log") r refl refl e);
        journal = λ r e a. absurd (other (codes "journal") r refl refl e);
        repair = λ r e a. absurd (other (codes "journal") r refl refl e);
      }

  pub of_run : (t : Task) (request : Request) → name ≡ codes "run" → AsksFor rows request
      → (IsLeftOut (codes "log") rows → IsLeftOut (codes "journal") rows → t ≡ task.Run request)
      → (IsGiven (codes "log") rows → t ≡ task.RunLog request)
      → (IsLeftOut (codes "log") rows → IsGiven (codes "journal") rows
      → t ≡ task.RunJournal request) → NamesTask (Some (name, rows)) t
  of_run t request is asks run run_log run_journal =
      let other : (m : Text) (rows' : List Row) → bytes_eq (codes "run") m ≡ false
      → bytes_eq m m ≡ true → met name rows ≡ met m rows' → ⊥ =
      λ m rows' differ same e. apart (codes "run") m differ same (sym is ∙ name_is m rows' e) in
      let asked : (r : List Row) → met name rows ≡ met (codes "run") r → AsksFor r request =
      λ r e. subst (λ z. AsksFor z request) (sym (rows_are (codes "run") r e)) asks in
      record {
        ratify = λ r e. absurd (other (codes "ratify") r refl refl e);
        replay = λ r e. absurd (other (codes "replay") r refl refl e);
        trace = λ r e a b d. absurd (other (codes "trace") r refl refl e);
        picture = λ r e a. absurd (other (codes "trace") r refl refl e);
        webpage = λ r e a b. absurd (other (codes "trace") r refl refl e);
        play = λ r e a b d. absurd (other (codes "trace") r refl refl e);
        run = λ r e a b. (
          request,
          run (subst (IsLeftOut (codes "log")) (rows_are (codes "run") r e) a)
              (subst (IsLeftOut (codes "journal")) (rows_are (codes "run") r e) b),
          asked r e,
        );
        run_log = λ r e a. (
          request,
          run_log (subst (IsGiven (codes "log")) (rows_are (codes "run") r e) a),
          asked r e,
        );
        run_journal = λ r e a b. (
          request,
          run_journal (subst (IsLeftOut (codes "log")) (rows_are (codes "run") r e) a)
              (subst (IsGiven (codes "journal")) (rows_are (codes "run") r e) b),
          asked r e,
        );
        log = λ r e. absurd (other (codes "log") r refl refl e);
        journal = λ r e a. absurd (other (codes "journal") r refl refl e);
        repair = λ r e a. absurd (other (codes "journal") r refl refl e);
      }

  pub of_log : (senders batch : ℕ) → name ≡ codes "log"
      → IsNumberOf (codes "senders") rows 3 senders → IsNumberOf (codes "batch") rows 16 batch
      → NamesTask (Some (name, rows)) (task.Log senders batch)
  of_log senders batch is some most =
      let other : (m : Text) (rows' : List Row) → bytes_eq (codes "log") m ≡ false
      → bytes_eq m m ≡ true → met name rows ≡ met m rows' → ⊥ =
      λ m rows' differ same e. apart (codes "log") m differ same (sym is ∙ name_is m rows' e) in
      record {
        ratify = λ r e. absurd (other (codes "ratify") r refl refl e);
        replay = λ r e. absurd (other (codes "replay") r refl refl e);
        trace = λ r e a b d. absurd (other (codes "trace") r refl refl e);
        picture = λ r e a. absurd (other (codes "trace") r refl refl e);
        webpage = λ r e a b. absurd (other (codes "trace") r refl refl e);
        play = λ r e a b d. absurd (other (codes "trace") r refl refl e);
        run = λ r e a b. absurd (other (codes "run") r refl refl e);
        run_log = λ r e a. absurd (other (codes "run") r refl refl e);
        run_journal = λ r e a b. absurd (other (codes "run") r refl refl e);
        log = λ r e.
            let same = sym (rows_are (codes "log") r e) in (
              senders,
              batch,
              refl,
              subst (λ z. IsNumberOf (codes "senders") z 3 senders) same some,
              subst (λ z. IsNumberOf (codes "batch") z 16 batch) same most,
            );
        journal = λ r e a. absurd (other (codes "journal") r refl refl e);
        repair = λ r e a. absurd (other (codes "journal") r refl refl e);
      }

  pub of_journal : (t : Task) → name ≡ codes "journal"
      → (IsLeftOut (codes "repair") rows → t ≡ task.Journal)
      → (IsGiven (codes "repair") rows → t ≡ task.Repair) → NamesTask (Some (name, rows)) t
  of_journal t is journal repair =
      let other : (m : Text) (rows' : List Row) → bytes_eq (codes "journal") m ≡ false
      → bytes_eq m m ≡ true → met name rows ≡ met m rows' → ⊥ =
      λ m rows' differ same e. apart (codes "journal") m differ same (sym is ∙ name_is m rows' e) in
      record {
        ratify = λ r e. absurd (other (codes "ratify") r refl refl e);
        replay = λ r e. absurd (other (codes "replay") r refl refl e);
        trace = λ r e a b d. absurd (other (codes "trace") r refl refl e);
        picture = λ r e a. absurd (other (codes "trace") r refl refl e);
        webpage = λ r e a b. absurd (other (codes "trace") r refl refl e);
        play = λ r e a b d. absurd (other (codes "trace") r refl refl e);
        run = λ r e a b. absurd (other (codes "run") r refl refl e);
        run_log = λ r e a. absurd (other (codes "run") r refl refl e);
        run_journal = λ r e a b. absurd (other (codes "run") r refl refl e);
        log = λ r e. absurd (other (codes "log") r refl refl e);
        journal = λ r e a.
            journal (subst (IsLeftOut (codes "repair")) (rows_are (codes "journal") r e) a);
        repair = λ r e a.
            repair (subst (IsGiven (codes "repair")) (rows_are (codes "journal") r e) a);
      }
