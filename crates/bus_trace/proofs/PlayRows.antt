-- The lines of a script, obeyed one by one.
use Rattle.std.proofs.Common.{◌≡◌, ℕ, ◌+◌, ◌-◌, Bool, Option, Some, None, List, [], ◌∷◌, ◌++◌}
use Rattle.std.proofs.Common.{refl, sym, ap, subst, ◌∙◌, append_assoc, inl, inr}
use Rattle.std.proofs.lemmas.List.{append-nil}
use Rattle.bus_register.specs.Protocol.{Protocol}
use Rattle.bus_adoptcommit.specs.declared.verdicts.Verdict.{Verdict}
use Rattle.bus_tenure.specs.Core.{Election}
use Rattle.bus_tenure.specs.Elections.{Elector}
use Rattle.bus_world.specs.declared.events.StepFault.{StepFault}
use Rattle.bus_machine.specs.Machine.{Machine}
use Rattle.bus_script.specs.declared.answers.Outcome.{Outcome}
use Rattle.bus_script.specs.declared.answers.Outcome.TheVariants as outcome
use Rattle.bus_script.specs.declared.line_numbers.LineNumber.TheVariants.{AtLine}
use Rattle.bus_script.specs.LineNumbers.{refusal_line}
use Rattle.bus_replay.specs.declared.lines.FirstLine.{FirstLine}
use Rattle.bus_replay.specs.Lines.{Command, Plays, ForksTo, command_of, shape_in, reuse_in}
use Rattle.bus_replay.specs.Lines.{passers_in}
use Rattle.bus_replay.specs.Text.{answer_line, fork_line, step_fault_name}
use Rattle.bus_replay.specs.Answers.{End, Left, Stopped, Asked, Prints, IsOpened}
use Rattle.bus_trace.specs.Rows.{header, fork_row}
use Rattle.bus_trace.specs.Traces.{repeat_rows, asked_rows, printed_rows, numbered_rows}
use Rattle.bus_trace.specs.Traces.{ArePrinted, Begins}
use Rattle.bus_trace.specs.Obeying.{Grows, IsDone, IsObeyed, ArePlayed}
use Rattle.bus_trace.specs.Words.{TraceSizes, sizes_of}
use Rattle.bus_trace.proofs.RowLemmas.{grown_more, grown_none}

module _ {S : Type 0} (X : Election (Elector S)) (P : Protocol S Bool Verdict)
    (p : TraceSizes) where
  -- what is played behind a line, and its lines
  abbrev Behinds : Type 1
  Behinds = Machine (Elector S) → List ℕ → End (Elector S) → Type 0

  abbrev Rows : Behinds → Type 0
  Rows Behind =
      (mid : Machine (Elector S)) (rest : List ℕ) (end : End (Elector S)) → Behind mid rest end
      → List (List ℕ)

  -- ---- one line
  module _ (b : Machine (Elector S)) (line : ℕ × List ℕ) (b' : Machine (Elector S)) (old : List ℕ)
      (before : ℕ) where
    -- a line that asks for this was answered: whatever is played behind it, its lines stand before
    -- those of that
    abbrev IsAnswered : Option Command → List ℕ → ℕ → Type 1
    IsAnswered o new after =
        (printed : List ℕ) × (rows : List (List ℕ)) × Grows old before new after rows
        × ((Behind : Behinds) (behind : Rows Behind) (rest : List ℕ) (end : End (Elector S))
        (run : Behind b' rest end)
        → (whole : Asked X P b line.0 o Behind (printed ++ rest) end)
        × (asked_rows X P p b line.0 o Behind behind (printed ++ rest) end
        whole ≡ rows ++ behind b' rest end run))

    behind_answered : (o : Option Command) (c : Command) (new : List ℕ) (after : ℕ) → Some c ≡ o
        → IsDone X P p line.0 b c old before new after None b' → IsAnswered o new after
    behind_answered o (Plays event times) new after is h =
        subst (λ z. IsAnswered z new after) is (
          answer_line event h.0,
          repeat_rows X P p line.0 b event (times - 1) h.0 b' h.1,
          h.2,
          λ Behind behind rest end run. (inr (b', h.0, rest, h.1, run, refl), refl),
        )
    behind_answered o (ForksTo i j) new after is h =
        subst (λ z. IsAnswered z new after) is (
          fork_line i j h.0,
          fork_row p line.0 b i j h.0 ∷ [],
          h.2,
          λ Behind behind rest end run. (inr (b', h.0, rest, h.1, run, refl), refl),
        )

    pub answered : (c : Command) (new : List ℕ) (after : ℕ) → Some c ≡ command_of line.1
        → IsDone X P p line.0 b c old before new after None b'
        → IsObeyed X P p b line old before new after outcome.Done b'
    answered c new after is h =
        let d = behind_answered (command_of line.1) c new after is h in (
          d.0,
          d.1,
          d.2,
          λ lines rest end run. d.3 (λ mid more stop. Prints X P mid lines more stop)
              (λ mid more stop behind. printed_rows X
              P p mid lines more stop behind) rest end run,
        )

    -- a line that asks for this was refused: no line is put
    abbrev IsFaulty : Option Command → StepFault → Type 1
    IsFaulty o why =
        (Behind : Behinds) (behind : Rows Behind)
        → (whole : Asked X P b line.0 o Behind []
        (Stopped (refusal_line (AtLine line.0) (step_fault_name why))))
        × (asked_rows X P p b line.0 o Behind behind []
        (Stopped (refusal_line (AtLine line.0) (step_fault_name why))) whole ≡ [])

    module _ (why : StepFault) (mid : List ℕ) (between : ℕ) where
      fault_asked : (o : Option Command) (c : Command) → Some c ≡ o
          → IsDone X P p line.0 b c old before mid between (Some why) b' → IsFaulty o why
      fault_asked o (Plays event times) is h =
          subst (λ z. IsFaulty z why) is (λ Behind behind. (inl (why, h.0, refl, refl), refl))
      fault_asked o (ForksTo i j) is h =
          subst (λ z. IsFaulty z why) is (λ Behind behind. (inl (why, h.0, refl, refl), refl))

      nothing_put : (c : Command)
          → IsDone X P p line.0 b c old before mid between (Some why) b' → mid ≡ old
      nothing_put (Plays event times) h = h.1
      nothing_put (ForksTo i j) h = h.1

      pub refused : (c : Command) (new : List ℕ) (after : ℕ) → Some c ≡ command_of line.1
          → IsDone X P p line.0 b c old before mid between (Some why) b'
          → new ≡ mid ++ refusal_line (AtLine line.0) (step_fault_name why)
          → IsObeyed X P p b line old before new after outcome.Refused b'
      refused c new after is h text = (
        refusal_line (AtLine line.0) (step_fault_name why),
        text ∙ ap (λ (l : List ℕ). l ++ refusal_line (AtLine line.0)
            (step_fault_name why)) (nothing_put c h),
        λ lines.
            fault_asked (command_of line.1) c is h (λ m more stop. Prints X P m lines more stop)
            (λ m more stop behind. printed_rows X P p m lines more stop behind),
      )

  -- ---- all lines
  module _ (b : Machine (Elector S)) (lines : List (ℕ × List ℕ)) (old : List ℕ) (before : ℕ) where
    -- these lines were put: those of what is played behind them come behind them
    pub record Played (left : List (ℕ × List ℕ)) (new : List ℕ) (after : ℕ)
        (now : Machine (Elector S)) : Type 0 where
      pub printed : List ℕ
      pub rows : List (List ℕ)
      pub grown : Grows old before new after rows
      pub from_first : (rest : List ℕ) (end : End (Elector S)) (run : Prints X P now left rest end)
          → (whole : Prints X P b lines (printed ++ rest) end)
          × (printed_rows X P p b lines (printed ++ rest) end whole ≡ rows ++
          printed_rows X P p now left rest end run)

    pub none_played : Played lines old before b
    none_played = record {
      printed = [];
      rows = [];
      grown = grown_none old before;
      from_first = λ rest end run. (run, refl);
    }

    -- a run of lines, with the text that it prints written in another way
    moved : (text text' : List ℕ) (end : End (Elector S)) (rows : List (List ℕ)) → text ≡ text'
        → (whole : Prints X P b lines text end)
        × (printed_rows X P p b lines text end whole ≡ rows)
        → (whole : Prints X P b lines text' end)
        × (printed_rows X P p b lines text' end whole ≡ rows)
    moved text text' end rows e h = subst
        (λ l. (whole : Prints X P b lines l end) × (printed_rows X P p b lines l end whole ≡ rows))
        e h

    module _ (left behind : List (ℕ × List ℕ)) (line : ℕ × List ℕ) (mid : List ℕ) (between : ℕ)
        (new : List ℕ) (after : ℕ)
        (now next : Machine (Elector S)) (o : Outcome) (h : Played left mid between now)
        (is : line ∷ behind ≡ left) where
      onward : (rest : List ℕ) (end : End (Elector S)) (rows : List (List ℕ))
          → (run : Prints X P now (line ∷ behind) rest end)
          × (printed_rows X P p now (line ∷ behind) rest end run ≡ rows)
          → (whole : Prints X P b lines (h.printed ++ rest) end)
          × (printed_rows X P p b lines (h.printed ++ rest) end whole ≡ h.rows ++
          rows)
      onward rest end rows r =
          let there = subst
          (λ l. (run : Prints X P now l rest end) × (printed_rows X P p now l rest end run ≡ rows))
          is r in
          let whole = h.from_first rest end there.0 in
          (whole.0, whole.1 ∙ ap (λ (l : List (List ℕ)). h.rows ++ l) there.1)

      -- one more line was obeyed
      pub one_played : o ≡ outcome.Done → IsObeyed X P p now line mid between new after o next
          → Played behind new after next
      one_played done obeyed =
          let d : IsObeyed X P p now line mid between new after outcome.Done next =
          subst (λ r. IsObeyed X P p now line mid between new
          after r next) done obeyed in
          record {
            printed = h.printed ++ d.0;
            rows = h.rows ++ d.1;
            grown = grown_more old mid new before between after h.rows d.1 h.grown d.2;
            from_first = λ rest end run.
                moved (h.printed ++ (d.0 ++ rest)) ((h.printed ++ d.0) ++ rest) end
                ((h.rows ++ d.1) ++ printed_rows X P p next behind rest
                end run) (sym (append_assoc h.printed d.0 rest))
                (let w = onward (d.0 ++ rest) end
                (d.1 ++ printed_rows X P p next behind rest end run) (d.3 behind rest end run) in (
                  w.0,
                  w.1 ∙ sym (append_assoc h.rows d.1 (printed_rows X P p next behind rest end run)),
                ));
          }

      -- a line was refused
      pub one_refused : o ≡ outcome.Refused → IsObeyed X P p now line mid between new after o next
          → ArePlayed X P p b lines old before new
          outcome.Refused next
      one_refused stops obeyed =
          let d : IsObeyed X P p now line mid between new after outcome.Refused next =
          subst (λ r. IsObeyed X P p now line mid between new
          after r next) stops obeyed in
          let w = onward [] (Stopped d.0) [] (d.2 behind) in (
            d.0,
            h.printed ++ [],
            w.0,
            d.1 ∙ ap (λ (l : List ℕ). l ++ d.0) h.grown.text_is
                ∙ ap (λ (l : List (List ℕ)). old ++ numbered_rows (before + 1) l ++ d.0)
                (sym (w.1 ∙ append-nil h.rows)),
          )

    -- no line is left
    pub all_played :
        (left : List (ℕ × List ℕ)) (new : List ℕ) (after : ℕ) (now : Machine (Elector S))
        → Played left new after now
        → left ≡ [] → ArePlayed X P p b lines old before new outcome.Done now
    all_played left new after now h none =
        let end : (run : Prints X P now left [] (Left now))
        × (printed_rows X P p now left [] (Left now) run ≡ []) = subst
        (λ l.
        (run : Prints X P now l [] (Left now)) × (printed_rows X P p now l [] (Left now) run ≡ []))
        (sym none)
        ((refl, refl), refl) in
        let whole = h.from_first [] (Left now) end.0 in (
          h.printed ++ [],
          whole.0,
          h.grown.text_is ∙ ap (λ (l : List (List ℕ)). old ++ numbered_rows (before + 1) l)
              (sym (whole.1 ∙ ap (λ (l : List (List ℕ)). h.rows ++ l) end.1 ∙ append-nil h.rows)),
        )

    -- ---- the whole text
    -- the lines behind the first one moved a new bus, and all that was put behind the names of the
    -- columns is theirs
    pub printed : (b' : Machine (Elector S)) (o : Outcome) (whole : List ℕ) → old ≡ header
        → before ≡ 0
        → ArePlayed X P p b lines old before whole o b' → ArePrinted X P p b lines o whole
    printed b' o whole old_is none h =
        all o (subst (λ l. ArePlayed X P p b lines l 0 whole o b') old_is
        (subst (λ j. ArePlayed X P p b lines old j whole o b') none h))
      where
        all : (r : Outcome) → ArePlayed X P p b lines header 0 whole r b'
            → ArePrinted X P p b lines r whole
        all outcome.Done h = (
          h.0,
          Left b',
          h.1,
          refl,
          h.2
              ∙ sym
              (append-nil
              (header ++ numbered_rows 1 (printed_rows X P p b lines h.0 (Left b') h.1))),
        )
        all outcome.Refused h = (h.1, Stopped h.0, h.2, refl, h.3)

-- a new bus was made
pub begun : {S : Type 0} (X : Election (Elector S)) (P : Protocol S Bool Verdict) (p : TraceSizes)
    (line : ℕ) (first : FirstLine)
    (lines : List (ℕ × List ℕ)) (b : Machine (Elector S)) (o : Outcome) (whole : List ℕ)
    → IsOpened X P first b → p ≡ sizes_of P (shape_in first) (reuse_in first) (passers_in first)
    → ArePrinted X P p b lines o whole
    → Begins X P line (Some first) lines o whole
begun X P p line first lines b o whole opened sizes rows = inr (inr (
  b,
  opened,
  subst (λ q. ArePrinted X P q b lines o whole) sizes rows,
))
