-- The lines of a script of `replay`, obeyed one by one.
use Rattle.std.proofs.Common.{◌≡◌, ◌≤◌, ◌+◌, ◌-◌, ℕ, suc, Bool, Option, Some, List, [], ◌∷◌}
use Rattle.std.proofs.Common.{◌++◌, length, slice_get, refl, sym, ap, subst, ◌∙◌}
use Rattle.std.proofs.Common.{append_assoc, inl, inr, arith}
use Rattle.std.specs.Prelude.{Result, Ok, Err, IfOk, OnOk}
use Rattle.std.proofs.lemmas.List.{append-nil}
use Rattle.bus_register.specs.Protocol.{Protocol}
use Rattle.bus_register.specs.declared.registers.SenderNo.{SenderNo}
use Rattle.bus_adoptcommit.specs.declared.verdicts.Verdict.{Verdict}
use Rattle.bus_batch.specs.Frames.{Order, Spells, AreFrames, IsLog}
use Rattle.bus_tenure.specs.Core.{Election}
use Rattle.bus_tenure.specs.Elections.{Elector}
use Rattle.bus_world.specs.Playing.{ForkRefused}
use Rattle.bus_world.specs.World.{Event}
use Rattle.bus_world.specs.declared.events.Answer.{Answer}
use Rattle.bus_world.specs.declared.events.StepFault.{StepFault}
use Rattle.bus_machine.specs.Machine.{Machine, Trails, Forks, no_machine_trails}
use Rattle.bus_machine.specs.Playing.{Refused as RefusedBy}
use Rattle.bus_machine.specs.Promise.{IsPromised}
use Rattle.bus_script.specs.LineNumbers.{refusal_line}
use Rattle.bus_script.specs.declared.answers.Outcome.{Outcome}
use Rattle.bus_script.specs.declared.answers.Outcome.TheVariants as outcome
use Rattle.bus_script.specs.declared.line_numbers.LineNumber.TheVariants.{AtLine}
use Rattle.bus_replay.specs.declared.lines.FirstLine.{FirstLine}
use Rattle.bus_replay.specs.Lines.{Command, Plays, ForksTo, command_of}
use Rattle.bus_replay.specs.Text.{answer_line, fork_line, step_fault_name, owners_line}
use Rattle.bus_replay.specs.Text.{order_text, counts_text}
use Rattle.bus_replay.specs.Answers.{End, Left, Stopped, Repeats, Asked, Prints, Closes, Ends}
use Rattle.bus_replay.specs.Answers.{Begins, IsOpened, repeat_trails, asked_trails, asked_seats}
use Rattle.bus_replay.specs.Answers.{printed_trails, printed_seats, seats_at_first, fork_seats}
use Rattle.bus_replay.specs.Answers.{fork_trails}
use Rattle.bus_replay.specs.Histories.{Kept, IsHistoryOf, AreNobodys}
use Rattle.bus_replay.specs.Told.{IsRepeated, Obeyed, IsObeyed, ArePlayed}
use Rattle.bus_replay.proofs.ForkLemmas.{fork_many, fork_quiet}
use Rattle.bus_replay.proofs.GivenLemmas.{counts_told}
use Rattle.bus_replay.proofs.RepeatLemmas.{repeat_many, repeat_quiet}

-- nobody was answered anything before the first line
pub none_answered : (first many : ℕ) → AreNobodys first many no_machine_trails
none_answered first many = λ n low high. refl

module _ {S : Type 0} (X : Election (Elector S)) (P : Protocol S Bool Verdict) where
  -- ---- one line
  -- Lines that print this stand behind a line that asks for this: so the whole prints, and so it
  -- adds to trails, by this number of nobody, and to seats.
  module _ (m new : Machine (Elector S)) (number nobody : ℕ) (lines : List (ℕ × List ℕ))
      (rest : List ℕ) (end : End (Elector S)) (later : Prints X P new lines rest end) where
    abbrev Asks : Option Command → List ℕ → (Trails → Trails) → ((ℕ → Bool) → (ℕ → Bool)) → Type 0
    Asks o text grown seated =
        (whole : Asked X P m number o (λ mid rest stop. Prints X P mid lines rest stop)
        (text ++ rest) end)
        × ((T : Trails) → asked_trails X P m number nobody o
        (λ mid rest stop. Prints X P mid lines rest stop)
        (λ mid rest stop behind. printed_trails X P mid lines rest stop behind) (text ++ rest) end
        whole T ≡ printed_trails X P new lines rest end later (grown T))
        × ((taken : ℕ → Bool) → asked_seats X P m number o
        (λ mid rest stop. Prints X P mid lines rest stop)
        (λ mid rest stop behind. printed_seats X P mid lines rest stop behind) (text ++ rest) end
        whole taken ≡ printed_seats X P new lines rest end later (seated taken))

    -- of an event that was repeated
    played_on : (event : Event) (times : ℕ) (last : Answer)
        (run : Repeats X P m event (times - 1) last new) (o : Option Command)
        → Some (Plays event times) ≡ o
        → Asks o (answer_line event last)
        (λ T. repeat_trails X P m event (times - 1) last new run T) (λ taken. taken)
    played_on event times last run o is = subst (λ c. Asks c (answer_line event last)
        (λ T. repeat_trails X P m event (times - 1) last new run T) (λ taken. taken)) is
        (inr (new, last, rest, run, later, refl), λ T. refl, λ taken. refl)

    -- of a fork
    forked_on : (i j : ℕ) (did : Bool) → Forks m i j did new → (o : Option Command)
        → Some (ForksTo i j) ≡ o
        → Asks o (fork_line i j did) (λ T. fork_trails i j nobody did T) (fork_seats j did)
    forked_on i j did d o is = subst (λ c. Asks c (fork_line i j did)
        (λ T. fork_trails i j nobody did T) (fork_seats j did)) is
        (inr (new, did, rest, d, later, refl), λ T. refl, λ taken. refl)

  module _ (m new : Machine (Elector S)) (h kept : Kept) (line : ℕ × List ℕ) where
    -- an event was repeated that the line asks for
    pub one_obeyed : (event : Event) (times : ℕ) (last : Answer)
        → command_of line.1 ≡ Some (Plays event times)
        → IsRepeated X P m h event (times - 1) last new kept
        → Obeyed X P m h line (answer_line event last) new kept
    one_obeyed event times last is run = record {
      grown = λ n T. repeat_trails X P m event (times - 1) last new run.0 T;
      seated = λ taken. taken;
      goes_on = λ lines rest end later.
          played_on m new line.0 (length m.receivers + length lines) lines rest end later event
          times last run.0 (command_of line.1) (sym is);
      holds = λ n T taken hold past silent. run.1 T taken hold;
      others = λ n q T past other.
          repeat_quiet X P event m (times - 1) last new run.0 T q past;
      many = repeat_many X P event m (times - 1) last new run.0;
    }

    -- a receiver has forked, or found no seat, as the line asks
    pub one_forked : (i j : ℕ) (did : Bool) → command_of line.1 ≡ Some (ForksTo i j)
        → Forks m i j did new
        → ((n : ℕ) (T : Trails) (taken : ℕ → Bool) → IsHistoryOf X P m h T taken
        → length m.receivers ≤ n → T.heard n ≡ []
        → IsHistoryOf X P new kept (fork_trails i j n did T) (fork_seats j did taken))
        → Obeyed X P m h line (fork_line i j did) new kept
    one_forked i j did is d noted = record {
      grown = λ n T. fork_trails i j n did T;
      seated = fork_seats j did;
      goes_on = λ lines rest end later.
          forked_on m new line.0 (length m.receivers + length lines) lines rest end later i j did d
          (command_of line.1) (sym is);
      holds = noted;
      others = λ n q T past other. fork_quiet m new i j n q did T d past other;
      many = fork_many m new i j did d;
    }

    -- ---- what is refused is refused, whatever lines are behind it
    module _ (name : List ℕ) (lines : List (ℕ × List ℕ)) where
      abbrev Refuses : Option Command → Type 0
      Refuses o =
          Asked X P m line.0 o (λ mid rest stop. Prints X P mid lines rest stop) []
          (Stopped (refusal_line (AtLine line.0) name))

    pub play_refused : (event : Event) (times : ℕ) (name : List ℕ) (why : StepFault)
        → command_of line.1 ≡ Some (Plays event times) → RefusedBy m event why
        → name ≡ step_fault_name why → (lines : List (ℕ × List ℕ))
        → Prints X P m (line ∷ lines) [] (Stopped (refusal_line (AtLine line.0) name))
    play_refused event times name why is refused named lines =
        subst (Refuses name lines) (sym is) (inl (
          why,
          refused,
          refl,
          ap (λ (n : List ℕ). Stopped (refusal_line (AtLine line.0) n)) named,
        ))

    pub fork_refused : (i j : ℕ) (name : List ℕ) (why : StepFault)
        → command_of line.1 ≡ Some (ForksTo i j)
        → ForkRefused (slice_get m.receivers i) (slice_get m.receivers j) i j why
        → name ≡ step_fault_name why → (lines : List (ℕ × List ℕ))
        → Prints X P m (line ∷ lines) [] (Stopped (refusal_line (AtLine line.0) name))
    fork_refused i j name why is refused named lines =
        subst (Refuses name lines) (sym is) (inl (
          why,
          refused,
          refl,
          ap (λ (n : List ℕ). Stopped (refusal_line (AtLine line.0) n)) named,
        ))

    -- what a program tells that has put the refusal behind a text
    pub refused_so : {F : Type 0} (name old text : List ℕ) (r : Result Outcome F)
        → IfOk r (λ o. o ≡ outcome.Refused)
        → OnOk r (text ≡ old ++ refusal_line (AtLine line.0) name)
        → ((lines : List (ℕ × List ℕ))
        → Prints X P m (line ∷ lines) [] (Stopped (refusal_line (AtLine line.0) name)))
        → IfOk r (λ o. (added : List ℕ) × IsObeyed X P m h line o added new kept
        × (text ≡ old ++ added))
    refused_so name old text (Ok o) is text_is stops = (
      refusal_line (AtLine line.0) name,
      subst (λ o. IsObeyed X P m h line o (refusal_line (AtLine line.0) name) new kept) (sym is)
          stops,
      text_is,
    )
    refused_so name old text (Err why) is text_is stops = tt

  -- ---- all lines
  module _ (b : Machine (Elector S)) (h : Kept) (lines : List (ℕ × List ℕ)) where
    -- the lines print this, and so they add to trails and to seats
    abbrev Runs : List ℕ → End (Elector S) → (Trails → Trails) → ((ℕ → Bool) → (ℕ → Bool)) → Type 0
    Runs text end grown seated =
        (whole : Prints X P b lines text end)
        × ((T : Trails) → printed_trails X P b lines text end whole T ≡ grown T)
        × ((taken : ℕ → Bool) → printed_seats X P b lines text end whole taken ≡ seated taken)

    -- What goes on from these lines, behind what was printed and added, goes on from the first.
    abbrev From : List ℕ → (Trails → Trails) → ((ℕ → Bool) → (ℕ → Bool)) → Machine (Elector S)
        → List (ℕ × List ℕ) → List ℕ → End (Elector S) → Type 0
    From printed grown seated now left rest end =
        (run : Prints X P now left rest end)
        → Runs (printed ++ rest) end
        (λ T. printed_trails X P now left rest end run (grown T))
        (λ taken. printed_seats X P now left rest end run (seated taken))

    -- These answers were printed: what the lines behind them print goes on from the first, and adds
    -- to trails and seats behind what these have added; and the history has all of it. The lines
    -- that are left have their numbers of nobody.
    pub record Played (left : List (ℕ × List ℕ)) (old text : List ℕ) (now : Machine (Elector S))
        (kept : Kept) : Type 0 where
      pub printed : List ℕ
      pub text_is : text ≡ old ++ printed
      pub grown : Trails → Trails
      pub seated : (ℕ → Bool) → (ℕ → Bool)
      pub from_first : (rest : List ℕ) (end : End (Elector S))
          → From printed grown seated now left rest end
      pub holds : (T : Trails) (taken : ℕ → Bool) → IsHistoryOf X P b h T taken
          → AreNobodys (length b.receivers) (length lines) T
          → IsHistoryOf X P now kept (grown T) (seated taken)
          × AreNobodys (length now.receivers) (length left) (grown T)

    -- none yet
    pub none_played : (old text : List ℕ) → text ≡ old → Played lines old text b h
    none_played old text same = record {
      printed = [];
      text_is = same ∙ sym (append-nil old);
      grown = λ T. T;
      seated = λ taken. taken;
      from_first = λ rest end run. (run, λ T. refl, λ taken. refl);
      holds = λ T taken k silent. (k, silent);
    }

    -- one more line was obeyed
    module _ (left behind : List (ℕ × List ℕ)) (line : ℕ × List ℕ) (old mid new : List ℕ)
        (now next : Machine (Elector S)) (kept kept' : Kept) (k : Played left old mid now kept)
        (is : left ≡ line ∷ behind) (added : List ℕ)
        (obeyed : Obeyed X P now kept line added next kept') where
      one_on : (rest : List ℕ) (end : End (Elector S)) (run : Prints X P next behind rest end)
          → Runs (k.printed ++ (added ++ rest)) end
          (λ T. printed_trails X P next behind rest end run
          (obeyed.grown (length now.receivers + length behind) (k.grown T)))
          (λ taken. printed_seats X P next behind rest end run (obeyed.seated (k.seated taken)))
      one_on rest end run =
          let here = obeyed.goes_on behind rest end run in
          let all = subst (λ l. From k.printed k.grown k.seated now l (added ++ rest) end) is
          (k.from_first (added ++ rest) end) here.0 in (
            all.0,
            λ T. all.1 T ∙ here.1 (k.grown T),
            λ taken. all.2 taken ∙ here.2 (k.seated taken),
          )

      -- it may take its number, and those behind it have theirs
      one_holds : (T : Trails) (taken : ℕ → Bool) → IsHistoryOf X P b h T taken
          → AreNobodys (length b.receivers) (length lines) T
          → IsHistoryOf X P next kept'
          (obeyed.grown (length now.receivers + length behind) (k.grown T))
          (obeyed.seated (k.seated taken))
          × AreNobodys (length next.receivers) (length behind)
          (obeyed.grown (length now.receivers + length behind) (k.grown T))
      one_holds T taken hold silent =
          let so = k.holds T taken hold silent in
          let n : ℕ = length now.receivers + length behind in
          let many = obeyed.many in
          let free : AreNobodys (length now.receivers) (suc (length behind)) (k.grown T) =
          subst (λ l. AreNobodys (length now.receivers) (length l) (k.grown T)) is so.1 in (
            obeyed.holds n (k.grown T) (k.seated taken) so.0 (omega arith)
                (free n (omega arith) (omega arith)),
            λ q low high.
                obeyed.others n q (k.grown T) (omega arith) (λ same. omega (arith, same))
                ∙ free q (omega arith) (omega arith),
          )

      one_more : new ≡ mid ++ added → Played behind old new next kept'
      one_more text = record {
        printed = k.printed ++ added;
        text_is =
            text ∙ ap (λ (l : List ℕ). l ++ added) k.text_is ∙ append_assoc old k.printed added;
        grown = λ T. obeyed.grown (length now.receivers + length behind) (k.grown T);
        seated = λ taken. obeyed.seated (k.seated taken);
        from_first = λ rest end run. subst (λ l. Runs l end
            (λ T. printed_trails X P next behind rest end run
            (obeyed.grown (length now.receivers + length behind) (k.grown T)))
            (λ taken. printed_seats X P next behind rest end run
            (obeyed.seated (k.seated taken)))) (sym (append_assoc k.printed added rest))
            (one_on rest end run);
        holds = one_holds;
      }

    pub one_played : (left behind : List (ℕ × List ℕ)) (line : ℕ × List ℕ) (old mid new : List ℕ)
        (now next : Machine (Elector S)) (kept kept' : Kept) (o : Outcome)
        → Played left old mid now kept → left ≡ line ∷ behind → o ≡ outcome.Done
        → (added : List ℕ) × IsObeyed X P now kept line o added next kept' × (new ≡ mid ++ added)
        → Played behind old new next kept'
    one_played left behind line old mid new now next kept kept' o k is done obeyed =
        one_more left behind line old mid new now next kept kept' k is obeyed.0
        (subst (λ r. IsObeyed X P now kept line r obeyed.0 next kept') done obeyed.1) obeyed.2

    -- no line is left
    pub all_played : (left : List (ℕ × List ℕ)) (old new : List ℕ) (now : Machine (Elector S))
        (kept : Kept) → Played left old new now kept → left ≡ []
        → (added : List ℕ) × ArePlayed X P b h lines outcome.Done added now kept
        × (new ≡ old ++ added)
    all_played left old new now kept k none =
        let w = subst (λ l. From k.printed k.grown k.seated now l [] (Left now)) none
        (k.from_first [] (Left now)) (refl, refl) in
        let all : Runs k.printed (Left now) k.grown k.seated =
        subst (λ l. Runs l (Left now) k.grown k.seated) (append-nil k.printed) w in (
          k.printed,
          (
            all.0,
            λ T taken hold silent.
                subst (λ U. IsHistoryOf X P now kept U
                (printed_seats X P b lines k.printed (Left now) all.0 taken)) (sym (all.1 T))
                (subst (λ seats. IsHistoryOf X P now kept (k.grown T) seats) (sym (all.2 taken))
                (k.holds T taken hold silent).0),
          ),
          k.text_is,
        )

    -- a line was refused
    pub one_refused : (left behind : List (ℕ × List ℕ)) (line : ℕ × List ℕ) (old mid new : List ℕ)
        (now next : Machine (Elector S)) (kept kept' : Kept) (o : Outcome)
        → Played left old mid now kept → left ≡ line ∷ behind → o ≡ outcome.Refused
        → (added : List ℕ) × IsObeyed X P now kept line o added next kept' × (new ≡ mid ++ added)
        → (all : List ℕ) × ArePlayed X P b h lines outcome.Refused all next kept'
        × (new ≡ old ++ all)
    one_refused left behind line old mid new now next kept kept' o k is refused obeyed =
        let added = obeyed.0 in
        let stops : IsObeyed X P now kept line outcome.Refused added next kept' =
        subst (λ r. IsObeyed X P now kept line r added next kept') refused obeyed.1 in
        let whole = (subst (λ l. From k.printed k.grown k.seated now l [] (Stopped added)) is
        (k.from_first [] (Stopped added)) (stops behind)).0 in (
          k.printed ++ added,
          (
            k.printed,
            added,
            subst (λ l. Prints X P b lines l (Stopped added)) (append-nil k.printed) whole,
            refl,
          ),
          obeyed.2 ∙ ap (λ (l : List ℕ). l ++ added) k.text_is ∙ append_assoc old k.printed added,
        )

  -- ---- the whole text
  -- all words of a history are a whole log
  pub whole_log : (b : Machine (Elector S)) (h : Kept) (T : Trails) (taken : ℕ → Bool)
      (senders : ℕ) → IsHistoryOf X P b h T taken → IsPromised X b T → senders ≡ length b.senders
      → IsLog senders h.log
  whole_log b h T taken senders k promised many =
      let spelled = promised.by.spelled in
      record {
        frames = spelled.frames;
        lawful = subst (λ n. AreFrames n spelled.frames) (sym (many ∙ k.sizes.many)) spelled.lawful;
        words_are = spelled.words_are ∙ sym k.remembers.log;
      }

  -- the closing lines tell of trails that lead to the bus and that the history has
  pub closes : (b : Machine (Elector S)) (h : Kept) (T : Trails) (taken : ℕ → Bool) (senders : ℕ)
      (old mid whole takers : List ℕ) (order : Order) (owners : List (ℕ × SenderNo))
      → IsHistoryOf X P b h T taken → IsPromised X b T → senders ≡ length b.senders
      → Spells senders h.log order owners → takers ≡ b.owners
      → mid ≡ (old ++ owners_line takers) ++ order_text order → whole ≡ mid ++ counts_text h.given
      → (closing : List ℕ) × Closes X P b T taken closing × (whole ≡ old ++ closing)
  closes b h T taken senders old mid whole takers order owners k promised many spelled told mid_is
      is =
      let counts = counts_text h.given in (
        owners_line takers ++ order_text order ++ counts,
        record {
          order = order;
          owners = owners;
          happened = k.reached;
          stands = promised.by.stands;
          spelled = subst (λ n. Spells n T.log order owners) (many ∙ k.sizes.many)
              (subst (λ l. Spells senders l order owners) k.remembers.log spelled);
          took = promised.by.takers;
          text_is =
              ap (λ (o : List ℕ). owners_line o ++ order_text order ++ counts) told
              ∙ ap (λ (l : List ℕ). owners_line b.owners ++ order_text order ++ l)
              (counts_told taken T.heard h.given (length b.receivers) k.remembers.many
              k.remembers.given);
        },
        is ∙ ap (λ (l : List ℕ). l ++ counts) mid_is
            ∙ ap (λ (l : List ℕ). l ++ counts) (append_assoc old (owners_line takers)
            (order_text order)) ∙ append_assoc old (owners_line takers ++ order_text order) counts,
      )

  module _ (b new : Machine (Elector S)) (h kept : Kept) (lines : List (ℕ × List ℕ)) (o : Outcome)
      (taken : ℕ → Bool) where
    -- to the bus that lines have left, where none was refused, trails lead that the history has
    pub held_on : (old mid : List ℕ) → o ≡ outcome.Done
        → IsHistoryOf X P b h no_machine_trails taken
        → (added : List ℕ) × ArePlayed X P b h lines o added new kept × (mid ≡ old ++ added)
        → (T : Trails) × (seats : ℕ → Bool) × IsHistoryOf X P new kept T seats
    held_on old mid done begins played =
        let all : ArePlayed X P b h lines outcome.Done played.0 new kept =
        subst (λ r. ArePlayed X P b h lines r played.0 new kept) done played.1 in (
          printed_trails X P b lines played.0 (Left new) all.0 no_machine_trails,
          printed_seats X P b lines played.0 (Left new) all.0 taken,
          all.1 no_machine_trails taken begins
              (none_answered (length b.receivers) (length lines)),
        )

    -- lines were played to their end, and the closing lines are behind their answers
    pub closed : (old mid whole : List ℕ) → o ≡ outcome.Done → old ≡ []
        → IsHistoryOf X P b h no_machine_trails taken
        → (added : List ℕ) × ArePlayed X P b h lines o added new kept × (mid ≡ old ++ added)
        → ((T : Trails) (seats : ℕ → Bool) → IsHistoryOf X P new kept T seats
        → (closing : List ℕ) × Closes X P new T seats closing × (whole ≡ mid ++ closing))
        → (text : List ℕ) × (end : End (Elector S)) × (run : Prints X P b lines text end)
        × Ends X P end (printed_trails X P b lines text end run no_machine_trails)
        (printed_seats X P b lines text end run taken) text outcome.Done whole
    closed old mid whole done none begins played closing =
        let all : ArePlayed X P b h lines outcome.Done played.0 new kept =
        subst (λ r. ArePlayed X P b h lines r played.0 new kept) done played.1 in
        let T = printed_trails X P b lines played.0 (Left new) all.0 no_machine_trails in
        let seats = printed_seats X P b lines played.0 (Left new) all.0 taken in
        let close = closing T seats (all.1 no_machine_trails taken begins
        (none_answered (length b.receivers) (length lines))) in (
          played.0,
          Left new,
          all.0,
          (
            close.0,
            close.1,
            refl,
            close.2
                ∙ ap (λ (l : List ℕ). l ++ close.0)
                (played.2 ∙ ap (λ (l : List ℕ). l ++ played.0) none),
          ),
        )

    -- a line was refused, and its refusal is behind the answers
    pub stopped : (old whole : List ℕ) → o ≡ outcome.Refused → old ≡ []
        → (added : List ℕ) × ArePlayed X P b h lines o added new kept × (whole ≡ old ++ added)
        → (text : List ℕ) × (end : End (Elector S)) × (run : Prints X P b lines text end)
        × Ends X P end (printed_trails X P b lines text end run no_machine_trails)
        (printed_seats X P b lines text end run taken) text outcome.Refused whole
    stopped old whole refused none played =
        let ends : ArePlayed X P b h lines outcome.Refused played.0 new kept =
        subst (λ r. ArePlayed X P b h lines r played.0 new kept) refused played.1 in (
          ends.0,
          Stopped ends.1,
          ends.2,
          (refl, played.2 ∙ ap (λ (l : List ℕ). l ++ played.0) none ∙ ends.3),
        )

  -- a new bus was made, and the lines behind the first one moved it
  pub begun : (number : ℕ) (first : FirstLine) (lines : List (ℕ × List ℕ))
      (b : Machine (Elector S)) (o : Outcome) (whole : List ℕ) → IsOpened X P first b
      → (text : List ℕ) × (end : End (Elector S)) × (run : Prints X P b lines text end)
      × Ends X P end (printed_trails X P b lines text end run no_machine_trails)
      (printed_seats X P b lines text end run (seats_at_first first)) text o whole
      → Begins X P number (Some first) lines o whole
  begun number first lines b o whole opened answered =
      inr (inr (b, opened, answered.0, answered.1, answered.2, answered.3))
