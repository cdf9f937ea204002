-- All lines of a trace are rows of its picture: along a run of events, each of a sender or a
-- receiver that there is.
use Rattle.std.proofs.Common.{◌≡◌, inl, inr, ℕ, zero, suc, ◌+◌, ◌-◌, ◌<◌, ◌≤◌, Bool, true, false}
use Rattle.std.proofs.Common.{not, Option, Some, None, List, [], ◌∷◌, ◌++◌, ◌==◌, codes, decimal}
use Rattle.std.proofs.Common.{length, slice_get, append_assoc, length-set, refl, sym, ap, ◌∙◌}
use Rattle.std.proofs.Common.{subst, arith}
use Rattle.std.specs.Prelude.{Contains, IsSome, slice_set}
use Rattle.std.specs.List.{slice_split, list_all}
use Rattle.std.proofs.lemmas.Bool.{and_parts, not-true}
use Rattle.std.proofs.lemmas.List.Splits.{slice_split_at}
use Rattle.std.proofs.lemmas.List.Elements.{All-nil, All-cons}
use Rattle.std.proofs.lemmas.Option.{slice_get_within}
use Rattle.bus_register.specs.declared.limits.TheConstants.{MOST_SENDERS, MOST_RECEIVERS}
use Rattle.bus_register.specs.Protocol.{Protocol}
use Rattle.bus_adoptcommit.specs.declared.verdicts.Verdict.{Verdict}
use Rattle.bus_batch.specs.declared.batches.CloseFault.{CloseFault}
use Rattle.bus_batch.specs.declared.batches.CloseFault.TheVariants as close
use Rattle.bus_batch.specs.declared.batches.PutFault.{PutFault}
use Rattle.bus_batch.specs.declared.batches.PutFault.TheVariants as put
use Rattle.bus_tenure.specs.Elections.{Elector}
use Rattle.bus_core.specs.Senders.{Sender}
use Rattle.bus_machine.specs.Machine.{Machine, Happens, Forks, has_stopped, going}
use Rattle.bus_tenure.specs.Core.{Election}
use Rattle.bus_world.specs.World.{Event, Put, Ask, Turn, Recv, Stop, Gone}
use Rattle.bus_world.specs.declared.events.Answer.{Answer}
use Rattle.bus_world.specs.declared.events.Answer.TheVariants as answer
use Rattle.bus_world.specs.declared.events.StepFault.{StepFault}
use Rattle.bus_world.specs.declared.events.StepFault.TheVariants as fault
use Rattle.bus_world.specs.declared.shapes.MakeFault.{MakeFault}
use Rattle.bus_world.specs.declared.shapes.MakeFault.TheVariants as make
use Rattle.bus_script.specs.declared.answers.Outcome.{Outcome}
use Rattle.bus_script.specs.declared.line_numbers.LineNumber.{LineNumber}
use Rattle.bus_script.specs.declared.line_numbers.LineNumber.TheVariants.{AtLine, AtEnd}
use Rattle.bus_script.specs.Grammar.{script_lines}
use Rattle.bus_script.specs.LineNumbers.{line_number_text, refusal_line}
use Rattle.bus_replay.specs.declared.lines.FirstLine.{FirstLine}
use Rattle.bus_replay.specs.Lines.{Command, Plays, ForksTo, first_of, command_of, shape_in}
use Rattle.bus_replay.specs.Lines.{seats_in, reuse_in, passers_in}
use Rattle.bus_replay.specs.Text.{put_fault_name, close_fault_name, step_fault_name}
use Rattle.bus_replay.specs.Text.{make_fault_name}
use Rattle.bus_replay.specs.Answers.{End, Stopped, Repeats, Asked, Prints, Empties}
use Rattle.bus_picture.specs.AllLines.{HasAllLines}
use Rattle.bus_picture.specs.Rows.{row_of}
use Rattle.bus_picture.proofs.PlainTexts.{IsPlain, HasNoEnd, plain_by, plain_append, plain_decimal}
use Rattle.bus_picture.proofs.ReadingLaws.{IsReadable, AreRows, lines_in, IsRefusal, Nothing}
use Rattle.bus_picture.proofs.ReadingLaws.{Names, refusal_rows, line_before}
use Rattle.bus_trace.specs.Words.{TraceSizes, sizes_of}
use Rattle.bus_trace.specs.Rows.{column, header}
use Rattle.bus_trace.specs.Traces.{repeat_rows, asked_rows, printed_rows, numbered_rows}
use Rattle.bus_trace.specs.Traces.{refusal_of, IsRefused, ArePrinted, Begins, Traces, IsTrace}
use Rattle.bus_trace.proofs.LineLaws.{AsksFew, line_read, fork_read}
use Rattle.bus_trace.proofs.RowLemmas.{there}

-- ---- refusals
plain_line_number : (line_number : LineNumber) → IsPlain (line_number_text line_number)
plain_line_number (AtLine number) = plain_append (codes "line ") (decimal number)
    (plain_by (codes "line ") refl) (plain_decimal number)
plain_line_number AtEnd = plain_by (codes "end") refl

names_refusal : (line_number : LineNumber) (name : List ℕ) → IsPlain name
    → IsRefusal (refusal_line line_number name)
names_refusal line_number name h = Names (line_number_text line_number ++ codes ": " ++ name)
    (plain_append (line_number_text line_number ++ codes ": ") name
    (plain_append (line_number_text line_number) (codes ": ") (plain_line_number line_number)
    (plain_by (codes ": ") refl)) h)

bad_line : (line_number : LineNumber) → IsRefusal (refusal_line line_number (codes "BadLine"))
bad_line line_number = names_refusal line_number (codes "BadLine") (plain_by (codes "BadLine") refl)

plain_put : (why : PutFault) → IsPlain (put_fault_name why)
plain_put put.Closed = plain_by (codes "Closed") refl
plain_put put.Busy = plain_by (codes "Busy") refl
plain_put put.TooLong = plain_by (codes "TooLong") refl
plain_put put.BatchFull = plain_by (codes "BatchFull") refl

plain_close : (why : CloseFault) → IsPlain (close_fault_name why)
plain_close close.Closed = plain_by (codes "Closed") refl
plain_close close.Busy = plain_by (codes "Busy") refl
plain_close close.Pending = plain_by (codes "Pending") refl

plain_fault : (why : StepFault) → IsPlain (step_fault_name why)
plain_fault fault.NoSuchSender = plain_by (codes "NoSuchSender") refl
plain_fault fault.NoSuchReceiver = plain_by (codes "NoSuchReceiver") refl
plain_fault fault.Stopped = plain_by (codes "Stopped") refl
plain_fault (fault.Put why) = plain_put why
plain_fault (fault.Close why) = plain_close why
plain_fault fault.Gone = plain_by (codes "Gone") refl
plain_fault fault.NotAbove = plain_by (codes "NotAbove") refl

plain_make : (why : MakeFault) → IsPlain (make_fault_name why)
plain_make make.Senders = plain_by (codes "Senders") refl
plain_make make.Receivers = plain_by (codes "Receivers") refl
plain_make make.Rounds = plain_by (codes "Rounds") refl
plain_make make.Rows = plain_by (codes "Rows") refl
plain_make make.LogWords = plain_by (codes "LogWords") refl
plain_make make.Batch = plain_by (codes "Batch") refl
plain_make make.NotEnded = plain_by (codes "NotEnded") refl
plain_make make.Numbers = plain_by (codes "Numbers") refl
plain_make make.NoMemory = plain_by (codes "NoMemory") refl

-- ---- lines behind the header
abbrev AllRead : List (List ℕ) → Type 0
AllRead [] = Unit {0}
AllRead (row ∷ rows) = IsReadable row × AllRead rows

read_append : (rows more : List (List ℕ)) → AllRead rows → AllRead more → AllRead (rows ++ more)
read_append [] more h k = k
read_append (row ∷ rows) more h k = (h.0, read_append rows more h.1 k)

rows_read : (from : ℕ) (rows : List (List ℕ)) (rest : List ℕ) → AllRead rows
    → AreRows (lines_in rest) → AreRows (lines_in (numbered_rows from rows ++ rest))
rows_read from [] rest h k = k
rows_read from (row ∷ rows) rest h k =
    subst (λ (t : List ℕ). AreRows (lines_in t))
    (sym
    (append_assoc (column (decimal from) ++ row ++ 10 ∷ []) (numbered_rows (from + 1) rows) rest))
    (line_before (decimal from) row (numbered_rows (from + 1) rows ++ rest) (plain_decimal from) h.0
    (rows_read (from + 1) rows rest h.1 k))

-- ---- the header
names : List ℕ
names =
    column (codes "number") ++ column (codes "line") ++ column (codes "who")
    ++ column (codes "tenure") ++ column (codes "kind") ++ column (codes "word")
    ++ column (codes "found") ++ column (codes "after") ++ codes "answer"

ends_none_by : (text : List ℕ) → list_all (λ b. not (b == 10)) text ≡ true → HasNoEnd text
ends_none_by [] e = All-nil (λ b. (b == 10) ≡ false)
ends_none_by (b ∷ text) e =
    let h = and_parts (not (b == 10)) (list_all (λ c. not (c == 10)) text) e in
    All-cons (λ b. (b == 10) ≡ false) b text (not-true (b == 10) h.0) (ends_none_by text h.1)

behind_first : (first : List ℕ) (lines : List (List ℕ)) → AreRows lines
    → (place : ℕ) (line : List ℕ) → 0 < place → slice_get (first ∷ lines) place ≡ Some line
    → Contains line 9 → IsSome (row_of (slice_split (λ b. b == 9) line))
behind_first first lines h zero line lt e tab = absurd (omega arith)
behind_first first lines h (suc k) line lt e tab = h k line e tab

all_lines : (rest : List ℕ) → AreRows (lines_in rest) → HasAllLines (header ++ rest)
unfolding names
all_lines rest h =
    let cut : lines_in (header ++ rest) ≡ names ∷ lines_in rest =
    slice_split_at (λ b. b == 10) names 10 rest (ends_none_by names refl) refl in
    λ place line lt e tab. behind_first names (lines_in rest) h place line lt
    (ap (λ (z : List (List ℕ)). slice_get z place) (sym cut) ∙ e) tab

-- ---- who is asked is there
module _ {E : Type 0} (X : Election E) where
  abbrev HasFew : Machine E → Type 0
  HasFew m = (length m.senders ≤ MOST_SENDERS) × (length m.receivers ≤ MOST_RECEIVERS)

  few_set : {A : Type 0} (most : ℕ) (xs : List A) (i : ℕ) (x : A) → length xs ≤ most
      → length (slice_set xs i x) ≤ most
  few_set most xs i x few = subst (λ n. n ≤ most) (sym (length-set xs i x)) few

  few_kept : (m : Machine E) (e : Event) (a : Answer) (new : Machine E) → HasFew m
      → Happens X m e a new → HasFew new
  few_kept m (Put s bytes) a new few h =
      subst HasFew (sym h.after) (few_set MOST_SENDERS m.senders s _ few.0, few.1)
  few_kept m (Ask s mark) a new few h =
      subst HasFew (sym h.after) (few_set MOST_SENDERS m.senders s _ few.0, few.1)
  few_kept m (Turn s word) a new few h =
      subst HasFew (sym h.after) (few_set MOST_SENDERS m.senders s _ few.0, few.1)
  few_kept m (Recv r) a new few h =
      subst HasFew (sym h.after) (few.0, few_set MOST_RECEIVERS m.receivers r _ few.1)
  few_kept m (Stop s) a new few h = subst HasFew (sym h.after) few
  few_kept m (Gone r) a new few h =
      subst HasFew (sym h.after) (few.0, few_set MOST_RECEIVERS m.receivers r _ few.1)

  sender_few : (m : Machine E) (s : ℕ) (v : Sender E) → HasFew m → going m s ≡ Some v
      → s < MOST_SENDERS
  sender_few m s v few goes =
      let lt =
      slice_get_within m.senders s v (there (has_stopped m s) (slice_get m.senders s) v goes) in
      omega
      (arith, lt, few.0)

  few_asked : (m : Machine E) (e : Event) (a : Answer) (new : Machine E) → HasFew m
      → Happens X m e a new → AsksFew e
  few_asked m (Put s bytes) a new few h = sender_few m s h.sender few h.goes
  few_asked m (Ask s mark) a new few h = sender_few m s h.sender few h.goes
  few_asked m (Turn s word) a new few h = sender_few m s h.sender few h.goes
  few_asked m (Recv r) a new few h =
      let lt = slice_get_within m.receivers r h.receiver h.there in omega (arith, lt, few.1)
  few_asked m (Stop s) a new few h = sender_few m s h.sender few h.goes
  few_asked m (Gone r) a new few h =
      let lt = slice_get_within m.receivers r h.receiver h.there in omega (arith, lt, few.1)

  few_forked : (m : Machine E) (i j : ℕ) (did : Bool) (new : Machine E) → HasFew m
      → Forks m i j did new → HasFew new
  few_forked m i j true new few h =
      subst HasFew (sym h.after) (few.0, few_set MOST_RECEIVERS m.receivers j _ few.1)
  few_forked m i j false new few h = subst HasFew (sym h.after) few

  maker_few : (m : Machine E) (i j : ℕ) (did : Bool) (new : Machine E) → HasFew m
      → Forks m i j did new → i < MOST_RECEIVERS
  maker_few m i j did new few h =
      let lt = slice_get_within m.receivers i h.maker h.there in omega (arith, lt, few.1)

-- ---- runs
module _ {S : Type 0} (X : Election (Elector S)) (P : Protocol S Bool Verdict)
    (p : TraceSizes) where
  repeats_read : (line : ℕ) (b : Machine (Elector S)) (e : Event) (more : ℕ) (last : Answer)
      (new : Machine (Elector S))
      (run : Repeats X P b e more last new) → HasFew X b
      → HasFew X new × AllRead (repeat_rows X P p line b e more last new run)
  repeats_read line b e zero last new run few = (
    few_kept X b e last new few run.happens,
    (
      line_read p X line b e last
          (few_asked X b e last new few run.happens),
      tt,
    ),
  )
  repeats_read line b e (suc more) last new (inl once) few = (
    few_kept X b e last new few once.0.happens,
    (
      line_read p X line b e last
          (few_asked X b e last new few once.0.happens),
      tt,
    ),
  )
  repeats_read line b e (suc more) last new (inr run) few =
      let rest = repeats_read line run.0 e more last new run.4
      (few_kept X b e run.1 run.0 few run.2.happens) in (
        rest.0,
        (line_read p X line b e run.1 (few_asked X b e run.1 run.0 few run.2.happens), rest.1),
      )

  fault_read : (line : ℕ) (why : StepFault) (end : End (Elector S))
      → end ≡ Stopped (refusal_line (AtLine line) (step_fault_name why))
      → IsRefusal (refusal_of end)
  fault_read line why end is =
      subst (λ (z : End (Elector S)). IsRefusal (refusal_of z)) (sym is)
      (names_refusal (AtLine line) (step_fault_name why) (plain_fault why))

  asked_read : (b : Machine (Elector S)) (line : ℕ) (c : Option Command)
      (Behind : Machine (Elector S) → List ℕ → End (Elector S) → Type 0)
      (behind : (mid : Machine (Elector S)) (rest : List ℕ) (end : End (Elector S))
      → Behind mid rest end → List (List ℕ)) (text : List ℕ)
      (end : End (Elector S)) (run : Asked X P b line c Behind text end)
      → ((mid : Machine (Elector S)) (rest : List ℕ) (end : End (Elector S))
      (run : Behind mid rest end) → HasFew X mid
      → AllRead (behind mid rest end run) × IsRefusal (refusal_of end))
      → HasFew X b
      → AllRead (asked_rows X P p b line c Behind behind text end run) × IsRefusal (refusal_of end)
  asked_read b line None Behind behind text end run each few = (
    tt,
    subst (λ (z : End (Elector S)). IsRefusal (refusal_of z)) (sym run.1)
        (bad_line (AtLine line)),
  )
  asked_read b line (Some (Plays event times)) Behind behind text end (inl refused) each few =
      (tt, fault_read line refused.0 end refused.3)
  asked_read b line (Some (Plays event times)) Behind behind text end (inr run) each few =
      let first = repeats_read line b event (times - 1) run.1 run.0 run.3 few in
      let rest = each run.0 run.2 end run.4 first.0 in (
        read_append (repeat_rows X P p line b event (times - 1) run.1 run.0 run.3)
            (behind run.0 run.2 end run.4) first.1 rest.0,
        rest.1,
      )
  asked_read b line (Some (ForksTo i j)) Behind behind text end (inl refused) each few =
      (tt, fault_read line refused.0 end refused.3)
  asked_read b line (Some (ForksTo i j)) Behind behind text end (inr run) each few =
      let rest = each run.0 run.2 end run.4 (few_forked X b i j run.1 run.0 few run.3) in (
        (
          fork_read p line b i j run.1 (maker_few X b i j run.1 run.0 few run.3),
          rest.0,
        ),
        rest.1,
      )

  printed_read : (b : Machine (Elector S)) (lines : List (ℕ × List ℕ)) (text : List ℕ)
      (end : End (Elector S))
      (run : Prints X P b lines text end) → HasFew X b
      → AllRead (printed_rows X P p b lines text end run) × IsRefusal (refusal_of end)
  printed_read b [] text end run few = (
    tt,
    subst (λ (z : End (Elector S)). IsRefusal (refusal_of z)) (sym run.1) Nothing,
  )
  printed_read b (line ∷ lines) text end run few =
      asked_read b line.0 (command_of line.1) (λ mid rest stop. Prints X P mid lines rest stop)
      (λ mid rest stop behind. printed_rows X P p
      mid lines rest stop behind) text end run
      (λ mid rest stop behind few. printed_read mid lines rest stop behind few) few

  all_printed :
      (b : Machine (Elector S)) (lines : List (ℕ × List ℕ)) (outcome : Outcome) (whole : List ℕ)
      → HasFew X b
      → ArePrinted X P p b lines outcome whole → HasAllLines whole
  all_printed b lines outcome whole few h =
      let r = printed_read b lines h.0 h.1 h.2 few in
      subst HasAllLines (sym h.4)
      (all_lines (numbered_rows 1 (printed_rows X P p b lines h.0 h.1 h.2) ++ refusal_of h.1)
      (rows_read 1 (printed_rows X P p b lines h.0 h.1 h.2) (refusal_of h.1) r.0
      (refusal_rows (refusal_of h.1) r.1)))

-- ---- the whole text
module _ {S : Type 0} (X : Election (Elector S)) (P : Protocol S Bool Verdict) where
  refused_read : (refusal : List ℕ) (outcome : Outcome) (whole : List ℕ) → IsRefusal refusal
      → IsRefused refusal outcome whole → HasAllLines whole
  refused_read refusal outcome whole is h =
      subst HasAllLines (sym h.1) (all_lines refusal (refusal_rows refusal is))

  few_emptied : (m : Machine (Elector S)) (seat many : ℕ) (new : Machine (Elector S))
      → Empties X P m seat many new → HasFew X m → HasFew X new
  few_emptied m seat zero new run few = subst (HasFew X) (sym run) few
  few_emptied m seat (suc many) new run few =
      few_emptied run.0 (seat + 1) many new run.2
      (few_kept X m (Gone seat) answer.Gone run.0 few run.1.happens)

  begins_read : (line : ℕ) (first : Option FirstLine) (lines : List (ℕ × List ℕ))
      (outcome : Outcome) (whole : List ℕ) → Begins X P line first lines outcome whole
      → HasAllLines whole
  begins_read line None lines outcome whole h = refused_read
      (refusal_line (AtLine line) (codes "BadLine")) outcome whole (bad_line (AtLine line)) h
  begins_read line (Some first) lines outcome whole (inl no_bus) =
      let name : List ℕ = make_fault_name no_bus.0 in
      refused_read (refusal_line (AtLine line) name) outcome whole
      (names_refusal (AtLine line) name (plain_make no_bus.0)) no_bus.3
  begins_read line (Some first) lines outcome whole (inr (inl no_seats)) =
      refused_read (refusal_line (AtLine line) (codes "Seats")) outcome whole
      (names_refusal (AtLine line) (codes "Seats") (plain_by (codes "Seats") refl)) no_seats.1
  begins_read line (Some first) lines outcome whole (inr (inr h)) =
      let opened = h.1 in
      let made = opened.is_made in
      all_printed X P (sizes_of P (shape_in first) (reuse_in first) (passers_in first)) h.0 lines
      outcome whole
      (few_emptied opened.made (shape_in first).receivers
      (seats_in first - (shape_in first).receivers) h.0 opened.emptied (
        omega (arith, made.senders, made.served.senders.1),
        omega (arith, made.receivers, made.served.receivers.1),
      )) h.2

  traces_read : (lines : List (ℕ × List ℕ)) (outcome : Outcome) (whole : List ℕ)
      → Traces X P lines outcome whole → HasAllLines whole
  traces_read [] outcome whole h =
      refused_read (refusal_line AtEnd (codes "BadLine")) outcome whole (bad_line AtEnd) h
  traces_read (line ∷ lines) outcome whole h =
      begins_read line.0 (first_of line.1) lines outcome whole h

  pub trace_read : (input : List ℕ) (outcome : Outcome) (trace : List ℕ)
      → IsTrace X P input outcome trace → HasAllLines trace
  trace_read input outcome trace h = traces_read (script_lines input) outcome trace h
