-- A bus of any kind is an automaton: what it owes threads, put together.
use Rattle.std.proofs.Common.{◌≡◌, ℕ, ◌<◌, ◌≤◌, Option, Some, None, List, ◌++◌, length}
use Rattle.std.proofs.Common.{slice_get, arith, refl, sym, ◌∙◌, ap, subst}
use Rattle.bus_batch.specs.Frames.{AreFrames, log_words}
use Rattle.bus_core.specs.Keeping.{new_reuse}
use Rattle.bus_core.specs.Senders.{Sender, situation}
use Rattle.bus_core.specs.Table.{line_now}
use Rattle.bus_machine.proofs.Frames.Joining.{grows}
use Rattle.bus_machine.proofs.Calls.Holding.{sums_fit}
use Rattle.bus_machine.proofs.Onward.StageRises.{log_behind}
use Rattle.bus_machine.specs.Machine.{passers_place, turn_answer}
use Rattle.bus_machine.specs.Remembering.{rows_in}
use Rattle.bus_register.specs.Protocol.{Protocol}
use Rattle.bus_register.specs.Words.{register}
use Rattle.bus_register.specs.declared.registers.Op.{Op}
use Rattle.bus_tenure.specs.Core.{Election, Layout}
use Rattle.bus_world.proofs.Serving.{Serves}
use Rattle.bus_world.proofs.Standing.{frames_begin}
use Rattle.bus_world.specs.World.{Turn}
use Rattle.bus_world.specs.declared.events.Answer.TheVariants as answer
use Rattle.bus_automaton.proofs.Leading.{takes_message, takes_mark, takes_turn, next, next_reached}
use Rattle.bus_automaton.proofs.Leading.{takes_step}
use Rattle.bus_automaton.proofs.Passing.{finds, shows, passed_whole, left, passes, leaves, forks}
use Rattle.bus_automaton.proofs.States.{sits, framing, wide, nobody, lawful, has_log, long, at_home}
use Rattle.bus_automaton.proofs.States.{page_knows, promised_of, laid, is_sender, sent, rests}
use Rattle.bus_automaton.proofs.States.{finds_home, page_fits}
use Rattle.bus_automaton.proofs.Turns.{ends}
use Rattle.bus_automaton.specs.Lawful.{AutomatonLaws, StepsIn}
use Rattle.bus_automaton.specs.OneAutomaton.{MachineHistory, IsMachineHistory, bus_of}
use Rattle.bus_automaton.specs.OneProcess.{table_layout_by, process_of}
use Rattle.bus_automaton.specs.Processes.{passed_word}

-- a new sender uses as many rows again as its bus
new_rows : (reuse : Option ℕ) → rows_in (new_reuse reuse) ≡ reuse
new_rows None = refl
new_rows (Some rows) = refl

-- passed places stand between the stage and the log
passers_behind : (x : Layout) (reuse : Option ℕ) → 2 ≤ passers_place x reuse
passers_behind x None = omega arith
passers_behind x (Some rows) = omega arith

passed_below : (x : Layout) (reuse : Option ℕ) → (reuse ≡ None → x.passers ≡ 0) → (r : ℕ)
    → r < x.passers → passed_word (table_layout_by x reuse) r < (table_layout_by x reuse).log
passed_below x None apart r low = absurd (let none = apart refl in omega arith)
passed_below x (Some rows) apart r low = omega arith

-- a step leads on, and the log goes on with it
steps_in : {E : Type 0} (X : Election E) (P : Protocol E (Unit {0}) ℕ) (x : Layout)
    (y : Serves X P x) (reuse : Option ℕ) (bases : List ℕ)
    (z : MachineHistory E) (h : IsMachineHistory X x reuse bases z) (p : ℕ) (v : Sender E)
    (at : slice_get z.machine.senders p ≡ Some v)
    (word : ℕ) (o : Op) (due : (line_now X v).op word ≡ Some o)
    → register o < length z.machine.words
    → StepsIn (process_of X) (bus_of X x reuse bases) z p v word o
steps_in X P x y reuse bases z h p v at word o due low =
    let z' = next X x reuse bases z h p v at word o due low in
    let h' = next_reached X x reuse bases z h p v at word o due low in
    let g = framing X P x y reuse bases z h in
    let g' = framing X P x y reuse bases z' h' in
    let on = grows X z.machine z'.machine (Turn p word)
    (answer.Turn (turn_answer z.machine (line_now X v) word)) z.trails
    (takes_turn X x reuse bases z h p v at word o due low) in
    let more = frames_begin z.machine.layout.senders 0 0 g.frames g'.frames on.rest
    g.sending.log.lawful g'.sending.log.lawful
    (ap (λ l. l ++ on.rest) g.log_is ∙ on.together ∙ sym g'.log_is) in
    takes_step X x reuse bases z h p v at word o due low record {
      frames = g.frames;
      more = more.0;
      lawful = lawful X P x y reuse bases z h;
      lawful_now = subst (AreFrames x.senders) more.1 (lawful X P x y reuse bases z' h');
      words_are = g.log_is;
      words_now = sym (ap log_words more.1) ∙ g'.log_is;
      long = long X P x y reuse bases z h;
      long_now = long X P x y reuse bases z' h';
    }

-- what a bus of any kind owes threads
pub automaton_laws : {E : Type 0} (X : Election E) (P : Protocol E (Unit {0}) ℕ) (x : Layout)
    → Serves X P x → (reuse : Option ℕ) (bases : List ℕ) → (reuse ≡ None → x.passers ≡ 0)
    → AutomatonLaws (process_of X) (bus_of X x reuse bases)
automaton_laws X P x y reuse bases apart = record {
  room = omega arith;
  behind = log_behind x reuse;
  passed_behind = passers_behind x reuse;
  passed_room = passed_below x reuse apart;
  started_me = λ p. refl;
  started_table_layout = λ p. ap (table_layout_by x) (new_rows reuse);
  started_away = λ p. refl;
  started_laid = λ p. refl;
  wide = λ z h. wide X P x y reuse bases z h;
  senders = λ z p v h at. is_sender X P x y reuse bases z h p v at;
  nobody = λ z q h past. nobody X P x y reuse bases z h q past;
  message = λ z p v bytes h at can small. takes_message X x reuse bases z h p v at bytes can small;
  marked = λ z p v mark h at can. takes_mark X x reuse bases z h p v at mark can;
  step = λ z p v word o h at due low.
      steps_in X P x y reuse bases z h p v at word o due
      (subst (λ n. register o < n) (sym (wide X P x y reuse bases z h)) low);
  ends = λ z p v word o h at due home got.
      ends X v (laid X P x y reuse bases z h p v at) (rests X P x y reuse bases z h p v at)
      (situation X v) refl word o due home got;
  fits = λ z p v word o h at due. sums_fit X P z.machine z.trails
      (sits X P x y reuse bases z h).serves (framing X P x y reuse bases z h) p v at word o due;
  finds_home =
      λ z p v word o t h at due is. finds_home X P x y reuse bases z h p v at word o due t is;
  even_at_home = λ z h even. (at_home X P x y reuse bases z h).0 even;
  odd_away = λ z h odd. (at_home X P x y reuse bases z h).1 odd;
  page_knows = λ z page frames h home law words.
      page_knows X P x y reuse bases z h page frames home law words;
  page_fits = λ z page h home. page_fits X P x y reuse bases z h page home;
  log = λ z h. has_log X P x y reuse bases z h;
  finds = λ z r place h may below. finds X P x y reuse bases z h r place may below;
  shows = λ z r p h is. shows X P x y reuse bases z h r p is;
  passed_whole = λ z r p h is. passed_whole X P x y reuse bases z h r p is;
  left = λ z r h below none. left X P x y reuse bases z h r below none;
  passes = λ z r p place h is before may. passes X P x y reuse bases z h r p is place before may;
  leaves = λ z r p h is. leaves X P x y reuse bases z h r p is;
  forks = λ z r p q h is up room free. forks X P x y reuse bases z h r p is q up room free;
  sent = λ z p v frames h at law words. sent X P x y reuse bases z h p v at frames law words;
  promised = λ z h. promised_of X P x y reuse bases z h;
  first = λ z p h. refl;
}
