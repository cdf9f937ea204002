-- Each line of a trace has nine columns, of which the third names who is asked and the fifth a
-- kind, a call or nothing.
use Rattle.std.proofs.Common.{◌≡◌, ℕ, ◌+◌, ◌-◌, ◌/◌, ◌%◌, ◌==◌, ◌<◌, ◌≤◌, Bool, true, false, cond}
use Rattle.std.proofs.Common.{Option, Some, None, List, [], ◌∷◌, ◌++◌, codes, decimal, flat_map}
use Rattle.std.proofs.Common.{nat_lt, nat_le, slice_get, slice_index, refl, arith}
use Rattle.std.proofs.lemmas.List.Elements.{All-nil}
use Rattle.bus_register.specs.declared.kinds.Kind.{Kind}
use Rattle.bus_register.specs.declared.kinds.Kind.TheVariants as kind
use Rattle.bus_register.specs.declared.limits.TheConstants.{MOST_SENDERS, MOST_RECEIVERS}
use Rattle.bus_register.specs.declared.registers.Op.{Op}
use Rattle.bus_register.specs.Names.{kind_name}
use Rattle.bus_register.specs.Words.{register, after}
use Rattle.bus_core.specs.Senders.{Sender as OneSender}
use Rattle.bus_core.specs.Table.{line_now}
use Rattle.bus_core.specs.declared.limits.TheConstants.{PASSED_APART}
use Rattle.bus_deliverylog.specs.Receiving.{Receiving, due_kind, due_op, leaving_op}
use Rattle.bus_deliverylog.specs.Text.{hex_digit, hex_pair, hex_text, item_text, recv_text}
use Rattle.bus_deliverylog.specs.declared.receiving.RecvTurn.{RecvTurn}
use Rattle.bus_deliverylog.specs.declared.receiving.RecvTurn.TheVariants as recv
use Rattle.bus_batch.specs.declared.messages.Item.{Item}
use Rattle.bus_batch.specs.declared.messages.Mark.TheVariants as mark
use Rattle.bus_machine.specs.Machine.{Machine, going}
use Rattle.bus_tenure.specs.Core.{Election}
use Rattle.bus_tenure.specs.Text.{turn_text}
use Rattle.bus_tenure.specs.declared.turns.Turn.{Turn as Turned}
use Rattle.bus_tenure.specs.declared.turns.Turn.TheVariants as turn
use Rattle.bus_world.specs.Headline.{Action, HasPut, HasMarked, Stepped}
use Rattle.bus_world.specs.Trails.{put_actions, mark_actions}
use Rattle.bus_world.specs.World.{Event, Put, Ask, Turn, Recv, Stop, Gone}
use Rattle.bus_world.specs.declared.events.Answer.{Answer}
use Rattle.bus_world.specs.declared.events.Answer.TheVariants as answer
use Rattle.bus_replay.specs.Text.{behind, answer_text, fork_text}
use Rattle.bus_picture.specs.declared.families.Family.{Family}
use Rattle.bus_picture.specs.declared.families.Family.TheVariants as family
use Rattle.bus_picture.specs.declared.processes.Process.TheVariants.{Sender, Receiver}
use Rattle.bus_picture.specs.Families.{family_of, family_at}
use Rattle.bus_picture.proofs.FamilyLaws.{has_family}
use Rattle.bus_picture.proofs.PlainTexts.{IsPlain, plain_by, plain_append, plain_cons, plain_cond}
use Rattle.bus_picture.proofs.PlainTexts.{glyph_cases, plain_decimal}
use Rattle.bus_picture.proofs.ReadingLaws.{IsMiddle, IsWho, IsReadable, readable, sender_known}
use Rattle.bus_picture.proofs.ReadingLaws.{receiver_known}
use Rattle.bus_trace.specs.Words.{TraceSizes, ratifier_word, round_word, decision_word, row_word}
use Rattle.bus_trace.specs.Words.{word_name}
use Rattle.bus_trace.specs.Rows.{tenure_text, no_step, step_text, action_text, actions_text}
use Rattle.bus_trace.specs.Rows.{due_text, receiving_text, gone_text, leaving_text, sender_text}
use Rattle.bus_trace.specs.Rows.{columns, row_text, fork_op, joining_text, fork_columns, fork_row}

-- ---- texts
plain_behind : (n : ℕ) → IsPlain (behind n)
plain_behind n = plain_cons 32 (decimal n) (omega arith) (plain_decimal n)

plain_tenure : (t : Option ℕ) → IsPlain (tenure_text t)
plain_tenure None = plain_by (codes "-") refl
plain_tenure (Some t) = plain_decimal t

plain_kind : (k : Kind) → IsPlain (kind_name k)
plain_kind kind.LoadStage = plain_by (codes "LoadStage") refl
plain_kind kind.Announce = plain_by (codes "Announce") refl
plain_kind kind.WriteFirst = plain_by (codes "WriteFirst") refl
plain_kind kind.ReadFirst = plain_by (codes "ReadFirst") refl
plain_kind kind.WriteSecond = plain_by (codes "WriteSecond") refl
plain_kind kind.ReadSecond = plain_by (codes "ReadSecond") refl
plain_kind kind.SetMark = plain_by (codes "SetMark") refl
plain_kind kind.ReadOtherMark = plain_by (codes "ReadOtherMark") refl
plain_kind kind.Vote = plain_by (codes "Vote") refl
plain_kind kind.ReadVotes = plain_by (codes "ReadVotes") refl
plain_kind kind.Fallback = plain_by (codes "Fallback") refl
plain_kind kind.ReadAnnouncement = plain_by (codes "ReadAnnouncement") refl
plain_kind kind.TakePage = plain_by (codes "TakePage") refl
plain_kind kind.StoreLogWord = plain_by (codes "StoreLogWord") refl
plain_kind kind.StoreLength = plain_by (codes "StoreLength") refl
plain_kind kind.GivePageBack = plain_by (codes "GivePageBack") refl
plain_kind kind.LoadLength = plain_by (codes "LoadLength") refl
plain_kind kind.LoadLogWord = plain_by (codes "LoadLogWord") refl
plain_kind kind.Enter = plain_by (codes "Enter") refl
plain_kind kind.LoadStageAgain = plain_by (codes "LoadStageAgain") refl
plain_kind kind.Withdraw = plain_by (codes "Withdraw") refl
plain_kind kind.ReadPresence = plain_by (codes "ReadPresence") refl
plain_kind kind.ClearRow = plain_by (codes "ClearRow") refl
plain_kind kind.ReadPassed = plain_by (codes "ReadPassed") refl
plain_kind kind.StorePassed = plain_by (codes "StorePassed") refl

-- a word and a number behind it, and more behind a space
numbered_word : (name : List ℕ) (n : ℕ) → IsPlain name → IsPlain (name ++ behind n)
numbered_word name n h = plain_append name (behind n) h (plain_behind n)

and_more : (name : List ℕ) (n : ℕ) (more : List ℕ) → IsPlain name → IsPlain more
    → IsPlain (name ++ behind n ++ 32 ∷ more)
and_more name n more h k = plain_append (name ++ behind n) (32 ∷ more) (numbered_word name n h)
    (plain_cons 32 more (omega arith) k)

plain_ratifier : (p : TraceSizes) (k : ℕ) → IsPlain (ratifier_word p k)
plain_ratifier p k = plain_cond (p.ratifier == 3)
    (cond (k == 0) (codes "input 0") (cond (k == 1) (codes "input 1") (codes "proposal")))
    (codes "word" ++ behind k)
    (plain_cond (k == 0) (codes "input 0") (cond (k == 1) (codes "input 1") (codes "proposal"))
    (plain_by (codes "input 0") refl) (plain_cond (k == 1) (codes "input 1") (codes "proposal")
    (plain_by (codes "input 1") refl) (plain_by (codes "proposal") refl)))
    (numbered_word (codes "word") k (plain_by (codes "word") refl))

plain_round : (p : TraceSizes) (k : ℕ) → IsPlain (round_word p k)
plain_round p k = plain_cond (k == 0) (codes "mark 0")
    (cond (k == 1) (codes "mark 1") (cond (k == 2) (codes "counter") (ratifier_word p (k - 3))))
    (plain_by (codes "mark 0") refl) (
    plain_cond (k == 1) (codes "mark 1") (cond (k == 2) (codes "counter") (ratifier_word p (k - 3)))
    (plain_by (codes "mark 1") refl) (
    plain_cond (k == 2) (codes "counter") (ratifier_word p (k - 3))
    (plain_by (codes "counter") refl) (plain_ratifier p (k - 3))))

plain_decision : (p : TraceSizes) (k : ℕ) → IsPlain (decision_word p k)
plain_decision p k =
    let round : ℕ = (k + 3) / (3 + p.ratifier) in
    let word : List ℕ = round_word p ((k + 3) % (3 + p.ratifier)) in
    plain_cond (round == p.rounds) (codes "fallback")
    (codes "round" ++ behind (round + 1) ++ 32 ∷ word) (plain_by (codes "fallback") refl)
    (and_more (codes "round") (round + 1) word (plain_by (codes "round") refl)
    (plain_round p ((k + 3) % (3 + p.ratifier))))

plain_row_word : (p : TraceSizes) (k : ℕ) → IsPlain (row_word p k)
plain_row_word p k =
    let bit : ℕ = (k - p.senders) / p.decision in
    let word : List ℕ = decision_word p ((k - p.senders) % p.decision) in
    plain_cond (nat_lt k p.senders) (codes "announcement" ++ behind k)
    (codes "bit" ++ behind bit ++ 32 ∷ word)
    (numbered_word (codes "announcement") k (plain_by (codes "announcement") refl)) (
    and_more (codes "bit") bit word (plain_by (codes "bit") refl)
    (plain_decision p ((k - p.senders) % p.decision)))

plain_word : (p : TraceSizes) (r : ℕ) → IsPlain (word_name p r)
plain_word p r =
    let row : List ℕ =
    codes "row" ++ behind ((r - 2 - p.presences) / p.row)
    ++ 32 ∷ row_word p ((r - 2 - p.presences) % p.row) in
    let far : ℕ = (r - p.passed) / PASSED_APART in
    let passed : List ℕ = cond (nat_le p.passed r) (codes "passed" ++ behind far) row in
    let log : List ℕ = cond (nat_le p.log r) (codes "log" ++ behind (r - p.log)) passed in
    let presence : List ℕ =
    cond (nat_lt (r - 2) p.presences) (codes "presence" ++ behind (r - 2)) log in
    let other : List ℕ = cond (r == 1) (codes "stage") presence in
    plain_cond (r == 0) (codes "length") other (plain_by (codes "length") refl) (
    plain_cond (r == 1) (codes "stage") presence (plain_by (codes "stage") refl) (
    plain_cond (nat_lt (r - 2) p.presences) (codes "presence" ++ behind (r - 2)) log
    (numbered_word (codes "presence") (r - 2) (plain_by (codes "presence") refl)) (
    plain_cond (nat_le p.log r) (codes "log" ++ behind (r - p.log)) passed
    (numbered_word (codes "log") (r - p.log) (plain_by (codes "log") refl)) (
    plain_cond (nat_le p.passed r) (codes "passed" ++ behind far) row
    (numbered_word (codes "passed") far (plain_by (codes "passed") refl)) (
    and_more (codes "row") ((r - 2 - p.presences) / p.row)
    (row_word p ((r - 2 - p.presences) % p.row)) (plain_by (codes "row") refl)
    (plain_row_word p ((r - 2 - p.presences) % p.row)))))))

-- ---- answers
then_number : (front : List ℕ) (n : ℕ) → IsPlain front → IsPlain (front ++ decimal n)
then_number front n h = plain_append front (decimal n) h (plain_decimal n)

then_space : (front more : List ℕ) → IsPlain front → IsPlain more
    → IsPlain (front ++ codes " " ++ more)
then_space front more h k = plain_append (front ++ codes " ") more
    (plain_append front (codes " ") h (plain_by (codes " ") refl)) k

then_another : (front : List ℕ) (n : ℕ) → IsPlain front → IsPlain (front ++ codes " " ++ decimal n)
then_another front n h = then_space front (decimal n) h (plain_decimal n)

plain_turn : (t : Turned) → IsPlain (turn_text t)
plain_turn turn.Idle = plain_by (codes "idle") refl
plain_turn turn.Waiting = plain_by (codes "waiting") refl
plain_turn turn.Going = plain_by (codes "going") refl
plain_turn (turn.Lost t o) = then_another (codes "lost " ++ decimal t) o.0
    (then_number (codes "lost ") t (plain_by (codes "lost ") refl))
plain_turn (turn.Own t) = then_number (codes "own ") t (plain_by (codes "own ") refl)
plain_turn (turn.Delivered t first last) = then_another
    (codes "delivered " ++ decimal t ++ codes " " ++ decimal first) last
    (then_another (codes "delivered " ++ decimal t) first
    (then_number (codes "delivered ") t (plain_by (codes "delivered ") refl)))
plain_turn (turn.Left t) = then_number (codes "left ") t (plain_by (codes "left ") refl)
plain_turn turn.Full = plain_by (codes "full") refl
plain_turn turn.Closed = plain_by (codes "closed") refl
plain_turn turn.Spent = plain_by (codes "spent") refl
plain_turn (turn.Behind t s) = then_another (codes "behind " ++ decimal t) s.0
    (then_number (codes "behind ") t (plain_by (codes "behind ") refl))

digit_plain : (n : ℕ) → 32 ≤ hex_digit n
digit_plain n = glyph_cases (nat_lt n 10) n

pair_plain : (byte : ℕ) → IsPlain (hex_pair byte)
pair_plain byte = plain_cons (hex_digit (byte / 16)) (hex_digit (byte % 16) ∷ [])
    (digit_plain (byte / 16))
    (plain_cons (hex_digit (byte % 16)) [] (digit_plain (byte % 16)) (All-nil (λ b. 32 ≤ b)))

pairs_plain : (bytes : List ℕ) → IsPlain (flat_map hex_pair bytes)
pairs_plain [] = All-nil (λ b. 32 ≤ b)
pairs_plain (b ∷ bytes) =
    plain_append (hex_pair b) (flat_map hex_pair bytes) (pair_plain b) (pairs_plain bytes)

plain_hex : (bytes : List ℕ) → IsPlain (hex_text bytes)
plain_hex [] = plain_by (codes "-") refl
plain_hex (b ∷ bytes) = pairs_plain (b ∷ bytes)

plain_item : (i : Item) → IsPlain (item_text i)
plain_item i = then_space (decimal i.sender.0 ++ codes " " ++ decimal i.number) (hex_text i.message)
    (then_another (decimal i.sender.0) i.number (plain_decimal i.sender.0)) (plain_hex i.message)

plain_recv : (t : RecvTurn) → IsPlain (recv_text t)
plain_recv recv.Going = plain_by (codes "going") refl
plain_recv recv.Empty = plain_by (codes "empty") refl
plain_recv (recv.Head t o) = then_another (codes "head " ++ decimal t) o.0
    (then_number (codes "head ") t (plain_by (codes "head ") refl))
plain_recv (recv.Item i) =
    plain_append (codes "item ") (item_text i) (plain_by (codes "item ") refl) (plain_item i)
plain_recv (recv.Leave s) = then_number (codes "leave ") s.0 (plain_by (codes "leave ") refl)
plain_recv recv.End = plain_by (codes "end") refl

plain_answer : (a : Answer) → IsPlain (answer_text a)
plain_answer (answer.Number n) = numbered_word (codes "number") n (plain_by (codes "number") refl)
plain_answer answer.Closing = plain_by (codes "closing") refl
plain_answer answer.Leaving = plain_by (codes "leaving") refl
plain_answer (answer.Turn t) = plain_turn t
plain_answer (answer.Recv t) = plain_recv t
plain_answer answer.Stopped = plain_by (codes "stopped") refl
plain_answer answer.Gone = plain_by (codes "gone") refl

plain_fork : (did : Bool) → IsPlain (fork_text did)
plain_fork true = plain_by (codes "forked") refl
plain_fork false = plain_by (codes "no seat") refl

-- ---- tenure, kind, word, found and after
dash : IsPlain (codes "-")
dash = plain_by (codes "-") refl

without_step : (name : List ℕ) (f : Family) → family_of name ≡ Some f → IsPlain name
    → IsMiddle (no_step name)
without_step name f known plain = record {
  tenure = codes "-";
  kind = name;
  word = codes "-";
  found = codes "-";
  after = codes "-";
  family = f;
  known = known;
  plain_tenure = dash;
  plain_kind = plain;
  plain_word = dash;
  plain_found = dash;
  plain_after = dash;
  is = refl;
}

nothing_done : IsMiddle (no_step (codes "-"))
nothing_done = without_step (codes "-") family.Nothing refl dash

with_step : (p : TraceSizes) (tenure : Option ℕ) (k : Kind) (found : ℕ) (o : Option Op)
    → IsMiddle (step_text p tenure k found o)
with_step p tenure k found None = nothing_done
with_step p tenure k found (Some o) = record {
  tenure = tenure_text tenure;
  kind = kind_name k;
  word = word_name p (register o);
  found = decimal found;
  after = decimal (after o found);
  family = family_at k;
  known = has_family k;
  plain_tenure = plain_tenure tenure;
  plain_kind = plain_kind k;
  plain_word = plain_word p (register o);
  plain_found = plain_decimal found;
  plain_after = plain_decimal (after o found);
  is = refl;
}

of_action : (p : TraceSizes) (o : Option Op) (d : Action) → IsMiddle (action_text p o d)
of_action p o (HasPut number bytes) =
    without_step (codes "put") family.Call refl (plain_by (codes "put") refl)
of_action p o (HasMarked mark.End) =
    without_step (codes "close") family.Call refl (plain_by (codes "close") refl)
of_action p o (HasMarked mark.Leave) =
    without_step (codes "leave") family.Call refl (plain_by (codes "leave") refl)
of_action p o (Stepped tenure k found chose answer) = with_step p tenure k found o

of_actions : (p : TraceSizes) (o : Option Op) (actions : List Action)
    → IsMiddle (actions_text p o actions)
of_actions p o [] = nothing_done
of_actions p o (d ∷ actions) = of_action p o d

of_due : (p : TraceSizes) (words : ℕ → ℕ) (tenure : Option ℕ) (k : Option Kind) (o : Option Op)
    → IsMiddle (due_text p words tenure k o)
of_due p words tenure None o = nothing_done
of_due p words tenure (Some k) None = nothing_done
of_due p words tenure (Some k) (Some o) = with_step p tenure k (words (register o)) (Some o)

of_receiving : (p : TraceSizes) (words : ℕ → ℕ) (v : Option Receiving)
    → IsMiddle (receiving_text p words v)
of_receiving p words None = nothing_done
of_receiving p words (Some v) = of_due p words None (due_kind v) (due_op v)

of_sender : {E : Type 0} (p : TraceSizes) (X : Election E) (words : ℕ → ℕ)
    (v : Option (OneSender E)) (word : ℕ)
    → IsMiddle (sender_text p X words v word)
of_sender p X words None word = nothing_done
of_sender p X words (Some v) word =
    of_due p words (line_now X v).tenure (line_now X v).kind ((line_now X v).op word)

a_stop : IsMiddle (no_step (codes "stop"))
a_stop = without_step (codes "stop") family.Call refl (plain_by (codes "stop") refl)

of_gone : (p : TraceSizes) (words : ℕ → ℕ) (o : Option Op) → IsMiddle (gone_text p words o)
of_gone p words None = without_step (codes "gone") family.Call refl (plain_by (codes "gone") refl)
of_gone p words (Some o) = with_step p None kind.StorePassed (words (register o)) (Some o)

of_leaver : (p : TraceSizes) (words : ℕ → ℕ) (v : Option Receiving)
    → IsMiddle (leaving_text p words v)
of_leaver p words None = of_gone p words None
of_leaver p words (Some v) = of_gone p words (leaving_op v)

of_joining : (p : TraceSizes) (words : ℕ → ℕ) (o : Option Op) → IsMiddle (joining_text p words o)
of_joining p words None =
    without_step (codes "fork") family.Call refl (plain_by (codes "fork") refl)
of_joining p words (Some o) = record {
  tenure = codes "-";
  kind = codes "Fork";
  word = word_name p (register o);
  found = decimal (words (register o));
  after = decimal (after o (words (register o)));
  family = family.Exchange;
  known = refl;
  plain_tenure = dash;
  plain_kind = plain_by (codes "Fork") refl;
  plain_word = plain_word p (register o);
  plain_found = plain_decimal (words (register o));
  plain_after = plain_decimal (after o (words (register o)));
  is = refl;
}

-- ---- who is asked, where a bus can have it
abbrev pub AsksFew : Event → Type 0
AsksFew (Put s bytes) = s < MOST_SENDERS
AsksFew (Ask s mark) = s < MOST_SENDERS
AsksFew (Turn s word) = s < MOST_SENDERS
AsksFew (Recv r) = r < MOST_RECEIVERS
AsksFew (Stop s) = s < MOST_SENDERS
AsksFew (Gone r) = r < MOST_RECEIVERS

a_sender : (s : ℕ) → s < MOST_SENDERS → IsWho (codes "sender" ++ behind s)
a_sender s few = record {
  process = Sender s;
  known = sender_known s few;
  plain = numbered_word (codes "sender") s (plain_by (codes "sender") refl);
}

a_receiver : (r : ℕ) → r < MOST_RECEIVERS → IsWho (codes "receiver" ++ behind r)
a_receiver r few = record {
  process = Receiver r;
  known = receiver_known r few;
  plain = numbered_word (codes "receiver") r (plain_by (codes "receiver") refl);
}

-- ---- lines
pub line_read : {E : Type 0} (p : TraceSizes) (X : Election E) (line : ℕ) (m : Machine E)
    (e : Event) (a : Answer) → AsksFew e
    → IsReadable (row_text p X line m e a)
line_read p X line m (Put s bytes) a few =
    readable (decimal line) (codes "sender" ++ behind s) (columns p X m (Put s bytes) a)
    (answer_text a) (plain_decimal line) (a_sender s few) (of_actions p None (put_actions bytes a))
    (plain_answer a)
line_read p X line m (Ask s mark) a few =
    readable (decimal line) (codes "sender" ++ behind s) (columns p X m (Ask s mark) a)
    (answer_text a) (plain_decimal line) (a_sender s few) (of_actions p None (mark_actions a))
    (plain_answer a)
line_read p X line m (Turn s word) a few =
    readable (decimal line) (codes "sender" ++ behind s) (columns p X m (Turn s word) a)
    (answer_text a) (plain_decimal line) (a_sender s few)
    (of_sender p X (slice_index m.words) (going m s) word) (plain_answer a)
line_read p X line m (Recv r) a few = readable (decimal line) (codes "receiver" ++ behind r)
    (columns p X m (Recv r) a) (answer_text a)
    (plain_decimal line) (a_receiver r few)
    (of_receiving p (slice_index m.words) (slice_get m.receivers r)) (plain_answer a)
line_read p X line m (Stop s) a few =
    readable (decimal line) (codes "sender" ++ behind s) (columns p X m (Stop s) a) (answer_text a)
    (plain_decimal line) (a_sender s few) a_stop (plain_answer a)
line_read p X line m (Gone r) a few =
    readable (decimal line) (codes "receiver" ++ behind r) (columns p X m (Gone r) a)
    (answer_text a) (plain_decimal line) (a_receiver r few)
    (of_leaver p (slice_index m.words) (slice_get m.receivers r)) (plain_answer a)

pub fork_read : {E : Type 0} (p : TraceSizes) (line : ℕ) (m : Machine E) (i j : ℕ) (did : Bool)
    → i < MOST_RECEIVERS → IsReadable (fork_row p line m i j did)
fork_read p line m i j did few =
    readable (decimal line) (codes "receiver" ++ behind i) (fork_columns p m i j) (fork_text did)
    (plain_decimal line) (a_receiver i few)
    (of_joining p (slice_index m.words) (fork_op m j (slice_get m.receivers i))) (plain_fork did)
