-- The line of an event, made of the step that was seen.
use Rattle.std.proofs.Common.{◌≡◌, ℕ, ◌+◌, Bool, false, true, cond, Option, Some, None, List, []}
use Rattle.std.proofs.Common.{◌∷◌, ◌++◌, length, slice_get, slice_index, refl, sym, ap, ◌∙◌}
use Rattle.std.proofs.Common.{append_assoc, arith}
use Rattle.std.specs.Prelude.{codes, decimal}
use Rattle.std.proofs.lemmas.List.{append-nil, length-append}
use Rattle.bus_register.specs.declared.kinds.Kind.{Kind}
use Rattle.bus_register.specs.declared.kinds.Kind.TheVariants.{StorePassed}
use Rattle.bus_register.specs.declared.registers.Op.{Op}
use Rattle.bus_batch.specs.declared.messages.Mark.TheVariants as mark
use Rattle.bus_core.specs.Senders.{Sender}
use Rattle.bus_core.specs.Table.{line_now}
use Rattle.bus_deliverylog.specs.Receiving.{Receiving, due_kind, due_op, leaving_op}
use Rattle.bus_machine.specs.Machine.{Machine, Happens, has_stopped}
use Rattle.bus_tenure.specs.Core.{Election}
use Rattle.bus_world.specs.Trails.{put_actions, mark_actions}
use Rattle.bus_world.specs.World.{Event, Put, Ask, Turn, Recv, Stop, Gone}
use Rattle.bus_world.specs.declared.events.Answer.{Answer}
use Rattle.bus_replay.specs.Text.{answer_text, fork_text, behind}
use Rattle.bus_register.specs.Words.{register}
use Rattle.bus_trace.specs.declared.seen.Seen.{Seen}
use Rattle.bus_trace.specs.declared.seen.SeenWord.{SeenWord}
use Rattle.bus_trace.specs.Words.{TraceSizes, word_name}
use Rattle.bus_register.specs.Names.{kind_name}
use Rattle.bus_trace.specs.Rows.{column, tenure_text, no_step, actions_text, due_text}
use Rattle.bus_trace.specs.Rows.{receiving_text, gone_text, leaving_text, sender_text, who_text}
use Rattle.bus_trace.specs.Rows.{columns, row_text, fork_op, joining_text, fork_row}
use Rattle.bus_trace.specs.Steps.{step_of, sender_due, receiver_due, leaver_due, due_by, seen_in}
use Rattle.bus_trace.specs.Steps.{word_in}
use Rattle.bus_trace.specs.Told.{name_told, seen_columns, seen_told, row_told, numbered_row}
use Rattle.bus_trace.specs.Told.{word_columns, fork_told}
use Rattle.bus_trace.specs.Traces.{numbered_rows}
use Rattle.bus_trace.specs.Obeying.{Grows}

-- who goes on is there
pub there : {E : Type 0} (stopped : Bool) (o : Option (Sender E)) (v : Sender E)
    → cond stopped None o ≡ Some v → o ≡ Some v
there true o v e = absurd cc
there false o v e = e

-- of a step that is due, of an event whose kind stands nowhere but in its step
due_told : (p : TraceSizes) (words : ℕ → ℕ) (e : Event) → name_told e ≡ codes "-"
    → (tenure : Option ℕ) (k : Option Kind) (o : Option Op)
    → due_text p words tenure k o ≡ seen_told p e (seen_in words (step_of tenure k o))
due_told p words e plain tenure None o = ap no_step (sym plain)
due_told p words e plain tenure (Some k) None = ap no_step (sym plain)
due_told p words e plain tenure (Some k) (Some o) = refl

-- of a load of a receiver, or of the store of its place
receiver_told : (p : TraceSizes) (words : ℕ → ℕ) (r : ℕ) (o : Option Receiving)
    → receiving_text p words o ≡ seen_told p (Recv r)
    (seen_in words (receiver_due o))
receiver_told p words r None = refl
receiver_told p words r (Some v) =
    due_told p words (Recv r) refl None (due_kind v) (due_op v)

-- of a receiver that leaves for good
gone_told : (p : TraceSizes) (words : ℕ → ℕ) (r : ℕ) (o : Option Op)
    → gone_text p words o
    ≡ seen_told p (Gone r) (seen_in words (step_of None (Some StorePassed) o))
gone_told p words r None = refl
gone_told p words r (Some o) = refl

leaver_told : (p : TraceSizes) (words : ℕ → ℕ) (r : ℕ) (o : Option Receiving)
    → leaving_text p words o ≡ seen_told p (Gone r) (seen_in words (leaver_due o))
leaver_told p words r None = refl
leaver_told p words r (Some v) = gone_told p words r (leaving_op v)

columns_told :
    {E : Type 0} (p : TraceSizes) (X : Election E) (m m' : Machine E) (e : Event) (a : Answer)
    → Happens X m e a m'
    → columns p X m e a ≡ seen_told p e (seen_in (slice_index m.words) (due_by X m e))
columns_told p X m m' (Put s bytes) a h =
    ap (λ (z : Answer). actions_text p None (put_actions bytes z)) h.answered
columns_told p X m m' (Ask s mark.End) a h =
    ap (λ (z : Answer). actions_text p None (mark_actions z)) h.answered
columns_told p X m m' (Ask s mark.Leave) a h =
    ap (λ (z : Answer). actions_text p None (mark_actions z)) h.answered
columns_told p X m m' (Turn s word) a h =
    let l = line_now X h.sender in
    ap (λ o. sender_text p X (slice_index m.words) o word) h.goes
    ∙ due_told p (slice_index m.words) (Turn s word) refl l.tenure l.kind
    (l.op word)
    ∙ ap (λ o. seen_told p (Turn s word) (seen_in (slice_index m.words) (sender_due X o word)))
    (sym (there (has_stopped m s) (slice_get m.senders s) h.sender h.goes))
columns_told p X m m' (Recv r) a h =
    receiver_told p (slice_index m.words) r (slice_get m.receivers r)
columns_told p X m m' (Stop s) a h = refl
columns_told p X m m' (Gone r) a h =
    leaver_told p (slice_index m.words) r (slice_get m.receivers r)

-- the whole line
pub row_is : {E : Type 0} (p : TraceSizes) (X : Election E) (line : ℕ) (m m' : Machine E)
    (e : Event) (a : Answer) → Happens X m e a m'
    → (seen : Option Seen) → seen ≡ seen_in (slice_index m.words) (due_by X m e)
    → row_told p line e seen a ≡ row_text p X line m e a
row_is p X line m m' e a h seen is =
    ap (λ k. row_told p line e k a) is
    ∙ ap (λ (l : List ℕ). column (decimal line) ++ who_text e ++ l ++
    answer_text a) (sym (columns_told p X m m' e a h))

-- of a fork
joining_told : (p : TraceSizes) (words : ℕ → ℕ) (o : Option Op)
    → word_columns p (word_in words o) ≡ joining_text p words o
joining_told p words None = refl
joining_told p words (Some o) = refl

pub fork_row_is : {E : Type 0} (p : TraceSizes) (line i j : ℕ) (m : Machine E) (did : Bool)
    (word : Option SeenWord)
    → word ≡ word_in (slice_index m.words) (fork_op m j (slice_get m.receivers i))
    → fork_told p line i word did ≡ fork_row p line m i j did
fork_row_is p line i j m did word is =
    ap (λ w. fork_told p line i w did) is
    ∙ ap (λ (l : List ℕ). column (decimal line) ++ column (codes "receiver" ++ behind i) ++ l
    ++ fork_text did)
    (joining_told p (slice_index m.words) (fork_op m j (slice_get m.receivers i)))

-- ---- lines one after another
numbered_more : (from : ℕ) (rows more : List (List ℕ))
    → numbered_rows from (rows ++ more)
    ≡ numbered_rows from rows ++ numbered_rows (from + length rows) more
numbered_more from [] more =
    ap (λ k. numbered_rows k more) (let z : from ≡ from + 0 = omega arith in z)
numbered_more from (row ∷ rows) more =
    ap (λ (l : List ℕ). numbered_row from row ++ l)
    (numbered_more (from + 1) rows more
    ∙ ap (λ k. numbered_rows (from + 1) rows ++ numbered_rows k more)
    (let z : from + 1 + length rows ≡ from + length (row ∷ rows) = omega arith in z))
    ∙ sym (append_assoc (numbered_row from row) (numbered_rows (from + 1) rows)
    (numbered_rows (from + length (row ∷ rows)) more))

pub grown_more : (old mid new : List ℕ) (k m n : ℕ) (rows more : List (List ℕ))
    → Grows old k mid m rows → Grows mid m new n more → Grows old k new n (rows ++ more)
grown_more old mid new k m n rows more g h = record {
  text_is =
      h.text_is ∙ ap (λ (l : List ℕ). l ++ numbered_rows (m + 1) more) g.text_is
      ∙ append_assoc old (numbered_rows (k + 1) rows) (numbered_rows (m + 1) more)
      ∙ ap (λ j. old ++ (numbered_rows (k + 1) rows ++ numbered_rows j more))
      (let a = g.lines_are in let z : m + 1 ≡ k + 1 + length rows = omega arith in z)
      ∙ ap (λ (l : List ℕ). old ++ l) (sym (numbered_more (k + 1) rows more));
  lines_are =
      h.lines_are ∙ ap (λ j. j + length more) g.lines_are
      ∙ (let s = length-append rows more in
      let z : k + length rows + length more ≡ k + length (rows ++ more) = omega arith in z);
}

pub grown_none : (old : List ℕ) (k : ℕ) → Grows old k old k []
grown_none old k = record {
  text_is = sym (append-nil old);
  lines_are = (let z : k ≡ k + 0 = omega arith in z);
}

-- one line was put
pub grown_one : (old new : List ℕ) (k n : ℕ) (told row : List ℕ) → told ≡ row
    → new ≡ old ++ numbered_row (k + 1) told → n ≡ k + 1 → Grows old k new n (row ∷ [])
grown_one old new k n told row is text lines = record {
  text_is =
      text ∙ ap (λ (l : List ℕ). old ++ numbered_row (k + 1) l) is
      ∙ ap (λ (l : List ℕ). old ++ l) (sym (append-nil (numbered_row (k + 1) row)));
  lines_are = lines;
}

-- ---- the columns of a step, put one by one
six_together : (t a k w n f l : List ℕ)
    → (((((t ++ a) ++ k) ++ w) ++ n) ++ f) ++ l ≡ t ++ ((((a ++ k) ++ (w ++ n)) ++ f) ++ l)
six_together t a k w n f l =
    ap (λ (z : List ℕ). (z ++ f) ++ l) (append_assoc ((t ++ a) ++ k) w n
    ∙ ap (λ (z : List ℕ). z ++ (w ++ n)) (append_assoc t a k) ∙ append_assoc t (a ++ k) (w ++ n))
    ∙ ap (λ (z : List ℕ). z ++ l) (append_assoc t ((a ++ k) ++ (w ++ n)) f)
    ∙ append_assoc t (((a ++ k) ++ (w ++ n)) ++ f) l

pub seen_put : (p : TraceSizes) (s : Seen) (t0 t1 t2 t3 t4 t5 t6 name : List ℕ) (r : ℕ)
    → t1 ≡ t0 ++ column (tenure_text s.step.tenure) → name ≡ kind_name s.step.kind
    → t2 ≡ t1 ++ column name → r ≡ register s.step.op → t3 ≡ t2 ++ word_name p r → t4 ≡ t3 ++ 9 ∷ []
    → t5 ≡ t4 ++ column (decimal s.found) → t6 ≡ t5 ++ column (decimal s.left)
    → t6 ≡ t0 ++ seen_columns p s
seen_put p s t0 t1 t2 t3 t4 t5 t6 name r e1 n e2 g e3 e4 e5 e6 =
    let tenure = column (tenure_text s.step.tenure) in
    let kind = column (kind_name s.step.kind) in
    let word = word_name p (register s.step.op) in
    let found = column (decimal s.found) in let left = column (decimal s.left) in
    e6
    ∙ ap (λ (z : List ℕ). z ++ left) (e5
    ∙ ap (λ (z : List ℕ). z ++ found) (e4
    ∙ ap (λ (z : List ℕ). z ++ 9 ∷ []) (e3 ∙ ap (λ i. t2 ++ word_name p i) g
    ∙ ap (λ (z : List ℕ). z ++ word)
    (e2 ∙ ap (λ (z : List ℕ). t1 ++ column z) n ∙ ap (λ (z : List ℕ). z ++ kind) e1))))
    ∙ six_together t0 tenure kind word (9 ∷ []) found left
