-- What a history keeps: words that are copied one by one, answers that are counted, and what each
-- event adds.
use Rattle.std.proofs.Common.{◌≡◌, ℕ, suc, ◌+◌, ◌-◌, ◌%◌, ◌<◌, ◌≤◌, Bool, true, false, cond}
use Rattle.std.proofs.Common.{Option, Some, None, List, [], ◌∷◌, ◌++◌, length, slice_get}
use Rattle.std.proofs.Common.{slice_index, slice_set, sym, ap, refl, ◌∙◌, append_assoc, subst}
use Rattle.std.proofs.Common.{inl, inr, arith}
use Rattle.std.specs.Prelude.{◌||◌, flat_map, slice_index_or}
use Rattle.std.specs.List.{list_any}
use Rattle.std.proofs.Math.Bool.{or-false}
use Rattle.std.proofs.Math.ListN.{length-set}
use Rattle.std.proofs.lemmas.Bool.{cases_eq}
use Rattle.std.proofs.lemmas.Bool.Decides.{eqb_tells}
use Rattle.std.proofs.lemmas.Grind.{flat_map-append}
use Rattle.std.proofs.lemmas.List.{append-nil, length-append}
use Rattle.std.proofs.lemmas.List.Folds.{list_any-append}
use Rattle.std.proofs.lemmas.Option.{get_or_from_slice_get, slice_get_within}
use Rattle.bus_register.specs.Protocol.{Protocol}
use Rattle.bus_register.specs.Private.TableLaws.{get_set_same, get_set_other}
use Rattle.bus_adoptcommit.specs.declared.verdicts.Verdict.{Verdict}
use Rattle.bus_batch.specs.Frames.{Entry, item_in, items_in}
use Rattle.bus_core.specs.Senders.{Sender, Situation, Does, Announces, Validates, Unpins}
use Rattle.bus_core.specs.Senders.{Withdraws, Scans, Clears, ReadsPassed, situation}
use Rattle.bus_core.specs.Table.{Line, line_now}
use Rattle.bus_deliverylog.specs.Receiving.{receiving_op, leaving_op}
use Rattle.bus_deliverylog.specs.declared.receiving.RecvTurn.{RecvTurn}
use Rattle.bus_deliverylog.specs.declared.receiving.RecvTurn.TheVariants as recv
use Rattle.bus_tenure.specs.Core.{Election, Layout}
use Rattle.bus_tenure.specs.Elections.{Elector, layout_with}
use Rattle.bus_tenure.specs.declared.turns.Turn.{Turn as Answered}
use Rattle.bus_world.specs.Headline.{entry_heard, end_heard}
use Rattle.bus_world.specs.Log.{words_in_ring}
use Rattle.bus_world.specs.Trails.{answers_with}
use Rattle.bus_world.specs.World.{Event, Put, Ask, Turn, Recv, Stop, Gone, IsLayout}
use Rattle.bus_world.specs.declared.events.Answer.{Answer}
use Rattle.bus_world.specs.declared.events.Answer.TheVariants as answer
use Rattle.bus_machine.proofs.Bases.AtNone.{event_reuse}
use Rattle.bus_machine.proofs.Bases.CyclicTurns.{words_many}
use Rattle.bus_machine.proofs.Onward.StageRises.{log_behind}
use Rattle.bus_machine.specs.Machine.{Machine, Trails, Reached, Then, Happens, log_place, found}
use Rattle.bus_machine.specs.Machine.{ShowsPublished, going, trails_grown, turn_grown}
use Rattle.bus_machine.specs.Machine.{turn_trails}
use Rattle.bus_machine.specs.Promise.{HasRows}
use Rattle.bus_replay.specs.Histories.{Kept, HasAllOf, HasSizes, IsHistoryOf, AsksOne, given_of}
use Rattle.bus_replay.specs.Histories.{given_with, kept_after, no_given}
use Rattle.bus_replay.specs.declared.histories.Given.{Given}

-- ---- words
-- one more word was copied from its cell, behind so many
copied_behind : (words : ℕ → ℕ) (at capacity place k w : ℕ) (old mid new : List ℕ)
    → mid ≡ old ++ words_in_ring words at capacity place k
    → w ≡ words (at + (place + k) % capacity) → new ≡ mid ++ w ∷ []
    → new ≡ old ++ words_in_ring words at capacity place (suc k)
copied_behind words at capacity place k w old mid new so_far is pushed =
    let far : List ℕ = words_in_ring words at capacity place k in
    pushed ∙ ap (λ (l : List ℕ). l ++ w ∷ []) so_far ∙ append_assoc old far (w ∷ [])
    ∙ ap (λ (v : ℕ). old ++ (far ++ v ∷ [])) is

-- the same, by the place of the word
pub copied : (words : ℕ → ℕ) (at capacity first place w : ℕ) (old mid new : List ℕ) → first ≤ place
    → mid ≡ old ++ words_in_ring words at capacity first (place - first)
    → w ≡ words (at + place % capacity) → new ≡ mid ++ w ∷ []
    → new ≡ old ++ words_in_ring words at capacity first (place + 1 - first)
copied words at capacity first place w old mid new le so_far is pushed =
    let there : place ≡ first + (place - first) = omega arith in
    let more : suc (place - first) ≡ place + 1 - first = omega arith in
    subst (λ (k : ℕ). new ≡ old ++ words_in_ring words at capacity first k) more
    (copied_behind words at capacity first (place - first) w old mid new so_far
    (is ∙ ap (λ (p : ℕ). words (at + p % capacity)) there) pushed)

-- ---- answers
-- so many items, and whether the end
abbrev counted : Bool → ℕ → Bool → Given
counted taken n ends = record { taken = taken; items = n; ended = ends }

answer_more : (taken : Bool) (trail : List RecvTurn) (t : RecvTurn) (n : ℕ) (ends : Bool)
    → length (items_in (flat_map entry_heard (t ∷ []))) ≡ n → list_any end_heard (t ∷ []) ≡ ends
    → given_of taken (trail ++ t ∷ [])
    ≡ counted taken ((given_of taken trail).items + n) ((given_of taken trail).ended || ends)
answer_more taken trail t n ends many is =
    let entries : List Entry = flat_map entry_heard trail in
    let one : List Entry = flat_map entry_heard (t ∷ []) in
    let items_are : length (items_in (flat_map entry_heard (trail ++ t ∷ [])))
    ≡ length (items_in entries) + n =
    ap (λ (es : List Entry). length (items_in es)) (flat_map-append entry_heard trail (t ∷ []))
    ∙ ap length (flat_map-append item_in entries one)
    ∙ length-append (items_in entries) (items_in one)
    ∙ ap (λ (k : ℕ). length (items_in entries) + k) many in
    ap (λ (k : ℕ). counted taken k (list_any end_heard (trail ++ t ∷ []))) items_are
    ∙ ap (counted taken (length (items_in entries) + n))
    (list_any-append end_heard trail (t ∷ [])
    ∙ ap (λ (b : Bool). list_any end_heard trail || b) is)

-- an answer that gives nothing
quiet : (taken : Bool) (trail : List RecvTurn) (t : RecvTurn)
    → length (items_in (flat_map entry_heard (t ∷ []))) ≡ 0 → list_any end_heard (t ∷ []) ≡ false
    → given_of taken (trail ++ t ∷ []) ≡ given_of taken trail
quiet taken trail t none goes =
    let g : Given = given_of taken trail in
    answer_more taken trail t 0 false none goes
    ∙ ap (λ (k : ℕ). counted taken k (g.ended || false))
    (let same : g.items + 0 ≡ g.items = omega arith in same)
    ∙ ap (counted taken g.items) (or-false g.ended)

or-true : (b : Bool) → (b || true) ≡ true
or-true true = refl
or-true false = refl

-- with one answer more
pub given_more : (t : RecvTurn) (taken : Bool) (trail : List RecvTurn)
    → given_of taken (trail ++ t ∷ []) ≡ given_with t (given_of taken trail)
given_more recv.Going taken trail = quiet taken trail recv.Going refl refl
given_more recv.Empty taken trail = quiet taken trail recv.Empty refl refl
given_more (recv.Head tenure owner) taken trail =
    quiet taken trail (recv.Head tenure owner) refl refl
given_more (recv.Item item) taken trail =
    let g : Given = given_of taken trail in
    answer_more taken trail (recv.Item item) 1 false refl refl
    ∙ ap (counted taken (g.items + 1)) (or-false g.ended)
given_more (recv.Leave sender) taken trail = quiet taken trail (recv.Leave sender) refl refl
given_more recv.End taken trail =
    let g : Given = given_of taken trail in
    answer_more taken trail recv.End 0 true refl refl
    ∙ ap (λ (k : ℕ). counted taken k (g.ended || true))
    (let same : g.items + 0 ≡ g.items = omega arith in same)
    ∙ ap (counted taken g.items) (or-true g.ended)

-- it joins the trail of its receiver, and of no other
answered_here : (r : ℕ) (t : RecvTurn) (H : ℕ → List RecvTurn)
    → answers_with r t H r ≡ H r ++ t ∷ []
answered_here r t H = elim (eqb_tells r r) [
  | inl h ↦ ap (λ (b : Bool). H r ++ cond b (t ∷ []) []) h.0
  | inr h ↦ absurd (h.1 refl)
]

answered_beside : (r q : ℕ) (t : RecvTurn) (H : ℕ → List RecvTurn) → (q ≡ r → ⊥)
    → answers_with r t H q ≡ H q
answered_beside r q t H ne = elim (eqb_tells q r) [
  | inl h ↦ absurd (ne h.1)
  | inr h ↦ ap (λ (b : Bool). H q ++ cond b (t ∷ []) []) h.0 ∙ append-nil (H q)
]

heard_remembered : (h : Kept) (n r : ℕ) (t : RecvTurn) (T : Trails) (taken : ℕ → Bool) → r < n
    → HasAllOf h n T taken
    → HasAllOf (record h {
      given = slice_set h.given r (given_with t (slice_index_or h.given r no_given));
    }) n (record T { heard = answers_with r t T.heard }) taken
heard_remembered h n r t T taken low k = record {
  log = k.log;
  many = length-set h.given r more ∙ k.many;
  given = λ q lt. elim (cases_eq q r) [
    | inl e ↦
        subst (λ p. slice_get (slice_set h.given r more) p
        ≡ Some (given_of (taken p) (answers_with r t T.heard p))) (sym e) here
    | inr ne ↦
        get_set_other h.given r more q ne ∙ k.given q lt
        ∙ ap (λ (l : List RecvTurn). Some (given_of (taken q) l))
        (sym (answered_beside r q t T.heard ne))
  ];
} where
  more : Given
  more = given_with t (slice_index_or h.given r no_given)

  here :
      slice_get (slice_set h.given r more) r
      ≡ Some (given_of (taken r) (answers_with r t T.heard r))
  here =
      let many = k.many in
      get_set_same h.given r more (omega arith)
      ∙ ap (λ (g : Given). Some (given_with t g))
      (get_or_from_slice_get h.given r (given_of (taken r) (T.heard r)) no_given (k.given r low))
      ∙ ap Some (sym (given_more t (taken r) (T.heard r)))
      ∙ ap (λ (l : List RecvTurn). Some (given_of (taken r) l)) (sym (answered_here r t T.heard))

-- ---- trails that say the same
carried : (h : Kept) (n n' : ℕ) (T U : Trails) (taken : ℕ → Bool) → n' ≡ n → U.log ≡ T.log
    → U.heard ≡ T.heard → HasAllOf h n T taken → HasAllOf h n' U taken
carried h n n' T U taken many log heard k = record {
  log = k.log ∙ sym log;
  many = k.many ∙ sym many;
  given = λ r lt.
      k.given r (subst (λ m. r < m) many lt)
      ∙ ap (λ (H : ℕ → List RecvTurn). Some (given_of (taken r) (H r))) (sym heard);
}

turn_hears : {E : Type 0} (z : Situation E) (l : Line E) (s got word : ℕ) (told : Answered)
    (T : Trails) → (turn_trails z l s got word told T).heard ≡ T.heard
turn_hears (Does z) l s got word told T = refl
turn_hears (Announces t) l s got word told T = refl
turn_hears (Validates t) l s got word told T = refl
turn_hears (Unpins t) l s got word told T = refl
turn_hears (Withdraws t) l s got word told T = refl
turn_hears (Scans r) l s got word told T = refl
turn_hears (Clears r) l s got word told T = refl
turn_hears (ReadsPassed t p) l s got word told T = refl

-- a turn of a sender is no answer to a receiver
sender_hears : {E : Type 0} (X : Election E) (b : Machine E) (s : ℕ) (o : Option (Sender E))
    (word : ℕ) (a : Answer) (T : Trails) → (turn_grown X b s o word a T).heard ≡ T.heard
sender_hears X b s None word a T = refl
sender_hears X b s (Some v) word (answer.Number n) T = refl
sender_hears X b s (Some v) word answer.Closing T = refl
sender_hears X b s (Some v) word answer.Leaving T = refl
sender_hears X b s (Some v) word (answer.Turn t) T =
    turn_hears (situation X v) (line_now X v) s (found b (line_now X v) word) word t T
sender_hears X b s (Some v) word (answer.Recv t) T = refl
sender_hears X b s (Some v) word answer.Stopped T = refl
sender_hears X b s (Some v) word answer.Gone T = refl

kept_capacity : (words : List ℕ) (e : Event) (a : Answer) (h : Kept)
    → (kept_after words e a h).capacity ≡ h.capacity
kept_capacity words (Put s bytes) a h = refl
kept_capacity words (Ask s mark) a h = refl
kept_capacity words (Turn s word) a h = refl
kept_capacity words (Recv r) (answer.Number n) h = refl
kept_capacity words (Recv r) answer.Closing h = refl
kept_capacity words (Recv r) answer.Leaving h = refl
kept_capacity words (Recv r) (answer.Turn t) h = refl
kept_capacity words (Recv r) (answer.Recv t) h = refl
kept_capacity words (Recv r) answer.Stopped h = refl
kept_capacity words (Recv r) answer.Gone h = refl
kept_capacity words (Stop s) a h = refl
kept_capacity words (Gone r) a h = refl

-- ---- an event
-- the law of every machine: what is published stands in its cells just behind the event
abbrev pub PublishedStands : {S : Type 0} → Election (Elector S) → Protocol S Bool Verdict → Type 0
PublishedStands {S} X P =
    (senders rounds rows capacity passers batch : ℕ)
    → IsLayout (layout_with P senders rounds rows capacity passers batch)
    → (old : Machine (Elector S)) (trails : Trails)
    → old.layout ≡ layout_with P senders rounds rows capacity passers batch → HasRows old.reuse
    → Reached X old trails → (event : Event) (given : Answer) (new : Machine (Elector S))
    → Happens X old event given new
    → ShowsPublished new trails.log (trails_grown X old event given trails).log

module _ {E : Type 0} (X : Election E) where
  same_senders : (m m' : Machine E) (e : Event) (a : Answer) → Happens X m e a m'
      → length m'.senders ≡ length m.senders
  same_senders m m' (Put s bytes) a d =
      ap (λ (y : Machine E). length y.senders) d.after ∙ length-set m.senders s _
  same_senders m m' (Ask s asked) a d =
      ap (λ (y : Machine E). length y.senders) d.after ∙ length-set m.senders s _
  same_senders m m' (Turn s word) a d =
      ap (λ (y : Machine E). length y.senders) d.after ∙ length-set m.senders s _
  same_senders m m' (Recv r) a d = ap (λ (y : Machine E). length y.senders) d.after
  same_senders m m' (Stop s) a d = ap (λ (y : Machine E). length y.senders) d.after
  same_senders m m' (Gone r) a d = ap (λ (y : Machine E). length y.senders) d.after

  pub same_receivers : (m m' : Machine E) (e : Event) (a : Answer) → Happens X m e a m'
      → length m'.receivers ≡ length m.receivers
  same_receivers m m' (Put s bytes) a d = ap (λ (y : Machine E). length y.receivers) d.after
  same_receivers m m' (Ask s asked) a d = ap (λ (y : Machine E). length y.receivers) d.after
  same_receivers m m' (Turn s word) a d = ap (λ (y : Machine E). length y.receivers) d.after
  same_receivers m m' (Recv r) a d =
      ap (λ (y : Machine E). length y.receivers) d.after ∙ length-set m.receivers r _
  same_receivers m m' (Stop s) a d = ap (λ (y : Machine E). length y.receivers) d.after
  same_receivers m m' (Gone r) a d =
      ap (λ (y : Machine E). length y.receivers) d.after ∙ length-set m.receivers r _

  same_words : (m m' : Machine E) (e : Event) (a : Answer) → Happens X m e a m'
      → length m'.words ≡ length m.words
  same_words m m' (Put s bytes) a d = ap (λ (y : Machine E). length y.words) d.after
  same_words m m' (Ask s asked) a d = ap (λ (y : Machine E). length y.words) d.after
  same_words m m' (Turn s word) a d =
      ap (λ (y : Machine E). length y.words) d.after
      ∙ words_many m.words ((line_now X d.sender).op word)
  same_words m m' (Recv r) a d =
      ap (λ (y : Machine E). length y.words) d.after
      ∙ words_many m.words (receiving_op d.receiver)
  same_words m m' (Stop s) a d = ap (λ (y : Machine E). length y.words) d.after
  same_words m m' (Gone r) a d =
      ap (λ (y : Machine E). length y.words) d.after ∙ words_many m.words (leaving_op d.receiver)

  -- a turn of a receiver that is answered is of one that there is
  asks_one : (m m' : Machine E) (e : Event) (a : Answer) → Happens X m e a m'
      → AsksOne e (length m.receivers)
  asks_one m m' (Put s bytes) a d = tt
  asks_one m m' (Ask s asked) a d = tt
  asks_one m m' (Turn s word) a d = tt
  asks_one m m' (Recv r) a d = slice_get_within m.receivers r d.receiver d.there
  asks_one m m' (Stop s) a d = tt
  asks_one m m' (Gone r) a d = tt

  -- so nobody past the receivers is answered anything
  pub quiet_past : (m m' : Machine E) (e : Event) (a : Answer) (T : Trails) (q : ℕ)
      → Happens X m e a m' → length m.receivers ≤ q
      → (trails_grown X m e a T).heard q ≡ T.heard q
  quiet_past m m' (Put s bytes) a T q d past = refl
  quiet_past m m' (Ask s asked) a T q d past = refl
  quiet_past m m' (Turn s word) a T q d past =
      ap (λ (H : ℕ → List RecvTurn). H q) (sender_hears X m s (going m s) word a T)
  quiet_past m m' (Recv r) a T q d past =
      let low = slice_get_within m.receivers r d.receiver d.there in
      ap (λ (b : Answer). (trails_grown X m (Recv r) b T).heard q) d.answered
      ∙ answered_beside r q d.heard T.heard (λ same. omega (arith, same))
  quiet_past m m' (Stop s) a T q d past = refl
  quiet_past m m' (Gone r) a T q d past = refl

module _ {S : Type 0} (X : Election (Elector S)) (P : Protocol S Bool Verdict)
    (old new : Machine (Elector S)) where
  pub sizes_stay : (e : Event) (a : Answer) → Happens X old e a new → HasSizes P old
      → HasSizes P new
  sizes_stay e a d z =
      let i = event_reuse X old new e a d in
      record {
        senders = z.senders;
        rounds = z.rounds;
        rows = z.rows;
        capacity = z.capacity;
        passers = z.passers;
        batch = z.batch;
        layout = i.0 ∙ z.layout;
        served = z.served;
        some = subst (λ (x : Layout). 0 < x.capacity) (sym i.0) z.some;
        reuse = subst HasRows (sym i.1) z.reuse;
        many =
            same_senders X old new e a d ∙ z.many ∙ sym (ap (λ (x : Layout). x.senders) i.0);
        words =
            same_words X old new e a d ∙ z.words
            ∙ sym (ap (λ (x : Layout). log_place x old.reuse + x.capacity) i.0)
            ∙ sym (ap (λ (o : Option ℕ). log_place new.layout o + new.layout.capacity) i.1);
      }

  -- what was published since is copied from its cells
  published : (h : Kept) (T U : Trails) → HasSizes P new → h.capacity ≡ new.layout.capacity
      → h.log ≡ T.log → ShowsPublished new T.log U.log
      → h.log
      ++ words_in_ring (slice_index new.words) (length new.words - h.capacity) h.capacity
      (length h.log) (slice_index new.words 0 - length h.log) ≡ U.log
  published h T U z capacity log shows =
      let words : ℕ → ℕ = slice_index new.words in
      let place : length new.words - h.capacity ≡ log_place new.layout new.reuse =
      let size = z.words in omega arith in
      ap (λ (l : List ℕ). l ++ words_in_ring words (length new.words - h.capacity) h.capacity
      (length l) (words 0 - length l)) log
      ∙ ap (λ (p : ℕ). T.log ++ words_in_ring words p h.capacity (length T.log)
      (words 0 - length T.log)) place
      ∙ ap (λ (c : ℕ). T.log ++ words_in_ring words (log_place new.layout new.reuse) c
      (length T.log) (words 0 - length T.log)) capacity
      ∙ sym shows.1

  -- the history has all that an event adds
  remembered : (h : Kept) (T : Trails) (taken : ℕ → Bool) (e : Event) (a : Answer)
      → Happens X old e a new → HasSizes P new → h.capacity ≡ new.layout.capacity
      → ShowsPublished new T.log (trails_grown X old e a T).log
      → HasAllOf h (length old.receivers) T taken
      → HasAllOf (kept_after new.words e a h) (length new.receivers) (trails_grown X old e a T)
      taken
  remembered h T taken (Put s bytes) a d z capacity shows k =
      carried h (length old.receivers) (length new.receivers) T
      (trails_grown X old (Put s bytes) a T) taken
      (same_receivers X old new (Put s bytes) a d) refl refl k
  remembered h T taken (Ask s asked) a d z capacity shows k =
      carried h (length old.receivers) (length new.receivers) T
      (trails_grown X old (Ask s asked) a T) taken
      (same_receivers X old new (Ask s asked) a d) refl refl k
  remembered h T taken (Turn s word) a d z capacity shows k =
      let U : Trails = trails_grown X old (Turn s word) a T in
      let heard : U.heard ≡ T.heard = sender_hears X old s (going old s) word a T in
      let many = same_receivers X old new (Turn s word) a d in
      record {
        log = published h T U z capacity k.log shows;
        many = k.many ∙ sym many;
        given = λ r lt.
            k.given r (subst (λ m. r < m) many lt)
            ∙ ap (λ (H : ℕ → List RecvTurn). Some (given_of (taken r) (H r))) (sym heard);
      }
  remembered h T taken (Recv r) a d z capacity shows k =
      subst (λ b. HasAllOf (kept_after new.words (Recv r) b h) (length new.receivers)
      (trails_grown X old (Recv r) b T) taken) (sym d.answered)
      (subst (λ n. HasAllOf (kept_after new.words (Recv r) (answer.Recv d.heard) h) n
      (trails_grown X old (Recv r) (answer.Recv d.heard) T) taken)
      (sym (same_receivers X old new (Recv r) a d))
      (heard_remembered h (length old.receivers) r d.heard T taken
      (slice_get_within old.receivers r d.receiver d.there) k))
  remembered h T taken (Stop s) a d z capacity shows k =
      carried h (length old.receivers) (length new.receivers) T T taken
      (same_receivers X old new (Stop s) a d) refl refl k
  remembered h T taken (Gone r) a d z capacity shows k =
      carried h (length old.receivers) (length new.receivers) T T taken
      (same_receivers X old new (Gone r) a d) refl refl k

  module _ (law : PublishedStands X P) (h : Kept) (T : Trails) (taken : ℕ → Bool) (e : Event)
      (a : Answer) (d : Happens X old e a new) (k : IsHistoryOf X P old h T taken) where
    sizes : HasSizes P new
    sizes = sizes_stay e a d k.sizes

    capacity_is : h.capacity ≡ new.layout.capacity
    capacity_is =
        k.capacity ∙ sym (ap (λ (x : Layout). x.capacity) (event_reuse X old new e a d).0)

    pub capacity_some : 0 < h.capacity
    capacity_some = subst (λ n. 0 < n) (sym capacity_is) sizes.some

    pub log_within : h.capacity < length new.words
    log_within =
        let behind = log_behind new.layout new.reuse in
        let size = sizes.words in
        let is = capacity_is in omega arith

    pub receiver_there : AsksOne e (length h.given)
    receiver_there =
        subst (AsksOne e) (sym k.remembers.many) (asks_one X old new e a d)

    pub holds_on :
        IsHistoryOf X P new (kept_after new.words e a h) (trails_grown X old e a T) taken
    holds_on =
        let z = k.sizes in
        record {
          reached = Then old new T e a k.reached d;
          sizes = sizes;
          capacity = kept_capacity new.words e a h ∙ capacity_is;
          remembers = remembered h T taken e a d sizes capacity_is
              (law z.senders z.rounds z.rows z.capacity z.passers z.batch z.served old T z.layout
              z.reuse
              k.reached e a new d) k.remembers;
        }
