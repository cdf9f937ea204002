-- Every event keeps what ties the trails to the bus, and the promise follows from it.
use Rattle.std.proofs.Common.{◌≡◌, ℕ, ◌+◌, ◌*◌, ◌<◌, Bool, true, false, cond, ◌==◌, nat_lt, nat_le}
use Rattle.std.proofs.Common.{Option, Some, None, is_some, inl, inr, List, [], ◌∷◌, ◌++◌, length}
use Rattle.std.proofs.Common.{map, take, slice_get, slice_index, slice_set, arith, refl, sym, ◌∙◌}
use Rattle.std.proofs.Common.{ap, subst}
use mathlib.Core.Path.{fun_ext}
use Rattle.std.proofs.lemmas.Bool.Decides.{eqb_tells}
use Rattle.std.proofs.lemmas.Grind.{flat_map-append, common_steps}
use Rattle.std.proofs.lemmas.List.{append-nil, length-append, length-map, take_at, take-append-le}
use Rattle.std.proofs.Math.Seq.{take-nil}
use Rattle.std.proofs.lemmas.Option.{same_Some, slice_get_within, none-some}
use Rattle.bus_register.specs.declared.kinds.Kind.{Kind}
use Rattle.bus_register.specs.declared.kinds.Kind.TheVariants as kind
use Rattle.bus_register.specs.Protocol.{Protocol, Laws, inputs, outputs}
use Rattle.bus_register.specs.declared.registers.SenderNo.{SenderNo}
use Rattle.bus_batch.specs.declared.messages.Item.{Item}
use Rattle.bus_batch.specs.Batches.{next_of}
use Rattle.bus_batch.specs.declared.batches.Phase.TheVariants.{Marking}
use Rattle.bus_batch.specs.declared.messages.Mark.{Mark}
use Rattle.bus_batch.specs.declared.messages.Mark.TheVariants as mark
use Rattle.bus_batch.specs.Frames.{Frame, Leaves, log_words, log_pieces, order_of, owners_in}
use Rattle.bus_batch.specs.Frames.{order_in, tenure_and_owner}
use Rattle.bus_deliverylog.specs.Orders.{of_sender}
use Rattle.bus_deliverylog.specs.Receiving.{Receiving}
use Rattle.bus_tenure.specs.Core.{Core, Election, Layout}
use Rattle.bus_tenure.specs.Situations.{situation_of, line_of, op_at, answer_at}
use Rattle.bus_tenure.specs.declared.turns.Turn.{Turn as Answered}
use Rattle.bus_tenure.specs.declared.phases.Phase.TheVariants as phase
use Rattle.bus_ownerbits.specs.OneOwner.{OneOwner}
use Rattle.bus_ownerbits.specs.ElectionKeeps.{begun_at}
use Rattle.bus_ownerbits.proofs.ElectionSteps.{row_within}
use Rattle.bus_ownerbits.specs.declared.stages.Stage.{Stage}
use Rattle.bus_ownerbits.specs.declared.stages.Stage.TheVariants as stage
use Rattle.bus_ownerbits.specs.Election.{kind_at as election_kind_at}
use Rattle.bus_tenure.specs.declared.phases.Phase.{Phase as SenderPhase}
use Rattle.bus_batch.specs.Batches.{Pending, CanPut}
use Rattle.std.proofs.lemmas.List.{map-append}
use Rattle.std.proofs.lemmas.Bool.Decides.{nat_tests}
use Rattle.std.proofs.lemmas.Bool.{le-leb}
use Rattle.bus_world.specs.World.{IsLayout, Event, Put, Ask, Turn, Recv, Stop, Gone}
use Rattle.bus_world.specs.Private.Sending.{Fits}
use Rattle.bus_world.proofs.FrameOwners.{owner_took, rise}
use Rattle.bus_world.proofs.Beginning.{words_zero}
use Rattle.bus_world.proofs.BusLaws as bus
use Rattle.bus_world.specs.Headline.{Action, HasPut, HasMarked, Stepped, puts, Took, Asked}
use Rattle.bus_world.specs.Headline.{Promises}
use Rattle.bus_world.specs.Log.{words_of_frame}
use Rattle.bus_world.proofs.LogLaws.{log_words-append}
use Rattle.bus_world.specs.Private.Machines.{Side, side_after, core_after, Bus, going, IsEvent}
use Rattle.bus_world.specs.Private.Machines.{Happens, SenderDoes, with_sender, can_put, can_close}
use Rattle.bus_world.specs.Private.Machines.{put_in, mark_in, IsNew}
use Rattle.bus_world.specs.Turning.{number_found}
use Rattle.bus_world.proofs.TurningLaws.{side_of}
use Rattle.bus_world.proofs.WorldLaws.{counted_at, event_left, event_puts, new_is_lawful}
use Rattle.bus_world.proofs.WorldLaws.{set_each}
use Rattle.bus_world.specs.Private.Answers.{Answers, PutGives, CloseGives, TurnAnswers}
use Rattle.bus_world.specs.Playing.{asked_answer}
use Rattle.bus_world.specs.declared.events.Answer.{Answer}
use Rattle.bus_world.specs.declared.events.Answer.TheVariants as answer
use Rattle.bus_world.specs.Private.Trails.{Trails, no_trails, trails_grown, actions_of}
use Rattle.bus_world.specs.Private.Trails.{turning_actions, IsPromisedBy}
use Rattle.bus_world.specs.Private.Trails.{Reached, log_by, event_log}
use Rattle.bus_world.specs.Trails.{put_actions, mark_actions, step_action, answers_joined}
use Rattle.bus_world.specs.Private.Trails.Reached.{New, Then, Copied}
use Rattle.bus_world.specs.Private.Invariants.{LawfulBus}
use Rattle.bus_world.specs.Private.Receiving.{IsReceiver, NeverPasses}
use Rattle.bus_world.proofs.EventHears.{Heard, event_heard, copied_heard}
use Rattle.bus_world.proofs.Stopping.{is_there}
use Rattle.bus_world.proofs.Waiting.{with_frame, frames_after, put_by, waiting_of, waiting_at}
use Rattle.bus_world.proofs.Waiting.{accepted, accepted_by, event_frames, frames_by}
use Rattle.bus_world.proofs.Tying.{AreNumbered, Tied}
use Rattle.bus_world.proofs.Places.{got_split, none_in, only_one}
use Rattle.bus_world.proofs.TableTrails.{plain_put, plain_mark}
use Rattle.bus_world.proofs.TurnTrails.{Ties, turn_ties, batch_ties}
use Rattle.bus_world.proofs.HearTrails.{IsTold, delivered_to, heads_to, silent_to, who_was_told}
use Rattle.bus_world.proofs.Asking.{Askings, still_asked, askings_after, one_waits, frames_later}
use Rattle.bus_world.proofs.Asking.{own_asked, own_asks, turn_waiting, turn_frames, open_no_marking}
use Rattle.bus_world.proofs.PutLaws.{nothing_left}
use Rattle.bus_world.proofs.Framing.{framed, entry_of, has_left, gone_for_good, last_frame}

pub same_number : (n m : ℕ) (xs ys : List ℕ) → HasPut n xs ≡ HasPut m ys → n ≡ m
same_number n m xs ys e = cc

pub marked_apart : (m : Mark) (n : ℕ) (bytes : List ℕ) → HasMarked m ≡ HasPut n bytes → ⊥
marked_apart m n bytes e = cc

-- what a close or a leave that is taken adds
pub mark_adds : (m : Mark) → mark_actions (asked_answer m) ≡ HasMarked m ∷ []
mark_adds mark.End = refl
mark_adds mark.Leave = refl

pub stepped_apart :
    (tn : Option ℕ) (k : Kind) (got : ℕ) (ch : Option ℕ) (t : Answered) (n : ℕ) (bytes : List ℕ)
    → Stepped tn k got ch t ≡ HasPut n bytes → ⊥
stepped_apart tn k got ch t n bytes e = cc

pub numbered_more : (first : ℕ) (xs ds : List Action) → AreNumbered first xs
    → ((j n : ℕ) (bytes : List ℕ) → slice_get ds j ≡ Some (HasPut n bytes)
    → (j ≡ 0) × (n ≡ first + length (puts xs))) → AreNumbered first (xs ++ ds)
numbered_more first xs ds h more place number bytes e =
    grind (arith, common_steps, got_split, length, take-append-le, slice_get_within, take_at)

-- ---- what an event puts
pub step_puts : (k : Option Kind) (tn : Option ℕ) (got : ℕ) (ch : Option ℕ) (a : Answered)
    → puts (step_action k tn got ch a) ≡ []
step_puts None tn got ch a = refl
step_puts (Some k) tn got ch a = refl

below_most : (len most : ℕ) → len < most → nat_lt len most ≡ true
below_most len most l = grind (arith, nat_tests)

pub put_taken : (q : Pending) (len : ℕ) → CanPut q len → can_put q len ≡ true
put_taken q len can = grind (arith, common_steps, nat_le, nat_lt, length, le-leb, below_most)

-- the words of a frame that joins the others
words_with : (o : Option Frame) (frames : List Frame)
    → log_words (with_frame o frames) ≡ log_words frames ++ words_of_frame o
words_with None frames = sym (append-nil (log_words frames))
words_with (Some f) frames = log_words-append frames f

module _ {E : Type 0} (X : Election E) where
  put_puts_at : (t : Bool) (o : Option (Core E)) (bytes : List ℕ) (n : ℕ)
      → PutGives o (length bytes) n
      → puts (cond t (HasPut n bytes ∷ []) []) ≡ cond t (accepted_by o bytes) []
  put_puts_at t None bytes n gives = absurd gives
  put_puts_at false (Some c) bytes n gives = refl
  put_puts_at true (Some c) bytes n gives =
      ap (λ b. cond b (bytes ∷ []) []) (sym (put_taken c.queue (length bytes) gives.0))

  mark_puts_at : (m : Mark) (t : Bool) → puts (cond t (HasMarked m ∷ []) []) ≡ []
  mark_puts_at m true = refl
  mark_puts_at m false = refl

  turn_puts_at : (t : Bool) (words : List ℕ) (o : Option (Core E)) (word : ℕ) (a : Answer)
      → TurnAnswers X words o word a → puts (cond t (turning_actions X words o word a) []) ≡ []
  turn_puts_at t words None word a told = absurd told
  turn_puts_at false words (Some c) word a told = refl
  turn_puts_at true words (Some c) word a told = grind (arith, common_steps, step_puts)

  actions_put : (b : Bus E) (e : Event) (a : Answer) (b' : Bus E) (q : ℕ) → Answers X b e a b'
      → puts (actions_of X b e a q) ≡ accepted b e q
  actions_put b (Put s bytes) a b' q w = grind (arith, common_steps, put_puts_at)
  actions_put b (Ask s m) a b' q w = grind (arith, common_steps, mark_adds, mark_puts_at)
  actions_put b (Turn s word) a b' q w = turn_puts_at (q == s) b.side.words (going b s) word a w
  actions_put b (Recv r) a b' q w = refl
  actions_put b (Stop s) a b' q w = refl
  actions_put b (Gone r) a b' q w = refl

module _ (bases : List ℕ) {E : Type 0} (X : Election E) (P : Protocol E (Unit {0}) ℕ)
    (laws : Laws X.op X.fed P OneOwner) (x : Layout) (ok : IsLayout x)
    (width : x.width ≡ P.width x.senders)
    (starts : (n me at : ℕ) → X.started n me x.rounds at ≡ P.started n me tt at)
    (owner_is : (e : E) → X.owner e ≡ P.output e)
    (named : (e : E) (word : ℕ) → is_some (X.kind_of e) ≡ is_some (X.op e word))
    (announces : (e : E) → P.has_begun e ≡ false → X.kind_of e ≡ Some kind.Announce)
    (apart : (e : E) → X.kind_of e ≡ Some kind.TakePage → ⊥) (flat : x.passers ≡ 0) where
  -- ---- the senders' side
  module _ (b b' : Bus E) (frames : List Frame) (h : LawfulBus (slice_index bases) P x b frames)
      (D : ℕ → List Action) (T : Ties P x b.side D) where
    put_ties : (s : ℕ) (bytes : List ℕ) (o : Option (Core E)) → going b s ≡ o
        → SenderDoes b.side o (λ c. with_sender b.side s (put_in c bytes)) b'.side → (n : ℕ)
        → PutGives o (length bytes) n
        → Ties P x b'.side (λ q. D q ++ cond (q == s) (HasPut n bytes ∷ []) [])
    put_ties s bytes None i d n gives = absurd gives
    put_ties s bytes (Some c) i d n gives = subst
        (λ z. Ties P x z (λ q. D q ++ cond (q == s) (HasPut n bytes ∷ []) [])) (sym d)
        (by_test (can_put c.queue (length bytes)))
      where
        by_test : (t : Bool)
            → Ties P x (with_sender b.side s (cond t
            (record c { queue = record c.queue { messages = c.queue.messages ++ bytes ∷ [] } }) c))
            (λ q. D q ++ cond (q == s) (HasPut n bytes ∷ []) [])
        by_test true = batch_ties X P laws x ok width starts owner_is named announces apart flat
            b.side frames (side_of h) s c (is_there b s c i) 0 D T
            (record c { queue = record c.queue { messages = c.queue.messages ++ bytes ∷ [] } })
            (HasPut n bytes ∷ []) refl refl (plain_put n bytes)
        by_test false = batch_ties X P laws x ok width starts owner_is named announces apart flat
            b.side frames (side_of h) s c (is_there b s c i) 0 D T c (HasPut n bytes ∷ []) refl refl
            (plain_put n bytes)

    mark_ties : (s : ℕ) (m : Mark) (o : Option (Core E)) → going b s ≡ o
        → SenderDoes b.side o (λ c. with_sender b.side s (mark_in c m)) b'.side → CloseGives o
        → Ties P x b'.side (λ q. D q ++ cond (q == s) (HasMarked m ∷ []) [])
    mark_ties s m None i d gives = absurd gives
    mark_ties s m (Some c) i d gives = subst
        (λ z. Ties P x z (λ q. D q ++ cond (q == s) (HasMarked m ∷ []) [])) (sym d)
        (by_test (can_close c.queue))
      where
        by_test : (t : Bool)
            → Ties P x (with_sender b.side s
            (cond t (record c { queue = record c.queue { phase = Marking m } }) c))
            (λ q. D q ++ cond (q == s) (HasMarked m ∷ []) [])
        by_test true = batch_ties X P laws x ok width starts owner_is named announces apart flat
            b.side frames (side_of h) s c (is_there b s c i) 0 D T
            (record c { queue = record c.queue { phase = Marking m } }) (HasMarked m ∷ []) refl refl
            (plain_mark m)
        by_test false = batch_ties X P laws x ok width starts owner_is named announces apart flat
            b.side frames (side_of h) s c (is_there b s c i) 0 D T c (HasMarked m ∷ []) refl refl
            (plain_mark m)

    turning_ties : (s word : ℕ) (o : Option (Core E)) → going b s ≡ o
        → SenderDoes b.side o (λ c. side_after X b.side s c (situation_of X c) word) b'.side
        → (a : Answer) → TurnAnswers X b.side.words o word a
        → Ties P x b'.side (λ q. D q ++ cond (q == s) (turning_actions X b.side.words o word a) [])
    turning_ties s word None i d a told = absurd told
    turning_ties s word (Some c) i d a told = subst
        (λ t. Ties P x b'.side
        (λ q. D q ++ cond (q == s) (turning_actions X b.side.words (Some c) word t) [])) (sym told)
        (subst (λ z. Ties P x z (λ q.
        D q
        ++ cond (q == s) (turning_actions X b.side.words (Some c) word
        (answer.Turn (answer_at X c (situation_of X c)
        (number_found (slice_index b.side.words) (op_at X c (situation_of X c) word)) word))) []))
        (sym d) (turn_ties X P laws x ok width starts owner_is named announces apart flat b.side
        frames (side_of h) s c (is_there b s c i) word D T))

    event_ties : (e : Event) (a : Answer) → Happens X b e b' → Answers X b e a b'
        → Ties P x b'.side (λ q. D q ++ actions_of X b e a q)
    event_ties (Put s bytes) a d w = subst
        (λ t. Ties P x b'.side (λ q. D q ++ cond (q == s) (put_actions bytes t) [])) (sym w.2)
        (put_ties s bytes (going b s) refl d.0 w.0 w.1)
    event_ties (Ask s m) a d w = subst (λ t. Ties P x b'.side (λ q. D q ++ cond (q == s) t []))
        (sym (ap mark_actions w.1 ∙ mark_adds m)) (mark_ties s m (going b s) refl d.0 w.0)
    event_ties (Turn s word) a d w = turning_ties s word (going b s) refl d.0 a w
    event_ties (Recv r) a d w = subst (λ z. Ties P x z (λ q. D q ++ [])) (sym d.0)
        (subst (Ties P x b.side) (sym (fun_ext (λ q. append-nil (D q)))) T)
    event_ties (Stop s) a d w = subst (λ z. Ties P x z (λ q. D q ++ [])) (sym d.0)
        (subst (Ties P x b.side) (sym (fun_ext (λ q. append-nil (D q)))) T)
    event_ties (Gone r) a d w = subst (λ z. Ties P x z (λ q. D q ++ [])) (sym d.0)
        (subst (Ties P x b.side) (sym (fun_ext (λ q. append-nil (D q)))) T)

  -- ---- who asked for a mark
  module _ (b b' : Bus E) (frames : List Frame) (h : LawfulBus (slice_index bases) P x b frames)
      (D : ℕ → List Action) (C : Askings (slice_get b.side.senders) frames D) where
    -- a sender goes on with another batch, and the frames stay
    goes_on_asking :
        (s : ℕ) (c c' : Core E) (i : slice_get b.side.senders s ≡ Some c) (ds : List Action)
        → ((m : Mark) → c'.queue.phase ≡ Marking m → Asked m (D s ++ cond (s == s) ds []))
        → b'.side.senders ≡ slice_set b.side.senders s c'
        → Askings (slice_get b'.side.senders) frames (λ q. D q ++ cond (q == s) ds [])
    goes_on_asking s c c' i ds own same =
        subst (λ z. Askings (slice_get z) frames (λ q. D q ++ cond (q == s) ds [])) (sym same)
        (askings_after b.side.senders frames D C s c i ds c' frames own
        (frames_later (slice_get b.side.senders) frames D C s c i ds))

    put_askings : (s : ℕ) (bytes : List ℕ) (o : Option (Core E)) → going b s ≡ o
        → SenderDoes b.side o (λ c. with_sender b.side s (put_in c bytes)) b'.side → (n : ℕ)
        → PutGives o (length bytes) n
        → Askings (slice_get b'.side.senders) frames
        (λ q. D q ++ cond (q == s) (HasPut n bytes ∷ []) [])
    put_askings s bytes None i d n gives = absurd gives
    put_askings s bytes (Some c) i d n gives = goes_on_asking s c (put_in c bytes)
        (is_there b s c i) (HasPut n bytes ∷ []) (λ m e. own_asked (slice_get b.side.senders) frames
        D C s c (is_there b s c i) (HasPut n bytes ∷ []) m
        (by_test m (can_put c.queue (length bytes)) e)) (ap (λ (z : Side E). z.senders) d)
      where
        by_test : (m : Mark) (t : Bool)
            → (cond t
            (record c { queue = record c.queue { messages = c.queue.messages ++ bytes ∷ [] } })
            c).queue.phase ≡ Marking m → c.queue.phase ≡ Marking m
        by_test m true e = e
        by_test m false e = e

    mark_askings : (s : ℕ) (k : Mark) (o : Option (Core E)) → going b s ≡ o
        → SenderDoes b.side o (λ c. with_sender b.side s (mark_in c k)) b'.side → CloseGives o
        → Askings (slice_get b'.side.senders) frames
        (λ q. D q ++ cond (q == s) (HasMarked k ∷ []) [])
    mark_askings s k None i d gives = absurd gives
    mark_askings s k (Some c) i d gives = goes_on_asking s c (mark_in c k) (is_there b s c i)
        (HasMarked k ∷ []) (λ m e. by_test m (can_close c.queue) e)
        (ap (λ (z : Side E). z.senders) d)
      where
        by_test : (m : Mark) (t : Bool)
            → (cond t (record c { queue = record c.queue { phase = Marking k } }) c).queue.phase
            ≡ Marking m → Asked m (D s ++ cond (s == s) (HasMarked k ∷ []) [])
        by_test m true e = own_asks (slice_get b.side.senders) frames D C s c (is_there b s c i)
            (HasMarked k ∷ []) m (one_waits k m e)
        by_test m false e = own_asked (slice_get b.side.senders) frames D C s c (is_there b s c i)
            (HasMarked k ∷ []) m e

    turn_askings : (s word : ℕ) (o : Option (Core E)) → going b s ≡ o
        → SenderDoes b.side o (λ c. side_after X b.side s c (situation_of X c) word) b'.side
        → (ds : List Action)
        → Askings (slice_get b'.side.senders) (frames_by X o frames)
        (λ q. D q ++ cond (q == s) ds [])
    turn_askings s word None i d ds = record {
      waiting = λ q c m at waits. still_asked m (D q) (cond (q == s) ds [])
          (C.waiting q c m (ap (λ (z : Side E). slice_get z.senders q) (sym d) ∙ at) waits);
      logged = λ j f m at says.
          still_asked m (D f.owner.0) (cond (f.owner.0 == s) ds []) (C.logged j f m at says);
    }
    turn_askings s word (Some c) i d ds =
        let part = h.keeps.sending.parts s c (is_there b s c i) in
        let z = situation_of X c in
        subst
        (λ l. Askings (slice_get l) (frames_after X c z frames) (λ q. D q ++ cond (q == s) ds []))
        (sym (ap (λ (l : Side E). l.senders) d))
        (askings_after b.side.senders frames D C s c (is_there b s c i) ds
        (core_after X c z b.side.home (number_found (slice_index b.side.words) (op_at X c z word))
        word) (frames_after X c z frames)
        (λ m e. own_asked (slice_get b.side.senders) frames D C s c (is_there b s c i) ds m
        (turn_waiting X c m z b.side.home
        (number_found (slice_index b.side.words) (op_at X c z word)) word e))
        (turn_frames X c z frames (λ m f. Asked m (D f.owner.0 ++ cond (f.owner.0 == s) ds []))
        (frames_later (slice_get b.side.senders) frames D C s c (is_there b s c i) ds)
        (λ t m e. subst (λ q. Asked m (D q ++ cond (q == s) ds [])) (sym part.sender)
        (own_asked (slice_get b.side.senders) frames D C s c (is_there b s c i) ds m e))))

    event_askings : (e : Event) (a : Answer) → Happens X b e b' → Answers X b e a b'
        → Askings (slice_get b'.side.senders) (event_frames X b e frames)
        (λ q. D q ++ actions_of X b e a q)
    event_askings (Put s bytes) a d w = subst (λ t. Askings (slice_get b'.side.senders) frames
        (λ q. D q ++ cond (q == s) (put_actions bytes t) [])) (sym w.2)
        (put_askings s bytes (going b s) refl d.0 w.0 w.1)
    event_askings (Ask s m) a d w = subst
        (λ t. Askings (slice_get b'.side.senders) frames (λ q. D q ++ cond (q == s) t []))
        (sym (ap mark_actions w.1 ∙ mark_adds m)) (mark_askings s m (going b s) refl d.0 w.0)
    event_askings (Turn s word) a d w =
        turn_askings s word (going b s) refl d.0 (turning_actions X b.side.words (going b s) word a)
    event_askings (Recv r) a d w = subst
        (λ z. Askings (slice_get z.senders) frames (λ q. D q ++ [])) (sym d.0)
        (subst (Askings (slice_get b.side.senders) frames) (sym (fun_ext (λ q. append-nil (D q))))
        C)
    event_askings (Stop s) a d w = subst
        (λ z. Askings (slice_get z.senders) frames (λ q. D q ++ [])) (sym d.0)
        (subst (Askings (slice_get b.side.senders) frames) (sym (fun_ext (λ q. append-nil (D q))))
        C)
    event_askings (Gone r) a d w = subst
        (λ z. Askings (slice_get z.senders) frames (λ q. D q ++ [])) (sym d.0)
        (subst (Askings (slice_get b.side.senders) frames) (sym (fun_ext (λ q. append-nil (D q))))
        C)

  -- ---- the numbers of messages
  module _ (b : Bus E) (frames : List Frame) (h : LawfulBus (slice_index bases) P x b frames) where
    busy_apart : (busy : Bool) → busy ≡ true → cond busy false true ≡ true → ⊥
    busy_apart true e f = let z : false ≡ true = f in cc
    busy_apart false e f = let z : false ≡ true = e in cc

    number_at : (s : ℕ) (c : Core E) → slice_get b.side.senders s ≡ Some c → (ph : SenderPhase E)
        → c.phase ≡ ph → Fits (slice_index bases) (slice_index b.side.words) frames c ph
        → cond c.queue.busy false true ≡ true
        → next_of c.queue ≡ slice_index bases s + length (put_by b frames s)
    number_at s c i phase.Resting e fits idle =
        let part = h.keeps.sending.parts s c i in
        let sent_now = map (λ (v : Item). v.message) (of_sender s (order_of frames)) in
        let waits : waiting_of (slice_get b.side.senders s) ≡ c.queue.messages =
        ap waiting_of i ∙ ap (waiting_at c) e in
        grind (arith, common_steps, length, put_by, length-append, length-map, slice_index)
    number_at s c i (phase.Electing t u) e fits idle =
        absurd (busy_apart c.queue.busy fits.0.busy idle)
    number_at s c i (phase.Taken t) e fits idle = absurd fits
    number_at s c i (phase.Holding t page stored true) e fits idle =
        absurd (busy_apart c.queue.busy fits.0.busy idle)
    number_at s c i (phase.Holding t page stored false) e fits idle =
        absurd (busy_apart c.queue.busy fits.0.busy idle)
    number_at s c i (phase.Giving t reason) e fits idle = absurd fits

    put_number : (s : ℕ) (o : Option (Core E)) → going b s ≡ o → (len n : ℕ) → PutGives o len n
        → n ≡ slice_index bases s + length (put_by b frames s)
    put_number s None i len n gives = absurd gives
    put_number s (Some c) i len n gives = grind (arith, number_at, is_there)

    numbers : (b' : Bus E) (e : Event) (a : Answer) → Answers X b e a b'
        → (q j n : ℕ) (bytes : List ℕ) → slice_get (actions_of X b e a q) j ≡ Some (HasPut n bytes)
        → (j ≡ 0) × (n ≡ slice_index bases q + length (put_by b frames q))
    numbers b' (Put s bytes') a w q j n bytes e = elim (eqb_tells q s) [
      | inl y ↦
          let one = only_one (HasPut w.0 bytes') j _
          (ap (λ t. slice_get (put_actions bytes' t) j) (sym w.2)
          ∙ ap (λ t. slice_get (cond t (put_actions bytes' a) []) j) (sym y.0) ∙ e) in (
            one.0,
            sym (same_number _ _ _ _ one.1)
                ∙ subst (λ z. w.0 ≡ slice_index bases z + length (put_by b frames z)) (sym y.1)
                (put_number s (going b s) refl (length bytes') w.0 w.1),
          )
      | inr y ↦ absurd
          (none_in j _ (ap (λ t. slice_get (cond t (put_actions bytes' a) []) j) (sym y.0) ∙ e))
    ]
    numbers b' (Ask s m) a w q j n bytes e =
        grind (arith, slice_get, mark_adds, marked_apart, only_one, none_in)
    numbers b' (Turn s word) a w q j n bytes e =
        grind (arith, common_steps, slice_get, none_in, stepped_apart, only_one)
    numbers b' (Recv r) a w q j n bytes e = absurd (none_in j _ e)
    numbers b' (Stop s) a w q j n bytes e = absurd (none_in j _ e)
    numbers b' (Gone r) a w q j n bytes e = absurd (none_in j _ e)

  -- ---- what is published
  words_by : (o : Option (Core E)) (frames : List Frame)
      → log_words (frames_by X o frames) ≡ log_by X o (log_words frames)
  words_by None frames = refl
  words_by (Some c) frames = words_with (line_of X c (situation_of X c)).publishes frames

  event_words : (b : Bus E) (e : Event) (frames : List Frame)
      → log_words (event_frames X b e frames) ≡ event_log X b e (log_words frames)
  event_words b (Put s bytes) frames = refl
  event_words b (Ask s m) frames = refl
  event_words b (Turn s word) frames = words_by (going b s) frames
  event_words b (Recv r) frames = refl
  event_words b (Stop s) frames = refl
  event_words b (Gone r) frames = refl

  -- ---- one event, and any list of them
  pub record Kept (b : Bus E) (T : Trails) : Type 0 where
    pub frames : List Frame
    pub lawful : LawfulBus (slice_index bases) P x b frames
    pub log_is : log_words frames ≡ T.log
    pub tied : Tied bases P x b frames T

  abbrev hears_of : (b : Bus E) (T : Trails) (k : Kept b T) → Heard k.frames b.receivers T.heard
  hears_of b T k = record { each = k.tied.heard; silent = k.tied.silent }

  -- with these frames and more
  pub record KeptOn (frames : List Frame) (b : Bus E) (T : Trails) : Type 0 where
    pub more : List Frame
    pub lawful : LawfulBus (slice_index bases) P x b (frames ++ more)
    pub log_is : log_words (frames ++ more) ≡ T.log
    pub tied : Tied bases P x b (frames ++ more) T

  event_on : (b b' : Bus E) (e : Event) (a : Answer) (T : Trails) (k : Kept b T) → IsEvent e
      → Happens X b e b' → Answers X b e a b' → KeptOn k.frames b' (trails_grown X b e a T)
  event_on b b' e a T k is d w =
      let after =
      event_left X P laws x ok width starts owner_is flat b k.frames k.lawful b' e is d in
      let more = after.left.continues.more in
      let frames_are : k.frames ++ more ≡ event_frames X b e k.frames =
      after.left.continues.together ∙ after.now_is in
      let lawful = subst (LawfulBus (slice_index bases) P x b') (sym after.left.continues.together)
      after.left.lawful in
      let t = event_ties b b' k.frames k.lawful T.actions
      record { tables = k.tied.tables; takers = k.tied.takers } e a d w in
      let heard = event_heard bases X P x flat b b' k.frames more k.lawful T.heard (hears_of b T k)
      lawful e a d w in
      record {
        more = more;
        lawful = lawful;
        log_is = ap log_words frames_are ∙ event_words b e k.frames ∙ ap (event_log X b e) k.log_is;
        tied = record {
          tables = t.tables;
          takers = t.takers;
          puts = λ s.
              flat_map-append _ (T.actions s) (actions_of X b e a s)
              ∙ ap (λ z. z ++ puts (actions_of X b e a s)) (k.tied.puts s)
              ∙ ap (λ z. put_by b k.frames s ++ z) (actions_put X b e a b' s w)
              ∙ sym (event_puts X P laws x ok width starts owner_is flat b k.frames k.lawful b' e d
              s)
              ∙ ap (λ z. put_by b' z s) (sym frames_are);
          counted = λ s. numbered_more (slice_index bases s) (T.actions s) (actions_of X b e a s)
              (k.tied.counted s) (λ j n bytes i.
              let z = numbers b k.frames k.lawful b' e a w s j n bytes i in
              (z.0, z.1 ∙ ap (λ y. slice_index bases s + length y) (sym (k.tied.puts s))));
          heard = heard.each;
          silent = heard.silent;
          askings = subst (λ z.
              Askings (slice_get b'.side.senders) z (λ q. T.actions q ++ actions_of X b e a q))
              (sym frames_are)
              (event_askings b b' k.frames k.lawful T.actions k.tied.askings e a d w);
        };
      }

  abbrev kept_of : (frames : List Frame) (b : Bus E) (T : Trails) → KeptOn frames b T → Kept b T
  kept_of frames b T k = record {
    frames = frames ++ k.more;
    lawful = k.lawful;
    log_is = k.log_is;
    tied = k.tied;
  }

  event_kept : (b b' : Bus E) (e : Event) (a : Answer) (T : Trails) → Kept b T → IsEvent e
      → Happens X b e b' → Answers X b e a b' → Kept b' (trails_grown X b e a T)
  event_kept b b' e a T k is d w =
      kept_of k.frames b' (trails_grown X b e a T) (event_on b b' e a T k is d w)

  -- ---- a receiver that is copied to another number
  copied_kept : (b : Bus E) (T : Trails) (k : Kept b T) (i j n : ℕ) (v w : Receiving)
      → slice_get b.receivers i ≡ Some v → slice_get b.receivers j ≡ Some w
      → slice_get b.receivers n ≡ None
      → Kept (record b { receivers = slice_set b.receivers j v })
      (record T { heard = answers_joined (T.heard i) j n T.heard })
  copied_kept b T k i j n v w from was nobody =
      let h = k.lawful in
      let heard = copied_heard bases X P x flat b k.frames h T.heard (hears_of b T k) i j n v w from
      was nobody in
      record {
        frames = k.frames;
        lawful = record {
          words = h.words;
          keeps = record {
            sending = h.keeps.sending;
            receiving = set_each b.receivers j w v was
                (λ q u. IsReceiver x k.frames (slice_index b.side.words 0) u) h.keeps.receiving
                (h.keeps.receiving i v from);
            never = set_each b.receivers j w v was (λ q u. NeverPasses u) h.keeps.never
                (h.keeps.never i v from);
          };
        };
        log_is = k.log_is;
        tied = grind (arith, common_steps);
      }

  -- ---- a new bus
  module _ (b : Bus E) (new : IsNew bases x b) where
    new_puts : (s : ℕ) → put_by b [] s ≡ []
    new_puts s = grind (arith, common_steps, slice_get, waiting_of)

    start_kept : Kept b no_trails
    start_kept = record {
      frames = [];
      lawful = new_is_lawful X P laws x ok width starts owner_is flat bases b new;
      log_is = refl;
      tied = record {
        tables = record {
          elections = λ t p. None;
          kept = λ t l. grind (arith, common_steps, row_within, slice_index, words_zero);
          ahead = λ p c t e l. refl;
          electing = λ p c t e i j. absurd (bus.resting_apart t e
              (sym (ap (λ (z : Core E). z.phase) (new.senders p c i).1) ∙ j));
          announced = λ t s e. absurd (none-some tt e);
          elected = λ t s o e. absurd (none-some o e);
          only_elected = λ t s o a. absurd (none_in a.place _ a.at);
        };
        takers = grind (arith, common_steps, none_in, slice_get);
        puts = λ s. sym (new_puts s);
        counted = λ s place number bytes e. absurd (none_in place _ e);
        heard = λ r v i.
            let n = new.receivers r v i in
            let nothing : take v.place (log_pieces []) ≡ [] = take-nil v.place in
            record {
              given_is = ap order_in (sym nothing);
              heads_are = ap owners_in (sym nothing);
              ended = λ e. absurd (let z = sym n.going ∙ e in cc);
              going = λ e. refl;
              silent = λ j k a e l f. absurd (none_in j _ e);
            };
        silent = λ r i. inl refl;
        askings = grind (arith, common_steps, open_no_marking, none_in);
      };
    }

  -- ---- the promise
  module _ (b : Bus E) (T : Trails) (k : Kept b T) where
    abbrev frames : List Frame
    frames = k.frames

    one : (t : ℕ) → t < x.rows
        → OneOwner (inputs P (k.tied.tables.elections t)) (outputs P (k.tied.tables.elections t))
    one t l = laws.outcome x.senders (2 + t * P.width x.senders) (slice_index b.side.words)
        (k.tied.tables.elections t) (k.tied.tables.kept t l)

    told_of : (r : ℕ) (o : Option Receiving) → slice_get b.receivers r ≡ o
        → (o : Option Receiving) × IsTold frames o (T.heard r)
    told_of r (Some v) i = (Some v, k.tied.heard r v i)
    told_of r None i = who_was_told frames (T.heard r) (k.tied.silent r i)

    told_by : (r : ℕ) → (o : Option Receiving) × IsTold frames o (T.heard r)
    told_by r = told_of r (slice_get b.receivers r) refl

    pub page : Promises (slice_index bases) T.actions T.heard (order_of frames)
        (map tenure_and_owner frames)
    page = record {
      one_owner = λ t s s' o o' e f.
          let a = k.tied.tables.only_elected t s o e in
          let d = k.tied.tables.only_elected t s' o' f in (one t a.0).equal s s' o o' a.1 d.1;
      announced = λ t s o e.
          let a = k.tied.tables.only_elected t s o e in
          k.tied.tables.announced t o ((one t a.0).announcer s o a.1);
      took_own = λ t s i a. k.tied.takers.elected t s (k.tied.takers.only t s i a);
      took_once = λ t s s' i i' a d.
          let same : s ≡ s' =
          same_Some _ _ (sym (k.tied.takers.only t s i a) ∙ k.tied.takers.only t s' i' d) in
          (same, k.tied.takers.once t s i i' a (subst (λ z. Took (T.actions z) t i') (sym same) d));
      owned = λ j t o e. k.tied.takers.took t o.0
          (owner_took b.side.owners frames k.lawful.keeps.sending.owned j t o e);
      rising = λ i j t u o p e g l.
          rise x.senders 0 frames k.lawful.keeps.sending.log.lawful i j t u o p e g l;
      delivered = λ r. delivered_to x.senders frames k.lawful.keeps.sending.log.lawful
          (told_by r).0 (T.heard r) (told_by r).1;
      told = λ r. heads_to frames (told_by r).0 (T.heard r) (told_by r).1;
      faithful = grind (arith, common_steps, counted_at, slice_index, map, waiting_of, slice_get);
      numbered = k.tied.counted;
      silent = λ r. silent_to frames (told_by r).0 (T.heard r) (told_by r).1;
      closed = λ e.
          let l = last_frame x.senders 0 frames k.lawful.keeps.sending.log.lawful e in
          record {
            front = map tenure_and_owner l.front;
            tenure = l.frame.tenure;
            owner = l.frame.owner;
            last = grind (arith, common_steps, map, map-append);
            closed = k.tied.askings.logged l.place l.frame mark.End l.at l.ends;
          };
      gone = gone_for_good x.senders 0 frames k.lawful.keeps.sending.log.lawful;
      asked = λ s q at.
          let r = entry_of frames q (Leaves s) at in
          subst (λ (z : SenderNo). Asked mark.Leave (T.actions z.0)) (sym r.own)
          (k.tied.askings.logged r.place r.frame mark.Leave r.at (r.left s refl));
      whole = λ s q at.
          let sent_now = map (λ (i : Item). i.message) (of_sender s.0 (order_of frames)) in
          let waits = nothing_left x (slice_index b.side.words) frames (slice_get b.side.senders)
          k.lawful.keeps.sending.parts s.0 (has_left frames q s at) in
          sym (k.tied.puts s.0 ∙ ap (λ z. sent_now ++ z) waits ∙ append-nil sent_now);
      framed = framed x.senders 0 frames k.lawful.keeps.sending.log.lawful;
    }

    pub by_frames : IsPromisedBy bases x b T (order_of frames) (map tenure_and_owner frames)
    by_frames = record {
      spelled = record {
        frames = frames;
        lawful = k.lawful.keeps.sending.log.lawful;
        words_are = k.log_is;
        order_is = refl;
        owners_are = refl;
      };
      few = k.lawful.keeps.sending.log.few;
      shows = k.lawful.keeps.sending.log.words_are ∙ k.log_is;
      takers = record { took = k.tied.takers.took; only = k.tied.takers.only };
      promises = page;
    }

  -- whatever trails lead to a bus, the promise holds of them
  pub reached_kept : (b : Bus E) (T : Trails) → Reached X bases x b T → Kept b T
  reached_kept b T (New start new) = start_kept start new
  reached_kept b T (Then old new T' e a r is d w) =
      event_kept old new e a T' (reached_kept old T' r) is d w
  reached_kept b T (Copied old T' i j n v w r from was nobody nothing) =
      copied_kept old T' (reached_kept old T' r) i j n v w from was nobody

-- the first step of an election is the announcement
pub announce_first : {S : Type 0} (kind_of : S → Option Kind) (stage : Stage S)
    → begun_at stage ≡ false → election_kind_at kind_of stage ≡ Some kind.Announce
announce_first kind_of stage.Announce e = refl
announce_first kind_of (stage.Propose d) e = absurd (let z : true ≡ false = e in cc)
announce_first kind_of (stage.Search i) e = absurd (let z : true ≡ false = e in cc)
announce_first kind_of stage.Alone e = absurd (let z : true ≡ false = e in cc)
