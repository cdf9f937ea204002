-- Every event keeps the bus lawful, and a lawful bus keeps its promises.
use Rattle.std.proofs.Common.{◌≡◌, ◌≢◌, ℕ, zero, suc, ◌+◌, ◌<◌, ◌≤◌, Bool, true, false, cond, ◌&&◌}
use Rattle.std.proofs.Common.{◌==◌, nat_lt, nat_le, Option, Some, None, ◌⊎◌, inl, inr, List, []}
use Rattle.std.proofs.Common.{◌∷◌, ◌++◌, length, map, take, slice_get, slice_index, slice_set}
use Rattle.std.proofs.Common.{arith, refl, sym, ◌∙◌, ap, subst, append_assoc}
use Rattle.std.specs.Prelude.{All}
use Rattle.std.proofs.lemmas.Bool.{and_parts, cases_eq, cases_lt}
use Rattle.std.proofs.lemmas.Bool.Decides.{eqb_tells}
use Rattle.std.proofs.lemmas.List.{append-nil, length-append, length-replicate, length-take}
use Rattle.std.proofs.Math.Nat.{mod-eq_of_lt}
use Rattle.std.proofs.Math.Seq.{take-nil}
use Rattle.std.proofs.lemmas.Option.{same_Some, slice_get_within}
use Rattle.std.proofs.lemmas.Grind.{common_steps}
use Rattle.bus_register.specs.Protocol.{Protocol, Laws}
use Rattle.bus_batch.specs.declared.batches.Phase.TheVariants.{Marking}
use Rattle.bus_batch.specs.declared.messages.Mark.{Mark}
use Rattle.bus_batch.specs.declared.messages.Item.{Item}
use Rattle.bus_batch.specs.Frames.{AreFrames, Frame, order_of, log_words, log_pieces}
use Rattle.bus_tenure.specs.Core.{Core, Election, Layout, words_of, is_empty}
use Rattle.bus_tenure.specs.Situations.{situation_of, line_of}
use Rattle.bus_tenure.specs.declared.phases.Phase.{Phase as SenderPhase}
use Rattle.bus_tenure.specs.declared.phases.Phase.TheVariants as phase
use Rattle.bus_deliverylog.specs.Orders.{of_sender}
use Rattle.bus_world.specs.Log.{AreCounted}
use Rattle.bus_world.specs.Private.Sending.{Logged, Part, Fits, Sending}
use Rattle.bus_world.proofs.Stopping.{is_there}
use Rattle.bus_world.proofs.LogLaws.{length-logged, log_words-append, index-read}
use Rattle.bus_world.proofs.ReceivingLaws.{goes_on, Receives-known, Receives-word, Receives-append}
use Rattle.bus_world.specs.Private.Receiving.{Receives, IsReceiver, IsFoundIn, NeverPasses}
use Rattle.bus_batch.specs.Reading.{HasRead}
use Rattle.bus_deliverylog.specs.declared.receiving.RecvTurn.{RecvTurn}
use Rattle.bus_deliverylog.specs.Receiving.{Receiving, LogReading, HasReceived, reading_of}
use Rattle.bus_deliverylog.specs.Receiving.{passing_due, with_leave}
use Rattle.bus_deliverylog.proofs.ReceiveLaws.{no_due}
use Rattle.bus_ownerbits.specs.OneOwner.{OneOwner}
use Rattle.bus_world.proofs.Beginning as beginning
use Rattle.bus_world.specs.World.{IsLayout, Event, Put, Ask, Turn, Recv, Stop, Gone, recv_found}
use Rattle.bus_world.specs.World.{RecvStep, RecvDoes, first_page}
use Rattle.bus_world.specs.Private.Machines.{Side, side_after, going, IsEvent, Happens, SenderDoes}
use Rattle.bus_world.specs.Private.Machines.{ReceiverDoes, LeaverDoes, Bus, is_open, can_put}
use Rattle.bus_world.specs.Private.Machines.{can_close, put_in, mark_in, with_sender, IsNew}
use Rattle.bus_world.proofs.TurningLaws.{IsSide, side_of}
use Rattle.bus_world.proofs.TurningLaws as turning
use Rattle.bus_world.proofs.PutLaws as puts
use Rattle.bus_world.proofs.Accepting as accepting
use Rattle.bus_world.proofs.Accepting.{Accepted, Puts, Asks, accept, AreAccepted, not_busy}
use Rattle.bus_world.proofs.Accepting.{idle_rests}
use Rattle.bus_tenure.specs.declared.phases.Reason.{Reason}
use Rattle.bus_register.specs.Private.TableLaws.{get_set_same, get_set_other}
use Rattle.bus_world.specs.Private.Invariants.{LawfulBus}
use Rattle.bus_world.proofs.Waiting.{with_frame, frames_after, frames_by, event_frames}
use Rattle.bus_world.proofs.Waiting.{accepted_by, accepted, waiting_at, put_by, waiting_of}

-- ---- numbers
pub counted_at : (first : ℕ) (items : List Item) (k : ℕ) (i : Item) → AreCounted first items
    → slice_get items k ≡ Some i → i.number ≡ first + k
counted_at first [] k i a e = absurd cc
counted_at first (x ∷ items) zero i a e = grind (arith, common_steps, same_Some)
counted_at first (x ∷ items) (suc k) i a e =
    counted_at (first + 1) items k i a.1 e
    ∙ (let z : first + 1 + k ≡ first + suc k = omega arith in z)

same_side : {base : ℕ → ℕ} {E : Type 0} (P : Protocol E (Unit {0}) ℕ) (x : Layout)
    (frames : List Frame) (side side' : Side E) → side' ≡ side → IsSide base P x side frames
    → IsSide base P x side' frames
same_side {base} P x frames side side' e h = subst (λ z. IsSide base P x z frames) (sym e) h

module _ {E : Type 0} (X : Election E) (P : Protocol E (Unit {0}) ℕ)
    (laws : Laws X.op X.fed P OneOwner) (x : Layout) (ok : IsLayout x)
    (width : x.width ≡ P.width x.senders)
    (starts : (n me at : ℕ) → X.started n me x.rounds at ≡ P.started n me tt at)
    (owner_is : (e : E) → X.owner e ≡ P.output e) where
  module _ {base : ℕ → ℕ} (side : Side E) (frames : List Frame) (h : IsSide base P x side frames)
      (p : ℕ) (c : Core E) (old : slice_get side.senders p ≡ Some c) where
    -- what it accepts keeps what the senders keep
    accept_lawful : (a : Accepted) → AreAccepted (a ∷ [])
        → IsSide base P x (with_sender side p (accept c a)) frames
    accept_lawful a each = record {
      words = h.words;
      sending = accepting.grows X P laws x ok width (slice_index side.words) side.home side.owners
          frames p (a ∷ []) each (slice_get side.senders) h.sending c old
          (slice_get (slice_set side.senders p (accept c a)))
          (get_set_other side.senders p (accept c a))
          (get_set_same side.senders p (accept c a) (slice_get_within side.senders p c old));
    }

-- ---- receivers
-- of frames whose words are so many, by the number that it finds
module _ (n : ℕ) (frames : List Frame) (len : ℕ) (lawful : AreFrames n frames)
    (size : length (log_words frames) ≡ len) (v : Receiving) (senders : v.frames.senders ≡ n)
    (h : Receives n frames len v.place v.known v.frames) where
  pub received : HasReceived (take v.place (log_words frames)) (take v.place (log_pieces frames))
      (reading_of v)
  received = grind (arith, common_steps, take, length-take)

  module _ (got : ℕ) (found : IsFoundIn frames len v got) (answer : RecvTurn) (next : Receiving)
      (step : RecvStep v got answer next) where
    as_before : next.place ≡ v.place → next.known ≡ v.known → next.frames ≡ v.frames
        → Receives n frames len next.place next.known next.frames
    as_before p k f = grind (arith, common_steps)

    unmoved : next ≡ v → Receives n frames len next.place next.known next.frames
    unmoved e = as_before (ap (λ (z : Receiving). z.place) e) (ap (λ (z : Receiving). z.known) e)
        (ap (λ (z : Receiving). z.frames) e)

    at_length : passing_due v ≡ None → v.place ≡ v.known
        → Receives n frames len next.place next.known next.frames
    at_length none e =
        let t = step.at_length none e in
        let got_is = found.0 e in
        elim (cases_lt v.known got) [
          | inl more ↦ elim (cases_lt (v.log_words + v.passed) got) [
            | inl beyond ↦ unmoved (t.beyond more beyond).1
            | inr within ↦ grind (arith, common_steps, Receives-known)
          ]
          | inr past ↦ unmoved (t.same (let a = h.known_below in omega arith)).1
        ]

    at_word : passing_due v ≡ None → v.place ≢ v.known
        → Receives n frames len next.place next.known next.frames
    at_word none ne =
        let more : v.place < v.known = let a = h.place_below in omega arith in
        let word_is : slice_index (log_words frames) v.place ≡ got = sym (found.1 ne) in
        elim (step.at_word none ne (take v.place (log_words frames))
        (take v.place (log_pieces frames)) received) [
          | inl bad ↦ grind (arith, common_steps, take, goes_on)
          | inr good ↦
              let senders_now : next.frames.senders ≡ n = step.senders ∙ senders in
              subst (λ z. Receives n frames len z next.known next.frames)
              (sym (ap (λ (z : LogReading). z.place) good.new_is))
              (subst (λ z. Receives n frames len (v.place + 1) z next.frames)
              (sym (ap (λ (z : LogReading). z.known) good.new_is))
              (Receives-word n frames len v.place v.known v.frames h lawful size more got word_is
              good.found next.frames
              (subst (λ z. HasRead z (take v.place (log_words frames) ++ got ∷ [])
              (take v.place (log_pieces frames) ++ good.found ∷ []) next.frames) senders_now
              good.received.read)))
        ]

    reads_step : (o : Option ℕ) → passing_due v ≡ o
        → Receives n frames len next.place next.known next.frames
    reads_step None none = grind (arith, common_steps, cases_eq, at_length, at_word)
    reads_step (Some at) due = grind (arith, common_steps, as_before)

  -- its place never falls
  pub place_rises : (got : ℕ) (answer : RecvTurn) (next : Receiving) → RecvStep v got answer next
      → v.place ≤ next.place
  place_rises got answer next step = by_due (passing_due v) refl
    where
      moved_on : (n : Receiving) → next ≡ n → v.place ≤ n.place → v.place ≤ next.place
      moved_on n e le = (let a = ap (λ (w : Receiving). w.place) e in omega arith)

      at_known : passing_due v ≡ None → v.place ≡ v.known → v.place ≤ next.place
      at_known none e = grind (arith, common_steps, cases_lt, moved_on, cases_eq)

      by_due : (o : Option ℕ) → passing_due v ≡ o → v.place ≤ next.place
      by_due None none = elim (cases_eq v.place v.known) [
        | inl e ↦ at_known none e
        | inr ne ↦ elim (step.at_word none ne (take v.place (log_words frames))
            (take v.place (log_pieces frames)) received) [
              | inl bad ↦ (let a = ap (λ (w : LogReading). w.place) bad.2 in omega arith)
              | inr good ↦ (let a = ap (λ (w : LogReading). w.place) good.new_is in omega arith)
            ]
      ]
      by_due (Some at) due =
          moved_on (record v { passed = v.place }) (step.at_passed at due).1 (omega arith)

  -- a turn of a receiver
  pub reads_more : (words : ℕ → ℕ) → IsFoundIn frames len v (recv_found words v)
      → (answer : RecvTurn) (next : Receiving) → RecvDoes words v answer next
      → (next.frames.senders ≡ n) × Receives n frames len next.place next.known next.frames
  reads_more words found answer next does = by_end v.ended refl
    where
      by_end : (q : Bool) → v.ended ≡ q
          → (next.frames.senders ≡ n) × Receives n frames len next.place next.known next.frames
      by_end true e = grind (arith, common_steps)
      by_end false e = let step = does.going e in (
        step.senders ∙ senders,
        reads_step (recv_found words v) found answer next step (passing_due v) refl,
      )

-- the words of a receiver stay where they are, and it leaves by no turn
pub words_stay : (words : ℕ → ℕ) (v next : Receiving) (answer : RecvTurn)
    → RecvDoes words v answer next
    → (next.log_at ≡ v.log_at) × (next.length_at ≡ v.length_at) × (next.log_words ≡ v.log_words)
    × (next.passed_at ≡ v.passed_at) × (next.gone ≡ v.gone)
words_stay words v next answer does = grind (arith, common_steps)

pub never_more : (words : ℕ → ℕ) (v next : Receiving) (answer : RecvTurn)
    → RecvDoes words v answer next → NeverPasses v → NeverPasses next
never_more words v next answer does h = grind (arith, common_steps, words_stay, no_due)

-- one that has left for good is what it was else
pub never_left : (v : Receiving) → NeverPasses v → NeverPasses (with_leave v)
never_left v h = record { never = h.never; unpassed = h.unpassed }

pub receiver_left : (x : Layout) (frames : List Frame) (len : ℕ) (v : Receiving)
    → IsReceiver x frames len v → IsReceiver x frames len (with_leave v)
receiver_left x frames len v h = assumption

-- what is so of each in a list stays so of each, where one is another of which it is so
pub set_each : {A : Type 0} (xs : List A) (r : ℕ) (v now : A) → slice_get xs r ≡ Some v
    → (Q : ℕ → A → Type 0) → ((q : ℕ) (w : A) → slice_get xs q ≡ Some w → Q q w) → Q r now
    → (q : ℕ) (w : A) → slice_get (slice_set xs r now) q ≡ Some w → Q q w
set_each xs r v now there Q each own q w e = elim (cases_eq q r) [
  | inl j ↦
      grind (arith, common_steps, same_Some, get_set_same, slice_get_within, slice_get, slice_set)
  | inr ne ↦ each q w (sym (get_set_other xs r now q ne) ∙ e)
]

-- of a log that is not used again: what a load finds stands at its place
module _ {base : ℕ → ℕ} (x : Layout) (flat : x.passers ≡ 0) (frames : List Frame) (words : ℕ → ℕ)
    (log : Logged base x words (words 0) frames) (v : Receiving)
    (h : IsReceiver x frames (words 0) v) where
  pub found_flat : IsFoundIn frames (words 0) v (recv_found words v)
  found_flat = grind (arith, common_steps, eqb_tells, mod-eq_of_lt, index-read, slice_index)

  pub receiver_more : (answer : RecvTurn) (next : Receiving) → RecvDoes words v answer next
      → IsReceiver x frames (words 0) next
  receiver_more answer next does =
      let reads = reads_more x.senders frames (words 0) log.lawful (length-logged log) v h.senders
      h.receives words found_flat answer next does in
      grind (arith, common_steps, words_stay)

-- receivers, where the log has grown
module _ {base : ℕ → ℕ} (x : Layout) (frames : List Frame) (words words' : ℕ → ℕ)
    (log : Logged base x words (words 0) frames) where
  same_len : (log' : Logged base x words' (words' 0) frames) → words' 0 ≡ words 0
  same_len log' = sym (length-logged log') ∙ length-logged log

  receiver_stays : (log' : Logged base x words' (words' 0) frames) (v : Receiving)
      → IsReceiver x frames (words 0) v → IsReceiver x frames (words' 0) v
  receiver_stays log' v h = subst (λ z. IsReceiver x frames z v) (sym (same_len log')) h

  receiver_follows : (f : Frame) (log' : Logged base x words' (words' 0) (frames ++ f ∷ []))
      (v : Receiving) → IsReceiver x frames (words 0) v
      → IsReceiver x (frames ++ f ∷ []) (words' 0) v
  receiver_follows f log' v h =
      let size = length-logged log in
      let size' = length-logged log' in
      grind (arith, common_steps, length, log_words-append, length-append, Receives-append)

-- a turn publishes at most one frame
one_or_none : (more : Option Frame) (frames : List Frame)
    → (with_frame more frames ≡ frames)
    ⊎ ((f : Frame) × (with_frame more frames ≡ frames ++ f ∷ []))
one_or_none None frames = inl refl
one_or_none (Some f) frames = inr (f, refl)

lawful_of : {base : ℕ → ℕ} {E : Type 0} {P : Protocol E (Unit {0}) ℕ} {x : Layout} {b : Bus E}
    {frames : List Frame} → IsSide base P x b.side frames
    → ((r : ℕ) (v : Receiving) → slice_get b.receivers r ≡ Some v
    → IsReceiver x frames (slice_index b.side.words 0) v)
    → ((r : ℕ) (v : Receiving) → slice_get b.receivers r ≡ Some v → NeverPasses v)
    → LawfulBus base P x b frames
lawful_of side receiving never = assumption

-- the frames of one bus begin those of the other
pub record Continues (frames frames' : List Frame) : Type 0 where
  pub more : List Frame
  pub together : frames ++ more ≡ frames'

module _ {E : Type 0} (X : Election E) (P : Protocol E (Unit {0}) ℕ)
    (laws : Laws X.op X.fed P OneOwner) (x : Layout) (ok : IsLayout x)
    (width : x.width ≡ P.width x.senders)
    (starts : (n me at : ℕ) → X.started n me x.rounds at ≡ P.started n me tt at)
    (owner_is : (e : E) → X.owner e ≡ P.output e) (flat : x.passers ≡ 0) where
  -- what an event leaves: a lawful bus, whose log continues the one before
  pub record Left (base : ℕ → ℕ) (frames : List Frame) (b : Bus E) : Type 0 where
    pub frames_now : List Frame
    pub lawful : LawfulBus base P x b frames_now
    pub continues : Continues frames frames_now

  -- what one event leaves, with the frames that it says
  pub record After (base : ℕ → ℕ) (frames target : List Frame) (b : Bus E) : Type 0 where
    pub left : Left base frames b
    pub now_is : left.frames_now ≡ target

  module _ {base : ℕ → ℕ} (b : Bus E) (frames : List Frame) (h : LawfulBus base P x b frames)
      (b' : Bus E) where
    -- the receivers are the same, and so is the log
    quiet : IsSide base P x b'.side frames → b'.receivers ≡ b.receivers → Left base frames b'
    quiet side same = record {
      frames_now = frames;
      lawful = lawful_of side (λ r v e. receiver_stays x frames (slice_index b.side.words)
          (slice_index b'.side.words) h.keeps.sending.log side.sending.log v
          (h.keeps.receiving r v (ap (λ z. slice_get z r) (sym same) ∙ e)))
          (λ r v e. h.keeps.never r v (ap (λ z. slice_get z r) (sym same) ∙ e));
      continues = record { more = []; together = append-nil frames };
    }

    longer : (f : Frame) → IsSide base P x b'.side (frames ++ f ∷ []) → b'.receivers ≡ b.receivers
        → Left base frames b'
    longer f side same = record {
      frames_now = frames ++ f ∷ [];
      lawful = lawful_of side (λ r v e. receiver_follows x frames (slice_index b.side.words)
          (slice_index b'.side.words) h.keeps.sending.log f side.sending.log v
          (h.keeps.receiving r v (ap (λ z. slice_get z r) (sym same) ∙ e)))
          (λ r v e. h.keeps.never r v (ap (λ z. slice_get z r) (sym same) ∙ e));
      continues = record { more = f ∷ []; together = refl };
    }

    put_left : (s : ℕ) (bytes : List ℕ) → All (λ byte. byte < 256) bytes → (o : Option (Core E))
        → going b s ≡ o → SenderDoes b.side o (λ c. with_sender b.side s (put_in c bytes)) b'.side
        → b'.receivers ≡ b.receivers → After base frames frames b'
    unfolding quiet longer
    put_left s bytes small None i d same = record {
      left = quiet (same_side P x frames b.side b'.side d (side_of h)) same;
      now_is = refl;
    }
    put_left s bytes small (Some c) i d same = record {
      left = quiet (same_side P x frames (with_sender b.side s (put_in c bytes)) b'.side d
          (accept_lawful X P laws x ok width starts owner_is b.side frames (side_of h) s c
          (is_there b s c i) (Puts bytes) (small, tt))) same;
      now_is = refl;
    }

    mark_left : (s : ℕ) (m : Mark) (o : Option (Core E)) → going b s ≡ o
        → SenderDoes b.side o (λ c. with_sender b.side s (mark_in c m)) b'.side
        → b'.receivers ≡ b.receivers → After base frames frames b'
    unfolding quiet longer
    mark_left s m None i d same = record {
      left = quiet (same_side P x frames b.side b'.side d (side_of h)) same;
      now_is = refl;
    }
    mark_left s m (Some c) i d same = record {
      left = quiet (same_side P x frames (with_sender b.side s (mark_in c m)) b'.side d
          (accept_lawful X P laws x ok width starts owner_is b.side frames (side_of h) s c
          (is_there b s c i) (Asks m) tt)) same;
      now_is = refl;
    }

    turn_left : (s word : ℕ) (o : Option (Core E)) → going b s ≡ o
        → SenderDoes b.side o (λ c. side_after X b.side s c (situation_of X c) word) b'.side
        → b'.receivers ≡ b.receivers → After base frames (frames_by X o frames) b'
    unfolding quiet longer
    turn_left s word None i d same = record {
      left = quiet (same_side P x frames b.side b'.side d (side_of h)) same;
      now_is = refl;
    }
    turn_left s word (Some c) i d same =
        let side = subst (λ z. IsSide base P x z (frames_after X c (situation_of X c) frames))
        (sym d) (turning.turn_lawful X P laws x ok width starts owner_is flat b.side frames
        (side_of h) s c (is_there b s c i) word) in
        elim (one_or_none (line_of X c (situation_of X c)).publishes frames) [
          | inl e ↦ record {
            left = quiet (subst (IsSide base P x b'.side) e side) same;
            now_is = sym e;
          }
          | inr f ↦ record {
            left = longer f.0 (subst (IsSide base P x b'.side) f.1 side) same;
            now_is = sym f.1;
          }
        ]

    recv_left : (r : ℕ) (o : Option Receiving) → slice_get b.receivers r ≡ o → b'.side ≡ b.side
        → ReceiverDoes b.side.words b.receivers r o b'.receivers → After base frames frames b'
    unfolding quiet longer
    recv_left r None i d rs = record {
      left = quiet (same_side P x frames b.side b'.side d (side_of h)) rs;
      now_is = refl;
    }
    recv_left r (Some v) i d rs =
        let words = slice_index b.side.words in
        let log = h.keeps.sending.log in
        let own = h.keeps.receiving r v i in
        let next_is = receiver_more x flat frames words log v own rs.1 rs.0 rs.2 in
        record {
          now_is = refl;
          left = record {
            frames_now = frames;
            lawful = lawful_of {b = b'} (same_side P x frames b.side b'.side d (side_of h))
                (λ q w e. subst (λ z. IsReceiver x frames (slice_index z.words 0) w) (sym d)
                (elim (cases_eq q r) [
                  | inl j ↦ subst (IsReceiver x frames (words 0))
                      (same_Some _ _
                      (sym (get_set_same b.receivers r rs.0 (slice_get_within b.receivers r v i))
                      ∙ ap (λ z. slice_get z r) (sym rs.3) ∙ ap (slice_get b'.receivers) (sym j)
                      ∙ e)) next_is
                  | inr ne ↦ h.keeps.receiving q w
                      (sym (get_set_other b.receivers r rs.0 q ne)
                      ∙ ap (λ z. slice_get z q) (sym rs.3) ∙ e)
                ]))
                (λ q w e. elim (cases_eq q r) [
                  | inl j ↦ subst NeverPasses
                      (same_Some _ _
                      (sym (get_set_same b.receivers r rs.0 (slice_get_within b.receivers r v i))
                      ∙ ap (λ z. slice_get z r) (sym rs.3) ∙ ap (slice_get b'.receivers) (sym j)
                      ∙ e)) (never_more words v rs.0 rs.1 rs.2 (h.keeps.never r v i))
                  | inr ne ↦ h.keeps.never q w
                      (sym (get_set_other b.receivers r rs.0 q ne)
                      ∙ ap (λ z. slice_get z q) (sym rs.3) ∙ e)
                ]);
            continues = record { more = []; together = append-nil frames };
          };
        }

    leaves_left : (r : ℕ) (o : Option Receiving) → slice_get b.receivers r ≡ o → b'.side ≡ b.side
        → LeaverDoes b.receivers r o b'.receivers → After base frames frames b'
    unfolding quiet longer
    leaves_left r None i d rs = record {
      left = quiet (same_side P x frames b.side b'.side d (side_of h)) rs;
      now_is = refl;
    }
    leaves_left r (Some v) i d rs =
        let len = slice_index b.side.words 0 in
        record {
          now_is = refl;
          left = record {
            frames_now = frames;
            lawful = lawful_of {b = b'} (same_side P x frames b.side b'.side d (side_of h))
                (λ q w e. subst (λ z. IsReceiver x frames (slice_index z.words 0) w) (sym d)
                (set_each b.receivers r v (with_leave v) i (λ n u. IsReceiver x frames len u)
                h.keeps.receiving (receiver_left x frames len v (h.keeps.receiving r v i)) q w
                (ap (λ z. slice_get z q) (sym rs) ∙ e)))
                (λ q w e. set_each b.receivers r v (with_leave v) i (λ n u. NeverPasses u)
                h.keeps.never (never_left v (h.keeps.never r v i)) q w
                (ap (λ z. slice_get z q) (sym rs) ∙ e));
            continues = record { more = []; together = append-nil frames };
          };
        }

    stop_left : b'.side ≡ b.side → b'.receivers ≡ b.receivers → After base frames frames b'
    unfolding quiet
    stop_left d same = record {
      left = quiet (same_side P x frames b.side b'.side d (side_of h)) same;
      now_is = refl;
    }

    -- whatever happens next
    pub event_left : (e : Event) → IsEvent e → Happens X b e b'
        → After base frames (event_frames X b e frames) b'
    event_left (Put s bytes) is d = put_left s bytes is (going b s) refl d.0 d.1
    event_left (Ask s m) is d = mark_left s m (going b s) refl d.0 d.1
    event_left (Turn s word) is d = turn_left s word (going b s) refl d.0 d.1
    event_left (Recv r) is d = recv_left r (slice_get b.receivers r) refl d.0 d.1
    event_left (Stop s) is d = stop_left d.0 d.1
    event_left (Gone r) is d = leaves_left r (slice_get b.receivers r) refl d.0 d.1

    -- ---- what it puts
    bus_same : b'.side ≡ b.side → (fs : List Frame) (q : ℕ) → put_by b' fs q ≡ put_by b fs q
    bus_same d fs q = ap (λ z.
        map (λ i. i.message) (of_sender q (order_of fs)) ++ waiting_of (slice_get z.senders q)) d

    -- a sender that is another, or has another batch
    module _ (s : ℕ) (c c' : Core E) (old : slice_get b.side.senders s ≡ Some c)
        (now : b'.side.senders ≡ slice_set b.side.senders s c') (more : List (List ℕ))
        (waits : waiting_of (Some c') ≡ waiting_of (Some c) ++ more) where
      at_sender : put_by b' frames s ≡ put_by b frames s ++ more
      at_sender =
          grind (arith, map, waiting_of, slice_get, get_set_same, slice_get_within, append_assoc)

      at_other : (q : ℕ) → q ≢ s → put_by b' frames q ≡ put_by b frames q
      at_other q ne = grind (arith, common_steps, map, waiting_of, slice_get, get_set_other)

    put_waits : (c : Core E) (bytes : List ℕ)
        → Fits base (slice_index b.side.words) frames c c.phase
        → waiting_of (Some (put_in c bytes))
        ≡ waiting_of (Some c) ++ cond (can_put c.queue (length bytes)) (bytes ∷ []) []
    put_waits c bytes fits = by_test (can_put c.queue (length bytes)) refl
      where
        by_test : (t : Bool) → can_put c.queue (length bytes) ≡ t
            → waiting_of
            (Some (cond t
            (record c { queue = record c.queue { messages = c.queue.messages ++ bytes ∷ [] } }) c))
            ≡ waiting_of (Some c) ++ cond t (bytes ∷ []) []
        by_test false e = sym (append-nil (waiting_of (Some c)))
        by_test true e =
            let tests =
            (and_parts (is_open c.queue.phase) (cond c.queue.busy false true
            && (nat_le (length bytes) 56 && nat_lt (length c.queue.messages) c.queue.limit)) e).1 in
            let idle = not_busy c.queue.busy (and_parts (cond c.queue.busy false true)
            (nat_le (length bytes) 56 && nat_lt (length c.queue.messages) c.queue.limit) tests).0 in
            grind (arith, common_steps, idle_rests, slice_index, waiting_at)

    mark_waits : (c : Core E) (m : Mark) → Fits base (slice_index b.side.words) frames c c.phase
        → waiting_of (Some (mark_in c m)) ≡ waiting_of (Some c) ++ []
    mark_waits c m fits = by_test (can_close c.queue) refl
      where
        by_test : (t : Bool) → can_close c.queue ≡ t
            → waiting_of
            (Some (cond t (record c { queue = record c.queue { phase = Marking m } }) c))
            ≡ waiting_of (Some c) ++ []
        by_test false e = sym (append-nil (waiting_of (Some c)))
        by_test true e =
            let tests =
            (and_parts (is_open c.queue.phase)
            (cond c.queue.busy false true && is_empty c.queue.messages) e).1 in
            let idle = not_busy c.queue.busy
            (and_parts (cond c.queue.busy false true) (is_empty c.queue.messages) tests).0 in
            grind (arith, common_steps, idle_rests, slice_index, waiting_at, append-nil, waiting_of)

    own_part : (s : ℕ) (c : Core E) → slice_get b.side.senders s ≡ Some c
        → Part base x (slice_index b.side.words) frames s c
    own_part s c i = h.keeps.sending.parts s c i

    put_puts : (s : ℕ) (bytes : List ℕ) (o : Option (Core E)) → going b s ≡ o
        → SenderDoes b.side o (λ c. with_sender b.side s (put_in c bytes)) b'.side → (q : ℕ)
        → put_by b' frames q ≡ put_by b frames q ++ cond (q == s) (accepted_by o bytes) []
    put_puts s bytes None i d q = grind (arith, common_steps, bus_same, append-nil, put_by)
    put_puts s bytes (Some c) i d q = elim (eqb_tells q s) [
      | inl y ↦ subst (λ z.
          put_by b' frames z ≡ put_by b frames z ++ cond (q == s) (accepted_by (Some c) bytes) [])
          (sym y.1) (at_sender s c (put_in c bytes) (is_there b s c i)
          (ap (λ (z : Side E). z.senders) d) (accepted_by (Some c) bytes)
          (put_waits c bytes (own_part s c (is_there b s c i)).fits)
          ∙ ap (λ t. put_by b frames s ++ cond t (accepted_by (Some c) bytes) []) (sym y.0))
      | inr y ↦
          at_other s c (put_in c bytes) (is_there b s c i) (ap (λ (z : Side E). z.senders) d)
          (accepted_by (Some c) bytes) (put_waits c bytes (own_part s c (is_there b s c i)).fits) q
          y.1 ∙ sym (append-nil (put_by b frames q))
          ∙ ap (λ t. put_by b frames q ++ cond t (accepted_by (Some c) bytes) []) (sym y.0)
    ]

    mark_puts : (s : ℕ) (m : Mark) (o : Option (Core E)) → going b s ≡ o
        → SenderDoes b.side o (λ c. with_sender b.side s (mark_in c m)) b'.side → (q : ℕ)
        → put_by b' frames q ≡ put_by b frames q ++ []
    mark_puts s m None i d q = bus_same d frames q ∙ sym (append-nil (put_by b frames q))
    mark_puts s m (Some c) i d q = elim (cases_eq q s) [
      | inl y ↦ subst (λ z. put_by b' frames z ≡ put_by b frames z ++ []) (sym y)
          (at_sender s c (mark_in c m) (is_there b s c i) (ap (λ (z : Side E). z.senders) d) []
          (mark_waits c m (own_part s c (is_there b s c i)).fits))
      | inr ne ↦
          at_other s c (mark_in c m) (is_there b s c i) (ap (λ (z : Side E). z.senders) d) []
          (mark_waits c m (own_part s c (is_there b s c i)).fits) q ne
          ∙ sym (append-nil (put_by b frames q))
    ]

    never_giving : (c : Core E) (ph : SenderPhase E) → c.phase ≡ ph
        → Fits base (slice_index b.side.words) frames c ph → (t : ℕ) (reason : Reason)
        → ph ≡ phase.Giving t reason → ⊥
    never_giving c ph e fits t reason g =
        subst (Fits base (slice_index b.side.words) frames c) g fits

    turn_event_puts : (s word : ℕ) (o : Option (Core E)) → going b s ≡ o
        → SenderDoes b.side o (λ c. side_after X b.side s c (situation_of X c) word) b'.side
        → (q : ℕ) → put_by b' (frames_by X o frames) q ≡ put_by b frames q ++ []
    turn_event_puts s word None i d q = bus_same d frames q ∙ sym (append-nil (put_by b frames q))
    turn_event_puts s word (Some c) i d q =
        let part = own_part s c (is_there b s c i) in
        ap (λ (z : Side E).
        map (λ (v : Item). v.message)
        (of_sender q (order_of (frames_after X c (situation_of X c) frames)))
        ++ waiting_of (slice_get z.senders q)) d
        ∙ puts.turn_puts X b.side frames s c (is_there b s c i) part.queue part.sender word
        (λ t reason g. never_giving c c.phase refl part.fits t reason g) q
        ∙ sym (append-nil (put_by b frames q))

    pub event_puts : (e : Event) → Happens X b e b' → (q : ℕ)
        → put_by b' (event_frames X b e frames) q ≡ put_by b frames q ++ accepted b e q
    event_puts (Put s bytes) d q = put_puts s bytes (going b s) refl d.0 q
    event_puts (Ask s m) d q = mark_puts s m (going b s) refl d.0 q
    event_puts (Turn s word) d q = turn_event_puts s word (going b s) refl d.0 q
    event_puts (Recv r) d q = bus_same d.0 frames q ∙ sym (append-nil (put_by b frames q))
    event_puts (Stop s) d q = bus_same d.0 frames q ∙ sym (append-nil (put_by b frames q))
    event_puts (Gone r) d q = bus_same d.0 frames q ∙ sym (append-nil (put_by b frames q))

  -- ---- a new bus is lawful
  module _ (bases : List ℕ) (b : Bus E) (new : IsNew bases x b) where
    new_sending : Sending (slice_index bases) P x (slice_index b.side.words) b.side.home
        (slice_get b.side.senders) b.side.owners []
    new_sending = subst (λ z. Sending (slice_index bases) P x (slice_index b.side.words) z
        (slice_get b.side.senders) b.side.owners []) (sym new.home)
        (subst (λ z. Sending (slice_index bases) P x (slice_index b.side.words)
        (Some (first_page bases)) (slice_get b.side.senders) z []) (sym new.owners)
        (beginning.new_sending X P laws x ok bases new.bases_are
        (beginning.flat_low x bases flat new.bases_are) (slice_index b.side.words)
        (beginning.words_zero b new) (slice_get b.side.senders) new.senders))

    pub new_is_lawful : LawfulBus (slice_index bases) P x b []
    new_is_lawful = lawful_of (record {
      words = ap length new.words ∙ length-replicate (words_of x) 0;
      sending = new_sending;
    }) (λ r v e.
        let n = new.receivers r v e in
        let none : take v.place (log_words []) ≡ [] = take-nil v.place in
        record {
          senders = n.senders_are;
          log = n.log_is;
          len_at = n.length_is;
          log_words = n.words_are;
          receives = grind (arith, common_steps, take);
        }) (λ r v e. let n = new.receivers r v e in record {
          never = n.passed_is;
          unpassed = n.unpassed;
        })
