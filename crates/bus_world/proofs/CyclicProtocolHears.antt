-- Receivers of a bus whose rows are used again are as those of one that has a row for each tenure,
-- whose log lies elsewhere.
use Rattle.std.proofs.Common.{◌≡◌, ℕ, ◌+◌, ◌%◌, ◌<◌, cond, Option, Some, None, inl}
use Rattle.std.proofs.Common.{inr, List, [], ◌∷◌, ◌++◌, length, take, slice_index, arith, refl, sym}
use Rattle.std.proofs.Common.{◌∙◌, ap, subst}
use Rattle.std.proofs.lemmas.Bool.{true≢false}
use Rattle.std.proofs.lemmas.Bool.Decides.{eqb_tells}
use Rattle.std.proofs.lemmas.List.{append-nil, length-append}
use Rattle.std.proofs.lemmas.Option.{same_Some}
use Rattle.std.proofs.lemmas.Grind.{common_steps}
use Rattle.bus_register.specs.Tables.{put}
use Rattle.bus_register.specs.Private.TableLaws.{put_here, put_beside}
use Rattle.bus_batch.specs.Frames.{Frame, log_words, frame_words}
use Rattle.bus_deliverylog.specs.Receiving.{Receiving, with_leave}
use Rattle.bus_deliverylog.specs.declared.receiving.RecvTurn.{RecvTurn}
use Rattle.bus_tenure.specs.Core.{Layout, log_at}
use Rattle.bus_core.specs.Reusing.Participants.{log_from}
use Rattle.bus_world.specs.Private.Sending.{Logged}
use Rattle.bus_world.specs.Private.Receiving.{IsReceiver, IsFoundIn}
use Rattle.bus_world.specs.Floors.{passed_of}
use Rattle.bus_world.specs.Private.CyclicProtocols.{fork_of}
use Rattle.bus_world.specs.Starting.{IsNewReceiver}
use Rattle.bus_world.specs.World.{RecvDoes, recv_found}
use Rattle.bus_world.specs.Trails.{answers_with, answers_joined, no_answers}
use Rattle.bus_world.proofs.HearTrails.{IsTold, hears_later, hears_more, told_later, each_joined}
use Rattle.bus_world.proofs.HearTrails.{silent_joined, who_was_told}
use Rattle.bus_world.proofs.LogLaws.{length-logged, log_words-append, index-read}
use Rattle.bus_world.proofs.ReceivingLaws.{Receives-append}
use Rattle.bus_world.proofs.Tying.{Hears, WasTold}
use Rattle.bus_world.proofs.WorldLaws.{reads_more, words_stay}

-- the receiver of a log that lies behind a row for each tenure
abbrev pub placed : Layout → Receiving → Receiving
placed x v = record v { log_at = log_at x }

-- it has read the log as far as its place, and has been told what stands there
pub record HearsCyclic (x : Layout) (rows : ℕ) (frames : List Frame) (v : Receiving)
    (trail : List RecvTurn) : Type 0 where
  pub log : v.log_at ≡ log_from x rows
  pub own : IsReceiver x frames (length (log_words frames)) (placed x v)
  pub hears : Hears frames (placed x v) trail

-- each receiver has read, and was told; and who is none was told so once
pub record AllHear (x : Layout) (rows : ℕ) (receivers : ℕ → Option Receiving) (frames : List Frame)
    (H : ℕ → List RecvTurn) : Type 0 where
  pub each : (r : ℕ) (v : Receiving) → receivers r ≡ Some v → HearsCyclic x rows frames v (H r)
  pub silent : (r : ℕ) → receivers r ≡ None → WasTold frames (H r)

-- ---- a receiver that has read nothing
new_hears : (x : Layout) (rows : ℕ) (passed_at : Option ℕ) (v : Receiving)
    → IsNewReceiver x.senders (log_from x rows) x.capacity passed_at v → HearsCyclic x rows [] v []
new_hears x rows passed_at v new = grind (arith, common_steps, take, true≢false)

pub all_new : (x : Layout) (rows : ℕ) (receivers : ℕ → Option Receiving)
    → ((r : ℕ) (v : Receiving) → receivers r ≡ Some v
    → IsNewReceiver x.senders (log_from x rows) x.capacity (passed_of x rows r) v)
    → AllHear x rows receivers [] no_answers
all_new x rows receivers new = record {
  each = λ r v e. new_hears x rows (passed_of x rows r) v (new r v e);
  silent = λ r e. inl refl;
}

-- ---- a log that has grown
hears_after : (x : Layout) (rows : ℕ) (frames : List Frame) (f : Frame) (v : Receiving)
    (trail : List RecvTurn) → HearsCyclic x rows frames v trail
    → HearsCyclic x rows (frames ++ f ∷ []) v trail
hears_after x rows frames f v trail h =
    let more =
    ap length (log_words-append frames f) ∙ length-append (log_words frames) (frame_words f) in
    grind (arith, common_steps, Receives-append, length, hears_later)

pub all_after : (x : Layout) (rows : ℕ) (receivers : ℕ → Option Receiving) (frames : List Frame)
    (f : Frame) (H : ℕ → List RecvTurn) → AllHear x rows receivers frames H
    → AllHear x rows receivers (frames ++ f ∷ []) H
all_after x rows receivers frames f H h = record {
  each = λ r v e. hears_after x rows frames f v (H r) (h.each r v e);
  silent = λ r e. told_later frames (f ∷ []) (H r) (h.silent r e);
}

-- ---- a turn
-- where its log lies changes nothing of what it hears
hears_at : (frames : List Frame) (v : Receiving) (trail : List RecvTurn) (at : ℕ)
    → Hears frames v trail → Hears frames (record v { log_at = at }) trail
hears_at frames v trail at h = assumption

-- words in whose log, which lies elsewhere, a place below the length has its word
module _ {base : ℕ → ℕ} (x : Layout) (rows : ℕ) (frames : List Frame) (W V : ℕ → ℕ)
    (log : Logged base x V (V 0) frames) (first : W 0 ≡ V 0)
    (v : Receiving)
    (there : v.place < V 0
    → W (log_from x rows + v.place % x.capacity) ≡ V (log_at x + v.place))
    (trail : List RecvTurn) (h : HearsCyclic x rows frames v trail) (answer : RecvTurn)
    (next : Receiving) where
  own : IsReceiver x frames (V 0) (placed x v)
  own = subst (λ k. IsReceiver x frames k (placed x v)) (length-logged log) h.own

  found_cyclic : IsFoundIn frames (V 0) v (recv_found W v)
  found_cyclic = grind (arith, common_steps, eqb_tells, own, index-read, slice_index)

  pub turn_hears : RecvDoes W v answer next → HearsCyclic x rows frames next (trail ++ answer ∷ [])
  turn_hears d =
      let reads = reads_more x.senders frames (V 0) log.lawful (length-logged log) v own.senders
      own.receives W found_cyclic answer next d in
      let same = words_stay W v next answer d in
      record {
        log = same.0 ∙ h.log;
        own = subst (λ k. IsReceiver x frames k (placed x next)) (sym (length-logged log)) record {
          senders = reads.0;
          log = refl;
          len_at = same.1 ∙ h.own.len_at;
          log_words = same.2 ∙ h.own.log_words;
          receives = reads.1;
        };
        hears = hears_at frames next (trail ++ answer ∷ []) (log_at x)
            (hears_more x.senders frames (V 0) log.lawful (length-logged log) v own.senders
            own.receives trail (hears_at frames (placed x v) trail v.log_at h.hears) answer next W
            found_cyclic d);
      }

-- a turn of receiver r
pub one_hears : (x : Layout) (rows : ℕ) (frames : List Frame) (receivers : ℕ → Option Receiving)
    (H : ℕ → List RecvTurn) → AllHear x rows receivers frames H
    → (r : ℕ) (v next : Receiving) (answer : RecvTurn) → receivers r ≡ Some v
    → (HearsCyclic x rows frames v (H r) → HearsCyclic x rows frames next (H r ++ answer ∷ []))
    → AllHear x rows (put r (Some next) receivers) frames (answers_with r answer H)
one_hears x rows frames receivers H h r v next answer at turns = record {
  each = λ q w e. elim (eqb_tells q r) [
    | inl y ↦
        let w_is : next ≡ w = same_Some _ _
        (sym (ap (put r (Some next) receivers) y.1 ∙ put_here r (Some next) receivers) ∙ e) in
        let now = turns (h.each r v at) in
        subst (λ t. HearsCyclic x rows frames w (H q ++ cond t (answer ∷ []) [])) (sym y.0)
        (subst (λ s. HearsCyclic x rows frames w (H s ++ answer ∷ [])) (sym y.1)
        (subst (λ s. HearsCyclic x rows frames s (H r ++ answer ∷ [])) w_is now))
    | inr y ↦ subst (λ t. HearsCyclic x rows frames w (H q ++ cond t (answer ∷ []) [])) (sym y.0)
        (subst (HearsCyclic x rows frames w) (sym (append-nil (H q)))
        (h.each q w (sym (put_beside r (Some next) receivers q y.1) ∙ e)))
  ];
  silent = λ q e. grind (arith, common_steps, eqb_tells, put_here, append-nil, put_beside);
}

-- ---- receiver r leaves for good
left_hears : (x : Layout) (rows : ℕ) (frames : List Frame) (v : Receiving) (trail : List RecvTurn)
    → HearsCyclic x rows frames v trail → HearsCyclic x rows frames (with_leave v) trail
left_hears x rows frames v trail h = assumption

pub one_leaves : (x : Layout) (rows : ℕ) (frames : List Frame) (receivers : ℕ → Option Receiving)
    (H : ℕ → List RecvTurn) → AllHear x rows receivers frames H
    → (r : ℕ) (v : Receiving) → receivers r ≡ Some v
    → AllHear x rows (put r (Some (with_leave v)) receivers) frames H
one_leaves x rows frames receivers H h r v at = record {
  each = λ q w e. elim (eqb_tells q r) [
    | inl y ↦
        let w_is : with_leave v ≡ w = same_Some _ _
        (sym (ap left y.1 ∙ put_here r (Some (with_leave v)) receivers) ∙ e) in
        subst (λ s. HearsCyclic x rows frames w (H s)) (sym y.1)
        (subst (λ s. HearsCyclic x rows frames s (H r)) w_is
        (left_hears x rows frames v (H r) (h.each r v at)))
    | inr y ↦ h.each q w (sym (put_beside r (Some (with_leave v)) receivers q y.1) ∙ e)
  ];
  silent = λ q e. grind (arith, common_steps, eqb_tells, left, put_here, put_beside);
} where
  left : ℕ → Option Receiving
  left = put r (Some (with_leave v)) receivers

-- ---- a receiver joins with the number j
-- as one that has read this and was told this, and what the one before it was told goes to n
pub one_joins : (x : Layout) (rows : ℕ) (frames : List Frame) (receivers : ℕ → Option Receiving)
    (H : ℕ → List RecvTurn) → AllHear x rows receivers frames H
    → (j n : ℕ) (next w : Receiving) (before : List RecvTurn) → receivers j ≡ Some w
    → receivers n ≡ None → HearsCyclic x rows frames next before
    → AllHear x rows (put j (Some next) receivers) frames (answers_joined before j n H)
one_joins x rows frames receivers H h j n next w before was nobody joins =
    let here = put_here j (Some next) receivers in
    let beside = put_beside j (Some next) receivers in
    let all = put j (Some next) receivers in
    record {
      each = each_joined (HearsCyclic x rows frames) (WasTold frames) receivers all H h.each
          h.silent j n next here beside nobody before joins;
      silent = silent_joined (HearsCyclic x rows frames) (WasTold frames) receivers all H h.each
          h.silent j n next here beside nobody before (was_told (h.each j w was));
    } where
      was_told : HearsCyclic x rows frames w (H j) → WasTold frames (H j)
      was_told h = grind (arith)

-- by a fork it was told what that receiver was told
pub forked_hears : (x : Layout) (rows : ℕ) (frames : List Frame) (j : ℕ) (v : Receiving)
    (trail : List RecvTurn) → HearsCyclic x rows frames v trail
    → HearsCyclic x rows frames (fork_of x rows j v) trail
forked_hears x rows frames j v trail h = assumption

-- ---- as it is told of each
pub told_in : (x : Layout) (rows : ℕ) (receivers : ℕ → Option Receiving) (frames : List Frame)
    (H : ℕ → List RecvTurn) → AllHear x rows receivers frames H → (r : ℕ)
    → (o : Option Receiving) × IsTold frames o (H r)
told_in x rows receivers frames H h r = by_some (receivers r) refl
  where
    by_some : (o : Option Receiving) → receivers r ≡ o
        → (o : Option Receiving) × IsTold frames o (H r)
    by_some None e = who_was_told frames (H r) (h.silent r e)
    by_some (Some v) e = (Some (placed x v), (h.each r v e).hears)
