-- What words, page and senders of a machine keep by the frames of its log, of both kinds of rows.
use Rattle.std.proofs.Common.{◌≡◌, ◌≢◌, ℕ, zero, suc, ◌+◌, ◌*◌, ◌<◌, ◌≤◌, Option, Some, None}
use Rattle.std.proofs.Common.{List, ◌++◌, drop, length, map, slice_get, slice_index, ◌-◌, ◌%◌}
use Rattle.std.proofs.Common.{◌^◌, Bool, true, false, cond, inl, inr, nat_lt}
use Rattle.std.proofs.Common.{arith, refl, sym, ◌∙◌, ap, subst}
use Rattle.std.specs.Prelude.{option_map}
use Rattle.std.proofs.Math.Nat.{mod-eq_of_lt}
use Rattle.std.proofs.lemmas.Bool.{cases_lt, ltb-true}
use Rattle.std.proofs.lemmas.Option.{slice_get-map, same_Some}
use Rattle.std.proofs.lemmas.Grind.{common_steps}
use Rattle.bus_batch.proofs.FrameLaws.{spells_one}
use Rattle.bus_batch.specs.Frames.{Frame, log_words, order_of, tenure_and_owner}
use Rattle.bus_core.proofs.Situated.{own_is}
use Rattle.bus_core.specs.Reusing.Keeping.{held_of}
use Rattle.bus_core.specs.Table.{line, line_now, in_row}
use Rattle.bus_core.specs.declared.limits.TheConstants.{PASSED_APART}
use Rattle.bus_core.specs.declared.reuses.Reuse.{Reuse}
use Rattle.bus_core.specs.Senders.{Sender, Does, Clears, log_start, situation}
use Rattle.bus_core.specs.Private.Bridge.{with_a_row_each, reuse_of}
use Rattle.bus_machine.proofs.Tenures.Clearing.{clearing, spared}
use Rattle.bus_core.specs.Reusing.Participants.{log_from, passed_from, sizes_with}
use Rattle.bus_core.specs.Private.ParticipantTable.{place_for}
use Rattle.bus_core.specs.Reusing.Turns.{Participant}
use Rattle.bus_deliverylog.specs.Receiving.{Receiving}
use Rattle.bus_deliverylog.specs.Orders.{of_sender}
use Rattle.bus_deliverylog.specs.declared.receiving.RecvTurn.{RecvTurn}
use Rattle.bus_world.proofs.Waiting.{waiting_of}
use Rattle.bus_world.specs.Headline.{puts, order_given, Promises}
use Rattle.bus_world.specs.Waiting.{waiting_at}
use Rattle.bus_presence.specs.Reclaimers.{Reclaiming}
use Rattle.bus_presence.specs.Reclamation.{ReclamationSizes, row_of}
use Rattle.bus_presence.proofs.ReclaimerLaws.{keeps as reclamation_keeps}
use Rattle.bus_presence.proofs.RowLaws.{alive_pinned}
use Rattle.bus_presence.specs.Standing.{Stands}
use Rattle.bus_register.specs.Protocol.{Protocol}
use Rattle.bus_register.specs.declared.limits.TheConstants.{PASSED_ALL}
use Rattle.bus_register.specs.Words.{register}
use Rattle.bus_register.specs.declared.registers.Op.{Op}
use Rattle.bus_register.specs.declared.registers.Op.TheVariants.{Store}
use Rattle.bus_tenure.proofs.Situated.{tells}
use Rattle.bus_tenure.specs.Situations.{Elects}
use Rattle.bus_tenure.specs.declared.pages.Page.{Page}
use Rattle.bus_tenure.specs.declared.phases.Phase.TheVariants.{Electing, Holding}
use Rattle.bus_tenure.specs.Core.{Core, Election, Layout, log_at, row_at}
use Rattle.bus_world.proofs.EventTrails as plain
use Rattle.bus_world.proofs.PlacedSteps.{same_register}
use Rattle.bus_world.proofs.CyclicProtocolHears.{placed}
use Rattle.bus_world.proofs.Bounds.{words_low}
use Rattle.bus_world.proofs.FloorLaws.{boundary_first, lesser_is}
use Rattle.bus_world.proofs.LogLaws.{index-read, length-logged}
use Rattle.bus_world.proofs.ReceiverSteps.{found_length, found_word}
use Rattle.bus_world.proofs.RingLaws.{ring_shows, ring_straight, shown_is}
use Rattle.bus_world.proofs.RingWords.{found_there}
use Rattle.bus_world.proofs.Serving.{Serves}
use Rattle.bus_world.proofs.Tying.{Hears}
use Rattle.bus_world.proofs.CyclicProtocolKept.{HasKept}
use Rattle.bus_world.proofs.CyclicProtocolLaws.{protocol_promised}
use Rattle.bus_world.specs.World.{IsLayout}
use Rattle.bus_world.specs.Floors.{IsBoundary, IsPasser, ShowsRing, passed_place}
use Rattle.bus_world.specs.Private.Sending.{Sending, Fits}
use Rattle.bus_world.specs.Log.{KeepsFloor, floor_shown, least_passed, words_in_ring}
use Rattle.bus_world.specs.Log.{words_read_from}
use Rattle.bus_world.specs.Private.Trails.{Reached as PlainReached, IsPromisedBy as PlainPromised}
use Rattle.bus_world.specs.Trails.{Takers}
use Rattle.bus_world.specs.Private.Machines.{Bus}
use Rattle.bus_world.specs.Private.Receiving.{IsReceiver}
use Rattle.bus_world.specs.Private.CyclicProtocols.{CyclicProtocol}
use Rattle.bus_world.specs.Private.Invariants.{given_at}
use Rattle.bus_world.specs.Private.KeptProtocols.{IsKeptProtocol}
use Rattle.bus_machine.proofs.Bases.AtNone.{flat_at_none, made_there, passed_first, reached_at_none}
use Rattle.bus_machine.proofs.Bases.CyclicTurns.{protocol_kept}
use Rattle.bus_machine.proofs.Bases.Leading.{Sits, two_rows, led_some}
use Rattle.bus_machine.specs.Private.Bridge.{of_bus, plain_trails, core_in, passing_in}
use Rattle.bus_machine.specs.Private.Bridge.{protocol_of, IsLed}
use Rattle.bus_machine.specs.Machine.{base_of, Machine, Trails, Reached, log_place}
use Rattle.bus_machine.specs.Machine.{FindsWords, ShowsLog, floor_of, log_of, passers_place}
use Rattle.bus_machine.specs.Machine.{stage_of, passed_by, ShowsPassed, StandsBelow}
use Rattle.bus_machine.specs.Promise.{IsPageOf, ReusesRows, ReusesSafely}
use Rattle.bus_machine.specs.Remembering.{rows_in}

-- The frames, over words V that stand where a bus with a row for each tenure has them.
pub record IsFramed {E : Type 0} (P : Protocol E (Unit {0}) ℕ) (m : Machine E) (T : Trails) :
    Type 0 where
  pub V : ℕ → ℕ
  pub frames : List Frame
  pub cores : ℕ → Option (Core E)
  pub owners : List ℕ
  pub room : length m.words ≡ log_place m.layout m.reuse + m.layout.capacity
  -- from a floor on each word of the log stands in its cell; each page has that floor, and it is
  -- not past that of the log, where a frame begins
  pub floor : ℕ
  pub flat : m.layout.passers ≡ 0 → floor ≡ 0
  pub low : floor ≤ floor_of m
  pub floored_home : (page : Page) → m.home ≡ Some page → page.floor ≡ floor
  pub floored : (p : ℕ) (v : Sender E) (t : ℕ) (page : Page) (stored : ℕ) (published : Bool)
      → slice_get m.senders p ≡ Some v → v.core.phase ≡ Holding t page stored published
      → page.floor ≡ floor
  pub finds : (place : ℕ) → floor ≤ place → place < V 0
      → slice_index m.words (log_place m.layout m.reuse + place % m.layout.capacity)
      ≡ V (log_at m.layout + place)
  pub edge : IsBoundary frames (floor_of m)
  -- it is not past what a receiver has passed, nor what a holder has loaded
  pub passed : (r : ℕ) → r < m.layout.passers
      → floor ≤ slice_index m.words (passers_place m.layout m.reuse + PASSED_APART * r)
  pub least : (p : ℕ) (v : Sender E) (r : Reuse) (t : ℕ) → slice_get m.senders p ≡ Some v
      → v.reuse ≡ Some r → held_of v.core.phase ≡ Some t → floor ≤ r.passed.least
  pub sending : Sending (base_of m) P m.layout V m.home cores owners frames
  pub core_of : (p : ℕ) (v : Sender E) → slice_get m.senders p ≡ Some v → cores p ≡ Some v.core
  pub sender_of : (p : ℕ) (c : Core E) → cores p ≡ Some c
      → (v : Sender E) × (slice_get m.senders p ≡ Some v) × (v.core ≡ c)
  pub starts : (p : ℕ) (v : Sender E) → slice_get m.senders p ≡ Some v
      → log_start m.layout v.reuse ≡ log_place m.layout m.reuse
  pub rows : (p : ℕ) (v : Sender E) → slice_get m.senders p ≡ Some v → rows_in v.reuse ≡ m.reuse
  pub puts : (p : ℕ) (v : Sender E) → slice_get m.senders p ≡ Some v
      → puts (T.actions p)
      ≡ map (λ i. i.message) (of_sender p (order_of frames)) ++ waiting_at v.core v.core.phase
  -- they are all that was published, and the cells of the log show that
  pub log_is : log_words frames ≡ T.log
  pub stands : ShowsLog m T.log
  pub length : slice_index m.words 0 ≡ V 0
  pub stage : stage_of m ≡ V 1
  -- a step of an election finds in the row of its tenure what it would find with a row for each
  -- tenure
  pub found : (p t : ℕ) (v : Sender E) (e : E) (o q : Op) → slice_get m.senders p ≡ Some v
      → v.core.phase ≡ Electing t e → t < m.layout.rows
      → row_at m.layout t ≤ register o → register o < row_at m.layout t + m.layout.width
      → in_row m.layout v.reuse t (Some o) ≡ Some q
      → slice_index m.words (register q) ≡ V (register o)
  -- a receiver has read the log as far as its place, and was given what stands below it; its passed
  -- place is a word, and one that has not left has passed the floor
  pub reads : (r : ℕ) (v : Receiving) → slice_get m.receivers r ≡ Some v
      → (v.log_at ≡ log_place m.layout m.reuse)
      × IsReceiver m.layout frames (V 0) (placed m.layout v)
      × ((at : ℕ) → v.passed_at ≡ Some at → at < log_place m.layout m.reuse)
      × (v.gone ≡ false → floor_of m ≤ v.place)
  -- and shows what it has passed, or that it has left
  pub passes : ShowsPassed m
  -- of one that has not left: no place past its own, and one where a frame begins
  pub heard : (r : ℕ) (v : Receiving) (at : ℕ) → slice_get m.receivers r ≡ Some v
      → passed_by m.layout m.reuse r ≡ Some at → v.gone ≡ false
      → (slice_index m.words at ≤ v.place) × IsBoundary frames (slice_index m.words at)
  pub given : (r : ℕ) (v : Receiving) → slice_get m.receivers r ≡ Some v
      → order_given (T.heard r) ≡ given_at frames v
  -- whose end it has heard where it has ended
  pub ends : (r : ℕ) (v : Receiving) → slice_get m.receivers r ≡ Some v
      → (order_given (T.heard r)).ended ≡ v.ended
  pub takers : Takers owners T.actions
  pub promises : Promises (base_of m) T.actions T.heard (order_of frames)
      (map tenure_and_owner frames)

heard_end : (frames : List Frame) (v : Receiving) (trail : List RecvTurn) → Hears frames v trail
    → (order_given trail).ended ≡ v.ended
heard_end frames v trail h = grind (arith, common_steps)

-- ---- the log
-- where no word of the log is used again it stands from its first word on
pub floor_first : {E : Type 0} (m : Machine E) → m.layout.passers ≡ 0 → floor_of m ≡ 0
floor_first m flat = cc

-- so it is read straight
pub log_straight : {E : Type 0} (m : Machine E) → m.layout.passers ≡ 0
    → slice_index m.words 0 ≤ m.layout.capacity
    → log_of m
    ≡ words_read_from (slice_index m.words) (log_place m.layout m.reuse) (slice_index m.words 0)
log_straight m flat few = grind (arith, common_steps, slice_index, floor_first, ring_straight)

-- where no word of the log is used again what was published is read from the words below the length
pub read_below : {E : Type 0} (P : Protocol E (Unit {0}) ℕ) (m : Machine E) (T : Trails)
    → IsFramed P m T → StandsBelow m T.log
read_below P m T f flat = grind (arith, common_steps, slice_index, log_straight, drop, floor_first)

-- the cell at the place of a receiver that has not left has the word that was published there
pub finds_words : {E : Type 0} (P : Protocol E (Unit {0}) ℕ) (m : Machine E) (T : Trails)
    → IsFramed P m T → (r : ℕ) (v : Receiving) → slice_get m.receivers r ≡ Some v
    → v.gone ≡ false → v.place < length T.log
    → slice_index m.words (v.log_at + v.place % v.log_words) ≡ slice_index T.log v.place
finds_words P m T f r v at stays below =
    let its = f.reads r v at in
    grind (arith, slice_index, index-read)

-- so its load finds that
pub loads_words : {E : Type 0} (P : Protocol E (Unit {0}) ℕ) (m : Machine E) (T : Trails)
    → IsFramed P m T → FindsWords m T.log
loads_words P m T f r v at stays =
    let its = f.reads r v at in (
      λ here.
          found_length (slice_index m.words) v here ∙ ap (slice_index m.words) its.1.len_at
          ∙ f.stands.0,
      λ apart.
          let low : v.place < length T.log =
          (let a = its.1.receives.place_below in
          let b = its.1.receives.known_below in
          let c = f.stands.0 in let d = f.length in omega arith) in (
            low,
            found_word (slice_index m.words) v apart ∙ finds_words P m T f r v at stays low,
          ),
    )

-- the floor is not past what a passed place shows
least_below : (words : ℕ → ℕ) (at len n r : ℕ) → r < n
    → least_passed words at n len ≤ words (at + PASSED_APART * r)
least_below words at len zero r low = absurd (omega arith)
least_below words at len (suc k) r low =
    elim (lesser_is (words (at + PASSED_APART * k)) (least_passed words at k len)) [
      | inl a ↦ (elim (cases_lt r k) [
        | inl below ↦
            (let more = least_below words at len k r below in
            let is = a.0 in let less = a.1 in omega arith)
        | inr past ↦ grind (arith, common_steps)
      ])
      | inr b ↦ (elim (cases_lt r k) [
        | inl below ↦
            (let more = least_below words at len k r below in let is = b.0 in omega arith)
        | inr past ↦ grind (arith, common_steps)
      ])
    ]

shown_below : (words : ℕ → ℕ) (at len n r : ℕ) → r < n
    → floor_shown words at n len ≤ words (at + PASSED_APART * r)
shown_below words at len zero r low = absurd (omega arith)
shown_below words at len (suc k) r low = least_below words at len (suc k) r low

-- no page has a floor past that of the log
pub floors_low : {E : Type 0} (P : Protocol E (Unit {0}) ℕ) (m : Machine E) (T : Trails)
    → IsFramed P m T → (page : Page) → IsPageOf m page → page.floor ≤ floor_of m
floors_low P m T f page (inl home) =
    let is = f.floored_home page home in let low = f.low in omega arith
floors_low P m T f page (inr held) =
    let is = f.floored held.0 held.1 held.2 page held.3 held.4 held.5 held.6 in
    let low = f.low in omega arith

-- a page that is held where no word of the log is used again has the first floor
held_flat : {E : Type 0} (base V : ℕ → ℕ) (frames : List Frame) (c : Core E) (t : ℕ) (page : Page)
    (stored : ℕ) (published : Bool) → c.layout.passers ≡ 0
    → Fits base V frames c (Holding t page stored published) → KeepsFloor page
held_flat base V frames c t page stored false flat fits = fits.1.flat flat
held_flat base V frames c t page stored true flat fits = fits.1.flat flat

module _ {E : Type 0} (X : Election E) (P : Protocol E (Unit {0}) ℕ) where
  -- ---- with a row for each tenure
  module _ (bases : List ℕ) (x : Layout) (q : Serves X P x) (ok : IsLayout x)
      (flat : x.passers ≡ 0) (b : Bus E)
      (T : Trails) (r : PlainReached X bases x b (plain_trails T)) where
    k : plain.Kept bases X P q.laws x ok q.width q.starts q.owner_is q.named q.announces q.apart
        flat b (plain_trails T)
    k = plain.reached_kept bases X P q.laws x ok q.width q.starts q.owner_is q.named q.announces
        q.apart flat b (plain_trails T) r

    -- and the promise holds of it
    promise : PlainPromised bases x b (plain_trails T) (order_of k.frames)
        (map tenure_and_owner k.frames)
    promise = plain.by_frames bases X P q.laws x ok q.width q.starts q.owner_is q.named q.announces
        q.apart flat b (plain_trails T) k

    -- a sender of the machine is one of the bus
    core_at : (p : ℕ) (v : Sender E) → slice_get (of_bus bases x b).senders p ≡ Some v
        → (slice_get b.side.senders p ≡ Some v.core)
        × (v.reuse ≡ None)
    core_at p v at =
        grind (arith, common_steps, made_there, with_a_row_each, slice_get, slice_get-map)

    -- and its receivers are those of the bus
    reads_at : (r : ℕ) (v : Receiving) → slice_get b.receivers r ≡ Some v
        → (v.log_at ≡ log_at x) × IsReceiver x k.frames (slice_index b.side.words 0) (placed x v)
        × ((place : ℕ) → v.passed_at ≡ Some place → place < log_at x)
        × (v.gone ≡ false → floor_of (of_bus bases x b) ≤ v.place)
    reads_at r v at =
        let o = k.lawful.keeps.receiving r v at in (
          o.log,
          record {
            senders = o.senders;
            log = refl;
            len_at = o.len_at;
            log_words = o.log_words;
            receives = o.receives;
          },
          λ place is. absurd (let bad : None ≡ Some place =
              sym (k.lawful.keeps.never r v at).never ∙ is in
              cc),
          λ stays. let first = floor_first (of_bus bases x b) flat in omega arith,
        )

    -- the log shows all that was published
    abbrev this : Machine E
    this = of_bus bases x b

    many : slice_index b.side.words 0 ≤ x.capacity
    many = k.lawful.keeps.sending.log.fits flat

    shows_at_none : ShowsLog this T.log
    shows_at_none =
        let first = floor_first this flat in (
          sym (length-logged k.lawful.keeps.sending.log) ∙ ap length k.log_is,
          log_straight this flat many ∙ promise.shows ∙ ap (λ n. drop n T.log) (sym first),
        )

    -- there is no passed place
    none_passed : (r place : ℕ) (b : Bool) → nat_lt r x.passers ≡ b
        → cond {A = Option ℕ} b (Some (passers_place x None + PASSED_APART * r)) None ≡ Some place
        → ⊥
    none_passed r place false e i = absurd cc
    none_passed r place true e i = let low = ltb-true r x.passers e in omega arith

    floored_at : (p : ℕ) (v : Sender E) (t : ℕ) (page : Page) (stored : ℕ) (published : Bool)
        → slice_get this.senders p ≡ Some v → v.core.phase ≡ Holding t page stored published
        → page.floor ≡ 0
    floored_at p v t page stored published at held =
        let part = k.lawful.keeps.sending.parts p v.core (core_at p v at).0 in
        grind (arith, common_steps, held_flat, slice_index, k)

    -- the bus with a row for each tenure is framed
    pub framed_at_none : IsFramed P (of_bus bases x b) T
    framed_at_none = record {
      V = slice_index b.side.words;
      frames = k.frames;
      cores = slice_get b.side.senders;
      owners = b.side.owners;
      room = k.lawful.words;
      floor = 0;
      flat = λ none. refl;
      low = omega arith;
      floored_home = k.lawful.keeps.sending.flat_home flat;
      floored = floored_at;
      finds = λ place past below. ap (λ n. slice_index b.side.words (log_at x + n))
          (let low : place < x.capacity = let a = many in omega arith in mod-eq_of_lt low);
      edge = subst (IsBoundary k.frames) (sym (floor_first this flat))
          (boundary_first k.frames);
      passed = λ r low. omega arith;
      least = λ p v r t at again held. omega arith;
      sending = k.lawful.keeps.sending;
      core_of = λ p v at. (core_at p v at).0;
      sender_of = λ p c at. (
        with_a_row_each c,
        slice_get-map with_a_row_each b.side.senders p ∙ ap (option_map with_a_row_each) at,
        refl,
      );
      starts = λ p v at. ap (log_start x) (core_at p v at).1;
      rows = λ p v at. ap rows_in (core_at p v at).1;
      puts = λ p v at. grind (arith, k, map, waiting_of, core_at);
      log_is = k.log_is;
      stands = shows_at_none;
      length = refl;
      stage = refl;
      found = λ p t v e o q at runs low from to is. ap (λ w. slice_index b.side.words (register w))
          (sym (same_Some _ _ (subst (λ r. in_row x r t (Some o) ≡ Some q) (core_at p v at).1 is)));
      reads = reads_at;
      passes = λ r v at. grind (arith, common_steps, k, passed_first, none_passed, nat_lt);
      heard = λ r v place at is stays. absurd
          (none_passed r place (nat_lt r x.passers) refl is);
      given = λ r v at. (k.tied.heard r v at).given_is;
      ends = λ r v at. heard_end k.frames v (T.heard r) (k.tied.heard r v at);
      takers = promise.takers;
      promises = promise.promises;
    }

  -- ---- with rows that are used again
  module _ (m : Machine E) (T : Trails) (sits : Sits X P m) (rows : ℕ) (l : IsLed X rows m T) where
    two : 2 ≤ rows
    two = two_rows X P m sits rows l.reuse

    abbrev sizes : ReclamationSizes
    sizes = sizes_with m.layout rows

    abbrev q : Serves X P m.layout
    q = sits.serves

    abbrev y : CyclicProtocol E
    y = protocol_of m l.reclaimer l.passing l.owners

    kept : HasKept X P q.laws m.layout sits.ok q.width q.starts q.owner_is q.named q.announces
        q.apart rows two T.heard y T.pins T.actions T.log
    kept = protocol_kept X P rows m T q sits.ok two l

    keeps : IsKeptProtocol X m.layout rows y T.pins T.actions T.heard T.log
    keeps = grind (arith, common_steps, protocol_promised, two)

    -- where its log begins
    place_is : log_place m.layout m.reuse ≡ log_from m.layout rows
    place_is = ap (log_place m.layout) l.reuse

    -- what is known of its core is known of a sender
    sender_there : (p : ℕ) (c : Core E) (o : Option (Sender E)) → slice_get m.senders p ≡ o
        → core_in o ≡ Some c
        → (v : Sender E) × (slice_get m.senders p ≡ Some v) × (v.core ≡ c)
    sender_there p c None i e = absurd cc
    sender_there p c (Some v) i e = (v, i, same_Some _ _ e)

    -- the frames spell the order of which the promise holds
    order_same : (keeps.order ≡ order_of kept.frames)
        × (keeps.owners ≡ map tenure_and_owner kept.frames)
    order_same =
        spells_one m.layout.senders T.log keeps.order (order_of kept.frames) keeps.owners
        (map tenure_and_owner kept.frames) keeps.by.spelled record {
          frames = kept.frames;
          lawful = kept.kept.sending.log.lawful;
          words_are = kept.kept.log_is;
          order_is = refl;
          owners_are = refl;
        }

    -- a step of an election finds what is its tenure's, whose row is its own still
    found_at : (p t : ℕ) (v : Sender E) (e : E) (o d : Op) → slice_get m.senders p ≡ Some v
        → v.core.phase ≡ Electing t e → t < m.layout.rows
        → row_at m.layout t ≤ register o → register o < row_at m.layout t + m.layout.width
        → in_row m.layout v.reuse t (Some o) ≡ Some d
        → slice_index m.words (register d) ≡ kept.V (register o)
    found_at p t v e o d at runs below low high is =
        let u = l.participants p v at in
        let pinned = (kept.kept.participants p v.core (ap core_in at)).electing t e runs in
        let live = alive_pinned sizes two y.reclamation T.pins
        (reclamation_keeps sizes two y.reclamation T.pins kept.kept.reached) p t pinned in
        grind (arith, common_steps, register, slice_index, same_Some, same_register, kept)

    -- ---- its log
    -- as many words were published as the length says
    size_is : length (log_words kept.frames) ≡ kept.V 0
    size_is = length-logged kept.kept.sending.log

    long : length T.log ≡ kept.V 0
    long = sym (ap length kept.kept.log_is) ∙ size_is

    -- from the floor on each stands in its cell
    finds_some : (place : ℕ) → kept.kept.floor ≤ place → place < kept.V 0
        → slice_index m.words (log_from m.layout rows + place % m.layout.capacity)
        ≡ kept.V (log_at m.layout + place)
    finds_some place past below = grind (arith, common_steps, kept, found_there)

    -- so the log shows what was published
    ring : ShowsRing m.layout rows (slice_index m.words) kept.frames T.log kept.kept.floor
    ring = grind (arith, common_steps, kept, long, finds_some, index-read, slice_index)

    few : length T.log < 2 ^ 50
    few = subst (λ ws. length ws < 2 ^ 50) kept.kept.log_is
        (words_low m.layout.senders kept.frames kept.kept.sending.log.lawful)

    -- its floor, and what stands from there on, where so many rows are used again
    abbrev floor_with : Option ℕ → ℕ
    floor_with o =
        floor_shown (slice_index m.words) (passers_place m.layout o) m.layout.passers
        (slice_index m.words 0)

    abbrev log_with : Option ℕ → List ℕ
    log_with o =
        words_in_ring (slice_index m.words) (log_place m.layout o) m.layout.capacity (floor_with o)
        (slice_index m.words 0 - floor_with o)

    floor_some : (kept.kept.floor ≤ floor_of m) × IsBoundary kept.frames (floor_of m)
    floor_some =
        let is = shown_is m.layout rows (slice_index m.words) kept.frames T.log kept.kept.floor ring
        kept.kept.log_is few in
        subst (λ o. (kept.kept.floor ≤ floor_with o) × IsBoundary kept.frames (floor_with o))
        (sym l.reuse) (is.0, is.2)

    shows_some : ShowsLog m T.log
    shows_some = (
      ring.long,
      subst (λ o. log_with o ≡ drop (floor_with o) T.log) (sym l.reuse)
          (ring_shows m.layout rows (slice_index m.words) kept.frames T.log kept.kept.floor ring
          kept.kept.log_is few),
    )

    -- ---- its receivers
    -- a passed place lies before the log
    passed_low : (r : ℕ) (v : Receiving) → slice_get m.receivers r ≡ Some v → (place : ℕ)
        → v.passed_at ≡ Some place → place < log_from m.layout rows
    passed_low r v at place is = grind (arith, common_steps, nat_lt, kept, ltb-true, same_Some)

    -- and shows what its receiver has passed, or that it has left
    passes_some : ShowsPassed m
    passes_some r v at = grind (arith, common_steps, nat_lt, slice_index, kept, same_Some, ltb-true)

    -- of one that has not left that is no place past its own, and one where a frame begins
    heard_some : (r : ℕ) (v : Receiving) (place : ℕ) → slice_get m.receivers r ≡ Some v
        → passed_by m.layout m.reuse r ≡ Some place → v.gone ≡ false
        → (slice_index m.words place ≤ v.place)
        × IsBoundary kept.frames (slice_index m.words place)
    heard_some r v place at is stays = by (nat_lt r m.layout.passers) refl
        (subst (λ o. passed_by m.layout o r ≡ Some place) l.reuse is) where
          its : IsPasser m.layout rows (slice_index m.words) kept.kept.floor r v
          its = kept.kept.floors.each r v at

          own : IsReceiver m.layout kept.frames (length (log_words kept.frames)) (placed m.layout v)
          own = (kept.kept.hears.each r v at).own

          many : length (log_words kept.frames) < 2 ^ 50
          many = words_low m.layout.senders kept.frames kept.kept.sending.log.lawful

          at_most : (n : ℕ) → n ≡ v.passed → n ≤ v.place
          at_most n same = let past = its.past in omega arith

          -- it is not 2^64 - 1, since no log is so long
          no_end : (n : ℕ) → n ≤ v.place → n ≡ PASSED_ALL → ⊥
          no_end n low all =
              let below : v.place ≤ v.known = own.receives.place_below in
              let known : v.known ≤ length (log_words kept.frames) = own.receives.known_below in
              let few = many in omega arith

          shown : r < m.layout.passers
              → (slice_index m.words (passed_place m.layout rows r) ≤ v.place)
              × IsBoundary kept.frames (slice_index m.words (passed_place m.layout rows r))
          shown below =
              let low = at_most (slice_index m.words (passed_place m.layout rows r))
              (its.shows stays below) in (
                low,
                elim (kept.kept.floors.edges r below) [
                  | inl edge ↦ edge
                  | inr all ↦
                      absurd
                      (no_end (slice_index m.words (passed_place m.layout rows r)) low all)
                ],
              )

          by : (b : Bool) → nat_lt r m.layout.passers ≡ b
              → cond {A = Option ℕ} b (Some (passed_place m.layout rows r)) None ≡ Some place
              → (slice_index m.words place ≤ v.place)
              × IsBoundary kept.frames (slice_index m.words place)
          by false e i = absurd cc
          by true e i =
              subst (λ n. (slice_index m.words n ≤ v.place)
              × IsBoundary kept.frames (slice_index m.words n))
              (same_Some _ _ i) (shown (ltb-true r m.layout.passers e))

    -- one that has not left is still to hear no word before the floor
    comes_some : (r : ℕ) (v : Receiving) → slice_get m.receivers r ≡ Some v → v.gone ≡ false
        → floor_of m ≤ v.place
    comes_some r v at stays =
        let its = kept.kept.floors.each r v at in
        let from = passed_from m.layout rows in
        let past = its.past in
        subst (λ o. floor_with o ≤ v.place) (sym l.reuse) (elim its.many [
          | inl none ↦ grind (arith, common_steps, slice_index)
          | inr low ↦
              (let shown = its.shows stays low in
              let below = shown_below (slice_index m.words) from (slice_index m.words 0)
              m.layout.passers r low in
              omega arith)
        ])

    -- they read the log of these frames
    reads_some : (r : ℕ) (v : Receiving) → slice_get m.receivers r ≡ Some v
        → (v.log_at ≡ log_place m.layout m.reuse)
        × IsReceiver m.layout kept.frames (kept.V 0) (placed m.layout v)
        × ((place : ℕ) → v.passed_at ≡ Some place → place < log_place m.layout m.reuse)
        × (v.gone ≡ false → floor_of m ≤ v.place)
    reads_some r v at =
        let hears = kept.kept.hears.each r v at in (
          hears.log ∙ sym place_is,
          subst (λ n. IsReceiver m.layout kept.frames n (placed m.layout v)) size_is hears.own,
          λ place is. subst (λ n. place < n) (sym place_is) (passed_low r v at place is),
          λ stays. comes_some r v at stays,
        )

    -- the machine is framed
    pub framed_at_some : IsFramed P m T
    framed_at_some = record {
      V = kept.V;
      frames = kept.frames;
      cores = y.senders;
      owners = l.owners;
      room = l.words ∙ ap (λ n. n + m.layout.capacity) (sym place_is);
      floor = kept.kept.floor;
      flat = kept.kept.floors.none;
      low = floor_some.0;
      floored_home = kept.kept.stored.floor_home;
      floored = λ p v t page stored published at held.
          kept.kept.stored.floor_held p t page stored published v.core (ap core_in at) held;
      finds = λ place past below. grind (arith, common_steps, slice_index, place_is, finds_some);
      edge = floor_some.1;
      passed = λ r low. grind (arith, common_steps, kept, slice_index);
      least = λ p v r t at again held. grind (arith, common_steps, passing_in, kept);
      sending = kept.kept.sending;
      core_of = λ p v at. ap core_in at;
      sender_of = λ p c at. sender_there p c (slice_get m.senders p) refl at;
      starts = λ p v at. grind (arith, common_steps, place_is);
      rows = λ p v at. grind (arith, common_steps);
      puts = λ p v at. grind (arith, common_steps, kept, map, waiting_of, core_in);
      log_is = kept.kept.log_is;
      stands = shows_some;
      length = kept.kept.laid.length;
      stage = kept.kept.laid.stage;
      found = found_at;
      reads = reads_some;
      passes = passes_some;
      heard = heard_some;
      given = λ r v at. (kept.kept.hears.each r v at).hears.given_is;
      ends = λ r v at. heard_end kept.frames (placed m.layout v) (T.heard r)
          (kept.kept.hears.each r v at).hears;
      takers = keeps.by.takers;
      promises = grind (arith, common_steps, map, kept, order_same, keeps);
    }

    -- ---- its rows
    -- each step of an election is on a word of the row that its tenure uses
    within : (p t word : ℕ) (v : Sender E) (e : E) (o : Op) → slice_get m.senders p ≡ Some v
        → situation X v ≡ Does (Elects t e)
        → (line_now X v).op word ≡ Some o
        → (row_of sizes t ≤ register o) × (register o < row_of sizes t + m.layout.width)
    within p t word v e o at i next =
        let u = l.participants p v at in
        let there = ap core_in (at ∙ ap Some u.1) in
        let runs =
        ap (λ (w : Sender E). w.core.phase) (sym u.1)
        ∙ (tells X v.core (Elects t e) (own_is X v (Elects t e) i)).0 in
        let due : in_row v.core.layout v.reuse t (X.op e word) ≡ Some o =
        sym (ap (λ w. (line X v w).op word) i) ∙ next in
        by u.0 there (kept.kept.sending.parts p u.0.core there).layout u.2 runs (X.op e word) refl
        (subst (λ (w : Sender E). in_row w.core.layout w.reuse t (X.op e word) ≡ Some o) u.1 due)
      where
        by : (u : Participant E) → y.senders p ≡ Some u.core → u.core.layout ≡ m.layout
            → u.rows ≡ rows → u.core.phase ≡ Electing t e
            → (d : Option Op) → X.op e word ≡ d
            → in_row u.core.layout (Some (reuse_of u)) t d ≡ Some o
            → (row_of sizes t ≤ register o) × (register o < row_of sizes t + m.layout.width)
        by u there layout same_rows runs None n q = absurd cc
        by u there layout same_rows runs (Some w) n q =
            grind (arith, common_steps, place_for, register, same_Some, same_register, keeps)

    -- no step clears a word of a row in which anybody stands
    spares : (p q t place word : ℕ) (v : Sender E) (s : Reclaiming) (o : Op)
        → slice_get m.senders p ≡ Some v
        → situation X v ≡ Clears s → (line_now X v).op word ≡ Some o → Stands sizes q (T.pins q) t
        → place < m.layout.width
        → register o ≢ row_of sizes t + place
    spares p q t place word v s o at i next stands low same =
        let c = clearing X v s i in
        let mine : l.reclaimer ≡ Some s = sym (l.holder p v c.tenure at c.held) ∙ c.reclaims in
        let due : Some (Store record { 0 = s.row + s.cleared } 0) ≡ Some o =
        sym (ap (λ w. (line X v w).op word) i) ∙ next in
        spared sizes y.reclamation T.pins keeps.by.safe s mine c.step q t place stands low
        (ap register (same_Some _ _ due) ∙ same)

    -- they are used again as is promised
    pub reuses_at_some : ReusesRows X m T rows
    reuses_at_some = record {
      reclaimer = l.reclaimer;
      holder = l.holder;
      reached = keeps.by.reached;
      safe = keeps.by.safe;
      ready = keeps.by.ready;
      stands = λ p v t e at ph. keeps.by.stands p v.core t e (ap core_in at) ph;
      within = within;
      spares = spares;
    }

  -- whatever leads to a machine, it is framed
  pub framed : (m : Machine E) (T : Trails) → Sits X P m → Reached X m T → IsFramed P m T
  framed m T s r = by m.reuse refl where
    by : (o : Option ℕ) → m.reuse ≡ o → IsFramed P m T
    by None e =
        let i = reached_at_none X m T r e in
        subst (λ y. IsFramed P y T) (sym i.is)
        (framed_at_none m.bases m.layout s.serves s.ok (flat_at_none X m T r e) i.bus T i.reached)
    by (Some rows) e = framed_at_some m T s rows (led_some X P m T s r rows e)

  -- so all that was ever published stands in the words of its log
  pub history : (m : Machine E) (T : Trails) → Sits X P m → Reached X m T → ShowsLog m T.log
  history m T s r = (framed m T s r).stands

  -- and where no word of the log is used again, just in those below the length
  pub history_below : (m : Machine E) (T : Trails) → Sits X P m → Reached X m T
      → StandsBelow m T.log
  history_below m T s r flat = read_below P m T (framed m T s r) flat

  -- and its rows are used again as is promised
  pub reuses : (m : Machine E) (T : Trails) → Sits X P m → Reached X m T
      → ReusesSafely X m T m.reuse
  reuses m T s r = grind (arith, common_steps, reuses_at_some, led_some)
