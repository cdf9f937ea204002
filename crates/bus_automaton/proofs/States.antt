-- A bus of either kind of rows is an automaton: its laws, by what every machine keeps that events
-- lead to.
use Rattle.std.proofs.Common.{◌≡◌, ◌≢◌, ℕ, ◌+◌, ◌*◌, ◌%◌, ◌<◌, ◌≤◌, Bool, true, false, Option}
use Rattle.std.proofs.Common.{Some, None, is_some, List, [], ◌++◌, drop, length, map, slice_get}
use Rattle.std.proofs.Common.{All, slice_index, arith, refl, sym, ◌∙◌, ap, subst}
use Rattle.std.proofs.lemmas.Bool.{true≢false}
use Rattle.bus_batch.proofs.FrameLaws.{same_log}
use Rattle.bus_batch.specs.Batches.{Pending}
use Rattle.bus_batch.specs.Frames.{Frame, AreFrames, Order, Spells}
use Rattle.bus_batch.specs.Frames.{log_words, order_of, items_of}
use Rattle.bus_batch.specs.declared.messages.Item.{Item}
use Rattle.bus_core.specs.Senders.{Sender, Validates, situation}
use Rattle.bus_core.specs.Table.{line_now}
use Rattle.bus_deliverylog.specs.Orders.{of_sender}
use Rattle.bus_deliverylog.specs.declared.receiving.RecvTurn.{RecvTurn}
use Rattle.bus_deliverylog.specs.declared.receiving.RecvTurn.TheVariants as recv
use Rattle.bus_machine.proofs.Tenures.Entering.{enters}
use Rattle.bus_machine.proofs.Frames.Framed.{IsFramed, framed, floor_first, log_straight}
use Rattle.bus_machine.proofs.Frames.Knowing.{its_part}
use Rattle.bus_machine.proofs.Bases.Leading.{Sits}
use Rattle.bus_machine.proofs.Promised.{promised}
use Rattle.bus_machine.specs.Machine.{Machine, Trails, base_of}
use Rattle.bus_machine.specs.Promise.{HasRows, IsPagedBy, IsPromised}
use Rattle.bus_register.specs.Protocol.{Protocol}
use Rattle.bus_register.specs.declared.registers.Op.{Op}
use Rattle.bus_register.specs.declared.registers.SenderNo.{SenderNo}
use Rattle.bus_tenure.specs.Core.{Core, Election, Layout}
use Rattle.bus_tenure.specs.Situations.{Comes}
use Rattle.bus_tenure.specs.declared.pages.Page.{Page}
use Rattle.bus_tenure.specs.declared.phases.Phase.{Phase}
use Rattle.bus_tenure.specs.declared.phases.Phase.TheVariants as phase
use Rattle.bus_world.proofs.Accepting.{first_fits}
use Rattle.bus_world.proofs.LogLaws.{length-logged}
use Rattle.bus_world.proofs.Serving.{Serves}
use Rattle.bus_world.specs.World.{IsLayout}
use Rattle.bus_world.specs.Private.Sending.{Fits, Part}
use Rattle.bus_world.specs.Headline.{Action, Promises, puts}
use Rattle.bus_world.specs.Log.{KeepsFloor, Knows}
use Rattle.bus_world.specs.Trails.{no_answers}
use Rattle.bus_world.specs.Private.Tenures.Stage.{Open, Held}
use Rattle.bus_world.specs.Waiting.{waiting_at}
use Rattle.bus_automaton.proofs.Fitting.{HasRoom, has_room}
use Rattle.bus_automaton.proofs.ReachedMachines.{nobody_did}
use Rattle.bus_automaton.proofs.Turns.{queue_is, messages_are, comes}
use Rattle.bus_world.specs.Floors.{IsBoundary}
use Rattle.bus_automaton.specs.Lawful.{IsSender, HasLog, IsPromisedOf, floor_in, log_from_floor}
use Rattle.bus_automaton.specs.OneAutomaton.{MachineHistory, IsMachineHistory, bus_of}
use Rattle.bus_automaton.specs.OneProcess.{is_taken, table_layout_by, process_of}
use Rattle.bus_automaton.specs.Processes.{TableLayout, IsCounted, log_below}

-- between turns no page is under way
not_taken : {E : Type 0} (base words : ℕ → ℕ) (frames : List Frame) (c : Core E) (ph : Phase E)
    → Fits base words frames c ph
    → is_taken ph ≡ false
not_taken base words frames c (phase.Taken t) f = absurd f
not_taken base words frames c ph f = refl

-- where the stage is odd the page is out, and else at home
home_tells : (stage len : ℕ) (ended : Bool) (home : Option Page) → IsPagedBy stage len ended home
    → ((stage % 2 ≢ 1) → is_some home ≡ true) × ((stage % 2 ≡ 1) → is_some home ≡ false)
home_tells stage len ended None w =
    let is = w.1 in (λ even. absurd (even (omega arith)), λ odd. refl)
home_tells stage len ended (Some page) w =
    let is = w.0 in (λ even. refl, λ odd. absurd (omega arith))

-- the page of promises, of receivers that were answered nothing
silent_page : {base : ℕ → ℕ} (actions : ℕ → List Action) (heard : ℕ → List RecvTurn) (order : Order)
    (owners : List (ℕ × SenderNo))
    → Promises base actions heard order owners → Promises base actions no_answers order owners
silent_page actions heard order owners q = record {
  one_owner = q.one_owner;
  announced = q.announced;
  took_own = q.took_own;
  took_once = q.took_once;
  owned = q.owned;
  rising = q.rising;
  delivered = λ n. record {
    later = order.entries;
    entries = refl;
    ended = λ e. absurd (let bad : false ≡ true = e in cc);
  };
  told = λ n. record { rest = owners; together = refl };
  faithful = q.faithful;
  numbered = q.numbered;
  silent = λ n j k a at l here.
      absurd (let bad : None ≡ Some recv.End = at in let wrong : ⊥ = cc in wrong);
  closed = q.closed;
  gone = q.gone;
  asked = q.asked;
  whole = q.whole;
  framed = q.framed;
}

-- ---- of a state that is reached
module _ {E : Type 0} (X : Election E) (P : Protocol E (Unit {0}) ℕ) (x : Layout) (y : Serves X P x)
    (reuse : Option ℕ) (bases : List ℕ)
    (z : MachineHistory E) (h : IsMachineHistory X x reuse bases z) where
  abbrev m : Machine E
  m = z.machine

  abbrev T : Trails
  T = z.trails

  -- its sizes are served
  pub sits : Sits X P m
  sits = record {
    serves = subst (Serves X P) (sym h.layout) y;
    ok = subst IsLayout (sym h.layout) h.served;
    rows = subst HasRows (sym h.rows_are) h.has_rows;
  }

  -- it has the frames of its log
  pub framing : IsFramed P m T
  framing = framed X P m T sits h.reached

  -- no word of its log is used again where its sizes have no passed places
  none_passed : x.passers ≡ 0 → m.layout.passers ≡ 0
  none_passed flat = ap (λ (l : Layout). l.passers) h.layout ∙ flat

  -- and the promise holds of it
  promise : IsPromised X m T
  promise = promised X P m T sits h.reached

  -- as large as it should be
  pub sizes_are : table_layout_by m.layout m.reuse ≡ table_layout_by x reuse
  sizes_are = λ n. table_layout_by (h.layout n) (h.rows_are n)

  -- it has all its words
  pub wide : length m.words ≡ (table_layout_by x reuse).words
  wide = framing.room ∙ ap (λ (t : TableLayout). t.words) sizes_are

  -- who is none of its senders has done nothing
  pub nobody : (q : ℕ) → x.senders ≤ q → T.actions q ≡ []
  nobody q past = nobody_did X P m T sits h.reached q
      (subst (λ (l : Layout). l.senders ≤ q) (sym h.layout) past)

  -- ---- the log
  -- its frames are lawful ..
  pub lawful : AreFrames x.senders framing.frames
  lawful =
      subst (λ (l : Layout). AreFrames l.senders framing.frames) h.layout framing.sending.log.lawful

  -- .. and fit where no word of the log is used again
  few : x.passers ≡ 0 → slice_index m.words 0 ≤ m.layout.capacity
  few flat =
      let same = framing.length in
      let fits = framing.sending.log.fits (none_passed flat) in omega arith

  -- the length says how many words were published
  pub long : length T.log ≡ slice_index m.words 0
  long =
      sym (ap length framing.log_is) ∙ length-logged framing.sending.log ∙ sym framing.length

  -- no more than a whole log lies behind the floor
  roomy : HasRoom m T
  roomy = has_room X P m T sits h.reached

  -- so each word from the floor on stands in its cell
  pub has_log : HasLog (bus_of X x reuse bases) z
  has_log = record {
    frames = framing.frames;
    lawful = lawful;
    words_are = framing.log_is;
    long = long;
    shows = subst (λ t. log_from_floor t m.words ≡ drop (floor_in t m.words) T.log) sizes_are
        framing.stands.1;
    edge = subst (λ t. IsBoundary framing.frames (floor_in t m.words)) sizes_are framing.edge;
    room = subst (λ t. length T.log ≤ t.capacity + floor_in t m.words) sizes_are
        (let low = roomy.low in let few = roomy.room in omega arith);
    fits = λ flat.
        subst (λ (l : Layout). slice_index m.words 0 ≤ l.capacity) h.layout (few flat);
    stands = λ flat.
        ap (λ t. log_below t m.words) (sym sizes_are)
        ∙ sym (log_straight m (none_passed flat) (few flat)) ∙ framing.stands.1
        ∙ ap (λ k. drop k T.log) (floor_first m (none_passed flat));
  }

  -- any frames of its log are those that it keeps
  same_frames : (frames : List Frame) → AreFrames x.senders frames → log_words frames ≡ T.log
      → framing.frames ≡ frames
  same_frames frames law words =
      same_log x.senders 0 0 framing.frames frames lawful law (framing.log_is ∙ sym words)

  -- ---- the page
  -- by the stage it is known whether it is at home
  pub at_home : ((slice_index m.words 1 % 2 ≢ 1) → is_some m.home ≡ true)
      × ((slice_index m.words 1 % 2 ≡ 1) → is_some m.home ≡ false)
  at_home = home_tells (slice_index m.words 1) (slice_index m.words 0) promise.order.ended m.home
      promise.by.paged

  -- it is at home only while a tenure is open, and then it knows the frames
  pub page_knows : (page : Page) (frames : List Frame) → m.home ≡ Some page
      → AreFrames x.senders frames → log_words frames ≡ T.log
      → (past : ℕ) × (slice_index m.words 1 ≡ 2 * past)
      × Knows (slice_index bases) page frames past (slice_index m.words 0)
      × (x.passers ≡ 0 → KeepsFloor page)
  page_knows page frames home law words = elim framing.sending.tenures.stage_is [
    | Open stage here many ↦ (
      framing.sending.tenures.ended,
      framing.stage ∙ stage,
      subst (λ (u : List ℕ × List Frame × ℕ).
          Knows (slice_index u.0) page u.1 framing.sending.tenures.ended u.2)
          (λ n. (h.bases_are n, same_frames frames law words n, sym framing.length n))
          (framing.sending.page_knows page framing.sending.tenures.ended home stage).0,
      λ flat. framing.sending.flat_home (none_passed flat) page home,
    )
    | Held holder stage away many holds ↦ absurd (true≢false (sym (ap is_some home) ∙ away))
  ]

  -- and there is room behind its floor
  pub page_fits : (page : Page) → m.home ≡ Some page
      → (page.floor ≤ floor_in (table_layout_by x reuse) m.words)
      × (length T.log ≤ x.capacity + page.floor)
  page_fits page home = (
    subst (λ t. page.floor ≤ floor_in t m.words) sizes_are
        (let is = roomy.home page home in let low = roomy.low in omega arith),
    subst (λ (l : Layout). length T.log ≤ l.capacity + page.floor) h.layout
        (let is = roomy.home page home in let few = roomy.room in omega arith),
  )

  -- the page of promises
  pub promised_of : IsPromisedOf (bus_of X x reuse bases) z
  promised_of = record {
    order = promise.order;
    owners = promise.owners;
    spelled = record {
      frames = promise.by.spelled.frames;
      lawful = subst (λ n. AreFrames n promise.by.spelled.frames) (λ i. (h.layout i).senders)
          promise.by.spelled.lawful;
      words_are = promise.by.spelled.words_are;
      order_is = promise.by.spelled.order_is;
      owners_are = promise.by.spelled.owners_are;
    };
    few = subst (λ n. All (λ f. length (items_of f) ≤ n) promise.by.spelled.frames)
        (λ i. (h.layout i).batch) promise.by.few;
    promises = subst
        (λ (l : List ℕ). Promises (slice_index l) T.actions no_answers promise.order promise.owners)
        h.bases_are
        (silent_page T.actions T.heard promise.order promise.owners promise.by.promises);
  }

  -- ---- a sender that is there
  module _ (p : ℕ) (v : Sender E) (at : slice_get m.senders p ≡ Some v) where
    -- what it keeps
    part : Part (base_of m) m.layout framing.V framing.frames p v.core
    part = its_part X P m T framing p v at

    -- no page is under way to it
    pub laid : is_taken v.core.phase ≡ false
    laid = not_taken (base_of m) framing.V framing.frames v.core v.core.phase part.fits

    -- the numbers of its messages stay far below their range
    pub in_range : IsCounted (process_of X) v
    in_range =
        let first = first_fits X P sits.serves.laws m.layout sits.ok sits.serves.width framing.V
        m.home framing.owners framing.frames p framing.cores framing.sending v.core
        (framing.core_of p v at) in
        let now = ap (λ (q : Pending). q.first) (queue_is v.core.queue v.reuse) in
        let limit = ap (λ (q : Pending). q.limit) (queue_is v.core.queue v.reuse) in
        let own = part.limit in
        let few = part.queue.few in
        let same = ap length (messages_are v.core.queue v.reuse) in
        record {
          first = omega arith;
          few = omega arith;
          limit = limit ∙ own ∙ sym (ap (λ (l : Layout). l.batch) part.layout);
        }

    -- it is who it is
    pub is_sender : IsSender (process_of X) (bus_of X x reuse bases) p v
    is_sender = record {
      me = part.me;
      below = subst (λ (l : Layout). p < l.senders) h.layout part.below;
      table_layout =
          λ n. table_layout_by ((part.layout ∙ h.layout) n) ((framing.rows p v at ∙ h.rows_are) n);
      counted = in_range;
      laid = laid;
    }

    -- the log has of it what it put, but for what waits
    pub sent : (frames : List Frame) → AreFrames x.senders frames → log_words frames ≡ T.log
        → map (λ (i : Item). i.message) (of_sender p (order_of frames))
        ++ waiting_at v.core v.core.phase ≡ puts (T.actions p)
    sent frames law words =
        ap (λ fs.
        map (λ (i : Item). i.message) (of_sender p (order_of fs)) ++ waiting_at v.core v.core.phase)
        (sym (same_frames frames law words)) ∙ sym (framing.puts p v at)

    -- it rests while it looks at the stage again
    pub rests : (t : ℕ) → situation X v ≡ Validates t → v.core.phase ≡ phase.Resting
    rests t i = (enters X P m T sits h.reached p v at t i).0

    module _ (word : ℕ) (o : Op) (due : (line_now X v).op word ≡ Some o) where
      -- who takes the page finds it at home
      pub finds_home : (t : ℕ) → (line_now X v).move ≡ Comes t → is_some m.home ≡ true
      finds_home t is =
          ap is_some (promise.by.finds p v t at (comes X v (situation X v) word o t due is)).home
