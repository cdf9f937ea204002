-- What a sender accepts between its turns keeps what senders, words, page and owners keep: said of
-- words and senders by number.
use Rattle.std.proofs.Common.{◌+◌, ◌*◌, ◌≡◌, ℕ, zero, suc, ◌<◌, ◌≤◌, ◌^◌, Bool, true, false, cond}
use Rattle.std.proofs.Common.{◌&&◌, ◌==◌, nat_lt, nat_le, Option, Some, List, [], ◌∷◌, ◌++◌, length}
use Rattle.std.proofs.Common.{filter, arith, refl, sym, ◌∙◌, ap, subst}
use Rattle.std.specs.Prelude.{All}
use Rattle.std.proofs.lemmas.Bool.{and_parts, leb-true, ltb-true, true≢false}
use Rattle.std.proofs.lemmas.List.{length-append}
use Rattle.std.proofs.lemmas.List.Elements.{All-append, All-from_recursion}
use Rattle.std.proofs.lemmas.Grind.{common_steps}
use Rattle.bus_register.specs.declared.registers.SenderNo.{SenderNo}
use Rattle.bus_register.specs.Protocol.{Protocol, Laws}
use Rattle.bus_register.specs.Tables.{put, Beside}
use Rattle.bus_register.specs.Private.TableLaws.{put_here, put_beside}
use Rattle.bus_batch.specs.declared.batches.Phase.{Phase}
use Rattle.bus_batch.specs.declared.batches.Phase.TheVariants.{Open, Marking, Closed}
use Rattle.bus_batch.specs.declared.messages.Mark.{Mark}
use Rattle.bus_batch.specs.declared.messages.Item.{Item}
use Rattle.bus_batch.specs.Messages.{IsMessage}
use Rattle.bus_batch.specs.Batches.{Pending, IsKept, frame_of, next_of}
use Rattle.bus_batch.specs.Frames.{AreFrames, Frame, frame_words, items_in, items_of, log_words}
use Rattle.bus_batch.specs.Frames.{order_of}
use Rattle.bus_tenure.specs.Core.{Core, Election, Layout, is_empty}
use Rattle.bus_tenure.specs.declared.pages.Page.{Page}
use Rattle.bus_tenure.specs.declared.phases.Phase.{Phase as SenderPhase}
use Rattle.bus_tenure.specs.declared.phases.Phase.TheVariants as phase
use Rattle.bus_ownerbits.specs.OneOwner.{OneOwner}
use Rattle.bus_world.specs.Log.{first_numbers, ring_numbers, next_number, sent_count}
use Rattle.bus_world.specs.declared.limits.TheConstants.{FIRST_NUMBERS}
use Rattle.bus_world.proofs.LogLaws.{length-logged, log_words-append}
use Rattle.bus_world.specs.World.{IsLayout}
use Rattle.bus_world.specs.Private.Sending.{Part, Fits, Sending}
use Rattle.bus_world.proofs.BusLaws as bus
use Rattle.bus_world.proofs.Framing.{all_before, front_lawful}
use Rattle.bus_world.proofs.Bounds.{items_few, items_low}
use Rattle.bus_world.specs.Private.Machines.{is_open, can_put, can_close, put_in, mark_in}
use Rattle.bus_world.proofs.TurningLaws.{open_apart}

-- ---- what a sender accepts
pub data Accepted : Type 0 where
  Puts : (bytes : List ℕ) → Accepted
  Asks : Mark → Accepted

abbrev pub accept : {E : Type 0} → Core E → Accepted → Core E
accept c (Puts bytes) = put_in c bytes
accept c (Asks m) = mark_in c m

abbrev pub accepting : {E : Type 0} → Core E → List Accepted → Core E
accepting c [] = c
accepting c (a ∷ more) = accepting (accept c a) more

-- bytes are bytes
abbrev pub AreAccepted : List Accepted → Type 0
AreAccepted [] = Unit {0}
AreAccepted (Puts bytes ∷ more) = All (λ byte. byte < 256) bytes × AreAccepted more
AreAccepted (Asks m ∷ more) = AreAccepted more

-- ---- fewer items than words
shorter : {A : Type 0} (b : Bool) (x : A) (ys : List A) (n : ℕ) → length ys ≤ n
    → length (cond b (x ∷ ys) ys) ≤ suc n
shorter true x ys n l = omega arith
shorter false x ys n l = omega arith

filter_short : (p : Item → Bool) (xs : List Item) → length (filter p xs) ≤ length xs
filter_short p [] = omega arith
filter_short p (x ∷ xs) = shorter (p x) x (filter p xs) (length xs) (filter_short p xs)

sent_short : (senders s : ℕ) (frames : List Frame) → AreFrames senders frames
    → 65 * sent_count s frames ≤ 64 * length (log_words frames)
sent_short senders s frames lawful = grind (arith, common_steps, filter_short, items_few)

-- and no more than a batch in each tenure
sent_low : (senders batch s : ℕ) (frames : List Frame) → AreFrames senders frames
    → All (λ f. length (items_of f) ≤ batch) frames → sent_count s frames ≤ batch * 2 ^ 40
sent_low senders batch s frames lawful few =
    let all = items_low senders batch frames lawful few in
    let own = filter_short (λ i. i.sender.0 == s) (items_in (order_of frames).entries) in omega
    arith

-- ---- tests
pub open_is : (ph : Phase) → is_open ph ≡ true → ph ≡ Open
open_is Open e = refl
open_is (Marking m) e = absurd (true≢false (sym e))
open_is Closed e = absurd (true≢false (sym e))

pub not_busy : (b : Bool) → cond b false true ≡ true → b ≡ false
not_busy true e = absurd (true≢false (sym e))
not_busy false e = refl

pub empty_is : {A : Type 0} (xs : List A) → is_empty xs ≡ true → xs ≡ []
empty_is [] e = refl
empty_is (x ∷ xs) e = absurd (true≢false (sym e))

-- a batch that is not on its way is that of a sender that has begun no tenure
pub idle_rests : (base : ℕ → ℕ) {E : Type 0} (words : ℕ → ℕ) (frames : List Frame) (c : Core E)
    (ph : SenderPhase E) → Fits base words frames c ph → c.queue.busy ≡ false → ph ≡ phase.Resting
idle_rests base words frames c phase.Resting f e = refl
idle_rests base words frames c (phase.Electing t u) f e = absurd (true≢false (sym f.0.busy ∙ e))
idle_rests base words frames c (phase.Taken t) f e = absurd f
idle_rests base words frames c (phase.Holding t page stored true) f e =
    absurd (true≢false (sym f.0.busy ∙ e))
idle_rests base words frames c (phase.Holding t page stored false) f e =
    absurd (true≢false (sym f.0.busy ∙ e))
idle_rests base words frames c (phase.Giving t reason) f e = absurd f

module _ {E : Type 0} (X : Election E) (P : Protocol E (Unit {0}) ℕ)
    (laws : Laws X.op X.fed P OneOwner) (x : Layout) (ok : IsLayout x)
    (width : x.width ≡ P.width x.senders)
    {base : ℕ → ℕ} (words : ℕ → ℕ) (home : Option Page) (owners : List ℕ) (frames : List Frame)
    (p : ℕ) where
  module _ (senders : ℕ → Option (Core E)) (h : Sending base P x words home senders owners frames)
      (c : Core E) (old : senders p ≡ Some c) where
    own : Part base x words frames p c
    own = h.parts p c old

    -- the frames behind which its messages go on, of which there are no more words
    record GoesBehind : Type 0 where
      front : List Frame
      lawful : AreFrames x.senders front
      few : All (λ f. length (items_of f) ≤ x.batch) front
      fewer : length (log_words front) ≤ length (log_words frames)
      first : c.queue.first ≡ next_number base c.me front

    behind_all : c.queue.first ≡ next_number base c.me frames → GoesBehind
    behind_all e =
        record {
          front = frames;
          lawful = h.log.lawful;
          few = h.log.few;
          fewer = omega arith;
          first = e;
        }

    goes_behind : (ph : SenderPhase E) → Fits base words frames c ph → GoesBehind
    goes_behind phase.Resting f = behind_all f.1.0
    goes_behind (phase.Electing t u) f = behind_all f.1.0
    goes_behind (phase.Taken t) f = absurd f
    goes_behind (phase.Holding t page stored true) f =
        let last = frame_of c.queue t in
        let written = f.1 in
        let short = subst (All (λ g. length (items_of g) ≤ x.batch)) written.frames_are h.log.few in
        record {
          front = written.front;
          lawful = (front_lawful x.senders 0 written.front last
              (subst (AreFrames x.senders) written.frames_are h.log.lawful)).0;
          few = all_before (λ g. length (items_of g) ≤ x.batch) written.front (last ∷ []) short;
          fewer =
              (let a = ap (λ fs. length (log_words fs)) written.frames_are in
              let b = ap (λ ws. length ws) (log_words-append written.front last) in
              let e = length-append (log_words written.front) (frame_words last) in omega arith);
          first = written.goes_on.0;
        }
    goes_behind (phase.Holding t page stored false) f = behind_all f.1.goes_on.0
    goes_behind (phase.Giving t reason) f = absurd f

    -- its numbers stay below their range, also those of a whole batch more
    pub first_fits : c.queue.first + x.batch < 2 ^ 48
    first_fits = by x.passers refl
      where
        its : GoesBehind
        its = goes_behind c.phase own.fits

        base_low : (n : ℕ) → x.passers ≡ n → base c.me < first_numbers n x.batch
        base_low n e = subst (λ k. base c.me < first_numbers k x.batch) e (h.log.low c.me)

        by : (n : ℕ) → x.passers ≡ n → c.queue.first + x.batch < 2 ^ 48
        by zero flat =
            let low : base c.me < FIRST_NUMBERS = base_low zero flat in
            let short = sent_short x.senders c.me its.front its.lawful in
            let fewer = its.fewer in
            let first = its.first in
            let cap = ok.capacity in
            let within = h.log.fits flat in
            let size = length-logged h.log in
            omega arith
        by (suc n) ring =
            let low : base c.me < ring_numbers x.batch = base_low (suc n) ring in
            let sent = sent_low x.senders x.batch c.me its.front its.lawful its.few in
            let first = its.first in
            let batch = ok.batch.1 in
            omega arith

    pub numbers_fit : next_of c.queue < 2 ^ 48
    numbers_fit =
        let few = own.queue.few in
        let same = own.limit in let first = first_fits in omega arith

    module _ (senders' : ℕ → Option (Core E)) (beside : Beside p senders senders') where
      unchanged : senders' p ≡ Some c → Sending base P x words home senders' owners frames
      unchanged new = subst (λ z. Sending base P x words home z owners frames)
          (sym (bus.same_senders p c senders senders' old new beside)) h

      replaced : (q : Pending) → c.queue.busy ≡ false → q.busy ≡ false → q.sender ≡ c.queue.sender
          → q.limit ≡ c.queue.limit → q.first ≡ c.queue.first
          → ((c.queue.phase ≡ Closed) × (c.queue.messages ≡ [])
          → (q.phase ≡ Closed) × (q.messages ≡ [])) → IsKept q
          → senders' p ≡ Some (record c { queue = q })
          → Sending base P x words home senders' owners frames
      replaced q idle idle' sender same_limit first closed kept new =
          let rests = idle_rests base words frames c c.phase own.fits idle in
          let fits = subst (Fits base words frames c) rests own.fits in
          bus.spends X P laws x ok width words home senders owners frames h p c
          (record c { queue = q }) senders' old new beside rests rests (omega arith)
          record {
            layout = own.layout;
            limit = same_limit ∙ own.limit;
            me = own.me;
            below = own.below;
            sender = ap (λ (z : SenderNo). z.0) sender ∙ own.sender;
            queue = kept;
            fits = subst (Fits base words frames (record c { queue = q })) (sym rests)
                (idle', (first ∙ fits.1.0, λ gone. closed (fits.1.1 gone)));
          }

      put_kept : (bytes : List ℕ) → All (λ byte. byte < 256) bytes
          → senders' p ≡ Some (put_in c bytes) → Sending base P x words home senders' owners frames
      put_kept bytes small new = by_test (can_put c.queue (length bytes)) refl new
        where
          by_test : (b : Bool) → can_put c.queue (length bytes) ≡ b
              → senders' p
              ≡ Some (cond b
              (record c { queue = record c.queue { messages = c.queue.messages ++ bytes ∷ [] } }) c)
              → Sending base P x words home senders' owners frames
          by_test false e now = unchanged now
          by_test true e now =
              let opened = and_parts (is_open c.queue.phase)
              (cond c.queue.busy false true
              && (nat_le (length bytes) 56 && nat_lt (length c.queue.messages) c.queue.limit)) e in
              let idled = and_parts (cond c.queue.busy false true)
              (nat_le (length bytes) 56 && nat_lt (length c.queue.messages) c.queue.limit) opened.1
              in
              let sized =
              and_parts (nat_le (length bytes) 56) (nat_lt (length c.queue.messages) c.queue.limit)
              idled.1 in
              let idle = not_busy c.queue.busy idled.0 in
              let is = open_is c.queue.phase opened.0 in
              let short = leb-true (length bytes) 56 sized.0 in
              let room = ltb-true (length c.queue.messages) c.queue.limit sized.1 in
              let more = length-append c.queue.messages (bytes ∷ []) in
              let fit = numbers_fit in
              replaced (record c.queue { messages = c.queue.messages ++ bytes ∷ [] }) idle idle refl
              refl refl (λ z. absurd (open_apart (sym is ∙ z.0)))
              record {
                limit_some = own.queue.limit_some;
                limit_few = own.queue.limit_few;
                few = (omega arith);
                each = All-append IsMessage c.queue.messages (bytes ∷ []) own.queue.each
                    (All-from_recursion IsMessage (bytes ∷ []) ((short, small), tt));
                numbers = (omega arith);
                alone = λ m z. absurd (let bad = sym is ∙ z in let wrong : ⊥ = cc in wrong);
                owner_bits = own.queue.owner_bits;
              } now

      mark_kept : (m : Mark) → senders' p ≡ Some (mark_in c m)
          → Sending base P x words home senders' owners frames
      mark_kept m new = by_test (can_close c.queue) refl new
        where
          by_test : (b : Bool) → can_close c.queue ≡ b
              → senders' p
              ≡ Some (cond b (record c { queue = record c.queue { phase = Marking m } }) c)
              → Sending base P x words home senders' owners frames
          by_test false e now = unchanged now
          by_test true e now =
              let tests = and_parts (cond c.queue.busy false true) (is_empty c.queue.messages)
              (and_parts (is_open c.queue.phase)
              (cond c.queue.busy false true && is_empty c.queue.messages) e).1 in
              let idle = not_busy c.queue.busy tests.0 in
              let none = empty_is c.queue.messages tests.1 in
              let is = open_is c.queue.phase (and_parts (is_open c.queue.phase)
              (cond c.queue.busy false true && is_empty c.queue.messages) e).0 in
              replaced (record c.queue { phase = Marking m }) idle idle refl refl refl
              (λ z. absurd (open_apart (sym is ∙ z.0)))
              record {
                limit_some = own.queue.limit_some;
                limit_few = own.queue.limit_few;
                few = own.queue.few;
                each = own.queue.each;
                numbers = own.queue.numbers;
                alone = λ k z. none;
                owner_bits = own.queue.owner_bits;
              } now

  -- a sender with all that it has accepted, in the place of the one before
  pub grows : (more : List Accepted) → AreAccepted more → (senders : ℕ → Option (Core E))
      → Sending base P x words home senders owners frames → (c : Core E) → senders p ≡ Some c
      → (senders' : ℕ → Option (Core E)) → Beside p senders senders'
      → senders' p ≡ Some (accepting c more) → Sending base P x words home senders' owners frames
  grows [] each senders h c old senders' beside new = unchanged senders h c old senders' beside new
  grows (Puts bytes ∷ more) each senders h c old senders' beside new =
      let mid : ℕ → Option (Core E) = put p (Some (put_in c bytes)) senders in
      grows more each.1 mid (put_kept senders h c old mid
      (put_beside p (Some (put_in c bytes)) senders) bytes each.0
      (put_here p (Some (put_in c bytes)) senders)) (put_in c bytes)
      (put_here p (Some (put_in c bytes)) senders)
      senders' (λ q ne. beside q ne ∙ sym (put_beside p (Some (put_in c bytes)) senders q ne)) new
  grows (Asks m ∷ more) each senders h c old senders' beside new =
      let mid : ℕ → Option (Core E) = put p (Some (mark_in c m)) senders in
      grows more each mid (mark_kept senders h c old mid (put_beside p (Some (mark_in c m)) senders)
      m (put_here p (Some (mark_in c m)) senders)) (mark_in c m)
      (put_here p (Some (mark_in c m)) senders)
      senders' (λ q ne. beside q ne ∙ sym (put_beside p (Some (mark_in c m)) senders q ne)) new
