-- Each turn of a sender that holds the page keeps what senders, words, page and owners keep: it
-- stores a word of its frame or the length, or gives the page back.
use Rattle.std.proofs.Common.{◌≡◌, ◌≢◌, ℕ, suc, ◌+◌, ◌*◌, ◌<◌, ◌≤◌, Bool, true, false, Option, Some}
use Rattle.std.proofs.Common.{inl, inr, List, [], ◌∷◌, ◌++◌, length, take, ◌||◌, is_some, slice_get}
use Rattle.std.proofs.Common.{slice_index, slice_set, arith, refl, sym, ◌∙◌, ap, subst}
use Rattle.std.proofs.lemmas.Bool.{cases_eq}
use Rattle.std.proofs.lemmas.List.{take_more, get_or-set_same, get_or-set_other}
use Rattle.std.proofs.Math.ListN.{length-set}
use Rattle.std.proofs.Math.Seq.{take-length}
use Rattle.std.proofs.lemmas.Option.{same_Some}
use Rattle.std.proofs.lemmas.Grind.{common_steps}
use Rattle.bus_register.specs.declared.limits.TheConstants.{MOST_SENDERS, MOST_MESSAGES}
use Rattle.bus_register.specs.declared.registers.SenderNo.{SenderNo}
use Rattle.bus_register.specs.Tables.{of_some, Beside}
use Rattle.bus_register.specs.Protocol.{Protocol, Laws}
use Rattle.bus_batch.specs.Batches.{IsKept, next_of, frame_of}
use Rattle.bus_batch.specs.Frames.{Frame, frame_words, IsFrame, items_of, has_end, leaves, order_of}
use Rattle.bus_batch.specs.Frames.{has_gone}
use Rattle.bus_tenure.specs.Core.{Core, Election, Layout, is_leaving, log_at, frame_len, page_after}
use Rattle.bus_tenure.specs.Situations.{core_at_rest, queue_after}
use Rattle.bus_tenure.specs.declared.phases.Reason.{Reason}
use Rattle.bus_tenure.specs.declared.phases.Reason.TheVariants.{Sent}
use Rattle.bus_tenure.specs.declared.pages.Page.{Page}
use Rattle.bus_tenure.specs.declared.phases.Phase.TheVariants as phase
use Rattle.bus_world.specs.Log.{words_read_from, next_number, AreCounted, KeepsFloor, Knows}
use Rattle.bus_world.specs.Private.Sending.{AreEarlier, Logged, stands_at, standing_of, least_of}
use Rattle.bus_world.specs.Private.Sending.{GoesOn, IsWriting, HasBegun, Fits, Part, Sending}
use Rattle.bus_world.proofs.LogLaws.{read-agree, Logged-agree, Logged-publish, next-append_other}
use Rattle.bus_world.proofs.LogLaws.{next-append_owner, gone-append_owner, gone-append_other}
use Rattle.bus_world.proofs.LogLaws.{say_same, has_end-append, AreEarlier-append, AreEarlier-later}
use Rattle.bus_batch.proofs.BatchLaws.{is_frame}
use Rattle.bus_world.proofs.FrameOfBatch.{counted_frame, length-items, ends-body, leaves-body}
use Rattle.bus_ownerbits.specs.OneOwner.{OneOwner}
use Rattle.bus_world.specs.Private.Tenures.{Standing}
use Rattle.bus_world.specs.Private.Tenures.Standing.{Holds}
use Rattle.bus_world.proofs.TenuresLaws as tenures
use Rattle.bus_world.specs.World.{IsLayout}
use Rattle.bus_world.proofs.SenderParts.{still_here, Knows-len, part_of, IsUnsent, left_shut}
use Rattle.bus_world.proofs.SenderParts.{noted_own, noted_other, not_busy, sender_after, none_short}
use Rattle.bus_world.proofs.SenderParts.{unsent_goes_on, unsent_queue, unsent_knows}
use Rattle.bus_world.proofs.SenderParts.{limit_after, floor_after, AreOwned-append}
use Rattle.bus_world.proofs.BusLaws as bus

module _ {E : Type 0} (X : Election E) (P : Protocol E (Unit {0}) ℕ)
    (laws : Laws X.op X.fed P OneOwner) (x : Layout) (ok : IsLayout x)
    (width : x.width ≡ P.width x.senders) where
  module _ {base : ℕ → ℕ} (words : ℕ → ℕ) (home : Option Page) (senders : ℕ → Option (Core E))
      (owners : List ℕ) (frames : List Frame)
      (h : Sending base P x words home senders owners frames) where
    abbrev S : ℕ → Option (Standing E)
    S q = of_some standing_of (senders q)

    abbrev L : ℕ → ℕ
    L q = least_of (senders q)

    module _ (p : ℕ) (c c' : Core E) (senders' : ℕ → Option (Core E)) (old : senders p ≡ Some c)
        (new : senders' p ≡ Some c') (beside : Beside p senders senders') where
      abbrev S' : ℕ → Option (Standing E)
      S' q = of_some standing_of (senders' q)

      abbrev L' : ℕ → ℕ
      L' q = least_of (senders' q)

      open bus.turn_facts X P laws x ok width words home senders owners frames h p c c' senders' old
          new beside use {
            stand,
            S-beside,
            L-beside,
            now,
            L-same,
            S-same,
            parts_from,
            chosen_resting,
            chosen_holding,
            others_rest,
            others_agree,
          }

      module _ (t : ℕ) (page : Page) (stored : ℕ) (published : Bool)
          (holds : c.phase ≡ phase.Holding t page stored published) where
        own_part : Part base x words frames p c
        own_part = h.parts p c old

        is_holder : S p ≡ Some (Holds t)
        is_holder = stand p c old ∙ ap (λ z. Some (stands_at z)) holds

        held : (t ≡ h.tenures.ended) × (words 1 ≡ 2 * t + 1) × (slice_get owners t ≡ Some p)
            × (L p ≤ t)
        held = h.tenures.holding p t is_holder

        -- where no word of the log is used again
        pub floor_flat : x.passers ≡ 0 → KeepsFloor page
        floor_flat flat = grind (arith, common_steps, own_part)

        -- ── it stores the next word of its frame ──
        module _ (words' : ℕ → ℕ) (none_yet : published ≡ false) (is_open : page.ended ≡ false)
            (room : page.words + frame_len c ≤ c.layout.capacity + page.floor)
            (more : stored < frame_len c)
            (word : words' (log_at c.layout + page.words + stored)
            ≡ slice_index (frame_words (frame_of c.queue t)) stored)
            (elsewhere : (r : ℕ) → r ≢ log_at c.layout + page.words + stored → words' r ≡ words r)
            (goes : c' ≡ record c { phase = phase.Holding t page (stored + 1) false }) where
          writing : HasBegun c.queue × IsWriting base words frames c t page stored
          writing = subst (λ z. Fits base words frames c (phase.Holding t page stored z)) none_yet
              (subst (Fits base words frames c) holds own_part.fits)

          place : log_at c.layout + page.words + stored ≡ log_at x + words 0 + stored
          place = grind (arith, common_steps, own_part, writing)

          past : (r : ℕ) → r < log_at x + words 0 + stored → words' r ≡ words r
          past r l = elsewhere r (let e = place in omega arith)

          len_same : words' 0 ≡ words 0
          len_same = past 0 (omega arith)

          stage_same : words' 1 ≡ words 1
          stage_same = past 1 (omega arith)

          one_more : IsWriting base words' frames
              (record c { phase = phase.Holding t page (stored + 1) false }) t page (stored + 1)
          one_more = let w = writing.1 in record {
            goes_on = w.goes_on;
            page_knows = Knows-len page frames t (words 0) (words' 0) len_same w.page_knows;
            earlier = w.earlier;
            stored_below = omega arith;
            flat = w.flat;
            allowed = λ z. (is_open, room);
            words_are =
                let at = log_at c.layout + words' 0 in
                let same_at : log_at c.layout + words' 0 ≡ log_at x + words 0 =
                ap (λ z. log_at c.layout + z) len_same
                ∙ ap (λ z. log_at z + words 0) own_part.layout in
                let before : words_read_from words' (log_at c.layout + words' 0) stored
                ≡ take stored (frame_words (frame_of c.queue t)) =
                read-agree words words' (log_at c.layout + words' 0) stored
                (λ r a b. past r (omega arith))
                ∙ ap (λ z. words_read_from words (log_at c.layout + z) stored) len_same
                ∙ w.words_are in
                let last : words' (log_at c.layout + words' 0 + stored)
                ≡ slice_index (frame_words (frame_of c.queue t)) stored =
                ap words' (let e = place in omega arith) ∙ word in
                ap (words_read_from words' (log_at c.layout + words' 0))
                (let e : stored + 1 ≡ suc stored = omega arith in e)
                ∙ ap (λ z. z ++ words' (log_at c.layout + words' 0 + stored) ∷ []) before
                ∙ ap (λ z. take stored (frame_words (frame_of c.queue t)) ++ z ∷ []) last
                ∙ sym (take_more (frame_words (frame_of c.queue t)) stored 0 more);
          }

          pub writes : Sending base P x words' home senders' owners frames
          writes = record {
            tenures = tenures.same X.op X.fed P laws x.senders x.rows 2 words (words 1)
                (is_some home) S L owners h.tenures words' (words' 1) (is_some home) S' L' owners
                (λ r a b. past r (let w = ap (λ z. x.rows * z) width in omega arith)) stage_same
                refl (S-same (ap (λ z. stands_at z.phase) goes ∙ sym (ap stands_at holds)))
                (L-same (ap (λ z. z.least) goes)) refl;
            log = subst (λ z. Logged base x words' z frames) (sym len_same)
                (Logged-agree x words (words 0) frames h.log words'
                (λ r a b. past r (omega arith)));
            owned = h.owned;
            page_knows = λ g u a b.
                let k = h.page_knows g u a (sym stage_same ∙ b) in
                (Knows-len g frames u (words 0) (words' 0) len_same k.0, k.1);
            flat_home = h.flat_home;
            parts = parts_from words' frames
                (others_rest t words' frames is_holder (λ q ne. (refl, refl)))
                (subst (Part base x words' frames p) (sym goes)
                (part_of x words words' frames frames p c (phase.Holding t page (stored + 1) false)
                own_part (writing.0, one_more)));
            chosen = chosen_holding t page (stored + 1) false (ap (λ z. z.phase) goes);
          }

        -- ── its page gets a higher floor, where words of the log are used again ──
        module _ (floor : ℕ) (higher : page.floor ≤ floor) (low : floor ≤ page.words)
            (again : x.passers ≡ 0 → ⊥)
            (goes : c'
            ≡ record c { phase = phase.Holding t (record page { floor = floor }) stored published })
          where
            abbrev raised : Page
            raised = record page { floor = floor }

            knows_raised : (fs : List Frame) (past len : ℕ) → Knows base page fs past len
                → Knows base raised fs past len
            knows_raised fs past len k = assumption

            never_flat : c.layout.passers ≡ 0 → ⊥
            never_flat flat = again (sym (ap (λ (z : Layout). z.passers) own_part.layout) ∙ flat)

            fits_raised : (b : Bool) → Fits base words frames c (phase.Holding t page stored b)
                → Fits base words frames
                (record c { phase = phase.Holding t raised stored published })
                (phase.Holding t raised stored b)
            fits_raised false f = grind (arith, common_steps, knows_raised, never_flat)
            fits_raised true f = grind (arith, common_steps, knows_raised, never_flat)

            pub raises : Sending base P x words home senders' owners frames
            raises = record {
              tenures = grind (arith, common_steps, tenures.same, is_some);
              log = h.log;
              owned = h.owned;
              page_knows = h.page_knows;
              flat_home = h.flat_home;
              parts = parts_from words frames (λ q d ne e. h.parts q d e)
                  (subst (Part base x words frames p) (sym goes)
                  (part_of x words words frames frames p c (phase.Holding t raised stored published)
                  own_part (fits_raised published (subst (Fits base words frames c) holds
                  own_part.fits))));
              chosen = chosen_holding t raised stored published (ap (λ z. z.phase) goes);
            }

        -- ── it stores the length ──
        module _ (words' : ℕ → ℕ) (none_yet : published ≡ false) (is_open : page.ended ≡ false)
            (room : page.words + frame_len c ≤ c.layout.capacity + page.floor)
            (all : frame_len c ≤ stored)
            (word : words' 0 ≡ page.words + frame_len c)
            (elsewhere : (r : ℕ) → r ≢ 0 → words' r ≡ words r)
            (goes : c' ≡ record c { phase = phase.Holding t page stored true }) where
          abbrev f : Frame
          f = frame_of c.queue t

          written : HasBegun c.queue × IsWriting base words frames c t page stored
          written = subst (λ z. Fits base words frames c (phase.Holding t page stored z)) none_yet
              (subst (Fits base words frames c) holds own_part.fits)

          in_rows : t < x.rows
          in_rows = (h.tenures.owned t p held.2).0

          sender_is : c.queue.sender.0 ≡ p
          sender_is = own_part.sender

          still_open : has_end frames ≡ false
          still_open = sym written.1.page_knows.ended ∙ is_open

          frame_lawful : IsFrame x.senders f
          frame_lawful = is_frame MOST_MESSAGES c.queue x.senders t own_part.queue.limit_few
              written.0.something own_part.queue
              (let a = sender_is in let b = own_part.below in omega arith)
              (let a = in_rows in let b = ok.rows in omega arith)

          frame_short : length (items_of f) ≤ x.batch
          frame_short =
              let a = length-items c.queue t own_part.queue in
              let b = own_part.queue.few in let e = own_part.limit in omega arith

          all_stored : stored ≡ frame_len c
          all_stored = let a = written.1.stored_below in omega arith

          whole : words_read_from words (log_at x + words 0) (length (frame_words f))
              ≡ frame_words f
          whole =
              grind (arith, common_steps, length, own_part, all_stored, written, take, take-length)

          len_now : words' 0 ≡ words 0 + length (frame_words f)
          len_now = word ∙ ap (λ z. z + frame_len c) written.1.page_knows.words

          counts : AreCounted (next_number base f.owner.0 frames) (items_of f)
          counts = subst (λ z. AreCounted z (items_of f))
              (written.1.goes_on.0
              ∙ ap (λ z. next_number base z frames) (own_part.me ∙ sym sender_is))
              (counted_frame c.queue t)

          has_stayed : has_gone f.owner.0 (order_of frames) ≡ false
          has_stayed = grind (arith, common_steps, own_part, sender_is, still_here, written)

          -- where no word of the log is used again
          fits_flat : x.passers ≡ 0 → words 0 + length (frame_words f) ≤ x.capacity
          fits_flat flat = grind (arith, common_steps, floor_flat, written, own_part)

          pub publishes : Sending base P x words' home senders' owners (frames ++ f ∷ [])
          publishes = record {
            tenures = tenures.same X.op X.fed P laws x.senders x.rows 2 words (words 1)
                (is_some home) S L owners h.tenures words' (words' 1) (is_some home) S' L' owners
                (λ r a b. elsewhere r (omega arith)) (elsewhere 1 (omega arith)) refl
                (S-same (ap (λ z. stands_at z.phase) goes ∙ sym (ap stands_at holds)))
                (L-same (ap (λ z. z.least) goes)) refl;
            log = subst (λ z. Logged base x words' z (frames ++ f ∷ [])) (sym len_now)
                (Logged-agree x words (words 0 + length (frame_words f)) (frames ++ f ∷ [])
                (Logged-publish x words (words 0) frames h.log f frame_lawful frame_short still_open
                has_stayed
                written.1.earlier counts whole fits_flat)
                words' (λ r a b. elsewhere r (omega arith)));
            owned = AreOwned-append owners frames f h.owned (held.2 ∙ ap Some (sym sender_is));
            page_knows = λ g u a b.
                absurd (let y = elsewhere 1 (omega arith) in let z = held.1 in omega arith);
            flat_home = h.flat_home;
            parts = parts_from words' (frames ++ f ∷ [])
                (others_rest t words' (frames ++ f ∷ []) is_holder
                (λ q ne. say_same base q frames f (λ e. ne (e ∙ sender_is))))
                (subst (Part base x words' (frames ++ f ∷ []) p) (sym goes)
                (part_of x words words' frames (frames ++ f ∷ []) p c
                (phase.Holding t page stored true) own_part (
                  written.0,
                  record {
                    front = frames;
                    frames_are = refl;
                    goes_on = written.1.goes_on;
                    page_knows = Knows-len page frames t (words 0) page.words
                        written.1.page_knows.words written.1.page_knows;
                    flat = written.1.flat;
                    earlier = written.1.earlier;
                    is_open = is_open;
                    len_is = word;
                  },
                )));
            chosen = chosen_holding t page stored true (ap (λ z. z.phase) goes);
          }

        -- ── it gives the page back ──
        module _ (reason : Reason) (words' : ℕ → ℕ) (stage : words' 1 ≡ 2 * t + 2)
            (elsewhere : (r : ℕ) → r ≢ 1 → words' r ≡ words r) (goes : c' ≡ core_at_rest c reason t)
            (goes_on_now : GoesOn base frames (core_at_rest c reason t))
            (queue_now : IsKept (queue_after reason c.queue))
            (knows_now : Knows base (page_after c t page reason) frames (t + 1) (words 0))
            (earlier_now : AreEarlier (t + 1) frames) where
          rests_now : Fits base words' frames (core_at_rest c reason t) phase.Resting
          rests_now = (not_busy reason c.queue, goes_on_now)

          pub gives_back : Sending base P x words' (Some (page_after c t page reason)) senders'
              owners frames
          gives_back = record {
            tenures = tenures.same X.op X.fed P laws x.senders x.rows 2 words (2 * t + 2) true S' L'
                owners
                (tenures.gives X.op X.fed P laws x.senders x.rows 2 words (words 1) (is_some home) S
                L owners h.tenures p t is_holder S' (now ∙ ap (λ z. Some (stands_at z.phase)) goes)
                S-beside L' (ap least_of new ∙ ap (λ z. z.least) goes) L-beside)
                words' (words' 1) true S' L' owners (λ r a b. elsewhere r (omega arith)) stage refl
                (λ q. refl) (λ q. refl) refl;
            log = subst (λ z. Logged base x words' z frames) (sym (elsewhere 0 (omega arith)))
                (Logged-agree x words (words 0) frames h.log words'
                (λ r a b. elsewhere r (omega arith)));
            owned = h.owned;
            page_knows = λ g u a b. grind (arith, common_steps, same_Some, Knows-len);
            flat_home = λ flat g a.
                subst KeepsFloor (same_Some _ _ a) (floor_after c t page reason ∙ floor_flat flat);
            parts = parts_from words' frames (others_agree words'
                (λ r a. elsewhere r (omega arith)) (elsewhere 0 (omega arith)))
                (subst (Part base x words' frames p) (sym goes) record {
                  layout = own_part.layout;
                  me = own_part.me;
                  below = own_part.below;
                  sender =
                      ap (λ (z : SenderNo). z.0) (sender_after reason c.queue) ∙ own_part.sender;
                  limit = limit_after reason c.queue ∙ own_part.limit;
                  queue = queue_now;
                  fits = rests_now;
                });
            chosen = chosen_resting (ap (λ z. z.phase) goes);
          }

        -- what was not published changes nothing
        module _ (words' : ℕ → ℕ) (stage : words' 1 ≡ 2 * t + 2)
            (elsewhere : (r : ℕ) → r ≢ 1 → words' r ≡ words r) where
          pub gives_unsent : (reason : Reason) → IsUnsent reason → published ≡ false
              → c' ≡ core_at_rest c reason t
              → Sending base P x words' (Some (page_after c t page reason)) senders' owners frames
          gives_unsent reason unsent none_yet goes =
              let w = subst (λ z. Fits base words frames c (phase.Holding t page stored z)) none_yet
              (subst (Fits base words frames c) holds own_part.fits) in
              gives_back reason words' stage elsewhere goes
              (unsent_goes_on base frames reason unsent c t w.1.goes_on)
              (unsent_queue reason unsent c.queue own_part.queue)
              (unsent_knows reason unsent c t page frames (words 0) w.1.page_knows)
              (AreEarlier-later t (t + 1) frames (omega arith) w.1.earlier)

          pub gives_sent : published ≡ true → c' ≡ core_at_rest c Sent t
              → Sending base P x words' (Some (page_after c t page Sent)) senders' owners frames
          gives_sent sent_yet goes =
              let w = subst (λ z. Fits base words frames c (phase.Holding t page stored z)) sent_yet
              (subst (Fits base words frames c) holds own_part.fits) in
              let f = frame_of c.queue t in
              let me_is : c.queue.sender.0 ≡ c.me = own_part.sender ∙ sym own_part.me in
              let base_now : next_of c.queue ≡ next_number base c.me frames =
              ap (λ z. z + length c.queue.messages) w.1.goes_on.0
              ∙ ap (λ z. next_number base c.me w.1.front + z)
              (sym (length-items c.queue t own_part.queue))
              ∙ ap (λ z. next_number base z w.1.front + length (items_of f)) (sym me_is)
              ∙ sym (next-append_owner base w.1.front f)
              ∙ ap (λ z. next_number base z (w.1.front ++ f ∷ [])) me_is
              ∙ ap (next_number base c.me) (sym w.1.frames_are) in
              let k = w.1.page_knows in
              let small : c.me < MOST_SENDERS =
              let a = own_part.me in let b = own_part.below in let d = ok.senders in omega arith in
              let stayed : has_gone c.me (order_of w.1.front) ≡ false =
              still_here base w.1.front c w.1.goes_on w.0.is_open in
              let gone_now : has_gone c.me (order_of frames) ≡ is_leaving c.queue.phase =
              ap (λ z. has_gone c.me (order_of z)) w.1.frames_are
              ∙ ap (λ z. has_gone z (order_of (w.1.front ++ f ∷ []))) (sym me_is)
              ∙ gone-append_owner w.1.front f
              ∙ ap (λ z. has_gone z (order_of w.1.front) || leaves f.body) me_is
              ∙ ap (λ b. b || leaves f.body) stayed ∙ leaves-body c.queue in
              let others_gone : (s : ℕ) → s ≢ c.me
              → has_gone s (order_of w.1.front) ≡ has_gone s (order_of frames) =
              λ s ne.
              sym (gone-append_other s w.1.front f (λ e. ne (e ∙ me_is)))
              ∙ ap (λ z. has_gone s (order_of z)) (sym w.1.frames_are) in
              gives_back Sent words' stage elsewhere goes (
                base_now,
                λ gone. (left_shut c.queue.phase (sym gone_now ∙ gone), refl),
              )
              record {
                limit_some = own_part.queue.limit_some;
                limit_few = own_part.queue.limit_few;
                few = omega arith;
                each = none_short;
                numbers = (let a = own_part.queue.numbers in omega arith);
                alone = λ m z. refl;
                owner_bits = own_part.queue.owner_bits;
              }
              record {
                entries = length-set page.next c.me (next_of c.queue) ∙ k.entries;
                next = λ s l. elim (cases_eq s c.me) [
                  | inl i ↦ grind (arith, common_steps, slice_index, slice_set, get_or-set_same)
                  | inr ne ↦
                      get_or-set_other page.next c.me s (next_of c.queue) 0 ne ∙ k.next s l
                      ∙ sym (next-append_other base s w.1.front f (λ e. ne (e ∙ me_is)))
                      ∙ ap (next_number base s) (sym w.1.frames_are)
                ];
                left = λ s l. elim (cases_eq s c.me) [
                  | inl i ↦ grind (arith, common_steps, slice_get, noted_own)
                  | inr ne ↦
                      noted_other page.left c.me (is_leaving c.queue.phase) s ne ∙ k.left s l
                      ∙ ap Some (others_gone s ne)
                ];
                ended = grind (arith, common_steps, ends-body, has_end-append);
                tenures = refl;
                words = sym w.1.len_is;
                floor = (let a = k.floor in omega arith);
              }
              (subst (AreEarlier (t + 1)) (sym w.1.frames_are)
              (AreEarlier-append (t + 1) w.1.front f
              (AreEarlier-later t (t + 1) w.1.front (omega arith) w.1.earlier) (omega arith)))
