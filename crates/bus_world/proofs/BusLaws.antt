-- Each turn of a sender that holds no page keeps what senders, words, page and owners keep.
use Rattle.std.proofs.Common.{◌≡◌, ◌≢◌, ℕ, ◌+◌, ◌*◌, ◌<◌, ◌≤◌, Bool, false, Option, Some, None, ◌⊎◌}
use Rattle.std.proofs.Common.{inl, inr, List, [], ◌∷◌, ◌++◌, is_some, slice_get, arith, refl, sym}
use Rattle.std.proofs.Common.{◌∙◌, ap, subst}
use Rattle.std.proofs.lemmas.Bool.{cases_eq, true≢false}
use Rattle.std.proofs.lemmas.Option.{same_Some}
use Rattle.std.proofs.lemmas.Grind.{common_steps}
use Rattle.bus_register.specs.declared.registers.Op.{Op}
use Rattle.bus_register.specs.Words.{register, after}
use Rattle.bus_register.specs.Tables.{of_some, Beside, Stepped, put}
use Rattle.bus_register.specs.Protocol.{Protocol, Laws}
use Rattle.bus_batch.specs.Frames.{Frame}
use Rattle.bus_tenure.specs.Core.{Core, Election, Layout, log_at}
use Rattle.bus_tenure.specs.Situations.{core_at_rest}
use Rattle.bus_tenure.specs.declared.pages.Page.{Page}
use Rattle.bus_tenure.specs.declared.phases.Phase.TheVariants as phase
use Rattle.bus_world.specs.Log.{AgreeFrom, Knows}
use Rattle.bus_world.specs.Private.Sending.{AreEarlier, Logged, stands_at, standing_of, least_of}
use Rattle.bus_world.specs.Private.Sending.{IsWriting, HasBegun, Fits, Part, Sending}
use Rattle.bus_register.specs.Private.TableLaws.{put_here, put_beside, some_or_none}
use Rattle.bus_world.proofs.LogLaws.{Logged-agree, SaySame}
use Rattle.bus_ownerbits.specs.OneOwner.{OneOwner}
use Rattle.bus_ownerbits.proofs.ElectionSteps.{row_within}
use Rattle.bus_world.specs.Private.Tenures.{Standing}
use Rattle.bus_world.specs.Private.Tenures.Standing.{Runs, Holds}
use Rattle.bus_world.proofs.TenuresLaws as tenures
use Rattle.bus_world.specs.World.{IsLayout}
use Rattle.bus_world.proofs.SenderParts.{Knows-len, Part-agree, Part-rests, part_of, AreOwned-push}

-- one step on the words: the step's own word has changed and no other
pub record Changes (o : Op) (words words' : ℕ → ℕ) : Type 0 where
  pub here : words' (register o) ≡ after o (words (register o))
  pub elsewhere : (r : ℕ) → r ≢ register o → words' r ≡ words r

-- a sender that is as before, beside others that are
pub same_senders : {E : Type 0} (p : ℕ) (c : Core E) (senders senders' : ℕ → Option (Core E))
    → senders p ≡ Some c → senders' p ≡ Some c → Beside p senders senders' → senders' ≡ senders
same_senders p c senders senders' old new beside = grind (arith, common_steps, cases_eq)

pub resting_apart : {E : Type 0} (t : ℕ) (e : E) → phase.Resting ≡ phase.Electing t e → ⊥
resting_apart t e h = cc

pub holding_apart : {E : Type 0} (u : ℕ) (page : Page) (k : ℕ) (published : Bool) (t : ℕ) (e : E)
    → phase.Holding u page k published ≡ phase.Electing t e → ⊥
holding_apart u page k published t e h = cc

pub same_electing : {E : Type 0} (t u : ℕ) (e f : E) → phase.Electing t e ≡ phase.Electing u f
    → (t ≡ u) × (e ≡ f)
same_electing t u e f h = (cc, cc)

module _ {E : Type 0} (X : Election E) (P : Protocol E (Unit {0}) ℕ)
    (laws : Laws X.op X.fed P OneOwner) (x : Layout) (ok : IsLayout x)
    (width : x.width ≡ P.width x.senders) where
  module _ {base : ℕ → ℕ} (words : ℕ → ℕ) (home : Option Page) (senders : ℕ → Option (Core E))
      (owners : List ℕ) (frames : List Frame)
      (h : Sending base P x words home senders owners frames) where
    abbrev S : ℕ → Option (Standing E)
    S q = of_some standing_of (senders q)

    abbrev L : ℕ → ℕ
    L q = least_of (senders q)

    -- a start has no owner
    unstarted : (p at : ℕ) → p < x.senders → P.output (P.started x.senders p tt at) ≡ None
    unstarted p at below = elim (some_or_none (X.op (P.started x.senders p tt at) 0)) [
      | inr o ↦ laws.unended (P.started x.senders p tt at) 0 o.0 o.1
      | inl none ↦ grind (arith, common_steps, true≢false)
    ]

    -- where a sender stands
    stand : (p : ℕ) (c : Core E) → senders p ≡ Some c → S p ≡ Some (stands_at c.phase)
    stand p c e = ap (of_some standing_of) e

    least_is : (p : ℕ) (c : Core E) → senders p ≡ Some c → L p ≡ c.least
    least_is p c e = ap least_of e

    -- at most one sender holds the page
    one_holder : (p q t u : ℕ) → S p ≡ Some (Holds t) → S q ≡ Some (Holds u) → p ≡ q
    one_holder p q t u a b =
        let i = h.tenures.holding p t a in let j = h.tenures.holding q u b in
        same_Some _ _ (sym i.2 ∙ ap (slice_get owners) (i.0 ∙ sym j.0) ∙ j.2)

    module _ (p : ℕ) (c c' : Core E) (senders' : ℕ → Option (Core E)) (old : senders p ≡ Some c)
        (new : senders' p ≡ Some c') (beside : Beside p senders senders') where
      abbrev S' : ℕ → Option (Standing E)
      S' q = of_some standing_of (senders' q)

      abbrev L' : ℕ → ℕ
      L' q = least_of (senders' q)

      S-beside : Beside p S S'
      S-beside q ne = ap (of_some standing_of) (beside q ne)

      L-beside : Beside p L L'
      L-beside q ne = ap least_of (beside q ne)

      now : S' p ≡ Some (stands_at c'.phase)
      now = ap (of_some standing_of) new

      L-same : c'.least ≡ c.least → (q : ℕ) → L' q ≡ L q
      L-same e q = grind (arith, common_steps, cases_eq, L-beside)

      S-same : stands_at c'.phase ≡ stands_at c.phase → (q : ℕ) → S' q ≡ S q
      S-same e q = grind (arith, common_steps, cases_eq, now, S-beside)

      parts_from : (words' : ℕ → ℕ) (frames' : List Frame)
          → ((q : ℕ) (d : Core E) → q ≢ p → senders q ≡ Some d → Part base x words' frames' q d)
          → Part base x words' frames' p c' → (q : ℕ) (d : Core E) → senders' q ≡ Some d
          → Part base x words' frames' q d
      parts_from words' frames' others own q d e = elim (cases_eq q p) [
        | inl i ↦ grind (arith, common_steps, same_Some)
        | inr ne ↦ others q d ne (sym (beside q ne) ∙ e)
      ]

      chosen_from :
          ((t : ℕ) (e : E) (o : ℕ) → c'.phase ≡ phase.Electing t e → P.output e ≡ Some o → o ≡ p)
          → (q : ℕ) (d : Core E) (t : ℕ) (e : E) (o : ℕ) → senders' q ≡ Some d
          → d.phase ≡ phase.Electing t e → P.output e ≡ Some o → o ≡ q
      chosen_from own q d t e o a b out = grind (arith, common_steps, cases_eq, same_Some)

      chosen_resting : c'.phase ≡ phase.Resting → (q : ℕ) (d : Core E) (t : ℕ) (e : E) (o : ℕ)
          → senders' q ≡ Some d → d.phase ≡ phase.Electing t e → P.output e ≡ Some o → o ≡ q
      chosen_resting rests = chosen_from (λ t e o a b. absurd (resting_apart t e (sym rests ∙ a)))

      chosen_holding : (u : ℕ) (page : Page) (k : ℕ) (published : Bool)
          → c'.phase ≡ phase.Holding u page k published
          → (q : ℕ) (d : Core E) (t : ℕ) (e : E) (o : ℕ) → senders' q ≡ Some d
          → d.phase ≡ phase.Electing t e → P.output e ≡ Some o → o ≡ q
      chosen_holding u page k published holds =
          chosen_from (λ t e o a b. absurd (holding_apart u page k published t e (sym holds ∙ a)))

      -- the others, where p alone may hold the page
      others_rest : (t : ℕ) (words' : ℕ → ℕ) (frames' : List Frame) → S p ≡ Some (Holds t)
          → ((q : ℕ) → q ≢ p → SaySame base q frames frames') → (q : ℕ) (d : Core E) → q ≢ p
          → senders q ≡ Some d → Part base x words' frames' q d
      others_rest t words' frames' holds same q d ne e = Part-rests x words words' frames frames' q
          d (λ u f. ne (sym (one_holder p q t u holds (stand q d e ∙ ap Some f)))) (same q ne)
          (h.parts q d e)

      others_agree : (words' : ℕ → ℕ) → AgreeFrom (log_at x) words words'
          → words' 0 ≡ words 0 → (q : ℕ) (d : Core E) → q ≢ p → senders q ≡ Some d
          → Part base x words' frames q d
      others_agree words' agree len q d ne e =
          Part-agree x words words' frames q d agree len (h.parts q d e)

      -- what of this the file of a holder's turns opens
      pub record TurnFacts : Type 0 where
        pub stand : (p : ℕ) (c : Core E) → senders p ≡ Some c → S p ≡ Some (stands_at c.phase)
        pub S-beside : Beside p S S'
        pub L-beside : Beside p L L'
        pub now : S' p ≡ Some (stands_at c'.phase)
        pub L-same : c'.least ≡ c.least → (q : ℕ) → L' q ≡ L q
        pub S-same : stands_at c'.phase ≡ stands_at c.phase → (q : ℕ) → S' q ≡ S q
        pub parts_from : (words' : ℕ → ℕ) (frames' : List Frame)
            → ((q : ℕ) (d : Core E) → q ≢ p → senders q ≡ Some d → Part base x words' frames' q d)
            → Part base x words' frames' p c' → (q : ℕ) (d : Core E) → senders' q ≡ Some d
            → Part base x words' frames' q d
        pub chosen_resting : c'.phase ≡ phase.Resting → (q : ℕ) (d : Core E) (t : ℕ) (e : E) (o : ℕ)
            → senders' q ≡ Some d → d.phase ≡ phase.Electing t e → P.output e ≡ Some o → o ≡ q
        pub chosen_holding : (u : ℕ) (page : Page) (k : ℕ) (published : Bool)
            → c'.phase ≡ phase.Holding u page k published
            → (q : ℕ) (d : Core E) (t : ℕ) (e : E) (o : ℕ) → senders' q ≡ Some d
            → d.phase ≡ phase.Electing t e → P.output e ≡ Some o → o ≡ q
        pub others_rest : (t : ℕ) (words' : ℕ → ℕ) (frames' : List Frame) → S p ≡ Some (Holds t)
            → ((q : ℕ) → q ≢ p → SaySame base q frames frames') → (q : ℕ) (d : Core E) → q ≢ p
            → senders q ≡ Some d → Part base x words' frames' q d
        pub others_agree : (words' : ℕ → ℕ) → AgreeFrom (log_at x) words words'
            → words' 0 ≡ words 0 → (q : ℕ) (d : Core E) → q ≢ p → senders q ≡ Some d
            → Part base x words' frames q d

      pub turn_facts : TurnFacts
      turn_facts = record {
        stand = stand;
        S-beside = S-beside;
        L-beside = L-beside;
        now = now;
        L-same = L-same;
        S-same = S-same;
        parts_from = parts_from;
        chosen_resting = chosen_resting;
        chosen_holding = chosen_holding;
        others_rest = others_rest;
        others_agree = others_agree;
      }

      -- ── a load of the stage that raises the first tenure it may enter ──
      pub spends : c'.phase ≡ phase.Resting → c.phase ≡ phase.Resting → c.least ≤ c'.least
          → Part base x words frames p c' → Sending base P x words home senders' owners frames
      spends rests core_at_rest more part = record {
        tenures = tenures.same X.op X.fed P laws x.senders x.rows 2 words (words 1) (is_some home) S
            L' owners
            (tenures.raises X.op X.fed P laws x.senders x.rows 2 words (words 1) (is_some home) S L
            owners h.tenures p L' (stand p c old ∙ ap (λ z. Some (stands_at z)) core_at_rest)
            L-beside
            (let a = least_is p c old in let b = ap least_of new in omega arith))
            words (words 1) (is_some home) S' L' owners (λ r a b. refl) refl refl
            (S-same (ap stands_at (rests ∙ sym core_at_rest))) (λ q. refl) refl;
        log = h.log;
        owned = h.owned;
        page_knows = h.page_knows;
        flat_home = h.flat_home;
        parts = parts_from words frames (λ q d ne e. h.parts q d e) part;
        chosen = chosen_resting rests;
      }

      -- ── a load of the stage that begins a tenure which was opened ──
      pub begins : (t : ℕ) → c.phase ≡ phase.Resting → 2 * t ≤ words 1 → c.least ≤ t → t < x.rows
          → p < x.senders
          → c'.phase ≡ phase.Electing t (P.started x.senders p tt (2 + t * P.width x.senders))
          → c'.least ≡ c.least → Part base x words frames p c'
          → Sending base P x words home senders' owners frames
      begins t core_at_rest reached enters room below began least part = record {
        tenures = tenures.same X.op X.fed P laws x.senders x.rows 2 words (words 1) (is_some home)
            S' L owners
            (tenures.begins X.op X.fed P laws x.senders x.rows 2 words (words 1) (is_some home) S L
            owners h.tenures p t below (omega (arith, ok.senders))
            (stand p c old ∙ ap (λ z. Some (stands_at z)) core_at_rest) reached
            (let a = least_is p c old in omega arith) room S'
            (now ∙ ap (λ z. Some (stands_at z)) began) S-beside)
            words (words 1) (is_some home) S' L' owners (λ r a b. refl) refl refl (λ q. refl)
            (L-same least) refl;
        log = h.log;
        owned = h.owned;
        page_knows = h.page_knows;
        flat_home = h.flat_home;
        parts = parts_from words frames (λ q d ne e. h.parts q d e) part;
        chosen = grind (arith, common_steps, chosen_from, same_electing, unstarted);
      }

      -- words of rows and words of the log are apart
      in_row : (t : ℕ) → t < x.rows → (r : ℕ) → r < 2 + t * P.width x.senders + P.width x.senders
          → r < log_at x
      in_row t room r l = grind (arith, common_steps, row_within)

      module _ (t : ℕ) (e : E) (word : ℕ) (o : Op) (words' : ℕ → ℕ)
          (elects : c.phase ≡ phase.Electing t e) (next : X.op e word ≡ Some o)
          (step : Changes o words words') where
        abbrev later : E
        later = X.fed e (words (register o)) word

        runs : S p ≡ Some (Runs t e)
        runs = stand p c old ∙ ap (λ z. Some (stands_at z)) elects

        -- its word is one of its row
        row_bounds : (t < x.rows) × (2 + t * P.width x.senders ≤ register o)
            × (register o < 2 + t * P.width x.senders + P.width x.senders)
        row_bounds = tenures.within_its_row X.op X.fed P laws x.senders x.rows 2 words (words 1)
            (is_some home) S L owners h.tenures p t e word o runs next

        outside : (r : ℕ) → (r < 2) ⊎ (log_at x ≤ r) → words' r ≡ words r
        outside r c = step.elsewhere r (let b = in_row t row_bounds.0 (register o) row_bounds.2 in
            let a = row_bounds.1 in elim c [ inl l ↦ omega arith | inr l ↦ omega arith ])

        stepped : Stepped 2 (x.rows * P.width x.senders) o words words'
        stepped = record { here = step.here; elsewhere = λ r a b ne. step.elsewhere r ne }

        log_agrees : AgreeFrom (log_at x) words words'
        log_agrees r a = outside r (inr a)

        row_log : Logged base x words' (words' 0) frames
        row_log = subst (λ z. Logged base x words' z frames) (sym (outside 0 (inl (omega arith))))
            (Logged-agree x words (words 0) frames h.log words' (λ r a b. log_agrees r a))

        knows_row : (page : Page) (u : ℕ) → home ≡ Some page → words' 1 ≡ 2 * u
            → Knows base page frames u (words' 0) × AreEarlier u frames
        knows_row page u a b =
            let k = h.page_knows page u a (sym (outside 1 (inl (omega arith))) ∙ b) in
            (Knows-len page frames u (words 0) (words' 0) (outside 0 (inl (omega arith))) k.0, k.1)

        -- ── a step of its election ──
        pub elects_on : c'.phase ≡ phase.Electing t later → c'.least ≡ c.least
            → ((u : ℕ) → P.output later ≡ Some u → u ≡ p) → Part base x words' frames p c'
            → Sending base P x words' home senders' owners frames
        elects_on goes least mine part = record {
          tenures = tenures.same X.op X.fed P laws x.senders x.rows 2 words' (words 1)
              (is_some home) S' L owners
              (tenures.elects X.op X.fed P laws x.senders x.rows 2 words (words 1) (is_some home) S
              L owners h.tenures p t e word o runs next words' stepped S'
              (now ∙ ap (λ z. Some (stands_at z)) goes) S-beside)
              words' (words' 1) (is_some home) S' L' owners (λ r a b. refl)
              (outside 1 (inl (omega arith))) refl (λ q. refl) (L-same least) refl;
          log = row_log;
          owned = h.owned;
          page_knows = knows_row;
          flat_home = h.flat_home;
          parts = parts_from words' frames
              (others_agree words' log_agrees (outside 0 (inl (omega arith)))) part;
          chosen = chosen_from
              (λ u f v a b. mine v (ap P.output (same_electing t u later f (sym goes ∙ a)).1 ∙ b));
        }

        -- ── its last step, which chooses another ──
        pub loses : (u : ℕ) → P.output later ≡ Some u → u ≢ p → c'.phase ≡ phase.Resting
            → c'.least ≡ t + 1 → Part base x words' frames p c'
            → Sending base P x words' home senders' owners frames
        loses u out other rests least part =
            let mid : ℕ → Option (Standing E) = put p (Some (Runs t later)) S in
            let at_mid = tenures.elects X.op X.fed P laws x.senders x.rows 2 words (words 1)
            (is_some home) S L owners h.tenures p t e word o runs next words' stepped mid
            (put_here p (Some (Runs t later)) S) (put_beside p (Some (Runs t later)) S) in
            record {
              tenures = tenures.same X.op X.fed P laws x.senders x.rows 2 words' (words 1)
                  (is_some home) S' L' owners
                  (tenures.loses X.op X.fed P laws x.senders x.rows 2 words' (words 1)
                  (is_some home) mid L owners at_mid p t u later
                  (put_here p (Some (Runs t later)) S) out other S'
                  (now ∙ ap (λ z. Some (stands_at z)) rests)
                  (λ q ne. S-beside q ne ∙ sym (put_beside p (Some (Runs t later)) S q ne)) L'
                  (ap least_of new ∙ least) L-beside)
                  words' (words' 1) (is_some home) S' L' owners (λ r a b. refl)
                  (outside 1 (inl (omega arith))) refl (λ q. refl) (λ q. refl) refl;
              log = row_log;
              owned = h.owned;
              page_knows = knows_row;
              flat_home = h.flat_home;
              parts = parts_from words' frames
                  (others_agree words' log_agrees (outside 0 (inl (omega arith)))) part;
              chosen = chosen_resting rests;
            }

      -- ── it takes the page ──
      module _ (t : ℕ) (e : E) (page : Page) (words' : ℕ → ℕ)
          (elects : c.phase ≡ phase.Electing t e) (out : P.output e ≡ Some p)
          (at_home : home ≡ Some page)
          (stage : words' 1 ≡ 2 * t + 1) (elsewhere : (r : ℕ) → r ≢ 1 → words' r ≡ words r)
          (goes : c' ≡ record c { phase = phase.Holding t page 0 false }) where
        elected : S p ≡ Some (Runs t e)
        elected = stand p c old ∙ ap (λ z. Some (stands_at z)) elects

        opened : words 1 ≡ 2 * t
        opened =
            (tenures.finds_home X.op X.fed P laws x.senders x.rows 2 words (words 1) (is_some home)
            S L owners h.tenures p t e elected out).0

        part : Part base x words frames p c
        part = h.parts p c old

        fits_then : HasBegun c.queue
            × IsWriting base words' frames (record c { phase = phase.Holding t page 0 false }) t
            page 0
        fits_then =
            let f = subst (Fits base words frames c) elects part.fits in
            let k = h.page_knows page t at_home opened in (
              f.0,
              record {
                goes_on = f.1;
                page_knows =
                    Knows-len page frames t (words 0) (words' 0) (elsewhere 0 (omega arith)) k.0;
                earlier = k.1;
                stored_below = omega arith;
                flat = λ flat. grind (arith, common_steps, part);
                allowed = λ z. absurd (omega arith);
                words_are = refl;
              },
            )

        stage_past : (r : ℕ) → 2 ≤ r → words' r ≡ words r
        stage_past r a = elsewhere r (omega arith)

        log_past : (r : ℕ) → log_at x ≤ r → words' r ≡ words r
        log_past r a = elsewhere r (omega arith)

        pub takes : Sending base P x words' None senders' (owners ++ p ∷ []) frames
        takes = record {
          tenures = tenures.same X.op X.fed P laws x.senders x.rows 2 words (2 * t + 1) false S' L
              (owners ++ p ∷ [])
              (tenures.takes X.op X.fed P laws x.senders x.rows 2 words (words 1) (is_some home) S L
              owners h.tenures p t e elected out S' (now ∙ ap (λ z. Some (stands_at z.phase)) goes)
              S-beside)
              words' (words' 1) false S' L' (owners ++ p ∷ []) (λ r a b. stage_past r a) stage refl
              (λ q. refl) (L-same (ap (λ z. z.least) goes)) refl;
          log = subst (λ z. Logged base x words' z frames) (sym (elsewhere 0 (omega arith)))
              (Logged-agree x words (words 0) frames h.log words' (λ r a b. log_past r a));
          owned = AreOwned-push owners p frames h.owned;
          page_knows = λ g u a b. absurd cc;
          flat_home = λ flat g a. absurd cc;
          parts = parts_from words' frames
              (others_agree words' log_past (elsewhere 0 (omega arith)))
              (subst (Part base x words' frames p) (sym goes)
              (part_of x words words' frames frames p c (phase.Holding t page 0 false) part
              fits_then));
          chosen = chosen_holding t page 0 false (ap (λ z. z.phase) goes);
        }
