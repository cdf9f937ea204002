-- A step of one process keeps what an election keeps, and so does a start.
use Rattle.std.proofs.Common.{◌≡◌, ◌≢◌, ℕ, zero, suc, ◌+◌, ◌*◌, ◌-◌, ◌/◌, ◌<◌, ◌≤◌, ◌^◌, Bool}
use Rattle.std.proofs.Common.{true, false, cond, Option, Some, None, inl, inr, ◌⊎◌, arith, refl}
use Rattle.std.proofs.Common.{sym, ◌∙◌, ap, subst}
use Rattle.std.proofs.lemmas.Bool.{cases_eq, cases_lt}
use Rattle.std.proofs.lemmas.Option.{same_Some}
use Rattle.bus_register.specs.declared.registers.Op.{Op}
use Rattle.bus_register.specs.declared.registers.Op.TheVariants.{Load, Store}
use Rattle.bus_register.specs.Words.{register, after}
use Rattle.bus_register.specs.Tables.{of_some, Beside, Stepped}
use Rattle.bus_register.specs.Private.TableLaws.{some_of}
use Rattle.bus_register.specs.Protocol.{Laws, Goes, counted_input, inputs, outputs}
use Rattle.bus_binconsensus.specs.Deciding.{Decides}
use Rattle.bus_binconsensus.proofs.ChainMoves.{put_at, put_at_here, put_at_object, put_at_process}
use Rattle.bus_binconsensus.proofs.ChainOutcome.{counted_is}
use Rattle.bus_register.specs.Digits.{digit}
use Rattle.bus_ownerbits.specs.declared.stages.Stage.{Stage}
use Rattle.bus_ownerbits.specs.declared.stages.Stage.TheVariants.{Announce, Propose, Search, Alone}
use Rattle.bus_ownerbits.specs.Sizes.{bits_of, bit_at}
use Rattle.bus_ownerbits.specs.Election.{Decisions, Electing, place, proposing, going, seeking}
use Rattle.bus_ownerbits.specs.Election.{with_bit, decided_by, search_after, fed_at, election_fed}
use Rattle.bus_ownerbits.specs.Election.{op_at, election_op}
use Rattle.bus_ownerbits.proofs.ElectionCases.{going_case, seeking_case, decided_case}
use Rattle.bus_ownerbits.proofs.ElectionCases.{searched_case}
use Rattle.bus_ownerbits.specs.ElectionKeeps.{Fitting, Proposed, Saw, Spelled, Standing}
use Rattle.bus_ownerbits.specs.ElectionKeeps.{StageStands, ElectionKeeps, StageBelongs}
use Rattle.bus_ownerbits.specs.ElectionKeeps.{announcement, begun_at, spelled_of}
use Rattle.bus_ownerbits.proofs.ElectionGrows.{Grows, grows_on, seen_is, spelled_agree}
use Rattle.bus_ownerbits.proofs.ElectionGrows.{spelled_stays, fitting_stays, proposed_stays}
use Rattle.bus_ownerbits.proofs.ElectionGrows.{standing_stays}
use Rattle.bus_ownerbits.proofs.ElectionSteps.{Ready, entered_is, proposing_belongs}
use Rattle.bus_ownerbits.proofs.ElectionSteps.{searching_belongs, row_within, ready, enough_is}
use Rattle.bus_ownerbits.proofs.ElectionSteps.{stage_is, propose_stays, propose_ready}
use Rattle.bus_ownerbits.proofs.ElectionSteps.{search_ready, search_takes, going_begun, fed_begun}
use Rattle.bus_ownerbits.proofs.NumberLaws.{next_bit, none_above, bits_enough, between, at_least}

-- an announcement is 0 or 1
announced_or : {S : Type 0} (o : Option (Electing S)) → (announcement o ≡ 0) ⊎ (announcement o ≡ 1)
announced_or None = inl refl
announced_or (Some s) =
    let by : (b : Bool) → (cond {A = ℕ} b 1 0 ≡ 0) ⊎ (cond {A = ℕ} b 1 0 ≡ 1) = λ b.
    elim b as (λ z. (cond {A = ℕ} z 1 0 ≡ 0) ⊎ (cond {A = ℕ} z 1 0 ≡ 1)) [
      | true ↦ inr refl
      | false ↦ inl refl
    ] in
    by (begun_at s.stage)

module _ {S : Type 0} (op : S → ℕ → Option Op) (fed : S → ℕ → ℕ → S) (D : Decisions S)
    (cost : ℕ → ℕ → ℕ) (laws : (r : ℕ) → Laws op fed (D r) Decides)
    (cheap : (r n : ℕ) → (D r).steps n ≤ cost r n) (rounds n at : ℕ) where
  -- the first word of a bit's decision
  abbrev pub row : ℕ → ℕ
  row k = at + n + k * (D rounds).width n

  -- what holds of the decisions, whoever stands where
  pub record Board (words : ℕ → ℕ) (visits : ℕ → ℕ → Option S) : Type 0 where
    pub kept : (k : ℕ) → k < bits_of n → (D rounds).Keeps n (row k) words (visits k)
    pub proposed : (k p : ℕ) (x : S) → visits k p ≡ Some x
        → Proposed (D rounds) visits n at words p k x

  -- a process that is about to go on with its candidate
  record Set (words : ℕ → ℕ) (visits : ℕ → ℕ → Option S) (p : ℕ) (s : Electing S) : Type 0 where
    ready : Ready op fed D cost laws cheap rounds n p at 0 s
    lone : s.left ≡ 0 → bits_of n ≡ 0
    spelled : Spelled (D rounds) visits (bits_of n) p s.left s.spelled
    ahead : (k : ℕ) → k < s.left → visits k p ≡ None
    fitting : Fitting n at words s.left s.spelled s.candidate

  -- where it stands then
  record Went (words : ℕ → ℕ) (visits : ℕ → ℕ → Option S) (p : ℕ) (t : Electing S) : Type 0 where
    later : ℕ → ℕ → Option S
    board : Board words later
    grows : Grows (D rounds) n at words words visits later
    others : (k q : ℕ) → q ≢ p → later k q ≡ visits k q
    standing : Standing D cost rounds n at words later p t

  nothing_grows : (words : ℕ → ℕ) (visits : ℕ → ℕ → Option S)
      → Grows (D rounds) n at words words visits visits
  nothing_grows words visits = record { same = λ q j s. refl; loud = λ c below one. one }

  -- a process enters a bit's decision
  module _ (words : ℕ → ℕ) (visits : ℕ → ℕ → Option S) (board : Board words visits) (p : ℕ)
      (s : Electing S) (a : Set words visits p s) (some : s.left ≢ 0) where
    abbrev new_bit : ℕ
    new_bit = s.left - 1

    abbrev entrant : S
    entrant = (D rounds).started n p (bit_at new_bit s.candidate) (row new_bit)

    abbrev with_entrant : ℕ → ℕ → Option S
    with_entrant = put_at new_bit p (Some entrant) visits

    within : new_bit < bits_of n
    within = let w = a.ready.within in omega arith

    entering_grows : Grows (D rounds) n at words words visits with_entrant
    entering_grows = record {
      same = λ q j s'. elim (cases_eq q p) [
        | inl i ↦ put_at_object new_bit p _ visits j q
            (λ j'. absurd (let e =
            sym s'.here ∙ ap (λ z. visits z q) j' ∙ ap (visits new_bit) i
            ∙ a.ahead new_bit (omega arith) in
            cc))
        | inr ne ↦ put_at_process new_bit p _ visits j q ne
      ];
      loud = λ c below one. one;
    }

    up : suc new_bit ≡ s.left
    up = omega arith

    entering_board : Board words with_entrant
    entering_board = record {
      kept = λ k h. elim (cases_eq k new_bit) [
        | inl i ↦ subst (λ z. (D rounds).Keeps n (row z) words (with_entrant z)) (sym i)
            ((laws rounds).enters n (row new_bit) words (visits new_bit) (with_entrant new_bit) p
            (bit_at new_bit s.candidate) (board.kept new_bit within) a.ready.below a.ready.few
            (a.ahead new_bit (omega arith))
            (put_at_here new_bit p _ visits)
            (λ q ne. put_at_process new_bit p _ visits new_bit q ne))
        | inr ne ↦ (laws rounds).frame n (row k) words words (visits k) (with_entrant k)
            (board.kept k h) (λ q l u. refl) (λ q. put_at_object new_bit p _ visits k q ne)
      ];
      proposed = λ k q x e. elim (cases_eq q p) [
        | inr ne ↦ proposed_stays (D rounds) n at words words visits with_entrant entering_grows q k
            x (board.proposed k q x (sym (put_at_process new_bit p _ visits k q ne) ∙ e))
        | inl i ↦ elim (cases_eq k new_bit) [
          | inr ne ↦ proposed_stays (D rounds) n at words words visits with_entrant entering_grows q
              k x (board.proposed k q x (sym (put_at_object new_bit p _ visits k q ne) ∙ e))
          | inl j ↦
              let mine : entrant ≡ x = same_Some _ _
              (sym (put_at_here new_bit p _ visits) ∙ ap (λ z. with_entrant z p) (sym j)
              ∙ ap (with_entrant k) (sym i) ∙ e) in
              let own : Proposed (D rounds) with_entrant n at words p new_bit entrant = record {
                candidate = s.candidate;
                number = s.spelled;
                spelled = subst (λ z. Spelled (D rounds) with_entrant (bits_of n) p z s.spelled)
                    (sym up) (spelled_stays (D rounds) n at words words visits with_entrant
                    entering_grows (bits_of n) p s.left s.spelled a.spelled);
                fitting =
                    subst (λ z. Fitting n at words z s.spelled s.candidate) (sym up) a.fitting;
                input =
                    ((laws rounds).starts n p (row new_bit) (bit_at new_bit s.candidate)
                    a.ready.below a.ready.few).input;
              } in
              subst (λ z. Proposed (D rounds) with_entrant n at words z k x) (sym i)
              (subst (λ z. Proposed (D rounds) with_entrant n at words p z x) (sym j)
              (subst (Proposed (D rounds) with_entrant n at words p new_bit) mine own))
        ]
      ];
    }

    -- a fresh process has no output
    entrant_open : (bit : Bool) → (D rounds).output entrant ≡ Some bit → ⊥
    entrant_open bit e =
        let f =
        ((laws rounds).starts n p (row new_bit) (bit_at new_bit s.candidate) a.ready.below
        a.ready.few).fresh in
        let by : (x : Option Op) → op entrant 0 ≡ x → ⊥ =
        λ x. elim x as (λ z. op entrant 0 ≡ z → ⊥) [
          | None ↦ λ g. let h = ((laws rounds).ends entrant 0 g).1 in absurd cc
          | Some o ↦ λ g. let h = (laws rounds).unended entrant 0 o g in absurd cc
        ] in
        by (op entrant 0) refl

    entered_stands : (d : S) → d ≡ entrant
        → StageStands (D rounds) with_entrant n at words p (Propose d) s
    entered_stands d e = (
      put_at_here new_bit p _ visits ∙ ap Some (sym e),
      (λ k h. put_at_object new_bit p _ visits k p (omega arith) ∙ a.ahead k (omega arith)),
      (λ bit f. absurd (entrant_open bit (ap (D rounds).output (sym e) ∙ f))),
      a.fitting,
    )

    entering : Went words visits p (proposing D s)
    entering = record {
      later = with_entrant;
      board = entering_board;
      grows = entering_grows;
      others = λ k q ne. put_at_process new_bit p _ visits k q ne;
      standing = record {
        belongs = proposing_belongs op fed D cost laws cheap rounds n p at 0 s a.ready some;
        spelled = spelled_stays (D rounds) n at words words visits with_entrant entering_grows
            (bits_of n) p s.left s.spelled a.spelled;
        stage = entered_stands
            ((D s.rounds).started s.n s.me (bit_at new_bit s.candidate) (place D s new_bit))
            (entered_is op fed D cost laws cheap rounds n p at 0 s a.ready);
      };
    }

  -- a process goes on with its candidate
  going_went : (words : ℕ → ℕ) (visits : ℕ → ℕ → Option S) → Board words visits
      → (p : ℕ) (s : Electing S) → Set words visits p s → Went words visits p (going D s)
  going_went words visits board p s a = going_case D (Went words visits p) s
      (λ none. record {
        later = visits;
        board = board;
        grows = nothing_grows words visits;
        others = λ k q ne. refl;
        standing = record {
          belongs =
              let r = a.ready in
              record {
                n_is = r.n_is;
                me_is = r.me_is;
                rounds_is = r.rounds_is;
                at_is = r.at_is;
                below = r.below;
                few = r.few;
                within = r.within;
                stage = none;
                enough = let e = r.enough in omega arith;
              };
          spelled = a.spelled;
          stage = (none, a.lone none);
        };
      })
      (λ some. entering words visits board p s a some)

  module _ (words : ℕ → ℕ) (visits : ℕ → ℕ → Option S) (board : Board words visits) where
    decides : (k : ℕ) → k < bits_of n
        → Decides (inputs (D rounds) (visits k)) (outputs (D rounds) (visits k))
    decides k h = (laws rounds).outcome n (row k) words (visits k) (board.kept k h)

    -- two processes have seen one number
    pub one_number : (p q k a b : ℕ) → k ≤ bits_of n → Spelled (D rounds) visits (bits_of n) p k a
        → Spelled (D rounds) visits (bits_of n) q k b → a ≡ b
    one_number p q k a b h s t =
        let m : ℕ = bits_of n - k in
        s.is m (omega arith)
        ∙ spelled_agree (D rounds) visits (bits_of n) p q
        (λ j x y v w h' e f. (decides j h').agrees x y v w e f) m k (omega arith) s.saw t.saw
        ∙ sym (t.is m (omega arith))

    -- where a bit is decided, an announced process fits
    pub fitted : (p k number : ℕ) (bit : Bool) (d : S) → k < bits_of n
        → Spelled (D rounds) visits (bits_of n) p (suc k) number → visits k p ≡ Some d
        → (D rounds).output d ≡ Some bit → (c : ℕ) × Fitting n at words k (2 * number + digit bit) c
    fitted p k number bit d h s e f =
        let a = (decides k h).chosen p bit (ap (of_some (D rounds).output) e ∙ f) in
        let b = some_of (counted_input (D rounds)) (visits k a.0) bit a.1 in
        let c = counted_is (D rounds) b.0 bit b.2 in
        let w = board.proposed k a.0 b.0 b.1 in
        let same : w.number ≡ number =
        one_number a.0 p (suc k) w.number number (omega arith) w.spelled s in
        let more = next_bit w.candidate k in
        let high : w.candidate / 2 ^ (k + 1) ≡ w.number =
        ap (λ z. w.candidate / 2 ^ z) (let g : k + 1 ≡ suc k = omega arith in g) ∙ w.fitting.fits in
        let low : digit (bit_at k w.candidate) ≡ digit bit = ap digit (sym w.input ∙ c.1) in (
          w.candidate,
          record { below = w.fitting.below; announced = w.fitting.announced; fits = omega arith },
        )

    -- a process that has seen one more bit
    pub spelled_more : (p k number : ℕ) (bit : Bool) (d : S) → k < bits_of n
        → Spelled (D rounds) visits (bits_of n) p (suc k) number → visits k p ≡ Some d
        → (D rounds).output d ≡ Some bit
        → Spelled (D rounds) visits (bits_of n) p k (2 * number + digit bit)
    spelled_more p k number bit d h s e f =
        let more : (m : ℕ) → k + m ≡ bits_of n
        → 2 * number + digit bit ≡ spelled_of (D rounds) visits p m k = λ m.
        elim m as (λ z.
        k + z ≡ bits_of n → 2 * number + digit bit ≡ spelled_of (D rounds) visits p z k) [
          | zero ↦ λ g. absurd (omega arith)
          | suc m' ↦ λ g.
              let a = s.is m' (omega arith) in
              let b = seen_is (D rounds) (visits k p) d bit e f in omega arith
        ] in
        record {
          saw = λ j l u. elim (cases_eq j k) [
            | inl i ↦ subst (Saw (D rounds) visits p) (sym i)
                record { local = d; bit = bit; here = e; is = f }
            | inr ne ↦ s.saw j (omega arith) u
          ];
          is = more;
        }

    -- a process that has seen a bit goes on or searches
    seeking_went : (p : ℕ) (s : Electing S) → Ready op fed D cost laws cheap rounds n p at n s
        → 1 ≤ s.left → s.left < bits_of n → Spelled (D rounds) visits (bits_of n) p s.left s.spelled
        → ((k : ℕ) → k < s.left → visits k p ≡ None)
        → s.candidate < n → words (at + s.candidate) ≡ 1 → (c : ℕ)
        → Fitting n at words s.left s.spelled c → Went words visits p (seeking D s)
    seeking_went p s r some less spelled ahead below announced c f =
        let low_is = at_least s.spelled s.left c f.fits in
        seeking_case D (Went words visits p) s
        (λ fits. going_went words visits board p s record {
          ready = record {
            n_is = r.n_is;
            me_is = r.me_is;
            rounds_is = r.rounds_is;
            at_is = r.at_is;
            below = r.below;
            few = r.few;
            within = r.within;
            enough = let e = r.enough in omega arith;
          };
          lone = λ none. absurd (omega arith);
          spelled = spelled;
          ahead = ahead;
          fitting = record { below = below; announced = announced; fits = fits };
        })
        (λ unfit low. record {
          later = visits;
          board = board;
          grows = nothing_grows words visits;
          others = λ k q ne. refl;
          standing = record {
            belongs = searching_belongs op fed D cost laws cheap rounds n p at n s r
                (s.spelled * 2 ^ s.left) (let x = r.n_is in omega arith) (omega arith) unfit some
                less;
            spelled = spelled;
            stage = ((c, low_is, f), omega arith, some, ahead);
          };
        })
        (λ over. absurd (let x = r.n_is in let y = f.below in omega arith))

  -- one step of process p
  module _ (words words' : ℕ → ℕ) (old new : ℕ → Option (Electing S)) (p : ℕ) (s : Electing S)
      (word : ℕ) (o : Op)
      (k : ElectionKeeps D cost rounds n at words old) (here : old p ≡ Some s)
      (beside : Beside p old new)
      (step : Stepped at (n + bits_of n * (D rounds).width n) o words words') where
    abbrev tick : Electing S
    tick = record s { turns = s.turns - 1 }

    stand : Standing D cost rounds n at words k.visits p s
    stand = k.stands p s here

    stage_stands : (stage : Stage S) → s.stage ≡ stage
        → StageStands (D rounds) k.visits n at words p stage s
    stage_stands stage e =
        subst (λ z. StageStands (D rounds) k.visits n at words p z s) e stand.stage

    -- the parts come together
    settle : (visits : ℕ → ℕ → Option S) (t : Electing S)
        → Grows (D rounds) n at words words' k.visits visits
        → ((j q : ℕ) → q ≢ p → visits j q ≡ k.visits j q) → Went words' visits p t → new p ≡ Some t
        → ((q : ℕ) → q < n → q ≢ p → words' (at + q) ≡ words (at + q)) → words' (at + p) ≡ 1
        → begun_at t.stage ≡ true → ElectionKeeps D cost rounds n at words' new
    settle visits t grows others went now quiet announced begun = record {
      visits = went.later;
      kept = went.board.kept;
      proposed = went.board.proposed;
      tells = λ q h. elim (cases_eq q p) [
        | inl i ↦
            ap (λ z. words' (at + z)) i ∙ announced ∙ sym (ap (λ z. cond z 1 0) begun)
            ∙ sym (ap announcement (ap new i ∙ now))
        | inr ne ↦ quiet q h ne ∙ k.tells q h ∙ ap announcement (sym (beside q ne))
      ];
      stands = λ q u e. elim (cases_eq q p) [
        | inl i ↦ subst (λ z. Standing D cost rounds n at words' went.later z u) (sym i)
            (subst (Standing D cost rounds n at words' went.later p)
            (same_Some _ _ (sym now ∙ ap new (sym i) ∙ e)) went.standing)
        | inr ne ↦ standing_stays D cost rounds n at words words' k.visits went.later
            (grows_on (D rounds) n at words words' words' k.visits visits went.later grows
            went.grows) q u
            (λ j. went.others j q ne ∙ others j q ne) (k.stands q u (sym (beside q ne) ∙ e))
      ];
      absent = λ q j e. elim (cases_eq q p) [
        | inl i ↦ absurd (let x = sym now ∙ ap new (sym i) ∙ e in cc)
        | inr ne ↦ went.others j q ne ∙ others j q ne ∙ k.absent q j (sym (beside q ne) ∙ e)
      ];
    }

    -- the decisions, where no word of theirs has changed
    framed :
        ((r : ℕ) → at + n ≤ r → r < at + (n + bits_of n * (D rounds).width n) → words' r ≡ words r)
        → Grows (D rounds) n at words words' k.visits k.visits → Board words' k.visits
    framed same grows = record {
      kept = λ j h. (laws rounds).frame n (row j) words words' (k.visits j) (k.visits j)
          (k.kept j h) (λ r l u.
          let w = row_within j (bits_of n) ((D rounds).width n) h in
          same r (omega arith) (omega arith)) (λ q. refl);
      proposed = λ j q x e. proposed_stays (D rounds) n at words words' k.visits k.visits grows q j
          x (k.proposed j q x e);
    }

    -- it announces itself
    announces : s.stage ≡ Announce → op_at op Announce s word ≡ Some o → new p ≡ Some (going D tick)
        → ElectionKeeps D cost rounds n at words' new
    announces e next now =
        let b = stand.belongs in
        let st = stage_stands Announce e in
        let is : Store record { 0 = s.at + s.me } 1 ≡ o = same_Some _ _ next in
        let at' = b.at_is in
        let me' = b.me_is in
        let below = b.below in
        let place : register o ≡ at + p =
        sym (ap register is) ∙ (let g : s.at + s.me ≡ at + p = omega arith in g) in
        let one : words' (at + p) ≡ 1 =
        ap words' (sym place) ∙ step.here ∙ ap (λ z. after z (words (register o))) (sym is) in
        let quiet : (q : ℕ) → q < n → q ≢ p → words' (at + q) ≡ words (at + q) =
        λ q h ne. step.elsewhere (at + q) (omega arith) (omega arith) (λ x. ne (omega arith)) in
        let grows : Grows (D rounds) n at words words' k.visits k.visits = record {
          same = λ q j x. refl;
          loud = λ c h x. elim (cases_eq c p) [
            | inl i ↦ ap (λ z. words' (at + z)) i ∙ one
            | inr ne ↦ quiet c h ne ∙ x
          ];
        } in
        let board = framed (λ r l u. step.elsewhere r (omega arith) u (λ x. omega arith)) grows in
        let none : s.spelled ≡ 0 = stand.spelled.is 0 (let g = st.0 in omega arith) in
        settle k.visits (going D tick) grows (λ j q ne. refl)
        (going_went words' k.visits board p tick record {
          ready = ready op fed D cost laws cheap rounds n p at s b 0 tick refl refl refl refl
              (omega arith) (let w =
              enough_is op fed D cost laws cheap rounds n p at s b Announce e in
              omega arith);
          lone = λ z. sym st.0 ∙ z;
          spelled = spelled_stays (D rounds) n at words words' k.visits k.visits grows (bits_of n) p
              s.left s.spelled stand.spelled;
          ahead = λ j h. st.2 j;
          fitting = record {
            below = let g = st.1 in omega arith;
            announced = ap (λ z. words' (at + z)) st.1 ∙ one;
            fits =
                ap (λ z. z / 2 ^ s.left) st.1 ∙ ap (λ z. p / 2 ^ z) st.0
                ∙ none_above p n (bits_of n) b.below (bits_enough n b.few) ∙ sym none;
          };
        }) now quiet one (going_begun op fed D cost laws cheap rounds tick)

    -- it steps in the decision of a bit
    module _ (d : S) (e : s.stage ≡ Propose d) (next : op d word ≡ Some o) where
      abbrev k0 : ℕ
      k0 = s.left - 1

      abbrev d' : S
      d' = fed d (words (register o)) word

      abbrev visits1 : ℕ → ℕ → Option S
      visits1 = put_at k0 p (Some d') k.visits

      st : StageStands (D rounds) k.visits n at words p (Propose d) s
      st = stage_stands (Propose d) e

      own : StageBelongs D rounds n p at (Propose d) s
      own = stage_is op fed D cost laws cheap rounds n p at s stand.belongs (Propose d) e

      g : Goes (D rounds) n p (row k0) o d d'
      g = (laws rounds).goes n p (row k0) d (words (register o)) word o own.1 next

      k0_within : k0 < bits_of n
      k0_within = let x = own.0 in let w = stand.belongs.within in omega arith

      up' : suc k0 ≡ s.left
      up' = let x = own.0 in omega arith

      calm : (q : ℕ) → q < n → words' (at + q) ≡ words (at + q)
      calm q h =
          let a = g.above in step.elsewhere (at + q) (omega arith) (omega arith) (λ x. omega arith)

      grows1 : Grows (D rounds) n at words words' k.visits visits1
      grows1 = record {
        same = λ q j x. elim (cases_eq q p) [
          | inr ne ↦ put_at_process k0 p _ k.visits j q ne
          | inl i ↦ elim (cases_eq j k0) [
            | inr ne ↦ put_at_object k0 p _ k.visits j q ne
            | inl i' ↦ absurd (
                let y : x.local ≡ d = same_Some _ _
                (sym x.here ∙ ap (λ z. k.visits z q) i' ∙ ap (k.visits k0) i ∙ st.0) in
                let u = (laws rounds).unended d word o next in
                let v = sym x.is ∙ ap (D rounds).output y ∙ u in
                cc v)
          ]
        ];
        loud = λ c h x. calm c h ∙ x;
      }

      board1 : Board words' visits1
      board1 = record {
        kept = λ j h. elim (cases_eq j k0) [
          | inl i ↦ subst (λ z. (D rounds).Keeps n (row z) words' (visits1 z)) (sym i)
              (let w = row_within k0 (bits_of n) ((D rounds).width n) k0_within in
              (laws rounds).moves n (row k0) words words' (k.visits k0) (visits1 k0) p d word o
              (k.kept k0 k0_within) st.0 next (put_at_here k0 p _ k.visits)
              (λ q ne. put_at_process k0 p _ k.visits k0 q ne)
              record {
                here = step.here;
                elsewhere = λ r l u ne. step.elsewhere r (omega arith) (omega arith) ne;
              })
          | inr ne ↦
              let a = g.above in
              let b = g.below in
              let w = row_within j (bits_of n) ((D rounds).width n) h in
              let apart : (register o < row j) ⊎ (row j + (D rounds).width n ≤ register o) =
              elim (cases_lt j k0) [
                | inl lt ↦ let x = row_within j k0 ((D rounds).width n) lt in inr (omega arith)
                | inr ge ↦
                    let x = row_within k0 j ((D rounds).width n) (omega arith) in inl (omega arith)
              ] in
              (laws rounds).frame n (row j) words words' (k.visits j) (visits1 j) (k.kept j h)
              (λ r l u. step.elsewhere r (omega arith) (omega arith)
              (λ i. elim apart [ inl x ↦ omega arith | inr x ↦ omega arith ]))
              (λ q. put_at_object k0 p _ k.visits j q ne)
        ];
        proposed = λ j q x f. elim (cases_eq q p) [
          | inr ne ↦ proposed_stays (D rounds) n at words words' k.visits visits1 grows1 q j x
              (k.proposed j q x (sym (put_at_process k0 p _ k.visits j q ne) ∙ f))
          | inl i ↦ elim (cases_eq j k0) [
            | inr ne ↦ proposed_stays (D rounds) n at words words' k.visits visits1 grows1 q j x
                (k.proposed j q x (sym (put_at_object k0 p _ k.visits j q ne) ∙ f))
            | inl i' ↦
                let mine : d' ≡ x = same_Some _ _ (sym (put_at_here k0 p _ k.visits)
                ∙ ap (λ z. visits1 z p) (sym i') ∙ ap (visits1 j) (sym i) ∙ f) in
                let was = proposed_stays (D rounds) n at words words' k.visits visits1 grows1 p k0 d
                (k.proposed k0 p d st.0) in
                let own' : Proposed (D rounds) visits1 n at words' p k0 d' = record {
                  candidate = was.candidate;
                  number = was.number;
                  spelled = was.spelled;
                  fitting = was.fitting;
                  input = g.input ∙ was.input;
                } in
                subst (λ z. Proposed (D rounds) visits1 n at words' z j x) (sym i)
                (subst (λ z. Proposed (D rounds) visits1 n at words' p z x) (sym i')
                (subst (Proposed (D rounds) visits1 n at words' p k0) mine own'))
          ]
        ];
      }

      spelled1 : Spelled (D rounds) visits1 (bits_of n) p s.left s.spelled
      spelled1 = spelled_stays (D rounds) n at words words' k.visits visits1 grows1 (bits_of n) p
          s.left s.spelled stand.spelled

      fitting1 : Fitting n at words' s.left s.spelled s.candidate
      fitting1 = fitting_stays (D rounds) n at words words' k.visits visits1 grows1 s.left s.spelled
          s.candidate st.3

      ahead1 : (j : ℕ) → j < k0 → visits1 j p ≡ None
      ahead1 j h = put_at_object k0 p _ k.visits j p (omega arith) ∙ st.1 j h

      rounds_is : (D s.rounds).output d' ≡ (D rounds).output d'
      rounds_is = ap (λ z. (D z).output d') stand.belongs.rounds_is

      stays : ((bit : Bool) → (D rounds).output d' ≡ Some bit → s.left ≡ 1)
          → Went words' visits1 p (record tick { stage = Propose d' })
      stays last = record {
        later = visits1;
        board = board1;
        grows = nothing_grows words' visits1;
        others = λ j q ne. refl;
        standing = record {
          belongs = propose_stays op fed D cost laws cheap rounds n p at s stand.belongs d
              (words (register o)) word o e next last;
          spelled = spelled1;
          stage = (put_at_here k0 p _ k.visits, ahead1, last, fitting1);
        };
      }

      went : Went words' visits1 p
          (decided_by D (record tick { stage = Propose d' }) ((D s.rounds).output d'))
      went = decided_case D (Went words' visits1 p) (record tick { stage = Propose d' })
          ((D s.rounds).output d')
          (λ none. stays (λ bit f. absurd (let x = sym none ∙ rounds_is ∙ f in cc x)))
          (λ bit some last. stays (λ b f. let x = own.0 in omega arith))
          (λ bit some more.
          let below : Spelled (D rounds) visits1 (bits_of n) p (suc k0) s.spelled =
          subst (λ z. Spelled (D rounds) visits1 (bits_of n) p z s.spelled) (sym up') spelled1 in
          let told : (D rounds).output d' ≡ Some bit = sym rounds_is ∙ some in
          let c = fitted words' visits1 board1 p k0 s.spelled bit d' k0_within below
          (put_at_here k0 p _ k.visits) told in
          seeking_went words' visits1 board1 p (with_bit (record tick { stage = Propose d' }) bit)
          (propose_ready op fed D cost laws cheap rounds n p at s stand.belongs d
          (words (register o)) word o e next bit)
          (omega arith)
          k0_within
          (spelled_more words' visits1 board1 p k0 s.spelled bit d' k0_within below
          (put_at_here k0 p _ k.visits) told)
          ahead1 fitting1.below fitting1.announced c.0 c.1)

      proposes : new p ≡ Some (fed_at D fed (Propose d) tick (words (register o)) word)
          → ElectionKeeps D cost rounds n at words' new
      proposes now = settle visits1
          (decided_by D (record tick { stage = Propose d' }) ((D s.rounds).output d')) grows1
          (λ j q ne. put_at_process k0 p _ k.visits j q ne) went now
          (λ q h ne. calm q h)
          (calm p stand.belongs.below ∙ k.tells p stand.belongs.below ∙ ap announcement here
          ∙ ap (λ z. cond (begun_at z) 1 0) e)
          (fed_begun op fed D cost laws cheap rounds (Propose d) (record tick { stage = Propose d })
          (words (register o)) word refl)

    -- it loads an announcement
    searches : (i : ℕ) → s.stage ≡ Search i → op_at op (Search i) s word ≡ Some o
        → new p ≡ Some (search_after D tick i (words (register o)))
        → ElectionKeeps D cost rounds n at words' new
    searches i e next now =
        let b = stand.belongs in
        let st = stage_stands (Search i) e in
        let is : Load record { 0 = s.at + i } ≡ o = same_Some _ _ next in
        let at' = b.at_is in
        let n' = b.n_is in
        let own = stage_is op fed D cost laws cheap rounds n p at s b (Search i) e in
        let within : i < n = own.0 in
        let place : register o ≡ at + i =
        sym (ap register is) ∙ (let h : s.at + i ≡ at + i = omega arith in h) in
        let same : (r : ℕ) → at ≤ r → r < at + (n + bits_of n * (D rounds).width n)
        → words' r ≡ words r = λ r l u. elim (cases_eq r (register o)) [
          | inl j ↦
              ap words' j ∙ step.here ∙ ap (λ z. after z (words (register o))) (sym is)
              ∙ ap words (sym j)
          | inr ne ↦ step.elsewhere r l u ne
        ] in
        let calm : (q : ℕ) → q < n → words' (at + q) ≡ words (at + q) =
        λ q h. same (at + q) (omega arith) (omega arith) in
        let grows : Grows (D rounds) n at words words' k.visits k.visits =
        record { same = λ q j x. refl; loud = λ c h x. calm c h ∙ x } in
        let board = framed (λ r l u. same r (omega arith) u) grows in
        let found : words (register o) ≡ words (at + i) = ap words place in
        let c : ℕ = st.0.0 in
        let above : i ≤ c = st.0.1 in
        let f : Fitting n at words s.left s.spelled c = st.0.2 in
        let f' : Fitting n at words' s.left s.spelled c =
        fitting_stays (D rounds) n at words words' k.visits k.visits grows s.left s.spelled c f in
        let spelled : Spelled (D rounds) k.visits (bits_of n) p s.left s.spelled =
        spelled_stays (D rounds) n at words words' k.visits k.visits grows (bits_of n) p s.left
        s.spelled stand.spelled in
        let low = st.1 in
        let some = st.2 in
        let one : words (at + c) ≡ 1 = f.announced in
        let went : Went words' k.visits p (search_after D tick i (words (register o))) =
        searched_case D (Went words' k.visits p) tick i (words (register o))
        (λ none less fits.
        let apart : i ≢ c =
        λ j. let x : words (at + i) ≡ words (at + c) = ap (λ z. words (at + z)) j in omega arith in
        record {
          later = k.visits;
          board = board;
          grows = nothing_grows words' k.visits;
          others = λ j q ne. refl;
          standing = record {
            belongs = searching_belongs op fed D cost laws cheap rounds n p at (n - (i + 1)) tick
                (search_ready op fed D cost laws cheap rounds n p at s b i e (n - (i + 1))
                (omega arith)) (i + 1) (omega arith) (omega arith) own.1 own.2 own.3;
            spelled = spelled;
            stage = ((c, omega arith, f'), omega arith, some, st.3);
          };
        })
        (λ other.
        let announced : words (at + i) ≡ 1 = elim other [
          | inl x ↦ elim (announced_or (old i)) [
            | inl z ↦ absurd (x (found ∙ k.tells i within ∙ z))
            | inr z ↦ k.tells i within ∙ z
          ]
          | inr y ↦ elim y [
            | inl x ↦
                let j : i ≡ c = let l = f.below in omega arith in ap (λ z. words (at + z)) j ∙ one
            | inr x ↦ elim (cases_eq i c) [
              | inl j ↦ ap (λ z. words (at + z)) j ∙ one
              | inr ne ↦
                  absurd (x (between s.spelled s.left (i + 1) c (omega arith) (omega arith) f.fits))
            ]
          ]
        ] in
        going_went words' k.visits board p (record tick { candidate = i }) record {
          ready = search_takes op fed D cost laws cheap rounds n p at s b i e;
          lone = λ none. absurd (omega arith);
          spelled = spelled;
          ahead = st.3;
          fitting = record {
            below = within;
            announced = calm i within ∙ announced;
            fits = between s.spelled s.left i c low above f.fits;
          };
        }) in
        settle k.visits (search_after D tick i (words (register o))) grows (λ j q ne. refl) went now
        (λ q h ne. calm q h)
        (calm p b.below ∙ k.tells p b.below ∙ ap announcement here
        ∙ ap (λ z. cond (begun_at z) 1 0) e)
        (fed_begun op fed D cost laws cheap rounds (Search i) (record tick { stage = Search i })
        (words (register o)) word refl)

    by_stage : (stage : Stage S) → s.stage ≡ stage → op_at op stage s word ≡ Some o
        → new p ≡ Some (fed_at D fed stage tick (words (register o)) word)
        → ElectionKeeps D cost rounds n at words' new
    by_stage Announce e next now = announces e next now
    by_stage (Propose d) e next now = proposes d e next now
    by_stage (Search i) e next now = searches i e next now
    by_stage Alone e next now = absurd cc

    pub election_moves : election_op op s word ≡ Some o
        → new p ≡ Some (election_fed D fed s (words (register o)) word)
        → ElectionKeeps D cost rounds n at words' new
    election_moves next now = by_stage s.stage refl next now
