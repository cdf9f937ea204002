-- Each single step of an election, whatever it found.
use Rattle.std.proofs.Common.{◌≡◌, ◌≢◌, ℕ, zero, suc, ◌+◌, ◌*◌, ◌-◌, ◌<◌, ◌≤◌, ◌^◌, Bool, true}
use Rattle.std.proofs.Common.{false, Option, Some, None, arith, refl, sym, ◌∙◌, ap, subst}
use Rattle.std.proofs.Math.Nat.{mul-le-mul_right}
use Rattle.std.proofs.lemmas.Option.{same_Some}
use Rattle.bus_register.specs.declared.registers.Op.{Op}
use Rattle.bus_register.specs.Words.{register}
use Rattle.bus_register.specs.Protocol.{Laws, Goes}
use Rattle.bus_binconsensus.specs.Deciding.{Decides}
use Rattle.bus_ownerbits.specs.declared.stages.Stage.{Stage}
use Rattle.bus_ownerbits.specs.declared.stages.Stage.TheVariants.{Announce, Propose, Search, Alone}
use Rattle.bus_ownerbits.specs.Sizes.{bits_of, bit_at, each_bit}
use Rattle.bus_ownerbits.specs.Election.{Decisions, Electing, place, proposing, going, fits_bits}
use Rattle.bus_ownerbits.specs.Election.{seeking, with_bit, search_after, fed_at, election_fed}
use Rattle.bus_ownerbits.specs.Election.{op_at, election_op}
use Rattle.bus_ownerbits.proofs.ElectionCases.{going_case, seeking_case, decided_case}
use Rattle.bus_ownerbits.proofs.ElectionCases.{searched_case}
use Rattle.bus_ownerbits.specs.ElectionKeeps.{work_at, StageBelongs, ElectionBelongs, begun_at}
use Rattle.bus_ownerbits.specs.ElectionKeeps.{election_protocol}

-- one factor less
pub peel : (x e : ℕ) → x ≢ 0 → x * e ≡ e + (x - 1) * e
peel zero e ne = absurd (ne refl)
peel (suc x) e ne =
    let s : suc x - 1 ≡ x = omega arith in
    let m : (suc x - 1) * e ≡ x * e = ap (λ z. z * e) s in omega arith

-- the rows of a table of b rows
pub row_within : (k b w : ℕ) → k < b → k * w + w ≤ b * w
row_within k b w h =
    let m : (k + 1) * w ≤ b * w = mul-le-mul_right w (let g : k + 1 ≤ b = omega arith in g) in
    omega arith

module _ {S : Type 0} (op : S → ℕ → Option Op) (fed : S → ℕ → ℕ → S) (D : Decisions S)
    (cost : ℕ → ℕ → ℕ) (laws : (r : ℕ) → Laws op fed (D r) Decides)
    (cheap : (r n : ℕ) → (D r).steps n ≤ cost r n) (rounds : ℕ) where
  -- a process between two stages, with so many turns more than it needs for the bits that are left
  pub record Ready (n me at slack : ℕ) (s : Electing S) : Type 0 where
    pub n_is : s.n ≡ n
    pub me_is : s.me ≡ me
    pub rounds_is : s.rounds ≡ rounds
    pub at_is : s.at ≡ at
    pub below : me < n
    pub few : n ≤ 64
    pub within : s.left ≤ bits_of n
    pub enough : slack + s.left * each_bit cost s.rounds s.n + 1 ≤ s.turns

  module _ (n me at slack : ℕ) (s : Electing S) (r : Ready n me at slack s) where
    -- the decision that it enters
    pub entered_is :
        (D s.rounds).started s.n s.me (bit_at (s.left - 1) s.candidate) (place D s (s.left - 1))
        ≡ (D rounds).started n me (bit_at (s.left - 1) s.candidate)
        (at + n + (s.left - 1) * (D rounds).width n)
    entered_is =
        let b : Bool = bit_at (s.left - 1) s.candidate in
        let k : ℕ = s.left - 1 in
        ap (λ z. (D z).started s.n s.me b (s.at + s.n + k * (D z).width s.n)) r.rounds_is
        ∙ ap (λ z. (D rounds).started z s.me b (s.at + z + k * (D rounds).width z)) r.n_is
        ∙ ap (λ z. (D rounds).started n z b (s.at + n + k * (D rounds).width n)) r.me_is
        ∙ ap (λ z. (D rounds).started n me b (z + n + k * (D rounds).width n)) r.at_is

    -- a process that enters a decision has no output there
    pub entered_open : (bit : Bool)
        → (D rounds).output
        ((D s.rounds).started s.n s.me (bit_at (s.left - 1) s.candidate) (place D s (s.left - 1)))
        ≡ Some bit → ⊥
    entered_open bit e =
        let x : S = (D rounds).started n me (bit_at (s.left - 1) s.candidate)
        (at + n + (s.left - 1) * (D rounds).width n) in
        let f =
        ((laws rounds).starts n me (at + n + (s.left - 1) * (D rounds).width n)
        (bit_at (s.left - 1) s.candidate) r.below r.few).fresh in
        let told : (D rounds).output x ≡ Some bit = ap (D rounds).output (sym entered_is) ∙ e in
        let by : (y : Option Op) → op x 0 ≡ y → ⊥ = λ y. elim y as (λ z. op x 0 ≡ z → ⊥) [
          | None ↦ λ g. let h = ((laws rounds).ends x 0 g).1 in absurd cc
          | Some o ↦ λ g. let h = (laws rounds).unended x 0 o g in absurd cc
        ] in
        by (op x 0) refl

    pub proposing_belongs : s.left ≢ 0 → ElectionBelongs D cost rounds n me at (proposing D s)
    proposing_belongs some = record {
      n_is = r.n_is;
      me_is = r.me_is;
      rounds_is = r.rounds_is;
      at_is = r.at_is;
      below = r.below;
      few = r.few;
      within = r.within;
      stage = (
        omega arith,
        subst ((D rounds).Belongs n me (at + n + (s.left - 1) * (D rounds).width n))
            (sym entered_is) ((laws rounds).starts n me _ _ r.below r.few).belongs,
        λ bit e. absurd (entered_open bit e),
      );
      enough =
          let a =
          ((laws s.rounds).starts s.n s.me (place D s (s.left - 1))
          (bit_at (s.left - 1) s.candidate)
          (let x = r.n_is in let y = r.me_is in let z = r.below in omega arith)
          (let x = r.n_is in let z = r.few in omega arith)).bounded in
          let b = cheap s.rounds s.n in
          let c = peel s.left (each_bit cost s.rounds s.n) some in
          let d = r.enough in
          omega arith;
    }

    pub going_belongs : ElectionBelongs D cost rounds n me at (going D s)
    going_belongs = going_case D (ElectionBelongs D cost rounds n me at) s
        (λ none. record {
          n_is = r.n_is;
          me_is = r.me_is;
          rounds_is = r.rounds_is;
          at_is = r.at_is;
          below = r.below;
          few = r.few;
          within = r.within;
          stage = none;
          enough = let d = r.enough in omega arith;
        })
        proposing_belongs

    pub searching_belongs : (i : ℕ) → i < n → n - i ≤ slack → fits_bits s s.candidate ≡ false
        → 1 ≤ s.left → s.left < bits_of n
        → ElectionBelongs D cost rounds n me at (record s { stage = Search i })
    searching_belongs i h g unfit some less = record {
      n_is = r.n_is;
      me_is = r.me_is;
      rounds_is = r.rounds_is;
      at_is = r.at_is;
      below = r.below;
      few = r.few;
      within = r.within;
      stage = (h, unfit, some, less);
      enough = let d = r.enough in let x = r.n_is in omega arith;
    }

    pub seeking_belongs : n ≤ slack → 1 ≤ s.left → s.left < bits_of n
        → ElectionBelongs D cost rounds n me at (seeking D s)
    seeking_belongs h some less = seeking_case D (ElectionBelongs D cost rounds n me at) s
        (λ fits. going_belongs)
        (λ unfit low. searching_belongs (s.spelled * 2 ^ s.left) (let x = r.n_is in omega arith)
        (omega arith) unfit some less)
        (λ over. going_belongs)

  pub going_begun : (s : Electing S) → begun_at (going D s).stage ≡ true
  going_begun s = going_case D (λ z. begun_at z.stage ≡ true) s (λ none. refl) (λ some. refl)

  seeking_begun : (s : Electing S) → begun_at (seeking D s).stage ≡ true
  seeking_begun s = seeking_case D (λ z. begun_at z.stage ≡ true) s (λ f. going_begun s)
      (λ u l. refl) (λ o. going_begun s)

  pub fed_begun : (stage : Stage S) (s : Electing S) (got word : ℕ) → s.stage ≡ stage
      → begun_at (fed_at D fed stage s got word).stage ≡ true
  fed_begun Announce s got word e = going_begun s
  fed_begun (Propose d) s got word e = decided_case D (λ z. begun_at z.stage ≡ true)
      (record s { stage = Propose (fed d got word) }) ((D s.rounds).output (fed d got word))
      (λ o. refl) (λ bit o l. refl)
      (λ bit o l. seeking_begun (with_bit (record s { stage = Propose (fed d got word) }) bit))
  fed_begun (Search i) s got word e = searched_case D (λ z. begun_at z.stage ≡ true) s i got
      (λ g h f. refl) (λ o. going_begun (record s { candidate = i }))
  fed_begun Alone s got word e = ap begun_at e

  going_turns : (s : Electing S) → (going D s).turns ≡ s.turns
  going_turns s = going_case D (λ z. z.turns ≡ s.turns) s (λ none. refl) (λ some. refl)

  seeking_turns : (s : Electing S) → (seeking D s).turns ≡ s.turns
  seeking_turns s = seeking_case D (λ z. z.turns ≡ s.turns) s (λ f. going_turns s) (λ u l. refl)
      (λ o. going_turns s)

  fed_turns : (stage : Stage S) (s : Electing S) (got word : ℕ)
      → (fed_at D fed stage s got word).turns ≡ s.turns
  fed_turns Announce s got word = going_turns s
  fed_turns (Propose d) s got word = decided_case D (λ z. z.turns ≡ s.turns)
      (record s { stage = Propose (fed d got word) }) ((D s.rounds).output (fed d got word))
      (λ o. refl) (λ bit o l. refl)
      (λ bit o l. seeking_turns (with_bit (record s { stage = Propose (fed d got word) }) bit))
  fed_turns (Search i) s got word = searched_case D (λ z. z.turns ≡ s.turns) s i got (λ g h f. refl)
      (λ o. going_turns (record s { candidate = i }))
  fed_turns Alone s got word = refl

  -- each step takes one turn
  pub turns_after : (s : Electing S) (got word : ℕ)
      → (election_fed D fed s got word).turns ≡ s.turns - 1
  turns_after s got word = fed_turns s.stage (record s { turns = s.turns - 1 }) got word

  module _ (n me at : ℕ) (s : Electing S) (b : ElectionBelongs D cost rounds n me at s) where
    -- the same, one turn later
    abbrev ticked : Electing S
    ticked = record s { turns = s.turns - 1 }

    pub stage_is : (stage : Stage S) → s.stage ≡ stage → StageBelongs D rounds n me at stage s
    stage_is stage e = subst (λ z. StageBelongs D rounds n me at z s) e b.stage

    pub enough_is : (stage : Stage S) → s.stage ≡ stage → work_at D cost stage s + 1 ≤ s.turns
    enough_is stage e = subst (λ z. work_at D cost z s + 1 ≤ s.turns) e b.enough

    pub ready : (slack : ℕ) (t : Electing S) → t.n ≡ s.n → t.me ≡ s.me → t.rounds ≡ s.rounds
        → t.at ≡ s.at → t.left ≤ s.left → slack + t.left * each_bit cost s.rounds s.n + 1 ≤ t.turns
        → Ready n me at slack t
    ready slack t n' me' rounds' at' left' enough' = record {
      n_is = n' ∙ b.n_is;
      me_is = me' ∙ b.me_is;
      rounds_is = rounds' ∙ b.rounds_is;
      at_is = at' ∙ b.at_is;
      below = b.below;
      few = b.few;
      within = let x = b.within in omega arith;
      enough =
          let e : each_bit cost t.rounds t.n ≡ each_bit cost s.rounds s.n =
          ap (λ z. each_bit cost z t.n) rounds' ∙ ap (each_bit cost s.rounds) n' in
          let m : t.left * each_bit cost t.rounds t.n ≡ t.left * each_bit cost s.rounds s.n =
          ap (λ z. t.left * z) e in
          omega arith;
    }

    announce_belongs : s.stage ≡ Announce → ElectionBelongs D cost rounds n me at (going D ticked)
    announce_belongs e = going_belongs n me at 0 ticked
        (ready 0 ticked refl refl refl refl (omega arith)
        (let w = enough_is Announce e in omega arith))

    -- in a decision, after one more step of it
    module _ (d : S) (got word : ℕ) (o : Op) (e : s.stage ≡ Propose d)
        (q : op d word ≡ Some o) where
      own : StageBelongs D rounds n me at (Propose d) s
      own = stage_is (Propose d) e

      g : Goes (D rounds) n me (at + n + (s.left - 1) * (D rounds).width n) o d (fed d got word)
      g = (laws rounds).goes n me (at + n + (s.left - 1) * (D rounds).width n) d got word o own.1 q

      fewer : (D s.rounds).left (fed d got word) < (D s.rounds).left d
      fewer = subst (λ z. (D z).left (fed d got word) < (D z).left d) (sym b.rounds_is) g.falls

      pub propose_stays :
          ((bit : Bool) → (D rounds).output (fed d got word) ≡ Some bit → s.left ≡ 1)
          → ElectionBelongs D cost rounds n me at
          (record ticked { stage = Propose (fed d got word) })
      propose_stays last = record {
        n_is = b.n_is;
        me_is = b.me_is;
        rounds_is = b.rounds_is;
        at_is = b.at_is;
        below = b.below;
        few = b.few;
        within = b.within;
        stage = (own.0, g.belongs, last);
        enough = let w = enough_is (Propose d) e in let f = fewer in omega arith;
      }

      pub propose_ready : (bit : Bool)
          → Ready n me at n (with_bit (record ticked { stage = Propose (fed d got word) }) bit)
      propose_ready bit = ready n
          (with_bit (record ticked { stage = Propose (fed d got word) }) bit) refl refl refl refl
          (omega arith)
          (let w = enough_is (Propose d) e in let f = fewer in let n' = b.n_is in omega arith)

      rounds_same : (D s.rounds).output (fed d got word) ≡ (D rounds).output (fed d got word)
      rounds_same = ap (λ z. (D z).output (fed d got word)) b.rounds_is

      propose_belongs : ElectionBelongs D cost rounds n me at
          (fed_at D fed (Propose d) ticked got word)
      propose_belongs = decided_case D (ElectionBelongs D cost rounds n me at)
          (record ticked { stage = Propose (fed d got word) })
          ((D s.rounds).output (fed d got word))
          (λ x. propose_stays (λ bit f. absurd (let y = sym x ∙ rounds_same ∙ f in cc y)))
          (λ bit x last. propose_stays (λ b f. let y = own.0 in omega arith))
          (λ bit x more. seeking_belongs n me at n
          (with_bit (record ticked { stage = Propose (fed d got word) }) bit) (propose_ready bit)
          (omega arith) (omega arith) (let y = b.within in omega arith))

    -- in a search, after one more load
    pub search_ready : (i : ℕ) → s.stage ≡ Search i → (slack : ℕ) → slack + 1 ≤ n - i
        → Ready n me at slack ticked
    search_ready i e slack h = ready slack ticked refl refl refl refl (omega arith)
        (let w = enough_is (Search i) e in let n' = b.n_is in omega arith)

    pub search_takes : (i : ℕ) → s.stage ≡ Search i
        → Ready n me at 0 (record ticked { candidate = i })
    search_takes i e = ready 0 (record ticked { candidate = i }) refl refl refl refl (omega arith)
        (let w = enough_is (Search i) e in
        let n' = b.n_is in let h = (stage_is (Search i) e).0 in omega arith)

    search_belongs : (i got : ℕ) → s.stage ≡ Search i
        → ElectionBelongs D cost rounds n me at (search_after D ticked i got)
    search_belongs i got e =
        let own = stage_is (Search i) e in
        let within = own.0 in
        let n' = b.n_is in
        searched_case D (ElectionBelongs D cost rounds n me at) ticked i got
        (λ zero' less fits. searching_belongs n me at (n - (i + 1)) ticked
        (search_ready i e (n - (i + 1)) (omega arith)) (i + 1) (omega arith) (omega arith) own.1
        own.2 own.3)
        (λ other. going_belongs n me at 0 (record ticked { candidate = i }) (search_takes i e))

    pub fed_belongs : (stage : Stage S) (got word : ℕ) (o : Op) → s.stage ≡ stage
        → op_at op stage s word ≡ Some o
        → ElectionBelongs D cost rounds n me at (fed_at D fed stage ticked got word)
    fed_belongs Announce got word o e q = announce_belongs e
    fed_belongs (Propose d) got word o e q = propose_belongs d got word o e q
    fed_belongs (Search i) got word o e q = search_belongs i got e
    fed_belongs Alone got word o e q = absurd cc

    -- there is a turn to take
    pub busy : (stage : Stage S) (word : ℕ) (o : Op) → s.stage ≡ stage
        → op_at op stage s word ≡ Some o → 2 ≤ s.turns
    busy Announce word o e q = let w = enough_is Announce e in omega arith
    busy (Propose d) word o e q =
        let own = stage_is (Propose d) e in
        let w = enough_is (Propose d) e in
        let g =
        (laws rounds).goes n me (at + n + (s.left - 1) * (D rounds).width n) d 0 word o own.1 q in
        let f : (D s.rounds).left (fed d 0 word) < (D s.rounds).left d =
        subst (λ z. (D z).left (fed d 0 word) < (D z).left d) (sym b.rounds_is) g.falls in
        omega arith
    busy (Search i) word o e q =
        let w = enough_is (Search i) e in
        let own = (stage_is (Search i) e).0 in let n' = b.n_is in omega arith
    busy Alone word o e q = absurd cc

    in_range : (stage : Stage S) (word : ℕ) (o : Op) → s.stage ≡ stage
        → op_at op stage s word ≡ Some o
        → (at ≤ register o) × (register o < at + (n + bits_of n * (D rounds).width n))
    in_range Announce word o e q =
        let r : s.at + s.me ≡ register o = ap register (same_Some _ _ q) in
        let x = b.at_is in let y = b.me_is in let z = b.below in
        (omega arith, omega arith)
    in_range (Propose d) word o e q =
        let own = stage_is (Propose d) e in
        let g =
        (laws rounds).goes n me (at + n + (s.left - 1) * (D rounds).width n) d 0 word o own.1 q in
        let low = g.above in
        let high = g.below in
        let one = own.0 in
        let most = b.within in
        let row = row_within (s.left - 1) (bits_of n) ((D rounds).width n) (omega arith) in
        (omega arith, omega arith)
    in_range (Search i) word o e q =
        let r : s.at + i ≡ register o = ap register (same_Some _ _ q) in
        let x = b.at_is in let z = (stage_is (Search i) e).0 in
        (omega arith, omega arith)
    in_range Alone word o e q = absurd cc

  pub election_goes : (n me at : ℕ) (s : Electing S) (got word : ℕ) (o : Op)
      → ElectionBelongs D cost rounds n me at s → election_op op s word ≡ Some o
      → Goes (election_protocol D cost rounds) n me at o s (election_fed D fed s got word)
  election_goes n me at s got word o b q =
      let r = in_range n me at s b s.stage word o refl q in
      record {
        above = r.0;
        below = r.1;
        belongs = fed_belongs n me at s b s.stage got word o refl q;
        input = refl;
        begun = fed_begun s.stage (record s { turns = s.turns - 1 }) got word refl;
        falls =
            let h = busy n me at s b s.stage word o refl q in
            let t = turns_after s got word in omega arith;
      }
