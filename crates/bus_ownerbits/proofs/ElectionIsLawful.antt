-- An election keeps its law: there is one owner, who announced itself.
use Rattle.std.proofs.Common.{◌≡◌, ℕ, zero, suc, ◌+◌, ◌*◌, ◌-◌, ◌<◌, ◌≤◌, ◌^◌, Bool, true, false}
use Rattle.std.proofs.Common.{cond, Option, Some, None, IsSome, inl, inr, arith, refl, sym, ◌∙◌}
use Rattle.std.proofs.Common.{ap, subst}
use Rattle.std.proofs.lemmas.Bool.{cases_eq}
use Rattle.std.proofs.lemmas.Option.{same_Some}
use Rattle.bus_register.specs.declared.registers.Op.{Op}
use Rattle.bus_register.specs.Words.{register, SumFits}
use Rattle.bus_register.specs.Tables.{of_some, Beside, Agree}
use Rattle.bus_register.specs.Private.TableLaws.{some_of}
use Rattle.bus_register.specs.Protocol.{Protocol, Laws, Starts, IsStore, counted_input, inputs}
use Rattle.bus_register.specs.Protocol.{outputs}
use Rattle.bus_binconsensus.specs.Deciding.{Decides}
use Rattle.bus_register.specs.Digits.{digit}
use Rattle.bus_ownerbits.specs.declared.stages.Stage.{Stage}
use Rattle.bus_ownerbits.specs.declared.stages.Stage.TheVariants.{Announce, Propose, Search, Alone}
use Rattle.bus_ownerbits.specs.Sizes.{bits_of}
use Rattle.bus_ownerbits.specs.Election.{Decisions, Electing, fits_bits, decided_by, fed_at}
use Rattle.bus_ownerbits.specs.Election.{election_op, election_fed, op_at, bit_told, owner_at}
use Rattle.bus_ownerbits.specs.Election.{owner_of}
use Rattle.bus_ownerbits.specs.OneOwner.{OneOwner}
use Rattle.bus_ownerbits.specs.ElectionKeeps.{Spelled, Standing, StageStands, ElectionKeeps}
use Rattle.bus_ownerbits.specs.ElectionKeeps.{announcement, begun_at, wants_at, spelled_of}
use Rattle.bus_ownerbits.specs.ElectionKeeps.{StageBelongs, ElectionBelongs, election_started}
use Rattle.bus_ownerbits.specs.ElectionKeeps.{election_protocol}
use Rattle.bus_ownerbits.proofs.ElectionGrows.{Grows, proposed_stays, standing_stays}
use Rattle.bus_ownerbits.proofs.ElectionMoves.{Board, one_number, fitted, spelled_more}
use Rattle.bus_ownerbits.proofs.ElectionMoves.{election_moves}
use Rattle.bus_ownerbits.proofs.ElectionSteps.{row_within, election_goes}
use Rattle.bus_ownerbits.proofs.NumberLaws.{all_bits, bits_enough}

bit_told_is : (o : Option Bool) (spelled v : ℕ) → bit_told o spelled ≡ Some v
    → (bit : Bool) × (o ≡ Some bit) × (v ≡ 2 * spelled + digit bit)
bit_told_is None spelled v e = absurd cc
bit_told_is (Some bit) spelled v e = (bit, refl, sym (same_Some _ _ e))

-- an owner stands only at the last bit, or where there is none
last_at : {S : Type 0} (D : Decisions S) (rounds n me at v : ℕ) (s : Electing S) → s.rounds ≡ rounds
    → (stage : Stage S) → StageBelongs D rounds n me at stage s → owner_at D stage s ≡ Some v
    → s.left ≤ 1
last_at D rounds n me at v s r Announce b e = absurd cc
last_at D rounds n me at v s r (Propose d) b e =
    let told = bit_told_is ((D s.rounds).output d) s.spelled v e in
    let last = b.2 told.0 (ap (λ z. (D z).output d) (sym r) ∙ told.1) in
    omega arith
last_at D rounds n me at v s r (Search i) b e = absurd cc
last_at D rounds n me at v s r Alone b e = let none : s.left ≡ 0 = b in omega arith

pub last_bit :
    {S : Type 0} (D : Decisions S) (cost : ℕ → ℕ → ℕ) (rounds n me at v : ℕ) (s : Electing S)
    → ElectionBelongs D cost rounds n me at s → owner_of D s ≡ Some v → s.left ≤ 1
last_bit D cost rounds n me at v s b e = last_at D rounds n me at v s b.rounds_is s.stage b.stage e

-- a process searches only after a bit, not the last, that does not fit its candidate
pub searches :
    {S : Type 0} (D : Decisions S) (cost : ℕ → ℕ → ℕ) (rounds n me at i : ℕ) (s : Electing S)
    → ElectionBelongs D cost rounds n me at s → s.stage ≡ Search i
    → (fits_bits s s.candidate ≡ false) × (1 ≤ s.left) × (s.left < bits_of n)
searches D cost rounds n me at i s b e =
    let own : StageBelongs D rounds n me at (Search i) s =
    subst (λ z. StageBelongs D rounds n me at z s) e b.stage in
    (own.1, own.2, own.3)

bit_told_some : (o : Option Bool) (spelled : ℕ) → IsSome o → IsSome (bit_told o spelled)
bit_told_some None spelled s = absurd cc
bit_told_some (Some bit) spelled s = refl

module _ {S : Type 0} (op : S → ℕ → Option Op) (fed : S → ℕ → ℕ → S) (D : Decisions S)
    (cost : ℕ → ℕ → ℕ) (laws : (r : ℕ) → Laws op fed (D r) Decides)
    (cheap : (r n : ℕ) → (D r).steps n ≤ cost r n) (rounds : ℕ) where
  abbrev E : Protocol (Electing S) (Unit {0}) ℕ
  E = election_protocol D cost rounds

  ends_at : (stage : Stage S) (s : Electing S) (word : ℕ) → s.stage ≡ stage
      → op_at op stage s word ≡ None → IsSome (owner_at D stage s) × (begun_at stage ≡ true)
  ends_at Announce s word e q = absurd cc
  ends_at (Propose d) s word e q = (
    bit_told_some ((D s.rounds).output d) s.spelled ((laws s.rounds).ends d word q).0,
    refl,
  )
  ends_at (Search i) s word e q = absurd cc
  ends_at Alone s word e q = (refl, refl)

  unended_at : (stage : Stage S) (s : Electing S) (word : ℕ) (o : Op)
      → op_at op stage s word ≡ Some o → owner_at D stage s ≡ None
  unended_at Announce s word o q = refl
  unended_at (Propose d) s word o q =
      ap (λ z. bit_told z s.spelled) ((laws s.rounds).unended d word o q)
  unended_at (Search i) s word o q = refl
  unended_at Alone s word o q = absurd cc

  unmoved_at : (stage : Stage S) (s t : Electing S) (got word word' : ℕ)
      → wants_at D stage s ≡ false
      → (op_at op stage s word ≡ op_at op stage s word')
      × (fed_at D fed stage t got word ≡ fed_at D fed stage t got word')
  unmoved_at Announce s t got word word' e = (refl, refl)
  unmoved_at (Propose d) s t got word word' e =
      let a = (laws s.rounds).unmoved d got word word' e in
      (a.0, ap (λ z. decided_by D (record t { stage = Propose z }) ((D t.rounds).output z)) a.1)
  unmoved_at (Search i) s t got word word' e = (refl, refl)
  unmoved_at Alone s t got word word' e = (refl, refl)

  blind_at : (stage : Stage S) (s t : Electing S) (got got' word : ℕ) (o : Op)
      → op_at op stage s word ≡ Some o → IsStore o
      → fed_at D fed stage t got word ≡ fed_at D fed stage t got' word
  blind_at Announce s t got got' word o q i = refl
  blind_at (Propose d) s t got got' word o q i = ap
      (λ z. decided_by D (record t { stage = Propose z }) ((D t.rounds).output z))
      ((laws s.rounds).blind d got got' word o q i)
  blind_at (Search i) s t got got' word o q (r, x, j) = absurd (let e = same_Some _ _ q ∙ j in cc e)
  blind_at Alone s t got got' word o q i = absurd cc

  starts_of : (n me at : ℕ) (v : Unit {0}) → me < n → n ≤ 64 → Starts E n me at v
  starts_of n me at v below few = record {
    belongs = record {
      n_is = refl;
      me_is = refl;
      rounds_is = refl;
      at_is = refl;
      below = below;
      few = few;
      within = omega arith;
      stage = tt;
      enough = omega arith;
    };
    input = refl;
    fresh = refl;
    bounded = omega arith;
  }

  fresh_of : (n at : ℕ) (words : ℕ → ℕ) → Agree at (E.width n) (λ _. 0) words
      → ElectionKeeps D cost rounds n at words (λ _. None)
  fresh_of n at words agree = record {
    visits = λ k p. None;
    kept = λ k h. (laws rounds).fresh n (at + n + k * (D rounds).width n) words
        (λ r l u.
        let w = row_within k (bits_of n) ((D rounds).width n) h in
        agree r (omega arith) (omega arith));
    proposed = λ k p x e. absurd cc;
    tells = λ p h. agree (at + p) (omega arith) (omega arith);
    stands = λ p s e. absurd cc;
    absent = λ p k e. refl;
  }

  enters_of : (n at : ℕ) (words : ℕ → ℕ) (old new : ℕ → Option (Electing S)) (p : ℕ)
      → ElectionKeeps D cost rounds n at words old → p < n → n ≤ 64 → old p ≡ None
      → new p ≡ Some (election_started cost rounds n p at) → Beside p old new
      → ElectionKeeps D cost rounds n at words new
  enters_of n at words old new p k below few none goes beside =
      let is : (m : ℕ) → bits_of n + m ≡ bits_of n
      → 0 ≡ spelled_of (D rounds) k.visits p m (bits_of n) = λ m.
      elim m as (λ z.
      bits_of n + z ≡ bits_of n → 0 ≡ spelled_of (D rounds) k.visits p z (bits_of n)) [
        | zero ↦ λ e. refl
        | suc m' ↦ λ e. absurd (omega arith)
      ] in
      let own : Standing D cost rounds n at words k.visits p (election_started cost rounds n p at) =
      record {
        belongs = (starts_of n p at tt below few).belongs;
        spelled = record { saw = λ j h h'. absurd (omega arith); is = is };
        stage = (refl, refl, λ j. k.absent p j none);
      } in
      record {
        visits = k.visits;
        kept = k.kept;
        proposed = k.proposed;
        tells = λ q h. elim (cases_eq q p) [
          | inl i ↦
              k.tells q h ∙ ap announcement (ap old i ∙ none)
              ∙ sym (ap announcement (ap new i ∙ goes))
          | inr ne ↦ k.tells q h ∙ ap announcement (sym (beside q ne))
        ];
        stands = λ q u e. elim (cases_eq q p) [
          | inl i ↦ subst (λ z. Standing D cost rounds n at words k.visits z u) (sym i)
              (subst (Standing D cost rounds n at words k.visits p)
              (same_Some _ _ (sym goes ∙ ap new (sym i) ∙ e)) own)
          | inr ne ↦ k.stands q u (sym (beside q ne) ∙ e)
        ];
        absent = λ q j e. elim (cases_eq q p) [
          | inl i ↦ absurd (let x = sym goes ∙ ap new (sym i) ∙ e in cc)
          | inr ne ↦ k.absent q j (sym (beside q ne) ∙ e)
        ];
      }

  frame_of : (n at : ℕ) (words words' : ℕ → ℕ) (old new : ℕ → Option (Electing S))
      → ElectionKeeps D cost rounds n at words old → Agree at (E.width n) words words'
      → ((q : ℕ) → new q ≡ old q) → ElectionKeeps D cost rounds n at words' new
  frame_of n at words words' old new k agree same =
      let calm : (q : ℕ) → q < n → words' (at + q) ≡ words (at + q) =
      λ q h. agree (at + q) (omega arith) (omega arith) in
      let grows : Grows (D rounds) n at words words' k.visits k.visits =
      record { same = λ q j x. refl; loud = λ c h x. calm c h ∙ x } in
      record {
        visits = k.visits;
        kept = λ j h. (laws rounds).frame n (at + n + j * (D rounds).width n) words words'
            (k.visits j) (k.visits j) (k.kept j h)
            (λ r l u.
            let w = row_within j (bits_of n) ((D rounds).width n) h in
            agree r (omega arith) (omega arith)) (λ q. refl);
        proposed = λ j q x e. proposed_stays (D rounds) n at words words' k.visits k.visits grows q
            j x (k.proposed j q x e);
        tells = λ q h. calm q h ∙ k.tells q h ∙ ap announcement (sym (same q));
        stands = λ q u e. standing_stays D cost rounds n at words words' k.visits k.visits grows q u
            (λ j. refl) (k.stands q u (sym (same q) ∙ e));
        absent = λ q j e. k.absent q j (sym (same q) ∙ e);
      }

  fits_at : (n at : ℕ) (words : ℕ → ℕ) (locals : ℕ → Option (Electing S)) (p : ℕ) (s : Electing S)
      (word : ℕ) (o : Op) → (k : ElectionKeeps D cost rounds n at words locals) → locals p ≡ Some s
      → (stage : Stage S) → s.stage ≡ stage → op_at op stage s word ≡ Some o
      → SumFits o (words (register o))
  fits_at n at words locals p s word o k here Announce e q =
      subst (λ z. SumFits z (words (register o))) (same_Some _ _ q) tt
  fits_at n at words locals p s word o k here (Propose d) e q =
      let w = k.stands p s here in
      let st = subst (λ z. StageStands (D rounds) k.visits n at words p z s) e w.stage in
      let b : StageBelongs D rounds n p at (Propose d) s =
      subst (λ z. StageBelongs D rounds n p at z s) e w.belongs.stage in
      (laws rounds).fits n (at + n + (s.left - 1) * (D rounds).width n) words
      (k.visits (s.left - 1)) p d word o
      (k.kept (s.left - 1) (let x = w.belongs.within in let y = b.0 in omega arith)) st.0 q
  fits_at n at words locals p s word o k here (Search i) e q =
      subst (λ z. SumFits z (words (register o))) (same_Some _ _ q) tt
  fits_at n at words locals p s word o k here Alone e q = absurd cc

  announced_counts : (o : Option (Electing S)) → announcement o ≡ 1
      → of_some (counted_input E) o ≡ Some tt
  announced_counts None e = absurd (omega arith)
  announced_counts (Some s) e =
      let by : (b : Bool) → cond {A = ℕ} b 1 0 ≡ 1 → cond b (Some (tt {0})) None ≡ Some (tt {0}) =
      λ b. elim b as (λ z. cond {A = ℕ} z 1 0 ≡ 1 → cond z (Some (tt {0})) None ≡ Some (tt {0})) [
        | true ↦ λ f. refl
        | false ↦ λ f. absurd (omega arith)
      ] in
      by (begun_at s.stage) e

  module _ (n at : ℕ) (words : ℕ → ℕ) (locals : ℕ → Option (Electing S))
      (k : ElectionKeeps D cost rounds n at words locals) where
    board : Board op fed D cost laws cheap rounds n at words k.visits
    board = record { kept = k.kept; proposed = k.proposed }

    -- a process with an owner has seen all bits, and they spell an announced process
    record Finished (p v : ℕ) : Type 0 where
      spelled : Spelled (D rounds) k.visits (bits_of n) p 0 v
      below : v < n
      announced : words (at + v) ≡ 1

    finished_at : (p v : ℕ) (s : Electing S) → locals p ≡ Some s → (stage : Stage S)
        → s.stage ≡ stage → owner_at D stage s ≡ Some v → Finished p v
    finished_at p v s here Announce e q = absurd cc
    finished_at p v s here (Propose d) e q =
        let w = k.stands p s here in
        let a = bit_told_is ((D s.rounds).output d) s.spelled v q in
        let st = subst (λ z. StageStands (D rounds) k.visits n at words p z s) e w.stage in
        let told : (D rounds).output d ≡ Some a.0 =
        ap (λ z. (D z).output d) (sym w.belongs.rounds_is) ∙ a.1 in
        let one : s.left ≡ 1 = st.2 a.0 told in
        let some : 0 < bits_of n = let x = w.belongs.within in omega arith in
        let last : k.visits 0 p ≡ Some d =
        ap (λ z. k.visits z p) (let g : 0 ≡ s.left - 1 = omega arith in g) ∙ st.0 in
        let before : Spelled (D rounds) k.visits (bits_of n) p (suc 0) s.spelled =
        subst (λ z. Spelled (D rounds) k.visits (bits_of n) p z s.spelled) one w.spelled in
        let f = fitted op fed D cost laws cheap rounds n at words k.visits board p 0 s.spelled a.0 d
        some before last told in
        let same : f.0 ≡ v = sym (all_bits f.0) ∙ f.1.fits ∙ sym a.2 in
        record {
          spelled = subst (Spelled (D rounds) k.visits (bits_of n) p 0) (sym a.2)
              (spelled_more op fed D cost laws cheap rounds n at words k.visits board p 0 s.spelled
              a.0 d some before last told);
          below = subst (λ z. z < n) same f.1.below;
          announced = subst (λ z. words (at + z) ≡ 1) same f.1.announced;
        }
    finished_at p v s here (Search i) e q = absurd cc
    finished_at p v s here Alone e q =
        let w = k.stands p s here in
        let st = subst (λ z. StageStands (D rounds) k.visits n at words p z s) e w.stage in
        let is : s.spelled ≡ v = same_Some _ _ q in
        let none : s.spelled ≡ 0 = w.spelled.is 0 (let x = st.0 in let y = st.1 in omega arith) in
        let few : n ≤ 1 =
        let x = bits_enough n w.belongs.few in
        let y : 2 ^ bits_of n ≡ 1 = ap (λ z. 2 ^ z) st.1 in omega arith in
        let b = w.belongs.below in
        let same : p ≡ v = omega arith in
        record {
          spelled = subst (λ z. Spelled (D rounds) k.visits (bits_of n) p z v) st.0
              (subst (Spelled (D rounds) k.visits (bits_of n) p s.left) is w.spelled);
          below = omega arith;
          announced = subst (λ z. words (at + z) ≡ 1) same
              (k.tells p b ∙ ap announcement here ∙ ap (λ z. cond (begun_at z) 1 0) e);
        }

    finished : (p v : ℕ) → outputs E locals p ≡ Some v → Finished p v
    finished p v e =
        let a = some_of (owner_of D) (locals p) v e in finished_at p v a.0 a.1 a.0.stage refl a.2

    one_owner : OneOwner (inputs E locals) (outputs E locals)
    one_owner = record {
      equal = λ p q v w e f. one_number op fed D cost laws cheap rounds n at words k.visits board p
          q 0 v w (omega arith) (finished p v e).spelled (finished q w f).spelled;
      announcer = λ p v e.
          let a = finished p v e in
          announced_counts (locals v) (sym (k.tells v a.below) ∙ a.announced);
    }

    pub owner_below : (p v : ℕ) → outputs E locals p ≡ Some v → v < n
    owner_below p v e = (finished p v e).below

  pub election_laws : Laws (election_op op) (election_fed D fed) (election_protocol D cost rounds)
      OneOwner
  election_laws = record {
    starts = starts_of;
    goes = λ n me at s got word o b q.
        election_goes op fed D cost laws cheap rounds n me at s got word o b q;
    ends = λ s word q. ends_at s.stage s word refl q;
    unended = λ s word o q. unended_at s.stage s word o q;
    unmoved = λ s got word word' e.
        unmoved_at s.stage s (record s { turns = s.turns - 1 }) got word word' e;
    blind = λ s got got' word o q i.
        blind_at s.stage s (record s { turns = s.turns - 1 }) got got' word o q i;
    fresh = fresh_of;
    enters = λ n at words old new p v k below few none goes beside.
        enters_of n at words old new p k below few none goes beside;
    moves = λ n at words words' old new p s word o k here next goes beside step.
        election_moves op fed D cost laws cheap rounds n at words words' old new p s word o k here
        beside step next goes;
    fits = λ n at words locals p s word o k here q.
        fits_at n at words locals p s word o k here s.stage refl q;
    frame = frame_of;
    known = λ n at words locals p s k e. let b = (k.stands p s e).belongs in (b.below, b);
    outcome = λ n at words locals k. one_owner n at words locals k;
  }
