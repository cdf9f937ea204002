-- The coin keeps the laws of a protocol.
use Rattle.std.proofs.Common.{◌≡◌, ℕ, ◌+◌, ◌-◌, ◌*◌, ◌<◌, ◌≤◌, ◌^◌, Bool, true, false, Option}
use Rattle.std.proofs.Common.{Some, None, IsSome, inl, inr, [], ◌∷◌, arith, refl, sym, ◌∙◌, ap}
use Rattle.std.proofs.Common.{subst}
use Rattle.std.proofs.lemmas.Bool.{cases_eq, lt-ltb}
use Rattle.std.proofs.lemmas.Option.{same_Some}
use Rattle.bus_register.specs.declared.registers.Op.{Op}
use Rattle.bus_register.specs.Words.{register, after, SumFits}
use Rattle.bus_register.specs.Tables.{Beside, Stepped}
use Rattle.bus_register.specs.Protocol.{Goes, IsStore, Laws}
use Rattle.bus_walkcoin.specs.declared.tallies.Tally.{Tally}
use Rattle.bus_walkcoin.specs.Tally.{tally_of, word_of, tally_with, add_word_of, votes_of}
use Rattle.bus_walkcoin.specs.Tally.{total_of, sum_of}
use Rattle.bus_walkcoin.specs.declared.coins.Phase.{Phase}
use Rattle.bus_walkcoin.specs.declared.coins.Phase.TheVariants.{Vote, ReadVotes, Answered}
use Rattle.bus_walkcoin.specs.Coin.{CoinState, after_settled, after_load, coin_started, answer_at}
use Rattle.bus_walkcoin.specs.Coin.{wants_at, coin_op, coin_fed, op_at, fed_at, PhaseFits}
use Rattle.bus_walkcoin.specs.CoinRule.{settled_bit, is_head}
use Rattle.bus_walkcoin.specs.Private.CoinLaws.{load_fits}
use Rattle.bus_walkcoin.specs.CoinProtocol.{left_at, begun_at, Belongs, tally_at, tallies, Keeps}
use Rattle.bus_walkcoin.specs.CoinProtocol.{coin_protocol, AnyAnswers}
use Rattle.bus_walkcoin.proofs.VoteSums.{summed_same, summed_beside, summed_most}

-- a vote is one more
pub votes-voted : (t : Tally) (b : Bool) → votes_of (tally_with t b) ≡ votes_of t + 1
votes-voted t true = omega arith
votes-voted t false = omega arith

-- the word with a vote more is what the vote adds to it
word-voted : (t : Tally) (b : Bool) → word_of (tally_with t b) ≡ word_of t + add_word_of b
word-voted t true = omega arith
word-voted t false = omega arith

-- what a vote adds is at most a head
add_word_most : (b : Bool) → add_word_of b ≤ 2 ^ 32
add_word_most true = omega arith
add_word_most false = omega arith

settled_left : (votes : ℕ) (o : Option Bool) → left_at votes (after_settled o) ≤ (64 - votes) * 2
settled_left votes None = omega arith
settled_left votes (Some answer) = omega arith

settled_begun : (votes : ℕ) (o : Option Bool) → 0 < votes → begun_at votes (after_settled o) ≡ true
settled_begun votes None h = lt-ltb 0 votes h
settled_begun votes (Some answer) h = refl

ends_at : (ph : Phase) (s : CoinState) (word : ℕ) → op_at ph s word ≡ None
    → IsSome (answer_at ph) × (begun_at (votes_of s.own) ph ≡ true)
ends_at Vote s word e = absurd cc
ends_at ReadVotes s word e = absurd cc
ends_at (Answered answer) s word e = (refl, refl)

unended_at : (ph : Phase) (s : CoinState) (word : ℕ) (o : Op) → op_at ph s word ≡ Some o
    → answer_at ph ≡ None
unended_at Vote s word o e = refl
unended_at ReadVotes s word o e = refl
unended_at (Answered answer) s word o e = cc

unmoved_at : (ph : Phase) (s : CoinState) (got word word' : ℕ) → wants_at ph ≡ false
    → (op_at ph s word ≡ op_at ph s word') × (fed_at ph s got word ≡ fed_at ph s got word')
unmoved_at Vote s got word word' e = absurd cc
unmoved_at ReadVotes s got word word' e = (refl, refl)
unmoved_at (Answered answer) s got word word' e = (refl, refl)

blind_at : (ph : Phase) (s : CoinState) (got got' word : ℕ) (o : Op) → op_at ph s word ≡ Some o
    → IsStore o → fed_at ph s got word ≡ fed_at ph s got' word
blind_at Vote s got got' word o e st = refl
blind_at ReadVotes s got got' word o e st = absurd (let x = same_Some _ _ e ∙ st.2 in cc x)
blind_at (Answered answer) s got got' word o e st = refl

goes_at : (ph : Phase) (me : ℕ) (s : CoinState) (got word : ℕ) (o : Op) → s.phase ≡ ph → me < s.n
    → s.n ≤ 64 → votes_of s.own ≤ 64 → PhaseFits (votes_of s.own) ph → op_at ph s word ≡ Some o
    → Goes coin_protocol s.n me s.at o s (fed_at ph s got word)
goes_at Vote me s got word o e b few v f q =
    let more = votes-voted s.own (is_head word) in
    subst (λ z. Goes coin_protocol s.n me s.at z s (fed_at Vote s got word)) (same_Some _ _ q)
    record {
      above = omega arith;
      below = omega arith;
      belongs = record {
        n_is = refl;
        at_is = refl;
        below = b;
        few = few;
        votes = omega arith;
        fits = omega arith;
      };
      input = refl;
      begun = refl;
      falls = subst (λ z.
          left_at (votes_of (tally_with s.own (is_head word))) ReadVotes
          < left_at (votes_of s.own) z) (sym e) (omega arith);
    }
goes_at ReadVotes me s got word o e b few v f q =
    subst (λ z. Goes coin_protocol s.n me s.at z s (fed_at ReadVotes s got word)) (same_Some _ _ q)
    record {
      above = omega arith;
      below = omega arith;
      belongs = record {
        n_is = refl;
        at_is = refl;
        below = b;
        few = few;
        votes = v;
        fits = load_fits s.n (votes_of s.own) got f v;
      };
      input = refl;
      begun = settled_begun (votes_of s.own)
          (settled_bit s.n (votes_of s.own) (total_of (tally_of got ∷ []))) f;
      falls = subst (λ z.
          left_at (votes_of s.own) (after_load s.n (votes_of s.own) got)
          < left_at (votes_of s.own) z) (sym e)
          (let most = settled_left (votes_of s.own)
          (settled_bit s.n (votes_of s.own) (total_of (tally_of got ∷ []))) in
          omega arith);
    }
goes_at (Answered answer) me s got word o e b few v f q = absurd cc

goes_of : (n me at : ℕ) (s : CoinState) (got word : ℕ) (o : Op) → Belongs n me at s
    → coin_op s word ≡ Some o → Goes coin_protocol n me at o s (coin_fed s got word)
goes_of n me at s got word o b q =
    let below : me < s.n = let x = b.n_is in let z = b.below in omega arith in
    let few : s.n ≤ 64 = let x = b.n_is in let z = b.few in omega arith in
    subst (λ z. Goes coin_protocol z me at o s (coin_fed s got word)) b.n_is
    (subst (λ z. Goes coin_protocol s.n me z o s (coin_fed s got word)) b.at_is
    (goes_at s.phase me s got word o refl below few b.votes b.fits q))

-- each step is on the counter, and adds to it the vote that it adds to the own ones, if any
record Counts (s : CoinState) (o : Op) (t : CoinState) : Type 0 where
  place : register o ≡ s.at
  adds : (found : ℕ) → after o found + word_of s.own ≡ found + word_of t.own

step_at : (ph : Phase) (s : CoinState) (got word : ℕ) (o : Op) → op_at ph s word ≡ Some o
    → Counts s o (fed_at ph s got word)
step_at Vote s got word o e = record {
  place = ap register (sym (same_Some _ _ e));
  adds = λ found.
      let w = word-voted s.own (is_head word) in
      ap (λ z. after z found + word_of s.own) (sym (same_Some _ _ e)) ∙ omega arith;
}
step_at ReadVotes s got word o e = record {
  place = ap register (sym (same_Some _ _ e));
  adds = λ found. ap (λ z. after z found + word_of s.own) (sym (same_Some _ _ e));
}
step_at (Answered answer) s got word o e = absurd cc

-- a step fits where the word has room for a head more
sum_at : (ph : Phase) (s : CoinState) (word found : ℕ) (o : Op) → found + 2 ^ 32 < 2 ^ 64
    → op_at ph s word ≡ Some o → SumFits o found
sum_at Vote s word found o l e = subst (λ z. SumFits z found) (same_Some _ _ e)
    (let most = add_word_most (is_head word) in omega arith)
sum_at ReadVotes s word found o l e = subst (λ z. SumFits z found) (same_Some _ _ e) tt
sum_at (Answered answer) s word found o l e = absurd cc

-- where nobody's votes change, nor does the sum
counter_same : (n : ℕ) (old new : ℕ → Option CoinState)
    → ((q : ℕ) → tally_at (new q) ≡ tally_at (old q))
    → word_of (sum_of (tallies n new)) ≡ word_of (sum_of (tallies n old))
counter_same n old new same =
    let heads =
    summed_same (λ t. t.heads) (λ q. tally_at (old q)) (λ q. tally_at (new q)) n (λ q l. same q) in
    let tails =
    summed_same (λ t. t.tails) (λ q. tally_at (old q)) (λ q. tally_at (new q)) n (λ q l. same q) in
    omega arith

module _ (n at : ℕ) (words : ℕ → ℕ) (locals : ℕ → Option CoinState)
    (k : Keeps n at words locals) where
  most_at : (q : ℕ) (o : Option CoinState) → locals q ≡ o → votes_of (tally_at o) ≤ 64
  most_at q None e = omega arith
  most_at q (Some s) e = (k.inside q s e).1.votes

  -- with at most 64 votes of each process, the word has room for one more
  room : n ≤ 64 → words at + 2 ^ 32 < 2 ^ 64
  room few =
      let heads = summed_most (λ t. t.heads) (λ q. tally_at (locals q)) 64 n
      (λ q l. let m = most_at q (locals q) refl in omega arith) in
      let tails = summed_most (λ t. t.tails) (λ q. tally_at (locals q)) 64 n
      (λ q l. let m = most_at q (locals q) refl in omega arith) in
      let c = k.counter in
      omega arith

  fits_of : (p : ℕ) (s : CoinState) (word : ℕ) (o : Op) → locals p ≡ Some s
      → coin_op s word ≡ Some o → SumFits o (words (register o))
  fits_of p s word o here next =
      let b = (k.inside p s here).1 in
      let place : at ≡ register o = sym b.at_is ∙ sym (step_at s.phase s 0 word o next).place in
      subst (λ z. SumFits o (words z)) place (sum_at s.phase s word (words at) o (room b.few) next)

module _ (n at : ℕ) (words words' : ℕ → ℕ) (old new : ℕ → Option CoinState) (p : ℕ) (s : CoinState)
    (word : ℕ) (o : Op)
    (k : Keeps n at words old) (here : old p ≡ Some s) (next : coin_op s word ≡ Some o)
    (goes : new p ≡ Some (coin_fed s (words (register o)) word)) (beside : Beside p old new)
    (step : Stepped at 1 o words words') where
  mine : Belongs n p at s
  mine = (k.inside p s here).1

  abbrev now : CoinState
  now = coin_fed s (words (register o)) word

  inside : (q : ℕ) (u : CoinState) → new q ≡ Some u → (q < n) × Belongs n q at u
  inside q u e = elim (cases_eq q p) [
    | inl i ↦ subst (λ z. (z < n) × Belongs n z at u) (sym i) (
      mine.below,
      subst (Belongs n p at) (same_Some _ _ (sym goes ∙ ap new (sym i) ∙ e))
          (goes_of n p at s (words (register o)) word o mine next).belongs,
    )
    | inr ne ↦ k.inside q u (sym (beside q ne) ∙ e)
  ]

  counts : Counts s o now
  counts = step_at s.phase s (words (register o)) word o next

  place : register o ≡ at
  place = counts.place ∙ mine.at_is

  written : words' at ≡ after o (words at)
  written = ap words' (sym place) ∙ step.here ∙ ap (λ z. after o (words z)) place

  counter : words' at ≡ word_of (sum_of (tallies n new))
  counter =
      let was : tally_at (old p) ≡ s.own = ap tally_at here in
      let is : tally_at (new p) ≡ now.own = ap tally_at goes in
      let heads = summed_beside (λ t. t.heads) (λ q. tally_at (old q)) (λ q. tally_at (new q)) p n
      mine.below (λ q ne. ap tally_at (beside q ne)) in
      let tails = summed_beside (λ t. t.tails) (λ q. tally_at (old q)) (λ q. tally_at (new q)) p n
      mine.below (λ q ne. ap tally_at (beside q ne)) in
      let heads_was = ap (λ t. t.heads) was in let heads_is = ap (λ t. t.heads) is in
      let tails_was = ap (λ t. t.tails) was in let tails_is = ap (λ t. t.tails) is in
      let sum = counts.adds (words at) in
      let kept = k.counter in let w = written in
      omega arith

  pub moves_keep : Keeps n at words' new
  moves_keep = record { inside = inside; counter = counter }

started_belongs : (n me at : ℕ) → me < n → n ≤ 64 → Belongs n me at (coin_started n at)
started_belongs n me at below few = record {
  n_is = refl;
  at_is = refl;
  below = below;
  few = few;
  votes = omega arith;
  fits = omega arith;
}

-- nobody has voted yet
fresh_keep : (n at : ℕ) (words : ℕ → ℕ) → words at ≡ 0 → Keeps n at words (λ _. None)
fresh_keep n at words zero = record {
  inside = λ p s e. absurd cc;
  counter =
      let heads = summed_most (λ t. t.heads) (λ q. tally_at None) 0 n (λ q l. omega arith) in
      let tails = summed_most (λ t. t.tails) (λ q. tally_at None) 0 n (λ q l. omega arith) in
      omega arith;
}

enters_keep : (n at : ℕ) (words : ℕ → ℕ) (old new : ℕ → Option CoinState) (p : ℕ)
    → Keeps n at words old → p < n → n ≤ 64 → old p ≡ None → new p ≡ Some (coin_started n at)
    → Beside p old new → Keeps n at words new
enters_keep n at words old new p k below few none start beside = record {
  inside = λ q u e. elim (cases_eq q p) [
    | inl i ↦ subst (λ z. (z < n) × Belongs n z at u) (sym i) (
      below,
      subst (Belongs n p at) (same_Some _ _ (sym start ∙ ap new (sym i) ∙ e))
          (started_belongs n p at below few),
    )
    | inr ne ↦ k.inside q u (sym (beside q ne) ∙ e)
  ];
  counter = k.counter ∙ sym (counter_same n old new (λ q. elim (cases_eq q p) [
    | inl i ↦
        ap (λ z. tally_at (new z)) i ∙ ap tally_at start ∙ sym (ap tally_at none)
        ∙ ap (λ z. tally_at (old z)) (sym i)
    | inr ne ↦ ap tally_at (beside q ne)
  ]));
}

pub coin_laws : Laws coin_op coin_fed coin_protocol AnyAnswers
coin_laws = record {
  starts = λ n me at v below few. record {
    belongs = started_belongs n me at below few;
    input = refl;
    fresh = refl;
    bounded = omega arith;
  };
  goes = goes_of;
  ends = λ s word e. ends_at s.phase s word e;
  unended = λ s word o e. unended_at s.phase s word o e;
  unmoved = λ s got word word' e. unmoved_at s.phase s got word word' e;
  blind = λ s got got' word o e st. blind_at s.phase s got got' word o e st;
  fresh = λ n at words zero. fresh_keep n at words (zero at (omega arith) (omega arith));
  enters = λ n at words old new p v k below few none start beside.
      enters_keep n at words old new p k below few none start beside;
  moves = moves_keep;
  fits = λ n at words locals p s word o k here e. fits_of n at words locals k p s word o here e;
  frame = λ n at words words' old new k agree same. record {
    inside = λ p s e. k.inside p s (sym (same p) ∙ e);
    counter =
        agree at (omega arith) (omega arith) ∙ k.counter
        ∙ sym (counter_same n old new (λ q. ap tally_at (same q)));
  };
  known = λ n at words locals p s k e. k.inside p s e;
  outcome = λ n at words locals k. tt;
}
