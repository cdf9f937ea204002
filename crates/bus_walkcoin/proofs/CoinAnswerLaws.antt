-- A machine that was fed a trail answers what the definition says.
use Rattle.std.proofs.Common.{◌≡◌, ℕ, zero, suc, ◌+◌, ◌-◌, ◌≤◌, zero-add, Bool, true, false, not}
use Rattle.std.proofs.Common.{cond, ◌&&◌, ◌||◌, ◌==◌, Option, Some, None, IsSome, is_none, ◌⊎◌}
use Rattle.std.proofs.Common.{inl, inr, List, [], ◌∷◌, ◌++◌, map, length, drop, arith, add-zero}
use Rattle.std.proofs.Common.{append_assoc, length-append, refl, sym, ◌∙◌, ap, subst}
use Rattle.std.specs.Prelude.{◌↔◌, filter, count_by}
use Rattle.std.proofs.lemmas.Bool.Decides.{eqb_tells}
use Rattle.std.proofs.lemmas.List.{map-append, drop-append-le, append-nil, drop_all}
use Rattle.std.proofs.lemmas.List.Elements.{filter-append}
use Rattle.std.proofs.lemmas.List.Sums.{sum_by-append, sum_by-cons}
use Rattle.std.proofs.lemmas.Option.{same_Some}
use Rattle.bus_register.specs.declared.kinds.Kind.{Kind}
use Rattle.bus_register.specs.declared.kinds.Kind.TheVariants as kind
use Rattle.bus_register.specs.declared.registers.Op.{Op}
use Rattle.bus_register.specs.declared.registers.Op.TheVariants.{Load, Store, Add, Cas}
use Rattle.bus_walkcoin.specs.declared.tallies.Tally.{Tally}
use Rattle.bus_walkcoin.specs.Tally.{tally_of, tally_with, add_word_of, votes_of, total_of}
use Rattle.bus_walkcoin.specs.declared.coins.Phase.{Phase}
use Rattle.bus_walkcoin.specs.declared.coins.Phase.TheVariants.{Vote, ReadVotes, Answered}
use Rattle.bus_walkcoin.specs.Coin.{CoinState, after_settled, after_load, coin_started, answer_at}
use Rattle.bus_walkcoin.specs.Coin.{wants_at, kind_at, coin_kind, coin_op, coin_fed, op_at, fed_at}
use Rattle.bus_walkcoin.specs.CoinRule.{Entry, is_head, is_addition, is_vote, is_load, settled_bit}
use Rattle.bus_walkcoin.specs.CoinRule.{votes, tally_of_votes, is_one_load, are_round, last_steps}
use Rattle.bus_walkcoin.specs.CoinRule.{total_seen, is_round, coin_answer, is_first, coin_votes}
use Rattle.bus_walkcoin.specs.CoinRule.{step_due, kind_due}
use Rattle.bus_walkcoin.specs.CoinAnswer.{Took, CoinAnswer, RefusesEarlyAnswers, RefusesSteps}

-- ---- one step more in a list

count_push : (p : Bool → Bool) (vs : List Bool) (v : Bool)
    → count_by p (vs ++ v ∷ []) ≡ count_by p vs + cond (p v) 1 0
count_push p vs v =
    sum_by-append (λ x. cond (p x) 1 0) vs (v ∷ [])
    ∙ ap (λ z. count_by p vs + z) (zero-add (cond (p v) 1 0))

same_tally : (h h' t t' : ℕ) → h ≡ h' → t ≡ t'
    → (let a : Tally = record { heads = h; tails = t } in
    let b : Tally = record { heads = h'; tails = t' } in a ≡ b)
same_tally h h' t t' e f =
    ap (λ z. (let a : Tally = record { heads = z; tails = t } in a)) e
    ∙ ap (λ z. (let a : Tally = record { heads = h'; tails = z } in a)) f

counted_push : (vs : List Bool) (v : Bool)
    → tally_of_votes (vs ++ v ∷ []) ≡ tally_with (tally_of_votes vs) v
counted_push vs true = same_tally _ _ _ _ (count_push (λ v. v) vs true)
    (count_push not vs true ∙ add-zero (count_by not vs))
counted_push vs false = same_tally _ _ _ _
    (count_push (λ v. v) vs false ∙ add-zero (count_by (λ v. v) vs)) (count_push not vs false)

-- as many votes as there are heads and tails
votes_of-counted : (vs : List Bool) → votes_of (tally_of_votes vs) ≡ length vs
votes_of-counted [] = refl
votes_of-counted (true ∷ vs) = omega (
  arith,
  sum_by-cons (λ x. cond x 1 0) true vs,
  sum_by-cons (λ x. cond (not x) 1 0) true vs,
  votes_of-counted vs,
)
votes_of-counted (false ∷ vs) = omega (
  arith,
  sum_by-cons (λ x. cond x 1 0) false vs,
  sum_by-cons (λ x. cond (not x) 1 0) false vs,
  votes_of-counted vs,
)

-- the votes of one step more
votes_push : (at : ℕ) (trail : List Entry) (e : Entry)
    → votes at (trail ++ e ∷ [])
    ≡ votes at trail ++ map (λ (x : Entry). is_head x.word) (cond (is_vote at e) (e ∷ []) [])
votes_push at trail e =
    ap (map (λ (x : Entry). is_head x.word)) (filter-append (is_vote at) trail (e ∷ []))
    ∙ map-append (λ (x : Entry). is_head x.word) (filter (is_vote at) trail)
    (cond (is_vote at e) (e ∷ []) [])

votes_vote : (at : ℕ) (trail : List Entry) (e : Entry) → is_vote at e ≡ true
    → votes at (trail ++ e ∷ []) ≡ votes at trail ++ is_head e.word ∷ []
votes_vote at trail e r =
    votes_push at trail e
    ∙ ap (λ z. votes at trail ++ map (λ (x : Entry). is_head x.word) (cond z (e ∷ []) [])) r

votes_load : (at : ℕ) (trail : List Entry) (e : Entry) → is_vote at e ≡ false
    → votes at (trail ++ e ∷ []) ≡ votes at trail
votes_load at trail e r =
    votes_push at trail e
    ∙ ap (λ z. votes at trail ++ map (λ (x : Entry). is_head x.word) (cond z (e ∷ []) [])) r
    ∙ append-nil (votes at trail)

-- ---- rounds

off : (a : Bool) → (a && false) ≡ false
off true = refl
off false = refl

and_left : (a b : Bool) → (a && b) ≡ true → a ≡ true
and_left true b e = refl
and_left false b e = absurd cc

both : (a b : Bool) → a ≡ true → b ≡ true → (a && b) ≡ true
both a b e f = ap (λ z. z && b) e ∙ f

same_number : (k : ℕ) → (k == k) ≡ true
same_number k = elim (eqb_tells k k) [ inl h ↦ h.0 | inr h ↦ absurd (h.1 refl) ]

-- the last steps are those at the end
last_own : (xs ys : List Entry) (k : ℕ) → k ≡ length ys → last_steps k (xs ++ ys) ≡ ys
last_own xs ys k e =
    let place : length (xs ++ ys) - k ≡ length xs = omega (arith, length-append xs ys) in
    ap (λ z. drop z (xs ++ ys)) place ∙ drop-append-le (length xs) xs ys (omega arith)
    ∙ ap (λ z. z ++ ys) (drop_all (length xs) xs (omega arith))

-- an addition is no load, and a load no addition
adds_or_loads : (o : Op) (at number : ℕ) → is_addition at number o ≡ true → is_load at o ≡ false
adds_or_loads (Load r) at number e = absurd cc
adds_or_loads (Store r x) at number e = refl
adds_or_loads (Add r x) at number e = refl
adds_or_loads (Cas r x y) at number e = refl

loads_or_adds : (o : Op) (at number : ℕ) → is_load at o ≡ true → is_addition at number o ≡ false
loads_or_adds (Load r) at number e = refl
loads_or_adds (Store r x) at number e = refl
loads_or_adds (Add r x) at number e = absurd cc
loads_or_adds (Cas r x y) at number e = refl

-- no round ends with a step that does not load the counter
no_load_last : (at : ℕ) (xs : List Entry) (last : Entry) → is_load at last.op ≡ false
    → is_one_load at (xs ++ last ∷ []) ≡ false
no_load_last at [] last other = other
no_load_last at (x ∷ []) last other = refl
no_load_last at (x ∷ y ∷ xs) last other = refl

no_round_at : (at : ℕ) (xs : List Entry) (last : Entry) → is_load at last.op ≡ false
    → are_round at (xs ++ last ∷ []) ≡ false
no_round_at at [] last other = off (is_vote at last)
no_round_at at (x ∷ xs) last other =
    ap (λ z. is_vote at x && z) (no_load_last at xs last other) ∙ off (is_vote at x)

no_round : (at : ℕ) (before : List Entry) (last : Entry) → is_load at last.op ≡ false
    → is_round at (before ++ last ∷ []) ≡ false
no_round at before last other =
    let m : ℕ = length (before ++ last ∷ []) - 2 in
    let within : m ≤ length before = omega (arith, length-append before (last ∷ [])) in
    ap (are_round at) (drop-append-le m before (last ∷ []) within)
    ∙ no_round_at at (drop m before) last other

-- the last two steps
round_steps : (at : ℕ) (before : List Entry) (vote load : Entry)
    → is_round at (before ++ vote ∷ load ∷ []) ≡ (is_vote at vote && is_load at load.op)
round_steps at before vote load = ap (are_round at) (last_own before (vote ∷ load ∷ []) 2 refl)

seen_step : (before : List Entry) (load : Entry)
    → total_seen (before ++ load ∷ []) ≡ total_of (tally_of load.got ∷ [])
seen_step before load =
    ap (λ z. total_of (map (λ e. tally_of e.got) z)) (last_own before (load ∷ []) 1 refl)

-- ---- where a process stands that took these steps

-- its last step was a vote
record HasVoted (at : ℕ) (trail : List Entry) : Type 0 where
  before : List Entry
  vote : Entry
  is : trail ≡ before ++ vote ∷ []
  votes : is_vote at vote ≡ true

abbrev StandsAt : ℕ → ℕ → List Entry → Phase → Type 0
StandsAt n at trail Vote =
    ((is_first trail || is_round at trail) ≡ true) × (coin_answer n at trail ≡ None)
StandsAt n at trail ReadVotes = HasVoted at trail
StandsAt n at trail (Answered answer) = coin_answer n at trail ≡ Some answer

record Stands (n at : ℕ) (trail : List Entry) (s : CoinState) : Type 0 where
  n_is : s.n ≡ n
  at_is : s.at ≡ at
  own : s.own ≡ tally_of_votes (votes at trail)
  phase : StandsAt n at trail s.phase

starts_stand : (n at : ℕ) → Stands n at [] (coin_started n at)
starts_stand n at = record { n_is = refl; at_is = refl; own = refl; phase = (refl, refl) }

or_true : (b : Bool) → (b || true) ≡ true
or_true true = refl
or_true false = refl

settled_stands : (n at : ℕ) (trail : List Entry) (o : Option Bool) → is_round at trail ≡ true
    → coin_answer n at trail ≡ o → StandsAt n at trail (after_settled o)
settled_stands n at trail None r e = (ap (λ z. is_first trail || z) r ∙ or_true (is_first trail), e)
settled_stands n at trail (Some answer) r e = e

-- after a vote, and then a load
load_stands : (n at : ℕ) (trail : List Entry) (e : Entry) → HasVoted at trail
    → is_load at e.op ≡ true
    → StandsAt n at (trail ++ e ∷ []) (after_load n (length (votes at trail)) e.got)
load_stands n at trail e h loads =
    let same : trail ++ e ∷ [] ≡ h.before ++ h.vote ∷ e ∷ [] =
    ap (λ z. z ++ e ∷ []) h.is ∙ append_assoc h.before (h.vote ∷ []) (e ∷ []) in
    let round : is_round at (trail ++ e ∷ []) ≡ true =
    ap (is_round at) same ∙ round_steps at h.before h.vote e ∙ both _ _ h.votes loads in
    let many : length (votes at (trail ++ e ∷ [])) ≡ length (votes at trail) =
    ap length (votes_load at trail e (loads_or_adds e.op at _ loads)) in
    settled_stands n at (trail ++ e ∷ [])
    (settled_bit n (length (votes at trail)) (total_of (tally_of e.got ∷ []))) round
    (ap (λ z. cond z
    (settled_bit n (length (votes at (trail ++ e ∷ []))) (total_seen (trail ++ e ∷ []))) None) round
    ∙ ap (λ z. settled_bit n z (total_seen (trail ++ e ∷ []))) many
    ∙ ap (settled_bit n (length (votes at trail))) (seen_step trail e))

step_stands : (ph : Phase) (n at : ℕ) (trail : List Entry) (s : CoinState) (e : Entry) → s.n ≡ n
    → s.at ≡ at → s.own ≡ tally_of_votes (votes at trail) → StandsAt n at trail ph
    → op_at ph s e.word ≡ Some e.op → Stands n at (trail ++ e ∷ []) (fed_at ph s e.got e.word)
step_stands Vote n at trail s e n_is at_is own h next =
    let vote : is_vote at e ≡ true =
    ap (is_addition at (add_word_of (is_head e.word))) (sym (same_Some _ _ next))
    ∙ both _ _ (ap (λ z. z == at) at_is ∙ same_number at)
    (same_number (add_word_of (is_head e.word))) in
    record {
      n_is = n_is;
      at_is = at_is;
      own =
          ap (λ z. tally_with z (is_head e.word)) own
          ∙ sym (counted_push (votes at trail) (is_head e.word))
          ∙ ap tally_of_votes (sym (votes_vote at trail e vote));
      phase = record { before = trail; vote = e; is = refl; votes = vote };
    }
step_stands ReadVotes n at trail s e n_is at_is own h next =
    let loads : is_load at e.op ≡ true =
    ap (is_load at) (sym (same_Some _ _ next)) ∙ ap (λ z. z == at) at_is ∙ same_number at in
    let many : length (votes at trail) ≡ votes_of s.own =
    sym (ap votes_of own ∙ votes_of-counted (votes at trail)) in
    record {
      n_is = n_is;
      at_is = at_is;
      own = own ∙ ap tally_of_votes (sym (votes_load at trail e (loads_or_adds e.op at _ loads)));
      phase = subst (λ z. StandsAt n at (trail ++ e ∷ []) (after_load z (votes_of s.own) e.got))
          (sym n_is)
          (subst (λ z. StandsAt n at (trail ++ e ∷ []) (after_load n z e.got)) many
          (load_stands n at trail e h loads));
    }
step_stands (Answered answer) n at trail s e n_is at_is own h next = absurd cc

took_stands : (n at : ℕ) (rest trail : List Entry) (s t : CoinState) → Stands n at trail s
    → Took coin_op coin_fed s rest t → Stands n at (trail ++ rest) t
took_stands n at [] trail s t h took =
    subst (λ z. Stands n at z t) (sym (append-nil trail)) (subst (Stands n at trail) took h)
took_stands n at (e ∷ rest) trail s t h took =
    subst (λ z. Stands n at z t) (append_assoc trail (e ∷ []) rest)
    (took_stands n at rest (trail ++ e ∷ []) (coin_fed s e.got e.word) t
    (step_stands s.phase n at trail s e h.n_is h.at_is h.own h.phase took.0) took.1)

-- ---- what that says of the answer

not_first : (before : List Entry) (vote : Entry) → is_first (before ++ vote ∷ []) ≡ false
not_first [] vote = refl
not_first (x ∷ before) vote = refl

unread : (at : ℕ) (trail : List Entry) → HasVoted at trail → is_round at trail ≡ false
unread at trail h =
    ap (is_round at) h.is ∙ no_round at h.before h.vote (adds_or_loads h.vote.op at _ h.votes)

answer_stands : (ph : Phase) (n at : ℕ) (trail : List Entry) → StandsAt n at trail ph
    → (answer_at ph ≡ coin_answer n at trail) × (wants_at ph ≡ coin_votes n at trail)
answer_stands Vote n at trail h = (
  sym h.1,
  sym (ap (λ z. z && is_none (coin_answer n at trail)) h.0 ∙ ap is_none h.1),
)
answer_stands ReadVotes n at trail h =
    let none = unread at trail h in
    let later : is_first trail ≡ false = ap is_first h.is ∙ not_first h.before h.vote in (
      sym (ap (λ z. cond z (settled_bit n (length (votes at trail)) (total_seen trail)) None) none),
      sym (ap (λ z. (z || is_round at trail) && is_none (coin_answer n at trail)) later
          ∙ ap (λ z. z && is_none (coin_answer n at trail)) none),
    )
answer_stands (Answered answer) n at trail h = (
  sym h,
  sym (ap (λ z. (is_first trail || is_round at trail) && is_none z) h
      ∙ off (is_first trail || is_round at trail)),
)

-- a process goes on exactly as long as there is no answer
goes_at : (ph : Phase) (n at : ℕ) (trail : List Entry) (s : CoinState) (word : ℕ)
    → StandsAt n at trail ph → IsSome (op_at ph s word) ↔ (coin_answer n at trail ≡ None)
goes_at Vote n at trail s word h = ((λ next. h.1), (λ none. refl))
goes_at ReadVotes n at trail s word h = (
  (λ next. sym (answer_stands ReadVotes n at trail h).0),
  (λ none. refl),
)
goes_at (Answered answer) n at trail s word h = (
  (λ next. absurd cc),
  (λ none. absurd (let e = sym h ∙ none in cc e)),
)

pub coin_answers : (n at : ℕ) (trail : List Entry) (s : CoinState)
    → Took coin_op coin_fed (coin_started n at) trail s → CoinAnswer n at trail s
coin_answers n at trail s took =
    let h = took_stands n at trail [] (coin_started n at) s (starts_stand n at) took in
    let a = answer_stands s.phase n at trail h.phase in
    record { votes = h.own; answer = a.0; wants = a.1 }

pub coin_goes_on : (n at word : ℕ) (trail : List Entry) (s : CoinState)
    → Took coin_op coin_fed (coin_started n at) trail s
    → IsSome (coin_op s word) ↔ (coin_answer n at trail ≡ None)
coin_goes_on n at word trail s took = goes_at s.phase n at trail s word
    (took_stands n at trail [] (coin_started n at) s (starts_stand n at) took).phase

-- the next step is the one that is due
due_at : (ph : Phase) (n at : ℕ) (trail : List Entry) (s : CoinState) (word : ℕ) (o : Op)
    → s.at ≡ at → wants_at ph ≡ coin_votes n at trail → op_at ph s word ≡ Some o
    → o ≡ step_due n at trail word
due_at Vote n at trail s word o at_is wants e =
    sym (same_Some _ _ e) ∙ ap (λ z. Add record { 0 = z } (add_word_of (is_head word))) at_is
    ∙ ap (λ z. cond z (Add record { 0 = at } (add_word_of (is_head word))) (Load record { 0 = at }))
    wants
due_at ReadVotes n at trail s word o at_is wants e =
    sym (same_Some _ _ e) ∙ ap (λ z. Load record { 0 = z }) at_is
    ∙ ap (λ z. cond z (Add record { 0 = at } (add_word_of (is_head word))) (Load record { 0 = at }))
    wants
due_at (Answered answer) n at trail s word o at_is wants e = absurd cc

named_at : (ph : Phase) (n at : ℕ) (trail : List Entry) (k : Kind)
    → wants_at ph ≡ coin_votes n at trail → kind_at ph ≡ Some k → k ≡ kind_due n at trail
named_at Vote n at trail k wants e =
    sym (same_Some _ _ e) ∙ ap (λ z. cond z kind.Vote kind.ReadVotes) wants
named_at ReadVotes n at trail k wants e =
    sym (same_Some _ _ e) ∙ ap (λ z. cond z kind.Vote kind.ReadVotes) wants
named_at (Answered answer) n at trail k wants e = absurd cc

pub coin_step_is_due : (n at word : ℕ) (trail : List Entry) (s : CoinState) (o : Op)
    → Took coin_op coin_fed (coin_started n at) trail s → coin_op s word ≡ Some o
    → o ≡ step_due n at trail word
coin_step_is_due n at word trail s o took e =
    let h = took_stands n at trail [] (coin_started n at) s (starts_stand n at) took in
    due_at s.phase n at trail s word o h.at_is (answer_stands s.phase n at trail h.phase).1 e

pub coin_kind_is_due : (n at : ℕ) (trail : List Entry) (s : CoinState) (k : Kind)
    → Took coin_op coin_fed (coin_started n at) trail s → coin_kind s ≡ Some k
    → k ≡ kind_due n at trail
coin_kind_is_due n at trail s k took e =
    let h = took_stands n at trail [] (coin_started n at) s (starts_stand n at) took in
    named_at s.phase n at trail k (answer_stands s.phase n at trail h.phase).1 e

-- ---- answers that the rule does not allow

-- where there is an answer, a round is done, and the rule gives it
answered : (b : Bool) (o : Option Bool) (answer : Bool) → cond b o None ≡ Some answer
    → (b ≡ true) × (o ≡ Some answer)
answered true o answer e = (refl, e)
answered false o answer e = absurd cc

-- a round has a vote in it
round_votes : (at : ℕ) (steps : List Entry) → are_round at steps ≡ true → votes at steps ≡ [] → ⊥
round_votes at [] r e = absurd cc
round_votes at (x ∷ loads) r e =
    let vote : is_vote at x ≡ true = and_left _ _ r in
    let some : votes at (x ∷ loads) ≡ is_head x.word ∷ votes at loads = ap
    (λ z. map (λ (x : Entry). is_head x.word)
    (cond z (x ∷ filter (is_vote at) loads) (filter (is_vote at) loads))) vote in
    let f = sym some ∙ e in
    absurd cc

no_votes_tail : (at : ℕ) (x : Entry) (trail : List Entry) → votes at (x ∷ trail) ≡ []
    → votes at trail ≡ []
no_votes_tail at x trail e =
    let by : (b : Bool)
    → map (λ (x : Entry). is_head x.word)
    (cond b (x ∷ filter (is_vote at) trail) (filter (is_vote at) trail)) ≡ []
    → votes at trail ≡ [] =
    λ b.
    elim b as (λ z.
    map (λ (x : Entry). is_head x.word)
    (cond z (x ∷ filter (is_vote at) trail) (filter (is_vote at) trail)) ≡ []
    → votes at trail ≡ []) [ true ↦ λ f. absurd cc | false ↦ λ f. f ] in
    by (is_vote at x) e

-- the last steps have no votes where there are none
no_votes_drop : (at k : ℕ) (trail : List Entry) → votes at trail ≡ [] → votes at (drop k trail) ≡ []
no_votes_drop at zero trail e = e
no_votes_drop at (suc k) [] e = refl
no_votes_drop at (suc k) (x ∷ trail) e = no_votes_drop at k trail (no_votes_tail at x trail e)

-- the rule answers only past the barrier, or once the votes are used up
settled_past : (a b c : Bool) (x : Bool) (answer : Bool)
    → cond a (Some true) (cond b (Some false) (cond c (Some x) None)) ≡ Some answer → a ≡ false
    → b ≡ false → c ≡ true
settled_past true b c x answer e f g = absurd cc
settled_past false true c x answer e f g = absurd cc
settled_past false false true x answer e f g = refl
settled_past false false false x answer e f g = absurd cc

pub refuses_early_answers : RefusesEarlyAnswers
refuses_early_answers = record {
  without_a_vote = λ n at trail answer none e.
      let a = answered (is_round at trail) _ answer e in
      round_votes at (last_steps 2 trail) a.0 (no_votes_drop at (length trail - 2) trail none);
  without_a_load = λ n at before last answer other e.
      let a = answered (is_round at (before ++ last ∷ [])) _ answer e in
      let f = sym a.0 ∙ no_round at before last other in
      absurd cc;
  on_a_second_look = λ n at before look last answer other e.
      let a = answered (is_round at (before ++ look ∷ last ∷ [])) _ answer e in
      let f = sym other ∙ and_left _ _ (sym (round_steps at before look last) ∙ a.0) in
      absurd cc;
  below_the_barrier = λ n at trail answer fewer low high e.
      let a = answered (is_round at trail) _ answer e in
      let full : (length (votes at trail) == 64) ≡ true =
      settled_past _ _ _ _ answer a.1 low high in
      elim (eqb_tells (length (votes at trail)) 64) [
        | inl h ↦ (let x = h.1 in omega arith)
        | inr h ↦ absurd (let x = sym h.0 ∙ full in cc)
      ];
}

-- ---- steps that are not due

-- right after a vote no vote is due
not_after_vote : (n at : ℕ) (before : List Entry) (vote : Entry) → is_vote at vote ≡ true
    → coin_votes n at (before ++ vote ∷ []) ≡ false
not_after_vote n at before vote v =
    let h : HasVoted at (before ++ vote ∷ []) =
    record { before = before; vote = vote; is = refl; votes = v } in
    sym (answer_stands ReadVotes n at (before ++ vote ∷ []) h).1

-- and after a look without an answer one is
after_look : (n at : ℕ) (before : List Entry) (vote load : Entry) → is_vote at vote ≡ true
    → is_load at load.op ≡ true → coin_answer n at (before ++ vote ∷ load ∷ []) ≡ None
    → coin_votes n at (before ++ vote ∷ load ∷ []) ≡ true
after_look n at before vote load v l none =
    let trail = before ++ vote ∷ load ∷ [] in
    let round : is_round at trail ≡ true = round_steps at before vote load ∙ both _ _ v l in
    both _ _ (ap (λ z. is_first trail || z) round ∙ or_true (is_first trail)) (ap is_none none)

-- what is due is one of these two
due_is : (b : Bool) (at word : ℕ) (o : Op)
    → cond b (Add record { 0 = at } (add_word_of (is_head word))) (Load record { 0 = at }) ≡ o
    → ((b ≡ true) × (Add record { 0 = at } (add_word_of (is_head word)) ≡ o))
    ⊎ ((b ≡ false) × (Load record { 0 = at } ≡ o))
due_is true at word o e = inl (refl, e)
due_is false at word o e = inr (refl, e)

abbrev place_of : Op → ℕ
place_of (Load r) = r.0
place_of (Store r x) = r.0
place_of (Add r x) = r.0
place_of (Cas r x y) = r.0

turned : (b : Bool) → add_word_of b ≡ add_word_of (not b) → ⊥
turned true e = cc
turned false e = cc

pub refuses_steps : RefusesSteps
refuses_steps = record {
  looks_first = λ n at word e. absurd cc;
  votes_twice = λ n at word x before vote v e.
      elim (due_is (coin_votes n at (before ++ vote ∷ [])) at word _ e) [
        | inl h ↦ absurd (let f = sym h.0 ∙ not_after_vote n at before vote v in cc)
        | inr h ↦ absurd (let f = h.1 in cc)
      ];
  looks_twice = λ n at word before vote load v l none e.
      elim (due_is (coin_votes n at (before ++ vote ∷ load ∷ [])) at word _ e) [
        | inl h ↦ absurd (let f = h.1 in cc)
        | inr h ↦ absurd (let f = sym h.0 ∙ after_look n at before vote load v l none in cc)
      ];
  turns_the_vote = λ n at word e. turned (is_head word) (let f = e in cc);
  stores = λ n at word x r trail e. elim (due_is (coin_votes n at trail) at word _ e) [
    | inl h ↦ absurd (let f = h.1 in cc)
    | inr h ↦ absurd (let f = h.1 in cc)
  ];
  exchanges = λ n at word x y r trail e. elim (due_is (coin_votes n at trail) at word _ e) [
    | inl h ↦ absurd (let f = h.1 in cc)
    | inr h ↦ absurd (let f = h.1 in cc)
  ];
  looks_elsewhere =
      λ n at word other trail differs e. elim (due_is (coin_votes n at trail) at word _ e) [
        | inl h ↦ absurd (let f = h.1 in cc)
        | inr h ↦ differs (sym (ap place_of h.1))
      ];
  misnames_the_first = λ n at e. absurd cc;
  misnames_a_look = λ n at before vote v e.
      let f =
      sym e ∙ ap (λ z. cond z kind.Vote kind.ReadVotes) (not_after_vote n at before vote v) in
      absurd cc;
}
