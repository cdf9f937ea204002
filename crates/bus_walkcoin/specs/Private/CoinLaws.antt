-- What follows of single steps of a coin.
use Rattle.std.proofs.Common.{◌≡◌, ◌≢◌, ℕ, ◌<◌, ◌≤◌, Bool, true, false, cond, Option, Some, None}
use Rattle.std.proofs.Common.{is_some, [], ◌∷◌, ℤ, arith, refl}
use Rattle.bus_walkcoin.specs.declared.tallies.TheConstants.{MOST_VOTES}
use Rattle.std.proofs.lemmas.Bool.{eqb-false}
use Rattle.bus_walkcoin.specs.Tally.{tally_of, total_of}
use Rattle.bus_walkcoin.specs.declared.coins.Phase.{Phase}
use Rattle.bus_walkcoin.specs.declared.coins.Phase.TheVariants.{Vote, ReadVotes, Answered}
use Rattle.bus_walkcoin.specs.Coin.{CoinState, after_settled, after_load, kind_at, op_at}
use Rattle.bus_walkcoin.specs.Coin.{coin_kind, coin_op, PhaseFits}
use Rattle.bus_walkcoin.specs.CoinRule.{settled_bit}

names_at : (ph : Phase) (s : CoinState) (word : ℕ)
    → is_some (kind_at ph) ≡ is_some (op_at ph s word)
names_at Vote s word = refl
names_at ReadVotes s word = refl
names_at (Answered answer) s word = refl

pub coin_names_each_step : (s : CoinState) (word : ℕ)
    → is_some (coin_kind s) ≡ is_some (coin_op s word)
coin_names_each_step s word = names_at s.phase s word

open_if : (a b c d : Bool) → cond a (Some true) (cond b (Some false) (cond c (Some d) None)) ≡ None
    → c ≡ false
open_if true b c d e = absurd cc
open_if false true c d e = absurd cc
open_if false false true d e = absurd cc
open_if false false false d e = refl

-- without an answer, votes are left
pub settled_none : (n votes : ℕ) (total : ℤ) → settled_bit n votes total ≡ None → votes ≢ MOST_VOTES
settled_none n votes total e = eqb-false votes MOST_VOTES (open_if _ _ _ _ e)

settled_fits : (votes : ℕ) (o : Option Bool) → 0 < votes → votes ≤ MOST_VOTES
    → (o ≡ None → votes ≢ MOST_VOTES) → PhaseFits votes (after_settled o)
settled_fits votes None some most ne = let h = ne refl in omega arith
settled_fits votes (Some answer) some most ne = some

-- after a load the next step fits
pub load_fits : (n votes got : ℕ) → 0 < votes → votes ≤ MOST_VOTES
    → PhaseFits votes (after_load n votes got)
load_fits n votes got some most = settled_fits votes
    (settled_bit n votes (total_of (tally_of got ∷ []))) some most
    (settled_none n votes (total_of (tally_of got ∷ [])))
