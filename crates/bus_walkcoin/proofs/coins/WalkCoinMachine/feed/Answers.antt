use Rattle.std.proofs.Common.{◌≡◌, arith, [], ◌∷◌, sym, ◌∙◌, ap, subst}
use Rattle.std.proofs.lemmas.Int.{ints}
use Rattle.bus_walkcoin.specs.Tally.{tally_of, votes_of, total_of}
use Rattle.bus_walkcoin.specs.declared.coins.Phase.{Phase}
use Rattle.bus_walkcoin.specs.Coin.{CoinState, PhaseFits, after_settled, after_load, coin_fed}
use Rattle.bus_walkcoin.specs.Coin.{fed_at}
use Rattle.bus_walkcoin.specs.CoinRule.{settled_bit}
use Rattle.bus_walkcoin.specs.Private.CoinLaws.{load_fits}
use Rattle.bus_walkcoin.proofs.coins.WalkCoinMachine.feed.Goals as goal

-- the new phase, by the number that was found
goes_on : (c : goal.After-self-in-ReadVotes-1)
    → c.go_on-self-inside.result
    ≡ after_load c.self.inside.n (votes_of c.self.inside.own) c.args.got
goes_on c =
    let t : c.total-lead.result ≡ total_of (tally_of c.args.got ∷ []) =
    c.total-lead.ensures ∙ ap (λ t. total_of (t ∷ [])) c.of_word.ensures.counts in
    c.go_on-self-inside.ensures
    ∙ ap (λ z. after_settled (settled_bit c.self.inside.n (votes_of c.self.inside.own) z))
    (omega (arith, ints))

pub invariant_of-self-in-ReadVotes : goal.invariant_of-self-in-ReadVotes
invariant_of-self-in-ReadVotes c =
    let b =
    subst (PhaseFits (votes_of c.self.inside.own)) c.in-ReadVotes.is c.self.invariant.fits in
    record {
      few = c.self.invariant.few;
      votes = c.self.invariant.votes;
      fits = subst (PhaseFits (votes_of c.self.inside.own)) (sym (goes_on c))
          (load_fits c.self.inside.n (votes_of c.self.inside.own) c.args.got b
          c.self.invariant.votes);
    }

pub returns-in-ReadVotes : goal.returns-in-ReadVotes
returns-in-ReadVotes c =
    let held : Phase → CoinState = λ ph. record {
      n = c.self.inside.n;
      at = c.self.inside.at.0;
      own = c.self.inside.own;
      phase = ph;
    } in
    ap held (goes_on c)
    ∙ sym (ap (λ ph. fed_at ph (held ph) c.args.got c.args.word) c.in-ReadVotes.is)
    ∙ ap (λ s. coin_fed s c.args.got c.args.word) c.self.view_is
