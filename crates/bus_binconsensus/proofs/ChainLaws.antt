-- A chain keeps the law of a binary decision.
use Rattle.std.proofs.Common.{◌≡◌, ℕ, Bool, Option, Some, None, IsSome, arith, refl, sym, ◌∙◌, ap}
use Rattle.bus_register.specs.declared.registers.Op.{Op}
use Rattle.bus_register.specs.Protocol.{Laws}
use Rattle.bus_adoptcommit.specs.declared.verdicts.Verdict.{Verdict}
use Rattle.bus_adoptcommit.specs.declared.verdicts.Verdict.TheVariants.{Adopt}
use Rattle.bus_binconsensus.specs.Deciding.{Decides}
use Rattle.bus_binconsensus.specs.Chain.{Objects, link_handed, value_told, chain_op, chain_fed}
use Rattle.bus_binconsensus.specs.Chain.{chain_protocol}
use Rattle.bus_binconsensus.proofs.ChainSteps.{HandsOn, span_own, span_within, begun_in}
use Rattle.bus_binconsensus.proofs.ChainSteps.{chain_starts, chain_goes}
use Rattle.bus_binconsensus.proofs.ChainMoves.{chain_moves, chain_enters}
use Rattle.bus_binconsensus.proofs.ChainOutcome.{chain_decides}

told_some : (x : Option Verdict) → IsSome x → IsSome (value_told x)
told_some None s = absurd cc
told_some (Some d) s = refl

module _ {X : Type 0} (op : X → ℕ → Option Op) (fed : X → ℕ → ℕ → X) (objects : Objects X)
    (laws : (k : ℕ) → Laws op fed (objects k) HandsOn)
    (last : (n me at : ℕ) (x : X) (v : Bool) → (objects 0).Belongs n me at x
    → (objects 0).output x ≡ Some (Adopt v) → ⊥) (top : ℕ) where
  pub chain_laws : Laws (chain_op op) (chain_fed objects fed) (chain_protocol objects top) Decides
  chain_laws = record {
    starts = λ n me at v below few. chain_starts op fed objects laws top n me at v below few;
    goes = λ n me at d got word o b q. chain_goes op fed objects laws top n me at d got word o b q;
    ends = λ d word e.
        let a = (laws d.after).ends d.object word e in
        (told_some _ a.0, begun_in op fed objects laws top d a.1);
    unended = λ d word o q. ap value_told ((laws d.after).unended d.object word o q);
    unmoved = λ d got word word' e.
        let a = (laws d.after).unmoved d.object got word word' e in
        (a.0, ap (λ z. link_handed objects (record d { object = z })) a.1);
    blind = λ d got got' word o q s. ap (λ z. link_handed objects (record d { object = z }))
        ((laws d.after).blind d.object got got' word o q s);
    fresh = λ n at words agree. record {
      visits = λ k p. None;
      kept = λ k r h e. (laws k).fresh n r words (λ q a b.
          let w = span_within objects n k top h in
          let o = span_own objects n k in agree q (omega arith) (omega arith));
      walks = λ p d e. absurd cc;
      rests = λ p d e. absurd cc;
      absent = λ p k e. refl;
    };
    enters = λ n at words old new p v k below few none goes beside.
        chain_enters op fed objects laws top n at words old new p v k below few none goes beside;
    moves = λ n at words words' old new p d word o k here next goes beside step.
        chain_moves op fed objects laws top n at words words' old new p d word o k here next goes
        beside step;
    fits = λ n at words locals p d word o k here q.
        let w = k.walks p d here in
        (laws d.after).fits n d.at words (k.visits d.after) p d.object word o
        (k.kept d.after d.at w.belongs.within w.belongs.place) w.here q;
    frame = λ n at words words' old new k agree same. record {
      visits = k.visits;
      kept = λ i r h e. (laws i).frame n r words words' (k.visits i) (k.visits i) (k.kept i r h e)
          (λ q a b.
          let w = span_within objects n i top h in
          let o = span_own objects n i in agree q (omega arith) (omega arith)) (λ q. refl);
      walks = λ p d e. k.walks p d (sym (same p) ∙ e);
      rests = λ p d e. k.rests p d (sym (same p) ∙ e);
      absent = λ p i e. k.absent p i (sym (same p) ∙ e);
    };
    known = λ n at words locals p d k e. let b = (k.walks p d e).belongs in (b.below, b);
    outcome = λ n at words locals k. chain_decides op fed objects laws last top n at words locals k;
  }
