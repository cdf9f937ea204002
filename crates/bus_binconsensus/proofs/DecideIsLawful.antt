-- A binary decision keeps its law, over any ratifier and any conciliator.
use Rattle.std.proofs.Common.{◌≡◌, ℕ, ◌+◌, ◌*◌, ◌-◌, ◌<◌, ◌≤◌, Bool, false, cond, Option, Some}
use Rattle.std.proofs.Common.{None, inl, inr, arith, refl, sym, ◌∙◌, ap, subst}
use Rattle.std.proofs.lemmas.Bool.Decides.{eqb_tells}
use Rattle.bus_register.specs.declared.registers.Op.{Op}
use Rattle.bus_register.specs.Protocol.{Protocol, Laws}
use Rattle.bus_adoptcommit.specs.declared.verdicts.Verdict.{Verdict}
use Rattle.bus_adoptcommit.specs.declared.verdicts.Verdict.TheVariants.{Commit, Adopt}
use Rattle.bus_adoptcommit.specs.Agreement.{Legal}
use Rattle.bus_binconsensus.specs.declared.objects.Object.{Object}
use Rattle.bus_binconsensus.specs.declared.objects.Object.TheVariants.{Ratify, Concile, Fall}
use Rattle.bus_binconsensus.specs.Chain.{link_entered, handed_by}
use Rattle.bus_binconsensus.specs.Deciding.{IsChosen}
use Rattle.bus_binconsensus.specs.DecideLaw.{Onward, DecideLaw}
use Rattle.bus_binconsensus.proofs.ObjectLaws.{objects_law, decide_laws}
use Rattle.bus_binconsensus.proofs.ObjectPlaces.{in_its_part, falls_last}
use Rattle.bus_binconsensus.specs.Objects.{objects_of, object_fed, object_output, object_wants}
use Rattle.bus_binconsensus.specs.Objects.{object_calls, Decider}
use Rattle.bus_binconsensus.proofs.RoundLaws.{the_rounds, steps_of_rounds}

module _ {S T : Type 0} (op : S → ℕ → Option Op) (fed : S → ℕ → ℕ → S) (P : Protocol S Bool Verdict)
    (laws : Laws op fed P Legal) (wordless : (s : S) → P.wants_word s ≡ false)
    (opC : T → ℕ → Option Op) (fedC : T → ℕ → ℕ → T) (C : Protocol T Bool Bool)
    (OutC : (ℕ → Option Bool) → (ℕ → Option Bool) → Type 0) (lawsC : Laws opC fedC C OutC)
    (chosen : (ins outs : ℕ → Option Bool) → OutC ins outs → IsChosen ins outs)
    (quickC : (n : ℕ) → C.steps n ≡ 2 + 64 * 2) where
  asks_by : (x : Object S T) → object_wants P C x ≡ object_calls C x
  asks_by (Ratify q) = wordless q
  asks_by (Concile c) = refl
  asks_by (Fall f) = refl

  -- a process whose object now holds x, with this output
  module _ (d : Decider S T) (x : Object S T) (below : d.me < d.n) (few : d.n ≤ 64) where
    abbrev stepped : Decider S T
    stepped = record d { object = x }

    onward_by : (y : Option Verdict) → object_output P C x ≡ y
        → Onward P C x d (handed_by (objects_of P C) y stepped)
    onward_by None e = inl record {
      same = refl;
      object = refl;
      unadopted = λ v more f. let g = sym e ∙ f in absurd cc;
    }
    onward_by (Some (Commit u)) e = inl record {
      same = refl;
      object = refl;
      unadopted = λ v more f. let g = sym e ∙ f in absurd cc;
    }
    onward_by (Some (Adopt u)) e = elim (eqb_tells d.after 0) [
      | inl h ↦ subst
          (λ z. Onward P C x d (cond z stepped (link_entered (objects_of P C) stepped u))) (sym h.0)
          (inl record { same = refl; object = refl; unadopted = λ v more f. more h.1 })
      | inr h ↦ subst
          (λ z. Onward P C x d (cond z stepped (link_entered (objects_of P C) stepped u))) (sym h.0)
          (inr record {
            next = let more = h.1 in omega arith;
            value = u;
            adopted = e;
            given =
                ((objects_law op fed P laws opC fedC C OutC lawsC chosen (d.after - 1)).starts d.n
                d.me (d.at + (objects_of P C d.after).width d.n) u below few).input;
          })
    ]

  pub decide_law : DecideLaw op fed P opC fedC C
  decide_law = record {
    laws = decide_laws op fed P laws opC fedC C OutC lawsC chosen;
    rounds = the_rounds;
    in_turn = λ rounds n at words locals k. record {
      visits = k.visits;
      kept = k.kept;
      walks = k.walks;
      absent = k.absent;
    };
    begins = λ rounds n me at v. refl;
    onward = λ rounds n me at d got word o b q.
        let x : Object S T = object_fed fed fedC d.object got word in
        let n' = b.n_is in
        let me' = b.me_is in
        onward_by d x (let a = b.below in omega arith) (let a = b.few in omega arith)
        (object_output P C x) refl;
    in_its_part = in_its_part P C;
    falls_last = falls_last P C;
    steps = λ rounds n.
        steps_of_rounds P C n rounds
        ∙ ap (λ z. rounds * P.steps n + (rounds - 1) * z + 1) (quickC n);
    asks = λ rounds d. asks_by d.object;
  }
