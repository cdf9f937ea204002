-- On which words a step of an election lies.
use Rattle.std.proofs.Common.{◌≡◌, ℕ, ◌+◌, ◌<◌, ◌≤◌, Bool, false, Option, Some, None, IfSome, sym}
use Rattle.std.proofs.Common.{subst}
use Rattle.bus_register.specs.Words.{register}
use Rattle.bus_register.specs.declared.registers.Op.{Op}
use Rattle.bus_register.specs.Protocol.{Protocol, Laws}
use Rattle.bus_adoptcommit.specs.Agreement.{Legal}
use Rattle.bus_adoptcommit.specs.declared.verdicts.Verdict.{Verdict}
use Rattle.bus_binconsensus.specs.Objects.{decide_op}
use Rattle.bus_coinconc.specs.Conciliator.{conciliator_op}
use Rattle.bus_ownerbits.specs.Election.{election_op}
use Rattle.bus_tenure.specs.declared.phases.Phase.TheVariants.{Electing}
use Rattle.bus_tenure.specs.Core.{Core, row_at}
use Rattle.bus_tenure.specs.Elections.{Elector, ElectorKeeps, elections}
use Rattle.bus_tenure.specs.Keeping.{SenderInvariant, PhaseKeeps, IsElecting}
use Rattle.bus_tenure.proofs.Lawful.{elections_law}

-- of a step that there may be
for_some : (x y : Option Op) (Q : Op → Type 0) → x ≡ y → ((o : Op) → y ≡ Some o → Q o) → IfSome x Q
for_some None y Q e f = tt
for_some (Some o) y Q e f = f o (sym e)

module _ {S : Type 0} (op : S → ℕ → Option Op) (fed : S → ℕ → ℕ → S) (P : Protocol S Bool Verdict)
    (laws : Laws op fed P Legal) (wordless : (s : S) → P.wants_word s ≡ false) where
  -- its words are words of the row of its tenure
  pub place_lies : (rounds n me : ℕ) (c s : Core (Elector S)) → c ≡ s
      → SenderInvariant ((elections P rounds).width n) (ElectorKeeps P rounds n me) c
      → (t u : ℕ) (e : Elector S) → t ≡ u → c.phase ≡ Electing t e
      → (word : ℕ) (x : Option Op) → x ≡ election_op (decide_op op conciliator_op) e word
      → IfSome x (λ o. row_at s.layout u ≤ register o)
      × IfSome x (λ o. register o < row_at s.layout u + s.layout.width)
  place_lies rounds n me c s same k t u e is at word x told =
      let h : IsElecting (ElectorKeeps P rounds n me) c t e =
      subst (PhaseKeeps (ElectorKeeps P rounds n me) c) at k.phase in
      subst (λ z.
      IfSome x (λ o. row_at z.layout u ≤ register o)
      × IfSome x (λ o. register o < row_at z.layout u + z.layout.width)) same
      (subst (λ z.
      IfSome x (λ o. row_at c.layout z ≤ register o)
      × IfSome x (λ o. register o < row_at c.layout z + c.layout.width)) is (
        for_some x _ (λ o. row_at c.layout t ≤ register o) told
            (λ o q.
            ((elections_law op fed P laws wordless rounds).goes n me (row_at c.layout t) e 0 word o
            h.belongs.belongs q).above),
        for_some x _ (λ o. register o < row_at c.layout t + c.layout.width) told
            (λ o q. subst (λ w. register o < row_at c.layout t + w) (sym k.sizes.width_is)
            ((elections_law op fed P laws wordless rounds).goes n me (row_at c.layout t) e 0 word o
            h.belongs.belongs q).below),
      ))
