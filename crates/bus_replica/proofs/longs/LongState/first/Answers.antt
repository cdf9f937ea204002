use Rattle.std.proofs.Common.{◌≡◌, [], ◌∷◌, ◌++◌, length, replicate, ap, ◌∙◌, arith}
use Rattle.std.proofs.lemmas.List.{length-replicate, replicate-append-replicate}
use Rattle.bus_register.specs.declared.limits.TheConstants.{MOST_SENDERS}
use Rattle.bus_long.specs.Pieces.{Begun, nothing}
use Rattle.bus_replica.proofs.longs.LongState.first.Goals as goal

pub loop-init : goal.loop-init
loop-init g c = c.in_ok-joiners.ensures.items

pub loop-preserved : goal.loop-preserved
loop-preserved g c =
    c.in_ok-push.ensures.items ∙ ap (λ z. z ++ c.new.result ∷ []) c.loop.invariant
    ∙ ap (λ (z : Begun). replicate c.loop.counter nothing ++ z ∷ []) c.new.ensures
    ∙ replicate-append-replicate c.loop.counter 1 nothing

pub invariant_of-result : goal.invariant_of-result
invariant_of-result g c =
    let end : c.loop.counter ≡ MOST_SENDERS = omega arith in
    ap length c.loop.invariant ∙ length-replicate c.loop.counter nothing ∙ end

pub returns : goal.returns
returns g c =
    let end : c.loop.counter ≡ MOST_SENDERS = omega arith in (
      c.in_ok-state.ensures,
      c.loop.invariant ∙ ap (λ n. replicate n nothing) end,
    )
