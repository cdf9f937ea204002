use Rattle.std.proofs.Common.{◌≡◌, ◌+◌, ℕ, [], ◌∷◌, ◌++◌, ap, get_or, rules, slice_index, sym}
use Rattle.std.proofs.Common.{take, ◌∙◌}
use Rattle.std.proofs.lemmas.List.{take_more}
use Rattle.bus_replica.specs.Pages.{next_behind, next_behind_one}
use Rattle.bus_replica.proofs.PageLaws.{next_more}
use Rattle.bus_replica.proofs.pages.numbers_behind.Goals as goal

pub loop-item-preserved : goal.loop-item-preserved
loop-item-preserved c =
    let k = c.loop-item.item-index in
    let items = c.args.items.now in
    let item = c.item-item.result in
    let begins : ℕ → ℕ = λ sender.
    get_or c.args.first.now sender (slice_index c.args.before sender) in
    let next : take (k + 1) items ≡ take k items ++ item ∷ [] =
    take_more items k item c.loop-item-test.true
    ∙ ap (λ z. take k items ++ z ∷ []) (sym c.item-item.is) in
    record {
      long = search rules;
      noted = λ sender low.
          c.note.ensures sender low
          ∙ ap (next_behind_one sender item) (c.loop-item.invariant.noted sender low)
          ∙ sym (next_more sender (take k items) item (begins sender))
          ∙ ap (λ z. next_behind sender z (begins sender)) (sym next);
    }
