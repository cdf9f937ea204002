-- What a receiver knows of a sender that has told it all.
use Rattle.std.specs.Prelude.{◌≡◌, ℕ, List, map}
use Rattle.bus_register.specs.declared.registers.SenderNo.{SenderNo}
use Rattle.bus_batch.specs.declared.messages.Item.{Item}
use Rattle.bus_batch.specs.Frames.{Order, Spells}
use Rattle.bus_deliverylog.specs.Orders.{of_sender}
use Rattle.bus_world.specs.Headline.{IsPrefix}
use Rattle.bus_run.specs.Numbers.{numbers_below}

-- a beginning of these words is a log of a bus of so many senders, and has of sender s just the
-- numbers below many
pub record HasTold (senders s many : ℕ) (words : List ℕ) : Type 0 where
  pub front : List ℕ
  pub begins : IsPrefix front words
  pub order : Order
  pub owners : List (ℕ × SenderNo)
  pub spelled : Spells senders front order owners
  pub carried : map (λ (i : Item). i.message) (of_sender s order) ≡ numbers_below many
