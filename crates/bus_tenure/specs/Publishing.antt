-- That what a sender publishes goes on with the log that its page knows.
use Rattle.std.specs.Prelude.{◌≡◌, ℕ, ◌<◌, List, [], ◌∷◌, ◌++◌, All, Bool, false, Some}
use Rattle.bus_register.specs.declared.registers.SenderNo.{SenderNo}
use Rattle.bus_batch.specs.Frames.{Frame, IsFrame, Order, Spells, has_gone, frame_words}
use Rattle.bus_batch.specs.Frames.{entries_of, ends, tenure_and_owner}
use Rattle.bus_tenure.specs.declared.pages.Page.{Page}
use Rattle.bus_tenure.specs.declared.phases.Phase.TheVariants.{Holding}
use Rattle.bus_tenure.specs.Core.{Core, Election}
use Rattle.bus_tenure.specs.Situations.{line_of, situation_of}

-- A holder is to publish a frame. Take any words that spell an order, of tenures below the frame's,
-- in which the owner of the frame has not left, and of which the page says rightly whether it has
-- ended. With the frame behind them they spell that order with what the frame says.
abbrev pub PublishesOnward : {E : Type 0} → Election E → Core E → Type 0
PublishesOnward X c = (t stored : ℕ) (page : Page) (published : Bool) (frame : Frame)
    (words : List ℕ) (order : Order) (owners : List (ℕ × SenderNo))
    → c.phase ≡ Holding t page stored published
    → (line_of X c (situation_of X c)).publishes ≡ Some frame → IsFrame c.layout.senders frame
    → Spells c.layout.senders words order owners → page.ended ≡ order.ended
    → has_gone frame.owner.0 order ≡ false → All (λ p. p.0 < frame.tenure) owners
    → Spells c.layout.senders (words ++ frame_words frame)
    (record { entries = order.entries ++ entries_of frame; ended = ends frame.body })
    (owners ++ tenure_and_owner frame ∷ [])
