-- What a sender publishes goes on with the log that its page knows.
use Rattle.std.proofs.Common.{◌≡◌, ℕ, Bool, true, false, cond, Some, refl, sym, ap, ◌∙◌}
use Rattle.bus_batch.specs.Frames.{Frame}
use Rattle.bus_batch.proofs.FrameLaws.{spells_more}
use Rattle.bus_tenure.specs.declared.pages.Page.{Page}
use Rattle.bus_tenure.specs.declared.phases.Reason.TheVariants.{Sent, FoundEnd, NoRoom}
use Rattle.bus_tenure.specs.Core.{Core, Election}
use Rattle.bus_tenure.specs.Situations.{GivesBack, StoresWord, StoresLength, line_of}
use Rattle.bus_tenure.specs.Situations.{situation_at}
use Rattle.bus_tenure.specs.Publishing.{PublishesOnward}

module _ {E : Type 0} (X : Election E) (c : Core E) where
  -- only a holder that does not find the order ended publishes
  unended : (t stored : ℕ) (page : Page) (p e r l : Bool) (f : Frame)
      → (line_of X c (cond p (GivesBack t page Sent)
      (cond e (GivesBack t page FoundEnd) (cond r
      (cond l (StoresWord t page stored) (StoresLength t page stored))
      (GivesBack t page NoRoom))))).publishes ≡ Some f
      → e ≡ false
  unended t stored page true e r l f is = absurd cc
  unended t stored page false true r l f is = absurd cc
  unended t stored page false false r l f is = refl

  pub publishes_onward : PublishesOnward X c
  publishes_onward t stored page published f words order owners at is frame spells known stays
      above =
      let here = ap (λ ph. (line_of X c (situation_at X c ph)).publishes) (sym at) ∙ is in
      let open_still = unended t stored page published _ _ _ f here in
      spells_more c.layout.senders words order owners f spells (sym known ∙ open_still) stays frame
      above
