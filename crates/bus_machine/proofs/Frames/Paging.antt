-- The page of a machine and its stage, and who takes and holds the page, by the frames of its log.
use Rattle.std.proofs.Common.{◌≡◌, ℕ, ◌+◌, ◌*◌, Some, slice_get, slice_index, sym, ◌∙◌, subst}
use Rattle.bus_core.proofs.Situated.{own_is}
use Rattle.bus_core.specs.Senders.{Sender, Does, situation}
use Rattle.bus_machine.proofs.Frames.AtHome.{paged, finds_page, holds_page}
pub use Rattle.bus_machine.proofs.Frames.AtHome.{some_is}
use Rattle.bus_machine.proofs.Frames.Framed.{IsFramed}
use Rattle.bus_machine.proofs.Bases.Leading.{Sits}
use Rattle.bus_machine.specs.Machine.{Machine, Trails, stage_of}
use Rattle.bus_batch.specs.Frames.{has_end}
use Rattle.bus_core.specs.Reusing.Keeping.{held_of}
use Rattle.bus_register.specs.Protocol.{Protocol}
use Rattle.bus_tenure.specs.Core.{Election}
use Rattle.bus_tenure.specs.Situations.{TakesPage}
use Rattle.bus_machine.specs.Promise.{FindsPage, IsPagedBy}

module _ {E : Type 0} (X : Election E) (P : Protocol E (Unit {0}) ℕ) (m : Machine E) (T : Trails)
    (s : Sits X P m)
    (f : IsFramed P m T) where
  -- who takes a page finds it
  pub takes_it : (p : ℕ) (v : Sender E) (t : ℕ) → slice_get m.senders p ≡ Some v
      → situation X v ≡ Does (TakesPage t) → FindsPage m t
  takes_it p v t at takes =
      let q = s.serves in
      let g = finds_page X P q.laws m.layout s.ok q.width q.starts q.owner_is f.V m.home f.cores
      f.owners f.frames f.sending p v.core
      (f.core_of p v at) t (own_is X v (TakesPage t) takes) in
      record { page = g.0; home = g.1; stage = f.stage ∙ g.2 }

  -- who holds it holds that of the tenure
  pub holds_it : (p : ℕ) (v : Sender E) (t : ℕ) → slice_get m.senders p ≡ Some v
      → held_of v.core.phase ≡ Some t → stage_of m ≡ 2 * t + 1
  holds_it p v t at held =
      let q = s.serves in
      f.stage
      ∙ holds_page X P q.laws m.layout s.ok q.width q.starts q.owner_is f.V m.home f.cores f.owners
      f.frames f.sending p v.core
      (f.core_of p v at) t held

  -- it knows stage and length
  pub paged_it : IsPagedBy (stage_of m) (slice_index m.words 0) (has_end f.frames) m.home
  paged_it =
      let q = s.serves in
      subst (λ n. IsPagedBy n (slice_index m.words 0) (has_end f.frames) m.home) (sym f.stage)
      (subst (λ n. IsPagedBy (f.V 1) n (has_end f.frames) m.home) (sym f.length)
      (paged X P q.laws m.layout s.ok q.width q.starts q.owner_is f.V m.home f.cores f.owners
      f.frames f.sending))
