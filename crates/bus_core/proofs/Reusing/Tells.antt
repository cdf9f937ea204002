-- Why a page is given back, and what the holder shows of the reason.
use Rattle.std.proofs.Common.{◌≡◌, ℕ, Bool, true, false, cond, Option, Some, None, IfSome, is_some}
use Rattle.std.proofs.Common.{nat_lt, refl, sym, ◌∙◌, ap, subst}
use Rattle.std.proofs.lemmas.Bool.{leb-false}
use Rattle.std.proofs.lemmas.Option.{same_Some}
use Rattle.bus_presence.specs.Reclaimers.{Reclaiming, is_reclaimed}
use Rattle.bus_presence.specs.Reclamation.{ReclamationSizes}
use Rattle.bus_tenure.specs.Core.{Core, Election, has_room, frame_len}
use Rattle.bus_tenure.specs.Situations.{Situation, Elects, TakesPage, StoresWord, StoresLength}
use Rattle.bus_tenure.specs.Situations.{GivesBack, situation_at, situation_of}
use Rattle.bus_tenure.specs.declared.pages.Page.{Page}
use Rattle.bus_tenure.specs.declared.phases.Reason.{Reason}
use Rattle.bus_tenure.specs.declared.phases.Reason.TheVariants.{Sent, FoundEnd, NoRoom}
use Rattle.bus_tenure.specs.declared.phases.Phase.{Phase}
use Rattle.bus_tenure.specs.declared.phases.Phase.TheVariants.{Electing, Holding, Giving}
use Rattle.bus_tenure.proofs.Situated.{tells}
use Rattle.bus_core.specs.Reusing.Keeping.{held_of, IsReclaimerAfter, IsRowReady, ReclaimerKeeps}
use Rattle.bus_core.specs.Reusing.Telling.{HasPublished, Published, HandsOnSent, LacksRoom}
use Rattle.bus_core.specs.Reusing.Telling.{FindsNoRoom, HandsOnFull, FindsEnd, Ended, HandsOnEnd}

-- ---- a row that is ready
-- who reclaims no more has made the row of the next tenure ready
pub ready_of : {E : Type 0} (x : ReclamationSizes) (p : Phase E) (s : Option Reclaiming) (t : ℕ)
    → ReclaimerKeeps x p s
    → held_of p ≡ Some t → IfSome s (λ y. is_reclaimed y ≡ true) → IsRowReady x t s
ready_of x p None t k held done = record { ready = k t held; of = λ r e. absurd cc }
ready_of x p (Some s) t k held done = record {
  ready = done;
  of = λ r e. subst (IsReclaimerAfter x t) (same_Some s r e)
      (subst (λ u. IsReclaimerAfter x u s) (same_Some _ _ (sym k.held ∙ held)) k.after);
}

-- who has handed the page on reclaims no more
pub handed_of : {E : Type 0} (x : ReclamationSizes) (p : Phase E) (s : Option Reclaiming) (t : ℕ)
    (reason : Reason) → ReclaimerKeeps x p s
    → p ≡ Giving t reason → IfSome s (λ y. is_reclaimed y ≡ true)
handed_of x p None t reason k is = tt
handed_of x p (Some s) t reason k is = k.handed t reason is

-- ---- what the holder's phase shows of the reason for which the page is given back
abbrev pub Shows : {E : Type 0} → Core E → ℕ → Phase E → Reason → Type 0
Shows c t p Sent = HasPublished t p
Shows c t p FoundEnd = FindsEnd t p
Shows c t p NoRoom = LacksRoom c t p

-- one return has one reason
reason_is : {E : Type 0} (t : ℕ) (page : Page) (r reason : Reason)
    → ◌≡◌ {A = Situation E} (GivesBack t page r) (GivesBack t page reason)
    → r ≡ reason
reason_is t page r reason e = cc

-- of who gives the page back
pub gives_shows : {E : Type 0} (X : Election E) (c : Core E) (t : ℕ) (page : Page) (reason : Reason)
    → situation_of X c ≡ GivesBack t page reason → Shows c t c.phase reason
gives_shows {E} X c t page reason i =
    subst (λ p. Shows c t p reason) (sym at.2)
    (by at.1 page.ended (has_room c page) (nat_lt at.0 (frame_len c)) refl refl
    (sym (ap (situation_at X c) at.2) ∙ i))
  where
    at : (stored : ℕ) × (published : Bool) × (c.phase ≡ Holding t page stored published)
    at = tells X c (GivesBack t page reason) i

    for : (published : Bool) (r : Reason)
        → ◌≡◌ {A = Situation E} (GivesBack t page r) (GivesBack t page reason)
        → Shows c t (Holding t page at.0 published) r
        → Shows c t (Holding t page at.0 published) reason
    for published r e shows = subst (Shows c t (Holding t page at.0 published))
        (reason_is {E = E} t page r reason e) shows

    by : (published ended room more : Bool) → page.ended ≡ ended → has_room c page ≡ room
        → ◌≡◌ {A = Situation E}
        (cond published (GivesBack t page Sent) (cond ended (GivesBack t page FoundEnd)
        (cond room (cond more (StoresWord t page at.0) (StoresLength t page at.0))
        (GivesBack t page NoRoom)))) (GivesBack t page reason)
        → Shows c t (Holding t page at.0 published) reason
    by true ended room more p q e = for true Sent e (Published page at.0)
    by false true room more p q e = for false FoundEnd e (Ended page at.0 p)
    by false false true true p q e = absurd cc
    by false false true false p q e = absurd cc
    by false false false more p q e = for false NoRoom e (FindsNoRoom page at.0 (leb-false _ _ q))

-- and of who has handed it on
pub shown_handed : {E : Type 0} (c : Core E) (t : ℕ) (reason : Reason)
    → Shows c t (Giving t reason) reason
shown_handed c t Sent = HandsOnSent
shown_handed c t FoundEnd = HandsOnEnd
shown_handed c t NoRoom = HandsOnFull

-- ---- whom an election chose
-- an election that has ended chose the sender itself
abbrev pub ChoosesItself : {E : Type 0} → Election E → Core E → Type 0
ChoosesItself {E} X c =
    (t : ℕ) → situation_of X c ≡ TakesPage t
    → (e : E) × (c.phase ≡ Electing t e) × (X.owner e ≡ Some c.me)

-- where it did, the page is taken next
pub takes_page : {E : Type 0} (X : Election E) (c : Core E) (t : ℕ) (e : E) (o : ℕ)
    → c.phase ≡ Electing t e → X.owner e ≡ Some o
    → situation_of X c ≡ TakesPage t
takes_page X c t e o elects owned =
    ap (situation_at X c) elects ∙ ap (λ w. cond (is_some w) (TakesPage t) (Elects t e)) owned
