-- The parts of a sender's turn, put together: what it holds afterwards, and that its seat shows it.
use Rattle.std.proofs.Common.{◌≡◌, ℕ, ◌<◌, Bool, true, false, cond, Option, Some, None, List, []}
use Rattle.std.proofs.Common.{◌∷◌, arith, refl, sym, ◌∙◌, ap, subst}
use prog.Atomic.{either}
use Rattle.std.proofs.lemmas.Bool.{true≢false}
use Rattle.std.proofs.lemmas.List.{append-nil}
use Rattle.std.proofs.lemmas.Grind.{common_steps}
use Rattle.atomic_table.specs.Table.{Allows, rest}
use Rattle.bus_register.specs.declared.registers.Op.{Op}
use Rattle.bus_register.specs.Words.{register, after, SumFits}
use Rattle.bus_tenure.specs.Situations.{PageMove, Stays, Comes, Returns}
use Rattle.bus_tenure.specs.declared.pages.Page.{Page}
use Rattle.bus_pageslot.specs.declared.rule.View.TheVariants.{Sender}
use Rattle.bus_automaton.specs.Processes.{Process, Automaton, IsCounted, EndsBy}
use Rattle.bus_automaton.specs.Lawful.{ProcessLaws, AutomatonLaws}
use Rattle.bus_pageslot.specs.Rule.{Sat, sender_trail_in, notes_in, TableInvariant}
use Rattle.bus_pageslot.specs.Steps.{laid_at, carried_of, out_with, carried_by, slot_in}
use Rattle.bus_pageslot.specs.Steps.{slots_emptied, all_in, noted_by, Told, Numbers, Gone, GoesOn}
use Rattle.bus_pageslot.specs.Steps.{Due}
use Rattle.bus_automaton.specs.SenderTrails.{SenderTrail, with_sender_trail}
use Rattle.bus_pageslot.proofs.SeatSteps.Accepting.{since_is}
use Rattle.bus_pageslot.proofs.Ruled.Ties.{goes_allowed}

-- ---- the sender that a call picks
pub due_within :
    {C : Type 0} (P : Process C) (k : Option C) (word : ℕ) (m : Sat C) (words : ℕ) (o : Op)
    → Due P k word m words o → register o < words
due_within P None word m words o h = absurd h
due_within P (Some d) word m words o h = let a = h.below in let b = h.wide in omega arith

pub picked_allowed : {C : Type 0} (P : Process C) (A : Automaton C) (K : ProcessLaws P)
    (L : AutomatonLaws P A) (slots id : ℕ) (m : Sat C) (k : Option C) (word : ℕ) (o : Op) (many : ℕ)
    → Due P k word m many o → (f g : ℕ → ℕ) → ((n : ℕ) → SumFits o n → f n ≡ after o n)
    → ((n : ℕ) → Told o n (g n))
    → ((d : C) → P.op d word ≡ Some o → (n : ℕ) (home : Option Page)
    → P.after d home (g n) word ≡ P.after d home n word)
    → ((d : C) → P.op d word ≡ Some o → (n : ℕ) → P.answer d (g n) word ≡ P.answer d n word)
    → Allows (TableInvariant P A) slots id m (register o) f (λ n. GoesOn P k word m (g n))
picked_allowed P A K L slots id m None word o many due f g writes says blind mute = absurd due
picked_allowed P A K L slots id m (Some d) word o many due f g writes says blind mute =
    goes_allowed P A K L slots id m d word o many due f g writes says (blind d due.due)
    (mute d due.due)

pub swaps : (b : Bool) (x y : ℕ) → either b x y ≡ cond b x y
swaps true x y = refl
swaps false x y = refl

-- ---- how a turn ends: a sender that was fed the number is s, and is s' once the page has been
-- taken out of the slot
pub record Ends {C : Type 0} (P : Process C) (s s' : C) (carried : List (ℕ × Option Page)) :
    Type 0 where
  pub page : P.awaits s ≡ true → (page : Page) × (carried ≡ (0, Some page) ∷ [])
  pub core : laid_at P s (P.awaits s) (slot_in carried) ≡ s'
  pub slot : slots_emptied (P.awaits s) carried ≡ carried_of (P.holds s')

module _ {C : Type 0} (P : Process C) (d s s' : C) (home : Option Page) where
  ends_plain : (carried : List (ℕ × Option Page)) → s' ≡ s → P.awaits s ≡ false
      → carried ≡ carried_of (P.holds s') → Ends P s s' carried
  ends_plain carried same none slot = grind (arith, common_steps, true≢false)

  ends_by : (move : PageMove) → EndsBy P d s s' home move
      → ((t : ℕ) → move ≡ Comes t → (page : Page) × (home ≡ Some page))
      → Ends P s s' (carried_by move home (out_with move (carried_of (P.holds d))))
  ends_by Stays h taken = ends_plain (carried_of (P.holds d)) h.0 h.1 (ap carried_of (sym h.2))
  ends_by (Comes t) h taken =
      let page = taken t refl in
      let none : carried_of (P.holds d) ≡ [] = ap carried_of h.1 in
      record {
        page = λ awaits. (page.0, λ i. (0, page.1 i) ∷ none i);
        core = grind (arith, common_steps);
        slot =
            ap (λ b. slots_emptied b ((0, home) ∷ carried_of (P.holds d))) h.0
            ∙ ap (λ l. (0, None) ∷ l) none ∙ ap carried_of (sym (h.2 page.0 page.1).1);
      }
  ends_by (Returns t reason page) h taken = ends_plain (rest (carried_of (P.holds d))) h.0 h.1
      (ap (λ b. rest (carried_of b)) h.2 ∙ ap carried_of (sym h.3))

module _ {C : Type 0} (P : Process C) (K : ProcessLaws P) (d : C) where
  -- ---- the whole turn
  module _ (m m1 m2 : Sat C) (word got : ℕ) (carried : m.1 ≡ carried_of (P.holds d)) (d1 d2 : C)
      (put : d1 ≡ P.handed d) (put_me : m1 ≡ (m.0, out_with (P.move d) m.1))
      (gone : Gone P d word m1 got m2) (fed : d2 ≡ P.fed d1 got word) where
    fed_is : d2 ≡ P.fed d got word
    fed_is = fed ∙ ap (λ k. P.fed k got word) put ∙ K.handed_fed d got word

    out_is : m2.1 ≡ carried_by (P.move d) gone.home (out_with (P.move d) (carried_of (P.holds d)))
    out_is = cc

    pub ended : Ends P d2 (P.after d gone.home got word) m2.1
    ended = grind (arith, common_steps, fed_is, out_is, ends_by)

    module _ (m3 : Sat C) (d3 : C) (laid_is : d3 ≡ laid_at P d2 (P.awaits d2) (slot_in m2.1))
        (me_is : m3 ≡ (m2.0, slots_emptied (P.awaits d2) m2.1)) where
      pub core_is : d3 ≡ P.after d gone.home got word
      core_is = laid_is ∙ ended.core

      sender_trail_now : sender_trail_in m3.0
          ≡ with_sender_trail (all_in P m.0 d) (P.adds d gone.found word)
      sender_trail_now = cc

      same_trail : with_sender_trail (all_in P m1.0 d) (P.adds d gone.found word)
          ≡ sender_trail_in m3.0
      same_trail = cc

      pub laid_now : P.awaits d3 ≡ false
      laid_now = ap P.awaits core_is ∙ gone.laid

      pub numbered_now : Numbers P d3 (sender_trail_in m3.0)
      numbered_now = subst (λ (y : C × SenderTrail). Numbers P y.0 y.1)
          (λ i. (sym core_is i, same_trail i)) gone.numbered

      pub notes_now : notes_in m3.0 ≡ noted_by (P.op d word) (notes_in m.0)
      notes_now = cc

      pub me_now : m3 ≡ (Sender d3 (sender_trail_in m3.0) (notes_in m3.0), carried_of (P.holds d3))
      me_now = grind (arith, common_steps, ended, core_is, same_trail)

      -- nothing was accepted since
      pub all_now : all_in P m3.0 d3 ≡ with_sender_trail (all_in P m.0 d) (P.adds d gone.found word)
      all_now = grind (arith, common_steps, me_now, since_is, append-nil, sender_trail_now)

      pub counted_now : IsCounted P d3
      counted_now = subst (IsCounted P) (sym core_is) gone.counted

      pub wide_now : (words : ℕ) → words ≡ (P.table_layout d).words
          → words ≡ (P.table_layout d3).words
      wide_now words e = grind (arith, common_steps, core_is)
