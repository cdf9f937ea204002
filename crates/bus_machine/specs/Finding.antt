-- What a sender has found in passed places since it took a page, which of them it loads next, and
-- what stood there when it loaded them.
use Rattle.std.specs.Prelude.{◌≡◌, ℕ, true, Some, None, List, [], ◌∷◌, ◌++◌, length, slice_get}
use Rattle.std.specs.Prelude.{slice_index}
use Rattle.bus_core.specs.Senders.{Sender}
use Rattle.bus_core.specs.Table.{line_now}
use Rattle.bus_register.specs.declared.kinds.Kind.TheVariants as kind
use Rattle.bus_register.specs.declared.registers.Op.TheVariants.{Load}
use Rattle.bus_tenure.specs.Core.{Election}
use Rattle.bus_tenure.specs.declared.turns.Turn.TheVariants as turn
use Rattle.bus_world.specs.Headline.{Action, HasPut, HasMarked, Stepped}
use Rattle.bus_world.specs.World.{Event}
use Rattle.bus_world.specs.declared.events.Answer.{Answer}
use Rattle.bus_machine.specs.Machine.{Machine, Trails, Reached, Happens, Forks, passed_by}

-- what a sender has found in passed places since it took a page last, by these actions behind those
-- that found these
abbrev pub found_more : List ℕ → Action → List ℕ
found_more places (HasPut number bytes) = places
found_more places (HasMarked mark) = places
found_more places (Stepped t kind.TakePage found chose answer) = []
found_more places (Stepped t kind.ReadPassed found chose answer) = places ++ found ∷ []
found_more places (Stepped t k found chose answer) = places

abbrev pub found_since : List ℕ → List Action → List ℕ
found_since places [] = places
found_since places (d ∷ actions) = found_since (found_more places d) actions

-- so, of who holds a page, in its tenure
abbrev pub places_found : List Action → List ℕ
places_found actions = found_since [] actions

-- the next step of a sender loads the passed place of receiver r
pub record LoadsPassed {E : Type 0} (X : Election E) (m : Machine E) (v : Sender E) (word r : ℕ) :
    Type 0 where
  pub at : ℕ
  pub place : passed_by m.layout m.reuse r ≡ Some at
  pub is : (line_now X v).op word ≡ Some (Load record { 0 = at })

-- one event after another leads from this machine to that one, and receivers that join
pub data LeadsOn {E : Type 0} (X : Election E) (m : Machine E) : Machine E → Type 0 where
  Here : LeadsOn X m m
  After : (b b' : Machine E) (e : Event) (a : Answer) → LeadsOn X m b → Happens X b e a b'
      → LeadsOn X m b'
  AfterJoin : (b b' : Machine E) (i j : ℕ) → LeadsOn X m b → Forks b i j true b'
      → LeadsOn X m b'

-- With one of these actions of sender s, a step in this tenure, it loaded the passed place of the
-- number r, and found what stood there, which is n: in an earlier machine, from which events and
-- receivers that join lead to this one. Since it took its page it had found r others before.
pub record WasShown {E : Type 0} (X : Election E) (m : Machine E) (s : ℕ) (actions : List Action)
    (tenure r n : ℕ) : Type 0 where
  pub before : Machine E
  pub trails : Trails
  pub led : Reached X before trails
  pub leads : LeadsOn X before m
  pub sender : Sender E
  pub there : slice_get before.senders s ≡ Some sender
  pub word : ℕ
  pub loads : LoadsPassed X before sender word r
  pub shows : slice_index before.words loads.at ≡ n
  pub many : length (places_found (trails.actions s)) ≡ r
  pub rest : List Action
  pub since : actions
      ≡ trails.actions s ++ Stepped (Some tenure) kind.ReadPassed n None turn.Going ∷ rest
