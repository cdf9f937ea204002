-- Who took the pages that a machine still tells, of all who took pages.
use Rattle.std.proofs.Common.{◌≡◌, inl, inr, ℕ, zero, suc, ◌+◌, ◌*◌, ◌-◌, ◌≤◌, Bool, true, false}
use Rattle.std.proofs.Common.{cond, ◌==◌, Option, Some, None, List, [], ◌∷◌, ◌++◌, drop, length}
use Rattle.std.proofs.Common.{slice_get, arith, refl, sym, ◌∙◌, ap, subst}
use Rattle.std.proofs.lemmas.Bool.{cases_lt, true≢false}
use Rattle.std.proofs.lemmas.Bool.Decides.{eqb_tells}
use Rattle.std.proofs.lemmas.List.{append-nil, length-append, length-drop, drop-append-le}
use Rattle.std.proofs.lemmas.Option.{same_Some}
use Rattle.std.proofs.Math.Seq.{drop-nil}
use Rattle.std.proofs.lemmas.Grind.{common_steps}
use Rattle.bus_batch.specs.declared.messages.Mark.{Mark}
use Rattle.bus_batch.specs.declared.messages.Mark.TheVariants.{End, Leave}
use Rattle.bus_tenure.specs.declared.turns.Turn.{Turn as Answered}
use Rattle.bus_world.specs.Headline.{Action, HasPut, HasMarked, Took}
use Rattle.bus_world.specs.Trails.{Takers, mark_actions, actions_with, step_action, put_actions}
use Rattle.bus_world.proofs.Places.{got_before, got_split}
use Rattle.bus_world.proofs.Stopping.{shown_there}
use Rattle.bus_core.specs.Senders.{Sender, Situation, Does, Announces, Validates, Unpins}
use Rattle.bus_core.specs.Senders.{Withdraws, Scans, Clears, ReadsPassed, situation}
use Rattle.bus_core.specs.Table.{line, line_now}
use Rattle.bus_register.specs.Protocol.{Protocol}
use Rattle.bus_register.specs.Private.TableLaws.{push_here}
use Rattle.bus_register.specs.declared.kinds.Kind.{Kind}
use Rattle.bus_register.specs.declared.kinds.Kind.TheVariants as kind
use Rattle.bus_tenure.specs.Core.{Election}
use Rattle.bus_tenure.specs.Situations.{IsClosed, IsIdle, IsSpent, LooksAtStage, Elects, TakesPage}
use Rattle.bus_tenure.specs.Situations.{AwaitsPage, StoresWord, StoresLength, GivesBack, HasHanded}
use Rattle.bus_tenure.specs.declared.turns.Turn.{Turn as Answered}
use Rattle.bus_world.specs.Headline.{Stepped}
use Rattle.bus_world.specs.World.{Event, Put, Ask, Turn, Recv, Stop, Gone}
use Rattle.bus_world.specs.declared.events.Answer.{Answer}
use Rattle.bus_world.specs.declared.events.Answer.TheVariants as answer
use Rattle.bus_machine.proofs.Bases.AtNone.{event_reuse, forks_reuse}
use Rattle.bus_machine.proofs.Memory.EachSender.{actions_of_it, added, added_is}
use Rattle.bus_machine.proofs.Frames.Framed.{IsFramed, framed}
use Rattle.bus_machine.proofs.Bases.Leading.{Sits, sits_before, sits_unforked}
use Rattle.bus_machine.proofs.Frames.Paging.{takes_it}
use Rattle.bus_machine.proofs.Tenures.Takes.{takes_told}
use Rattle.bus_machine.specs.Machine.{Machine, Trails, Reached, New as Start, Then as Next}
use Rattle.bus_machine.specs.Machine.{Joins}
use Rattle.bus_machine.specs.Machine.{Happens, IsNew, found, has_stopped, last_of, owners_told}
use Rattle.bus_machine.specs.Machine.{stage_of, trails_grown, turn_answer, turn_grown}
use Rattle.bus_machine.specs.Promise.{TakersTold}
use Rattle.bus_adoptcommit.proofs.Moves.{same_lists}

-- actions tell who took the pages
pub takers_one : (a b : List ℕ) (D : ℕ → List Action) → Takers a D → Takers b D → a ≡ b
takers_one a b D h k = same_lists a b (λ t. by_both t (slice_get a t) (slice_get b t) refl refl)
  where
    by_both : (t : ℕ) (o p : Option ℕ) → slice_get a t ≡ o → slice_get b t ≡ p
        → slice_get a t ≡ slice_get b t
    by_both t None None i j = i ∙ sym j
    by_both t (Some s) p i j = let w = h.took t s i in i ∙ sym (k.only t s w.0 w.1)
    by_both t None (Some s) i j = let w = k.took t s j in h.only t s w.0 w.1 ∙ sym j

-- ---- the last of the last
drop_more : {A : Type 0} (k m : ℕ) (l : List A) → drop m (drop k l) ≡ drop (k + m) l
drop_more zero m l = ap (λ k. drop k l) (let e : m ≡ zero + m = omega arith in e)
drop_more (suc k) m [] = drop-nil m ∙ sym (drop-nil (suc k + m))
drop_more (suc k) m (x ∷ l) =
    drop_more k m l ∙ ap (λ j. drop j (x ∷ l)) (let e : suc (k + m) ≡ suc k + m = omega arith in e)

-- the last of the last and more are the last of all and more
last_last : (r : ℕ) (xs ys : List ℕ) → last_of r (last_of r xs ++ ys) ≡ last_of r (xs ++ ys)
last_last r xs ys = elim (cases_lt (length xs) r) [
  | inl few ↦
      let none : length xs - r ≡ 0 = omega arith in ap (λ k. last_of r (drop k xs ++ ys)) none
  | inr many ↦
      let k = length xs - r in
      let within : k ≤ length xs = omega arith in
      let left : length (drop k xs) ≡ length xs - k = length-drop k xs in
      let all : length (drop k xs ++ ys) ≡ length (drop k xs) + length ys =
      length-append (drop k xs) ys in
      let whole : length (xs ++ ys) ≡ length xs + length ys = length-append xs ys in
      let more : k + (length (drop k xs ++ ys) - r) ≡ length (xs ++ ys) - r = omega arith in
      ap (drop (length (drop k xs ++ ys) - r)) (sym (drop-append-le k xs ys within))
      ∙ drop_more k (length (drop k xs ++ ys) - r) (xs ++ ys)
      ∙ ap (λ j. drop j (xs ++ ys)) more
]

-- the last of the last are the last
last_again : (r : ℕ) (xs : List ℕ) → last_of r (last_of r xs) ≡ last_of r xs
last_again r xs = grind (arith, common_steps, append-nil, last_last)

-- one more is told of those that are told, or none
told_more : (o : Option ℕ) (takes : Bool) (s : ℕ) (all : List ℕ)
    → owners_told o (cond takes (owners_told o all ++ s ∷ []) (owners_told o all))
    ≡ owners_told o (cond takes (all ++ s ∷ []) all)
told_more None takes s all = refl
told_more (Some r) true s all = last_last r all (s ∷ [])
told_more (Some r) false s all = last_again r all

-- ---- actions that take no page
abbrev pub TakesNone : List Action → Type 0
TakesNone ds = (t place : ℕ) → Took ds t place → ⊥

-- none does
pub nothing_takes : TakesNone []
nothing_takes t place h = let bad = h.at in cc

-- a put
pub put_takes : (number : ℕ) (bytes : List ℕ) → TakesNone (HasPut number bytes ∷ [])
put_takes number bytes t zero h = let bad = h.at in cc
put_takes number bytes t (suc place) h = let bad = h.at in cc

-- a mark
mark_takes : (asked : Mark) → TakesNone (HasMarked asked ∷ [])
mark_takes asked t zero h = let bad = h.at in cc
mark_takes asked t (suc place) h = let bad = h.at in cc

-- beside them all is as before
takers_beside : (all : List ℕ) (D : ℕ → List Action) (p : ℕ) (ds : List Action) → TakesNone ds
    → Takers all D
    → Takers all (actions_with p ds D)
takers_beside all D p ds none h = record {
  took = λ t s at. grind (arith, common_steps, got_before);
  only = λ t s place took. elim (got_split (D s) (cond (s == p) ds []) place _ took.at) [
    | inl before ↦ h.only t s place record {
      found = took.found;
      chose = took.chose;
      answer = took.answer;
      at = before;
    }
    | inr after ↦ absurd (by_test (s == p) t after.0 record {
      found = took.found;
      chose = took.chose;
      answer = took.answer;
      at = after.2;
    })
  ];
} where
  by_test : (b : Bool) (t place : ℕ) → Took (cond b ds []) t place → ⊥
  by_test true t place h = none t place h
  by_test false t place h = nothing_takes t place h

-- sender p takes the page of the tenure behind all of these
module _ (all : List ℕ) (D : ℕ → List Action) (p t : ℕ) (here : t ≡ length all) (found : ℕ)
    (chose : Option ℕ) (told : Answered) (h : Takers all D) where
  abbrev ds : List Action
  ds = Stepped (Some t) kind.TakePage found chose told ∷ []

  -- its action is one of them
  its_action : (b : Bool) (n place : ℕ) → Took (cond b ds []) n place → (b ≡ true) × (t ≡ n)
  its_action true n zero w = (refl, let at = w.at in cc)
  its_action true n (suc place) w = absurd (let bad = w.at in cc)
  its_action false n place w = absurd (nothing_takes n place w)

  -- its place is the last
  last_of_all : (n q j : ℕ) → n ≡ length all + j → slice_get (p ∷ []) j ≡ Some q → (n ≡ t) × (p ≡ q)
  last_of_all n q zero i at = (omega arith, same_Some _ _ at)
  last_of_all n q (suc j) i at = absurd (let bad = at in cc)

  -- with it this sender is the last of all
  takers_push : Takers (all ++ p ∷ []) (actions_with p ds D)
  takers_push = record {
    took = λ n q at. elim (got_split all (p ∷ []) n q at) [
      | inl before ↦ grind (arith, common_steps, got_before)
      | inr after ↦
          let same = last_of_all n q after.0 after.1 after.2 in
          let now = actions_of_it p ds D p refl in
          subst (λ r. (place : ℕ) × Took (actions_with p ds D r) n place) same.1
          (subst (λ r. (place : ℕ) × Took (actions_with p ds D p) r place) (sym same.0) (
            length (D p),
            record {
              found = found;
              chose = chose;
              answer = told;
              at = grind (arith, common_steps, slice_get, length, push_here);
            },
          ))
    ];
    only = λ n q place took. elim (got_split (D q) (cond (q == p) ds []) place _ took.at) [
      | inl before ↦ got_before all (p ∷ []) n q (h.only n q place record {
        found = took.found;
        chose = took.chose;
        answer = took.answer;
        at = before;
      })
      | inr after ↦
          grind (arith, common_steps, its_action, eqb_tells, true≢false, slice_get, push_here)
    ];
  }

-- ---- a turn of sender s
step_takes : (k : Option Kind) (n : Option ℕ) (got : ℕ) (chose : Option ℕ) (told : Answered)
    → (k ≡ Some kind.TakePage → ⊥)
    → TakesNone (step_action k n got chose told)
step_takes None n got chose told other t place w = nothing_takes t place w
step_takes (Some k) n got chose told other t zero w =
    let at = w.at in other (let same : k ≡ kind.TakePage = cc in ap Some same)
step_takes (Some k) n got chose told other t (suc place) w = let bad = w.at in cc

-- what a put adds
put_none : (bytes : List ℕ) (a : Answer) → TakesNone (put_actions bytes a)
put_none bytes (answer.Number n) t place w = put_takes n bytes t place w
put_none bytes answer.Closing t place w = nothing_takes t place w
put_none bytes answer.Leaving t place w = nothing_takes t place w
put_none bytes (answer.Turn told) t place w = nothing_takes t place w
put_none bytes (answer.Recv told) t place w = nothing_takes t place w
put_none bytes answer.Stopped t place w = nothing_takes t place w
put_none bytes answer.Gone t place w = nothing_takes t place w

-- what a mark adds
mark_none : (a : Answer) → TakesNone (mark_actions a)
mark_none (answer.Number n) t place w = nothing_takes t place w
mark_none answer.Closing t place w = mark_takes End t place w
mark_none answer.Leaving t place w = mark_takes Leave t place w
mark_none (answer.Turn told) t place w = nothing_takes t place w
mark_none (answer.Recv told) t place w = nothing_takes t place w
mark_none answer.Stopped t place w = nothing_takes t place w
mark_none answer.Gone t place w = nothing_takes t place w

-- as many have taken pages as tenures were opened
pub counted : {E : Type 0} {P : Protocol E (Unit {0}) ℕ} (m : Machine E) (T : Trails)
    (f : IsFramed P m T) (all : List ℕ) → Takers all T.actions → (t : ℕ)
    → stage_of m ≡ 2 * t → t ≡ length all
counted m T f all h t stage = grind (arith, common_steps, length, takers_one)

module _ {E : Type 0} (X : Election E) (P : Protocol E (Unit {0}) ℕ) (m : Machine E) (T : Trails)
    (sits : Sits X P m) (f : IsFramed P m T) (all : List ℕ)
    (h : Takers all T.actions) (s : ℕ) (v : Sender E) (at : slice_get m.senders s ≡ Some v)
    (got word : ℕ) (told : Answered) where
  abbrev Taken : Situation E → Type 0
  Taken z = Takers (cond (line X v z).takes (all ++ s ∷ []) all)
      (actions_with s (added z (line X v z) got word told) T.actions)

  -- whatever the turn is
  taken : (z : Situation E) → situation X v ≡ z → Taken z
  taken (Does IsClosed) i = takers_beside all T.actions s [] nothing_takes h
  taken (Does IsIdle) i = takers_beside all T.actions s [] nothing_takes h
  taken (Does IsSpent) i = takers_beside all T.actions s [] nothing_takes h
  taken (Does LooksAtStage) i = grind (arith, common_steps, takers_beside, added, step_takes)
  taken (Does (Elects t e)) i = grind (arith, common_steps, takers_beside, added, step_takes)
  taken (Does (TakesPage t)) i = takers_push all T.actions s t
      (counted m T f all h t (takes_it X P m T sits f s v t at i).stage) got None told h
  taken (Does (AwaitsPage t)) i = takers_beside all T.actions s [] nothing_takes h
  taken (Does (StoresWord t page stored)) i =
      grind (arith, common_steps, takers_beside, added, step_takes)
  taken (Does (StoresLength t page stored)) i =
      grind (arith, common_steps, takers_beside, added, step_takes)
  taken (Does (GivesBack t page reason)) i =
      grind (arith, common_steps, takers_beside, added, step_takes)
  taken (Does (HasHanded t reason)) i =
      grind (arith, common_steps, takers_beside, added, step_takes)
  taken (Announces t) i = takers_beside all T.actions s [] nothing_takes h
  taken (Validates t) i = takers_beside all T.actions s [] nothing_takes h
  taken (Unpins t) i = takers_beside all T.actions s [] nothing_takes h
  taken (Withdraws t) i = takers_beside all T.actions s [] nothing_takes h
  taken (Scans r) i = takers_beside all T.actions s [] nothing_takes h
  taken (Clears r) i = takers_beside all T.actions s [] nothing_takes h
  taken (ReadsPassed t p) i = grind (arith, common_steps, takers_beside, added, step_takes)

-- ---- whatever leads to a machine
module _ {E : Type 0} (X : Election E) (P : Protocol E (Unit {0}) ℕ) where
  -- who took pages before is told still
  beside_told : (m m' : Machine E) (T T' : Trails) (s : ℕ) (ds : List Action) → m'.reuse ≡ m.reuse
      → m'.owners ≡ m.owners
      → T'.actions ≡ actions_with s ds T.actions
      → TakesNone ds → TakersTold m.reuse m.owners T.actions
      → TakersTold m'.reuse m'.owners T'.actions
  beside_told m m' T T' s ds reuse owners did none k = grind (arith, common_steps, takers_beside)

  -- after an event
  event_told : (m m' : Machine E) (T : Trails) (e : Event) (a : Answer) → Sits X P m → Reached X m T
      → Happens X m e a m'
      → TakersTold m.reuse m.owners T.actions
      → TakersTold m'.reuse m'.owners (trails_grown X m e a T).actions
  event_told m m' T (Put s bytes) a sits r h k =
      beside_told m m' T (trails_grown X m (Put s bytes) a T) s (put_actions bytes a)
      (event_reuse X m m' (Put s bytes) a h).1 (ap (λ (y : Machine E). y.owners) h.after) refl
      (put_none bytes a) k
  event_told m m' T (Ask s asked) a sits r h k =
      beside_told m m' T (trails_grown X m (Ask s asked) a T) s (mark_actions a)
      (event_reuse X m m' (Ask s asked) a h).1 (ap (λ (y : Machine E). y.owners) h.after) refl
      (mark_none a) k
  event_told m m' T (Turn s word) a sits r h k =
      let v = h.sender in
      let z = situation X v in
      let l = line_now X v in
      let told = turn_answer m l word in
      let at = shown_there (has_stopped m s) (slice_get m.senders s) v h.goes in
      let did : (trails_grown X m (Turn s word) a T).actions
      ≡ actions_with s (added z l (found m l word) word told) T.actions =
      ap (λ d. (trails_grown X m (Turn s word) d T).actions) h.answered
      ∙ ap (λ o. (turn_grown X m s o word (answer.Turn told) T).actions) h.goes
      ∙ added_is z l s (found m l word) word told T in
      record {
        all = cond l.takes (k.all ++ s ∷ []) k.all;
        takers = grind (arith, common_steps, taken, framed);
        told = grind (arith, common_steps, takes_told, told_more, event_reuse);
      }
  event_told m m' T (Recv q) a sits r h k = grind (arith, common_steps, event_reuse)
  event_told m m' T (Stop s) a sits r h k = grind (arith, common_steps, event_reuse)
  event_told m m' T (Gone q) a sits r h k = grind (arith, common_steps, event_reuse)

  -- of none none is told
  none_told : (o : Option ℕ) → owners_told o [] ≡ []
  none_told None = refl
  none_told (Some rows) = drop-nil (0 - rows)

  -- at the start
  new_told : (m : Machine E) → IsNew m → TakersTold m.reuse m.owners (λ s. [])
  new_told m new = grind (arith, common_steps, nothing_takes, none_told)

  -- whatever leads to a machine, its owners are those that took the last pages
  pub takers_told : (m : Machine E) (T : Trails) → Sits X P m → Reached X m T
      → TakersTold m.reuse m.owners T.actions
  takers_told m T sits (Start n new) = new_told n new
  takers_told m T sits (Next n m' U e a before h) =
      let t = sits_before X P n m' e a h sits in
      event_told n m' U e a t before h (takers_told n U t before)
  takers_told m T sits (Joins w v U i j n before h nobody silent) =
      let k = takers_told w U (sits_unforked X P w v i j h sits) before in
      grind (arith, common_steps, forks_reuse)
