-- What a sender has put stays what it has put, by the same numbers, whatever else it does.
use Rattle.std.proofs.Common.{◌≡◌, ℕ, ◌+◌, Bool, true, false, List, [], ◌∷◌, ◌++◌, length, Option}
use Rattle.std.proofs.Common.{Some, None, inl, inr, refl, sym, ◌∙◌, ap, subst, append_assoc}
use Rattle.std.proofs.Common.{arith}
use Rattle.std.specs.Prelude.{IfSome, IfNone, IfOk, Result, Ok, Err, OnErr, OnOk}
use Rattle.bus_batch.specs.Batches.{CanPut, CanClose, next_of}
use Rattle.bus_batch.specs.declared.batches.CloseFault.{CloseFault}
use Rattle.bus_batch.specs.declared.messages.Mark.{Mark}
use Rattle.bus_batch.specs.declared.messages.Mark.TheVariants as mark
use Rattle.bus_core.specs.Senders.{Sender as Held}
use Rattle.bus_tenure.specs.Core.{Election}
use Rattle.bus_tenure.specs.declared.turns.Turn.{Turn}
use Rattle.bus_world.specs.Headline.{HasPut, HasMarked, puts, put_of}
use Rattle.std.proofs.lemmas.Grind.{flat_map-append, common_steps}
use Rattle.std.proofs.lemmas.List.{append-nil, length-append}
use Rattle.bus_automaton.specs.Processes.{Process, Automaton}
use Rattle.bus_automaton.specs.SenderTrails.{SenderTrail}
use Rattle.bus_automaton.specs.declared.plans.Plan.{Plan}
use Rattle.bus_pageslot.specs.Finishing.{GoesThrough, Begun, Through, HasFinished, Finishes}
use Rattle.bus_pageslot.specs.Looks.{LooksForRoom}
use Rattle.bus_pageslot.specs.Rule.{Sat}
use Rattle.bus_pageslot.specs.Seats.{SenderSeat, first_number_of, actions_of, sender_trail_of}
use Rattle.bus_pageslot.specs.Seats.{table_of}
use Rattle.bus_pageslot.specs.Sendings.{TakesAll, TakesNone, TakesMore}
use Rattle.bus_pageslot.specs.Staying.{IsSameSender}
use Rattle.bus_pageslot.specs.Turns.{Tellings, Turned, AsksOn, Begins, Goes, Asks, SendsAsking}
use Rattle.bus_pageslot.specs.Turns.{StopsWaiting}
use Rattle.bus_replica.specs.Causes.{WasAnswered}
use Rattle.bus_replica.specs.Replicas.{PutsAll, PutsNow, PutsStay}
use Rattle.bus_replica.specs.Replicas.{PutsAllOrNone, WorksOn, Rests}
use Rattle.bus_replica.specs.Replicas.{Turns, Puts, PutsStayLeaving, Leaves, Looks, Operations}
use Rattle.bus_replica.specs.Replicas.{LeadTo, Replicated, Sitting, StandsLast}

-- ---- what a sender does, one after another
pub works_trans : {C : Type 0} (P : Process C) (T : Tellings C) (leaves : Bool)
    (a b c : SenderSeat C) → WorksOn P T leaves a b → WorksOn P T leaves b c
    → WorksOn P T leaves a c
works_trans P T leaves a b _ before Rests = before
works_trans P T leaves a b _ before (Turns old word answer new later turned) =
    Turns old word answer new (works_trans P T leaves a b old before later) turned
works_trans P T leaves a b _ before (Puts old bytes new later takes) =
    Puts old bytes new (works_trans P T leaves a b old before later) takes
works_trans P T leaves a b _ before (Leaves old new may later takes) =
    Leaves old new may (works_trans P T leaves a b old before later) takes
works_trans P T leaves a b _ before (Looks old new later core did table) =
    Looks old new (works_trans P T leaves a b old before later) core did table

-- of who does not leave, as of who does
pub works_also : {C : Type 0} (P : Process C) (T : Tellings C) (leaves : Bool) (a b : SenderSeat C)
    → WorksOn P T false a b → WorksOn P T leaves a b
works_also P T leaves a _ Rests = Rests
works_also P T leaves a _ (Turns old word answer new before turned) =
    Turns old word answer new (works_also P T leaves a old before) turned
works_also P T leaves a _ (Puts old bytes new before takes) =
    Puts old bytes new (works_also P T leaves a old before) takes
works_also P T leaves a _ (Leaves old new may before takes) =
    absurd (let bad : false ≡ true = may in cc)
works_also P T leaves a _ (Looks old new before core did table) =
    Looks old new (works_also P T leaves a old before) core did table

same_on : {C : Type 0} (P : Process C) (a b c : SenderSeat C) → IsSameSender P a b
    → IsSameSender P b c → IsSameSender P a c
same_on P a b c h k = record { me = k.me ∙ h.me; first = k.first ∙ h.first }

same_here : {C : Type 0} (P : Process C) (a : SenderSeat C) → IsSameSender P a a
same_here P a = record { me = refl; first = refl }

-- turns, of which each leaves the sender who it is
module _ {C : Type 0} (P : Process C) (T : Tellings C)
    (turned_same : (old new : SenderSeat C) (word : ℕ) (answer : Turn)
    → Turned P T old word answer new → IsSameSender P old new) where
  asks_same : {F : Type 0} (Tells : F → Bool → F → Type 0) (first : SenderSeat C) (given : F)
      (new : SenderSeat C) (f : F) → AsksOn P T Tells first given new f → IsSameSender P first new
  asks_same Tells first given _ _ Begins = same_here P first
  asks_same Tells first given _ _ (Goes old f word answer new before turned last goes) =
      same_on P first old new (asks_same Tells first given old f before)
      (turned_same old new word answer turned)
  asks_same Tells first given _ _ (Asks old f word answer new f' before turned waits told) =
      same_on P first old new (asks_same Tells first given old f before)
      (turned_same old new word answer turned)

  asks_work : {F : Type 0} (Tells : F → Bool → F → Type 0) (first : SenderSeat C) (given : F)
      (new : SenderSeat C) (f : F) → AsksOn P T Tells first given new f
      → WorksOn P T false first new
  asks_work Tells first given _ _ Begins = Rests
  asks_work Tells first given _ _ (Goes old f word answer new before turned last goes) =
      Turns old word answer new (asks_work Tells first given old f before) turned
  asks_work Tells first given _ _ (Asks old f word answer new f' before turned waits told) =
      Turns old word answer new (asks_work Tells first given old f before) turned

  pub tried_same : {F : Type 0} (Tells : F → Bool → F → Type 0) (first : SenderSeat C) (given : F)
      (result : Option Turn) (new : SenderSeat C)
      → IfSome result (λ turn. SendsAsking P T Tells first given turn new)
      → IfNone result (StopsWaiting P T Tells first given new) → IsSameSender P first new
  tried_same Tells first given None new some none = grind (arith, common_steps, same_on, asks_same)
  tried_same Tells first given (Some answer) new some none = grind (arith, same_on, asks_same)

  pub tried_works : {F : Type 0} (Tells : F → Bool → F → Type 0) (first : SenderSeat C) (given : F)
      (result : Option Turn) (new : SenderSeat C)
      → IfSome result (λ turn. SendsAsking P T Tells first given turn new)
      → IfNone result (StopsWaiting P T Tells first given new) → WorksOn P T false first new
  tried_works Tells first given None new some none =
      Turns none.old none.word none.answer new
      (asks_work Tells first given none.old none.asked none.before) none.turned
  tried_works Tells first given (Some answer) new some none =
      Turns some.old some.word answer new
      (asks_work Tells first given some.old some.asked some.before) some.turned

  pub tried_answered : {F : Type 0} (Tells : F → Bool → F → Type 0) (first : SenderSeat C)
      (given : F) (result : Option Turn) (new : SenderSeat C)
      → IfSome result (λ turn. SendsAsking P T Tells first given turn new)
      → IfSome result (λ turn. WasAnswered P T false first turn new)
  tried_answered Tells first given None new some = tt
  tried_answered Tells first given (Some answer) new some = record {
    at = some.old;
    word = some.word;
    after = new;
    before = asks_work Tells first given some.old some.asked some.before;
    turned = some.turned;
    behind = Rests;
  }

-- the turns that are left of a tenure
module _ {E : Type 0} (X : Election E) (P : Process (Held E)) (T : Tellings (Held E)) where
  through_works : (tenure : ℕ) (first : SenderSeat (Held E)) (count : ℕ)
      (new : SenderSeat (Held E)) → GoesThrough P T tenure first count new
      → WorksOn P T false first new
  through_works tenure first _ _ (Begun begun) = Rests
  through_works tenure first _ _ (Through count old word answer new before turned last behind
      begun) =
      Turns old word answer new (through_works tenure first count old before) turned

  pub finished_stays : (first : SenderSeat (Held E)) (result : Option Turn)
      (new : SenderSeat (Held E)) → puts (actions_of P new) ≡ puts (actions_of P first)
      → IfNone result ((new ≡ first) × HasFinished P first)
      → IfSome result (λ turn. Finishes X P T first turn new)
      → ((old new : SenderSeat (Held E)) (answer : Turn) → Finishes X P T old answer new
      → IsSameSender P old new) → PutsStay P T first new
  finished_stays first None new puts none some same = record {
    puts_are = puts;
    first_is = ap (first_number_of P) none.0;
    me_is = ap (λ (s : SenderSeat (Held E)). P.me s.core) none.0;
    works = subst (λ z. WorksOn P T false first z) (sym none.0) Rests;
  }
  finished_stays first (Some answer) new puts none some same =
      let one = same first new answer some in
      record {
        puts_are = puts;
        first_is = one.first;
        me_is = one.me;
        works = Turns some.old some.word answer new
            (through_works some.tenure first some.count some.old some.before) some.turned;
      }

-- ---- puts that stay
pub stay : {C : Type 0} (P : Process C) (T : Tellings C) (s : SenderSeat C) → PutsStay P T s s
stay P T s = record { puts_are = refl; first_is = refl; me_is = refl; works = Rests }

pub stay_on : {C : Type 0} (P : Process C) (T : Tellings C) (a b c : SenderSeat C)
    → PutsStay P T a b → PutsStay P T b c → PutsStay P T a c
stay_on P T a b c h k = grind (arith, common_steps, works_trans)

-- what changes neither the sender nor what it did nor its table
did_nothing : {C : Type 0} (P : Process C) (T : Tellings C) (old new : SenderSeat C)
    → new.core ≡ old.core → sender_trail_of P new ≡ sender_trail_of P old
    → table_of new ≡ table_of old → PutsStay P T old new
did_nothing P T old new core did table = record {
  puts_are = ap (λ (t : SenderTrail). puts t.actions) did;
  first_is = ap (λ (t : SenderTrail). t.first) did;
  me_is = ap P.me core;
  works = Looks old new Rests core did table;
}

-- a look whether there is room
pub look_stays : {C : Type 0} (P : Process C) (T : Tellings C) (A : Plan → Automaton C)
    (old new : SenderSeat C) (fits : Bool)
    → (plan : Plan) × LooksForRoom P (A plan) old fits new → table_of new ≡ table_of old
    → PutsStay P T old new
look_stays P T A old new fits h table = did_nothing P T old new h.1.core h.1.did table

-- a receiver that is told
pub told_stays : {C : Type 0} (P : Process C) (T : Tellings C) (old new : SenderSeat C)
    → new.core ≡ old.core → new.seat.me ≡ old.seat.me → table_of new ≡ table_of old
    → PutsStay P T old new
told_stays {C} P T old new core me table = grind (arith, common_steps, did_nothing)

-- ---- puts
-- a put by its contract
pub puts_one : {C : Type 0} (P : Process C) (old new : SenderSeat C) (number : ℕ)
    (bytes : List ℕ) → CanPut (P.queue old.core) (length bytes)
    → new.core ≡ P.with_message old.core bytes → new.seat ≡ old.seat
    → number ≡ next_of (P.queue old.core)
    → actions_of P new ≡ actions_of P old ++ HasPut number bytes ∷ []
    → number ≡ first_number_of P old + length (puts (actions_of P old))
    → IsSameSender P old new → PutsNow P old new number (bytes ∷ [])
puts_one P old new number bytes can core seat next action counts same = record {
  puts_are =
      ap puts action ∙ flat_map-append put_of (actions_of P old) (HasPut number bytes ∷ []);
  first_is = same.first;
  number_is = omega (arith, counts);
  me_is = same.me;
  takes = TakesMore [] old bytes new TakesNone (record {
    could = can;
    core = core;
    seat = seat;
    action = action ∙ ap (λ n. actions_of P old ++ HasPut n bytes ∷ []) next;
  });
}

pub put_more : {C E : Type 0} (P : Process C) (result : Result ℕ E) (old new : SenderSeat C)
    (bytes : List ℕ) → OnOk result (CanPut (P.queue old.core) (length bytes))
    → OnOk result (new.core ≡ P.with_message old.core bytes) → new.seat ≡ old.seat
    → IfOk result (λ number. number ≡ next_of (P.queue old.core))
    → IfOk result (λ number. actions_of P new ≡ actions_of P old ++ HasPut number bytes ∷ [])
    → IfOk result (λ number. number ≡ first_number_of P old + length (puts (actions_of P old)))
    → ((old new : SenderSeat C) (bytes : List ℕ) → new.core ≡ P.with_message old.core bytes
    → new.seat ≡ old.seat → IsSameSender P old new)
    → IfOk result (λ number. PutsNow P old new number (bytes ∷ []))
put_more P (Ok number) old new bytes can core seat next action counts same =
    puts_one P old new number bytes can core seat next action counts (same old new bytes core seat)
put_more P (Err e) old new bytes can core seat next action counts same = tt

takes_trans : {C : Type 0} (P : Process C) (a b c : SenderSeat C) (messages more : List (List ℕ))
    → TakesAll P a messages b → TakesAll P b more c → TakesAll P a (messages ++ more) c
takes_trans P a b _ messages _ before TakesNone =
    subst (λ z. TakesAll P a z b) (sym (append-nil messages)) before
takes_trans P a b _ messages _ before (TakesMore more old bytes new later takes) =
    subst (λ z. TakesAll P a z new) (append_assoc messages more (bytes ∷ []))
    (TakesMore (messages ++ more) old bytes new (takes_trans P a b old messages more before later)
    takes)

-- one put behind others
pub now_on : {C : Type 0} (P : Process C) (first old new : SenderSeat C) (n number : ℕ)
    (messages : List (List ℕ)) (bytes : List ℕ) → PutsNow P first old n messages
    → PutsNow P old new number (bytes ∷ [])
    → PutsNow P first new number (messages ++ bytes ∷ [])
now_on P first old new n number messages bytes before more =
    grind (arith, common_steps, length-append, length, append_assoc, takes_trans)

pub now_all : {C : Type 0} (P : Process C) (T : Tellings C) (old new : SenderSeat C) (number : ℕ)
    (messages : List (List ℕ)) → PutsNow P old new number messages
    → PutsAll P T old new number messages
now_all P T old new number messages now = record {
  puts_are = now.puts_are;
  first_is = now.first_is;
  number_is = now.number_is;
  me_is = now.me_is;
  at = old;
  after = new;
  before = Rests;
  takes = now.takes;
  behind = Rests;
}

-- what it did in all
takes_works : {C : Type 0} (P : Process C) (T : Tellings C) (first new : SenderSeat C)
    (messages : List (List ℕ)) → TakesAll P first messages new → WorksOn P T false first new
takes_works P T first _ _ TakesNone = Rests
takes_works P T first _ _ (TakesMore messages old bytes new before takes) =
    Puts old bytes new (takes_works P T first old messages before) takes

pub works_of : {C : Type 0} (P : Process C) (T : Tellings C) (old new : SenderSeat C) (number : ℕ)
    (messages : List (List ℕ)) → PutsAll P T old new number messages → WorksOn P T false old new
works_of P T old new number messages put =
    works_trans P T false old put.after new
    (works_trans P T false old put.at put.after put.before
    (takes_works P T put.at put.after messages put.takes))
    put.behind

-- behind what was done before, and before what is done behind it
pub stays_more : {C : Type 0} (P : Process C) (T : Tellings C) (first old new : SenderSeat C)
    (number : ℕ) (messages : List (List ℕ)) → PutsStay P T first old
    → PutsAll P T old new number messages → PutsAll P T first new number messages
stays_more P T first old new number messages stays more = record {
  puts_are = more.puts_are ∙ ap (λ z. z ++ messages) stays.puts_are;
  first_is = more.first_is ∙ stays.first_is;
  number_is = grind (arith, common_steps, length);
  me_is = more.me_is ∙ stays.me_is;
  at = more.at;
  after = more.after;
  before = works_trans P T false first old more.at stays.works more.before;
  takes = more.takes;
  behind = more.behind;
}

pub more_stays : {C : Type 0} (P : Process C) (T : Tellings C) (first old new : SenderSeat C)
    (number : ℕ) (messages : List (List ℕ)) → PutsAll P T first old number messages
    → PutsStay P T old new → PutsAll P T first new number messages
more_stays P T first old new number messages more stays = record {
  puts_are = stays.puts_are ∙ more.puts_are;
  first_is = stays.first_is ∙ more.first_is;
  number_is = more.number_is;
  me_is = stays.me_is ∙ more.me_is;
  at = more.at;
  after = more.after;
  before = more.before;
  takes = more.takes;
  behind = works_trans P T false more.after old new more.behind stays.works;
}

-- what a refused put or mark leaves
same_seat : {C : Type 0} (old new : SenderSeat C) → new.core ≡ old.core → new.seat ≡ old.seat
    → new ≡ old
same_seat {C} old new core seat = grind (arith, common_steps)

pub put_stays : {C V E : Type 0} (P : Process C) (T : Tellings C) (result : Result V E)
    (old new : SenderSeat C) → OnErr result (new.core ≡ old.core) → new.seat ≡ old.seat
    → OnErr result (PutsStay P T old new)
put_stays P T (Ok x) old new core seat = tt
put_stays {C} P T (Err e) old new core seat =
    subst (λ (z : SenderSeat C). PutsStay P T old z) (sym (same_seat old new core seat))
    (stay P T old)

-- ---- who leaves
pub leaving : {C : Type 0} (P : Process C) (T : Tellings C) (a b : SenderSeat C)
    → PutsStay P T a b → PutsStayLeaving P T a b
leaving P T a b h = grind (arith, common_steps, works_also)

pub leaving_trans : {C : Type 0} (P : Process C) (T : Tellings C) (a b c : SenderSeat C)
    → PutsStayLeaving P T a b → PutsStayLeaving P T b c → PutsStayLeaving P T a c
leaving_trans P T a b c h k = grind (arith, common_steps, works_trans)

pub leaving_on : {C : Type 0} (P : Process C) (T : Tellings C) (a b c : SenderSeat C)
    → PutsStayLeaving P T a b → PutsStay P T b c → PutsStayLeaving P T a c
leaving_on P T a b c h k = leaving_trans P T a b c h (leaving P T b c k)

-- a leave by its contract
pub leave_taken : {C : Type 0} (P : Process C) (T : Tellings C)
    (result : Result (Unit {0}) CloseFault) (old new : SenderSeat C)
    → OnOk result (new.core ≡ P.with_mark old.core mark.Leave)
    → OnOk result (actions_of P new ≡ actions_of P old ++ HasMarked mark.Leave ∷ [])
    → OnOk result (CanClose (P.queue old.core)) → new.seat ≡ old.seat
    → ((old new : SenderSeat C) (mark : Mark) → new.core ≡ P.with_mark old.core mark
    → new.seat ≡ old.seat → IsSameSender P old new)
    → OnOk result (PutsStayLeaving P T old new)
leave_taken P T (Ok x) old new core action could seat same =
    let one = same old new mark.Leave core seat in
    record {
      puts_are = grind (arith, common_steps, flat_map-append, append-nil);
      first_is = one.first;
      me_is = one.me;
      works = Leaves old new refl Rests
          (record { could = could; action = action; core = core; seat = seat });
    }
leave_taken P T (Err e) old new core action could seat same = tt

pub leave_refused : {C : Type 0} (result : Result (Unit {0}) CloseFault) (old new : SenderSeat C)
    → OnErr result (new.core ≡ old.core) → new.seat ≡ old.seat → OnErr result (new ≡ old)
leave_refused (Ok x) old new core seat = tt
leave_refused (Err e) old new core seat = same_seat old new core seat

-- a put that was refused, with what follows it
pub refused_settled : {C V E : Type 0} (P : Process C) (T : Tellings C)
    (first old new : SenderSeat C) (result : Result V E) → PutsStay P T old new
    → OnErr result (PutsStay P T first old) → OnErr result (PutsStay P T first new)
refused_settled P T first old new (Ok x) behind stays = tt
refused_settled P T first old new (Err e) behind stays = stay_on P T first old new stays behind

-- operations that were put or not, with what follows it
once_stays : {C : Type 0} (P : Process C) (T : Tellings C) (first old new : SenderSeat C)
    (messages : List (List ℕ)) → PutsAllOrNone P T first old messages → PutsStay P T old new
    → PutsAllOrNone P T first new messages
once_stays P T first old new messages (inl stays) behind =
    inl (stay_on P T first old new stays behind)
once_stays P T first old new messages (inr more) behind =
    inr (more.0, more_stays P T first old new more.0 messages more.1 behind)

pub once_settled : {C V E : Type 0} (P : Process C) (T : Tellings C) (first old new : SenderSeat C)
    (messages : List (List ℕ)) (result : Result V E) → PutsStay P T old new
    → OnErr result (PutsAllOrNone P T first old messages)
    → OnErr result (PutsAllOrNone P T first new messages)
once_settled P T first old new messages (Ok x) behind once = tt
once_settled P T first old new messages (Err e) behind once =
    once_stays P T first old new messages once behind

-- puts, with what follows them
pub put_settled : {C E : Type 0} (P : Process C) (T : Tellings C) (first old new : SenderSeat C)
    (messages : List (List ℕ)) (result : Result ℕ E) → PutsStay P T old new
    → IfOk result (λ number. PutsAll P T first old number messages)
    → IfOk result (λ number. PutsAll P T first new number messages)
put_settled P T first old new messages (Ok number) stays more =
    more_stays P T first old new number messages more stays
put_settled P T first old new messages (Err e) stays more = tt

-- an execution, with what follows it
pub executed_settled : {C S A E : Type 0} (IsFirst : S → Type 0) (Applies : Operations S A)
    (P : Process C) (T : Tellings C) (a c d : Replicated C S) (messages : List (List ℕ))
    (worker : ℕ) (result : Result A E) → PutsStay P T c.sender d.sender → d.bus ≡ c.bus
    → d.me ≡ c.me → d.state ≡ c.state
    → IfOk result (λ answer. (x : ℕ) × PutsAll P T a.sender c.sender x messages
    × StandsLast (LeadTo IsFirst Applies c.bus.replayed) Applies c.me.0 c.state worker x answer)
    → IfOk result (λ answer. (x : ℕ) × PutsAll P T a.sender d.sender x messages
    × StandsLast (LeadTo IsFirst Applies d.bus.replayed) Applies d.me.0 d.state worker x answer)
executed_settled {C} IsFirst Applies P T a c d messages worker (Ok answer) stays bus me state h =
    let So : Sitting → Sat C → _ → Type 0 =
    λ b m z. StandsLast (LeadTo IsFirst Applies b.replayed) Applies m.0 z worker h.0 answer in (
      h.0,
      more_stays P T a.sender c.sender d.sender h.0 messages h.1 stays,
      subst (λ (b : Sitting). So b d.me d.state) (sym bus)
          (subst (λ (m : Sat C). So c.bus m d.state) (sym me)
          (subst (λ z. So c.bus c.me z) (sym state) h.2)),
    )
executed_settled IsFirst Applies P T a c d messages worker (Err e) stays bus me state h = tt
