-- What a new bus has: sizes that are served, and trails that its history has, also behind the
-- leaves of the receivers whose seats are free at first.
use Rattle.std.proofs.Common.{◌≡◌, ℕ, zero, suc, ◌+◌, ◌-◌, ◌<◌, ◌≤◌, Bool, false, Option, Some}
use Rattle.std.proofs.Common.{None, List, [], length, map, slice_get, nat_lt, arith, refl, sym, ap}
use Rattle.std.proofs.Common.{subst, ◌∙◌}
use Rattle.std.specs.List.{range_with_len}
use Rattle.std.proofs.lemmas.List.{length-replicate}
use Rattle.std.proofs.lemmas.List.FromFn.{length-map-range_with_len, get_or-map-range_with_len}
use Rattle.std.proofs.lemmas.Option.{slice_get-get_or}
use Rattle.bus_register.specs.Protocol.{Protocol}
use Rattle.bus_register.specs.declared.limits.TheConstants.{MOST_RECEIVERS, TENURES}
use Rattle.bus_register.specs.declared.limits.TheConstants.{MOST_MESSAGES}
use Rattle.bus_adoptcommit.specs.declared.verdicts.Verdict.{Verdict}
use Rattle.bus_tenure.specs.Core.{Election, Layout}
use Rattle.bus_tenure.specs.Elections.{Elector}
use Rattle.bus_world.specs.Playing.{Within}
use Rattle.bus_world.specs.World.{Gone, no_bases}
use Rattle.bus_world.specs.declared.events.Answer.TheVariants as answer
use Rattle.bus_world.specs.declared.shapes.Shape.{Shape}
use Rattle.bus_machine.proofs.Bases.AtNone.{event_reuse}
use Rattle.bus_machine.specs.Machine.{Machine, Reached, Then, log_place, no_machine_trails}
use Rattle.bus_machine.specs.Playing.{IsBatch, IsMadeWith, ShapeOf}
use Rattle.bus_machine.specs.Promise.{HasRows}
use Rattle.bus_replay.specs.Answers.{Empties, IsOpened, seats_at_first}
use Rattle.bus_replay.specs.Histories.{Kept, HasSizes, IsHistoryOf, no_given}
use Rattle.bus_replay.specs.Lines.{shape_in, made_in, seats_in, reuse_in, passers_in}
use Rattle.bus_replay.specs.declared.histories.Given.{Given}
use Rattle.bus_replay.specs.declared.lines.FirstLine.{FirstLine}
use Rattle.bus_replay.specs.declared.lines.FirstLine.TheVariants.{Shape as Shaped, Cycle as Cycled}
use Rattle.bus_replay.specs.declared.lines.FirstLine.TheVariants.{Ring as Ringed}
use Rattle.bus_replay.proofs.HistoryLemmas.{same_receivers, sizes_stay}

-- what stands for a seat, of which the first so many have a receiver
abbrev seat_at_first : ℕ → ℕ → Given
seat_at_first receivers seat = record { taken = nat_lt seat receivers; items = 0; ended = false }

seat_is : (seats receivers r : ℕ) → r < seats
    → slice_get (map (seat_at_first receivers) (range_with_len 0 seats)) r
    ≡ Some (seat_at_first receivers r)
seat_is seats receivers r low =
    let f : ℕ → Given = seat_at_first receivers in
    let many = length-map-range_with_len f 0 seats in
    slice_get-get_or (map f (range_with_len 0 seats)) r no_given (omega arith)
    ∙ ap Some (get_or-map-range_with_len f 0 seats r r no_given low (omega arith))

-- a batch has a message, and no more than a frame may have
some_batch : (passers batch : ℕ) → IsBatch passers batch → Within 1 MOST_MESSAGES batch
some_batch zero batch is = (omega (arith, is), omega (arith, is))
some_batch (suc passers) batch is = is

module _ {S : Type 0} (X : Election (Elector S)) (P : Protocol S Bool Verdict) where
  made_sized : (shape : Shape) (reuse : Option ℕ) (passers : ℕ) (bases : List ℕ)
      (m : Machine (Elector S)) → ShapeOf shape reuse → passers ≤ MOST_RECEIVERS
      → IsMadeWith X P shape reuse passers bases m → HasSizes P m
  made_sized shape None passers bases m own few h = record {
    senders = shape.senders;
    rounds = shape.rounds;
    rows = shape.rows;
    capacity = shape.log_words;
    passers = passers;
    batch = shape.batch;
    layout = h.layout;
    served = record {
      senders = h.served.senders.1;
      rows = (let low = h.served.rows.1 in omega arith);
      capacity = h.served.log_words.1;
      passers = few;
      batch = some_batch passers shape.batch h.batch;
    };
    some = subst (λ (x : Layout). 0 < x.capacity) (sym h.layout)
        (let low = h.served.log_words.0 in omega arith);
    reuse = subst HasRows (sym h.rows) tt;
    many = h.senders ∙ sym (ap (λ (x : Layout). x.senders) h.layout);
    words =
        ap length h.new.words ∙ length-replicate (log_place m.layout m.reuse + m.layout.capacity) 0;
  }
  made_sized shape (Some rows) passers bases m own few h = record {
    senders = shape.senders;
    rounds = shape.rounds;
    rows = TENURES;
    capacity = shape.log_words;
    passers = passers;
    batch = shape.batch;
    layout = h.layout;
    served = record {
      senders = h.served.senders.1;
      rows = omega arith;
      capacity = h.served.log_words.1;
      passers = few;
      batch = some_batch passers shape.batch h.batch;
    };
    some = subst (λ (x : Layout). 0 < x.capacity) (sym h.layout)
        (let low = h.served.log_words.0 in omega arith);
    reuse = subst HasRows (sym h.rows) (let low = h.served.rows.0 in omega arith);
    many = h.senders ∙ sym (ap (λ (x : Layout). x.senders) h.layout);
    words =
        ap length h.new.words ∙ length-replicate (log_place m.layout m.reuse + m.layout.capacity) 0;
  }

  -- such as is made of what a first line asks for
  first_sized : (first : FirstLine) (m : Machine (Elector S))
      → IsMadeWith X P (made_in first) (reuse_in first) (passers_in first) no_bases m
      → HasSizes P m
  first_sized (Shaped shape) m h = made_sized shape None 0 no_bases m tt (omega arith) h
  first_sized (Cycled shape) m h =
      made_sized shape (Some shape.rows) 0 no_bases m refl (omega arith) h
  first_sized (Ringed shape seats) m h =
      made_sized (record shape { receivers = seats }) (Some shape.rows) seats no_bases m refl
      h.served.receivers.1 h

  first_capacity : (first : FirstLine) (m : Machine (Elector S))
      → IsMadeWith X P (made_in first) (reuse_in first) (passers_in first) no_bases m
      → m.layout.capacity ≡ (shape_in first).log_words
  first_capacity (Shaped shape) m h = ap (λ (x : Layout). x.capacity) h.layout
  first_capacity (Cycled shape) m h = ap (λ (x : Layout). x.capacity) h.layout
  first_capacity (Ringed shape seats) m h = ap (λ (x : Layout). x.capacity) h.layout

  -- receivers that leave change no size, and are no part of trails
  pub record IsStill (m new : Machine (Elector S)) : Type 0 where
    pub reached : Reached X m no_machine_trails → Reached X new no_machine_trails
    pub sizes : HasSizes P m → HasSizes P new
    pub layout : new.layout ≡ m.layout
    pub many : length new.receivers ≡ length m.receivers

  emptied_still : (m : Machine (Elector S)) (seat many : ℕ) (new : Machine (Elector S))
      → Empties X P m seat many new → IsStill m new
  emptied_still m seat zero new run = subst (IsStill m) (sym run) record {
    reached = λ r. r;
    sizes = λ z. z;
    layout = refl;
    many = refl;
  }
  emptied_still m seat (suc many) new run =
      let d = run.1.happens in
      let later = emptied_still run.0 (seat + 1) many new run.2 in
      record {
        reached = λ r. later.reached (Then m run.0 no_machine_trails (Gone seat) answer.Gone r d);
        sizes = λ z. later.sizes (sizes_stay X P m run.0 (Gone seat) answer.Gone d z);
        layout = later.layout ∙ (event_reuse X m run.0 (Gone seat) answer.Gone d).0;
        many = later.many ∙ same_receivers X m run.0 (Gone seat) answer.Gone d;
      }

  -- a new history has all that has happened to a new bus
  pub opened_holds : (first : FirstLine) (m : Machine (Elector S)) (capacity seats receivers : ℕ)
      (h : Kept) → IsOpened X P first m → capacity ≡ (shape_in first).log_words
      → seats ≡ seats_in first → receivers ≡ (shape_in first).receivers
      → h ≡ record {
        capacity = capacity;
        log = [];
        given = map (λ seat. record { taken = nat_lt seat receivers; items = 0; ended = false })
            (range_with_len 0 seats);
      }
      → IsHistoryOf X P m h no_machine_trails (seats_at_first first)
  opened_holds first m capacity seats receivers h o sized all some is =
      let still = emptied_still o.made (shape_in first).receivers
      (seats_in first - (shape_in first).receivers) m o.emptied in
      let many : length m.receivers ≡ seats = still.many ∙ o.is_made.receivers ∙ sym all in
      record {
        reached = still.reached o.is_made.begins;
        sizes = still.sizes (first_sized first o.made o.is_made);
        capacity =
            ap (λ (y : Kept). y.capacity) is ∙ sized ∙ sym (first_capacity first o.made o.is_made)
            ∙ sym (ap (λ (x : Layout). x.capacity) still.layout);
        remembers = record {
          log = ap (λ (y : Kept). y.log) is;
          many =
              ap (λ (y : Kept). length y.given) is
              ∙ length-map-range_with_len (seat_at_first receivers) 0 seats ∙ sym many;
          given = λ r lt.
              ap (λ (y : Kept). slice_get y.given r) is ∙ seat_is seats receivers r (omega arith)
              ∙ ap (λ (n : ℕ). Some (seat_at_first n r)) some;
        };
      }
