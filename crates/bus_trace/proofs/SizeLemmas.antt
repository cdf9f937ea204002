-- How many words a bus has such as the first line of a script asks for.
use Rattle.std.proofs.Common.{◌≡◌, ℕ, ◌+◌, ◌*◌, ◌-◌, ◌^◌, ◌≤◌, None, Some, subst, arith}
use Rattle.std.proofs.Math.Nat.{mul-le-mul}
use Rattle.bus_register.specs.declared.limits.TheConstants.{MOST_SENDERS, MOST_RECEIVERS}
use Rattle.bus_core.proofs.Reusing.Widths.{few_words}
use Rattle.bus_machine.specs.Playing.{IsServed}
use Rattle.bus_ownerbits.specs.Sizes.{bits_of}
use Rattle.bus_replay.specs.declared.lines.FirstLine.{FirstLine}
use Rattle.bus_replay.specs.declared.lines.FirstLine.TheVariants.{Shape as Shaped, Cycle as Cycled}
use Rattle.bus_replay.specs.declared.lines.FirstLine.TheVariants.{Ring as Ringed}
use Rattle.bus_replay.specs.Answers.{AreSeats}
use Rattle.bus_replay.specs.Lines.{shape_in, reuse_in}
use Rattle.bus_world.specs.declared.shapes.Shape.{Shape}

pub record AreFew (shape : Shape) (presences passers : ℕ) : Type 0 where
  pub some_senders : 1 ≤ shape.senders
  pub senders : shape.senders ≤ MOST_SENDERS
  pub rounds : shape.rounds ≤ 8
  pub rows : shape.rows ≤ 256
  pub presences_few : presences ≤ MOST_SENDERS
  pub passers_few : passers ≤ MOST_RECEIVERS

pub few_apart : (first : FirstLine) (shape : Shape) → first ≡ Shaped shape
    → IsServed (shape_in first) (reuse_in first) → AreFew shape 0 0
few_apart first shape is served =
    let s : IsServed shape None = subst (λ f. IsServed (shape_in f) (reuse_in f)) is served in
    record {
      some_senders = s.senders.0;
      senders = s.senders.1;
      rounds = s.rounds.1;
      rows = s.rows.1;
      presences_few = omega arith;
      passers_few = omega arith;
    }

pub few_again : (first : FirstLine) (shape : Shape) → first ≡ Cycled shape
    → IsServed (shape_in first) (reuse_in first)
    → AreFew shape shape.senders 0
few_again first shape is served =
    let s : IsServed shape (Some shape.rows) =
    subst (λ f. IsServed (shape_in f) (reuse_in f)) is served in
    record {
      some_senders = s.senders.0;
      senders = s.senders.1;
      rounds = s.rounds.1;
      rows = (let few = s.rows.1 in omega arith);
      presences_few = s.senders.1;
      passers_few = omega arith;
    }

pub few_in_ring : (first : FirstLine) (shape : Shape) (seats : ℕ) → first ≡ Ringed shape seats
    → IsServed (shape_in first) (reuse_in first) → AreSeats first
    → AreFew shape shape.senders seats
few_in_ring first shape seats is served enough =
    let s : IsServed shape (Some shape.rows) =
    subst (λ f. IsServed (shape_in f) (reuse_in f)) is served in
    let few : AreSeats (Ringed shape seats) = subst AreSeats is enough in
    record {
      some_senders = s.senders.0;
      senders = s.senders.1;
      rounds = s.rounds.1;
      rows = (let few = s.rows.1 in omega arith);
      presences_few = s.senders.1;
      passers_few = few.1;
    }

pub rows_fit : (shape : Shape) (presences passers w width : ℕ) → AreFew shape presences passers
    → w ≤ 1024
    → width ≡ shape.senders + bits_of shape.senders *
    (shape.rounds * w + (shape.rounds - 1) * 3 + 1) → shape.rows * width ≤ 256 * 65536
rows_fit shape presences passers w width few narrow is =
    let row : width ≤ 65536 =
    (let all = few_words shape.senders shape.rounds w few.senders few.rounds narrow in
    omega arith) in
    mul-le-mul few.rows row

-- a binary decision has few words
pub decision_fits : (rounds w width : ℕ) → rounds ≤ 8 → w ≤ 1024
    → width ≡ rounds * w + (rounds - 1) * 3 + 1 → width ≤ 2 ^ 32
decision_fits rounds w width few narrow is =
    let product : rounds * w ≤ 8 * 1024 = mul-le-mul few narrow in
    omega arith
