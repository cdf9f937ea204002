-- A batch makes a lawful frame.
use Rattle.std.proofs.Common.{◌≡◌, ℕ, suc, ◌+◌, ◌^◌, ◌<◌, ◌≤◌, List, [], ◌∷◌, ◌++◌, length, arith}
use Rattle.std.proofs.Common.{refl, sym, subst, ap, ◌∙◌, inl, inr}
use Rattle.std.specs.Prelude.{All, ◌⊎◌}
use Rattle.std.proofs.lemmas.List.{length-append}
use Rattle.std.proofs.lemmas.List.Elements.{All-nil, All-cons, All-head, All-tail, All-append}
use Rattle.bus_register.specs.declared.limits.TheConstants.{NUMBERS}
use Rattle.bus_batch.specs.declared.messages.Mark.{Mark}
use Rattle.bus_batch.specs.declared.batches.Phase.{Phase}
use Rattle.bus_batch.specs.declared.batches.Phase.TheVariants as phase
use Rattle.bus_batch.specs.Messages.{IsMessage, IsNumbered, numbered_messages}
use Rattle.bus_batch.specs.Frames.{IsFrameOf, IsBodyOf}
use Rattle.bus_batch.specs.Batches.{Pending, HasSomething, IsKept, body_of, frame_of, next_of}

pub length-numbered : (first : ℕ) (ms : List (List ℕ))
    → length (numbered_messages first ms) ≡ length ms
length-numbered first [] = refl
length-numbered first (m ∷ ms) = ap suc (length-numbered (first + 1) ms)

pub numbered_each : (first : ℕ) (ms : List (List ℕ)) → first + length ms ≤ 2 ^ 48 → All IsMessage ms
    → All IsNumbered (numbered_messages first ms)
numbered_each first [] fits each = All-nil IsNumbered
numbered_each first (m ∷ ms) fits each =
    All-cons IsNumbered (record { number = first; message = m }) (numbered_messages (first + 1) ms)
    (omega arith, All-head IsMessage m ms each)
    (numbered_each (first + 1) ms (omega arith) (All-tail IsMessage m ms each))

is_body : (most : ℕ) (p : Phase) (first : ℕ) (ms : List (List ℕ))
    → (0 < length ms) ⊎ ((mark : Mark) × (p ≡ phase.Marking mark)) → length ms ≤ most
    → first + length ms ≤ 2 ^ 48 → All IsMessage ms → IsBodyOf most (body_of p first ms)
is_body most phase.Open first ms (inl some) few fits each =
    let b = length-numbered first ms in (omega arith, omega arith, numbered_each first ms fits each)
is_body most phase.Open first ms (inr e) few fits each = absurd (let x = e.1 in cc)
is_body most (phase.Marking mark) first ms h few fits each = tt
is_body most phase.Closed first ms (inl some) few fits each =
    let b = length-numbered first ms in (omega arith, omega arith, numbered_each first ms fits each)
is_body most phase.Closed first ms (inr e) few fits each = absurd (let x = e.1 in cc)

pub is_frame : (most : ℕ) (b : Pending) (senders tenure : ℕ) → b.limit ≤ most → HasSomething b
    → IsKept b → b.sender.0 < senders → tenure < 2 ^ 40 → IsFrameOf most senders (frame_of b tenure)
is_frame most b senders tenure within some kept owner below = record {
  tenure = below;
  owner = owner;
  owner_bits = kept.owner_bits;
  body = is_body most b.phase b.first b.messages some (let e = kept.few in omega arith)
      kept.numbers kept.each;
}

-- a batch that takes a message keeps what it always keeps
pub kept_put : (b : Pending) (m : List ℕ) (after : List (List ℕ)) → IsKept b → b.phase ≡ phase.Open
    → length b.messages < b.limit → next_of b < NUMBERS → IsMessage m
    → after ≡ b.messages ++ m ∷ [] → IsKept (record b { messages = after })
kept_put b m after kept is_open room numbers message is =
    let long = ap (λ z. length z) is ∙ length-append b.messages (m ∷ []) in
    record {
      limit_some = kept.limit_some;
      limit_few = kept.limit_few;
      few = omega arith;
      each = subst (λ z. All IsMessage z) (sym is)
          (All-append IsMessage b.messages (m ∷ []) kept.each
          (All-cons IsMessage m [] message (All-nil IsMessage)));
      numbers = omega arith;
      alone = λ mark marking. absurd (cc);
      owner_bits = kept.owner_bits;
    }
