-- What the step of a receiver does to the words: a load nothing, and without a passed place it
-- takes no other. A store that is due comes between frames.
use Rattle.std.proofs.Common.{◌≡◌, ℕ, ◌+◌, ◌%◌, true, nat_lt, Some, None, List, ◌≢◌, ap, arith}
use Rattle.std.proofs.lemmas.Bool.Decides.{eqb_tells}
use Rattle.std.proofs.lemmas.List.{set-get_or}
use Rattle.std.proofs.lemmas.Grind.{common_steps}
use Rattle.bus_batch.specs.Reading.{is_between}
use Rattle.bus_deliverylog.specs.Receiving.{Receiving, passing_due, load_op, receiving_op}
use Rattle.bus_deliverylog.specs.Receiving.{leaving_by, leaving_op}
use Rattle.bus_deliverylog.proofs.ReceiveLaws.{no_due}
use Rattle.bus_world.specs.Turning.{words_after}
use Rattle.bus_world.specs.World.{recv_found}
use Rattle.bus_world.specs.Private.CyclicProtocols.{words_stepped}
use Rattle.bus_world.proofs.CyclicProtocolWords.{put_is}

-- ---- of words in a list
load_leaves : (words : List ℕ) (v : Receiving) → words_after words (Some (load_op v)) ≡ words
load_leaves words v = grind (arith, common_steps, set-get_or)

-- a receiver without a passed place leaves all words as they are, with a turn ..
pub reads_only : (words : List ℕ) (v : Receiving) → v.passed_at ≡ None
    → words_after words (receiving_op v) ≡ words
reads_only words v never = grind (arith, common_steps, no_due, load_leaves)

-- .. and with its leave
pub leaves_only : (words : List ℕ) (v : Receiving) → v.passed_at ≡ None
    → words_after words (leaving_op v) ≡ words
leaves_only words v never = ap (λ o. words_after words (leaving_by o)) never

-- ---- of a table of words
-- what a load finds at the length that is known, and before it
pub found_length : (words : ℕ → ℕ) (v : Receiving) → v.place ≡ v.known
    → recv_found words v ≡ words v.length_at
found_length words v here = grind (arith, common_steps, eqb_tells)

pub found_word : (words : ℕ → ℕ) (v : Receiving) → v.place ≢ v.known
    → recv_found words v ≡ words (v.log_at + v.place % v.log_words)
found_word words v apart = grind (arith, common_steps, eqb_tells)

pub load_stays : (words : ℕ → ℕ) (v : Receiving)
    → words_stepped (λ q. q) words (Some (load_op v)) ≡ words
load_stays words v = grind (arith, common_steps, put_is)

-- ---- a store that is due
pub due_between : (v : Receiving) (at : ℕ) → passing_due v ≡ Some at
    → is_between v.frames.place ≡ true
due_between v at due = grind (arith, common_steps, nat_lt)
