-- The text of what a run left behind, part by part.
use Rattle.std.proofs.Common.{◌≡◌, ℕ, suc, ◌+◌, List, [], ◌++◌, length, ap, ◌∙◌, append_assoc}
use Rattle.std.proofs.Common.{arith}
use Rattle.bus_batch.specs.Frames.{Order}
use Rattle.bus_deliverylog.specs.Orders.{of_sender}
use Rattle.bus_run.specs.RunText.{sender_line, sender_lines}

-- one more sender has its line
pub one_more_sender : (order : Order) (s items : ℕ) (first old new : List ℕ)
    → old ≡ first ++ sender_lines order s → new ≡ old ++ sender_line s items
    → items ≡ length (of_sender s order) → new ≡ first ++ sender_lines order (s + 1)
one_more_sender order s items first old new had line count =
    let next : suc s ≡ s + 1 = omega arith in
    line ∙ ap (λ n. old ++ sender_line s n) count
    ∙ ap (λ (t : List ℕ). t ++ sender_line s (length (of_sender s order))) had
    ∙ append_assoc first (sender_lines order s) (sender_line s (length (of_sender s order)))
    ∙ ap (λ n. first ++ sender_lines order n) next

-- three parts behind one another
pub three_parts : (none one two all a b c : List ℕ) → none ≡ [] → one ≡ none ++ a → two ≡ one ++ b
    → all ≡ two ++ c → all ≡ a ++ b ++ c
three_parts none one two all a b c empty first second third =
    third
    ∙ ap (λ (t : List ℕ). t ++ c)
    (second ∙ ap (λ (t : List ℕ). t ++ b) (first ∙ ap (λ (t : List ℕ). t ++ a) empty))
