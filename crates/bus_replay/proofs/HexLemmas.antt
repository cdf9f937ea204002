-- Bytes in hexadecimal digits, read one by one.
use Rattle.std.proofs.Common.{◌≡◌, ℕ, ◌-◌, ◌≤◌, List, [], ◌∷◌, ◌++◌, length, take, drop, get_or}
use Rattle.std.proofs.Common.{Option, Some, sym, ap, ◌∙◌, arith}
use Rattle.bus_script.specs.Grammar.{and_before}
use Rattle.bus_replay.specs.Lines.{digit_of, byte_from, pairs_of}
use Rattle.std.proofs.lemmas.List.{take_all}
use Rattle.bus_script.proofs.EachLaws.{behind, behind_one_more}

-- one more pair of digits was read
pub pair_read : (bytes rest more : List ℕ) (b : ℕ) (all : Option (List ℕ)) → 2 ≤ length rest
    → more ≡ take (length rest - 2) (drop 2 rest)
    → byte_from (digit_of (get_or rest 0 0)) (digit_of (get_or rest 1 0)) ≡ Some b
    → behind bytes (pairs_of rest) ≡ all → behind (bytes ++ b ∷ []) (pairs_of more) ≡ all
pair_read bytes [] more b all long is byte so_far = absurd (omega arith)
pair_read bytes (high ∷ []) more b all long is byte so_far = absurd (omega arith)
pair_read bytes (high ∷ low ∷ rest) more b all long is byte so_far =
    ap (λ l. behind (bytes ++ b ∷ []) (pairs_of l))
    (is ∙ take_all (length (high ∷ low ∷ rest) - 2) rest (omega arith))
    ∙ behind_one_more bytes b (pairs_of rest)
    ∙ ap (λ o. behind bytes (and_before o (pairs_of rest))) (sym byte) ∙ so_far
