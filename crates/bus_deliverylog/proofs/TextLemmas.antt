-- Bytes written in hexadecimal digits one by one.
use Rattle.std.proofs.Common.{◌≡◌, ℕ, ◌+◌, ◌<◌, ◌^◌, ◌-◌, false, List, [], ◌++◌, length, drop}
use Rattle.std.proofs.Common.{get_or, sym, ap, ◌∙◌, append_assoc}
use Rattle.std.specs.Prelude.{flat_map}
use Rattle.std.specs.Fmt.{padded_integral, format_spec, digits}
use Rattle.std.proofs.lemmas.Fmt.{hex_byte}
use Rattle.std.proofs.lemmas.List.{drop_more}
use Rattle.bus_deliverylog.specs.Text.{hex_pair}

-- one more byte was written
pub pair_written : (done bytes : List ℕ) (i : ℕ) (all : List ℕ) → i < length bytes
    → get_or bytes i 0 < 256 → done ++ flat_map hex_pair (drop i bytes) ≡ all
    → (done
    ++ padded_integral (format_spec 32 0 4 2 (2 ^ 64 - 1)) false []
    (digits 16 false (get_or bytes i 0))) ++ flat_map hex_pair (drop (i + 1) bytes) ≡ all
pair_written done bytes i all lt small so_far =
    ap (λ (l : List ℕ). (done ++ l) ++ flat_map hex_pair (drop (i + 1) bytes))
    (hex_byte false (get_or bytes i 0) small)
    ∙ append_assoc done (hex_pair (get_or bytes i 0)) (flat_map hex_pair (drop (i + 1) bytes))
    ∙ ap (λ l. done ++ flat_map hex_pair l) (sym (drop_more bytes i 0 lt)) ∙ so_far
