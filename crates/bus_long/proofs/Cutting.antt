-- What one piece comes to, and how the pieces of bytes begin.
use Rattle.std.proofs.Common.{◌≡◌, ℕ, zero, suc, ◌+◌, ◌-◌, ◌/◌, ◌<◌, ◌≤◌, ◌&&◌, true, false}
use Rattle.std.proofs.Common.{cond, List, [], ◌∷◌, ◌++◌, length, get_or, take, drop, Some, None}
use Rattle.std.proofs.Common.{refl, ap, sym, ◌∙◌, inl, inr, nat_eq, nat_lt, nat_le, arith}
use Rattle.std.proofs.Common.{lt-ltb, le-ltb, eq-eqb, ne_eqb, le-leb}
use Rattle.std.proofs.lemmas.Bool.{cases_Bool, cond-true, cond-false, and_from, and_left, and_right}
use Rattle.std.proofs.lemmas.Bool.Decides.{nat_tests}
use Rattle.std.proofs.lemmas.List.{length-drop}
use Rattle.bus_long.specs.declared.pieces.TheConstants.{MOST_PIECES, PIECE_BYTES}
use Rattle.bus_long.specs.Pieces.{Begun, nothing, cut, pieces, is_piece, front, whole_by, begun_by}

-- ---- one piece

pub is_last : (bytes : List ℕ) → length bytes ≤ PIECE_BYTES → is_piece 0 bytes ≡ true
is_last bytes few = le-leb (length bytes) PIECE_BYTES few

not_last : (n : ℕ) → nat_eq (suc n) 0 ≡ false
not_last n = ne_eqb (suc n) 0 (λ e. omega (arith, e))

inner_is : (n : ℕ) (bytes : List ℕ) → suc n < MOST_PIECES
    → is_piece (suc n) bytes ≡ nat_eq (length bytes) PIECE_BYTES
inner_is n bytes below =
    ap (λ t. t && cond (nat_eq (suc n) 0) (nat_le (length bytes) PIECE_BYTES)
    (nat_eq (length bytes) PIECE_BYTES)) (lt-ltb (suc n) MOST_PIECES below)
    ∙ cond-false (nat_eq (suc n) 0) (nat_le (length bytes) PIECE_BYTES)
    (nat_eq (length bytes) PIECE_BYTES) (not_last n)

pub is_inner : (n : ℕ) (bytes : List ℕ) → suc n < MOST_PIECES → length bytes ≡ PIECE_BYTES
    → is_piece (suc n) bytes ≡ true
is_inner n bytes below full = inner_is n bytes below ∙ eq-eqb (length bytes) PIECE_BYTES full

pub whole_last : (b : Begun) (bytes : List ℕ) → is_piece 0 bytes ≡ true
    → whole_by b (0 ∷ bytes) ≡ Some (front b 0 ++ bytes)
whole_last b bytes is =
    cond-true (is_piece 0 bytes) (Some (front b 0 ++ bytes)) (Some (0 ∷ bytes)) is

pub begun_last : (b : Begun) (bytes : List ℕ) → begun_by b (0 ∷ bytes) ≡ nothing
begun_last b bytes =
    cond-false (is_piece 0 bytes && nat_lt 0 0)
    (record { left = 0; bytes = front b 0 ++ bytes }) nothing
    (and_right (is_piece 0 bytes) (nat_lt 0 0) refl)

pub whole_inner : (b : Begun) (n : ℕ) (bytes : List ℕ) → is_piece (suc n) bytes ≡ true
    → whole_by b (suc n ∷ bytes) ≡ None
whole_inner b n bytes is =
    cond-true (is_piece (suc n) bytes)
    (cond (nat_eq (suc n) 0) (Some (front b 0 ++ bytes)) None) (Some (suc n ∷ bytes)) is
    ∙ cond-false (nat_eq (suc n) 0) (Some (front b 0 ++ bytes)) None (not_last n)

pub begun_inner : (b : Begun) (n : ℕ) (bytes : List ℕ) → is_piece (suc n) bytes ≡ true
    → begun_by b (suc n ∷ bytes) ≡ record { left = suc n; bytes = front b (suc n) ++ bytes }
begun_inner b n bytes is =
    cond-true (is_piece (suc n) bytes && nat_lt 0 (suc n))
    (record { left = suc n; bytes = front b (suc n) ++ bytes }) nothing
    (and_from (is_piece (suc n) bytes) (nat_lt 0 (suc n)) is (lt-ltb 0 (suc n) (omega arith)))

-- what is no piece is a message as it is
pub whole_as_is : (b : Begun) (follow : ℕ) (bytes : List ℕ) → is_piece follow bytes ≡ false
    → whole_by b (follow ∷ bytes) ≡ Some (follow ∷ bytes)
whole_as_is b follow bytes is =
    cond-false (is_piece follow bytes)
    (cond (nat_eq follow 0) (Some (front b 0 ++ bytes)) None) (Some (follow ∷ bytes)) is

-- Where nothing is begun behind a message, one is whole with it.
pub whole_since : (b : Begun) (last : List ℕ) → begun_by b last ≡ nothing
    → (bytes : List ℕ) × (whole_by b last ≡ Some bytes)
whole_since b [] done = ([], refl)
whole_since b (zero ∷ bytes) done = elim (cases_Bool (is_piece 0 bytes)) [
  | inl is ↦ (front b 0 ++ bytes, whole_last b bytes is)
  | inr is ↦ (0 ∷ bytes, whole_as_is b 0 bytes is)
]
whole_since b (suc n ∷ bytes) done = elim (cases_Bool (is_piece (suc n) bytes)) [
  | inl is ↦ let e = ap (λ (z : Begun). z.left) (sym (begun_inner b n bytes is) ∙ done) in
      absurd (omega arith)
  | inr is ↦ (suc n ∷ bytes, whole_as_is b (suc n) bytes is)
]

pub front_none : (n : ℕ) → front nothing n ≡ []
front_none n = cond-false (nat_eq 0 (suc n)) [] [] (ne_eqb 0 (suc n) (λ e. omega (arith, e)))

-- where just the piece that was read before is the one before it
pub front_on : (n : ℕ) (bytes : List ℕ)
    → front (record { left = suc n; bytes = bytes }) n ≡ bytes
front_on n bytes = cond-true (nat_eq (suc n) (suc n)) bytes [] (eq-eqb (suc n) (suc n) refl)

-- where no piece is to come, what stands there makes no difference
front_idle : (b : Begun) (n : ℕ) → b.left ≡ 0 → front b n ≡ front nothing n
front_idle b n idle =
    cond-false (nat_eq b.left (suc n)) b.bytes []
    (ne_eqb b.left (suc n) (λ e. omega (arith, e, idle)))
    ∙ sym (front_none n)

pub whole_idle : (b : Begun) (message : List ℕ) → b.left ≡ 0
    → whole_by b message ≡ whole_by nothing message
whole_idle b [] idle = refl
whole_idle b (follow ∷ bytes) idle =
    ap (λ z. cond (is_piece follow bytes) (cond (nat_eq follow 0) (Some (z ++ bytes)) None)
    (Some (follow ∷ bytes))) (front_idle b 0 idle)

pub begun_idle : (b : Begun) (message : List ℕ) → b.left ≡ 0
    → begun_by b message ≡ begun_by nothing message
begun_idle b [] idle = refl
begun_idle b (follow ∷ bytes) idle =
    ap (λ z. cond (is_piece follow bytes && nat_lt 0 follow)
    (record { left = follow; bytes = z ++ bytes }) nothing) (front_idle b follow idle)

-- ---- pieces, one after another

pub pieces_last : (bytes : List ℕ) → length bytes ≤ PIECE_BYTES → pieces bytes ≡ (0 ∷ bytes) ∷ []
pieces_last bytes few =
    let none : (length bytes - 1) / PIECE_BYTES ≡ 0 = omega arith in
    ap (λ n. cut n bytes) none

pub pieces_more : (bytes : List ℕ) → PIECE_BYTES < length bytes
    → pieces bytes ≡ ((length bytes - 1) / PIECE_BYTES ∷ take PIECE_BYTES bytes)
    ∷ pieces (drop PIECE_BYTES bytes)
pieces_more bytes more =
    let rest = length-drop PIECE_BYTES bytes in
    let one : (length bytes - 1) / PIECE_BYTES
    ≡ suc ((length (drop PIECE_BYTES bytes) - 1) / PIECE_BYTES) = omega arith in
    ap (λ n. cut n bytes) one
    ∙ ap (λ n. (n ∷ take PIECE_BYTES bytes) ∷ pieces (drop PIECE_BYTES bytes)) (sym one)

length-cut : (follow : ℕ) (bytes : List ℕ) → length (cut follow bytes) ≡ follow + 1
length-cut zero bytes = refl
length-cut (suc follow) bytes =
    let rest = length-cut follow (drop PIECE_BYTES bytes) in
    omega (arith, rest)

pub length-pieces : (bytes : List ℕ)
    → length (pieces bytes) ≡ (length bytes - 1) / PIECE_BYTES + 1
length-pieces bytes = length-cut ((length bytes - 1) / PIECE_BYTES) bytes

-- ---- what has the form of a piece

pub high_is_none : (message : List ℕ) (follow : ℕ) (bytes : List ℕ) → message ≡ follow ∷ bytes
    → MOST_PIECES ≤ get_or message 0 0 → false ≡ is_piece follow bytes
high_is_none message follow bytes is high =
    let at = ap (λ z. get_or z 0 0) is in
    let below : MOST_PIECES ≤ follow = omega arith in
    sym (and_left (nat_lt follow MOST_PIECES) _ (le-ltb follow MOST_PIECES below))

shorter : (n : ℕ) → nat_le (suc n) 56 ≡ nat_le n 55
shorter n = grind (arith, nat_tests)

as_long : (n : ℕ) → nat_eq (suc n) 56 ≡ nat_eq n 55
as_long n = grind (arith, nat_tests)

pub last_may_be : (message : List ℕ) (follow : ℕ) (bytes : List ℕ) → message ≡ follow ∷ bytes
    → get_or message 0 0 ≡ 0 → nat_le (length message) 56 ≡ is_piece follow bytes
last_may_be message follow bytes is last =
    let none : follow ≡ 0 = sym (ap (λ z. get_or z 0 0) is) ∙ last in
    ap (λ z. nat_le (length z) 56) is ∙ shorter (length bytes)
    ∙ ap (λ z. is_piece z bytes) (sym none)

pub inner_may_be : (message : List ℕ) (follow : ℕ) (bytes : List ℕ) → message ≡ follow ∷ bytes
    → get_or message 0 0 < MOST_PIECES → 0 < get_or message 0 0
    → nat_eq (length message) 56 ≡ is_piece follow bytes
inner_may_be message follow bytes is below some =
    let at = ap (λ z. get_or z 0 0) is in
    let one : suc (follow - 1) ≡ follow = omega arith in
    ap (λ z. nat_eq (length z) 56) is ∙ as_long (length bytes)
    ∙ sym (inner_is (follow - 1) bytes (omega arith)) ∙ ap (λ z. is_piece z bytes) one
