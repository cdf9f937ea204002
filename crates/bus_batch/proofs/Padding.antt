-- The last word of a message's bytes, whose other bytes are zero.
use Rattle.std.proofs.Common.{◌≡◌, ℕ, zero, suc, ◌+◌, ◌-◌, ◌*◌, ◌/◌, ◌%◌, ◌^◌, ◌<◌, ◌≤◌, List, []}
use Rattle.std.proofs.Common.{◌∷◌, ◌++◌, length, take, drop, replicate, arith, refl, sym, ap}
use Rattle.std.proofs.Common.{◌∙◌, subst}
use Rattle.std.specs.Prelude.{All, ◌↔◌}
use Rattle.std.specs.Int.{w64, to_be_bytes, bytes_high_first, byte_at}
use Rattle.std.proofs.Math.Seq.{take-append-add, drop-append-add, drop-length}
use Rattle.std.proofs.Math.Arith.{mod-mul}
use Rattle.std.proofs.lemmas.List.{length-take, length-drop, length-append, take-append-le}
use Rattle.std.proofs.lemmas.List.{drop-append-le}
use Rattle.std.proofs.lemmas.Slice.{drop-append-drop}
use Rattle.std.proofs.lemmas.List.Elements.{All-nil, All-cons, All-head, All-tail, All-append}
use Rattle.std.proofs.lemmas.List.Elements.{All-drop, All-replicate}

-- ---- zero bytes are what is left of a word by its high bytes
power_some : (n : ℕ) → 0 < 256 ^ n
power_some zero = omega arith
power_some (suc n) = let e = power_some n in omega arith

high_byte : (n w : ℕ) → byte_at n w ≡ w / 256 ^ n % 256
high_byte zero w = omega arith
high_byte (suc n) w = refl

parts : (n w : ℕ) → w % 256 ^ suc n ≡ byte_at n w * 256 ^ n + w % 256 ^ n
parts n w =
    ap (λ z. w % z) (let e : 256 ^ suc n ≡ 256 * 256 ^ n = omega arith in e)
    ∙ mod-mul w {m = 256} {c = 256 ^ n} (omega arith) (power_some n)
    ∙ ap (λ z. z * 256 ^ n + w % 256 ^ n) (sym (high_byte n w))

no_part : (a c b : ℕ) → 0 < c → a * c + b ≡ 0 → (a ≡ 0) × (b ≡ 0)
no_part zero c b some e = (refl, omega arith)
no_part (suc a) c b some e = absurd (omega arith)

pub zeros_left : (n w : ℕ) → All (λ b. b ≡ 0) (bytes_high_first n w) → w % 256 ^ n ≡ 0
zeros_left zero w none = omega arith
zeros_left (suc n) w none =
    parts n w
    ∙ ap (λ z. z * 256 ^ n + w % 256 ^ n)
    (All-head (λ b. b ≡ 0) (byte_at n w) (bytes_high_first n w) none)
    ∙ (let e : 0 * 256 ^ n + w % 256 ^ n ≡ w % 256 ^ n = omega arith in e)
    ∙ zeros_left n w (All-tail (λ b. b ≡ 0) (byte_at n w) (bytes_high_first n w) none)

pub left_zeros : (n w : ℕ) → w % 256 ^ n ≡ 0 → All (λ b. b ≡ 0) (bytes_high_first n w)
left_zeros zero w e = All-nil (λ b. b ≡ 0)
left_zeros (suc n) w e =
    let p = no_part (byte_at n w) (256 ^ n) (w % 256 ^ n) (power_some n) (sym (parts n w) ∙ e) in
    All-cons (λ b. b ≡ 0) (byte_at n w) (bytes_high_first n w) p.0 (left_zeros n w p.1)

at_place : (k w : ℕ) → 1 ≤ k → k ≤ 8
    → (1 * 2 ^ (64 - 8 * k) % 2 ^ 64 ≡ 256 ^ (8 - k))
    × (drop k (to_be_bytes w64 w) ≡ bytes_high_first (8 - k) w)
at_place zero w some few = absurd (omega arith)
at_place (suc zero) w some few = (refl, refl)
at_place (suc (suc zero)) w some few = (refl, refl)
at_place (suc (suc (suc zero))) w some few = (refl, refl)
at_place (suc (suc (suc (suc zero)))) w some few = (refl, refl)
at_place (suc (suc (suc (suc (suc zero))))) w some few = (refl, refl)
at_place (suc (suc (suc (suc (suc (suc zero)))))) w some few = (refl, refl)
at_place (suc (suc (suc (suc (suc (suc (suc zero))))))) w some few = (refl, refl)
at_place (suc (suc (suc (suc (suc (suc (suc (suc zero)))))))) w some few = (refl, refl)
at_place (suc (suc (suc (suc (suc (suc (suc (suc (suc k))))))))) w some few = absurd (omega arith)

pub padded : (k w : ℕ) → 1 ≤ k → k ≤ 8
    → (w % (1 * 2 ^ (64 - 8 * k) % 2 ^ 64) ≡ 0 ↔ All (λ b. b ≡ 0) (drop k (to_be_bytes w64 w)))
padded k w some few =
    let p = at_place k w some few in (
      λ e. subst (λ z. All (λ b. b ≡ 0) z) (sym p.1)
          (left_zeros (8 - k) w (ap (λ z. w % z) (sym p.0) ∙ e)),
      λ none. ap (λ z. w % z) p.0
          ∙ zeros_left (8 - k) w (subst (λ z. All (λ b. b ≡ 0) z) p.1 none),
    )

-- ---- a word at the end of bytes that have zeros behind them
pub all_zeros : (xs : List ℕ) → All (λ b. b ≡ 0) xs → xs ≡ replicate (length xs) 0
all_zeros [] none = refl
all_zeros (x ∷ xs) none =
    let first = All-head (λ b. b ≡ 0) x xs none in
    let others = all_zeros xs (All-tail (λ b. b ≡ 0) x xs none) in
    λ i. first i ∷ others i

-- bytes at the front of zeros
pub spared : (n : ℕ) (ys zs : List ℕ) → length ys ≡ n → n ≤ 56 → zs ≡ replicate 56 0
    → (length (ys ++ drop n zs) ≡ 56) × (drop n (ys ++ drop n zs) ≡ replicate (56 - n) 0)
spared n ys zs size few is =
    let all : length zs ≡ 56 = ap (λ (z : List ℕ). length z) is in
    let behind : length (drop n zs) ≡ 56 - n = length-drop n zs ∙ ap (λ k. k - n) all in
    let both : length (ys ++ drop n zs) ≡ length ys + length (drop n zs) =
    length-append ys (drop n zs) in
    let none : All (λ b. b ≡ 0) zs =
    subst (λ z. All (λ b. b ≡ 0) z) (sym is) (All-replicate (λ b. b ≡ 0) 56 0 refl) in (
      omega arith,
      drop-append-drop n zs ys n (omega arith) size
          ∙ all_zeros (drop n zs) (All-drop (λ b. b ≡ 0) n zs none)
          ∙ ap (λ k. replicate k 0) behind,
    )

module _ (a k len : ℕ) (xs ys : List ℕ) (k_is : k ≡ 8) (size : length xs ≡ 56) (room : a + 8 ≤ 56)
    (more : a < len) (few : len ≤ a + 8) (eight : length ys ≡ 8) where
  front : length (take a xs) ≡ a
  front = length-take a xs ∙ (omega arith)

  at_len : (m : ℕ) → m ≡ len - a → length (take a xs) + m ≡ len
  at_len m is = let f = front in omega arith

  pub written : take len (take a xs ++ (ys ++ drop k (drop a xs))) ≡ take a xs ++ take (len - a) ys
  written =
      ap (λ n. take n (take a xs ++ (ys ++ drop k (drop a xs)))) (sym (at_len (len - a) refl))
      ∙ take-append-add (take a xs) (ys ++ drop k (drop a xs)) (len - a)
      ∙ ap (λ z. take a xs ++ z) (take-append-le (len - a) ys (drop k (drop a xs)) (omega arith))

  pub all_long : length (take a xs ++ (ys ++ drop k (drop a xs))) ≡ 56
  all_long =
      let f = front in
      let e = length-append (take a xs) (ys ++ drop k (drop a xs)) in
      let e' = length-append ys (drop k (drop a xs)) in
      let d = length-drop k (drop a xs) in
      let d' = length-drop a xs in
      omega arith

  pub rest_is : drop a xs ≡ replicate (56 - a) 0 → All (λ b. b ≡ 0) (drop (len - a) ys)
      → drop len (take a xs ++ (ys ++ drop k (drop a xs))) ≡ replicate (56 - len) 0
  rest_is spare none =
      let cut : drop len (take a xs ++ (ys ++ drop k (drop a xs)))
      ≡ drop (len - a) ys ++ drop k (drop a xs) =
      ap (λ n. drop n (take a xs ++ (ys ++ drop k (drop a xs)))) (sym (at_len (len - a) refl))
      ∙ drop-append-add (take a xs) (ys ++ drop k (drop a xs)) (len - a)
      ∙ drop-append-le (len - a) ys (drop k (drop a xs)) (omega arith) in
      let others : All (λ b. b ≡ 0) (drop k (drop a xs)) =
      All-drop (λ b. b ≡ 0) k (drop a xs)
      (subst (λ z. All (λ b. b ≡ 0) z) (sym spare) (All-replicate (λ b. b ≡ 0) (56 - a) 0 refl)) in
      let size_is : length (drop (len - a) ys ++ drop k (drop a xs)) ≡ 56 - len =
      let e = length-append (drop (len - a) ys) (drop k (drop a xs)) in
      let d = length-drop (len - a) ys in
      let d' = length-drop k (drop a xs) in
      let d'' = length-drop a xs in
      omega arith in
      cut
      ∙ all_zeros (drop (len - a) ys ++ drop k (drop a xs))
      (All-append (λ b. b ≡ 0) (drop (len - a) ys) (drop k (drop a xs)) none others)
      ∙ ap (λ n. replicate n 0) size_is

-- ---- more bytes behind those that there are, in the place of zeros
module _ (a k : ℕ) (xs ys : List ℕ) (k_is : k ≡ length ys) (size : length xs ≡ 56)
    (room : a + length ys ≤ 56) where
  kept : length (take a xs) ≡ a
  kept = length-take a xs ∙ (omega arith)

  pub more_long : length (take a xs ++ (ys ++ drop k (drop a xs))) ≡ 56
  more_long =
      let f = kept in
      let e = length-append (take a xs) (ys ++ drop k (drop a xs)) in
      let e' = length-append ys (drop k (drop a xs)) in
      let d = length-drop k (drop a xs) in
      let d' = length-drop a xs in
      omega arith

  pub more_spared : drop a xs ≡ replicate (56 - a) 0
      → drop (a + length ys) (take a xs ++ (ys ++ drop k (drop a xs)))
      ≡ replicate (56 - (a + length ys)) 0
  more_spared spare =
      let cut : drop (a + length ys) (take a xs ++ (ys ++ drop k (drop a xs)))
      ≡ drop (length ys) ys ++ drop k (drop a xs) =
      ap (λ n. drop n (take a xs ++ (ys ++ drop k (drop a xs))))
      (let f = kept in let e : a + length ys ≡ length (take a xs) + length ys = omega arith in e)
      ∙ drop-append-add (take a xs) (ys ++ drop k (drop a xs)) (length ys)
      ∙ drop-append-le (length ys) ys (drop k (drop a xs)) (omega arith) in
      let none : All (λ b. b ≡ 0) (drop (length ys) ys) =
      subst (λ z. All (λ b. b ≡ 0) z) (sym (drop-length ys)) (All-nil (λ b. b ≡ 0)) in
      let others : All (λ b. b ≡ 0) (drop k (drop a xs)) =
      All-drop (λ b. b ≡ 0) k (drop a xs)
      (subst (λ z. All (λ b. b ≡ 0) z) (sym spare) (All-replicate (λ b. b ≡ 0) (56 - a) 0 refl)) in
      let size_is : length (drop (length ys) ys ++ drop k (drop a xs)) ≡ 56 - (a + length ys) =
      let e = length-append (drop (length ys) ys) (drop k (drop a xs)) in
      let d = length-drop (length ys) ys in
      let d' = length-drop k (drop a xs) in
      let d'' = length-drop a xs in
      omega arith in
      cut
      ∙ all_zeros (drop (length ys) ys ++ drop k (drop a xs))
      (All-append (λ b. b ≡ 0) (drop (length ys) ys) (drop k (drop a xs)) none others)
      ∙ ap (λ n. replicate n 0) size_is
