-- What follows of numbers and their bits.
use Rattle.std.proofs.Common.{add-one, ◌≡◌, ℕ, zero, suc, ◌+◌, ◌*◌, ◌-◌, ◌/◌, ◌%◌, ◌<◌, ◌≤◌, ◌^◌}
use Rattle.std.proofs.Common.{◌==◌, nat_lt, Bool, true, false, cond, inl, inr, ◌⊎◌, arith, sym}
use Rattle.std.proofs.Common.{◌∙◌, ap, subst}
use Rattle.std.proofs.Math.Nat.{div-one, pow-suc}
use Rattle.std.proofs.lemmas.Nat.{div-mul-add, mod_below, pow_pos, pow_below}
use Rattle.std.proofs.lemmas.Bool.{cases_eq, cases_lt, lt-ltb, le-ltb}
use Rattle.std.proofs.lemmas.Bool.Decides.{eqb_tells}
use Rattle.bus_register.specs.Digits.{digit}
use Rattle.bus_ownerbits.specs.Sizes.{IsBits, bits_of, bit_at}

-- a test tells
pub tested : (a b : ℕ) → ((nat_lt a b ≡ true) × (a < b)) ⊎ ((nat_lt a b ≡ false) × (b ≤ a))
tested a b =
    elim (cases_lt a b) [
      | inl l ↦ inl (lt-ltb a b l, l)
      | inr g ↦ inr (le-ltb a b g, g)
    ]

-- the quotient from its bounds
pub quotient : (c w s : ℕ) → s * w ≤ c → c < s * w + w → c / w ≡ s
quotient c w s low high =
    let e : c ≡ s * w + (c - s * w) = omega arith in
    ap (λ z. z / w) e ∙ div-mul-add s w (c - s * w) (omega arith)

pub quotient_low : (c w : ℕ) → 0 < w → (c / w) * w ≤ c
quotient_low c w h = omega arith

pub quotient_high : (c w : ℕ) → 0 < w → c < (c / w) * w + w
quotient_high c w h = omega arith

-- what lies between two numbers with one quotient has it too
pub between : (s l i c : ℕ) → s * 2 ^ l ≤ i → i ≤ c → c / 2 ^ l ≡ s → i / 2 ^ l ≡ s
between s l i c low high e =
    let w = pow_pos l in
    let h = quotient_high c (2 ^ l) w in
    let f : (c / 2 ^ l) * 2 ^ l ≡ s * 2 ^ l = ap (λ z. z * 2 ^ l) e in
    quotient i (2 ^ l) s low (omega arith)

pub at_least : (s l c : ℕ) → c / 2 ^ l ≡ s → s * 2 ^ l ≤ c
at_least s l c e =
    let h = quotient_low c (2 ^ l) (pow_pos l) in
    let f : (c / 2 ^ l) * 2 ^ l ≡ s * 2 ^ l = ap (λ z. z * 2 ^ l) e in
    omega arith

digit_of : (x : ℕ) → x < 2 → digit (x == 1) ≡ x
digit_of x h = elim (eqb_tells x 1) [
  | inl e ↦ ap digit e.0 ∙ sym e.1
  | inr e ↦ ap digit e.0 ∙ (let n = e.1 in omega arith)
]

pow-suc' : (k : ℕ) → 2 ^ suc k ≡ 2 * 2 ^ k
pow-suc' k = let p = pow-suc 2 k in omega arith

halved : (x : ℕ) → x ≡ 2 * (x / 2) + x % 2
halved x = omega arith

odd_less : (x : ℕ) → x % 2 < 2
odd_less x = omega arith

half_high : (w y e r : ℕ) → e < 2 → r < w → w * (2 * y + e) + r < y * (2 * w) + 2 * w
half_high w y zero r h h' = omega arith
half_high w y (suc zero) r h h' = omega arith
half_high w y (suc (suc e)) r h h' = absurd (omega arith)

-- twice the power halves the quotient
half : (c w : ℕ) → 0 < w → c / (2 * w) ≡ (c / w) / 2
half c w p =
    let x : ℕ = c / w in
    let q : c ≡ w * x + c % w = omega arith in
    let m : w * x ≡ w * (2 * (x / 2) + x % 2) = ap (λ z. w * z) (halved x) in
    let high = half_high w (x / 2) (x % 2) (c % w) (odd_less x) (mod_below c w p) in
    quotient c (2 * w) (x / 2) (omega arith) (omega arith)

-- the bits down to one of value 2 ^ k, from those above it
pub next_bit : (c k : ℕ) → c / 2 ^ k ≡ 2 * (c / 2 ^ (k + 1)) + digit (bit_at k c)
next_bit c k =
    let p = pow_pos k in
    let e : 2 ^ (k + 1) ≡ 2 * 2 ^ k = ap (λ z. 2 ^ z) (add-one k) ∙ pow-suc' k in
    let h : c / 2 ^ (k + 1) ≡ (c / 2 ^ k) / 2 = ap (λ z. c / z) e ∙ half c (2 ^ k) p in
    let d : digit (bit_at k c) ≡ (c / 2 ^ k) % 2 =
    digit_of ((c / 2 ^ k) % 2) (odd_less (c / 2 ^ k)) in
    let x = halved (c / 2 ^ k) in
    omega arith

pub none_above : (c n b : ℕ) → c < n → n ≤ 2 ^ b → c / 2 ^ b ≡ 0
none_above c n b h e = quotient c (2 ^ b) 0 (omega arith) (omega arith)

pub all_bits : (c : ℕ) → c / 2 ^ 0 ≡ c
all_bits c = div-one c

-- the bits of the numbers below n
pub pow_up : (i j : ℕ) → i ≤ j → 2 ^ i ≤ 2 ^ j
pow_up i j h = elim (cases_eq i j) [
  | inl e ↦ let f : 2 ^ i ≡ 2 ^ j = ap (λ z. 2 ^ z) e in omega arith
  | inr ne ↦ let f = pow_below i j (omega arith) in omega arith
]

spells : (n b : ℕ) → 2 ^ b < n → n ≤ 2 ^ suc b → IsBits n (suc b)
spells n b low high = record {
  enough = high;
  least = λ k h. elim (tested k (suc b)) [
    | inl t ↦ absurd (let u = pow_up k b (let x = t.1 in omega arith) in omega arith)
    | inr t ↦ t.1
  ];
}

count_is : (n : ℕ) (a b c d e f : Bool) → nat_lt 1 n ≡ a → nat_lt 2 n ≡ b → nat_lt 4 n ≡ c
    → nat_lt 8 n ≡ d → nat_lt 16 n ≡ e → nat_lt 32 n ≡ f
    → bits_of n ≡ 0 + cond a 1 0 + cond b 1 0 + cond c 1 0 + cond d 1 0 + cond e 1 0 + cond f 1 0
count_is n a b c d e f p q r s t u = rw (p, q, r, s, t, u)

pub bits_are : (n : ℕ) → 1 ≤ n → n ≤ 64 → IsBits n (bits_of n)
bits_are n some few =
    let below : (a : ℕ) → a < n → nat_lt a n ≡ true = λ a h. lt-ltb a n h in
    let above : (a : ℕ) → n ≤ a → nat_lt a n ≡ false = λ a h. le-ltb a n h in
    elim (tested 1 n) [
      | inr t ↦
          let h = t.1 in
          let e : n ≡ 1 = omega arith in
          subst (λ z. IsBits z (bits_of z)) (sym e)
          record { enough = omega arith; least = λ k g. omega arith }
      | inl t1 ↦ let h1 = t1.1 in elim (tested 2 n) [
        | inr t ↦
            let h = t.1 in
            subst (IsBits n)
            (sym (count_is n true false false false false false (below 1 h1) (above 2 h)
            (above 4 (omega arith)) (above 8 (omega arith)) (above 16 (omega arith))
            (above 32 (omega arith)))) (spells n 0 h1 h)
        | inl t2 ↦ let h2 = t2.1 in elim (tested 4 n) [
          | inr t ↦
              let h = t.1 in
              subst (IsBits n)
              (sym (count_is n true true false false false false (below 1 h1) (below 2 h2)
              (above 4 h) (above 8 (omega arith)) (above 16 (omega arith))
              (above 32 (omega arith)))) (spells n 1 h2 h)
          | inl t4 ↦ let h4 = t4.1 in elim (tested 8 n) [
            | inr t ↦
                let h = t.1 in
                subst (IsBits n)
                (sym (count_is n true true true false false false (below 1 h1) (below 2 h2)
                (below 4 h4) (above 8 h) (above 16 (omega arith)) (above 32 (omega arith))))
                (spells n 2 h4 h)
            | inl t8 ↦ let h8 = t8.1 in elim (tested 16 n) [
              | inr t ↦
                  let h = t.1 in
                  subst (IsBits n)
                  (sym (count_is n true true true true false false (below 1 h1) (below 2 h2)
                  (below 4 h4) (below 8 h8) (above 16 h) (above 32 (omega arith))))
                  (spells n 3 h8 h)
              | inl t16 ↦ let h16 = t16.1 in elim (tested 32 n) [
                | inr t ↦
                    let h = t.1 in
                    subst (IsBits n)
                    (sym (count_is n true true true true true false (below 1 h1) (below 2 h2)
                    (below 4 h4) (below 8 h8) (below 16 h16) (above 32 h))) (spells n 4 h16 h)
                | inl t32 ↦ subst (IsBits n)
                    (sym (count_is n true true true true true true (below 1 h1) (below 2 h2)
                    (below 4 h4) (below 8 h8) (below 16 h16) (below 32 t32.1)))
                    (spells n 5 t32.1 few)
              ]
            ]
          ]
        ]
      ]
    ]

-- there is one least count
pub same_bits : (n a b : ℕ) → IsBits n a → IsBits n b → a ≡ b
same_bits n a b x y = let p = x.least b y.enough in let q = y.least a x.enough in omega arith

pub bits_enough : (n : ℕ) → n ≤ 64 → n ≤ 2 ^ bits_of n
bits_enough n few = elim (tested 0 n) [
  | inl t ↦ (bits_are n t.1 few).enough
  | inr t ↦ let h = t.1 in omega arith
]
