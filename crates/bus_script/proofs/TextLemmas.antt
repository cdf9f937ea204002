-- The lines of a text are what it spells, both ways.
use Rattle.std.proofs.Common.{◌≡◌, ◌≢◌, ℕ, ◌<◌, cond, List, [], ◌∷◌, ◌++◌, length, refl, sym, ap}
use Rattle.std.proofs.Common.{subst, ◌∙◌, append_assoc, append-nil, inl, inr, arith}
use Rattle.std.specs.List.{AllByRecursion, onto_first}
use Rattle.std.proofs.lemmas.Bool.{ne_eqb}
use Rattle.std.proofs.lemmas.Bool.Decides.{eqb_tells}
use Rattle.bus_script.specs.Grammar.{lines_of}
use Rattle.bus_script.specs.Spelled.{IsLine, IsText, ended_lines}

-- ---- from lines to their text and back

goes_on : (b : ℕ) (bs : List ℕ) → b ≢ 10 → lines_of (b ∷ bs) ≡ onto_first b (lines_of bs)
goes_on b bs other =
    ap (λ t. cond t ([] ∷ lines_of bs) (onto_first b (lines_of bs))) (ne_eqb b 10 other)

line_then : (line rest : List ℕ) → IsLine line → lines_of (line ++ 10 ∷ rest) ≡ line ∷ lines_of rest
line_then [] rest is = refl
line_then (b ∷ line) rest is =
    goes_on b (line ++ 10 ∷ rest) is.0 ∙ ap (onto_first b) (line_then line rest is.1)

line_alone : (line : List ℕ) → IsLine line → 0 < length line → lines_of line ≡ line ∷ []
line_alone [] is some = absurd (omega arith)
line_alone (b ∷ []) is some = goes_on b [] is.0
line_alone (b ∷ c ∷ line) is some =
    goes_on b (c ∷ line) is.0 ∙ ap (onto_first b) (line_alone (c ∷ line) is.1 (omega arith))

ended_read : (lines : List (List ℕ)) (rest : List ℕ) → AllByRecursion IsLine lines
    → lines_of (ended_lines lines ++ rest) ≡ lines ++ lines_of rest
ended_read [] rest is = refl
ended_read (line ∷ lines) rest is =
    ap lines_of (append_assoc (line ++ 10 ∷ []) (ended_lines lines) rest
    ∙ append_assoc line (10 ∷ []) (ended_lines lines ++ rest))
    ∙ line_then line (ended_lines lines ++ rest) is.0
    ∙ ap (λ (l : List (List ℕ)). line ∷ l) (ended_read lines rest is.1)

front_lines : (front : List (List ℕ)) (last : List ℕ) → AllByRecursion IsLine (front ++ last ∷ [])
    → AllByRecursion IsLine front × IsLine last
front_lines [] last is = (tt, is.0)
front_lines (line ∷ front) last is = let k = front_lines front last is.1 in ((is.0, k.0), k.1)

pub text_read : (text : List ℕ) (lines : List (List ℕ)) → IsText text lines → lines_of text ≡ lines
text_read text lines h = elim h.spelled [
  | inl e ↦
      ap lines_of (e ∙ sym (append-nil (ended_lines lines))) ∙ ended_read lines [] h.each
      ∙ append-nil lines
  | inr k ↦
      let is = front_lines k.0 k.1 (subst (AllByRecursion IsLine) k.2 h.each) in
      ap lines_of k.4 ∙ ended_read k.0 k.1 is.0
      ∙ ap (λ (l : List (List ℕ)). k.0 ++ l) (line_alone k.1 is.1 k.3) ∙ sym k.2
]

-- ---- from a text to its lines

empty_line : (bs : List ℕ) (lines : List (List ℕ)) → IsText bs lines → IsText (10 ∷ bs) ([] ∷ lines)
empty_line bs lines h = record {
  each = (tt, h.each);
  spelled = elim h.spelled [
    | inl e ↦ inl (ap (λ (l : List ℕ). 10 ∷ l) e)
    | inr k ↦ inr (
      [] ∷ k.0,
      k.1,
      ap (λ (l : List (List ℕ)). [] ∷ l) k.2,
      k.3,
      ap (λ (l : List ℕ). 10 ∷ l) k.4,
    )
  ];
}

not_nil : (front : List (List ℕ)) (last : List ℕ)
    → (let none : List (List ℕ) = [] in none) ≡ front ++ last ∷ [] → ⊥
not_nil [] last e = cc
not_nil (line ∷ front) last e = cc

longer : (b : ℕ) (bs : List ℕ) (lines : List (List ℕ)) → b ≢ 10 → IsText bs lines
    → IsText (b ∷ bs) (onto_first b lines)
longer b bs [] other h = elim h.spelled [
  | inl e ↦ record {
    each = ((other, tt), tt);
    spelled = inr ([], b ∷ [], refl, omega arith, ap (λ (l : List ℕ). b ∷ l) e);
  }
  | inr k ↦ absurd (not_nil k.0 k.1 k.2)
]
longer b bs (line ∷ lines) other h = record {
  each = ((other, h.each.0), h.each.1);
  spelled = elim h.spelled [
    | inl e ↦ inl (ap (λ (l : List ℕ). b ∷ l) e)
    | inr k ↦ inr (longer_front b bs line lines k.0 k.1 k.2 k.3 k.4)
  ];
}
  where
    longer_front : (b : ℕ) (bs line : List ℕ) (lines front : List (List ℕ)) (last : List ℕ)
        → line ∷ lines ≡ front ++ last ∷ [] → 0 < length last → bs ≡ ended_lines front ++ last
        → (front' : List (List ℕ)) × (last' : List ℕ) × ((b ∷ line) ∷ lines ≡ front' ++ last' ∷ [])
        × (0 < length last') × (b ∷ bs ≡ ended_lines front' ++ last')
    longer_front b bs line lines [] last e some text =
        let same : line ≡ last = cc in
        let none : lines ≡ [] = cc in
        ([], b ∷ last, rw (same, none) refl, omega arith, ap (λ (l : List ℕ). b ∷ l) text)
    longer_front b bs line lines (f ∷ front) last e some text =
        let same : line ≡ f = cc in
        let more : lines ≡ front ++ last ∷ [] = cc in
        ((b ∷ f) ∷ front, last, rw (same, more) refl, some, ap (λ (l : List ℕ). b ∷ l) text)

pub text_spelled : (text : List ℕ) → IsText text (lines_of text)
text_spelled [] = record { each = tt; spelled = inl refl }
text_spelled (b ∷ bs) =
    elim (eqb_tells b 10) [
      | inl h ↦ subst
          (λ t. IsText (b ∷ bs) (cond t ([] ∷ lines_of bs) (onto_first b (lines_of bs)))) (sym h.0)
          (subst (λ c. IsText (c ∷ bs) ([] ∷ lines_of bs)) (sym h.1)
          (empty_line bs (lines_of bs) (text_spelled bs)))
      | inr h ↦ subst
          (λ t. IsText (b ∷ bs) (cond t ([] ∷ lines_of bs) (onto_first b (lines_of bs)))) (sym h.0)
          (longer b bs (lines_of bs) h.1 (text_spelled bs))
    ]
