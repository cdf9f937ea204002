-- A line of nine columns is read as a row.
use Rattle.std.proofs.Common.{◌≡◌, ℕ, zero, suc, ◌^◌, ◌<◌, false, cond, List, [], ◌∷◌, ◌++◌, ◌==◌}
use Rattle.std.proofs.Common.{Option, Some, None, Contains, IsSome, codes, decimal, slice_get}
use Rattle.std.proofs.Common.{append_assoc, refl, sym, ap, ◌∙◌, subst, arith}
use Rattle.std.specs.List.{slice_split}
use Rattle.std.specs.Option.{option_map}
use Rattle.std.proofs.lemmas.Bool.{false≢true, lt-ltb}
use Rattle.std.proofs.lemmas.List.Splits.{slice_split_at, slice_split_none}
use Rattle.std.proofs.lemmas.List.Elements.{All-nil, All-cons, All-append, All-contains}
use Rattle.std.proofs.lemmas.List.Elements.{All-from_recursion}
use Rattle.std.proofs.lemmas.Option.{none-some, same_Some}
use Rattle.bus_register.specs.declared.limits.TheConstants.{MOST_SENDERS, MOST_RECEIVERS}
use Rattle.bus_script.specs.Grammar.{words_of, number_of}
use Rattle.bus_script.proofs.SpelledLaws.{is_space, NoSpace, number_plain, number_read}
use Rattle.bus_picture.specs.declared.families.Family.{Family}
use Rattle.bus_picture.specs.declared.processes.Process.{Process}
use Rattle.bus_picture.specs.declared.processes.Process.TheVariants.{Sender, Receiver}
use Rattle.bus_picture.specs.Families.{family_of}
use Rattle.bus_picture.specs.Processes.{below, process_in, process_of}
use Rattle.bus_picture.specs.Rows.{row_of, shown_with}
use Rattle.bus_picture.proofs.PlainTexts.{IsPlain, HasNoTab, HasNoEnd, no_tab, no_end}

abbrev pub column : List ℕ → List ℕ
column text = text ++ 9 ∷ []

abbrev pub columns_in : List ℕ → List (List ℕ)
columns_in text = slice_split (λ b. b == 9) text

abbrev pub lines_in : List ℕ → List (List ℕ)
lines_in text = slice_split (λ b. b == 10) text

-- ---- columns
column_off : (a rest : List ℕ) → IsPlain a → columns_in (column a ++ rest) ≡ a ∷ columns_in rest
column_off a rest h =
    ap columns_in (append_assoc a (9 ∷ []) rest)
    ∙ slice_split_at (λ b. b == 9) a 9 rest (no_tab a h) refl

five_parts : (a b c d e rest : List ℕ)
    → ((((a ++ b) ++ c) ++ d) ++ e) ++ rest ≡ a ++ (b ++ (c ++ (d ++ (e ++ rest))))
five_parts a b c d e rest = simp append_assoc

four_parts : (n a b c d : List ℕ) → n ++ (((a ++ b) ++ c) ++ d) ≡ n ++ (a ++ (b ++ (c ++ d)))
four_parts n a b c d = simp append_assoc

last_column : (a : List ℕ) → IsPlain a → columns_in a ≡ a ∷ []
last_column a h = slice_split_none (λ b. b == 9) a (no_tab a h)

tab_ends_none : HasNoEnd (9 ∷ [])
tab_ends_none = All-cons (λ b. (b == 10) ≡ false) 9 [] refl (All-nil (λ b. (b == 10) ≡ false))

pub column_ends_none : (a : List ℕ) → IsPlain a → HasNoEnd (column a)
column_ends_none a h = All-append (λ b. (b == 10) ≡ false) a (9 ∷ []) (no_end a h) tab_ends_none

pub ends_none : (a b : List ℕ) → HasNoEnd a → HasNoEnd b → HasNoEnd (a ++ b)
ends_none a b = All-append (λ b. (b == 10) ≡ false) a b

-- tenure, kind, word, found and after
pub record IsMiddle (text : List ℕ) : Type 0 where
  pub tenure : List ℕ
  pub kind : List ℕ
  pub word : List ℕ
  pub found : List ℕ
  pub after : List ℕ
  pub family : Family
  pub known : family_of kind ≡ Some family
  pub plain_tenure : IsPlain tenure
  pub plain_kind : IsPlain kind
  pub plain_word : IsPlain word
  pub plain_found : IsPlain found
  pub plain_after : IsPlain after
  pub is : text ≡ column tenure ++ column kind ++ column word ++ column found ++ column after

middle_columns : (text rest : List ℕ) (m : IsMiddle text)
    → columns_in (text ++ rest) ≡ m.tenure ∷ m.kind ∷ m.word ∷ m.found ∷ m.after ∷ columns_in rest
middle_columns text rest m =
    ap (λ t. columns_in (t ++ rest)) m.is
    ∙ ap columns_in (five_parts (column m.tenure) (column m.kind) (column m.word) (column m.found)
    (column m.after) rest)
    ∙ column_off m.tenure
    (column m.kind ++ (column m.word ++ (column m.found ++ (column m.after ++ rest))))
    m.plain_tenure
    ∙ ap (λ z. m.tenure ∷ z)
    (column_off m.kind (column m.word ++ (column m.found ++ (column m.after ++ rest))) m.plain_kind)
    ∙ ap (λ z. m.tenure ∷ m.kind ∷ z)
    (column_off m.word (column m.found ++ (column m.after ++ rest)) m.plain_word)
    ∙ ap (λ z. m.tenure ∷ m.kind ∷ m.word ∷ z)
    (column_off m.found (column m.after ++ rest) m.plain_found)
    ∙ ap (λ z. m.tenure ∷ m.kind ∷ m.word ∷ m.found ∷ z) (column_off m.after rest m.plain_after)

middle_ends_none : (text : List ℕ) → IsMiddle text → HasNoEnd text
middle_ends_none text m = subst HasNoEnd (sym m.is) (
    ends_none (column m.tenure ++ column m.kind ++ column m.word ++ column m.found) (column m.after)
    (
    ends_none (column m.tenure ++ column m.kind ++ column m.word) (column m.found) (
    ends_none (column m.tenure ++ column m.kind) (column m.word)
    (ends_none (column m.tenure) (column m.kind) (column_ends_none m.tenure m.plain_tenure)
    (column_ends_none m.kind m.plain_kind)) (column_ends_none m.word m.plain_word))
    (column_ends_none m.found m.plain_found)) (column_ends_none m.after m.plain_after))

-- who is asked: one that a bus can have
pub record IsWho (who : List ℕ) : Type 0 where
  pub process : Process
  pub known : process_of who ≡ Some process
  pub plain : IsPlain who

-- ---- a line that is a row
-- all columns but the number
pub record IsReadable (row : List ℕ) : Type 0 where
  pub one_line : HasNoEnd row
  pub reads : (number : List ℕ) → IsPlain number
      → IsSome (row_of (columns_in (column number ++ row)))

some_row : (o : Option Process) (f : Option Family) (p : Process) (g : Family) → o ≡ Some p
    → f ≡ Some g → (a b c d e h i j : List ℕ) → IsSome (shown_with o f a b c d e h i j)
some_row None f p g e k a b c d i j l m = absurd (none-some p e)
some_row (Some q) None p g e k a b c d i j l m = absurd (none-some g k)
some_row (Some q) (Some r) p g e k a b c d i j l m = refl

pub readable : (line who middle answer : List ℕ) → IsPlain line → IsWho who → IsMiddle middle
    → IsPlain answer → IsReadable (column line ++ column who ++ middle ++ answer)
readable line who middle answer plain_line w m plain_answer = record {
  one_line = ends_none (column line ++ column who ++ middle) answer (
      ends_none (column line ++ column who) middle
      (ends_none (column line) (column who) (column_ends_none line plain_line)
      (column_ends_none who w.plain)) (middle_ends_none middle m)) (no_end answer plain_answer);
  reads = λ number plain_number.
      let split : columns_in (column number ++ (column line ++ column who ++ middle ++ answer))
      ≡ number ∷ line ∷ who ∷ m.tenure ∷ m.kind ∷ m.word ∷ m.found ∷ m.after ∷ answer ∷ [] =
      ap columns_in (four_parts (column number) (column line) (column who) middle answer)
      ∙ column_off number (column line ++ (column who ++ (middle ++ answer))) plain_number
      ∙ ap (λ z. number ∷ z) (column_off line (column who ++ (middle ++ answer)) plain_line)
      ∙ ap (λ z. number ∷ line ∷ z) (column_off who (middle ++ answer) w.plain)
      ∙ ap (λ z. number ∷ line ∷ who ∷ z) (middle_columns middle answer m)
      ∙ ap (λ z. number ∷ line ∷ who ∷ m.tenure ∷ m.kind ∷ m.word ∷ m.found ∷ m.after ∷ z)
      (last_column answer plain_answer) in
      subst (λ z. IsSome (row_of z)) (sym split) (some_row (process_of who) (family_of m.kind)
      w.process m.family w.known m.known number who m.tenure m.kind m.word m.found m.after answer);
}

-- ---- two words
two_words : (role : List ℕ) (n : ℕ) → n < 2 ^ 64 → NoSpace role
    → words_of (role ++ 32 ∷ decimal n) ≡ role ∷ decimal n ∷ []
two_words role n small clean =
    slice_split_at is_space role 32 (decimal n)
    (All-from_recursion (λ b. is_space b ≡ false) role clean) refl
    ∙ ap (λ z. role ∷ z) (slice_split_none is_space (decimal n)
    (All-from_recursion (λ b. is_space b ≡ false) (decimal n) (number_plain n small)))

number_known : (n most : ℕ) → n < most → most < 2 ^ 64 → below most (number_of (decimal n)) ≡ Some n
number_known n most lt small =
    let fits : n < 2 ^ 64 = omega arith in
    ap (below most) (number_read n fits) ∙ ap (λ z. cond z (Some n) None) (lt-ltb n most lt)

pub sender_known : (s : ℕ) → s < MOST_SENDERS
    → process_of (codes "sender" ++ 32 ∷ decimal s) ≡ Some (Sender s)
unfolding process_of
sender_known s lt =
    ap process_in
    (two_words (codes "sender") s (omega arith) (refl, (refl, (refl, (refl, (refl, (refl, tt)))))))
    ∙ ap (option_map Sender) (number_known s MOST_SENDERS lt (omega arith))

pub receiver_known : (r : ℕ) → r < MOST_RECEIVERS
    → process_of (codes "receiver" ++ 32 ∷ decimal r) ≡ Some (Receiver r)
unfolding process_of
receiver_known r lt =
    ap process_in (two_words (codes "receiver") r (omega arith) (
      refl,
      (refl, (refl, (refl, (refl, (refl, (refl, (refl, tt))))))),
    ))
    ∙ ap (option_map Receiver) (number_known r MOST_RECEIVERS lt (omega arith))

-- ---- lines
-- a line with columns, at any place of these
abbrev pub AreRows : List (List ℕ) → Type 0
AreRows lines =
    (place : ℕ) (line : List ℕ) → slice_get lines place ≡ Some line → Contains line 9
    → IsSome (row_of (columns_in line))

has_no_tab : (line : List ℕ) → HasNoTab line → Contains line 9 → ⊥
has_no_tab line h tab = false≢true (sym (All-contains (λ b. (b == 9) ≡ false) line 9 h tab))

pub rows_cons : (line : List ℕ) (lines : List (List ℕ)) → IsSome (row_of (columns_in line))
    → AreRows lines → AreRows (line ∷ lines)
rows_cons line lines here h zero other e tab =
    subst (λ (z : List ℕ). IsSome (row_of (columns_in z))) (same_Some line other e) here
rows_cons line lines here h (suc k) other e tab = h k other e tab

rows_beside : (line : List ℕ) (lines : List (List ℕ)) → HasNoTab line → AreRows lines
    → AreRows (line ∷ lines)
rows_beside line lines none h zero other e tab = absurd
    (has_no_tab line none (subst (λ (z : List ℕ). Contains z 9) (sym (same_Some line other e)) tab))
rows_beside line lines none h (suc k) other e tab = h k other e tab

nothing_left : AreRows (lines_in [])
nothing_left =
    rows_beside [] [] (All-nil (λ b. (b == 9) ≡ false)) (λ k line e tab. absurd (none-some line e))

-- a refusal, or nothing
pub data IsRefusal : List ℕ → Type 0 where
  Nothing : IsRefusal []
  Names : (text : List ℕ) → IsPlain text → IsRefusal (text ++ 10 ∷ [])

pub refusal_rows : (text : List ℕ) → IsRefusal text → AreRows (lines_in text)
refusal_rows text Nothing = nothing_left
refusal_rows text (Names name plain) = subst AreRows
    (sym (slice_split_at (λ b. b == 10) name 10 [] (no_end name plain) refl))
    (rows_beside name (lines_in []) (no_tab name plain) nothing_left)

-- one more line before others
pub line_before : (number row rest : List ℕ) → IsPlain number → IsReadable row
    → AreRows (lines_in rest) → AreRows (lines_in ((column number ++ row ++ 10 ∷ []) ++ rest))
line_before number row rest plain h more =
    let line : List ℕ = column number ++ row in
    subst AreRows
    (sym (ap lines_in (append_assoc line (10 ∷ []) rest)
    ∙ slice_split_at (λ b. b == 10) line 10 rest
    (ends_none (column number) row (column_ends_none number plain) h.one_line) refl))
    (rows_cons line (lines_in rest) (h.reads number plain) more)
