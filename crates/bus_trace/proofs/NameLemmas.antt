-- What the words of a bus are called, by where they lie.
use Rattle.std.proofs.Common.{◌≡◌, ℕ, ◌+◌, ◌-◌, ◌*◌, ◌/◌, ◌%◌, ◌<◌, ◌≤◌, ◌==◌, Bool, true, false}
use Rattle.std.proofs.Common.{cond, Some, None, List, ◌∷◌, ◌++◌, codes, nat_lt, nat_le}
use Rattle.std.proofs.Common.{refl, sym, ap, ◌∙◌, arith}
use Rattle.std.proofs.Math.Nat.{mod-lt, mul-le-mul}
use Rattle.std.proofs.lemmas.Bool.{ne_eqb, lt-ltb, le-ltb, ltb-true, le-leb, lt-leb}
use Rattle.std.proofs.lemmas.Nat.{div-mul-add, mod-mul-add}
use Rattle.std.proofs.lemmas.Option.{same_Some}
use Rattle.bus_register.specs.Protocol.{Protocol}
use Rattle.bus_adoptcommit.specs.declared.verdicts.Verdict.{Verdict}
use Rattle.bus_binconsensus.specs.Decisions.{decisions}
use Rattle.bus_core.specs.Reusing.Participants.{sizes_with}
use Rattle.bus_core.specs.declared.limits.TheConstants.{PASSED_APART}
use Rattle.bus_machine.specs.Playing.{IsServed, layout_passed}
use Rattle.bus_ownerbits.specs.Sizes.{bits_of}
use Rattle.bus_presence.specs.Reclamation.{presence_at, row_of}
use Rattle.bus_tenure.specs.Core.{row_at}
use Rattle.bus_world.specs.declared.shapes.Shape.{Shape}
use Rattle.bus_replay.specs.declared.lines.FirstLine.{FirstLine}
use Rattle.bus_replay.specs.declared.lines.FirstLine.TheVariants.{Shape as Shaped, Cycle as Cycled}
use Rattle.bus_replay.specs.declared.lines.FirstLine.TheVariants.{Ring as Ringed}
use Rattle.bus_replay.specs.Lines.{shape_in, reuse_in, passers_in}
use Rattle.bus_replay.specs.Text.{behind}
use Rattle.bus_trace.specs.Naming.{AreNamed}
use Rattle.bus_trace.specs.Words.{TraceSizes, sizes_of, decision_word, row_word, word_name}

module _ (p : TraceSizes) where
  -- the texts that a word may have, from the last on
  abbrev row_text : ℕ → List ℕ
  row_text r =
      codes "row" ++ behind ((r - 2 - p.presences) / p.row)
      ++ 32 ∷ row_word p ((r - 2 - p.presences) % p.row)

  abbrev passed_text : ℕ → List ℕ
  passed_text r =
      cond (nat_le p.passed r) (codes "passed" ++ behind ((r - p.passed) / PASSED_APART))
      (row_text r)

  abbrev log_text : ℕ → List ℕ
  log_text r = cond (nat_le p.log r) (codes "log" ++ behind (r - p.log)) (passed_text r)

  abbrev presence_text : ℕ → List ℕ
  presence_text r =
      cond (nat_lt (r - 2) p.presences) (codes "presence" ++ behind (r - 2)) (log_text r)

  past_stage : (r : ℕ) → 2 ≤ r → word_name p r ≡ presence_text r
  past_stage r far =
      ap (λ b. cond b (codes "length") (cond (r == 1) (codes "stage") (presence_text r)))
      (ne_eqb r 0 (λ e. absurd (omega (arith, e, far))))
      ∙ ap (λ b. cond b (codes "stage") (presence_text r))
      (ne_eqb r 1 (λ e. absurd (omega (arith, e, far))))

  past_presences : (r : ℕ) → 2 + p.presences ≤ r → word_name p r ≡ log_text r
  past_presences r far =
      past_stage r (omega (arith, far))
      ∙ ap (λ b. cond b (codes "presence" ++ behind (r - 2)) (log_text r))
      (le-ltb (r - 2) p.presences (omega (arith, far)))

  pub named_presence : (s : ℕ) → s < p.presences
      → word_name p (2 + s) ≡ codes "presence" ++ behind s
  named_presence s lt =
      let back : 2 + s - 2 ≡ s = omega arith in
      past_stage (2 + s) (omega arith)
      ∙ ap (λ b. cond b (codes "presence" ++ behind (2 + s - 2)) (log_text (2 + s)))
      (lt-ltb (2 + s - 2) p.presences (omega (arith, back, lt)))
      ∙ ap (λ n. codes "presence" ++ behind n) back

  pub named_log : (cell : ℕ) → 2 + p.presences ≤ p.log
      → word_name p (p.log + cell) ≡ codes "log" ++ behind cell
  named_log cell far =
      let r : ℕ = p.log + cell in
      let back : r - p.log ≡ cell = omega arith in
      past_presences r (omega (arith, far))
      ∙ ap (λ b. cond b (codes "log" ++ behind (r - p.log)) (passed_text r))
      (le-leb p.log r (omega arith))
      ∙ ap (λ n. codes "log" ++ behind n) back

  -- before the log
  below_log : (r : ℕ) → 2 + p.presences ≤ r → r < p.log → word_name p r ≡ passed_text r
  below_log r far below =
      past_presences r far
      ∙ ap (λ b. cond b (codes "log" ++ behind (r - p.log)) (passed_text r))
      (lt-leb p.log r below)

  pub named_passed : (r : ℕ) → 2 + p.presences ≤ p.passed → p.passed + PASSED_APART * r < p.log
      → word_name p (p.passed + PASSED_APART * r) ≡ codes "passed" ++ behind r
  named_passed r far below =
      let at : ℕ = p.passed + PASSED_APART * r in
      let back : (at - p.passed) / PASSED_APART ≡ r = omega arith in
      below_log at (omega (arith, far)) below
      ∙ ap (λ b. cond b (codes "passed" ++ behind ((at - p.passed) / PASSED_APART)) (row_text at))
      (le-leb p.passed at (omega arith))
      ∙ ap (λ n. codes "passed" ++ behind n) back

  pub named_row : (t k : ℕ) → k < p.row → 2 + p.presences + (t * p.row + k) < p.passed
      → p.passed ≤ p.log
      → word_name p (2 + p.presences + (t * p.row + k))
      ≡ codes "row" ++ behind t ++ 32 ∷ row_word p k
  named_row t k lt below fits =
      let place : ℕ = t * p.row + k in
      let at : ℕ = 2 + p.presences + place in
      let back : at - 2 - p.presences ≡ place = omega arith in
      below_log at (omega arith) (omega (arith, below, fits))
      ∙ ap (λ b. cond b (codes "passed" ++ behind ((at - p.passed) / PASSED_APART)) (row_text at))
      (lt-leb p.passed at below)
      ∙ ap (λ n. codes "row" ++ behind (n / p.row) ++ 32 ∷ row_word p (n % p.row)) back
      ∙ ap (λ n. codes "row" ++ behind n ++ 32 ∷ row_word p (place % p.row))
      (div-mul-add t p.row k lt)
      ∙ ap (λ n. codes "row" ++ behind t ++ 32 ∷ row_word p n) (mod-mul-add t p.row k lt)

  -- what the words of a row are called: an announcement, and a word of the decision of a bit
  abbrev bit_text : ℕ → List ℕ
  bit_text k =
      codes "bit" ++ behind ((k - p.senders) / p.decision)
      ++ 32 ∷ decision_word p ((k - p.senders) % p.decision)

  announced : (s : ℕ) → s < p.senders → row_word p s ≡ codes "announcement" ++ behind s
  announced s lt =
      ap (λ b. cond b (codes "announcement" ++ behind s) (bit_text s)) (lt-ltb s p.senders lt)

  of_bit : (k word : ℕ) → word < p.decision
      → row_word p (p.senders + k * p.decision + word)
      ≡ codes "bit" ++ behind k ++ 32 ∷ decision_word p word
  of_bit k word lt =
      let place : ℕ = k * p.decision + word in
      let at : ℕ = p.senders + k * p.decision + word in
      let back : at - p.senders ≡ place = omega arith in
      ap (λ b. cond b (codes "announcement" ++ behind at) (bit_text at))
      (le-ltb at p.senders (omega arith))
      ∙ ap (λ n. codes "bit" ++ behind (n / p.decision) ++ 32 ∷ decision_word p (n % p.decision))
      back
      ∙ ap (λ n. codes "bit" ++ behind n ++ 32 ∷ decision_word p (place % p.decision))
      (div-mul-add k p.decision word lt)
      ∙ ap (λ n. codes "bit" ++ behind k ++ 32 ∷ decision_word p n)
      (mod-mul-add k p.decision word lt)

-- a sum is no less than its first part
no_less : (a b : ℕ) → a ≤ a + b
no_less a b = omega arith

-- a word of a row lies before those behind all rows
in_rows : (t k rows width : ℕ) → t < rows → k < width → t * width + k < rows * width
in_rows t k rows width lt short =
    let next : t + 1 ≤ rows = omega (arith, lt) in
    let same : width ≤ width = omega arith in
    let all : (t + 1) * width ≤ rows * width = mul-le-mul next same in
    let one : (t + 1) * width ≡ t * width + width = omega arith in
    omega (arith, all, one, short)

passed_case : (b : Bool) (place at : ℕ) → cond b (Some place) None ≡ Some at
    → (b ≡ true) × (place ≡ at)
passed_case true place at e = (refl, same_Some place at e)
passed_case false place at e = absurd cc

module _ {S : Type 0} (P : Protocol S Bool Verdict) (shape : Shape) where
  named_apart : AreNamed (sizes_of P shape None 0) (layout_passed P shape None 0) None
  named_apart =
      let p = sizes_of P shape None 0 in
      let x = layout_passed P shape None 0 in
      let n : ℕ = shape.senders in
      let all : n ≤ x.width = no_less n (bits_of n * (decisions P shape.rounds).width n) in
      let row_named : (t k : ℕ) → t < x.rows → k < x.width
      → word_name p (row_at x t + k) ≡ codes "row" ++ behind t ++ 32 ∷ row_word p k =
      λ t k lt short.
      let fits = in_rows t k x.rows x.width lt short in
      ap (word_name p)
      (let e : 2 + t * x.width + k ≡ 2 + 0 + (t * x.width + k) = omega arith in e)
      ∙ named_row p t k short (omega (arith, fits)) (omega arith) in
      record {
        length = refl;
        stage = refl;
        presence = λ rows s again lt. absurd cc;
        row = row_named;
        announcement = λ t s lt few. row_named t s lt (omega (arith, few, all))
            ∙ ap (λ w. codes "row" ++ behind t ++ 32 ∷ w) (announced p s few);
        bit = λ t k word lt short within. row_named t (n + k * p.decision + word) lt within
            ∙ ap (λ w. codes "row" ++ behind t ++ 32 ∷ w) (of_bit p k word short);
        passed = λ r at is.
            let lt = ltb-true r 0 (passed_case (nat_lt r 0) _ at is).0 in
            absurd (omega (arith, lt));
        log = λ cell. named_log p cell (omega arith);
      }

  named_again : (rows passers : ℕ) → 0 < rows
      → AreNamed (sizes_of P shape (Some rows) passers) (layout_passed P shape (Some rows) passers)
      (Some rows)
  named_again rows passers some =
      let p = sizes_of P shape (Some rows) passers in
      let x = layout_passed P shape (Some rows) passers in
      let n : ℕ = shape.senders in
      let all : n ≤ x.width = no_less n (bits_of n * (decisions P shape.rounds).width n) in
      let row_named : (t k : ℕ) → t < x.rows → k < x.width
      → word_name p (row_of (sizes_with x rows) t + k)
      ≡ codes "row" ++ behind (t % rows) ++ 32 ∷ row_word p k =
      λ t k lt short.
      let u : ℕ = t % rows in
      let fits = in_rows u k rows x.width (mod-lt t some) short in
      ap (word_name p)
      (let e : 1 + 1 + n + u * x.width + k ≡ 2 + n + (u * x.width + k) = omega arith in e)
      ∙ named_row p u k short (omega (arith, fits)) (omega arith) in
      record {
        length = refl;
        stage = refl;
        presence = λ more s again lt.
            ap (word_name p)
            (let e : presence_at (sizes_with x more) s ≡ 2 + s = omega arith in e)
            ∙ named_presence p s lt;
        row = row_named;
        announcement = λ t s lt few. row_named t s lt (omega (arith, few, all))
            ∙ ap (λ w. codes "row" ++ behind (t % rows) ++ 32 ∷ w) (announced p s few);
        bit = λ t k word lt short within. row_named t (n + k * p.decision + word) lt within
            ∙ ap (λ w. codes "row" ++ behind (t % rows) ++ 32 ∷ w) (of_bit p k word short);
        passed = λ r at is.
            let found = passed_case (nat_lt r passers) _ at is in
            let lt = ltb-true r passers found.0 in
            ap (word_name p) (sym found.1)
            ∙ named_passed p r (omega arith) (omega (arith, lt));
        log = λ cell. named_log p cell (omega arith);
      }

-- of a bus such as a first line asks for
module _ {S : Type 0} (P : Protocol S Bool Verdict) where
  pub named : (first : FirstLine) → IsServed (shape_in first) (reuse_in first)
      → AreNamed (sizes_of P (shape_in first) (reuse_in first) (passers_in first))
      (layout_passed P (shape_in first) (reuse_in first) (passers_in first)) (reuse_in first)
  named (Shaped shape) served = named_apart P shape
  named (Cycled shape) served =
      named_again P shape shape.rows 0 (let some = served.rows.0 in omega (arith, some))
  named (Ringed shape seats) served =
      named_again P shape shape.rows seats (let some = served.rows.0 in omega (arith, some))
