-- Whoever reads the pieces of messages has these messages.
use Rattle.std.proofs.Common.{◌≡◌, ◌≢◌, ℕ, zero, suc, ◌+◌, ◌-◌, ◌*◌, ◌/◌, ◌<◌, ◌≤◌, List, [], ◌∷◌}
use Rattle.std.proofs.Common.{◌++◌, length, take, drop, flat_map, All, Some, refl, ap, ◌∙◌}
use Rattle.std.proofs.Common.{sym, append_assoc, arith}
use Rattle.std.proofs.lemmas.List.{length-append, length-drop, length-take-le, take-append-drop}
use Rattle.std.proofs.lemmas.List.Elements.{All-head, All-tail}
use Rattle.bus_long.specs.declared.pieces.TheConstants.{MOST_LONG_BYTES, MOST_PIECES, PIECE_BYTES}
use Rattle.bus_long.specs.Pieces.{Begun, nothing, cut, pieces, front, whole_by, begun_by, listed}
use Rattle.bus_long.specs.Pieces.{begun, joined}
use Rattle.bus_long.proofs.Cutting.{is_last, is_inner, whole_last, begun_last, whole_inner}
use Rattle.bus_long.proofs.Cutting.{begun_inner, front_on, front_none, whole_since}

-- ---- messages behind others

pub begun-append : (b : Begun) (xs ys : List (List ℕ))
    → begun b (xs ++ ys) ≡ begun (begun b xs) ys
begun-append b [] ys = refl
begun-append b (x ∷ xs) ys = begun-append (begun_by b x) xs ys

pub joined-append : (b : Begun) (xs ys : List (List ℕ))
    → joined b (xs ++ ys) ≡ joined b xs ++ joined (begun b xs) ys
joined-append b [] ys = refl
joined-append b (x ∷ xs) ys =
    ap (λ z. listed (whole_by b x) ++ z) (joined-append (begun_by b x) xs ys)
    ∙ sym (append_assoc (listed (whole_by b x)) (joined (begun_by b x) xs)
    (joined (begun (begun_by b x) xs) ys))

-- ---- the pieces of one message

-- Pieces of which so many follow the first: behind those that went before, if these are what just
-- the first one follows, they come to one message.
record Joins (b : Begun) (n : ℕ) (bytes : List ℕ) : Type 0 where
  pub whole : joined b (cut n bytes) ≡ (front b n ++ bytes) ∷ []
  pub done : begun b (cut n bytes) ≡ nothing

cut_joins : (n : ℕ) (b : Begun) (bytes : List ℕ) → n < MOST_PIECES
    → PIECE_BYTES * n ≤ length bytes → length bytes ≤ PIECE_BYTES * n + PIECE_BYTES
    → Joins b n bytes
cut_joins zero b bytes below many few = record {
  whole = ap (λ w. listed w ++ []) (whole_last b bytes (is_last bytes (omega arith)));
  done = begun_last b bytes;
}
cut_joins (suc n) b bytes below many few =
    let full = length-take-le PIECE_BYTES bytes (omega arith) in
    let rest = length-drop PIECE_BYTES bytes in
    let first = take PIECE_BYTES bytes in
    let b' : Begun = record { left = suc n; bytes = front b (suc n) ++ first } in
    let k = cut_joins n b' (drop PIECE_BYTES bytes) (omega arith) (omega arith) (omega arith) in
    let piece = is_inner n first below full in
    let is = begun_inner b n first piece in
    record {
      whole = ap (λ w. listed w ++ joined (begun_by b (suc n ∷ first))
          (cut n (drop PIECE_BYTES bytes))) (whole_inner b n first piece)
          ∙ ap (λ z. joined z (cut n (drop PIECE_BYTES bytes))) is ∙ k.whole
          ∙ ap (λ z. (z ++ drop PIECE_BYTES bytes) ∷ []) (front_on n (front b (suc n) ++ first))
          ∙ ap (λ z. z ∷ []) (append_assoc (front b (suc n)) first (drop PIECE_BYTES bytes)
          ∙ ap (λ z. front b (suc n) ++ z) (take-append-drop PIECE_BYTES bytes));
      done = ap (λ z. begun z (cut n (drop PIECE_BYTES bytes))) is ∙ k.done;
    }

-- where nothing is begun, they come to just their bytes
record Comes (n : ℕ) (bytes : List ℕ) : Type 0 where
  pub whole : joined nothing (cut n bytes) ≡ bytes ∷ []
  pub done : begun nothing (cut n bytes) ≡ nothing

cut_comes : (n : ℕ) (bytes : List ℕ) → n < MOST_PIECES
    → PIECE_BYTES * n ≤ length bytes → length bytes ≤ PIECE_BYTES * n + PIECE_BYTES
    → Comes n bytes
cut_comes n bytes below many few =
    let k = cut_joins n nothing bytes below many few in
    record { whole = k.whole ∙ ap (λ z. (z ++ bytes) ∷ []) (front_none n); done = k.done }

pub pieces_come : (bytes : List ℕ) → length bytes ≤ MOST_LONG_BYTES
    → (joined nothing (pieces bytes) ≡ bytes ∷ []) × (begun nothing (pieces bytes) ≡ nothing)
pieces_come bytes few =
    let k = cut_comes ((length bytes - 1) / PIECE_BYTES) bytes (omega arith) (omega arith)
    (omega arith) in (k.whole, k.done)

-- ---- the pieces of messages

pub all_joined : (messages : List (List ℕ)) → All (λ m. length m ≤ MOST_LONG_BYTES) messages
    → (joined nothing (flat_map pieces messages) ≡ messages)
    × (begun nothing (flat_map pieces messages) ≡ nothing)
all_joined [] all = (refl, refl)
all_joined (m ∷ messages) all =
    let k = pieces_come m (All-head (λ z. length z ≤ MOST_LONG_BYTES) m messages all) in
    let j = all_joined messages (All-tail (λ z. length z ≤ MOST_LONG_BYTES) m messages all) in
    let rest = flat_map pieces messages in (
      joined-append nothing (pieces m) rest
          ∙ ap (λ z. z ++ joined (begun nothing (pieces m)) rest) k.0
          ∙ ap (λ b. m ∷ joined b rest) k.1 ∙ ap (λ z. m ∷ z) j.0,
      begun-append nothing (pieces m) rest ∙ ap (λ b. begun b rest) k.1 ∙ j.1,
    )

pub first_joined : (messages read more : List (List ℕ))
    → All (λ m. length m ≤ MOST_LONG_BYTES) messages → read ++ more ≡ flat_map pieces messages
    → (rest : List (List ℕ)) × (joined nothing read ++ rest ≡ messages)
first_joined messages read more all is = (
  joined (begun nothing read) more,
  sym (joined-append nothing read more) ∙ ap (λ z. joined nothing z) is
      ∙ (all_joined messages all).0,
)

-- ---- the last piece

one_alone : (xs : List (List ℕ)) (x m : List ℕ) → xs ++ x ∷ [] ≡ m ∷ []
    → (xs ≡ []) × (x ≡ m)
one_alone [] x m is = (refl, cc)
one_alone (y ∷ ys) x m is =
    let size = length-append ys (x ∷ []) in
    let all = ap length is in absurd (omega arith)

-- The pieces before the last one come to no message, and with the last one the message is whole.
pub last_whole : (message last : List ℕ) (before : List (List ℕ))
    → length message ≤ MOST_LONG_BYTES → pieces message ≡ before ++ last ∷ []
    → (joined nothing before ≡ []) × (whole_by (begun nothing before) last ≡ Some message)
last_whole message last before few is =
    let k = pieces_come message few in
    let b = begun nothing before in
    let done : begun_by b last ≡ nothing =
    sym (begun-append nothing before (last ∷ [])) ∙ ap (λ z. begun nothing z) (sym is) ∙ k.1 in
    let w = whole_since b last done in
    let one = one_alone (joined nothing before) w.0 message
    (sym (joined-append nothing before (last ∷ [])
    ∙ ap (λ z. joined nothing before ++ (listed z ++ [])) w.1)
    ∙ ap (λ z. joined nothing z) (sym is) ∙ k.0) in
    (one.0, w.1 ∙ ap (λ z. Some z) one.1)

pub last_joined : (messages before : List (List ℕ)) (message last : List ℕ)
    → All (λ m. length m ≤ MOST_LONG_BYTES) messages → length message ≤ MOST_LONG_BYTES
    → pieces message ≡ before ++ last ∷ []
    → whole_by (begun nothing (flat_map pieces messages ++ before)) last ≡ Some message
last_joined messages before message last all few is =
    ap (λ b. whole_by b last) (begun-append nothing (flat_map pieces messages) before
    ∙ ap (λ b. begun b before) (all_joined messages all).1)
    ∙ (last_whole message last before few is).1

-- ---- what joining does not do

pub first_wanted : (message : List ℕ) → PIECE_BYTES < length message
    → length message ≤ MOST_LONG_BYTES → joined nothing (drop 1 (pieces message)) ≢ message ∷ []
first_wanted message more few e =
    let n = (length message - 1) / PIECE_BYTES - 1 in
    let is : (length message - 1) / PIECE_BYTES ≡ suc n = omega arith in
    let rest = length-drop PIECE_BYTES message in
    let k = cut_comes n (drop PIECE_BYTES message) (omega arith) (omega arith) (omega arith) in
    let both = one_alone [] (drop PIECE_BYTES message) message
    (sym k.whole ∙ ap (λ z. joined nothing (drop 1 (cut z message))) (sym is) ∙ e) in
    let same = ap length both.1 in omega arith

pub last_wanted : (message : List ℕ) (before : List (List ℕ)) (last : List ℕ)
    → PIECE_BYTES < length message → length message ≤ MOST_LONG_BYTES
    → pieces message ≡ before ++ last ∷ [] → joined nothing before ≡ []
last_wanted message before last more few is = (last_whole message last before few is).0
