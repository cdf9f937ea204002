-- Words spell one log at most, and a frame's words begin no other frame's.
use Rattle.std.proofs.Common.{◌≡◌, ℕ, zero, suc, ◌+◌, ◌*◌, ◌<◌, ◌≤◌, min, List, [], ◌∷◌, ◌++◌}
use Rattle.std.proofs.Common.{length, take, drop, refl, sym, ap, ◌∙◌, subst, append-nil, arith}
use Rattle.std.proofs.Common.{Bool, false}
use Rattle.std.specs.Prelude.{◌≢◌, All, map, ◌||◌, ◌==◌}
use Rattle.std.proofs.Math.Bool.{or-false, or_assoc}
use Rattle.std.proofs.lemmas.Bool.{false≢true, or_parts, eq-eqb}
use Rattle.bus_batch.specs.declared.messages.Mark.TheVariants as mark
use Rattle.bus_batch.proofs.PieceLaws.{order_made}
use Rattle.std.specs.List.{flat_map, list_any}
use Rattle.std.proofs.lemmas.List.Folds.{list_any-append}
use Rattle.std.proofs.lemmas.List.{length-drop, map-append, nil_from_length, take-append-drop}
use Rattle.std.proofs.lemmas.List.Concat.{flat_map-append}
use Rattle.std.proofs.lemmas.List.Elements.{All-nil, All-cons, All-append, All-head, All-tail}
use Rattle.std.proofs.lemmas.List.Elements.{All-drop}
use Rattle.bus_register.specs.declared.registers.SenderNo.{SenderNo}
use Rattle.bus_batch.specs.Messages.{Numbered, IsNumbered}
use Rattle.bus_batch.specs.Frames.{Frame, Body, Messages, Marked, Entry, IsBody, IsFrame}
use Rattle.bus_batch.specs.Frames.{AreFramesFrom, Spells, Order, order_of, has_end, has_gone}
use Rattle.bus_batch.specs.Frames.{is_leave_of, ends, entries_of, body_entries, mark_word}
use Rattle.bus_batch.specs.Frames.{tenure_and_owner, head_word, message_word, data_word, data_len}
use Rattle.bus_batch.specs.Frames.{words_of_bytes, message_words, body_words, frame_words}
use Rattle.bus_batch.specs.Frames.{log_words}
use Rattle.bus_batch.proofs.WordLaws.{head_parts, message_parts, not_mark, same_mark}
use Rattle.bus_batch.proofs.WordLaws.{length-words_of_bytes}
use Rattle.bus_batch.proofs.Bytes.{data_bytes, taken}
use Rattle.bus_batch.proofs.Heads.{body_most}

-- two joined lists whose first parts are as long
same_parts : {A : Type 0} (xs ys us vs : List A) → length xs ≡ length ys → xs ++ us ≡ ys ++ vs
    → (xs ≡ ys) × (us ≡ vs)
same_parts [] [] us vs n e = (refl, e)
same_parts [] (y ∷ ys) us vs n e = absurd (omega arith)
same_parts (x ∷ xs) [] us vs n e = absurd (omega arith)
same_parts (x ∷ xs) (y ∷ ys) us vs n e =
    let first : x ≡ y = cc in
    let rest : xs ++ us ≡ ys ++ vs = cc in
    let s = same_parts xs ys us vs (omega arith) rest in
    ((let a = s.0 in cc), s.1)

same_bytes : (n : ℕ) (a b : List ℕ) → length a ≡ length b → length a ≤ 8 * n → All (λ x. x < 256) a
    → All (λ x. x < 256) b → words_of_bytes n a ≡ words_of_bytes n b → a ≡ b
same_bytes zero a b size few small small' e =
    nil_from_length a (omega arith) ∙ sym (nil_from_length b (omega arith))
same_bytes (suc n) a b size few small small' e =
    let first : data_word a ≡ data_word b = cc in
    let rest : words_of_bytes n (drop 8 a) ≡ words_of_bytes n (drop 8 b) = cc in
    let k : ℕ = min (length a) 8 in
    let same_eight : take 8 a ≡ take 8 b =
    sym (taken a k refl)
    ∙ ap (λ z. take k z)
    (sym (data_bytes a (data_word a) small refl) ∙ data_bytes b (data_word a) small' first)
    ∙ taken b k (ap (λ z. min z 8) size) in
    let left = length-drop 8 a in
    let left' = length-drop 8 b in
    let later = same_bytes n (drop 8 a) (drop 8 b) (omega arith) (omega arith)
    (All-drop (λ x. x < 256) 8 a small) (All-drop (λ x. x < 256) 8 b small') rest in
    sym (take-append-drop 8 a) ∙ ap (λ z. z ++ drop 8 a) same_eight ∙ ap (λ z. take 8 b ++ z) later
    ∙ take-append-drop 8 b

abbrev numbered_as : ℕ → List ℕ → Numbered
numbered_as n bytes = record { number = n; message = bytes }

same_message : (m k : Numbered) (us vs : List ℕ) → IsNumbered m → IsNumbered k
    → message_words m ++ us ≡ message_words k ++ vs → (m ≡ k) × (us ≡ vs)
same_message m k us vs lawful lawful' e =
    let first : message_word (length m.message) m.number
    ≡ message_word (length k.message) k.number = cc in
    let parts = message_parts (length m.message) m.number (length k.message) k.number lawful.0
    lawful'.0 first in
    let rest : words_of_bytes (data_len (length m.message)) m.message ++ us
    ≡ words_of_bytes (data_len (length k.message)) k.message ++ vs = cc in
    let rest' : words_of_bytes (data_len (length m.message)) m.message ++ us
    ≡ words_of_bytes (data_len (length m.message)) k.message ++ vs =
    rest ∙ ap (λ z. words_of_bytes (data_len z) k.message ++ vs) (sym parts.0) in
    let s = same_parts (words_of_bytes (data_len (length m.message)) m.message)
    (words_of_bytes (data_len (length m.message)) k.message) us vs
    (length-words_of_bytes (data_len (length m.message)) m.message
    ∙ sym (length-words_of_bytes (data_len (length m.message)) k.message)) rest' in
    let bytes : m.message ≡ k.message = same_bytes (data_len (length m.message)) m.message k.message
    parts.0 (omega arith) lawful.1.1 lawful'.1.1 s.0 in (
      ap (λ (z : ℕ). numbered_as z m.message) parts.1
          ∙ ap (λ (z : List ℕ). numbered_as k.number z) bytes,
      s.1,
    )

same_messages : (ms ks : List Numbered) → All IsNumbered ms → All IsNumbered ks
    → flat_map message_words ms ≡ flat_map message_words ks → ms ≡ ks
same_messages [] [] each each' e = refl
same_messages [] (k ∷ ks) each each' e = absurd (cc)
same_messages (m ∷ ms) [] each each' e = absurd (cc)
same_messages (m ∷ ms) (k ∷ ks) each each' e =
    let s = same_message m k (flat_map message_words ms) (flat_map message_words ks)
    (All-head IsNumbered m ms each) (All-head IsNumbered k ks each') e in
    let first = s.0 in
    let later =
    same_messages ms ks (All-tail IsNumbered m ms each) (All-tail IsNumbered k ks each') s.1 in
    cc

same_body : (b d : Body) → IsBody b → IsBody d → body_words b ≡ body_words d → b ≡ d
same_body (Messages ms) (Messages ks) lawful lawful' e =
    ap Messages (same_messages ms ks lawful.2 lawful'.2 e)
same_body (Messages []) (Marked k) lawful lawful' e = absurd (omega arith)
same_body (Messages (m ∷ ms)) (Marked k) lawful lawful' e =
    let n = All-head IsNumbered m ms lawful.2 in
    absurd (not_mark k (length m.message) m.number n.1.0 n.0 (cc))
same_body (Marked k) (Messages []) lawful lawful' e = absurd (omega arith)
same_body (Marked k) (Messages (m ∷ ms)) lawful lawful' e =
    let n = All-head IsNumbered m ms lawful'.2 in
    absurd (not_mark k (length m.message) m.number n.1.0 n.0 (cc))
same_body (Marked k) (Marked l) lawful lawful' e =
    let word : mark_word k ≡ mark_word l = cc in ap Marked (same_mark k l word)

abbrev frame_as : ℕ → SenderNo → Body → Frame
frame_as t o b = record { tenure = t; owner = o; body = b }

abbrev sender_as : ℕ → SenderNo
sender_as n = record { 0 = n }

pub same_frame : (senders : ℕ) (f g : Frame) (us vs : List ℕ) → IsFrame senders f
    → IsFrame senders g → frame_words f ++ us ≡ frame_words g ++ vs → (f ≡ g) × (us ≡ vs)
same_frame senders f g us vs lawful lawful' e =
    let most = body_most f.body lawful.body in
    let most' = body_most g.body lawful'.body in
    let first : head_word f.owner.0 (length (body_words f.body)) f.tenure
    ≡ head_word g.owner.0 (length (body_words g.body)) g.tenure = cc in
    let rest : body_words f.body ++ us ≡ body_words g.body ++ vs = cc in
    let parts = head_parts f.owner.0 (length (body_words f.body)) f.tenure g.owner.0
    (length (body_words g.body)) g.tenure lawful.owner_bits (omega arith) lawful.tenure
    lawful'.owner_bits (omega arith) lawful'.tenure first in
    let s = same_parts (body_words f.body) (body_words g.body) us vs parts.1 rest in
    let body = same_body f.body g.body lawful.body lawful'.body s.0 in (
      ap (λ (z : ℕ). frame_as z f.owner f.body) parts.2
          ∙ ap (λ (z : ℕ). frame_as g.tenure (sender_as z) f.body) parts.0
          ∙ ap (λ (z : Body). frame_as g.tenure g.owner z) body,
      s.1,
    )

pub same_log : (senders least least' : ℕ) (fs gs : List Frame) → AreFramesFrom senders least fs
    → AreFramesFrom senders least' gs → log_words fs ≡ log_words gs → fs ≡ gs
same_log senders least least' [] [] lawful lawful' e = refl
same_log senders least least' [] (g ∷ gs) lawful lawful' e = absurd (cc)
same_log senders least least' (f ∷ fs) [] lawful lawful' e = absurd (cc)
same_log senders least least' (f ∷ fs) (g ∷ gs) lawful lawful' e =
    let s = same_frame senders f g (log_words fs) (log_words gs) lawful.0 lawful'.0 e in
    let first = s.0 in
    let later = same_log senders (f.tenure + 1) (g.tenure + 1) fs gs lawful.3 lawful'.3 s.1 in
    cc

pub spells_one :
    (senders : ℕ) (words : List ℕ) (order order' : Order) (owners owners' : List (ℕ × SenderNo))
    → Spells senders words order owners → Spells senders words order' owners'
    → (order ≡ order') × (owners ≡ owners')
spells_one senders words order order' owners owners' s t =
    let same =
    same_log senders 0 0 s.frames t.frames s.lawful t.lawful (s.words_are ∙ sym t.words_are) in (
      sym s.order_is ∙ ap order_of same ∙ t.order_is,
      sym s.owners_are ∙ ap (map tenure_and_owner) same ∙ t.owners_are,
    )

pub no_frame_begins_another : (senders : ℕ) (f g : Frame) (rest : List ℕ) → IsFrame senders f
    → IsFrame senders g → frame_words g ≡ frame_words f ++ rest → (f ≡ g) × (rest ≡ [])
no_frame_begins_another senders f g rest lawful lawful' e =
    same_frame senders f g rest [] lawful lawful' (sym e ∙ sym (append-nil (frame_words g)))

-- ---- one frame more

-- whose leave mark the entries of a frame hold
leaver : (s : ℕ) (g : Frame) → g.body ≡ Marked mark.Leave
    → list_any (is_leave_of s) (entries_of g) ≡ false → g.owner.0 ≢ s
leaver s g is none same =
    let here : ((g.owner.0 == s) || false) ≡ false =
    sym (ap (λ b. list_any (is_leave_of s) (body_entries g.owner b)) is) ∙ none in
    let differ : (g.owner.0 == s) ≡ false = (or_parts (g.owner.0 == s) false here).0 in
    false≢true (sym differ ∙ eq-eqb g.owner.0 s same)

-- a frame of a later tenure after frames that have no end mark and no leave mark of its owner
pub frames_more : (senders least : ℕ) (fs : List Frame) (f : Frame) → AreFramesFrom senders least fs
    → has_end fs ≡ false
    → has_gone f.owner.0 (order_of fs) ≡ false → IsFrame senders f → least ≤ f.tenure
    → All (λ p. p.0 < f.tenure) (map tenure_and_owner fs)
    → AreFramesFrom senders least (fs ++ f ∷ [])
frames_more senders least [] f lawful unended stays frame late above = (
  frame,
  late,
  (λ _. refl),
  tt,
  (λ _. All-nil (λ g. g.owner ≢ f.owner)),
)
frames_more senders least (g ∷ gs) f lawful unended stays frame late above =
    let open_both = or_parts (ends g.body) (has_end gs) unended in
    let stay_both = or_parts (list_any (is_leave_of f.owner.0) (entries_of g))
    (has_gone f.owner.0 (order_of gs))
    (sym (list_any-append (is_leave_of f.owner.0) (entries_of g) (flat_map entries_of gs))
    ∙ stays) in
    let first : g.tenure < f.tenure =
    All-head (λ p. p.0 < f.tenure) (tenure_and_owner g) (map tenure_and_owner gs) above in (
      lawful.0,
      lawful.1,
      (λ e. absurd (false≢true (sym open_both.0 ∙ ap ends e))),
      frames_more senders (g.tenure + 1) gs f lawful.3 open_both.1 stay_both.1 frame (omega arith)
          (All-tail (λ p. p.0 < f.tenure) (tenure_and_owner g) (map tenure_and_owner gs) above),
      (λ e. All-append (λ k. k.owner ≢ g.owner) gs (f ∷ []) (lawful.4 e)
          (All-cons (λ k. k.owner ≢ g.owner) f []
          (λ same. leaver f.owner.0 g e stay_both.0 (ap (λ (o : SenderNo). o.0) (sym same)))
          (All-nil (λ k. k.owner ≢ g.owner)))),
    )

has_end-append : (fs gs : List Frame) → has_end (fs ++ gs) ≡ (has_end fs || has_end gs)
has_end-append [] gs = refl
has_end-append (f ∷ fs) gs =
    ap (λ z. ends f.body || z) (has_end-append fs gs)
    ∙ sym (or_assoc (ends f.body) (has_end fs) (has_end gs))

-- words of a log that has not ended, and a frame of a later tenure and of one who has not left
-- after them, spell its entries too
pub spells_more : (senders : ℕ) (words : List ℕ) (order : Order) (owners : List (ℕ × SenderNo))
    (f : Frame)
    → Spells senders words order owners → order.ended ≡ false → has_gone f.owner.0 order ≡ false
    → IsFrame senders f
    → All (λ p. p.0 < f.tenure) owners
    → Spells senders (words ++ frame_words f)
    (record { entries = order.entries ++ entries_of f; ended = ends f.body })
    (owners ++ tenure_and_owner f ∷ [])
spells_more senders words order owners f s unended stays frame above =
    let open_still : has_end s.frames ≡ false = ap (λ (z : Order). z.ended) s.order_is ∙ unended in
    record {
      frames = s.frames ++ f ∷ [];
      lawful = frames_more senders 0 s.frames f s.lawful open_still
          (ap (λ (z : Order). has_gone f.owner.0 z) s.order_is ∙ stays) frame (omega arith)
          (subst (λ z. All (λ p. p.0 < f.tenure) z) (sym s.owners_are) above);
      words_are =
          flat_map-append frame_words s.frames (f ∷ [])
          ∙ ap (λ z. log_words s.frames ++ z) (append-nil (frame_words f))
          ∙ ap (λ z. z ++ frame_words f) s.words_are;
      order_is =
          ap (λ (z : List Entry). order_made z (has_end (s.frames ++ f ∷ [])))
          (flat_map-append entries_of s.frames (f ∷ [])
          ∙ ap (λ z. flat_map entries_of s.frames ++ z) (append-nil (entries_of f))
          ∙ ap (λ (z : Order). z.entries ++ entries_of f) s.order_is)
          ∙ ap (λ (z : Bool). order_made (order.entries ++ entries_of f) z)
          (has_end-append s.frames (f ∷ []) ∙ ap (λ z. z || has_end (f ∷ [])) open_still
          ∙ or-false (ends f.body));
      owners_are =
          map-append tenure_and_owner s.frames (f ∷ [])
          ∙ ap (λ z. z ++ tenure_and_owner f ∷ []) s.owners_are;
    }

-- no words spell the empty order
pub spells_none : (senders : ℕ) → Spells senders [] (record { entries = []; ended = false }) []
spells_none senders = record {
  frames = [];
  lawful = tt;
  words_are = refl;
  order_is = refl;
  owners_are = refl;
}
