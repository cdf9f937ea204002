-- What a new frame, and a word past the length, do to the log.
use Rattle.std.proofs.Common.{◌≡◌, ◌≢◌, ℕ, zero, suc, ◌+◌, ◌<◌, ◌≤◌, true, false, inl, inr, List}
use Rattle.std.proofs.Common.{[], ◌∷◌, ◌++◌, length, filter, map, flat_map, ◌==◌, ◌||◌, cond}
use Rattle.std.proofs.Common.{arith, refl, sym, ◌∙◌, ap, subst, append_assoc, slice_index}
use Rattle.std.proofs.Math.Bool.{or-false}
use Rattle.std.proofs.lemmas.Bool.{cases_eq, eq-eqb, ne_eqb, or_parts, true≢false, cases_lt}
use Rattle.std.proofs.lemmas.Grind.{common_steps, flat_map-append}
use Rattle.std.proofs.lemmas.List.{append-nil, length-append, get_or_append_left}
use Rattle.std.proofs.lemmas.List.Elements.{All-append, All-cons, All-nil, All-from_recursion}
use Rattle.std.proofs.lemmas.List.Elements.{filter-append}
use Rattle.std.proofs.lemmas.List.Folds.{list_any-append}
use Rattle.std.specs.List.{list_any}
use Rattle.bus_register.specs.Tables.{Agree}
use Rattle.bus_batch.specs.declared.messages.Item.{Item}
use Rattle.bus_batch.specs.declared.messages.Mark.TheVariants as mark
use Rattle.bus_batch.specs.Frames.{Frame, Body, Messages, Marked, AreFramesFrom, IsFrame, Says}
use Rattle.bus_batch.specs.Frames.{log_words, frame_words, order_of, entries_of, body_entries}
use Rattle.bus_batch.specs.Frames.{items_of, items_in, item_of, body_items, has_end, ends, leaves}
use Rattle.bus_batch.specs.Frames.{has_gone, is_leave_of}
use Rattle.bus_batch.specs.Messages.{Numbered}
use Rattle.bus_batch.proofs.PieceLaws.{entries_are_items}
use Rattle.bus_register.specs.declared.registers.SenderNo.{SenderNo}
use Rattle.bus_deliverylog.specs.Orders.{of_sender}
use Rattle.bus_world.specs.Log.{words_read_from, sent_count, next_number, AreCounted}
use Rattle.bus_tenure.specs.Core.{Layout, log_at}
use Rattle.bus_world.specs.Private.Sending.{AreEarlier, Logged}

-- ---- words
pub read-agree : (words words' : ℕ → ℕ) (at k : ℕ) → Agree at k words words'
    → words_read_from words' at k ≡ words_read_from words at k
read-agree words words' at zero same = refl
read-agree words words' at (suc k) same =
    ap (λ z. z ++ words' (at + k) ∷ [])
    (read-agree words words' at k (λ r a b. same r a (omega arith)))
    ∙ ap (λ z. words_read_from words at k ++ z ∷ []) (same (at + k) (omega arith) (omega arith))

pub read-add : (words : ℕ → ℕ) (at j k : ℕ)
    → words_read_from words at (j + k)
    ≡ words_read_from words at j ++ words_read_from words (at + j) k
read-add words at j zero = grind (arith, common_steps)
read-add words at j (suc k) =
    let e : j + suc k ≡ suc (j + k) = omega arith in
    let f : at + (j + k) ≡ at + j + k = omega arith in
    ap (words_read_from words at) e
    ∙ ap (λ z. z ++ words (at + (j + k)) ∷ []) (read-add words at j k)
    ∙ append_assoc (words_read_from words at j) (words_read_from words (at + j) k)
    (words (at + (j + k)) ∷ [])
    ∙ ap (λ z. words_read_from words at j ++ (words_read_from words (at + j) k ++ words z ∷ [])) f

pub length-read : (words : ℕ → ℕ) (at k : ℕ) → length (words_read_from words at k) ≡ k
length-read words at zero = refl
length-read words at (suc k) =
    length-append (words_read_from words at k) (words (at + k) ∷ [])
    ∙ (let z = length-read words at k in omega arith)

pub length-logged : {base : ℕ → ℕ} {x : Layout} {len : ℕ} {words : ℕ → ℕ} {frames : List Frame}
    → Logged base x words len frames → length (log_words frames) ≡ len
length-logged {base} {x} {len} {words} log =
    sym (ap length log.words_are) ∙ length-read words (log_at x) len

pub index-read : (words : ℕ → ℕ) (at k i : ℕ) → i < k
    → slice_index (words_read_from words at k) i ≡ words (at + i)
index-read words at zero i l = absurd (omega arith)
index-read words at (suc k) i l = elim (cases_lt i k) [
  | inl below ↦
      get_or_append_left (words_read_from words at k) (words (at + k) ∷ []) 0 i
      (let z = length-read words at k in omega arith) ∙ index-read words at k i below
  | inr past ↦ grind (arith, common_steps, length-read, length, slice_index, last)
] where
  last : (xs : List ℕ) (w : ℕ) → slice_index (xs ++ w ∷ []) (length xs) ≡ w
  last xs w = grind (arith, common_steps)

-- ---- items
pub AreCounted-append : (first : ℕ) (xs ys : List Item) → AreCounted first xs
    → AreCounted (first + length xs) ys → AreCounted first (xs ++ ys)
AreCounted-append first [] ys a b = subst (λ z. AreCounted z ys) (omega arith) b
AreCounted-append first (x ∷ xs) ys a b = (
  a.0,
  AreCounted-append (first + 1) xs ys a.1 (subst (λ z. AreCounted z ys) (omega arith) b),
)

pub has_end-append : (frames : List Frame) (f : Frame) → has_end frames ≡ false
    → has_end (frames ++ f ∷ []) ≡ ends f.body
has_end-append [] f e = or-false (ends f.body)
has_end-append (g ∷ frames) f e =
    let none = or_parts (ends g.body) (has_end frames) e in
    ap (λ z. z || has_end (frames ++ f ∷ [])) none.0 ∙ has_end-append frames f none.1

-- ---- who has left
-- messages are no leave marks
no_leave : (s : ℕ) (owner : SenderNo) (ms : List Numbered)
    → list_any (is_leave_of s) (map (λ m. Says (item_of owner m)) ms) ≡ false
no_leave s owner [] = refl
no_leave s owner (m ∷ ms) = no_leave s owner ms

own_leave : (owner : SenderNo) (b : Body)
    → list_any (is_leave_of owner.0) (body_entries owner b) ≡ leaves b
own_leave owner (Messages ms) = no_leave owner.0 owner ms
own_leave owner (Marked mark.End) = refl
own_leave owner (Marked mark.Leave) = ap (λ b. b || false) (eq-eqb owner.0 owner.0 refl)

other_leave : (s : ℕ) (owner : SenderNo) (b : Body) → s ≢ owner.0
    → list_any (is_leave_of s) (body_entries owner b) ≡ false
other_leave s owner (Messages ms) ne = no_leave s owner ms
other_leave s owner (Marked mark.End) ne = refl
other_leave s owner (Marked mark.Leave) ne =
    ap (λ b. b || false) (ne_eqb owner.0 s (λ e. ne (sym e)))

gone-append : (s : ℕ) (frames : List Frame) (f : Frame)
    → has_gone s (order_of (frames ++ f ∷ []))
    ≡ (has_gone s (order_of frames) || list_any (is_leave_of s) (entries_of f))
gone-append s frames f = grind (arith, common_steps, flat_map-append, append-nil, list_any-append)

-- by a frame its owner leaves, if anybody does
pub gone-append_owner : (frames : List Frame) (f : Frame)
    → has_gone f.owner.0 (order_of (frames ++ f ∷ []))
    ≡ (has_gone f.owner.0 (order_of frames) || leaves f.body)
gone-append_owner frames f = grind (arith, common_steps, gone-append, own_leave)

pub gone-append_other : (s : ℕ) (frames : List Frame) (f : Frame) → s ≢ f.owner.0
    → has_gone s (order_of (frames ++ f ∷ [])) ≡ has_gone s (order_of frames)
gone-append_other s frames f ne =
    gone-append s frames f
    ∙ ap (λ b. has_gone s (order_of frames) || b) (other_leave s f.owner f.body ne)
    ∙ or-false (has_gone s (order_of frames))

-- who has not left by more frames has not left by the first one
gone_parts : (s : ℕ) (g : Frame) (frames : List Frame) → has_gone s (order_of (g ∷ frames)) ≡ false
    → (list_any (is_leave_of s) (entries_of g) ≡ false) × (has_gone s (order_of frames) ≡ false)
gone_parts s g frames e = grind (arith, common_steps, or_parts, list_any-append)

not_its_own : (f g : Frame) → list_any (is_leave_of f.owner.0) (entries_of g) ≡ false
    → g.body ≡ Marked mark.Leave → f.owner ≢ g.owner
not_its_own f g e left same = true≢false (sym (ap leaves left) ∙ sym (own_leave g.owner g.body)
    ∙ ap (λ (z : SenderNo). list_any (is_leave_of z.0) (entries_of g)) (sym same) ∙ e)

pub AreFramesFrom-append : (n least : ℕ) (frames : List Frame) (f : Frame)
    → AreFramesFrom n least frames → IsFrame n f → has_end frames ≡ false
    → AreEarlier f.tenure frames → least ≤ f.tenure → has_gone f.owner.0 (order_of frames) ≡ false
    → AreFramesFrom n least (frames ++ f ∷ [])
AreFramesFrom-append n least [] f a b e c l stays = grind (arith, common_steps, All-nil)
AreFramesFrom-append n least (g ∷ frames) f a b e c l stays = (
  a.0,
  a.1,
  (λ z.
      let t : true ≡ false = sym (ap ends z) ∙ (or_parts (ends g.body) (has_end frames) e).0 in
      absurd (true≢false t)),
  AreFramesFrom-append n (g.tenure + 1) frames f a.3 b (or_parts (ends g.body) (has_end frames) e).1
      c.1 (let z = c.0 in omega arith) (gone_parts f.owner.0 g frames stays).1,
  (λ z. All-append (λ h. h.owner ≢ g.owner) frames (f ∷ []) (a.4 z)
      (All-from_recursion (λ h. h.owner ≢ g.owner) (f ∷ []) (
        not_its_own f g (gone_parts f.owner.0 g frames stays).0 z,
        tt,
      ))),
)

-- ---- the items among the entries
pub items-append : (frames : List Frame) (f : Frame)
    → items_in (order_of (frames ++ f ∷ [])).entries
    ≡ items_in (order_of frames).entries ++ items_of f
items-append frames f =
    grind (arith, common_steps, entries_are_items, flat_map-append, flat_map, append-nil)

pub of_sender-append : (s : ℕ) (frames : List Frame) (f : Frame)
    → of_sender s (order_of (frames ++ f ∷ []))
    ≡ of_sender s (order_of frames) ++ filter (λ i. i.sender.0 == s) (items_of f)
of_sender-append s frames f = grind (arith, common_steps, filter, items-append, filter-append)

pub AreEarlier-append : (tenure : ℕ) (frames : List Frame) (f : Frame) → AreEarlier tenure frames
    → f.tenure < tenure → AreEarlier tenure (frames ++ f ∷ [])
AreEarlier-append tenure [] f a b = (b, tt)
AreEarlier-append tenure (g ∷ frames) f a b = (a.0, AreEarlier-append tenure frames f a.1 b)

pub AreEarlier-later : (t u : ℕ) (frames : List Frame) → t ≤ u → AreEarlier t frames
    → AreEarlier u frames
AreEarlier-later t u [] l a = tt
AreEarlier-later t u (g ∷ frames) l a = (
  (let z = a.0 in omega arith),
  AreEarlier-later t u frames l a.1,
)

pub log_words-append : (frames : List Frame) (f : Frame)
    → log_words (frames ++ f ∷ []) ≡ log_words frames ++ frame_words f
log_words-append frames f = grind (arith, common_steps, flat_map-append, append-nil)

-- a frame's items are its owner's
owned_messages : (owner : SenderNo) (messages : List Numbered)
    → filter (λ i. i.sender.0 == owner.0) (map (item_of owner) messages)
    ≡ map (item_of owner) messages
owned_messages owner [] = refl
owned_messages owner (m ∷ messages) = ap (λ b. cond b
    (item_of owner m ∷ filter (λ i. i.sender.0 == owner.0) (map (item_of owner) messages))
    (filter (λ i. i.sender.0 == owner.0) (map (item_of owner) messages)))
    (eq-eqb owner.0 owner.0 refl)
    ∙ ap (λ z. item_of owner m ∷ z) (owned_messages owner messages)

others_messages : (s : ℕ) (owner : SenderNo) (messages : List Numbered) → s ≢ owner.0
    → filter (λ i. i.sender.0 == s) (map (item_of owner) messages) ≡ []
others_messages s owner [] ne = refl
others_messages s owner (m ∷ messages) ne = ap (λ b. cond b
    (item_of owner m ∷ filter (λ i. i.sender.0 == s) (map (item_of owner) messages))
    (filter (λ i. i.sender.0 == s) (map (item_of owner) messages)))
    (ne_eqb owner.0 s (λ e. ne (sym e)))
    ∙ others_messages s owner messages ne

owned_body : (owner : SenderNo) (b : Body)
    → filter (λ i. i.sender.0 == owner.0) (body_items owner b) ≡ body_items owner b
owned_body owner (Messages messages) = owned_messages owner messages
owned_body owner (Marked m) = refl

others_body : (s : ℕ) (owner : SenderNo) (b : Body) → s ≢ owner.0
    → filter (λ i. i.sender.0 == s) (body_items owner b) ≡ []
others_body s owner (Messages messages) ne = others_messages s owner messages ne
others_body s owner (Marked m) ne = refl

pub owned_items : (f : Frame) → filter (λ i. i.sender.0 == f.owner.0) (items_of f) ≡ items_of f
owned_items f = owned_body f.owner f.body

pub others_items : (s : ℕ) (f : Frame) → s ≢ f.owner.0
    → filter (λ i. i.sender.0 == s) (items_of f) ≡ []
others_items s f ne = others_body s f.owner f.body ne

module _ {base : ℕ → ℕ} (x : Layout) (words : ℕ → ℕ) (len : ℕ) (frames : List Frame)
    (h : Logged base x words len frames) where
  -- words past the length do not matter
  pub Logged-agree : (words' : ℕ → ℕ) → Agree (log_at x) len words words'
      → Logged base x words' len frames
  Logged-agree words' same = grind (arith, common_steps, read-agree)

  -- a frame whose words stand past the length is published by raising the length
  pub Logged-publish : (f : Frame) → IsFrame x.senders f → length (items_of f) ≤ x.batch
      → has_end frames ≡ false
      → has_gone f.owner.0 (order_of frames) ≡ false → AreEarlier f.tenure frames
      → AreCounted (next_number base f.owner.0 frames) (items_of f)
      → words_read_from words (log_at x + len) (length (frame_words f)) ≡ frame_words f
      → (x.passers ≡ 0 → len + length (frame_words f) ≤ x.capacity)
      → Logged base x words (len + length (frame_words f)) (frames ++ f ∷ [])
  Logged-publish f is short open_ended stays earlier counts stored fits = record {
    lawful = grind (arith, common_steps, AreFramesFrom-append);
    few = All-append (λ g. length (items_of g) ≤ x.batch) frames (f ∷ []) h.few
        (All-cons (λ g. length (items_of g) ≤ x.batch) f [] short
        (All-nil (λ g. length (items_of g) ≤ x.batch)));
    words_are = grind (arith, common_steps, read-add, length, log_words-append);
    fits = fits;
    low = h.low;
    counted = λ s. subst (AreCounted (base s)) (sym (of_sender-append s frames f))
        (AreCounted-append (base s) (of_sender s (order_of frames))
        (filter (λ i. i.sender.0 == s) (items_of f)) (h.counted s) (by_sender s));
  } where
    by_sender : (s : ℕ)
        → AreCounted (base s + length (of_sender s (order_of frames)))
        (filter (λ i. i.sender.0 == s) (items_of f))
    by_sender s = elim (cases_eq s f.owner.0) [
      | inl i ↦ subst (λ z.
          AreCounted (base z + sent_count z frames) (filter (λ x. x.sender.0 == z) (items_of f)))
          (sym i) (subst (AreCounted (base f.owner.0 + sent_count f.owner.0 frames))
          (sym (owned_items f)) counts)
      | inr ne ↦ subst (AreCounted (base s + sent_count s frames)) (sym (others_items s f ne)) tt
    ]

-- how many items of each sender there are then
pub sent-append_owner : (frames : List Frame) (f : Frame)
    → sent_count f.owner.0 (frames ++ f ∷ []) ≡ sent_count f.owner.0 frames + length (items_of f)
sent-append_owner frames f =
    ap length (of_sender-append f.owner.0 frames f)
    ∙ length-append (of_sender f.owner.0 (order_of frames)) _
    ∙ ap (λ z. sent_count f.owner.0 frames + length z) (owned_items f)

pub sent-append_other : (s : ℕ) (frames : List Frame) (f : Frame) → s ≢ f.owner.0
    → sent_count s (frames ++ f ∷ []) ≡ sent_count s frames
sent-append_other s frames f ne =
    ap length (of_sender-append s frames f) ∙ length-append (of_sender s (order_of frames)) _
    ∙ ap (λ z. sent_count s frames + length z) (others_items s f ne) ∙ (omega arith)

-- and the numbers that come next
pub next-append_owner : (base : ℕ → ℕ) (frames : List Frame) (f : Frame)
    → next_number base f.owner.0 (frames ++ f ∷ [])
    ≡ next_number base f.owner.0 frames + length (items_of f)
next-append_owner base frames f = let e = sent-append_owner frames f in omega arith

pub next-append_other : (base : ℕ → ℕ) (s : ℕ) (frames : List Frame) (f : Frame) → s ≢ f.owner.0
    → next_number base s (frames ++ f ∷ []) ≡ next_number base s frames
next-append_other base s frames f ne = let e = sent-append_other s frames f ne in omega arith

-- a sender's next number and whether it has left, where other frames say the same of it
abbrev pub SaySame : (ℕ → ℕ) → ℕ → List Frame → List Frame → Type 0
SaySame base s frames frames' =
    (next_number base s frames' ≡ next_number base s frames)
    × (has_gone s (order_of frames') ≡ has_gone s (order_of frames))

pub say_same : (base : ℕ → ℕ) (s : ℕ) (frames : List Frame) (f : Frame) → s ≢ f.owner.0
    → SaySame base s frames (frames ++ f ∷ [])
say_same base s frames f ne = (
  next-append_other base s frames f ne,
  gone-append_other s frames f ne,
)
