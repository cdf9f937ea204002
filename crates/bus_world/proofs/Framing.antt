-- The frames of a log, as owners and items that belong to each other.
use Rattle.std.proofs.Common.{◌≡◌, ◌≢◌, ℕ, zero, suc, ◌+◌, ◌<◌, true, false, inl, inr, List, []}
use Rattle.std.proofs.Common.{◌∷◌, ◌++◌, get_or, map, Some, slice_get, arith, refl, sym, ◌∙◌, ap}
use Rattle.std.proofs.Common.{subst}
use Rattle.std.specs.Prelude.{All, ◌||◌}
use Rattle.std.specs.List.{list_any}
use Rattle.std.proofs.lemmas.Bool.{eq-eqb, false≢true, or_right}
use Rattle.std.proofs.lemmas.Grind.{flat_map-append, common_steps}
use Rattle.std.proofs.lemmas.List.{length-append, length-map, map-append, get_or_append_left}
use Rattle.std.proofs.lemmas.Option.{same_Some, slice_get_within, get_or_from_slice_get}
use Rattle.std.proofs.lemmas.List.Elements.{All-map}
use Rattle.bus_register.specs.declared.registers.SenderNo.{SenderNo}
use Rattle.bus_batch.specs.Messages.{Numbered}
use Rattle.bus_batch.specs.declared.messages.Mark.TheVariants as mark
use Rattle.bus_batch.specs.Frames.{Frame, Body, Messages, Marked, Entry, Says, Leaves, IsBody}
use Rattle.bus_batch.specs.Frames.{AreFrames, AreFramesFrom, order_of, has_end, has_gone}
use Rattle.bus_batch.specs.Frames.{is_leave_of, ends, sender_of, entries_of, body_entries, item_of}
use Rattle.bus_batch.specs.Frames.{tenure_and_owner, log_pieces, frame_pieces}
use Rattle.bus_batch.proofs.PieceLaws.{order_in-log}
use Rattle.bus_deliverylog.specs.Orders.{IsPrefixOfOrder}
use Rattle.bus_deliverylog.proofs.PrefixLaws.{order_in-prefix}
use Rattle.bus_world.specs.Headline.{AreFramed, Nothing, TheEnd, Batch, LastOf, IsPrefix}
use Rattle.bus_world.proofs.Places.{got_split, none_in}
use Rattle.bus_batch.specs.declared.messages.Item.{Item}

own_items : (o : SenderNo) (ms : List Numbered) → All (λ i. i.sender ≡ o) (map (item_of o) ms)
own_items o ms = All-map (λ i. i.sender ≡ o) (item_of o) ms (λ k d l. refl)

said : (o : SenderNo) (ms : List Numbered)
    → map Says (map (item_of o) ms) ≡ map (λ m. Says (item_of o m)) ms
said o [] = refl
said o (m ∷ ms) = ap (λ z. Says (item_of o m) ∷ z) (said o ms)

framed_by : (t : ℕ) (o : SenderNo) (b : Body) (fs : List Frame) → IsBody b
    → (b ≡ Marked mark.End → fs ≡ []) → (b ≡ Marked mark.Leave → All (λ g. g.owner ≢ o) fs)
    → AreFramed (map tenure_and_owner fs) (order_of fs).entries (has_end fs)
    → AreFramed ((t, o) ∷ map tenure_and_owner fs) (body_entries o b ++ (order_of fs).entries)
    (ends b || has_end fs)
framed_by t o (Messages ms) fs body last gone rest = subst
    (λ z. AreFramed ((t, o) ∷ map tenure_and_owner fs) (z ++ (order_of fs).entries) (has_end fs))
    (said o ms)
    (Batch t o (map (item_of o) ms) (map tenure_and_owner fs) (order_of fs).entries (has_end fs)
    (let many = length-map ms (item_of o) in let some = body.0 in omega arith) (own_items o ms)
    rest)
framed_by t o (Marked mark.End) fs body last gone rest = subst
    (λ z.
    AreFramed ((t, o) ∷ map tenure_and_owner z) ([] ++ (order_of z).entries) (true || has_end z))
    (sym (last refl)) (TheEnd t o)
framed_by t o (Marked mark.Leave) fs body last gone rest = LastOf t o (map tenure_and_owner fs)
    (order_of fs).entries (has_end fs) (All-map (λ p. p.1 ≢ o) tenure_and_owner fs (gone refl)) rest

pub framed : (senders least : ℕ) (fs : List Frame) → AreFramesFrom senders least fs
    → AreFramed (map tenure_and_owner fs) (order_of fs).entries (has_end fs)
framed senders least [] lawful = Nothing
framed senders least (f ∷ fs) lawful = framed_by f.tenure f.owner f.body fs lawful.0.body lawful.2
    lawful.4 (framed senders (f.tenure + 1) fs lawful.3)

-- ---- what the entries of a log come of
-- the frame that an entry is of
pub record IsOf (fs : List Frame) (e : Entry) : Type 0 where
  pub place : ℕ
  pub frame : Frame
  pub at : slice_get fs place ≡ Some frame
  pub own : sender_of e ≡ frame.owner
  -- a leave mark's frame says that alone
  pub left : (s : SenderNo) → e ≡ Leaves s → frame.body ≡ Marked mark.Leave

-- of a frame that entry is its owner's, and where it is a leave mark it is the only one
record IsEntryOf (o : SenderNo) (b : Body) (k : ℕ) (e : Entry) : Type 0 where
  own : sender_of e ≡ o
  left : (s : SenderNo) → e ≡ Leaves s → b ≡ Marked mark.Leave

pub says_apart : (i : Item) (s : SenderNo) → Says i ≡ Leaves s → ⊥
says_apart i s e = cc

said_at : (o : SenderNo) (b : Body) (ms : List Numbered) (k : ℕ) (e : Entry)
    → slice_get (map (λ m. Says (item_of o m)) ms) k ≡ Some e → IsEntryOf o b k e
said_at o b [] k e at = absurd (none_in k e at)
said_at o b (m ∷ ms) zero e at = grind (arith, common_steps, same_Some, says_apart)
said_at o b (m ∷ ms) (suc k) e at =
    let r = said_at o b ms k e at in record { own = r.own; left = r.left }

entry_at : (o : SenderNo) (b : Body) (k : ℕ) (e : Entry) → slice_get (body_entries o b) k ≡ Some e
    → IsEntryOf o b k e
entry_at o (Messages ms) k e at = said_at o (Messages ms) ms k e at
entry_at o (Marked mark.End) k e at = absurd (none_in k e at)
entry_at o (Marked mark.Leave) zero e at = grind (arith, common_steps, same_Some)
entry_at o (Marked mark.Leave) (suc k) e at = absurd (none_in k e at)

pub entry_of : (fs : List Frame) (k : ℕ) (e : Entry) → slice_get (order_of fs).entries k ≡ Some e
    → IsOf fs e
entry_of [] k e at = absurd (none_in k e at)
entry_of (f ∷ fs) k e at = elim (got_split (entries_of f) (order_of fs).entries k e at) [
  | inl here ↦
      (let r = entry_at f.owner f.body k e here in
      record { place = 0; frame = f; at = refl; own = r.own; left = r.left })
  | inr later ↦
      (let r = entry_of fs later.0 e later.2 in
      record { place = suc r.place; frame = r.frame; at = r.at; own = r.own; left = r.left })
]

-- whoever has a leave mark has left
marked_gone : (entries : List Entry) (k : ℕ) (s : SenderNo) → slice_get entries k ≡ Some (Leaves s)
    → list_any (is_leave_of s.0) entries ≡ true
marked_gone [] k s at = absurd (none_in k (Leaves s) at)
marked_gone (e ∷ entries) zero s at = grind (arith, common_steps, same_Some, eq-eqb)
marked_gone (e ∷ entries) (suc k) s at =
    or_right (is_leave_of s.0 e) (list_any (is_leave_of s.0) entries) (marked_gone entries k s at)

pub has_left : (fs : List Frame) (k : ℕ) (s : SenderNo)
    → slice_get (order_of fs).entries k ≡ Some (Leaves s) → has_gone s.0 (order_of fs) ≡ true
has_left fs k s at = marked_gone (order_of fs).entries k s at

-- nothing of an owner is in frames of others
none_of : (o : SenderNo) (fs : List Frame) → All (λ g. g.owner ≢ o) fs → (k : ℕ) (e : Entry)
    → slice_get (order_of fs).entries k ≡ Some e → sender_of e ≢ o
none_of o fs others k e at same =
    let r = entry_of fs k e at in
    let is : get_or fs r.place r.frame ≡ r.frame =
    get_or_from_slice_get fs r.place r.frame r.frame r.at in
    others r.place r.frame (slice_get_within fs r.place r.frame r.at)
    (ap (λ (z : Frame). z.owner) is ∙ sym r.own ∙ same)

one_entry : (o : SenderNo) (b : Body) (k : ℕ) (e : Entry) → b ≡ Marked mark.Leave
    → slice_get (body_entries o b) k ≡ Some e → k ≡ 0
one_entry o b zero e is at = refl
one_entry o b (suc k) e is at =
    absurd (none_in k e (ap (λ z. slice_get (body_entries o z) (suc k)) (sym is) ∙ at))

-- nothing of a sender follows its leave mark
pub gone_for_good : (senders least : ℕ) (fs : List Frame) → AreFramesFrom senders least fs
    → (s : SenderNo) (j k : ℕ) (e : Entry) → slice_get (order_of fs).entries j ≡ Some (Leaves s)
    → j < k → slice_get (order_of fs).entries k ≡ Some e → sender_of e ≢ s
gone_for_good senders least [] lawful s j k e at l later = absurd (none_in j (Leaves s) at)
gone_for_good senders least (f ∷ fs) lawful s j k e at l later =
    elim (got_split (entries_of f) (order_of fs).entries j (Leaves s) at) [
      | inl here ↦
          let r = entry_at f.owner f.body j (Leaves s) here in
          let left = r.left s refl in
          elim (got_split (entries_of f) (order_of fs).entries k e later) [
            | inl near ↦ absurd (let z = one_entry f.owner f.body k e left near in omega arith)
            | inr far ↦ (λ same. none_of f.owner fs (lawful.4 left) far.0 e far.2 (same ∙ r.own))
          ]
      | inr there ↦ elim (got_split (entries_of f) (order_of fs).entries k e later) [
        | inl near ↦ absurd (let within = slice_get_within (entries_of f) k e near in
            let past = there.1 in omega arith)
        | inr far ↦ gone_for_good senders (f.tenure + 1) fs lawful.3 s there.0 far.0 e there.2
            (let a = there.1 in let b = far.1 in omega arith) far.2
      ]
    ]

-- ---- the last frame of an ended log
pub record LastFrame (fs : List Frame) : Type 0 where
  pub front : List Frame
  pub frame : Frame
  pub frames_are : fs ≡ front ++ frame ∷ []
  pub place : ℕ
  pub at : slice_get fs place ≡ Some frame
  pub ends : frame.body ≡ Marked mark.End

frame_more : (f : Frame) (fs : List Frame) → LastFrame fs → LastFrame (f ∷ fs)
frame_more f fs l = record {
  front = f ∷ l.front;
  frame = l.frame;
  frames_are = ap (λ z. f ∷ z) l.frames_are;
  place = suc l.place;
  at = l.at;
  ends = l.ends;
}

last_by : (f : Frame) (fs : List Frame) (b : Body) → f.body ≡ b
    → (f.body ≡ Marked mark.End → fs ≡ []) → (ends b || has_end fs) ≡ true
    → (has_end fs ≡ true → LastFrame fs) → LastFrame (f ∷ fs)
last_by f fs (Marked mark.End) is last e rest = record {
  front = [];
  frame = f;
  frames_are = ap (λ z. f ∷ z) (last is);
  place = 0;
  at = refl;
  ends = is;
}
last_by f fs (Messages ms) is last e rest = frame_more f fs (rest e)
last_by f fs (Marked mark.Leave) is last e rest = frame_more f fs (rest e)

pub last_frame : (senders least : ℕ) (fs : List Frame) → AreFramesFrom senders least fs
    → has_end fs ≡ true → LastFrame fs
last_frame senders least [] lawful e = absurd (false≢true e)
last_frame senders least (f ∷ fs) lawful e =
    last_by f fs f.body refl lawful.2 e (last_frame senders (f.tenure + 1) fs lawful.3)

-- ---- the frames before the last one
pub not_nil : (front : List Frame) (f : Frame) → front ++ f ∷ [] ≡ [] → ⊥
not_nil [] f e = cc
not_nil (g ∷ front) f e = cc

no_end : (front : List Frame) (f : Frame) (b : Body) → (b ≡ Marked mark.End → front ++ f ∷ [] ≡ [])
    → ends b ≡ false
no_end front f (Messages ms) last = refl
no_end front f (Marked mark.Leave) last = refl
no_end front f (Marked mark.End) last = absurd (not_nil front f (last refl))

pub all_before : (P : Frame → Type 0) (front more : List Frame) → All P (front ++ more)
    → All P front
all_before P front more all k d l = subst P (get_or_append_left front more d k l)
    (all k d (let many = length-append front more in omega arith))

pub front_lawful : (senders least : ℕ) (front : List Frame) (f : Frame)
    → AreFramesFrom senders least (front ++ f ∷ [])
    → AreFramesFrom senders least front × (has_end front ≡ false)
front_lawful senders least [] f lawful = (tt, refl)
front_lawful senders least (g ∷ front) f lawful =
    let rest = front_lawful senders (g.tenure + 1) front f lawful.3 in (
      (
        lawful.0,
        lawful.1,
        (λ e. absurd (not_nil front f (lawful.2 e))),
        rest.0,
        (λ e. all_before (λ h. h.owner ≢ g.owner) front (f ∷ []) (lawful.4 e)),
      ),
      ap (λ b. b || has_end front) (no_end front f g.body lawful.2) ∙ rest.1,
    )

-- ---- a log that has grown
pub order_grows : (senders : ℕ) (frames more : List Frame) → AreFrames senders (frames ++ more)
    → IsPrefixOfOrder (order_of frames) (order_of (frames ++ more))
order_grows senders frames more lawful = subst (λ z. IsPrefixOfOrder z (order_of (frames ++ more)))
    (order_in-log frames) (order_in-prefix senders (frames ++ more) (log_pieces frames)
    (log_pieces more) lawful (flat_map-append frame_pieces frames more))

pub owners_grow : (frames more : List Frame)
    → IsPrefix (map tenure_and_owner frames) (map tenure_and_owner (frames ++ more))
owners_grow frames more = grind (arith, common_steps, map, map-append)
