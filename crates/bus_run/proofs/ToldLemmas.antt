-- What a sender has put is what its items carry, in what a receiver knows and in the log that this
-- begins.
use Rattle.std.proofs.Common.{◌≡◌, ℕ, zero, suc, ◌+◌, ◌⊎◌, inl, inr, Some, List, [], ◌∷◌, ◌++◌}
use Rattle.std.proofs.Common.{length, map, refl, sym, ap, subst, ◌∙◌, append_assoc, append-nil}
use Rattle.std.proofs.Common.{arith}
use Rattle.std.specs.Prelude.{slice_get, filter, flat_map, option_map, ◌==◌}
use Rattle.std.specs.Int.{w64, to_be_bytes}
use Rattle.std.proofs.lemmas.List.{length-map, length-append, nil_from_length}
use Rattle.std.proofs.lemmas.List.Concat.{flat_map-append}
use Rattle.std.proofs.lemmas.List.Elements.{filter-append}
use Rattle.std.proofs.lemmas.Option.{slice_get-map, same_Some}
use Rattle.bus_register.specs.declared.registers.SenderNo.{SenderNo}
use Rattle.bus_batch.specs.declared.messages.Item.{Item}
use Rattle.bus_batch.specs.Frames.{Frame, IsFrame, AreFramesFrom, Order, Spells, order_of, item_in}
use Rattle.bus_batch.specs.Frames.{items_in, entries_of, frame_words, log_words}
use Rattle.bus_batch.proofs.FrameLaws.{same_frame}
use Rattle.bus_deliverylog.specs.Orders.{of_sender}
use Rattle.bus_world.specs.Headline.{Action, IsPrefix, puts}
use Rattle.bus_automaton.specs.Processes.{Process}
use Rattle.bus_pageslot.specs.Steps.{KnowsSent}
use Rattle.bus_run.specs.Numbers.{numbers_below}
use Rattle.bus_run.specs.Told.{HasTold}

-- ---- numbers
pub length_numbers : (n : ℕ) → length (numbers_below n) ≡ n
length_numbers zero = refl
length_numbers (suc n) =
    let more = length-append (numbers_below n) (to_be_bytes w64 n ∷ []) in
    let rest = length_numbers n in omega arith

pub at_last : {A : Type 0} (xs : List A) (y : A) (k : ℕ) (x : A)
    → slice_get (xs ++ y ∷ []) k ≡ Some x → (slice_get xs k ≡ Some x) ⊎ ((k ≡ length xs) × (x ≡ y))
at_last [] y zero x e = inr (refl, sym (same_Some y x e))
at_last [] y (suc k) x e = absurd cc
at_last (z ∷ xs) y zero x e = inl e
at_last (z ∷ xs) y (suc k) x e = elim (at_last xs y k x e) [
  | inl l ↦ inl l
  | inr r ↦ inr (ap suc r.0, r.1)
]

-- so many numbers stand below one number alone
pub same_many : (n m : ℕ) → numbers_below n ≡ numbers_below m → n ≡ m
same_many n m e = sym (length_numbers n) ∙ ap length e ∙ length_numbers m

pub at_place : (many k : ℕ) (x : List ℕ) → slice_get (numbers_below many) k ≡ Some x
    → x ≡ to_be_bytes w64 k
at_place zero k x e = absurd cc
at_place (suc n) k x e = elim (at_last (numbers_below n) (to_be_bytes w64 n) k x e) [
  | inl l ↦ at_place n k x l
  | inr r ↦ r.1 ∙ ap (λ j. to_be_bytes w64 j) (sym (r.0 ∙ length_numbers n))
]

-- the item at a place carries the number of the place
pub carries : (items : List Item) (many k : ℕ) (i : Item)
    → map (λ (i : Item). i.message) items ≡ numbers_below many → slice_get items k ≡ Some i
    → i.message ≡ to_be_bytes w64 k
carries items many k i e at = at_place many k i.message
    (ap (λ z. slice_get z k) (sym e) ∙ slice_get-map (λ (i : Item). i.message) items k
    ∙ ap (option_map (λ (i : Item). i.message)) at)

-- ---- logs of any numbers of senders
more_senders : (n m : ℕ) (f : Frame) → IsFrame n f → IsFrame (n + m) f
more_senders n m f h = record {
  tenure = h.tenure;
  owner = (let below = h.owner in omega arith);
  owner_bits = h.owner_bits;
  body = h.body;
}

or_more : (n m : ℕ) (f : Frame) → IsFrame m f → IsFrame (n + m) f
or_more n m f h = record {
  tenure = h.tenure;
  owner = (let below = h.owner in omega arith);
  owner_bits = h.owner_bits;
  body = h.body;
}

-- the frames of a log's beginning begin its frames
begun : (n m least least' : ℕ) (fs gs : List Frame) (rest : List ℕ) → AreFramesFrom n least fs
    → AreFramesFrom m least' gs → log_words fs ++ rest ≡ log_words gs → IsPrefix fs gs
begun n m least least' [] gs rest a b e = record { rest = gs; together = refl }
begun n m least least' (f ∷ fs) [] rest a b e = absurd cc
begun n m least least' (f ∷ fs) (g ∷ gs) rest a b e =
    let s = same_frame (n + m) f g (log_words fs ++ rest) (log_words gs) (more_senders n m f a.0)
    (or_more n m g b.0) (sym (append_assoc (frame_words f) (log_words fs) rest) ∙ e) in
    let r = begun n m (f.tenure + 1) (g.tenure + 1) fs gs rest a.3 b.3 s.1 in
    record { rest = r.rest; together = (let first = s.0 in let later = r.together in cc) }

of_more : (s : ℕ) (fs more : List Frame)
    → of_sender s (order_of (fs ++ more)) ≡ of_sender s (order_of fs) ++ of_sender s (order_of more)
of_more s fs more =
    let first = flat_map entries_of fs in
    let later = flat_map entries_of more in
    ap (λ z. filter (λ (i : Item). i.sender.0 == s) (items_in z))
    (flat_map-append entries_of fs more)
    ∙ ap (filter (λ (i : Item). i.sender.0 == s)) (flat_map-append item_in first later)
    ∙ filter-append (λ (i : Item). i.sender.0 == s) (items_in first) (items_in later)

none_more : (xs ys : List Item) → length (xs ++ ys) ≡ length xs → xs ++ ys ≡ xs
none_more xs ys same =
    ap (λ z. xs ++ z) (nil_from_length ys (let all = length-append xs ys in omega arith))
    ∙ append-nil xs

-- where the log has just as many items of the sender, they are those that were told
pub told_all :
    (n s many : ℕ) (words : List ℕ) (senders : ℕ) (order : Order) (owners : List (ℕ × SenderNo))
    → HasTold n s many words → Spells senders words order owners → length (of_sender s order) ≡ many
    → map (λ (i : Item). i.message) (of_sender s order) ≡ numbers_below many
told_all n s many words senders order owners h spelled count =
    let fs = h.spelled.frames in
    let gs = spelled.frames in
    let grown = begun n senders 0 0 fs gs h.begins.rest h.spelled.lawful spelled.lawful
    (ap (λ z. z ++ h.begins.rest) h.spelled.words_are ∙ h.begins.together
    ∙ sym spelled.words_are) in
    let first : of_sender s (order_of fs) ≡ of_sender s h.order =
    ap (of_sender s) h.spelled.order_is in
    let last : of_sender s order ≡ of_sender s (order_of fs) ++ of_sender s (order_of grown.rest) =
    ap (of_sender s) (sym spelled.order_is)
    ∙ ap (λ z. of_sender s (order_of z)) (sym grown.together) ∙ of_more s fs grown.rest in
    let some : length (of_sender s h.order) ≡ many =
    sym (length-map (of_sender s h.order) (λ (i : Item). i.message)) ∙ ap length h.carried
    ∙ length_numbers many in
    let same : of_sender s order ≡ of_sender s (order_of fs) =
    last
    ∙ none_more (of_sender s (order_of fs)) (of_sender s (order_of grown.rest))
    (ap length (sym last) ∙ count ∙ sym some ∙ ap length (sym first)) in
    ap (map (λ (i : Item). i.message)) (same ∙ first) ∙ h.carried

-- the frames of a log's beginning are of its senders
owned : (n m least least' : ℕ) (fs gs : List Frame) (rest : List ℕ) → AreFramesFrom n least fs
    → AreFramesFrom m least' gs → log_words fs ++ rest ≡ log_words gs → AreFramesFrom m least fs
owned n m least least' [] gs rest a b e = tt
owned n m least least' (f ∷ fs) [] rest a b e = absurd cc
owned n m least least' (f ∷ fs) (g ∷ gs) rest a b e =
    let s = same_frame (n + m) f g (log_words fs ++ rest) (log_words gs) (more_senders n m f a.0)
    (or_more n m g b.0) (sym (append_assoc (frame_words f) (log_words fs) rest) ∙ e) in (
      subst (IsFrame m) (sym s.0) b.0,
      a.1,
      a.2,
      owned n m (f.tenure + 1) (g.tenure + 1) fs gs rest a.3 b.3 s.1,
      a.4,
    )

-- what was told of a beginning of a log is of as many senders as the log
pub told_of :
    (n senders s many : ℕ) (words log : List ℕ) (order : Order) (owners : List (ℕ × SenderNo))
    → HasTold n s many words → IsPrefix words log → Spells senders log order owners
    → HasTold senders s many words
told_of n senders s many words log order owners h grown spelled =
    let fs = h.spelled.frames in
    let gs = spelled.frames in
    let rest = h.begins.rest ++ grown.rest in
    let together : log_words fs ++ rest ≡ log_words gs =
    ap (λ z. z ++ rest) h.spelled.words_are ∙ sym (append_assoc h.front h.begins.rest grown.rest)
    ∙ ap (λ z. z ++ grown.rest) h.begins.together ∙ grown.together ∙ sym spelled.words_are in
    record {
      front = h.front;
      begins = h.begins;
      order = h.order;
      owners = h.owners;
      spelled = record {
        frames = fs;
        lawful = owned n senders 0 0 fs gs rest h.spelled.lawful spelled.lawful together;
        words_are = h.spelled.words_are;
        order_is = h.spelled.order_is;
        owners_are = h.spelled.owners_are;
      };
      carried = h.carried;
    }

-- ---- what is known
pub still_told : (n s many : ℕ) (words more : List ℕ) → HasTold n s many words → IsPrefix words more
    → HasTold n s many more
still_told n s many words more h grown = record {
  front = h.front;
  begins = record {
    rest = h.begins.rest ++ grown.rest;
    together =
        sym (append_assoc h.front h.begins.rest grown.rest)
        ∙ ap (λ z. z ++ grown.rest) h.begins.together ∙ grown.together;
  };
  order = h.order;
  owners = h.owners;
  spelled = h.spelled;
  carried = h.carried;
}

-- a sender of which nothing waits has told all that it put
pub told_now : {C : Type 0} (P : Process C) (c : C) (actions : List Action) (stored : ℕ)
    (known : List ℕ) (s many : ℕ) → KnowsSent P c actions stored known → P.me c ≡ s
    → P.waiting c ≡ [] → puts actions ≡ numbers_below many
    → HasTold (P.table_layout c).senders s many known
told_now P c actions stored known s many h me none put = record {
  front = known;
  begins = record { rest = []; together = append-nil known };
  order = h.order;
  owners = h.owners;
  spelled = h.spelled;
  carried =
      let messages = map (λ (i : Item). i.message) (of_sender s h.order) in
      sym (append-nil messages) ∙ ap (λ z. messages ++ z) (sym none)
      ∙ ap (λ k. map (λ (i : Item). i.message) (of_sender k h.order) ++ P.waiting c) (sym me)
      ∙ h.sent ∙ put;
}
