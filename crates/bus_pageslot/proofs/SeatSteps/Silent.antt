-- Behind a word that says nothing by itself no passed place is due: no log ends with one.
use Rattle.std.proofs.Common.{◌≡◌, ◌≢◌, ℕ, zero, suc, ◌+◌, ◌<◌, Bool, true, false, Option, Some}
use Rattle.std.proofs.Common.{None, List, [], ◌∷◌, ◌++◌, length, take, slice_get, arith, refl, sym}
use Rattle.std.proofs.Common.{◌∙◌, ap, subst}
use Rattle.std.specs.Prelude.{flat_map}
use Rattle.std.proofs.lemmas.Bool.{true≢false}
use Rattle.std.proofs.lemmas.List.{length-append, take_all, take_more}
use Rattle.std.proofs.lemmas.Option.{slice_get_within, get_or_from_slice_get}
use Rattle.std.proofs.lemmas.Grind.{common_steps}
use Rattle.bus_batch.specs.declared.messages.Item.{Item}
use Rattle.bus_batch.specs.declared.messages.Mark.TheVariants as mark
use Rattle.bus_batch.specs.declared.messages.Piece.{Piece}
use Rattle.bus_batch.specs.declared.messages.Piece.TheVariants as piece
use Rattle.bus_batch.specs.Frames.{Frame, Body, Messages, Marked, IsLog, GivesPiece, log_pieces}
use Rattle.bus_batch.specs.Frames.{item_pieces, message_pieces, body_pieces, frame_pieces}
use Rattle.bus_batch.specs.Frames.{data_len, item_of}
use Rattle.bus_batch.specs.Messages.{Numbered}
use Rattle.bus_deliverylog.specs.declared.receiving.RecvTurn.TheVariants as turn
use Rattle.bus_deliverylog.specs.Receiving.{turn_of}
use Rattle.bus_register.specs.declared.registers.SenderNo.{SenderNo}
use Rattle.bus_world.proofs.ReceivingLaws.{length-log_pieces}
use Rattle.bus_automaton.specs.Processes.{TableLayout}
use Rattle.bus_pageslot.specs.declared.listeners.Listener.{Listener}
use Rattle.bus_pageslot.specs.declared.rule.View.TheVariants.{Tap}
use Rattle.bus_pageslot.specs.Listening.{HearsWord, PassIsDue, PassesNext}
use Rattle.bus_pageslot.specs.ReceiverViews.{ReceiverView}
use Rattle.bus_pageslot.specs.Rule.{Sat, receiver_view_in, table_layout_in}
use Rattle.bus_pageslot.specs.Seats.{IsReceiverView}

-- ---- whether the last of some pieces said something
abbrev said_by : Option Piece → Bool
said_by None = false
said_by (Some p) = true

abbrev says_last : Bool → List (Option Piece) → Bool
says_last said [] = said
says_last said (p ∷ ps) = says_last (said_by p) ps

says_after : (said : Bool) (xs ys : List (Option Piece))
    → says_last said (xs ++ ys) ≡ says_last (says_last said xs) ys
says_after said [] ys = refl
says_after said (x ∷ xs) ys = says_after (said_by x) xs ys

says_item : (said : Bool) (n : ℕ) (item : Item) → says_last said (item_pieces n item) ≡ true
says_item said zero item = refl
says_item said (suc n) item = says_item false n item

says_messages : (owner : SenderNo) (messages : List Numbered)
    → says_last true (flat_map (message_pieces owner) messages) ≡ true
says_messages owner [] = refl
says_messages owner (m ∷ more) =
    let rest = flat_map (message_pieces owner) more in
    says_after true (message_pieces owner m) rest
    ∙ ap (λ said. says_last said rest)
    (says_item true (data_len (length m.message)) (item_of owner m)) ∙ says_messages owner more

says_body : (owner : SenderNo) (body : Body) → says_last true (body_pieces owner body) ≡ true
says_body owner (Messages messages) = says_messages owner messages
says_body owner (Marked mark.End) = refl
says_body owner (Marked mark.Leave) = refl

says_log : (frames : List Frame) → says_last true (log_pieces frames) ≡ true
says_log [] = refl
says_log (f ∷ more) =
    says_after true (frame_pieces f) (log_pieces more)
    ∙ ap (λ said. says_last said (log_pieces more)) (says_body f.owner f.body) ∙ says_log more

-- so the last piece of a log is none that says nothing
last_says : (frames : List Frame) (k : ℕ) → slice_get (log_pieces frames) k ≡ Some None
    → k + 1 ≡ length (log_pieces frames) → ⊥
last_says frames k here last =
    let all : List (Option Piece) = log_pieces frames in
    let none : Option Piece = None in
    let parts : all ≡ take k all ++ none ∷ [] =
    sym (take_all (k + 1) all (omega arith))
    ∙ take_more all k none (slice_get_within all k none here)
    ∙ ap (λ z. take k all ++ z ∷ []) (get_or_from_slice_get all k none none here) in
    true≢false
    (sym (says_log frames) ∙ ap (says_last true) parts ∙ says_after true (take k all) (none ∷ []))

no_plain_end : (senders : ℕ) (words : List ℕ) (got : ℕ) → GivesPiece senders words got None
    → IsLog senders (words ++ got ∷ []) → ⊥
no_plain_end senders words got gives log =
    let here = gives log.frames [] log.lawful log.words_are in
    grind (arith, common_steps, length-log_pieces, length, length-append, last_says)

-- ---- a receiver's turn
going_is_none : (found : Option Piece) → turn.Going ≡ turn_of found → found ≡ None
going_is_none None e = refl
going_is_none (Some (piece.Head t o)) e =
    absurd (let no : turn.Going ≡ turn.Head t o = e in cc)
going_is_none (Some (piece.Item i)) e = absurd (let no : turn.Going ≡ turn.Item i = e in cc)
going_is_none (Some (piece.Leave o)) e = absurd (let no : turn.Going ≡ turn.Leave o = e in cc)
going_is_none (Some piece.End) e = absurd (let no : turn.Going ≡ turn.End = e in cc)

not_due_behind : {C : Type 0} (x : TableLayout) (e : ReceiverView) (m' : Sat C)
    → HearsWord (Tap x e, []) turn.Going m' → e.place < length e.known → PassesNext m'.0 → ⊥
not_due_behind {C} x e m' h low due =
    let log : IsLog x.senders (take (e.place + 1) e.known) =
    (subst (λ (y : Sat C). PassIsDue (table_layout_in y.0) (receiver_view_in y.0)) h.finds.now
    due).2 in
    let front : take (e.place + 1) e.known ≡ take e.place e.known ++ h.got ∷ [] =
    take_more e.known e.place 0 low
    ∙ ap (λ w. take e.place e.known ++ w ∷ []) (sym h.finds.got_is) in
    no_plain_end x.senders (take e.place e.known) h.got
    (subst (GivesPiece x.senders (take e.place e.known) h.got)
    (going_is_none h.finds.found h.answer_is) h.gives)
    (subst (IsLog x.senders) front log)

pub not_due_after : {C : Type 0} {m m' : Sat C} {words : ℕ} {l : Listener}
    (h : IsReceiverView m words l) → l.reader.place ≢ l.reader.known
    → HearsWord m turn.Going m' → PassesNext m'.0 → ⊥
not_due_after {C} {m} {m'} h other heard =
    not_due_behind h.table_layout h.receiver_view m'
    (subst (λ (y : Sat C). HearsWord y turn.Going m') h.me heard)
    (let place = h.fit.place in
    let known = h.fit.known in
    let within = h.fit.within in
    omega (arith, other))
