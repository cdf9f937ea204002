-- What is refused of audits, of runs, and of senders that have not sent all.
use Rattle.std.proofs.Common.{◌≡◌, ℕ, ◌+◌, ◌<◌, ◌≤◌, true, cond, ◌==◌, inl, inr, List, [], ◌∷◌}
use Rattle.std.proofs.Common.{◌++◌, length, arith, refl, sym, ap, ◌∙◌}
use Rattle.std.specs.Prelude.{filter, flat_map, slice_get}
use Rattle.std.specs.Int.{w64, to_be_bytes, from_be_bytes}
use Rattle.std.proofs.lemmas.Bool.{true≢false}
use Rattle.std.proofs.lemmas.Bool.Decides.{eqb_tells}
use Rattle.std.proofs.lemmas.List.{length-map}
use Rattle.std.proofs.lemmas.List.Elements.{All-head}
use Rattle.std.proofs.lemmas.Nat.{from_be_bytes-to_be_bytes_8}
use Rattle.std.proofs.lemmas.Option.{same_Some}
use Rattle.bus_register.specs.declared.registers.SenderNo.{SenderNo}
use Rattle.bus_batch.specs.declared.messages.Item.{Item}
use Rattle.bus_batch.specs.Frames.{Frame, Order, Spells, items_in, entries_of, order_of, log_words}
use Rattle.bus_deliverylog.specs.Orders.{of_sender}
use Rattle.bus_world.specs.declared.shapes.Shape.{Shape}
use Rattle.bus_pageslot.specs.Outcomes.{Outcome}
use Rattle.bus_pageslot.specs.Seats.{SenderSeat}
use Rattle.bus_receiver.specs.Hearing.{Hearing}
use Rattle.bus_run.specs.Audit.{IsFair, CountsAll, IsFirstFault}
use Rattle.bus_automaton.specs.ThreeWordBuses.{Held}
use Rattle.bus_run.specs.Refused.{zeros, AuditRefuses, RunRefuses, SenderRefuses, TellingRefuses}
use Rattle.bus_run.specs.Told.{HasTold}
use Rattle.bus_run.specs.declared.audits.AuditFault.TheVariants.{NotEnded}
use Rattle.bus_run.proofs.CountLemmas.{Below, below_frames}
use Rattle.bus_run.proofs.ToldLemmas.{length_numbers, at_place}

-- ---- audits
blamed_end : (order : Order) (h : Hearing) → h.ended ≡ true
    → IsFirstFault order (h ∷ []) (NotEnded 0) → ⊥
blamed_end order h ended blamed = true≢false
    (sym ended ∙ ap (λ (g : Hearing). g.ended) (same_Some h blamed.1 blamed.2) ∙ blamed.4)

pub audit_refuses : (left : Outcome) (order : Order) (owners : List (ℕ × SenderNo)) (h : Hearing)
    → Spells left.senders left.log order owners → AuditRefuses left order h
audit_refuses left order owners h spells = record {
  too_few = λ s low one passed.
      let counted = (All-head (IsFair order) h [] (passed order owners spells)).0 s low in
      omega arith;
  too_many = λ s low one passed.
      let counted = (All-head (IsFair order) h [] (passed order owners spells)).0 s low in
      omega arith;
  unended = λ none passed.
      true≢false (sym (All-head (IsFair order) h [] (passed order owners spells)).1 ∙ none);
  has_left = λ s low gone passed. true≢false (sym gone ∙ passed order owners spells s low);
  blames_an_end = λ ended blamed. blamed_end order h ended (blamed order owners spells);
}

-- ---- runs
one_number : (n m : ℕ) → n < 256 → m < 256 → to_be_bytes w64 n ≡ to_be_bytes w64 m → n ≡ m
one_number n m low low' e =
    sym (from_be_bytes-to_be_bytes_8 n (omega arith)) ∙ ap (from_be_bytes w64) e
    ∙ from_be_bytes-to_be_bytes_8 m (omega arith)

zero_not_one : to_be_bytes w64 0 ≡ to_be_bytes w64 1 → ⊥
zero_not_one e = let same = one_number 0 1 (omega arith) (omega arith) e in omega arith

pub run_refuses : (shape : Shape) (messages : ℕ) (left : Outcome) → RunRefuses shape messages left
run_refuses shape messages left = record {
  nothing_sent = λ heards one_sends some empty report.
      let spells : Spells left.senders left.log (order_of []) [] = record {
        frames = [];
        lawful = tt;
        words_are = sym empty;
        order_is = refl;
        owners_are = refl;
      } in
      let sent : 0 ≡ messages = (report.heard (order_of []) [] spells).sends 0 one_sends in
      omega arith;
  one_unsent = λ heards order owners s spells below less report.
      let sent = (report.heard order owners spells).sends s below in omega arith;
  zero_sent = λ heards order owners s item spells below at is report.
      zero_not_one (sym is ∙ (report.heard order owners spells).carried s 1 item below at);
  unclosed = λ heards order owners spells goes_on report.
      true≢false (sym (report.heard order owners spells).closed ∙ goes_on);
  one_unheard = λ h order owners spells less report.
      let all = All-head (CountsAll order) h [] (report.heard order owners spells).all in
      omega arith;
}

-- ---- senders
pub sender_refuses : (s : SenderSeat Held) → SenderRefuses s
sender_refuses s = record {
  nothing_put = λ messages some none sent.
      let same : 0 ≡ messages = ap length (sym none ∙ sent.1) ∙ length_numbers messages in
      omega arith;
  zeros_put = λ messages put sent.
      zero_not_one (at_place messages 1 zeros (ap (λ z. slice_get z 1) (sym sent.1 ∙ put)));
  one_waits = λ messages waits sent. let none = sent.0 in omega arith;
  closes_before =
      λ answer new waits closes. let none = ap length closes.closes.could.none in omega arith;
}

-- ---- what is told
nothing_said : (s : ℕ) (fs : List Frame) (rest : List ℕ) → log_words fs ++ rest ≡ []
    → length (of_sender s (order_of fs)) ≡ 0
nothing_said s [] rest e = refl
nothing_said s (f ∷ fs) rest e = absurd cc

none_of : (n s : ℕ) (items : List Item) → n ≤ s → Below n items
    → length (filter (λ (i : Item). i.sender.0 == s) items) ≡ 0
none_of n s [] past below = refl
none_of n s (i ∷ items) past below = elim (eqb_tells i.sender.0 s) [
  | inl at ↦ (let is = at.1 in let low = below.0 in absurd (omega arith))
  | inr other ↦
      let rest = filter (λ (i : Item). i.sender.0 == s) items in
      ap (λ z. length (cond z (i ∷ rest) rest)) other.0 ∙ none_of n s items past below.1
]

-- who has told a message has an item
has_item : (senders s many : ℕ) (words : List ℕ) (h : HasTold senders s (many + 1) words)
    → length (of_sender s (order_of h.spelled.frames)) ≡ many + 1
has_item senders s many words h =
    ap (λ o. length (of_sender s o)) h.spelled.order_is
    ∙ sym (length-map (of_sender s h.order) (λ (i : Item). i.message)) ∙ ap length h.carried
    ∙ length_numbers (many + 1)

pub telling_refuses : (senders s many : ℕ) → TellingRefuses senders s many
telling_refuses senders s many = record {
  untold = λ h.
      let one = has_item senders s many [] h in
      let none = nothing_said s h.spelled.frames h.begins.rest
      (ap (λ z. z ++ h.begins.rest) h.spelled.words_are ∙ h.begins.together) in
      omega arith;
  stranger = λ words past h.
      let one = has_item senders s many words h in
      let none = none_of senders s (items_in (flat_map entries_of h.spelled.frames)) past
      (below_frames senders senders 0 h.spelled.frames (omega arith) h.spelled.lawful) in
      omega arith;
}
