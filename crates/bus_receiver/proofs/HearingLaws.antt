-- A listener counts just what it takes, and notes who has left.
use Rattle.std.proofs.Common.{◌≡◌, ℕ, ◌+◌, ◌<◌, Bool, true, false, cond, ◌&&◌, ◌||◌, ◌==◌, nat_lt}
use Rattle.std.proofs.Common.{inl, inr, List, [], ◌∷◌, length, slice_index, slice_set, slice_get}
use Rattle.std.proofs.Common.{Some, arith, refl, sym, ◌∙◌, ap}
use Rattle.std.specs.Prelude.{count_by, replicate}
use Rattle.std.proofs.Math.Bool.{or-false, or-true, or_assoc}
use Rattle.std.proofs.lemmas.Bool.{and_parts}
use Rattle.std.proofs.lemmas.Bool.Decides.{nat_tests, eqb_tells}
use Rattle.std.proofs.lemmas.List.{get_or-set_same, get_or-set_other, get_or-replicate}
use Rattle.std.proofs.lemmas.List.{length-append}
use Rattle.std.proofs.lemmas.List.Sums.{sum_by-append}
use Rattle.std.proofs.lemmas.Option.{slice_get_read}
use Rattle.std.proofs.Math.ListN.{length-set}
use Rattle.bus_register.specs.Private.TableLaws.{get_set_same, get_set_other}
use Rattle.bus_register.specs.declared.limits.TheConstants.{MOST_SENDERS}
use Rattle.bus_register.specs.declared.registers.SenderNo.{SenderNo}
use Rattle.bus_batch.specs.declared.messages.Item.{Item}
use Rattle.bus_deliverylog.specs.declared.receiving.RecvTurn.{RecvTurn}
use Rattle.bus_deliverylog.specs.declared.receiving.RecvTurn.TheVariants as turn
use Rattle.bus_receiver.specs.Hearing.{Hearing, nothing_after, goes_on, has_room, is_there}
use Rattle.bus_receiver.specs.Hearing.{expected, takes, hearing_after}
use Rattle.bus_receiver.specs.HearingRuns.{hears, item_taken, hearing_after_all, items_taken}
use Rattle.bus_receiver.specs.HearingRuns.{is_leave_of, takes_leave}

-- one answer more
abbrev CountsOne : ℕ → Hearing → Hearing → List Item → Type 0
CountsOne s old new items =
    (slice_index new.counts s
    ≡ slice_index old.counts s + count_by (λ item. item.sender.0 == s) items)
    × (length new.counts ≡ MOST_SENDERS) × (new.items ≡ old.items + length items)

nothing_more : (s : ℕ) (h : Hearing) → length h.counts ≡ MOST_SENDERS → (b : Bool)
    → CountsOne s h (cond b h h) (cond b [] [])
nothing_more s h e true = (omega arith, e, omega arith)
nothing_more s h e false = (omega arith, e, omega arith)

below_most : (h : Hearing) (sender : ℕ) → is_there h sender ≡ true → sender < MOST_SENDERS
below_most h sender is =
    let t = (and_parts (nat_lt sender MOST_SENDERS) _ is).0 in grind (arith, nat_tests, t)

one_item : (s : ℕ) (h : Hearing) (item : Item) → length h.counts ≡ MOST_SENDERS → (b : Bool)
    → takes h (turn.Item item) ≡ b
    → CountsOne s h (cond b (hearing_after h (turn.Item item)) h) (cond b (item ∷ []) [])
one_item s h item e false is = (omega arith, e, omega arith)
one_item s h item e true is =
    let fits =
    (and_parts (goes_on h && has_room h)
    (is_there h item.sender.0 && (item.number == expected h item.sender.0)) is).1 in
    let below = below_most h item.sender.0
    (and_parts (is_there h item.sender.0) (item.number == expected h item.sender.0) fits).0 in
    let now : ℕ = slice_index h.counts item.sender.0 + 1 in
    let many = length-set h.counts item.sender.0 now in
    elim (eqb_tells item.sender.0 s) [
      | inl own ↦
          let here = get_or-set_same h.counts item.sender.0 now 0 (omega arith) in
          let one : count_by (λ i. i.sender.0 == s) (item ∷ []) ≡ 1 =
          ap (λ z. 0 + cond z 1 0) own.0 in
          let there : slice_index (slice_set h.counts item.sender.0 now) s ≡ now =
          ap (slice_index (slice_set h.counts item.sender.0 now)) (sym own.1) ∙ here in
          let old : slice_index h.counts s ≡ slice_index h.counts item.sender.0 =
          ap (slice_index h.counts) (sym own.1) in
          (omega arith, many ∙ e, omega arith)
      | inr other ↦
          let none : count_by (λ i. i.sender.0 == s) (item ∷ []) ≡ 0 =
          ap (λ z. 0 + cond z 1 0) other.0 in
          let same = get_or-set_other h.counts item.sender.0 s now 0 (λ z. other.1 (sym z)) in
          (omega arith, many ∙ e, omega arith)
    ]

-- an answer that only notes who left
same_counts : (s : ℕ) (h : Hearing) (left : List Bool) → length h.counts ≡ MOST_SENDERS → (b : Bool)
    → CountsOne s h (cond b (record h { left = left }) h) (cond b [] [])
same_counts s h left e true = (omega arith, e, omega arith)
same_counts s h left e false = (omega arith, e, omega arith)

counts_one : (s : ℕ) (h : Hearing) (t : RecvTurn) → length h.counts ≡ MOST_SENDERS
    → CountsOne s h (hears h t) (item_taken h t)
counts_one s h turn.Going e = nothing_more s h e (goes_on h)
counts_one s h turn.Empty e = nothing_more s h e (goes_on h)
counts_one s h (turn.Head tenure owner) e = nothing_more s h e (goes_on h)
counts_one s h (turn.Item item) e = one_item s h item e (takes h (turn.Item item)) refl
counts_one s h (turn.Leave sender) e =
    same_counts s h (slice_set h.left sender.0 true) e (takes h (turn.Leave sender))
counts_one s h turn.End e = (omega arith, e, omega arith)

-- any answers
counts_all : (s : ℕ) (turns : List RecvTurn) (h : Hearing) → length h.counts ≡ MOST_SENDERS
    → (slice_index (hearing_after_all h turns).counts s
    ≡ slice_index h.counts s + count_by (λ item. item.sender.0 == s) (items_taken h turns))
    × ((hearing_after_all h turns).items ≡ h.items + length (items_taken h turns))
counts_all s [] h e = (omega arith, omega arith)
counts_all s (t ∷ turns) h e =
    let one = counts_one s h t e in
    let rest = counts_all s turns (hears h t) one.1 in
    let a = rest.0 in
    let b = rest.1 in
    let c = one.0 in
    let d = one.2 in
    let sums = sum_by-append (λ item. cond (item.sender.0 == s) 1 0) (item_taken h t)
    (items_taken (hears h t) turns) in
    let lengths = length-append (item_taken h t) (items_taken (hears h t) turns) in
    (omega (arith, sums), omega (arith, lengths))

module _ (bases : List ℕ) (turns : List RecvTurn) where
  pub counts_each : (s : ℕ) → s < MOST_SENDERS
      → slice_index (hearing_after_all (nothing_after bases) turns).counts s
      ≡ count_by (λ item. item.sender.0 == s) (items_taken (nothing_after bases) turns)
  counts_each s l =
      let all = (counts_all s turns (nothing_after bases) refl).0 in
      let zero_is : slice_index (replicate MOST_SENDERS 0) s ≡ 0 =
      get_or-replicate MOST_SENDERS s 0 0 l in
      omega arith

  pub counts_items : (hearing_after_all (nothing_after bases) turns).items
      ≡ length (items_taken (nothing_after bases) turns)
  counts_items = let all = (counts_all 0 turns (nothing_after bases) refl).1 in omega arith

-- ---- who has left
-- one answer more, which says of a sender that it has left, or does not
abbrev NotesOne : ℕ → Bool → Hearing → Hearing → Bool → Type 0
NotesOne s b old new says =
    (slice_get new.left s ≡ Some (b || says)) × (length new.left ≡ length old.left)

notes_none : (s : ℕ) (b : Bool) (old new : Hearing) → slice_get old.left s ≡ Some b
    → new.left ≡ old.left → NotesOne s b old new false
notes_none s b old new is same = (
  ap (λ l. slice_get l s) same ∙ is ∙ ap Some (sym (or-false b)),
  ap length same,
)

notes_nothing : (s : ℕ) (b : Bool) (old new : Hearing) → slice_get old.left s ≡ Some b
    → new.left ≡ old.left → (c : Bool) → NotesOne s b old (cond c new old) (c && false)
notes_nothing s b old new is same true = notes_none s b old new is same
notes_nothing s b old new is same false = notes_none s b old old is refl

one_leave : (s o : ℕ) (b : Bool) (h : Hearing) → slice_get h.left s ≡ Some b → o < length h.left
    → NotesOne s b h (record h { left = slice_set h.left o true }) (o == s)
one_leave s o b h is within = elim (eqb_tells o s) [
  | inl own ↦
      let here = get_set_same h.left o true within in (
        ap (slice_get (slice_set h.left o true)) (sym own.1) ∙ here
            ∙ ap Some (sym (ap (λ d. b || d) own.0 ∙ or-true b)),
        length-set h.left o true,
      )
  | inr other ↦
      let there = get_set_other h.left o true s (λ e. other.1 (sym e)) in
      (there ∙ is ∙ ap Some (sym (ap (λ d. b || d) other.0 ∙ or-false b)), length-set h.left o true)
]

maybe_leaves : (s : ℕ) (o : SenderNo) (b : Bool) (h : Hearing) → slice_get h.left s ≡ Some b
    → length h.left ≡ MOST_SENDERS → (c : Bool) → takes h (turn.Leave o) ≡ c
    → NotesOne s b h (cond c (record h { left = slice_set h.left o.0 true }) h) (c && (o.0 == s))
maybe_leaves s o b h is many false taken = notes_none s b h h is refl
maybe_leaves s o b h is many true taken =
    let below = below_most h o.0 (and_parts (goes_on h) (is_there h o.0) taken).1 in
    one_leave s o.0 b h is (omega (arith, below, many))

notes_one : (s : ℕ) (b : Bool) (h : Hearing) (t : RecvTurn) → slice_get h.left s ≡ Some b
    → length h.left ≡ MOST_SENDERS → NotesOne s b h (hears h t) (takes h t && is_leave_of s t)
notes_one s b h turn.Going is many = notes_nothing s b h h is refl (goes_on h)
notes_one s b h turn.Empty is many = notes_nothing s b h h is refl (goes_on h)
notes_one s b h (turn.Head tenure owner) is many = notes_nothing s b h h is refl (goes_on h)
notes_one s b h (turn.Item item) is many =
    notes_nothing s b h (hearing_after h (turn.Item item)) is refl (takes h (turn.Item item))
notes_one s b h (turn.Leave o) is many = maybe_leaves s o b h is many (takes h (turn.Leave o)) refl
notes_one s b h turn.End is many = notes_none s b h (hearing_after h turn.End) is refl

notes_all : (s : ℕ) (b : Bool) (turns : List RecvTurn) (h : Hearing) → slice_get h.left s ≡ Some b
    → length h.left ≡ MOST_SENDERS
    → slice_get (hearing_after_all h turns).left s ≡ Some (b || takes_leave s h turns)
notes_all s b [] h is many = is ∙ ap Some (sym (or-false b))
notes_all s b (t ∷ turns) h is many =
    let one = notes_one s b h t is many in
    notes_all s (b || (takes h t && is_leave_of s t)) turns (hears h t) one.0 (one.1 ∙ many)
    ∙ ap Some (or_assoc b (takes h t && is_leave_of s t) (takes_leave s (hears h t) turns))

pub notes_leaves : (bases : List ℕ) (turns : List RecvTurn) (s : ℕ) → s < MOST_SENDERS
    → slice_get (hearing_after_all (nothing_after bases) turns).left s
    ≡ Some (takes_leave s (nothing_after bases) turns)
notes_leaves bases turns s l = notes_all s false turns (nothing_after bases)
    (slice_get_read (replicate MOST_SENDERS false) MOST_SENDERS s false refl l
    (sym (get_or-replicate MOST_SENDERS s false false l))) refl
