-- A turn of a receiver keeps what ties its trail to its place.
use Rattle.std.proofs.Common.{◌≡◌, ◌≢◌, ℕ, zero, suc, ◌+◌, ◌<◌, ◌≤◌, Bool, true, false, ◌||◌}
use Rattle.std.proofs.Common.{Option, Some, None, ◌⊎◌, inl, inr, List, [], ◌∷◌, ◌++◌, length, map}
use Rattle.std.proofs.Common.{flat_map, take, drop, slice_get, slice_index, arith, refl, sym, ◌∙◌}
use Rattle.std.proofs.Common.{ap, subst, ◌==◌, cond}
use Rattle.std.specs.List.{list_any}
use Rattle.std.proofs.Math.Bool.{or-false}
use Rattle.std.proofs.lemmas.Bool.{cases_eq, cases_lt, or_right}
use Rattle.std.proofs.lemmas.Bool.Decides.{eqb_tells}
use Rattle.std.proofs.lemmas.Grind.{flat_map-append, common_steps}
use Rattle.std.proofs.lemmas.List.{append-nil, length-append, take-append-le, take-append-drop}
use Rattle.std.proofs.lemmas.List.{take_more}
use Rattle.std.proofs.lemmas.List.Folds.{list_any-append}
use Rattle.std.proofs.lemmas.Option.{same_Some, slice_get_within, get_or_from_slice_get}
use Rattle.bus_batch.specs.declared.messages.Piece.{Piece}
use Rattle.bus_batch.specs.declared.messages.Piece.TheVariants as piece
use Rattle.bus_batch.specs.Frames.{Frame, Order, Entry, AreFrames, log_words, log_pieces}
use Rattle.bus_batch.specs.Frames.{frame_words, order_of, order_in, owners_in, piece_entries}
use Rattle.bus_batch.specs.Frames.{piece_owners, is_end, tenure_and_owner}
use Rattle.bus_batch.proofs.PieceLaws.{owners_in-log}
use Rattle.bus_deliverylog.specs.Orders.{IsPrefixOfOrder}
use Rattle.bus_deliverylog.specs.Receiving.{Receiving, LogReading, turn_of, passing_due}
use Rattle.bus_deliverylog.specs.Receiving.{with_leave}
use Rattle.bus_deliverylog.specs.declared.receiving.RecvTurn.{RecvTurn}
use Rattle.bus_deliverylog.specs.declared.receiving.RecvTurn.TheVariants as heard
use Rattle.bus_world.proofs.ReceivingLaws.{given_is_prefix, length-log_pieces, next_word}
use Rattle.bus_world.specs.Headline.{entry_heard, end_heard, head_heard, order_given, heads}
use Rattle.bus_world.specs.Headline.{IsPrefix}
use Rattle.bus_world.proofs.Places.{got_split, only_one}
use Rattle.bus_world.proofs.Tying.{Hears, IsSilent, WasTold}
use Rattle.bus_world.specs.Trails.{answers_joined}
use Rattle.bus_world.specs.World.{RecvDoes, RecvStep, recv_found}
use Rattle.bus_world.specs.Private.Receiving.{Receives, IsFoundIn}
use Rattle.bus_world.proofs.WorldLaws.{received}

-- ---- what one answer adds
abbrev pub more_order : Order → List Entry → Bool → Order
more_order o entries ended = record { entries = o.entries ++ entries; ended = o.ended || ended }

pub order_so : (entries entries' : List Entry) (a b : Bool) → entries ≡ entries' → a ≡ b
    → ◌≡◌ {A = Order} (record { entries = entries; ended = a })
    (record { entries = entries'; ended = b })
order_so entries entries' a b e f = cc

pub given_more : (trail : List RecvTurn) (a : RecvTurn)
    → order_given (trail ++ a ∷ []) ≡ more_order (order_given trail) (entry_heard a) (end_heard a)
given_more trail a =
    grind (arith, order_so, flat_map-append, flat_map, append-nil, list_any-append, or-false)

pub heads_more : (trail : List RecvTurn) (a : RecvTurn)
    → heads (trail ++ a ∷ []) ≡ heads trail ++ head_heard a
heads_more trail a = grind (arith, common_steps, flat_map-append, flat_map, append-nil)

pub order_more : (pieces : List (Option Piece)) (p : Option Piece)
    → order_in (pieces ++ p ∷ []) ≡ more_order (order_in pieces) (piece_entries p) (is_end p)
order_more pieces p =
    grind (arith, order_so, flat_map-append, flat_map, append-nil, list_any-append, or-false)

pub owners_more : (pieces : List (Option Piece)) (p : Option Piece)
    → owners_in (pieces ++ p ∷ []) ≡ owners_in pieces ++ piece_owners p
owners_more pieces p = grind (arith, common_steps, flat_map-append, flat_map, append-nil)

-- an answer tells its piece
pub entry_told : (p : Option Piece) → entry_heard (turn_of p) ≡ piece_entries p
entry_told None = refl
entry_told (Some (piece.Head t o)) = refl
entry_told (Some (piece.Item i)) = refl
entry_told (Some (piece.Leave s)) = refl
entry_told (Some piece.End) = refl

pub end_told : (p : Option Piece) → end_heard (turn_of p) ≡ is_end p
end_told None = refl
end_told (Some (piece.Head t o)) = refl
end_told (Some (piece.Item i)) = refl
end_told (Some (piece.Leave s)) = refl
end_told (Some piece.End) = refl

pub head_told : (p : Option Piece) → head_heard (turn_of p) ≡ piece_owners p
head_told None = refl
head_told (Some (piece.Head t o)) = refl
head_told (Some (piece.Item i)) = refl
head_told (Some (piece.Leave s)) = refl
head_told (Some piece.End) = refl

nothing_more : (o : Order) → more_order o [] false ≡ o
nothing_more o = order_so _ _ _ _ (append-nil o.entries) (or-false o.ended)

or_left : (a b : Bool) → a ≡ true → (a || b) ≡ a
or_left true b e = refl
or_left false b e = absurd cc

-- ---- a log that has grown
pub hears_later : (frames more : List Frame) (v : Receiving) (trail : List RecvTurn)
    → v.place ≤ length (log_words frames) → Hears frames v trail → Hears (frames ++ more) v trail
hears_later frames more v trail l h =
    grind (arith, common_steps, length-log_pieces, take, flat_map-append, take-append-le)

-- answers of nobody stay answers of nobody
pub told_later : (frames more : List Frame) (trail : List RecvTurn) → WasTold frames trail
    → WasTold (frames ++ more) trail
told_later frames more trail told = elim told [
  | inl none ↦ inl none
  | inr was ↦
      let low = was.1 in
      let longer = ap length (flat_map-append frame_words frames more)
      ∙ length-append (log_words frames) (log_words more) in
      inr (was.0, (omega arith), hears_later frames more was.0 trail low was.2)
]

-- ---- a receiver that has left for good
pub hears_left : (frames : List Frame) (v : Receiving) (trail : List RecvTurn)
    → Hears frames v trail → Hears frames (with_leave v) trail
hears_left frames v trail h = assumption

-- ---- after the end
end_given : (trail : List RecvTurn) (j : ℕ) → slice_get trail j ≡ Some heard.End
    → (order_given trail).ended ≡ true
end_given [] j e = absurd cc
end_given (x ∷ trail) zero e = ap (λ z. end_heard z || list_any end_heard trail) (same_Some _ _ e)
end_given (x ∷ trail) (suc j) e =
    or_right (end_heard x) (list_any end_heard trail) (end_given trail j e)

silent_more : (trail : List RecvTurn) (answer : RecvTurn) → IsSilent trail
    → (answer ≡ heard.End) ⊎ ((order_given trail).ended ≡ false) → IsSilent (trail ++ answer ∷ [])
silent_more trail answer h how j k a at l here =
    grind (arith, common_steps, got_split, slice_get_within, only_one, end_given)

-- an answer that tells nothing, of a receiver that stays where it is
record Tells_nothing (v next : Receiving) (answer : RecvTurn) : Type 0 where
  entries : entry_heard answer ≡ []
  ends : end_heard answer ≡ false
  head : head_heard answer ≡ []
  place : next.place ≡ v.place
  ended : next.ended ≡ v.ended

module _ (frames : List Frame) (v : Receiving) (trail : List RecvTurn) (h : Hears frames v trail)
    (answer : RecvTurn) (next : Receiving) where
  quiet : v.ended ≡ false → Tells_nothing v next answer → Hears frames next (trail ++ answer ∷ [])
  quiet on q = grind (arith, given_more, nothing_more, take, heads_more, append-nil, silent_more)

  -- it has the next piece
  good : v.ended ≡ false → (found : Option Piece)
      → slice_get (log_pieces frames) v.place ≡ Some found → answer ≡ turn_of found
      → next.place ≡ v.place + 1 → next.ended ≡ is_end found
      → Hears frames next (trail ++ answer ∷ [])
  good on found at told place_is ended_is =
      let pieces : take next.place (log_pieces frames)
      ≡ take v.place (log_pieces frames) ++ found ∷ [] =
      ap (λ z. take z (log_pieces frames)) place_is
      ∙ take_more (log_pieces frames) v.place found
      (slice_get_within (log_pieces frames) v.place found at)
      ∙ ap (λ z. take v.place (log_pieces frames) ++ z ∷ [])
      (get_or_from_slice_get (log_pieces frames) v.place found found at) in
      let entries : entry_heard answer ≡ piece_entries found =
      ap entry_heard told ∙ entry_told found in
      let ends : end_heard answer ≡ is_end found = ap end_heard told ∙ end_told found in
      record {
        given_is = grind (arith, common_steps, given_more, order_more, take);
        heads_are = grind (arith, common_steps, heads_more, take, head_told, owners_more);
        ended = λ e. grind (arith, common_steps, given_more, or_right);
        going = λ e. grind (arith, common_steps, given_more);
        silent = silent_more trail answer h.silent (inr (h.going on));
      }

  -- after the end it hears of it again
  again : v.ended ≡ true → answer ≡ heard.End → next ≡ v → Hears frames next (trail ++ answer ∷ [])
  again e told same =
      grind (arith, given_more, order_so, append-nil, or_left, heads_more, take, silent_more)

-- of frames whose words are so many, by the number that it finds
module _ (n : ℕ) (frames : List Frame) (len : ℕ) (lawful : AreFrames n frames)
    (size : length (log_words frames) ≡ len) (v : Receiving) (senders : v.frames.senders ≡ n)
    (own : Receives n frames len v.place v.known v.frames) (trail : List RecvTurn)
    (h : Hears frames v trail) (answer : RecvTurn) (next : Receiving) where
  -- it is told to go on, and stays where it is
  goes : v.ended ≡ false → answer ≡ heard.Going → next.place ≡ v.place → next.ended ≡ v.ended
      → Hears frames next (trail ++ answer ∷ [])
  goes on a b d = grind (arith, common_steps, quiet)

  -- the same, where nothing else changes
  rests : v.ended ≡ false → (answer ≡ heard.Going) × (next ≡ v)
      → Hears frames next (trail ++ answer ∷ [])
  rests on a =
      goes on a.0 (ap (λ (z : Receiving). z.place) a.1) (ap (λ (z : Receiving). z.ended) a.1)

  module _ (got : ℕ) (found : IsFoundIn frames len v got) (on : v.ended ≡ false)
      (step : RecvStep v got answer next) where
    hears_length : passing_due v ≡ None → v.place ≡ v.known
        → Hears frames next (trail ++ answer ∷ [])
    hears_length none e = grind (arith, common_steps, cases_lt, rests, goes, cases_eq, quiet)

    hears_word : passing_due v ≡ None → v.place ≢ v.known
        → Hears frames next (trail ++ answer ∷ [])
    hears_word none ne =
        let had = received n frames len lawful size v senders own in
        elim (step.at_word none ne (take v.place (log_words frames))
        (take v.place (log_pieces frames)) had) [
          | inl bad ↦ goes on bad.1 (ap (λ (z : LogReading). z.place) bad.2)
              (ap (λ (z : LogReading). z.ended) bad.2)
          | inr ok ↦
              let more : v.place < length (log_words frames) =
              let a = own.place_below in let b = own.known_below in omega arith in
              let word_is : slice_index (log_words frames) v.place ≡ got = sym (found.1 ne) in
              let at = ok.gives frames (drop (suc v.place) (log_words frames))
              (subst (λ z. AreFrames z frames) (sym senders) lawful)
              (sym (next_word (log_words frames) v.place got more word_is)) in
              good frames v trail h answer next on ok.found
              (ap (slice_get (log_pieces frames)) had.place ∙ at) ok.answer_is
              (ap (λ (z : LogReading). z.place) ok.new_is)
              (ap (λ (z : LogReading). z.ended) ok.new_is)
        ]

    hears_step : (o : Option ℕ) → passing_due v ≡ o → Hears frames next (trail ++ answer ∷ [])
    hears_step None none = grind (arith, cases_eq, hears_length, hears_word)
    hears_step (Some at) due = grind (arith, common_steps, goes)

  pub hears_more : (words : ℕ → ℕ) → IsFoundIn frames len v (recv_found words v)
      → RecvDoes words v answer next → Hears frames next (trail ++ answer ∷ [])
  hears_more words found does = by_end v.ended refl
    where
      by_end : (q : Bool) → v.ended ≡ q → Hears frames next (trail ++ answer ∷ [])
      by_end true e = let d = does.ended e in again frames v trail h answer next e d.0 d.1
      by_end false e =
          hears_step (recv_found words v) found e (does.going e) (passing_due v) refl

-- ---- a receiver joins with the number j
-- what is so of each receiver and its answers, and of the answers of nobody, stays so
module _ (Each : Receiving → List RecvTurn → Type 0) (Silent : List RecvTurn → Type 0)
    (old new : ℕ → Option Receiving) (H : ℕ → List RecvTurn)
    (each : (q : ℕ) (u : Receiving) → old q ≡ Some u → Each u (H q))
    (silent : (q : ℕ) → old q ≡ None → Silent (H q)) (j n : ℕ) (next : Receiving)
    (here : new j ≡ Some next) (beside : (q : ℕ) → q ≢ j → new q ≡ old q)
    (nobody : old n ≡ None) (before : List RecvTurn) where
  -- its number has these answers, and each other but n those that it had
  at_number : (q : ℕ) → q ≡ j → before ≡ answers_joined before j n H q
  at_number q i = grind (arith, common_steps, eqb_tells)

  at_others : (q : ℕ) → q ≢ j → cond (q == n) (H j) (H q) ≡ answers_joined before j n H q
  at_others q ne = grind (arith, common_steps, eqb_tells)

  pub each_joined : Each next before → (q : ℕ) (u : Receiving) → new q ≡ Some u
      → Each u (answers_joined before j n H q)
  each_joined joins q u e =
      grind (arith, common_steps, cases_eq, at_number, same_Some, at_others, eqb_tells)

  pub silent_joined : Silent (H j) → (q : ℕ) → new q ≡ None
      → Silent (answers_joined before j n H q)
  silent_joined was q e = grind (arith, common_steps, cases_eq, at_others, eqb_tells)

-- ---- what is promised of answers
-- a receiver has been told what stands below its place; who is none was told nothing
abbrev pub IsTold : List Frame → Option Receiving → List RecvTurn → Type 0
IsTold frames None trail = trail ≡ []
IsTold frames (Some v) trail = Hears frames v trail

-- answers of nobody are those of somebody, or none
pub who_was_told : (frames : List Frame) (trail : List RecvTurn) → WasTold frames trail
    → (o : Option Receiving) × IsTold frames o trail
who_was_told frames trail told = elim told [
  | inl none ↦ (None, none)
  | inr was ↦ (Some was.0, was.2)
]

heads_prefix : (frames : List Frame) (n : ℕ)
    → IsPrefix (owners_in (take n (log_pieces frames))) (map tenure_and_owner frames)
heads_prefix frames n = record {
  rest = owners_in (drop n (log_pieces frames));
  together =
      sym (flat_map-append piece_owners (take n (log_pieces frames)) (drop n (log_pieces frames)))
      ∙ ap owners_in (take-append-drop n (log_pieces frames)) ∙ owners_in-log frames;
}

pub delivered_to : (n : ℕ) (frames : List Frame) → AreFrames n frames
    → (o : Option Receiving) (trail : List RecvTurn) → IsTold frames o trail
    → IsPrefixOfOrder (order_given trail) (order_of frames)
delivered_to n frames lawful None trail told = subst
    (λ z. IsPrefixOfOrder (order_given z) (order_of frames)) (sym told)
    (given_is_prefix n frames 0 lawful)
delivered_to n frames lawful (Some v) trail told = subst (λ z. IsPrefixOfOrder z (order_of frames))
    (sym told.given_is) (given_is_prefix n frames v.place lawful)

pub heads_to : (frames : List Frame) (o : Option Receiving) (trail : List RecvTurn)
    → IsTold frames o trail → IsPrefix (heads trail) (map tenure_and_owner frames)
heads_to frames None trail told =
    subst (λ z. IsPrefix (heads z) (map tenure_and_owner frames)) (sym told) (heads_prefix frames 0)
heads_to frames (Some v) trail told = subst (λ z. IsPrefix z (map tenure_and_owner frames))
    (sym told.heads_are) (heads_prefix frames v.place)

pub silent_to : (frames : List Frame) (o : Option Receiving) (trail : List RecvTurn)
    → IsTold frames o trail → IsSilent trail
silent_to frames None trail told = subst IsSilent (sym told) (λ j k a at l here. absurd cc)
silent_to frames (Some v) trail told = told.silent
