-- From one step of a reader to what it has read.
use Rattle.std.proofs.Common.{◌≡◌, ℕ, suc, ◌+◌, ◌≤◌, true, false, List, [], ◌∷◌, ◌++◌, length}
use Rattle.std.proofs.Common.{arith, refl, sym, ap, ◌∙◌, subst, inl, inr, append_assoc, Ok, Err}
use Rattle.std.proofs.Common.{Some}
use Rattle.std.proofs.lemmas.List.Elements.{All-nil, All-cons}
use Rattle.std.specs.Prelude.{◌<◌, zero, replicate, All, Bool, Option, Result, IfOk}
use Rattle.std.specs.Prelude.{IsErr, ◌↔◌, slice_get}
use Rattle.std.proofs.lemmas.List.{length-append}
use Rattle.std.proofs.Common.{append-nil}
use Rattle.std.specs.List.{flat_map, list_any}
use Rattle.std.specs.Prelude.{◌||◌}
use Rattle.std.proofs.Math.Bool.{or-false}
use Rattle.std.proofs.lemmas.Bool.{false_from_ne_true, true≢false}
use Rattle.std.proofs.lemmas.List.Folds.{list_any-append}
use Rattle.bus_register.specs.declared.registers.SenderNo.{SenderNo}
use Rattle.bus_batch.specs.declared.messages.Mark.TheVariants as mark
use Rattle.bus_batch.specs.declared.messages.Piece.{Piece}
use Rattle.bus_batch.specs.declared.readers.BadWord.{BadWord}
use Rattle.bus_batch.specs.declared.readers.Place.{Place}
use Rattle.bus_batch.specs.declared.readers.Place.TheVariants as place
use Rattle.bus_batch.specs.Frames.{Frame, AreFramesFromOf, IsLogOf, BeginsLogOf, IsBadWordOf}
use Rattle.bus_batch.specs.Frames.{GivesPieceOf}
use Rattle.bus_batch.specs.Frames.{end_word, mark_word, log_words, log_pieces, message_words}
use Rattle.bus_batch.specs.Frames.{words_of_bytes, SpellsOf, order_in, owners_in, AreFramesOf}
use Rattle.bus_batch.specs.Frames.{is_end}
use Rattle.bus_batch.proofs.PieceLaws.{order_in-log, owners_in-log}
use Rattle.bus_batch.specs.Reading.{Reading, Awaits, HasReadOf, IsSound, IsTornOrEndedOf}
use Rattle.bus_batch.specs.Reading.{is_between}
use Rattle.bus_batch.specs.Steps.{Steps, Takes, Refuses}
use Rattle.bus_batch.proofs.Taking.{reading}

get_at : {A : Type 0} (xs : List A) (y : A) (ys : List A)
    → slice_get (xs ++ y ∷ ys) (length xs) ≡ Some y
get_at [] y ys = refl
get_at (x ∷ xs) y ys = get_at xs y ys

module _ (most senders : ℕ) (words : List ℕ) (pieces : List (Option Piece)) (word : ℕ)
    (old new : Reading) (had : HasReadOf most senders words pieces old) where
  module _ (found : Option Piece) (takes : Takes old word found new) where
    leads_on : (rest : List ℕ) (further : List (Option Piece)) → Awaits new rest further
        → (frames : List Frame) × AreFramesOf most senders frames
        × (log_words frames ≡ (words ++ word ∷ []) ++ rest)
        × (log_pieces frames ≡ (pieces ++ found ∷ []) ++ further)
    leads_on rest further awaited =
        let log =
        had.leads (word ∷ rest) (found ∷ further) (takes.leads rest further awaited) in (
          log.0,
          log.1,
          log.2 ∙ sym (append_assoc words (word ∷ []) rest),
          log.3 ∙ sym (append_assoc pieces (found ∷ []) further),
        )

    -- no word is taken at the end, so the end is not among what was read before
    going : list_any is_end pieces ≡ false
    going = false_from_ne_true (list_any is_end pieces) (λ e.
        let some = takes.begins in
        let nothing =
        subst (λ p. Awaits (record old { place = p }) (word ∷ some.0) (found ∷ some.1))
        (had.ended.1 e) (takes.leads some.0 some.1 some.2) in
        absurd (let none : word ∷ some.0 ≡ [] = nothing.0 in cc))

    gave : list_any is_end (pieces ++ found ∷ []) ≡ is_end found
    gave = list_any-append is_end pieces (found ∷ [])
        ∙ ap (λ z. z || (is_end found || false)) going ∙ or-false (is_end found)

    pub has_read : IsSound new.most new.place new.bytes
        → HasReadOf most senders (words ++ word ∷ []) (pieces ++ found ∷ []) new
    has_read sound = record {
      limit = takes.limit ∙ had.limit;
      many =
          length-append pieces (found ∷ []) ∙ ap (λ z. z + 1) had.many
          ∙ sym (length-append words (word ∷ []));
      leads = leads_on;
      covers = λ frames rest lawful is.
          let before =
          had.covers frames (word ∷ rest) lawful (is ∙ append_assoc words (word ∷ []) rest) in
          let after = takes.covers rest before.0 before.1 in (
            after.0,
            after.2,
            before.2 ∙ ap (λ z. pieces ++ z) after.1
                ∙ sym (append_assoc pieces (found ∷ []) after.0),
          );
      begins = takes.begins;
      sound = sound;
      ended = ((λ e. gave ∙ takes.ended.0 e), (λ e. takes.ended.1 (sym gave ∙ e)));
    }

    pub gives_piece : GivesPieceOf most senders words word found
    gives_piece frames rest lawful is =
        let before = had.covers frames (word ∷ rest) lawful is in
        let after = takes.covers rest before.0 before.1 in
        let all : log_pieces frames ≡ pieces ++ found ∷ after.0 =
        before.2 ∙ ap (λ z. pieces ++ z) after.1 in
        ap (λ z. slice_get z (length words)) all
        ∙ ap (λ z. slice_get (pieces ++ found ∷ after.0) z) (sym had.many)
        ∙ get_at pieces found after.0

    pub begins_log : BeginsLogOf most senders (words ++ word ∷ [])
    begins_log =
        let some = takes.begins in
        let log = leads_on some.0 some.1 some.2 in
        (some.0, record { frames = log.0; lawful = log.1; words_are = log.2 })

  pub is_bad : Refuses old word → IsBadWordOf most senders words word
  is_bad refuses some =
      let log = some.1 in
      let before = had.covers log.frames (word ∷ some.0) log.lawful
      (log.words_are ∙ append_assoc words (word ∷ []) some.0) in
      refuses some.0 before.0 before.1

  pub bad_of : (answer : Result (Option Piece) BadWord) → Steps old word answer new
      → (IsErr answer ↔ IsBadWordOf most senders words word)
  bad_of (Ok found) steps = (
    (λ failed. absurd (let e : false ≡ true = failed in cc)),
    (λ bad. absurd (bad (begins_log found steps.good))),
  )
  bad_of (Err e) steps = ((λ _. is_bad steps.bad.0), (λ _. refl))

  pub gives_of : (answer : Result (Option Piece) BadWord) → Steps old word answer new
      → IfOk answer (GivesPieceOf most senders words word)
  gives_of (Ok found) steps = gives_piece found steps.good
  gives_of (Err e) steps = tt

  pub read_of : (answer : Result (Option Piece) BadWord) → IsSound new.most new.place new.bytes
      → Steps old word answer new
      → IfOk answer (λ found. HasReadOf most senders (words ++ word ∷ []) (pieces
      ++ found ∷ []) new)
  read_of (Ok found) sound steps = has_read found steps.good sound
  read_of (Err e) sound steps = tt

-- ---- the end of the words

module _ (most senders : ℕ) (words : List ℕ) (pieces : List (Option Piece)) (old : Reading)
    (had : HasReadOf most senders words pieces old) where
  pub whole_log : Awaits old [] [] → SpellsOf most senders words (order_in pieces)
      (owners_in pieces)
  whole_log a =
      let log = had.leads [] [] a in
      let gave : log_pieces log.0 ≡ pieces = log.3 ∙ append-nil pieces in
      record {
        frames = log.0;
        lawful = log.1;
        words_are = log.2 ∙ append-nil words;
        order_is = sym (order_in-log log.0) ∙ ap order_in gave;
        owners_are = sym (owners_in-log log.0) ∙ ap owners_in gave;
      }

  pub torn_log : ((further : List (Option Piece)) → Awaits old [] further → ⊥)
      → IsLogOf most senders words
      → ⊥
  torn_log not log =
      let a = had.covers log.frames [] log.lawful (log.words_are ∙ sym (append-nil words)) in
      not a.0 a.1

-- where a reader stands inside a frame, the words so far are no log, and elsewhere they are
module _ (most senders : ℕ) (words : List ℕ) (pieces : List (Option Piece)) (m s l : ℕ)
    (gone : List Bool)
    (q : Place) (bytes : List ℕ) (old : Reading) (is : reading m s l gone q bytes ≡ old)
    (had : HasReadOf most senders words pieces old) where
  nothing_in_body : (owner : SenderNo) (left room : ℕ) → 1 ≤ left → (further : List (Option Piece))
      → Awaits (reading m s l gone (place.Body owner left room) bytes) [] further → ⊥
  nothing_in_body owner left room some further (inl f) =
      let e : 0 ≡ length (flat_map message_words f.messages) + length (log_words f.frames) =
      ap (λ (z : List ℕ). length z) f.words_are
      ∙ length-append (flat_map message_words f.messages) (log_words f.frames) in
      let long = f.long in absurd (omega arith)
  nothing_in_body owner left room some further (inr (inl e)) =
      absurd (let x : [] ≡ end_word ∷ [] = e.words_are in cc)
  nothing_in_body owner left room some further (inr (inr e)) =
      absurd (let x : [] ≡ mark_word mark.Leave ∷ log_words e.frames = e.words_are in cc)

  nothing_in_data : (owner : SenderNo) (left room number len : ℕ) (further : List (Option Piece))
      → Awaits (reading m s l gone (place.Data owner left room number len) bytes) [] further → ⊥
  nothing_in_data owner left room number len further c =
      absurd (let x : [] ≡ words_of_bytes (suc c.n) c.more ++ c.rest_after = c.words_are in cc)

  pub torn_in_body : (owner : SenderNo) (left room : ℕ) → q ≡ place.Body owner left room
      → IsSound m q bytes → IsLogOf most senders words → ⊥
  torn_in_body owner left room e sound =
      torn_log most senders words pieces old had
      (subst (λ r. (further : List (Option Piece)) → Awaits r [] further → ⊥)
      (ap (λ z. reading m s l gone z bytes) (sym e) ∙ is)
      (nothing_in_body owner left room (let t = subst (λ z. IsSound m z bytes) e sound in t.1)))

  pub torn_in_data : (owner : SenderNo) (left room number len : ℕ)
      → q ≡ place.Data owner left room number len → IsLogOf most senders words → ⊥
  torn_in_data owner left room number len e =
      torn_log most senders words pieces old had
      (subst (λ r. (further : List (Option Piece)) → Awaits r [] further → ⊥)
      (ap (λ z. reading m s l gone z bytes) (sym e) ∙ is)
      (nothing_in_data owner left room number len))

  whole_at : (p : Place) → q ≡ p
      → ((owner : SenderNo) (left room : ℕ) → q ≡ place.Body owner left room → ⊥)
      → ((owner : SenderNo) (left room number len : ℕ) → q ≡ place.Data owner left room number len
      → ⊥) → Awaits (reading m s l gone p bytes) [] []
  whole_at place.Between e body held = (
    [],
    (tt, All-nil (λ f. slice_get gone f.owner.0 ≡ Some false)),
    refl,
    refl,
  )
  whole_at (place.Body owner left room) e body held = absurd (body owner left room e)
  whole_at (place.Data owner left room number len) e body held =
      absurd (held owner left room number len e)
  whole_at place.Ended e body held = (refl, refl)
  whole_at place.Bad e body held =
      let a = had.begins in
      subst (λ r. Awaits r a.0 a.1) (sym is ∙ ap (λ z. reading m s l gone z bytes) e) a.2

  pub whole_outside : ((owner : SenderNo) (left room : ℕ) → q ≡ place.Body owner left room → ⊥)
      → ((owner : SenderNo) (left room number len : ℕ) → q ≡ place.Data owner left room number len
      → ⊥) → SpellsOf most senders words (order_in pieces) (owners_in pieces)
  whole_outside body held = whole_log most senders words pieces old had
      (subst (λ r. Awaits r [] []) is (whole_at q refl body held))

pub not_between : (p : Place) → (p ≡ place.Between → ⊥) → false ≡ is_between p
not_between place.Between not = absurd (not refl)
not_between (place.Body owner left room) not = refl
not_between (place.Data owner left room number len) not = refl
not_between place.Ended not = refl
not_between place.Bad not = refl

-- and between frames they are
pub between_is_log : (most senders : ℕ) (words : List ℕ) (pieces : List (Option Piece))
    (old : Reading)
    → HasReadOf most senders words pieces old → is_between old.place ≡ true
    → SpellsOf most senders words (order_in pieces) (owners_in pieces)
between_is_log most senders words pieces old had at =
    whole_log most senders words pieces old had (by old.place at)
  where
    by : (p : Place) → is_between p ≡ true → Awaits (record old { place = p }) [] []
    by place.Between e = (
      [],
      (tt, All-nil (λ f. slice_get old.left f.owner.0 ≡ Some false)),
      refl,
      refl,
    )
    by (place.Body owner left room) e = absurd cc
    by (place.Data owner left room number len) e = absurd cc
    by place.Ended e = absurd cc
    by place.Bad e = absurd cc

-- that have not ended
pub between_goes_on : (most senders : ℕ) (words : List ℕ) (pieces : List (Option Piece))
    (old : Reading)
    → HasReadOf most senders words pieces old → is_between old.place ≡ true
    → list_any is_end pieces ≡ false
between_goes_on most senders words pieces old had at =
    false_from_ne_true (list_any is_end pieces)
    (λ e. true≢false (sym at ∙ ap is_between (had.ended.1 e)))

-- where a reader does not stand between frames, the words so far are no log, or it has ended
pub outside_between : (most senders : ℕ) (words : List ℕ) (pieces : List (Option Piece))
    (old : Reading)
    → HasReadOf most senders words pieces old → is_between old.place ≡ false
    → IsTornOrEndedOf most senders words pieces
outside_between most senders words pieces old had not = by old.place refl
  where
    by : (p : Place) → old.place ≡ p → IsTornOrEndedOf most senders words pieces
    by place.Between e = absurd (true≢false (sym (ap is_between e) ∙ not))
    by (place.Body owner left room) e =
        inl (torn_in_body most senders words pieces old.most old.senders old.least old.left
        old.place old.bytes
        old refl had owner left room e had.sound)
    by (place.Data owner left room number len) e =
        inl (torn_in_data most senders words pieces old.most old.senders old.least old.left
        old.place old.bytes
        old refl had owner left room number len e)
    by place.Ended e = inr (had.ended.0 e)
    by place.Bad e =
        let a = had.begins in
        absurd (subst (λ p. Awaits (record old { place = p }) a.0 a.1) e a.2)

-- ---- before the first word

nobody_left : (n k : ℕ) → k < n → slice_get (replicate n false) k ≡ Some false
nobody_left zero k below = absurd (omega arith)
nobody_left (suc n) zero below = refl
nobody_left (suc n) (suc k) below = nobody_left n k (omega arith)

-- owners that a head can name have not left
none_left : (most senders least : ℕ) (gone : List Bool) (fs : List Frame) → gone
    ≡ replicate 256 false
    → AreFramesFromOf most senders least fs
    → All (λ f. slice_get gone f.owner.0 ≡ Some false) fs
none_left most senders least gone [] is lawful = All-nil (λ f. slice_get gone f.owner.0
    ≡ Some false)
none_left most senders least gone (f ∷ fs) is lawful =
    All-cons (λ z. slice_get gone z.owner.0 ≡ Some false) f fs
    (ap (λ z. slice_get z f.owner.0) is
    ∙ nobody_left 256 f.owner.0 (let b = lawful.0.owner_bits in omega arith))
    (none_left most senders (f.tenure + 1) gone fs is lawful.3)

pub reads_none : (most senders : ℕ) (gone : List Bool) (bytes : List ℕ) → gone ≡ replicate 256 false
    → bytes ≡ [] → HasReadOf most senders [] [] (reading most senders 0 gone place.Between bytes)
reads_none most senders gone bytes is none = record {
  limit = refl;
  many = refl;
  leads = λ rest further a. (a.0, a.1.0, sym a.2, sym a.3);
  covers = λ frames rest lawful words. (
    log_pieces frames,
    (frames, (lawful, none_left most senders 0 gone frames is lawful), sym words, refl),
    refl,
  );
  begins = ([], [], ([], (tt, All-nil (λ f. slice_get gone f.owner.0 ≡ Some false)), refl, refl));
  sound = none;
  ended = ((λ e. absurd cc), (λ e. absurd cc));
}
