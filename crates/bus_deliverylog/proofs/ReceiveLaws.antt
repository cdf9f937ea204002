-- What one good word does to a reading of a log, and when no store is due.
use Rattle.std.proofs.Common.{◌≡◌, ◌≢◌, ℕ, ◌+◌, ◌≤◌, List, [], ◌∷◌, ◌++◌, length, Bool, true, false}
use Rattle.std.proofs.Common.{cond}
use Rattle.std.proofs.Common.{nat_lt, ◌&&◌, refl, sym, ap, ◌∙◌, subst, inr, arith}
use Rattle.std.specs.Prelude.{Option, Some, None, IfSome, ◌||◌}
use Rattle.std.specs.List.{list_any}
use Rattle.std.proofs.Math.Bool.{or-false}
use Rattle.std.proofs.lemmas.List.Folds.{list_any-append}
use Rattle.std.proofs.lemmas.List.{length-append}
use Rattle.bus_batch.specs.declared.messages.Piece.{Piece}
use Rattle.bus_batch.specs.Frames.{GivesPiece, is_end}
use Rattle.bus_batch.specs.Reading.{Reading, HasRead, is_between}
use Rattle.bus_batch.specs.Spans.{LeadsOn, GoesOnWithin, midway}
use Rattle.bus_batch.specs.declared.readers.Span.{Span}
use Rattle.bus_deliverylog.specs.declared.receiving.RecvTurn.{RecvTurn}
use Rattle.bus_deliverylog.specs.declared.receiving.RecvTurn.TheVariants as turn
use Rattle.bus_deliverylog.specs.Receiving.{LogReading, HasReceived, HasSeen, TakesWord, turn_of}
use Rattle.bus_deliverylog.specs.Receiving.{Receiving, passing_due}
use Rattle.bus_deliverylog.specs.Receiving.{TakesNext, TakesWithin, midway_in}

-- the reading after a good word
abbrev pub moved : LogReading → Reading → Bool → LogReading
moved old frames ended = record old { place = old.place + 1; frames = frames; ended = ended }

-- what a frame reader says of a word that it takes, and what it has read then
abbrev GivesFound : Reading → ℕ → Option Piece → Type 0
GivesFound frames got found =
    (words : List ℕ) (pieces : List (Option Piece)) → HasRead frames.senders words pieces frames
    → GivesPiece frames.senders words got found

abbrev ReadsFound : Reading → ℕ → Option Piece → Reading → Type 0
ReadsFound frames got found frames' =
    (words : List ℕ) (pieces : List (Option Piece)) → HasRead frames.senders words pieces frames
    → HasRead frames.senders (words ++ got ∷ []) (pieces ++ found ∷ []) frames'

-- a reading whose parts are these, and its next word, which is good
module _ (old parts : LogReading) (same : parts ≡ old) (frames' : Reading) (got : ℕ)
    (found : Option Piece) (ended : Bool) (read : ReadsFound parts.frames got found frames')
    (senders : frames'.senders ≡ parts.frames.senders) (ended_is : ended ≡ is_end found) where
  received_more : (words : List ℕ) (pieces : List (Option Piece)) → HasReceived words pieces parts
      → HasReceived (words ++ got ∷ []) (pieces ++ found ∷ []) (moved parts frames' ended)
  received_more words pieces had = record {
    read = subst (λ z. HasRead z (words ++ got ∷ []) (pieces ++ found ∷ []) frames') (sym senders)
        (read words pieces had.read);
    place = ap (λ z. z + 1) had.place ∙ sym (length-append words (got ∷ []));
  }

  pub good_word : (answer : RecvTurn) (words : List ℕ) (pieces : List (Option Piece))
      → HasReceived words pieces old → GivesFound parts.frames got found → answer ≡ turn_of found
      → TakesWord words pieces old got answer (moved parts frames' ended)
  good_word answer words pieces had_old gives answer_is =
      let had : HasReceived words pieces parts =
      subst (HasReceived words pieces) (sym same) had_old in
      subst (λ z. TakesWord words pieces z got answer (moved parts frames' ended)) same
      (inr (record {
        found = found;
        gives = gives words pieces had.read;
        answer_is = answer_is;
        received = received_more words pieces had;
        new_is = ap (moved parts frames') ended_is;
      }))

  -- it has seen one word more, and has ended if that was the end
  pub seen_more : old.place ≢ old.known → old.ended ≡ false
      → (parts.place ≤ parts.known) × HasSeen parts
      → (parts.place + 1 ≤ parts.known) × HasSeen (moved parts frames' ended)
  seen_more unread going before =
      let seen = before.1 in
      let none : list_any is_end seen.pieces ≡ false =
      sym seen.ended ∙ ap (λ (z : LogReading). z.ended) same ∙ going in
      let place = ap (λ (z : LogReading). z.place) same in
      let known = ap (λ (z : LogReading). z.known) same in
      let other : parts.place ≢ parts.known = λ e. unread (sym place ∙ e ∙ known) in
      let within = before.0 in (
        omega (arith, other),
        record {
          words = seen.words ++ got ∷ [];
          pieces = seen.pieces ++ found ∷ [];
          received = received_more seen.words seen.pieces seen.received;
          ended =
              ended_is
              ∙ sym (list_any-append is_end seen.pieces (found ∷ [])
              ∙ ap (λ z. z || (is_end found || false)) none ∙ or-false (is_end found));
        },
      )

-- ---- the words of one message, read together
-- what follows of each, of the one that there is
pub if_some : {A : Type 0} {P Q : A → Type 0} → ((a : A) → P a → Q a) → (found : Option A)
    → IfSome found P → IfSome found Q
if_some follows None some = tt
if_some follows (Some a) some = follows a some

module _ (old : LogReading) (span : Span) where
  received_on : (mid new : LogReading) (got : ℕ) (found : Option Piece) (words : List ℕ)
      (pieces : List (Option Piece)) → HasReceived words pieces mid
      → HasRead new.frames.senders (words ++ got ∷ []) (pieces ++ found ∷ []) new.frames
      → new.place ≡ mid.place + 1 → HasReceived (words ++ got ∷ []) (pieces ++ found ∷ []) new
  received_on mid new got found words pieces had read place = record {
    read = read;
    place = place ∙ ap (λ z. z + 1) had.place ∙ sym (length-append words (got ∷ []));
  }

  pub span_begins : (told : ℕ) → LeadsOn old.frames told None (midway old.frames span [])
      → TakesNext old told turn.Going (midway_in old span [])
  span_begins told leads words pieces had =
      let on = leads _ words pieces had.read in
      inr (record {
        found = None;
        gives = on.0;
        answer_is = refl;
        received =
            received_on old (midway_in old span []) told None words pieces had on.1 refl;
        new_is = refl;
      })

  pub span_goes_on : GoesOnWithin old.frames span → TakesWithin old span
  span_goes_on goes taken word fits more words pieces had =
      let on = goes taken word fits more _ words pieces had.read in
      let place : old.place + (1 + length (taken ++ word ∷ []))
      ≡ old.place + (1 + length taken) + 1 =
      let e = length-append taken (word ∷ []) in omega arith in
      inr (record {
        found = None;
        gives = on.0;
        answer_is = refl;
        received = received_on (midway_in old span taken)
            (midway_in old span (taken ++ word ∷ [])) word None words pieces had on.1 place;
        new_is = ap (λ n. record (midway_in old span (taken ++ word ∷ [])) { place = n }) place;
      })

  module _ (taken : List ℕ) (last : ℕ) (all : length taken + 1 ≡ span.words) (frames' : Reading)
      (found : Option Piece) (goes : false ≡ is_end found)
      (leads : LeadsOn (midway old.frames span taken) last found frames')
      (senders : frames'.senders ≡ old.frames.senders) where
    span_place : old.place + (1 + length taken) + 1 ≡ old.place + (1 + span.words)
    span_place = omega arith

    span_moved : moved (midway_in old span taken) frames' false
        ≡ record (midway_in old span taken) {
          place = old.place + (1 + span.words);
          frames = frames';
        }
    span_moved =
        ap (λ n. record (midway_in old span taken) { place = n; frames = frames' }) span_place

    pub span_ends : (answer : RecvTurn) → answer ≡ turn_of found
        → TakesNext (midway_in old span taken) last answer (record (midway_in old span taken) {
          place = old.place + (1 + span.words);
          frames = frames';
        })
    span_ends answer answer_is words pieces had =
        subst (TakesWord words pieces (midway_in old span taken) last answer) span_moved
        (good_word (midway_in old span taken) (midway_in old span taken) refl frames' last found
        false (λ w p h. (leads _ w p h).1) senders goes answer words pieces had
        (λ w p h. (leads _ w p h).0) answer_is)

    pub span_seen : old.place + (1 + span.words) ≤ old.known → HasSeen (midway_in old span taken)
        → (old.place + (1 + span.words) ≤ old.known) × HasSeen (record (midway_in old span taken) {
          place = old.place + (1 + span.words);
          frames = frames';
        })
    span_seen known seen =
        let more = seen_more (midway_in old span taken) (midway_in old span taken) refl frames' last
        found false (λ w p h. (leads _ w p h).1) senders goes
        (λ e. absurd (let e' : old.place + (1 + length taken) ≡ old.known = e in omega arith)) refl
        (omega arith, seen) in
        (known, subst HasSeen span_moved more.1)

-- ---- without a passed place no store is due
pub no_due : (v : Receiving) → v.passed_at ≡ None → passing_due v ≡ None
no_due v never =
    by_test (is_between v.frames.place && nat_lt v.passed v.place) v.passed_at never
  where
    by_test : (b : Bool) (o : Option ℕ) → o ≡ None → cond b o None ≡ None
    by_test true o e = e
    by_test false o e = refl

-- and one that is due is on the passed place
pub due_at : (v : Receiving) (at : ℕ) → passing_due v ≡ Some at → v.passed_at ≡ Some at
due_at v at due =
    by_test (is_between v.frames.place && nat_lt v.passed v.place) v.passed_at due
  where
    by_test : (b : Bool) (o : Option ℕ) → cond b o None ≡ Some at → o ≡ Some at
    by_test true o e = e
    by_test false o e = absurd cc
