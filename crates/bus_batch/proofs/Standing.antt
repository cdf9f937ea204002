-- Where a reader stands is one function of what it has read.
use Rattle.std.proofs.Common.{◌≡◌, ℕ, List, [], ◌∷◌, ◌++◌, length, take, drop, Bool, true, false}
use Rattle.std.proofs.Common.{arith, refl, sym, ap, ◌∙◌, subst, inl, inr, append-nil}
use Rattle.std.specs.Prelude.{Option, ◌≢◌, ◌↔◌}
use Rattle.std.specs.List.{list_any}
use Rattle.std.proofs.Math.Seq.{take-append_seam, drop-append_seam}
use Rattle.std.proofs.lemmas.Bool.{true_from_ne_false, true≢false}
use Rattle.std.proofs.lemmas.List.Elements.{All-nil}
use Rattle.bus_register.specs.declared.limits.TheConstants.{MOST_MESSAGES}
use Rattle.bus_register.specs.declared.registers.SenderNo.{SenderNo}
use Rattle.bus_batch.specs.declared.messages.Piece.{Piece}
use Rattle.bus_batch.specs.declared.readers.Place.{Place}
use Rattle.bus_batch.specs.declared.readers.Place.TheVariants.{Between, Body, Data, Ended, Bad}
use Rattle.bus_batch.specs.Frames.{Frame, IsFrame, IsLog, frame_words}
use Rattle.bus_batch.specs.Frames.{frame_pieces, is_end, ends}
use Rattle.bus_batch.specs.Reading.{Reading, Awaits, HasRead, IsSound, is_between}
use Rattle.bus_batch.proofs.PieceLaws.{body_end}
use Rattle.bus_batch.proofs.Feeding.{between_is_log, between_goes_on, outside_between}

-- two lists that begin with as many elements
same_front : {A : Type 0} (xs ys zs ws : List A) → length xs ≡ length ys → xs ++ zs ≡ ys ++ ws
    → (xs ≡ ys) × (zs ≡ ws)
same_front xs ys zs ws many e = (
  sym (take-append_seam xs zs) ∙ ap (λ l. take (length xs) l) e
      ∙ ap (λ n. take n (ys ++ ws)) many ∙ take-append_seam ys ws,
  sym (drop-append_seam xs zs) ∙ ap (λ l. drop (length xs) l) e
      ∙ ap (λ n. drop n (ys ++ ws)) many ∙ drop-append_seam ys ws,
)

same_test : (a b : Bool) → (a ≡ true → b ≡ true) → (b ≡ true → a ≡ true) → a ≡ b
same_test true b there back = sym (there refl)
same_test false true there back = back refl
same_test false false there back = refl

between_alone : (p : Place) → is_between p ≡ true → p ≡ Between
between_alone Between e = refl
between_alone (Body owner left room) e = absurd (true≢false (sym e))
between_alone (Data owner left room number len) e = absurd (true≢false (sym e))
between_alone Ended e = absurd (true≢false (sym e))
between_alone Bad e = absurd (true≢false (sym e))

-- ---- one reader

-- it stands between frames exactly where the words are a log that has not ended
pub stands_between : (senders : ℕ) (words : List ℕ) (pieces : List (Option Piece)) (r : Reading)
    → HasRead senders words pieces r
    → (is_between r.place ≡ true) ↔ (IsLog senders words × (list_any is_end pieces ≡ false))
stands_between senders words pieces r had = (
  (λ at.
      let log = between_is_log MOST_MESSAGES senders words pieces r had at in (
        record { frames = log.frames; lawful = log.lawful; words_are = log.words_are },
        between_goes_on MOST_MESSAGES senders words pieces r had at,
      )),
  (λ log. true_from_ne_false (is_between r.place) (λ not.
      elim (outside_between MOST_MESSAGES senders words pieces r had not) [
        | inl torn ↦ torn log.0
        | inr ended ↦ true≢false (sym ended ∙ log.1)
      ])),
)

pub stands_ended : (senders : ℕ) (words : List ℕ) (pieces : List (Option Piece)) (r : Reading)
    → HasRead senders words pieces r → (r.place ≡ Ended) ↔ (list_any is_end pieces ≡ true)
stands_ended senders words pieces r had = had.ended

-- ---- two readers of the same words

module _ (senders : ℕ) (words : List ℕ) (pieces pieces' : List (Option Piece)) (r r' : Reading)
    (had : HasRead senders words pieces r) (had' : HasRead senders words pieces' r') where
  many_alike : length pieces ≡ length pieces'
  many_alike = had.many ∙ sym had'.many

  pub pieces_alike : pieces ≡ pieces'
  pieces_alike =
      let some = had.begins in
      let log = had.leads some.0 some.1 some.2 in
      let other = had'.covers log.0 some.0 log.1 log.2 in
      (same_front pieces pieces' some.1 other.0 many_alike (sym log.3 ∙ other.2)).0

  pub awaits_alike : (rest : List ℕ) (further : List (Option Piece)) → Awaits r rest further
      → Awaits r' rest further
  awaits_alike rest further awaited =
      let log = had.leads rest further awaited in
      let other = had'.covers log.0 rest log.1 log.2 in
      let same = same_front pieces pieces' further other.0 many_alike (sym log.3 ∙ other.2) in
      subst (λ z. Awaits r' rest z) (sym same.1) other.1

  pub between_alike : is_between r.place ≡ is_between r'.place
  between_alike =
      let one = stands_between senders words pieces r had in
      let other = stands_between senders words pieces' r' had' in
      same_test (is_between r.place) (is_between r'.place)
      (λ at.
      let log = one.0 at in
      other.1 (log.0, sym (ap (list_any is_end) pieces_alike) ∙ log.1))
      (λ at. let log = other.0 at in one.1 (log.0, ap (list_any is_end) pieces_alike ∙ log.1))

  pub ended_alike : (r.place ≡ Ended) ↔ (r'.place ≡ Ended)
  ended_alike = (
    (λ e. had'.ended.1 (sym (ap (list_any is_end) pieces_alike) ∙ had.ended.0 e)),
    (λ e. had.ended.1 (ap (list_any is_end) pieces_alike ∙ had'.ended.0 e)),
  )

-- ---- behind one whole frame

module _ (senders : ℕ) (f : Frame) (r : Reading) (lawful : IsFrame senders f)
    (had : HasRead senders (frame_words f) (frame_pieces f) r) where
  pub behind_frame : ends f.body ≡ false → r.place ≡ Between
  behind_frame goes = between_alone r.place
      ((stands_between senders (frame_words f) (frame_pieces f) r had).1 (
        record {
          frames = f ∷ [];
          lawful = (lawful, omega arith, (λ _. refl), tt, (λ _. All-nil (λ g. g.owner ≢ f.owner)));
          words_are = append-nil (frame_words f);
        },
        body_end f.owner f.body ∙ goes,
      ))

  pub behind_end : ends f.body ≡ true → r.place ≡ Ended
  behind_end ended = had.ended.1 (body_end f.owner f.body ∙ ended)

-- ---- where no reader stands

pub not_in_nothing : (senders : ℕ) (words : List ℕ) (pieces : List (Option Piece)) (r : Reading)
    (owner : SenderNo) (room : ℕ) → r.place ≡ Body owner 0 room → ¬ HasRead senders words pieces r
not_in_nothing senders words pieces r owner room at had =
    let sound = subst (λ p. IsSound r.most p r.bytes) at had.sound in
    let some = sound.1 in absurd (omega arith)

pub not_at_no_end : (senders : ℕ) (words : List ℕ) (pieces : List (Option Piece)) (r : Reading)
    → r.place ≡ Ended → list_any is_end pieces ≡ false → ¬ HasRead senders words pieces r
not_at_no_end senders words pieces r at none had = true≢false (sym (had.ended.0 at) ∙ none)

pub not_before_the_end : (senders : ℕ) (words : List ℕ) (pieces : List (Option Piece)) (r : Reading)
    → r.place ≡ Between → list_any is_end pieces ≡ true → ¬ HasRead senders words pieces r
not_before_the_end senders words pieces r at some had =
    true≢false
    (sym some ∙ between_goes_on MOST_MESSAGES senders words pieces r had (ap is_between at))
