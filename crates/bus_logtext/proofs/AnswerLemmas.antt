-- An input has one answer.
use Rattle.std.proofs.Common.{◌≡◌, ◌≢◌, ℕ, zero, suc, ◌^◌, ◌<◌, ◌≤◌, List, [], ◌∷◌, ◌++◌, length}
use Rattle.std.proofs.Common.{get_or, Result, map, Ok, Err, refl, sym, ap, subst, ◌∙◌, inl, inr}
use Rattle.std.proofs.Common.{arith}
use Rattle.std.specs.Prelude.{MatchResult, All}
use Rattle.std.proofs.lemmas.List.{length-append, nil_from_length}
use Rattle.std.proofs.lemmas.List.Elements.{All-head, All-tail}
use Rattle.bus_register.specs.declared.limits.TheConstants.{MOST_LOG_WORDS, MOST_MESSAGES}
use Rattle.bus_register.specs.declared.registers.SenderNo.{SenderNo}
use Rattle.bus_batch.specs.Frames.{Frame, Order, AreFrames, AreFramesOf, SpellsOf, log_words}
use Rattle.bus_batch.specs.Frames.{order_of, tenure_and_owner}
use Rattle.bus_batch.proofs.FrameLaws.{same_log}
use Rattle.bus_batch.proofs.LimitLaws.{frames_of_more}
use Rattle.bus_deliverylog.specs.Logs.{IsFirstBadOf, IsTornOf}
use Rattle.bus_script.specs.declared.answers.Outcome.{Outcome}
use Rattle.bus_script.specs.declared.answers.Outcome.TheVariants.{Done, Refused}
use Rattle.bus_logtext.specs.declared.faults.Refusal.{Refusal}
use Rattle.bus_logtext.specs.Words.{words_of, words_text}
use Rattle.bus_logtext.proofs.PrintLemmas.{words_read_again}
use Rattle.bus_logtext.specs.Text.{log_text, bad_word_text, refusal_text}
use Rattle.bus_logtext.specs.Answers.{TellsLog, IsLogAnswer}

-- what the laws of logs say of the readings of words
pub record AreExact : Type 0 where
  pub whole : (most senders : ℕ) (words : List ℕ) (order : Order) (owners : List (ℕ × SenderNo))
      → SpellsOf most senders words order owners → IsTornOf most senders words → ⊥
  pub good : (most senders : ℕ) (words : List ℕ) (order : Order)
      (owners : List (ℕ × SenderNo)) (place : ℕ) → SpellsOf most senders words order owners
      → IsFirstBadOf most senders words place → ⊥
  pub torn : (most senders : ℕ) (words : List ℕ) (place : ℕ) → IsTornOf most senders words
      → IsFirstBadOf most senders words place → ⊥
  pub first : (most senders : ℕ) (words : List ℕ) (place other : ℕ)
      → IsFirstBadOf most senders words place → IsFirstBadOf most senders words other
      → place ≡ other

-- told words are spelled
spelled : (most senders : ℕ) (words text : List ℕ) (h : TellsLog most senders words text)
    → SpellsOf most senders words (order_of h.frames) (map tenure_and_owner h.frames)
spelled most senders words text h = record {
  frames = h.frames;
  lawful = h.lawful;
  words_are = h.words_are;
  order_is = refl;
  owners_are = refl;
}

-- no other frames than those that words spell are told
pub told_frames : (most senders : ℕ) (words text : List ℕ) (frames : List Frame)
    → most ≤ MOST_MESSAGES → AreFrames senders frames → log_words frames ≡ words
    → (h : TellsLog most senders words text) → h.frames ≡ frames
told_frames most senders words text frames limit lawful words_are h =
    same_log senders 0 0 h.frames frames
    (frames_of_more most MOST_MESSAGES senders 0 h.frames limit h.lawful) lawful
    (h.words_are ∙ sym words_are)

pub told_so : (most senders : ℕ) (words text : List ℕ) (frames : List Frame)
    → most ≤ MOST_MESSAGES → AreFrames senders frames → log_words frames ≡ words
    → IsLogAnswer most senders words Done text → text ≡ log_text frames
told_so most senders words text frames limit lawful words_are h =
    h.text_is ∙ ap log_text
    (told_frames most senders words text frames limit lawful words_are h)

pub not_told : AreExact → (most senders : ℕ) (words text : List ℕ) → IsTornOf most senders words
    → IsLogAnswer most senders words Done text → ⊥
not_told exact most senders words text torn h = exact.whole most senders words (order_of h.frames)
    (map tenure_and_owner h.frames) (spelled most senders words text h) torn

pub told_not_refused : AreExact → (most senders : ℕ) (words text another : List ℕ)
    → IsLogAnswer most senders words Done text → IsLogAnswer most senders words Refused another → ⊥
told_not_refused exact most senders words text another h k = elim k [
  | inl bad ↦ exact.good most senders words (order_of h.frames) (map tenure_and_owner h.frames)
      bad.place (spelled most senders words text h) bad.bad
  | inr torn ↦ not_told exact most senders words text torn.torn h
]

pub refused_once : AreExact → (most senders : ℕ) (words text another : List ℕ)
    → IsLogAnswer most senders words Refused text → IsLogAnswer most senders words Refused another
    → text ≡ another
refused_once exact most senders words text another (inl h) (inl k) =
    h.text_is ∙ ap bad_word_text (exact.first most senders words h.place k.place h.bad k.bad)
    ∙ sym k.text_is
refused_once exact most senders words text another (inl h) (inr k) =
    absurd (exact.torn most senders words h.place k.torn h.bad)
refused_once exact most senders words text another (inr h) (inl k) =
    absurd (exact.torn most senders words k.place h.torn k.bad)
refused_once exact most senders words text another (inr h) (inr k) = h.text_is ∙ sym k.text_is

one_log_answer : AreExact
    → (most senders : ℕ) (words : List ℕ) (outcome other : Outcome) (text another : List ℕ)
    → most ≤ MOST_MESSAGES → IsLogAnswer most senders words outcome text
    → IsLogAnswer most senders words other another → (outcome ≡ other) × (text ≡ another)
one_log_answer exact most senders words Done Done text another limit h k = (
  refl,
  told_so most senders words text k.frames limit
      (frames_of_more most MOST_MESSAGES senders 0 k.frames limit k.lawful) k.words_are h
      ∙ sym k.text_is,
)
one_log_answer exact most senders words Done Refused text another limit h k =
    absurd (told_not_refused exact most senders words text another h k)
one_log_answer exact most senders words Refused Done text another limit h k =
    absurd (told_not_refused exact most senders words another text k h)
one_log_answer exact most senders words Refused Refused text another limit h k =
    (refl, refused_once exact most senders words text another h k)

-- what answers lines that have these words or this refusal
abbrev pub Answers : ℕ → ℕ → Result (List ℕ) Refusal → Outcome → List ℕ → Type 0
Answers most senders said outcome text = MatchResult said
    (λ words. IsLogAnswer most senders words outcome text)
    (λ refusal. (outcome ≡ Refused) × (text ≡ refusal_text refusal))

pub one_answer : AreExact
    → (most senders : ℕ) (said : Result (List ℕ) Refusal) (outcome other : Outcome)
    (text another : List ℕ) → most ≤ MOST_MESSAGES → Answers most senders said outcome text
    → Answers most senders said other another → (outcome ≡ other) × (text ≡ another)
one_answer exact most senders (Ok words) outcome other text another limit h k =
    one_log_answer exact most senders words outcome other text another limit h k
one_answer exact most senders (Err refusal) outcome other text another limit h k =
    (h.0 ∙ sym k.0, h.1 ∙ sym k.1)

-- ---- what no answer does
-- to tell a log where a word is bad
pub not_told_bad : AreExact → (most senders place : ℕ) (words text : List ℕ)
    → IsFirstBadOf most senders words place → IsLogAnswer most senders words Done text → ⊥
not_told_bad exact most senders place words text bad h =
    exact.good most senders words (order_of h.frames) (map tenure_and_owner h.frames) place
    (spelled most senders words text h) bad

-- to tell more than the log
pub no_line_more : (most senders : ℕ) (frames : List Frame) (line : List ℕ) → most ≤ MOST_MESSAGES
    → AreFrames senders frames → line ≢ []
    → IsLogAnswer most senders (log_words frames) Done (log_text frames ++ line) → ⊥
no_line_more most senders frames line limit lawful some h =
    let same = ap length (told_so most senders (log_words frames) (log_text frames ++ line) frames
    limit lawful refl h) in
    let sum = length-append (log_text frames) line in
    some (nil_from_length line (omega (arith, same, sum)))

-- to tell a log with more messages in a frame than it may have
pub no_fuller : (most senders : ℕ) (frames : List Frame) (text : List ℕ) → most ≤ MOST_MESSAGES
    → AreFrames senders frames → (AreFramesOf most senders frames → ⊥)
    → IsLogAnswer most senders (log_words frames) Done text → ⊥
no_fuller most senders frames text limit lawful fuller h =
    fuller (subst (AreFramesOf most senders)
    (told_frames most senders (log_words frames) text frames limit lawful refl h) h.lawful)

-- to tell a word of no word
pub none_told : (frames : List Frame) → log_words frames ≡ [] → frames ≡ []
none_told [] e = refl
none_told (f ∷ frames) e = absurd cc

-- to refuse a log
pub not_refused : AreExact → (most senders : ℕ) (frames : List Frame) (text : List ℕ)
    → AreFramesOf most senders frames
    → IsLogAnswer most senders (log_words frames) Refused text → ⊥
not_refused exact most senders frames text lawful h =
    told_not_refused exact most senders (log_words frames) (log_text frames) text
    (record { frames = frames; lawful = lawful; words_are = refl; text_is = refl }) h

-- to name another place
pub placed : AreExact → (most senders place : ℕ) (words text : List ℕ)
    → IsFirstBadOf most senders words place → IsLogAnswer most senders words Refused text
    → text ≡ bad_word_text place
placed exact most senders place words text bad h = refused_once exact most senders words text
    (bad_word_text place) h (inl (record { place = place; bad = bad; text_is = refl }))

-- ---- printed logs
fit_at : (words : List ℕ) → All (λ word. word < 2 ^ 64) words → (k : ℕ) → get_or words k 0 < 2 ^ 64
fit_at [] fit k = omega arith
fit_at (word ∷ words) fit zero = All-head (λ word. word < 2 ^ 64) word words fit
fit_at (word ∷ words) fit (suc k) = fit_at words (All-tail (λ word. word < 2 ^ 64) word words fit) k

pub printed_told : (most senders : ℕ) (frames : List Frame) → AreFramesOf most senders frames
    → All (λ word. word < 2 ^ 64) (log_words frames) → length (log_words frames) ≤ MOST_LOG_WORDS
    → Answers most senders (words_of (words_text (log_words frames))) Done (log_text frames)
printed_told most senders frames lawful fit few =
    let told : IsLogAnswer most senders (log_words frames) Done (log_text frames) = record {
      frames = frames;
      lawful = lawful;
      words_are = refl;
      text_is = refl;
    } in
    subst (λ said. Answers most senders said Done (log_text frames))
    (sym (words_read_again (log_words frames) (fit_at (log_words frames) fit) few)) told
