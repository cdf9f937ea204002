-- What the lines of a log are answered with.
use Rattle.std.specs.Prelude.{◌≡◌, ◌⊎◌, ℕ, List, MatchResult}
use Rattle.bus_batch.specs.Frames.{Frame, AreFramesOf, log_words}
use Rattle.bus_deliverylog.specs.Logs.{IsFirstBadOf, IsTornOf}
use Rattle.bus_script.specs.declared.answers.Outcome.{Outcome}
use Rattle.bus_script.specs.declared.answers.Outcome.TheVariants.{Done, Refused}
use Rattle.bus_logtext.specs.Words.{words_of}
use Rattle.bus_logtext.specs.Text.{log_text, bad_word_text, torn_text, refusal_text}

-- words that are a log of so many senders, with so many messages in a frame at most, and the lines
-- of its frames
pub record TellsLog (most senders : ℕ) (words : List ℕ) (text : List ℕ) : Type 0 where
  pub frames : List Frame
  pub lawful : AreFramesOf most senders frames
  pub words_are : log_words frames ≡ words
  pub text_is : text ≡ log_text frames

-- words that no such log begins with, and the place of the first bad one
pub record TellsBadWord (most senders : ℕ) (words : List ℕ) (text : List ℕ) : Type 0 where
  pub place : ℕ
  pub bad : IsFirstBadOf most senders words place
  pub text_is : text ≡ bad_word_text place

-- words that end within a frame
pub record TellsTorn (most senders : ℕ) (words : List ℕ) (text : List ℕ) : Type 0 where
  pub torn : IsTornOf most senders words
  pub text_is : text ≡ torn_text

-- the text that answers words: what they spell, or why they are no such log and nothing else
abbrev pub IsLogAnswer : ℕ → ℕ → List ℕ → Outcome → List ℕ → Type 0
IsLogAnswer most senders words Done text = TellsLog most senders words text
IsLogAnswer most senders words Refused text =
    TellsBadWord most senders words text ⊎ TellsTorn most senders words text

-- the text that answers an input: that of its words, or the first refusal of a line and nothing
-- else
abbrev pub IsAnswer : ℕ → ℕ → List ℕ → Outcome → List ℕ → Type 0
IsAnswer most senders input outcome text = MatchResult (words_of input)
    (λ words. IsLogAnswer most senders words outcome text)
    (λ refusal. (outcome ≡ Refused) × (text ≡ refusal_text refusal))
