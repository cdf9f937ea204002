-- What is printed of a log.
use Rattle.std.specs.Prelude.{ℕ, List, [], ◌∷◌, ◌++◌, Option, Some, None, codes, decimal, flat_map}
use Rattle.bus_register.specs.declared.registers.SenderNo.{SenderNo}
use Rattle.bus_batch.specs.declared.messages.Item.{Item}
use Rattle.bus_batch.specs.declared.messages.Piece.{Piece}
use Rattle.bus_batch.specs.declared.messages.Piece.TheVariants as piece
use Rattle.bus_batch.specs.Frames.{Frame, log_pieces}
use Rattle.bus_script.specs.LineNumbers.{refusal_line}
use Rattle.bus_script.specs.declared.line_numbers.LineNumber.TheVariants.{AtLine, AtEnd}
use Rattle.bus_deliverylog.specs.Text.{item_text}
use Rattle.bus_replay.specs.Text.{behind}
use Rattle.bus_logtext.specs.declared.faults.LineFault.{LineFault}
use Rattle.bus_logtext.specs.declared.faults.LineFault.TheVariants.{BadLine, TooManyWords}
use Rattle.bus_logtext.specs.declared.faults.Refusal.{Refusal}

-- tenure and owner of a frame
abbrev pub frame_line : ℕ → SenderNo → List ℕ
frame_line tenure owner = codes "frame" ++ behind tenure ++ behind owner.0 ++ 10 ∷ []

-- sender, number and message of an item
abbrev pub item_line : Item → List ℕ
item_line item = codes "item " ++ item_text item ++ 10 ∷ []

-- that a sender has left
abbrev pub leave_line : SenderNo → List ℕ
leave_line sender = codes "leave" ++ behind sender.0 ++ 10 ∷ []

-- the line of what a word says, where it says something by itself
abbrev pub piece_line : Option Piece → List ℕ
piece_line None = []
piece_line (Some (piece.Head tenure owner)) = frame_line tenure owner
piece_line (Some (piece.Item item)) = item_line item
piece_line (Some piece.End) = codes "end" ++ 10 ∷ []
piece_line (Some (piece.Leave sender)) = leave_line sender

-- a line for each frame, behind it one for each of its items, for the end or for the leave mark, in
-- the order of the words
abbrev pub log_text : List Frame → List ℕ
log_text frames = flat_map piece_line (log_pieces frames)

-- places of words are counted from 0
abbrev pub bad_word_text : ℕ → List ℕ
bad_word_text place = codes "word " ++ decimal place ++ codes ": BadWord" ++ 10 ∷ []

abbrev pub torn_text : List ℕ
torn_text = refusal_line AtEnd (codes "Torn")

abbrev pub word_fault_name : LineFault → List ℕ
word_fault_name BadLine = codes "BadLine"
word_fault_name TooManyWords = codes "TooManyWords"

-- the one line of lines that were refused
abbrev pub refusal_text : Refusal → List ℕ
refusal_text refusal = refusal_line (AtLine refusal.line) (word_fault_name refusal.fault)
