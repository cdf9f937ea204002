-- The log: a list of frames, each a head followed by messages or by a mark, spelt as 64-bit words.
--
--   word       bits 63, 62   bits 61 to 54      bits 53 to 40           bits 39 to 0
--   head       01            owner              count                   tenure
--   message    10            length, 0 to 56    six zero bits, and a number of 48 bits
--   end        11            zero
--   leave      11            zero               zero                    1
--
-- The count is the number of words of the frame after its head. A message word is followed by its
-- bytes, eight to a word from the high end on, the last word filled with zero bytes.
use Rattle.std.specs.Prelude.{◌≡◌, ◌≢◌, ℕ, zero, suc, ◌+◌, ◌*◌, ◌/◌, ◌<◌, ◌≤◌, ◌^◌, List, [], ◌∷◌}
use Rattle.std.specs.Prelude.{◌++◌, length, take, drop, replicate, map, flat_map, All, Bool, true}
use Rattle.std.specs.Prelude.{false, ◌||◌, ◌==◌, Option, Some, None, slice_get}
use Rattle.bus_register.specs.declared.limits.TheConstants.{MOST_MESSAGES, TENURES}
use Rattle.std.specs.List.{list_any}
use Rattle.std.specs.Int.{w64, from_be_bytes}
use Rattle.bus_register.specs.declared.registers.SenderNo.{SenderNo}
use Rattle.bus_batch.specs.declared.messages.Item.{Item}
use Rattle.bus_batch.specs.declared.messages.Mark.{Mark}
use Rattle.bus_batch.specs.declared.messages.Mark.TheVariants as mark
use Rattle.bus_batch.specs.declared.messages.Piece.{Piece}
use Rattle.bus_batch.specs.declared.messages.Piece.TheVariants as piece
use Rattle.bus_batch.specs.Messages.{Numbered, IsNumbered}

-- what a frame carries
pub data Body : Type 0 where
  Messages : List Numbered → Body
  Marked : Mark → Body

-- one tenure's frame
pub record Frame : Type 0 where
  pub tenure : ℕ
  pub owner : SenderNo
  pub body : Body

-- ---- words

abbrev pub head_word : ℕ → ℕ → ℕ → ℕ
head_word owner count tenure = 2 ^ 62 + owner * 2 ^ 54 + count * 2 ^ 40 + tenure

abbrev pub message_word : ℕ → ℕ → ℕ
message_word len number = 2 ^ 63 + len * 2 ^ 54 + number

abbrev pub end_word : ℕ
end_word = 2 ^ 63 + 2 ^ 62

-- the end word says that the order has ended, and the one above it that the frame's owner has left
abbrev pub mark_word : Mark → ℕ
mark_word mark.End = end_word
mark_word mark.Leave = end_word + 1

-- the first eight bytes as a word, from the high end on, with zero bytes where there are fewer
unfoldable pub data_word : List ℕ → ℕ
data_word bytes = from_be_bytes w64 (take 8 (bytes ++ replicate 8 0))

-- as many words of the bytes
abbrev pub words_of_bytes : ℕ → List ℕ → List ℕ
words_of_bytes zero bytes = []
words_of_bytes (suc n) bytes = data_word bytes ∷ words_of_bytes n (drop 8 bytes)

-- how many words so many bytes take
abbrev pub data_len : ℕ → ℕ
data_len len = (len + 7) / 8

abbrev pub message_words : Numbered → List ℕ
message_words m =
    message_word (length m.message) m.number
    ∷ words_of_bytes (data_len (length m.message)) m.message

abbrev pub body_words : Body → List ℕ
body_words (Messages messages) = flat_map message_words messages
body_words (Marked mark) = mark_word mark ∷ []

abbrev pub frame_words : Frame → List ℕ
frame_words f = head_word f.owner.0 (length (body_words f.body)) f.tenure ∷ body_words f.body

abbrev pub log_words : List Frame → List ℕ
log_words frames = flat_map frame_words frames

-- ---- frames of a log

-- 1 to so many messages, or a mark
abbrev pub IsBodyOf : ℕ → Body → Type 0
IsBodyOf most (Messages messages) =
    (0 < length messages) × (length messages ≤ most) × All IsNumbered messages
IsBodyOf most (Marked mark) = Unit {0}

pub record IsFrameOf (most senders : ℕ) (f : Frame) : Type 0 where
  pub tenure : f.tenure < TENURES
  pub owner : f.owner.0 < senders
  pub owner_bits : f.owner.0 < 2 ^ 8
  pub body : IsBodyOf most f.body

-- frames whose tenures rise strictly, the first not below least; nothing follows an end mark, and
-- no frame of its owner a leave mark
abbrev pub AreFramesFromOf : ℕ → ℕ → ℕ → List Frame → Type 0
AreFramesFromOf most senders least [] = Unit {0}
AreFramesFromOf most senders least (f ∷ frames) =
    IsFrameOf most senders f × (least ≤ f.tenure) × (f.body ≡ Marked mark.End → frames ≡ [])
    × AreFramesFromOf most senders (f.tenure + 1) frames
    × (f.body ≡ Marked mark.Leave → All (λ g. g.owner ≢ f.owner) frames)

-- the frames of a log of so many senders, with so many messages in a frame at most
abbrev pub AreFramesOf : ℕ → ℕ → List Frame → Type 0
AreFramesOf most senders frames = AreFramesFromOf most senders 0 frames

-- the same with as many messages as any frame may have
abbrev pub IsBody : Body → Type 0
IsBody b = IsBodyOf MOST_MESSAGES b

abbrev pub IsFrame : ℕ → Frame → Type 0
IsFrame senders f = IsFrameOf MOST_MESSAGES senders f

abbrev pub AreFramesFrom : ℕ → ℕ → List Frame → Type 0
AreFramesFrom senders least frames = AreFramesFromOf MOST_MESSAGES senders least frames

abbrev pub AreFrames : ℕ → List Frame → Type 0
AreFrames senders frames = AreFramesOf MOST_MESSAGES senders frames

-- ---- what a log says

-- an item, or that a sender has left
pub data Entry : Type 0 where
  Says : Item → Entry
  Leaves : SenderNo → Entry

-- an order: entries one after another, and whether it has ended
pub record Order : Type 0 where
  pub entries : List Entry
  pub ended : Bool

abbrev pub item_in : Entry → List Item
item_in (Says item) = item ∷ []
item_in (Leaves s) = []

-- the items, in their order
abbrev pub items_in : List Entry → List Item
items_in entries = flat_map item_in entries

-- whose it is
abbrev pub sender_of : Entry → SenderNo
sender_of (Says item) = item.sender
sender_of (Leaves s) = s

abbrev pub is_leave_of : ℕ → Entry → Bool
is_leave_of s (Says item) = false
is_leave_of s (Leaves o) = o.0 == s

-- the sender has left in the order
abbrev pub has_gone : ℕ → Order → Bool
has_gone s order = list_any (is_leave_of s) order.entries

abbrev pub item_of : SenderNo → Numbered → Item
item_of owner m = record { sender = owner; number = m.number; message = m.message }

-- every item's sender is its frame's owner
abbrev pub body_items : SenderNo → Body → List Item
body_items owner (Messages messages) = map (item_of owner) messages
body_items owner (Marked mark) = []

-- every item's sender is its frame's owner
abbrev pub items_of : Frame → List Item
items_of f = body_items f.owner f.body

-- the items of a frame's messages, or that its owner has left
abbrev pub body_entries : SenderNo → Body → List Entry
body_entries owner (Messages messages) = map (λ m. Says (item_of owner m)) messages
body_entries owner (Marked mark.End) = []
body_entries owner (Marked mark.Leave) = Leaves owner ∷ []

abbrev pub entries_of : Frame → List Entry
entries_of f = body_entries f.owner f.body

abbrev pub ends : Body → Bool
ends (Messages messages) = false
ends (Marked mark.End) = true
ends (Marked mark.Leave) = false

abbrev pub leaves : Body → Bool
leaves (Messages messages) = false
leaves (Marked mark.End) = false
leaves (Marked mark.Leave) = true

abbrev pub has_end : List Frame → Bool
has_end [] = false
has_end (f ∷ frames) = ends f.body || has_end frames

abbrev pub order_of : List Frame → Order
order_of frames = record { entries = flat_map entries_of frames; ended = has_end frames }

abbrev pub tenure_and_owner : Frame → ℕ × SenderNo
tenure_and_owner f = (f.tenure, f.owner)

-- these words are a log of this order, whose frames have these tenures and owners, and so many
-- messages at most
pub record SpellsOf (most senders : ℕ) (words : List ℕ) (order : Order)
    (owners : List (ℕ × SenderNo)) : Type 0 where
  pub frames : List Frame
  pub lawful : AreFramesOf most senders frames
  pub words_are : log_words frames ≡ words
  pub order_is : order_of frames ≡ order
  pub owners_are : map tenure_and_owner frames ≡ owners

abbrev pub Spells : ℕ → List ℕ → Order → List (ℕ × SenderNo) → Type 0
Spells senders words order owners = SpellsOf MOST_MESSAGES senders words order owners

-- these words are a whole log
pub record IsLogOf (most senders : ℕ) (words : List ℕ) : Type 0 where
  pub frames : List Frame
  pub lawful : AreFramesOf most senders frames
  pub words_are : log_words frames ≡ words

abbrev pub IsLog : ℕ → List ℕ → Type 0
IsLog senders words = IsLogOf MOST_MESSAGES senders words

-- some log begins with these words
abbrev pub BeginsLogOf : ℕ → ℕ → List ℕ → Type 0
BeginsLogOf most senders words = (rest : List ℕ) × IsLogOf most senders (words ++ rest)

abbrev pub BeginsLog : ℕ → List ℕ → Type 0
BeginsLog senders words = BeginsLogOf MOST_MESSAGES senders words

-- a word is bad after others where no log begins with them and then this word
abbrev pub IsBadWordOf : ℕ → ℕ → List ℕ → ℕ → Type 0
IsBadWordOf most senders words word = ¬ BeginsLogOf most senders (words ++ word ∷ [])

abbrev pub IsBadWord : ℕ → List ℕ → ℕ → Type 0
IsBadWord senders words word = IsBadWordOf MOST_MESSAGES senders words word

-- ---- what each word of a log gives

-- of a message with so many data words the last word gives the item
abbrev pub item_pieces : ℕ → Item → List (Option Piece)
item_pieces zero item = Some (piece.Item item) ∷ []
item_pieces (suc n) item = None ∷ item_pieces n item

abbrev pub message_pieces : SenderNo → Numbered → List (Option Piece)
message_pieces owner m = item_pieces (data_len (length m.message)) (item_of owner m)

abbrev pub body_pieces : SenderNo → Body → List (Option Piece)
body_pieces owner (Messages messages) = flat_map (message_pieces owner) messages
body_pieces owner (Marked mark.End) = Some piece.End ∷ []
body_pieces owner (Marked mark.Leave) = Some (piece.Leave owner) ∷ []

-- a head gives its tenure and owner, the last word of a message its item, an end word the end, a
-- leave word its owner; others nothing
abbrev pub frame_pieces : Frame → List (Option Piece)
frame_pieces f = Some (piece.Head f.tenure f.owner) ∷ body_pieces f.owner f.body

abbrev pub log_pieces : List Frame → List (Option Piece)
log_pieces frames = flat_map frame_pieces frames

-- what a word gives after others: each log that begins with them and then this word has it there
abbrev pub GivesPieceOf : ℕ → ℕ → List ℕ → ℕ → Option Piece → Type 0
GivesPieceOf most senders words word found =
    (frames : List Frame) (rest : List ℕ) → AreFramesOf most senders frames
    → log_words frames ≡ words ++ word ∷ rest
    → slice_get (log_pieces frames) (length words) ≡ Some found

abbrev pub GivesPiece : ℕ → List ℕ → ℕ → Option Piece → Type 0
GivesPiece senders words word found = GivesPieceOf MOST_MESSAGES senders words word found

-- ---- what pieces say together

abbrev pub piece_entries : Option Piece → List Entry
piece_entries None = []
piece_entries (Some (piece.Head tenure owner)) = []
piece_entries (Some (piece.Item item)) = Says item ∷ []
piece_entries (Some piece.End) = []
piece_entries (Some (piece.Leave s)) = Leaves s ∷ []

abbrev pub piece_owners : Option Piece → List (ℕ × SenderNo)
piece_owners None = []
piece_owners (Some (piece.Head tenure owner)) = (tenure, owner) ∷ []
piece_owners (Some (piece.Item item)) = []
piece_owners (Some piece.End) = []
piece_owners (Some (piece.Leave s)) = []

abbrev pub is_end : Option Piece → Bool
is_end None = false
is_end (Some (piece.Head tenure owner)) = false
is_end (Some (piece.Item item)) = false
is_end (Some piece.End) = true
is_end (Some (piece.Leave s)) = false

-- the items and leaves that pieces gave, in their order, and whether the end was among them
abbrev pub order_in : List (Option Piece) → Order
order_in pieces = record { entries = flat_map piece_entries pieces; ended = list_any is_end pieces }

-- the tenures and owners of the heads that pieces gave
abbrev pub owners_in : List (Option Piece) → List (ℕ × SenderNo)
owners_in pieces = flat_map piece_owners pieces
