-- The pieces of a log say its order and its owners.
use Rattle.std.proofs.Common.{◌≡◌, ℕ, zero, suc, List, [], ◌∷◌, ◌++◌, length, refl, sym, ap, ◌∙◌}
use Rattle.std.proofs.Common.{Bool, false}
use Rattle.std.specs.Prelude.{All, map, ◌||◌}
use Rattle.std.proofs.lemmas.Bool.{true≢false}
use Rattle.std.proofs.lemmas.List.{map-append}
use Rattle.std.proofs.lemmas.List.Elements.{All-head, All-tail}
use Rattle.std.specs.List.{flat_map, list_any}
use Rattle.std.proofs.lemmas.List.Concat.{flat_map-append}
use Rattle.std.proofs.lemmas.List.Folds.{list_any-append}
use Rattle.bus_register.specs.declared.registers.SenderNo.{SenderNo}
use Rattle.bus_batch.specs.declared.messages.Item.{Item}
use Rattle.bus_batch.specs.declared.messages.Mark.TheVariants as mark
use Rattle.bus_batch.specs.Messages.{Numbered}
use Rattle.bus_batch.specs.Frames.{Frame, Body, Messages, Marked, Entry, Says, Order, order_of}
use Rattle.bus_batch.specs.Frames.{has_end, ends, leaves, item_in, items_in, items_of, body_items}
use Rattle.bus_batch.specs.Frames.{entries_of, body_entries, item_of, tenure_and_owner}
use Rattle.bus_batch.specs.Frames.{item_pieces, message_pieces, body_pieces, log_pieces, data_len}
use Rattle.bus_batch.specs.Frames.{piece_entries, piece_owners, is_end, order_in, owners_in}

item_entries : (n : ℕ) (item : Item) → flat_map piece_entries (item_pieces n item) ≡ Says item ∷ []
item_entries zero item = refl
item_entries (suc n) item = item_entries n item

item_owners : (n : ℕ) (item : Item) → flat_map piece_owners (item_pieces n item) ≡ []
item_owners zero item = refl
item_owners (suc n) item = item_owners n item

item_end : (n : ℕ) (item : Item) → list_any is_end (item_pieces n item) ≡ false
item_end zero item = refl
item_end (suc n) item = item_end n item

messages_entries : (o : SenderNo) (ms : List Numbered)
    → flat_map piece_entries (flat_map (message_pieces o) ms) ≡ map (λ m. Says (item_of o m)) ms
messages_entries o [] = refl
messages_entries o (m ∷ ms) =
    flat_map-append piece_entries (message_pieces o m) (flat_map (message_pieces o) ms)
    ∙ ap (λ z. z ++ flat_map piece_entries (flat_map (message_pieces o) ms))
    (item_entries (data_len (length m.message)) (item_of o m))
    ∙ ap (λ z. Says (item_of o m) ∷ z) (messages_entries o ms)

messages_owners : (o : SenderNo) (ms : List Numbered)
    → flat_map piece_owners (flat_map (message_pieces o) ms) ≡ []
messages_owners o [] = refl
messages_owners o (m ∷ ms) =
    flat_map-append piece_owners (message_pieces o m) (flat_map (message_pieces o) ms)
    ∙ ap (λ z. z ++ flat_map piece_owners (flat_map (message_pieces o) ms))
    (item_owners (data_len (length m.message)) (item_of o m))
    ∙ messages_owners o ms

messages_end : (o : SenderNo) (ms : List Numbered)
    → list_any is_end (flat_map (message_pieces o) ms) ≡ false
messages_end o [] = refl
messages_end o (m ∷ ms) =
    list_any-append is_end (message_pieces o m) (flat_map (message_pieces o) ms)
    ∙ ap (λ z. z || list_any is_end (flat_map (message_pieces o) ms))
    (item_end (data_len (length m.message)) (item_of o m))
    ∙ messages_end o ms

body_entries_are : (o : SenderNo) (b : Body)
    → flat_map piece_entries (body_pieces o b) ≡ body_entries o b
body_entries_are o (Messages ms) = messages_entries o ms
body_entries_are o (Marked mark.End) = refl
body_entries_are o (Marked mark.Leave) = refl

body_owners : (o : SenderNo) (b : Body) → flat_map piece_owners (body_pieces o b) ≡ []
body_owners o (Messages ms) = messages_owners o ms
body_owners o (Marked mark.End) = refl
body_owners o (Marked mark.Leave) = refl

pub body_end : (o : SenderNo) (b : Body) → list_any is_end (body_pieces o b) ≡ ends b
body_end o (Messages ms) = messages_end o ms
body_end o (Marked mark.End) = refl
body_end o (Marked mark.Leave) = refl

entries_in-log : (fs : List Frame) → flat_map piece_entries (log_pieces fs) ≡ flat_map entries_of fs
entries_in-log [] = refl
entries_in-log (f ∷ fs) =
    flat_map-append piece_entries (body_pieces f.owner f.body) (log_pieces fs)
    ∙ ap (λ z. z ++ flat_map piece_entries (log_pieces fs)) (body_entries_are f.owner f.body)
    ∙ ap (λ z. entries_of f ++ z) (entries_in-log fs)

ended_in-log : (fs : List Frame) → list_any is_end (log_pieces fs) ≡ has_end fs
ended_in-log [] = refl
ended_in-log (f ∷ fs) =
    list_any-append is_end (body_pieces f.owner f.body) (log_pieces fs)
    ∙ ap (λ z. z || list_any is_end (log_pieces fs)) (body_end f.owner f.body)
    ∙ ap (λ z. ends f.body || z) (ended_in-log fs)

abbrev pub order_made : List Entry → Bool → Order
order_made entries ended = record { entries = entries; ended = ended }

pub order_in-log : (fs : List Frame) → order_in (log_pieces fs) ≡ order_of fs
order_in-log fs =
    ap (λ (z : List Entry). order_made z (list_any is_end (log_pieces fs))) (entries_in-log fs)
    ∙ ap (λ (z : Bool). order_made (flat_map entries_of fs) z) (ended_in-log fs)

pub owners_in-log : (fs : List Frame) → owners_in (log_pieces fs) ≡ map tenure_and_owner fs
owners_in-log [] = refl
owners_in-log (f ∷ fs) =
    ap (λ z. tenure_and_owner f ∷ z)
    (flat_map-append piece_owners (body_pieces f.owner f.body) (log_pieces fs)
    ∙ ap (λ z. z ++ flat_map piece_owners (log_pieces fs)) (body_owners f.owner f.body)
    ∙ owners_in-log fs)

-- the items among the entries of frames
said_items : (o : SenderNo) (ms : List Numbered)
    → items_in (map (λ m. Says (item_of o m)) ms) ≡ map (item_of o) ms
said_items o [] = refl
said_items o (m ∷ ms) = ap (λ z. item_of o m ∷ z) (said_items o ms)

body_items_are : (o : SenderNo) (b : Body) → items_in (body_entries o b) ≡ body_items o b
body_items_are o (Messages ms) = said_items o ms
body_items_are o (Marked mark.End) = refl
body_items_are o (Marked mark.Leave) = refl

pub entries_are_items : (fs : List Frame) → items_in (order_of fs).entries ≡ flat_map items_of fs
entries_are_items [] = refl
entries_are_items (f ∷ fs) =
    flat_map-append item_in (entries_of f) (flat_map entries_of fs)
    ∙ ap (λ z. z ++ items_in (flat_map entries_of fs)) (body_items_are f.owner f.body)
    ∙ ap (λ z. items_of f ++ z) (entries_are_items fs)

-- where nobody leaves, the entries are the items alone
said_alone : (o : SenderNo) (ms : List Numbered)
    → map (λ m. Says (item_of o m)) ms ≡ map Says (map (item_of o) ms)
said_alone o [] = refl
said_alone o (m ∷ ms) = ap (λ z. Says (item_of o m) ∷ z) (said_alone o ms)

body_alone : (o : SenderNo) (b : Body) → leaves b ≡ false
    → body_entries o b ≡ map Says (body_items o b)
body_alone o (Messages ms) stays = said_alone o ms
body_alone o (Marked mark.End) stays = refl
body_alone o (Marked mark.Leave) stays = absurd (true≢false stays)

pub nobody_leaves : (fs : List Frame) → All (λ f. leaves f.body ≡ false) fs
    → (order_of fs).entries ≡ map Says (flat_map items_of fs)
nobody_leaves [] stay = refl
nobody_leaves (f ∷ fs) stay =
    ap (λ z. z ++ flat_map entries_of fs)
    (body_alone f.owner f.body (All-head (λ g. leaves g.body ≡ false) f fs stay))
    ∙ ap (λ z. map Says (items_of f) ++ z)
    (nobody_leaves fs (All-tail (λ g. leaves g.body ≡ false) f fs stay))
    ∙ sym (map-append Says (items_of f) (flat_map items_of fs))
