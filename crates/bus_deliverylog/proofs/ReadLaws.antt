-- What a reading of a log knows along the words.
use Rattle.std.proofs.Common.{◌≡◌, ℕ, suc, ◌<◌, List, [], ◌∷◌, ◌++◌, length, get_or, take, drop}
use Rattle.std.proofs.Common.{Bool, sym, ap, ◌∙◌, subst, append_assoc, append-nil}
use Rattle.std.specs.Prelude.{Option, ◌||◌}
use Rattle.std.specs.List.{flat_map, list_any}
use Rattle.std.proofs.Math.Bool.{or-false}
use Rattle.std.proofs.lemmas.List.{take-append-drop}
use Rattle.std.proofs.lemmas.List.Concat.{flat_map-append}
use Rattle.std.proofs.lemmas.List.Folds.{list_any-append}
use Rattle.std.proofs.Math.Seq.{drop-cons}
use Rattle.bus_register.specs.declared.registers.SenderNo.{SenderNo}
use Rattle.bus_batch.specs.declared.messages.Piece.{Piece}
use Rattle.bus_batch.specs.Frames.{Order, Entry, SpellsOf, BeginsLogOf, piece_entries, piece_owners}
use Rattle.bus_batch.specs.Frames.{is_end}
use Rattle.bus_batch.specs.Reading.{Reading, HasRead, HasReadOf}
use Rattle.bus_batch.proofs.PieceLaws.{order_made}
use Rattle.bus_deliverylog.specs.Logs.{Reads}

-- one word more
pub reads_more : (senders word : ℕ) (words words' : List ℕ) (old new : Reading)
    (order order' : Order) (owners owners' : List (ℕ × SenderNo)) (found : Option Piece)
    → (r : Reads senders words old order owners) → new.senders ≡ old.senders
    → words' ≡ words ++ word ∷ []
    → HasRead old.senders (words ++ word ∷ []) (r.pieces ++ found ∷ []) new
    → order'.entries ≡ order.entries ++ piece_entries found
    → order'.ended ≡ (order.ended || is_end found)
    → owners' ≡ owners ++ piece_owners found
    → Reads senders words' new order' owners'
reads_more senders word words words' old new order order' owners owners' found r same words_are had
    entries ended owners_are = record {
      pieces = r.pieces ++ found ∷ [];
      senders_are = same ∙ r.senders_are;
      had = subst (λ z. HasRead z words' (r.pieces ++ found ∷ []) new) (sym same)
          (subst (λ z. HasRead old.senders z (r.pieces ++ found ∷ []) new) (sym words_are) had);
      order_is =
          ap (λ (z : List Entry). order_made z order'.ended)
          (entries ∙ ap (λ (z : Order). z.entries ++ piece_entries found) r.order_is
          ∙ ap (λ z. flat_map piece_entries r.pieces ++ z) (sym (append-nil (piece_entries found)))
          ∙ sym (flat_map-append piece_entries r.pieces (found ∷ [])))
          ∙ ap (λ (z : Bool). order_made (flat_map piece_entries (r.pieces ++ found ∷ [])) z)
          (ended ∙ ap (λ (z : Order). z.ended || is_end found) r.order_is
          ∙ ap (λ z. list_any is_end r.pieces || z) (sym (or-false (is_end found)))
          ∙ sym (list_any-append is_end r.pieces (found ∷ [])));
      owners_are =
          owners_are ∙ ap (λ z. z ++ piece_owners found) r.owners_are
          ∙ ap (λ z. flat_map piece_owners r.pieces ++ z) (sym (append-nil (piece_owners found)))
          ∙ sym (flat_map-append piece_owners r.pieces (found ∷ []));
    }

-- words that were read begin a log
pub begins : (most senders : ℕ) (words : List ℕ) (pieces : List (Option Piece)) (reader : Reading)
    → HasReadOf most senders words pieces reader → BeginsLogOf most senders words
begins most senders words pieces reader had =
    let some = had.begins in
    let log = had.leads some.0 some.1 some.2 in
    (some.0, record { frames = log.0; lawful = log.1; words_are = log.2 })

-- words that are a log begin one at each place
pub spells_begin :
    (most senders place : ℕ) (words : List ℕ) (order : Order) (owners : List (ℕ × SenderNo))
    → place < length words → SpellsOf most senders words order owners
    → BeginsLogOf most senders (take place words ++ get_or words place 0 ∷ [])
spells_begin most senders place words order owners below s = (
  drop (suc place) words,
  record {
    frames = s.frames;
    lawful = s.lawful;
    words_are =
        s.words_are
        ∙ sym (append_assoc (take place words) (get_or words place 0 ∷ []) (drop (suc place) words)
        ∙ ap (λ z. take place words ++ z) (sym (drop-cons words place 0 below))
        ∙ take-append-drop place words);
  },
)

-- words that begin a log begin one at each place
pub front_begins : (most senders place : ℕ) (words : List ℕ) → place < length words
    → BeginsLogOf most senders words
    → BeginsLogOf most senders (take place words ++ get_or words place 0 ∷ [])
front_begins most senders place words below log = (
  drop (suc place) words ++ log.0,
  record {
    frames = log.1.frames;
    lawful = log.1.lawful;
    words_are =
        log.1.words_are
        ∙ ap (λ z. z ++ log.0) (sym (take-append-drop place words)
        ∙ ap (λ z. take place words ++ z) (drop-cons words place 0 below)
        ∙ sym
        (append_assoc (take place words) (get_or words place 0 ∷ []) (drop (suc place) words)))
        ∙ append_assoc (take place words ++ get_or words place 0 ∷ []) (drop (suc place) words)
        log.0;
  },
)
