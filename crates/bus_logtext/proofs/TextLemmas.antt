-- What is told along the words of a log.
use Rattle.std.proofs.Common.{◌≡◌, ℕ, List, [], ◌∷◌, ◌++◌, length, sym, ap, ◌∙◌, subst, append-nil}
use Rattle.std.proofs.Common.{arith}
use Rattle.std.specs.Prelude.{Option, flat_map}
use Rattle.std.proofs.lemmas.List.{length-append}
use Rattle.std.proofs.lemmas.List.Concat.{flat_map-append}
use Rattle.bus_batch.specs.declared.messages.Piece.{Piece}
use Rattle.bus_batch.specs.Frames.{SpellsOf, log_pieces, order_in, owners_in}
use Rattle.bus_batch.specs.Reading.{Reading, HasReadOf}
use Rattle.bus_world.proofs.ReceivingLaws.{length-log_pieces}
use Rattle.bus_logtext.specs.Text.{piece_line}
use Rattle.bus_logtext.specs.Answers.{TellsLog}

-- a reader of a log with so many messages in a frame at most has read these words, and a text tells
-- their pieces
pub record Tells (most senders : ℕ) (words : List ℕ) (reader : Reading) (text : List ℕ) :
    Type 0 where
  pub pieces : List (Option Piece)
  pub senders_are : reader.senders ≡ senders
  pub had : HasReadOf most reader.senders words pieces reader
  pub text_is : text ≡ flat_map piece_line pieces

-- one word more
pub tells_more : (most senders word : ℕ) (words words' : List ℕ) (old new : Reading)
    (text text' : List ℕ) (found : Option Piece)
    → (t : Tells most senders words old text) → new.senders ≡ old.senders
    → words' ≡ words ++ word ∷ []
    → HasReadOf most old.senders (words ++ word ∷ []) (t.pieces ++ found ∷ []) new
    → text' ≡ text ++ piece_line found → Tells most senders words' new text'
tells_more most senders word words words' old new text text' found t same words_are had more =
    record {
      pieces = t.pieces ++ found ∷ [];
      senders_are = same ∙ t.senders_are;
      had = subst (λ z. HasReadOf most z words' (t.pieces ++ found ∷ []) new) (sym same)
          (subst (λ z. HasReadOf most old.senders z (t.pieces ++ found ∷ []) new) (sym words_are)
          had);
      text_is =
          more ∙ ap (λ z. z ++ piece_line found) t.text_is
          ∙ ap (λ z. flat_map piece_line t.pieces ++ z) (sym (append-nil (piece_line found)))
          ∙ sym (flat_map-append piece_line t.pieces (found ∷ []));
    }

none_left : (xs ys zs : List (Option Piece)) → xs ≡ ys ++ zs → length xs ≡ length ys → xs ≡ ys
none_left xs ys [] e same = e ∙ append-nil ys
none_left xs ys (z ∷ zs) e same =
    let longer = ap length e ∙ length-append ys (z ∷ zs) in absurd (omega (arith, longer))

-- words that end outside a frame are told
pub tells_all : (most senders : ℕ) (words : List ℕ) (reader : Reading) (text : List ℕ)
    → (t : Tells most senders words reader text)
    → SpellsOf most reader.senders words (order_in t.pieces) (owners_in t.pieces)
    → TellsLog most senders words text
tells_all most senders words reader text t s =
    let rest = t.had.covers s.frames [] s.lawful (s.words_are ∙ sym (append-nil words)) in
    let many : length (log_pieces s.frames) ≡ length t.pieces =
    length-log_pieces s.frames ∙ ap length s.words_are ∙ sym t.had.many in
    let pieces : log_pieces s.frames ≡ t.pieces =
    none_left (log_pieces s.frames) t.pieces rest.0 rest.2 many in
    subst (λ z. TellsLog most z words text) t.senders_are (record {
      frames = s.frames;
      lawful = s.lawful;
      words_are = s.words_are;
      text_is = t.text_is ∙ ap (flat_map piece_line) (sym pieces);
    })
