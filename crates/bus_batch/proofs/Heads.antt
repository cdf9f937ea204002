-- A word in a head's place.
use Rattle.std.proofs.Common.{◌≡◌, ℕ, ◌+◌, ◌*◌, ◌^◌, ◌<◌, ◌≤◌, List, [], ◌∷◌, ◌++◌, length, arith}
use Rattle.std.proofs.Common.{refl}
use Rattle.std.proofs.Common.{sym, ap, ◌∙◌, subst, inl, inr}
use Rattle.std.specs.Prelude.{◌≢◌, All, Bool, true, false, Option, Some, slice_get}
use Rattle.std.proofs.lemmas.List.Elements.{All-nil, All-cons, All-head, All-tail}
use Rattle.std.specs.List.{flat_map}
use Rattle.bus_register.specs.declared.limits.TheConstants.{MOST_MESSAGES, MOST_BODY_WORDS}
use Rattle.bus_register.specs.declared.registers.SenderNo.{SenderNo}
use Rattle.bus_batch.specs.declared.messages.Mark.TheVariants as mark
use Rattle.bus_batch.specs.declared.messages.Piece.{Piece}
use Rattle.bus_batch.specs.declared.messages.Piece.TheVariants as piece
use Rattle.bus_batch.specs.declared.readers.Head.{Head}
use Rattle.bus_batch.specs.declared.readers.Place.TheVariants as place
use Rattle.bus_batch.specs.Messages.{Numbered}
use Rattle.bus_batch.specs.Frames.{end_word, Frame, Body, Messages, Marked, IsFrameOf}
use Rattle.bus_batch.specs.Frames.{IsBodyOf, IsBody, head_word, message_words, body_words}
use Rattle.bus_batch.specs.Frames.{body_pieces, log_words, log_pieces}
use Rattle.bus_batch.specs.Reading.{Awaits, MayFollow}
use Rattle.bus_batch.specs.Steps.{IsHead, Takes, Refuses}
use Rattle.bus_batch.proofs.WordLaws.{head_parts, words_most, words_least}
use Rattle.bus_batch.proofs.Fillings.{fills_some}

-- a frame has some words after its head, and no more than its messages can fill
pub body_has : (most : ℕ) (b : Body) → IsBodyOf most b → 1 ≤ length (body_words b)
body_has most (Messages ms) h = let e = words_least ms in let s = h.0 in omega arith
body_has most (Marked m) h = omega arith

pub body_within : (most : ℕ) (b : Body) → 1 ≤ most → IsBodyOf most b → length
    (body_words b) ≤ 8 * most
body_within most (Messages ms) some h = let e = words_most ms h.2 in let s = h.1 in omega arith
body_within most (Marked m) some h = omega arith

pub body_some : (b : Body) → IsBody b → 1 ≤ length (body_words b)
body_some b h = body_has MOST_MESSAGES b h

pub body_most : (b : Body) → IsBody b → length (body_words b) ≤ MOST_BODY_WORDS
body_most b h = body_within MOST_MESSAGES b (omega arith) h

some_messages : (ms : List Numbered) (count : ℕ) → length (flat_map message_words ms) ≡ count
    → 1 ≤ count → 0 < length ms
some_messages [] count e h = absurd (omega arith)
some_messages (m ∷ ms) count e h = omega arith

abbrev owner_of : ℕ → SenderNo
owner_of n = record { 0 = n }

module _ (most senders least word : ℕ) (gone : List Bool) (bytes bytes' : List ℕ)
    (limit : (1 ≤ most) × (most ≤ MOST_MESSAGES)) (h : Head)
    (is : IsHead most senders least word h) (stays : slice_get gone h.owner.0 ≡ Some false) where
  -- its frame, and then frames of others than have left
  of_stayers : (frame : Frame) (frames : List Frame) → frame.owner ≡ h.owner
      → All (λ f. slice_get gone f.owner.0 ≡ Some false) frames
      → All (λ f. slice_get gone f.owner.0 ≡ Some false) (frame ∷ frames)
  of_stayers frame frames e rest = All-cons (λ f. slice_get gone f.owner.0 ≡ Some false) frame
      frames (ap (λ (o : SenderNo). slice_get gone o.0) e ∙ stays) rest

  head_leads : (rest : List ℕ) (pieces : List (Option Piece))
      → Awaits (record {
        senders = senders;
        most = most;
        least = h.tenure + 1;
        left = gone;
        place = place.Body h.owner h.count most;
        bytes = bytes';
      }) rest pieces
      → Awaits (record {
        senders = senders;
        most = most;
        least = least;
        left = gone;
        place = place.Between;
        bytes = bytes;
      }) (word ∷ rest) (Some (piece.Head h.tenure h.owner) ∷ pieces)
  head_leads rest pieces (inl f) =
      let spelt : word ≡ head_word h.owner.0 (length (flat_map message_words f.messages)) h.tenure =
      is.is ∙ ap (λ z. head_word h.owner.0 z h.tenure) (sym f.long) in
      let some : 0 < length f.messages = some_messages f.messages h.count f.long is.some in
      let frame : Frame = record {
        tenure = h.tenure;
        owner = h.owner;
        body = Messages f.messages;
      } in (
        frame ∷ f.frames,
        (
          (
            record {
              tenure = is.tenure;
              owner = is.owner;
              owner_bits = is.owner_bits;
              body = (some, f.few, f.each);
            },
            is.late,
            (λ e. absurd (cc)),
            f.lawful.0,
            (λ e. absurd (cc)),
          ),
          of_stayers frame f.frames refl f.lawful.1,
        ),
        (let e = f.words_are in cc),
        (let e = f.pieces_are in cc),
      )
  head_leads rest pieces (inr (inl e)) =
      let spelt : word ≡ head_word h.owner.0 1 h.tenure =
      is.is ∙ ap (λ z. head_word h.owner.0 z h.tenure) e.alone in
      let frame : Frame = record { tenure = h.tenure; owner = h.owner; body = Marked mark.End } in (
        frame ∷ [],
        (
          (
            record { tenure = is.tenure; owner = is.owner; owner_bits = is.owner_bits; body = tt },
            is.late,
            (λ _. refl),
            tt,
            (λ e'. absurd (cc)),
          ),
          of_stayers frame [] refl (All-nil (λ f. slice_get gone f.owner.0 ≡ Some false)),
        ),
        (let e' = e.words_are in cc),
        (let e' = e.pieces_are in cc),
      )
  head_leads rest pieces (inr (inr e)) =
      let spelt : word ≡ head_word h.owner.0 1 h.tenure =
      is.is ∙ ap (λ z. head_word h.owner.0 z h.tenure) e.alone in
      let frame : Frame = record {
        tenure = h.tenure;
        owner = h.owner;
        body = Marked mark.Leave;
      } in (
        frame ∷ e.frames,
        (
          (
            record { tenure = is.tenure; owner = is.owner; owner_bits = is.owner_bits; body = tt },
            is.late,
            (λ e'. absurd (cc)),
            e.lawful.0,
            (λ _. e.others),
          ),
          of_stayers frame e.frames refl e.lawful.1,
        ),
        (let e' = e.words_are in cc),
        (let e' = e.pieces_are in cc),
      )

  in_body : (rest : List ℕ) (b : Body) (frames : List Frame) → IsBodyOf most b
      → (b ≡ Marked mark.End → frames ≡ [])
      → (b ≡ Marked mark.Leave → All (λ g. g.owner ≢ h.owner) frames)
      → MayFollow most senders (h.tenure + 1) gone frames
      → length (body_words b) ≡ h.count → rest ≡ body_words b ++ log_words frames
      → Awaits (record {
        senders = senders;
        most = most;
        least = h.tenure + 1;
        left = gone;
        place = place.Body h.owner h.count most;
        bytes = bytes';
      }) rest (body_pieces h.owner b ++ log_pieces frames)
  in_body rest (Messages ms) frames body last others later long words =
      inl (record {
        messages = ms;
        few = body.1;
        each = body.2;
        long = long;
        frames = frames;
        lawful = later;
        words_are = words;
        pieces_are = refl;
      })
  in_body rest (Marked mark.End) frames body last others later long words =
      let none = last refl in
      inr
      (inl (record {
        alone = sym long;
        fresh = refl;
        words_are = words ∙ ap (λ z. end_word ∷ log_words z) none;
        pieces_are = ap (λ z. Some piece.End ∷ log_pieces z) none;
      }))
  in_body rest (Marked mark.Leave) frames body last others later long words =
      inr
      (inr (record {
        alone = sym long;
        fresh = refl;
        frames = frames;
        lawful = later;
        others = others refl;
        words_are = words;
        pieces_are = refl;
      }))

  in_frame : (rest : List ℕ) (pieces : List (Option Piece)) (t : ℕ) (o : SenderNo) (b : Body)
      (frames : List Frame)
      → IsFrameOf most senders (record { tenure = t; owner = o; body = b })
      → (b ≡ Marked mark.End → frames ≡ [])
      → (b ≡ Marked mark.Leave → All (λ g. g.owner ≢ o) frames)
      → MayFollow most senders (t + 1) gone frames
      → word ∷ rest ≡ head_word o.0 (length (body_words b)) t ∷ (body_words b ++ log_words frames)
      → pieces ≡ Some (piece.Head t o) ∷ (body_pieces o b ++ log_pieces frames)
      → (further : List (Option Piece)) × (pieces ≡ Some (piece.Head h.tenure h.owner) ∷ further)
      × Awaits (record {
        senders = senders;
        most = most;
        least = h.tenure + 1;
        left = gone;
        place = place.Body h.owner h.count most;
        bytes = bytes';
      }) rest further
  in_frame rest pieces t o b frames lawful last others later words gives =
      let size = body_within most b limit.0 lawful.body in let few = limit.1 in
      let count_bits : h.count < 2 ^ 14 = let m = is.fillable in let few = limit.1 in omega arith in
      let parts = head_parts o.0 (length (body_words b)) t h.owner.0 h.count h.tenure
      lawful.owner_bits (omega arith) lawful.tenure is.owner_bits count_bits is.tenure
      (let e = is.is in cc) in
      let owner_is : o ≡ h.owner = ap (λ (n : ℕ). owner_of n) parts.0 in
      let later' : MayFollow most senders (h.tenure + 1) gone frames =
      subst (λ z. MayFollow most senders (z + 1) gone frames) parts.2 later in
      let others' : b ≡ Marked mark.Leave → All (λ g. g.owner ≢ h.owner) frames =
      λ e. subst (λ (z : SenderNo). All (λ g. g.owner ≢ z) frames) owner_is (others e) in
      let gives' : pieces
      ≡ Some (piece.Head h.tenure h.owner) ∷ (body_pieces h.owner b ++ log_pieces frames) =
      gives ∙ ap (λ z. Some (piece.Head t z) ∷ (body_pieces z b ++ log_pieces frames)) owner_is
      ∙ ap (λ z. Some (piece.Head z h.owner) ∷ (body_pieces h.owner b ++ log_pieces frames))
      parts.2 in
      let rest_is : rest ≡ body_words b ++ log_words frames = cc in (
        body_pieces h.owner b ++ log_pieces frames,
        gives',
        in_body rest b frames lawful.body last others' later' parts.1 rest_is,
      )

  head_covers : (rest : List ℕ) (pieces : List (Option Piece)) (frames : List Frame)
      → MayFollow most senders least gone frames
      → word ∷ rest ≡ log_words frames → pieces ≡ log_pieces frames
      → (further : List (Option Piece)) × (pieces ≡ Some (piece.Head h.tenure h.owner) ∷ further)
      × Awaits (record {
        senders = senders;
        most = most;
        least = h.tenure + 1;
        left = gone;
        place = place.Body h.owner h.count most;
        bytes = bytes';
      }) rest further
  head_covers rest pieces [] lawful words gives = absurd (cc)
  head_covers rest pieces (f ∷ frames) lawful words gives =
      in_frame rest pieces f.tenure f.owner f.body frames lawful.0.0 lawful.0.2 lawful.0.4 (
        lawful.0.3,
        All-tail (λ z. slice_get gone z.owner.0 ≡ Some false) f frames lawful.1,
      ) words gives

  pub takes_head : Takes (record {
    senders = senders;
    most = most;
    least = least;
    left = gone;
    place = place.Between;
    bytes = bytes;
  }) word (Some (piece.Head h.tenure h.owner))
      (record {
        senders = senders;
        most = most;
        least = h.tenure + 1;
        left = gone;
        place = place.Body h.owner h.count most;
        bytes = bytes';
      })
  takes_head = record {
    limit = refl;
    leads = head_leads;
    covers = λ rest pieces a. head_covers rest pieces a.0 a.1 a.2 a.3;
    begins =
        let s = fills_some most senders (h.tenure + 1) gone h.owner h.count most
        (let m = is.fillable in omega arith) in
        (s.0, s.1, inl s.2);
    ended = ((λ e. absurd cc), (λ e. absurd cc));
  }

-- a word that is no head is refused
module _ (most senders least word : ℕ) (gone : List Bool) (bytes : List ℕ) (positive : 1 ≤ most)
    (no : (h : Head) → ¬ IsHead most senders least word h) where
  no_head : (rest : List ℕ) (frames : List Frame) → MayFollow most senders least gone frames
      → word ∷ rest ≡ log_words frames → ⊥
  no_head rest [] lawful words = absurd (cc)
  no_head rest (f ∷ frames) lawful words =
      let some = body_has most f.body lawful.0.0.body in
      let size = body_within most f.body positive lawful.0.0.body in
      no (record { tenure = f.tenure; owner = f.owner; count = length (body_words f.body) })
      (record {
        is = cc;
        owner = lawful.0.0.owner;
        owner_bits = lawful.0.0.owner_bits;
        some = some;
        fillable = size;
        late = lawful.0.1;
        tenure = lawful.0.0.tenure;
      })

  pub refuses_head : Refuses (record {
    senders = senders;
    most = most;
    least = least;
    left = gone;
    place = place.Between;
    bytes = bytes;
  }) word
  refuses_head rest pieces a = no_head rest a.0 a.1 a.2

-- so is the head of one who has left
module _ (most senders least word : ℕ) (gone : List Bool) (bytes : List ℕ)
    (limit : (1 ≤ most) × (most ≤ MOST_MESSAGES)) (h : Head)
    (is : IsHead most senders least word h) (left : slice_get gone h.owner.0 ≡ Some true) where
  no_leaver : (rest : List ℕ) (frames : List Frame) → MayFollow most senders least gone frames
      → word ∷ rest ≡ log_words frames → ⊥
  no_leaver rest [] lawful words = absurd (cc)
  no_leaver rest (f ∷ frames) lawful words =
      let size = body_within most f.body limit.0 lawful.0.0.body in let few = limit.1 in
      let count_bits : h.count < 2 ^ 14 = let m = is.fillable in let few = limit.1 in omega arith in
      let parts = head_parts f.owner.0 (length (body_words f.body)) f.tenure h.owner.0 h.count
      h.tenure lawful.0.0.owner_bits (omega arith) lawful.0.0.tenure is.owner_bits count_bits
      is.tenure (let e = is.is in cc) in
      let stays : slice_get gone f.owner.0 ≡ Some false =
      All-head (λ z. slice_get gone z.owner.0 ≡ Some false) f frames lawful.1 in
      let both : Some true ≡ Some false = sym (ap (slice_get gone) parts.0 ∙ left) ∙ stays in
      absurd (cc)

  pub refuses_leaver : Refuses (record {
    senders = senders;
    most = most;
    least = least;
    left = gone;
    place = place.Between;
    bytes = bytes;
  }) word
  refuses_leaver rest pieces a = no_leaver rest a.0 a.1 a.2
