-- A word in a message's place, and what comes after a message.
use Rattle.std.proofs.Common.{◌≡◌, ℕ, zero, suc, ◌+◌, ◌-◌, ◌*◌, ◌<◌, ◌≤◌, List, [], ◌∷◌, ◌++◌}
use Rattle.std.proofs.Common.{length, get_or, replicate, arith, refl, sym, ap, ◌∙◌, subst, inl, inr}
use Rattle.std.specs.Prelude.{◌≢◌, Bool, true, false, Option, Some, None, slice_get, slice_set}
use Rattle.std.specs.List.{flat_map}
use Rattle.std.proofs.lemmas.Bool.{cases_lt}
use Rattle.std.proofs.lemmas.List.{nil_from_length}
use Rattle.std.proofs.lemmas.List.Elements.{All-nil, All-replicate}
use Rattle.std.proofs.Math.ListN.{length-replicate}
use Rattle.bus_register.specs.declared.registers.SenderNo.{SenderNo}
use Rattle.bus_batch.specs.declared.messages.Mark.{Mark}
use Rattle.bus_batch.specs.declared.messages.Mark.TheVariants as mark
use Rattle.bus_batch.specs.declared.messages.Piece.{Piece}
use Rattle.bus_batch.specs.declared.messages.Piece.TheVariants as piece
use Rattle.bus_batch.specs.declared.readers.Length.{Length}
use Rattle.bus_batch.specs.declared.readers.Place.{Place}
use Rattle.bus_batch.specs.declared.readers.Place.TheVariants as place
use Rattle.bus_batch.specs.Messages.{Numbered, IsNumbered}
use Rattle.bus_batch.specs.Frames.{end_word, mark_word, data_len, item_of, item_pieces}
use Rattle.bus_batch.specs.Frames.{words_of_bytes, message_word, message_words, message_pieces}
use Rattle.bus_batch.specs.Frames.{log_words, log_pieces}
use Rattle.bus_batch.specs.Reading.{Awaits, Fills, Completes}
use Rattle.bus_batch.specs.Steps.{IsMessageWord, IsAfter, Takes, Refuses}
use Rattle.bus_batch.proofs.WordLaws.{message_parts, not_mark, other_marks, words_most, words_least}
use Rattle.bus_batch.proofs.Fillings.{First, first, fills_some, fills_more}

-- ---- the place after a message

no_messages : (ms : List Numbered) → length (flat_map message_words ms) ≡ 0 → ms ≡ []
no_messages [] e = refl
no_messages (m ∷ ms) e = absurd (let l = words_least (m ∷ ms) in omega arith)

module _ (most senders least : ℕ) (gone : List Bool) (owner : SenderNo) (left room : ℕ) (p : Place)
    (bytes : List ℕ) (after : IsAfter owner left room p) where
  pub after_leads : room < most → (rest : List ℕ) (pieces : List (Option Piece))
      → Awaits (record {
        senders = senders;
        most = most;
        least = least;
        left = gone;
        place = p;
        bytes = bytes;
      })
      rest pieces → Fills most senders least gone owner left room rest pieces
  after_leads few rest pieces = elim (cases_lt 0 left) [
    | inl some ↦ subst (λ z.
        Awaits (record {
          senders = senders;
          most = most;
          least = least;
          left = gone;
          place = z;
          bytes = bytes;
        })
        rest pieces → Fills most senders least gone owner left room rest pieces)
        (sym (after.some some))
        (λ a. elim a [
          | inl f ↦ f
          | inr o ↦ elim o [
            | inl e ↦ absurd (let is : room ≡ most = e.fresh in omega arith)
            | inr e ↦ absurd (let is : room ≡ most = e.fresh in omega arith)
          ]
        ])
    | inr none ↦ subst (λ z.
        Awaits (record {
          senders = senders;
          most = most;
          least = least;
          left = gone;
          place = z;
          bytes = bytes;
        })
        rest pieces → Fills most senders least gone owner left room rest pieces)
        (sym (after.none (omega arith)))
        (λ a. record {
          messages = [];
          few = omega arith;
          each = All-nil IsNumbered;
          long = omega arith;
          frames = a.0;
          lawful = a.1;
          words_are = a.2;
          pieces_are = a.3;
        })
  ]

  pub after_covers : (rest : List ℕ) (pieces : List (Option Piece))
      → Fills most senders least gone owner left room rest pieces
      → Awaits (record {
        senders = senders;
        most = most;
        least = least;
        left = gone;
        place = p;
        bytes = bytes;
      })
      rest pieces
  after_covers rest pieces f = elim (cases_lt 0 left) [
    | inl some ↦ subst (λ z. Awaits
        (record {
          senders = senders;
          most = most;
          least = least;
          left = gone;
          place = z;
          bytes =
              bytes;
        }) rest
        pieces) (sym (after.some some)) (inl f)
    | inr none ↦ subst (λ z. Awaits
        (record {
          senders = senders;
          most = most;
          least = least;
          left = gone;
          place = z;
          bytes =
              bytes;
        }) rest
        pieces) (sym (after.none (omega arith)))
        (let e = no_messages f.messages (f.long ∙ omega arith) in (
          f.frames,
          f.lawful,
          f.words_are ∙ ap (λ z. flat_map message_words z ++ log_words f.frames) e,
          f.pieces_are ∙ ap (λ z. flat_map (message_pieces owner) z ++ log_pieces f.frames) e,
        ))
  ]

  pub after_begins : left ≤ 8 * room
      → (rest : List ℕ) × (pieces : List (Option Piece))
      × Awaits (record {
        senders = senders;
        most = most;
        least = least;
        left = gone;
        place = p;
        bytes = bytes;
      })
      rest pieces
  after_begins h =
      let s = fills_some most senders least gone owner left room h in
      (s.0, s.1, after_covers s.0 s.1 s.2)

-- behind a message is not the end
pub after_goes_on : (owner : SenderNo) (left room : ℕ) (p : Place) → IsAfter owner left room p
    → p ≢ place.Ended
after_goes_on owner left room p after e = elim (cases_lt 0 left) [
  | inl some ↦ let is = after.some some in absurd cc
  | inr none ↦ let is = after.none (omega arith) in absurd cc
]

-- the rest of a message can follow
pub completes_some : (most senders least : ℕ) (gone : List Bool) (owner : SenderNo)
    (left room number len : ℕ) (bytes : List ℕ)
    → length bytes < len → data_len (len - length bytes) ≤ left
    → left ≤ data_len (len - length bytes) + 8 * room
    → (rest : List ℕ) × (pieces : List (Option Piece))
    × Completes most senders least gone owner left room number len bytes rest pieces
completes_some most senders least gone owner left room number len bytes short within fillable =
    let n : ℕ = data_len (len - length bytes) - 1 in
    let more : List ℕ = replicate (len - length bytes) 0 in
    let size : length more ≡ len - length bytes = length-replicate {A = ℕ} (len - length bytes) 0 in
    let s = fills_some most senders least gone owner (left - suc n) room (omega arith) in (
      words_of_bytes (suc n) more ++ s.0,
      item_pieces n (record { sender = owner; number = number; message = bytes ++ more }) ++ s.1,
      record {
        more = more;
        together = omega arith;
        each = All-replicate (λ b. b < 256) (len - length bytes) 0 (omega arith);
        n = n;
        n_is = ap data_len size ∙ (omega arith);
        rest_after = s.0;
        pieces_after = s.1;
        fills = s.2;
        within = omega arith;
        words_are = refl;
        pieces_are = refl;
      },
    )

-- ---- a message word

module _ (most senders least word : ℕ) (gone : List Bool) (owner : SenderNo) (left room : ℕ)
    (bytes : List ℕ) (m : Length) (is : IsMessageWord word m) (some : 1 ≤ left) where
  -- what follows a message word in a message's place
  begun : (rest : List ℕ) (pieces : List (Option Piece))
      → Awaits (record {
        senders = senders;
        most = most;
        least = least;
        left = gone;
        place = place.Body owner left room;
        bytes = bytes;
      }) (word ∷ rest) pieces → First most senders least gone owner left room word rest pieces
  begun rest pieces (inl f) = first most senders least gone owner left room word rest pieces some f
  begun rest pieces (inr (inl e)) = absurd (not_mark mark.End m.len m.number is.len is.number
      (let a = is.is in let b : word ∷ rest ≡ end_word ∷ [] = e.words_are in cc))
  begun rest pieces (inr (inr e)) = absurd (not_mark mark.Leave m.len m.number is.len is.number
      (let a = is.is in
      let b : word ∷ rest ≡ mark_word mark.Leave ∷ log_words e.frames = e.words_are in cc))

  same_len : {rest : List ℕ} {pieces : List (Option Piece)}
      → (f : First most senders least gone owner left room word rest pieces)
      → (m.len ≡ length f.message.message) × (m.number ≡ f.message.number)
  same_len f = message_parts m.len m.number (length f.message.message) f.message.number is.number
      f.lawful.0 (sym is.is ∙ f.word_is)

  -- the count leaves too few words, or too many
  pub refuses_long : left < 1 + data_len m.len
      → Refuses (record {
        senders = senders;
        most = most;
        least = least;
        left = gone;
        place = place.Body owner left room;
        bytes = bytes;
      }) word
  refuses_long long rest pieces a =
      let f = begun rest pieces a in
      let e = same_len f in let w = f.within in let e' = ap data_len e.0 in absurd (omega arith)

  pub refuses_short : 8 * (room - 1) < left - (1 + data_len m.len)
      → Refuses (record {
        senders = senders;
        most = most;
        least = least;
        left = gone;
        place = place.Body owner left room;
        bytes = bytes;
      }) word
  refuses_short short rest pieces a =
      let f = begun rest pieces a in let e = same_len f in let e' = ap data_len e.0 in
      let fills = f.fills in
      let few = fills.few in
      let most = words_most fills.messages fills.each in
      let long = fills.long in absurd (omega arith)

  module _ (within : 1 + data_len m.len ≤ left) (room_more : 1 ≤ room) (room_few : room ≤ most)
      (fillable : left - (1 + data_len m.len) ≤ 8 * (room - 1)) where
    -- a message of no byte
    module _ (p : Place) (bytes' : List ℕ) (empty : m.len ≡ 0)
        (after : IsAfter owner (left - 1) (room - 1) p) where
      empty_leads : (rest : List ℕ) (pieces : List (Option Piece))
          → Awaits
          (record {
            senders = senders;
            most = most;
            least = least;
            left = gone;
            place = p;
            bytes =
                bytes';
          }) rest
          pieces
          → Awaits (record {
            senders = senders;
            most = most;
            least = least;
            left = gone;
            place = place.Body owner left room;
            bytes = bytes;
          }) (word ∷ rest)
          (Some (piece.Item (record { sender = owner; number = m.number; message = [] })) ∷ pieces)
      empty_leads rest pieces a =
          let f = after_leads most senders least gone owner (left - 1) (room - 1) p bytes' after
          (omega arith) rest pieces a in
          let message : Numbered = record { number = m.number; message = [] } in
          let g = fills_more most senders least gone owner left room message rest pieces
          (is.number, (omega arith, All-nil (λ b. b < 256))) (omega arith) room_more f in
          let e : word ≡ message_word 0 m.number =
          is.is ∙ ap (λ z. message_word z m.number) empty in
          inl
          (subst (λ z. Fills most senders least gone owner left room (z ∷ rest)
          (Some (piece.Item (record { sender = owner; number = m.number; message = [] })) ∷ pieces))
          (sym e) g)

      empty_covers : (rest : List ℕ) (pieces : List (Option Piece))
          → Awaits (record {
            senders = senders;
            most = most;
            least = least;
            left = gone;
            place = place.Body owner left room;
            bytes = bytes;
          }) (word ∷ rest) pieces
          → (further : List (Option Piece))
          × (pieces
          ≡ Some (piece.Item (record { sender = owner; number = m.number; message = [] }))
          ∷ further)
          × Awaits
          (record {
            senders = senders;
            most = most;
            least = least;
            left = gone;
            place = p;
            bytes =
                bytes';
          }) rest
          further
      empty_covers rest pieces a =
          let f = begun rest pieces a in let e = same_len f in
          let nothing : f.message.message ≡ [] = nil_from_length f.message.message (omega arith) in
          let fills : Fills most senders least gone owner (left - 1) (room - 1) f.rest_after
          f.pieces_after = subst
          (λ z. Fills most senders least gone owner z (room - 1) f.rest_after f.pieces_after)
          (ap (λ z. left - (1 + data_len (length z))) nothing) f.fills in
          let words : rest ≡ f.rest_after =
          f.words_are ∙ ap (λ z. words_of_bytes (data_len (length z)) z ++ f.rest_after) nothing in
          let gives : pieces
          ≡ Some (piece.Item (record { sender = owner; number = m.number; message = [] }))
          ∷ f.pieces_after =
          f.pieces_are
          ∙ ap (λ z.
          item_pieces (data_len (length z))
          (record { sender = owner; number = f.message.number; message = z }) ++ f.pieces_after)
          nothing
          ∙ ap (λ z.
          Some (piece.Item (record { sender = owner; number = z; message = [] })) ∷ f.pieces_after)
          (sym e.1) in (
            f.pieces_after,
            gives,
            after_covers most senders least gone owner (left - 1) (room - 1) p bytes' after rest
                f.pieces_after
                (subst (λ z. Fills most senders least gone owner (left - 1)
                (room - 1) z f.pieces_after)
                (sym words) fills),
          )

      pub takes_empty : Takes (record {
        senders = senders;
        most = most;
        least = least;
        left = gone;
        place = place.Body owner left room;
        bytes = bytes;
      }) word (Some (piece.Item (record { sender = owner; number = m.number; message = [] })))
          (record {
            senders = senders;
            most = most;
            least = least;
            left = gone;
            place = p;
            bytes =
                bytes';
          })
      takes_empty = record {
        limit = refl;
        leads = empty_leads;
        covers = empty_covers;
        begins = after_begins most senders least gone owner (left - 1) (room - 1) p bytes' after
            (omega arith);
        ended = (
          (λ e. absurd (after_goes_on owner (left - 1) (room - 1) p after e)),
          (λ e. absurd cc),
        );
      }

    -- a message with bytes
    module _ (long : 0 < m.len) where
      begun_leads : (rest : List ℕ) (pieces : List (Option Piece))
          → Awaits (record {
            senders = senders;
            most = most;
            least = least;
            left = gone;
            place = place.Data owner (left - 1) (room - 1) m.number m.len;
            bytes = [];
          }) rest pieces
          → Awaits (record {
            senders = senders;
            most = most;
            least = least;
            left = gone;
            place = place.Body owner left room;
            bytes = bytes;
          }) (word ∷ rest) (None ∷ pieces)
      begun_leads rest pieces k =
          let message : Numbered = record { number = m.number; message = k.more } in
          let size : length k.more ≡ m.len = let t = k.together in omega arith in
          let n_is = k.n_is in
          let fills : Fills most senders least gone owner (left - (1 + data_len (length k.more)))
          (room - 1) k.rest_after k.pieces_after = subst
          (λ z. Fills most senders least gone owner z (room - 1) k.rest_after k.pieces_after)
          (omega arith) k.fills in
          let g = fills_more most senders least gone owner left room message k.rest_after
          k.pieces_after
          (is.number, (let l = is.len in omega arith, k.each)) (let w = k.within in omega arith)
          room_more fills in
          let e : word ≡ message_word (length k.more) m.number =
          is.is ∙ ap (λ z. message_word z m.number) (sym size) in
          let words : word ∷ rest ≡ message_words message ++ k.rest_after =
          (let x = k.words_are in cc)
          ∙ ap
          (λ z. message_word (length k.more) m.number ∷ (words_of_bytes z k.more ++ k.rest_after))
          (sym n_is) in
          let gives : None ∷ pieces ≡ message_pieces owner message ++ k.pieces_after =
          ap (λ z. None ∷ z) k.pieces_are
          ∙ ap (λ z. item_pieces z (item_of owner message) ++ k.pieces_after) (sym n_is) in
          inl (subst (λ z. Fills most senders least gone owner left room z (None ∷ pieces))
          (sym words)
          (subst
          (λ z. Fills most senders least gone owner left room (message_words message
          ++ k.rest_after) z)
          (sym gives) g))

      begun_covers : (rest : List ℕ) (pieces : List (Option Piece))
          → Awaits (record {
            senders = senders;
            most = most;
            least = least;
            left = gone;
            place = place.Body owner left room;
            bytes = bytes;
          }) (word ∷ rest) pieces
          → (further : List (Option Piece)) × (pieces ≡ None ∷ further)
          × Awaits (record {
            senders = senders;
            most = most;
            least = least;
            left = gone;
            place = place.Data owner (left - 1) (room - 1) m.number m.len;
            bytes = [];
          }) rest further
      begun_covers rest pieces a =
          let f = begun rest pieces a in let e = same_len f in
          let n_is : data_len (length f.message.message) ≡ suc (data_len m.len - 1) = omega arith in
          let gives : pieces
          ≡ None ∷ (item_pieces (data_len m.len - 1) (item_of owner f.message) ++ f.pieces_after) =
          f.pieces_are
          ∙ ap (λ z. item_pieces z (item_of owner f.message) ++ f.pieces_after) n_is in (
            item_pieces (data_len m.len - 1) (item_of owner f.message) ++ f.pieces_after,
            gives,
            record {
              more = f.message.message;
              together = omega arith;
              each = f.lawful.1.1;
              n = data_len m.len - 1;
              n_is = n_is;
              rest_after = f.rest_after;
              pieces_after = f.pieces_after;
              fills = subst
                  (λ z. Fills most senders least gone owner z (room - 1) f.rest_after
                  f.pieces_after)
                  (omega arith) f.fills;
              within = let w = f.within in omega arith;
              words_are =
                  f.words_are ∙ ap (λ z. words_of_bytes z f.message.message ++ f.rest_after) n_is;
              pieces_are = ap (λ z.
                  item_pieces (data_len m.len - 1)
                  (record { sender = owner; number = z; message = f.message.message })
                  ++ f.pieces_after) (sym e.1);
            },
          )

      pub takes_begun : Takes (record {
        senders = senders;
        most = most;
        least = least;
        left = gone;
        place = place.Body owner left room;
        bytes = bytes;
      }) word None (record {
        senders = senders;
        most = most;
        least = least;
        left = gone;
        place = place.Data owner (left - 1) (room - 1) m.number m.len;
        bytes = [];
      })
      takes_begun = record {
        limit = refl;
        leads = begun_leads;
        covers = begun_covers;
        begins = completes_some most senders least gone owner (left - 1)
            (room - 1) m.number m.len []
            long (omega arith) (omega arith);
        ended = ((λ e. absurd cc), (λ e. absurd cc));
      }

-- ---- who has left

abbrev sender_as : ℕ → SenderNo
sender_as n = record { 0 = n }

set_there : (gone : List Bool) (i : ℕ) → i < length gone
    → slice_get (slice_set gone i true) i ≡ Some true
set_there [] i below = absurd (omega arith)
set_there (x ∷ gone) zero below = refl
set_there (x ∷ gone) (suc i) below = set_there gone i (omega arith)

set_beside : (gone : List Bool) (i j : ℕ) → j ≢ i
    → slice_get (slice_set gone i true) j ≡ slice_get gone j
set_beside [] i j other = refl
set_beside (x ∷ gone) zero zero other = absurd (other refl)
set_beside (x ∷ gone) zero (suc j) other = refl
set_beside (x ∷ gone) (suc i) zero other = refl
set_beside (x ∷ gone) (suc i) (suc j) other = set_beside gone i j (λ e. other (ap suc e))

-- who has not left once this owner is noted is another, and had not left before
stays_before : (gone : List Bool) (owner s : SenderNo) → owner.0 < length gone
    → slice_get (slice_set gone owner.0 true) s.0 ≡ Some false
    → (slice_get gone s.0 ≡ Some false) × (s ≢ owner)
stays_before gone owner s below stays =
    let other : s.0 ≢ owner.0 = λ e.
    (let e' : Some true ≡ Some false =
    sym (ap (slice_get (slice_set gone owner.0 true)) e ∙ set_there gone owner.0 below) ∙ stays in
    absurd (cc)) in
    (sym (set_beside gone owner.0 s.0 other) ∙ stays, (λ e. other (ap (λ (z : SenderNo). z.0) e)))

stays_after : (gone : List Bool) (owner s : SenderNo) → slice_get gone s.0 ≡ Some false → s ≢ owner
    → slice_get (slice_set gone owner.0 true) s.0 ≡ Some false
stays_after gone owner s stays other =
    set_beside gone owner.0 s.0 (λ e. other (ap sender_as e)) ∙ stays

-- ---- an end word, a leave word, and any other

module _ (most senders least word : ℕ) (gone : List Bool) (owner : SenderNo) (left room : ℕ)
    (bytes bytes' : List ℕ) where
  -- a message has another word than a mark
  no_mark : (m : Mark) → 1 ≤ left → word ≡ mark_word m
      → (rest : List ℕ) (pieces : List (Option Piece))
      → Fills most senders least gone owner left room (word ∷ rest) pieces → ⊥
  no_mark m some is rest pieces f =
      let g = first most senders least gone owner left room word rest pieces some f in
      not_mark m (length g.message.message) g.message.number g.lawful.1.0 g.lawful.0
      (sym g.word_is ∙ is)

  pub takes_end : 1 ≤ left → word ≡ end_word → left ≡ 1 → room ≡ most
      → Takes (record {
        senders = senders;
        most = most;
        least = least;
        left = gone;
        place = place.Body owner left room;
        bytes = bytes;
      }) word (Some piece.End) (record {
        senders = senders;
        most = most;
        least = least;
        left = gone;
        place = place.Ended;
        bytes = bytes';
      })
  takes_end some is alone fresh = record {
    limit = refl;
    leads = λ rest pieces a. inr
        (inl (record {
          alone = alone;
          fresh = fresh;
          words_are = (let e = a.0 in cc);
          pieces_are = (let e = a.1 in cc);
        }));
    covers = λ rest pieces a. elim a [
      | inl f ↦ absurd (no_mark mark.End some is rest pieces f)
      | inr o ↦ elim o [
        | inl e ↦ ([], e.pieces_are, (let x = e.words_are in cc, refl))
        | inr e ↦ absurd (other_marks word is (let x = e.words_are in cc))
      ]
    ];
    begins = ([], [], (refl, refl));
    ended = ((λ _. refl), (λ _. refl));
  }

  pub refuses_end : 1 ≤ left → word ≡ end_word → ((left ≡ 1) → (room ≡ most) → ⊥)
      → Refuses (record {
        senders = senders;
        most = most;
        least = least;
        left = gone;
        place = place.Body owner left room;
        bytes = bytes;
      }) word
  refuses_end some is unless rest pieces a = elim a [
    | inl f ↦ no_mark mark.End some is rest pieces f
    | inr o ↦ elim o [ inl e ↦ unless e.alone e.fresh | inr e ↦ unless e.alone e.fresh ]
  ]

  pub takes_leave : 1 ≤ left → word ≡ mark_word mark.Leave → left ≡ 1 → room ≡ most
      → owner.0 < length gone
      → Takes (record {
        senders = senders;
        most = most;
        least = least;
        left = gone;
        place = place.Body owner left room;
        bytes = bytes;
      }) word (Some (piece.Leave owner)) (record {
        senders = senders;
        most = most;
        least = least;
        left = slice_set gone owner.0 true;
        place = place.Between;
        bytes = bytes';
      })
  takes_leave some is alone fresh below = record {
    limit = refl;
    leads = λ rest pieces a. inr (inr (record {
      alone = alone;
      fresh = fresh;
      frames = a.0;
      lawful = (
        a.1.0,
        (λ k d within. (stays_before gone owner (get_or a.0 k d).owner below (a.1.1 k d within)).0),
      );
      others =
          λ k d within. (stays_before gone owner (get_or a.0 k d).owner below (a.1.1 k d within)).1;
      words_are = (let e = a.2 in cc);
      pieces_are = (let e = a.3 in cc);
    }));
    covers = λ rest pieces a. elim a [
      | inl f ↦ absurd (no_mark mark.Leave some is rest pieces f)
      | inr o ↦ elim o [
        | inl e ↦ absurd (other_marks word (let x = e.words_are in cc) is)
        | inr e ↦ (
          log_pieces e.frames,
          e.pieces_are,
          (
            e.frames,
            (
              e.lawful.0,
              (λ k d within. stays_after gone owner (get_or e.frames k d).owner
                  (e.lawful.1 k d within) (e.others k d within)),
            ),
            (let x = e.words_are in cc),
            refl,
          ),
        )
      ]
    ];
    begins = (
      [],
      [],
      (
        [],
        (tt, All-nil (λ f. slice_get (slice_set gone owner.0 true) f.owner.0 ≡ Some false)),
        refl,
        refl,
      ),
    );
    ended = ((λ e. absurd cc), (λ e. absurd cc));
  }

  pub refuses_leave : 1 ≤ left → word ≡ mark_word mark.Leave → ((left ≡ 1) → (room ≡ most) → ⊥)
      → Refuses (record {
        senders = senders;
        most = most;
        least = least;
        left = gone;
        place = place.Body owner left room;
        bytes = bytes;
      }) word
  refuses_leave some is unless rest pieces a = elim a [
    | inl f ↦ no_mark mark.Leave some is rest pieces f
    | inr o ↦ elim o [ inl e ↦ unless e.alone e.fresh | inr e ↦ unless e.alone e.fresh ]
  ]

  pub refuses_other : 1 ≤ left → (word ≡ end_word → ⊥) → (word ≡ mark_word mark.Leave → ⊥)
      → ((m : Length) → ¬ IsMessageWord word m)
      → Refuses (record {
        senders = senders;
        most = most;
        least = least;
        left = gone;
        place = place.Body owner left room;
        bytes = bytes;
      }) word
  refuses_other some not not' never rest pieces a = elim a [
    | inl f ↦
        let g = first most senders least gone owner left room word rest pieces some f in
        never (record { len = length g.message.message; number = g.message.number })
        (record { is = g.word_is; len = g.lawful.1.0; number = g.lawful.0 })
    | inr o ↦ elim o [
      | inl e ↦ not (let x : word ∷ rest ≡ end_word ∷ [] = e.words_are in cc)
      | inr e ↦
          not' (let x : word ∷ rest ≡ mark_word mark.Leave ∷ log_words e.frames = e.words_are in cc)
    ]
  ]
