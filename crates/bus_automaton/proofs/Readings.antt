-- A reader that stands in a log goes on with its next word.
use Rattle.std.proofs.Common.{◌≡◌, ℕ, ◌+◌, ◌-◌, ◌*◌, ◌<◌, ◌≤◌, ◌^◌, Bool, true, false}
use Rattle.std.proofs.Common.{Option, Some, None, List, [], ◌∷◌, ◌++◌, length, take, drop, min, inl}
use Rattle.std.proofs.Common.{
  inr,
  slice_get,
  slice_set,
  arith,
  refl,
  sym,
  ◌∙◌,
  ap,
  subst,
  replicate,
}
use Rattle.std.specs.Prelude.{All}
use Rattle.std.specs.Int.{w64, to_be_bytes}
use Rattle.std.proofs.lemmas.Bool.{cases_lt}
use Rattle.std.proofs.lemmas.List.{length-append, length-take}
use Rattle.std.proofs.lemmas.List.Elements.{All-head, All-append, All-replicate, All-take}
use Rattle.std.proofs.lemmas.Option.{slice_get_within}
use Rattle.bus_register.specs.declared.limits.TheConstants.{MOST_MESSAGES}
use Rattle.bus_register.specs.declared.registers.SenderNo.{SenderNo}
use Rattle.bus_batch.specs.declared.messages.Piece.{Piece}
use Rattle.bus_batch.specs.declared.messages.Piece.TheVariants as piece
use Rattle.bus_batch.specs.declared.readers.Place.{Place}
use Rattle.bus_batch.specs.declared.readers.Place.TheVariants as place
use Rattle.bus_batch.specs.Frames.{Frame, data_len, data_word}
use Rattle.bus_batch.specs.Frames.{is_end, body_words, log_words, words_of_bytes}
use Rattle.bus_batch.specs.Reading.{Reading, Awaits, IsSound, MayFollow, Fills, Completes, EndsAll}
use Rattle.bus_batch.specs.Reading.{LeavesNext}
use Rattle.bus_batch.specs.Steps.{IsAfter, Takes}
use Rattle.bus_batch.proofs.Bodies.{takes_empty, takes_begun, takes_end, takes_leave}
use Rattle.bus_batch.proofs.Bytes.{data_bytes, padded_len, rest_zero, spread_len, takes_last}
use Rattle.bus_batch.proofs.Bytes.{takes_part}
use Rattle.bus_batch.proofs.Fillings.{First, first}
use Rattle.bus_batch.proofs.Heads.{body_has, body_within, takes_head}
use Rattle.bus_batch.proofs.Taking.{reading}
use Rattle.bus_batch.proofs.WordLaws.{words_most}

-- who owns the frame that is under way has a number among those that may leave
abbrev pub IsNamed : Place → List Bool → Type 0
IsNamed place.Between gone = Unit {0}
IsNamed (place.Body owner left room) gone = owner.0 < length gone
IsNamed (place.Data owner left room number len) gone = owner.0 < length gone
IsNamed place.Ended gone = Unit {0}
IsNamed place.Bad gone = Unit {0}

-- it goes on with each word that it awaits
pub record IsReady (r : Reading) : Type 0 where
  pub sound : IsSound r.most r.place r.bytes
  pub limit : (1 ≤ r.most) × (r.most ≤ MOST_MESSAGES)
  pub named : IsNamed r.place r.left

-- an end mark was read
abbrev pub is_over : Place → Bool
is_over place.Between = false
is_over (place.Body owner left room) = false
is_over (place.Data owner left room number len) = false
is_over place.Ended = true
is_over place.Bad = false

-- with this one it does
pub record GoesOn (old : Reading) (word : ℕ) : Type 0 where
  pub found : Option Piece
  pub new : Reading
  pub over : is_over new.place ≡ is_end found
  pub takes : Takes old word found new
  pub ready : IsReady new
  pub senders : new.senders ≡ old.senders

-- the place after a message
pub record After (most : ℕ) (owner : SenderNo) (left room : ℕ) (gone : List Bool) : Type 0 where
  pub place : Place
  pub is : IsAfter owner left room place
  pub sound : IsSound most place []
  pub named : IsNamed place gone
  pub over : is_over place ≡ false

after : (most : ℕ) (owner : SenderNo) (left room : ℕ) (gone : List Bool) → left ≤ 8 * room
    → room ≤ most → owner.0 < length gone → After most owner left room gone
after most owner left room gone fillable few named = elim (cases_lt 0 left) [
  | inl some ↦ record {
    place = place.Body owner left room;
    is = record { none = λ e. absurd (omega arith); some = λ s. refl };
    sound = (refl, omega arith, omega arith, omega arith);
    named = named;
    over = refl;
  }
  | inr none ↦ record {
    place = place.Between;
    is = record { none = λ e. refl; some = λ s. absurd (omega arith) };
    sound = refl;
    named = tt;
    over = refl;
  }
]

-- eight bytes are a word
data_low : (more : List ℕ) → All (λ b. b < 256) more → data_word more < 2 ^ 64
unfolding data_word
data_low more small =
    let each : All (λ b. b < 256) (take 8 (more ++ replicate 8 0)) =
    All-take (λ b. b < 256) 8 (more ++ replicate 8 0)
    (All-append (λ b. b < 256) more (replicate 8 0) small
    (All-replicate (λ b. b < 256) 8 0 (omega arith))) in
    let size = padded_len more in
    let a = each 0 0 (omega arith) in
    let b = each 1 0 (omega arith) in
    let c = each 2 0 (omega arith) in
    let d = each 3 0 (omega arith) in
    let e = each 4 0 (omega arith) in
    let f = each 5 0 (omega arith) in
    let g = each 6 0 (omega arith) in
    let h = each 7 0 (omega arith) in omega arith

module _ (most senders least : ℕ) (gone : List Bool) (bytes : List ℕ) (word : ℕ) (rest : List ℕ)
    (pieces : List (Option Piece)) where
  abbrev at : Place → Reading
  at p = reading most senders least gone p bytes

  -- at a head
  heads : IsReady (at place.Between) → (frames : List Frame) → MayFollow most senders least gone
      frames
      → word ∷ rest ≡ log_words frames → GoesOn (at place.Between) word
  heads ready [] may words = absurd (cc)
  heads ready (f ∷ frames) may words =
      let lawful = may.0.0 in
      let some = body_has most f.body lawful.body in
      let size = body_within most f.body ready.limit.0 lawful.body in
      let stays : slice_get gone f.owner.0 ≡ Some false =
      All-head (λ z. slice_get gone z.owner.0 ≡ Some false) f frames may.1 in
      record {
        found = Some (piece.Head f.tenure f.owner);
        new = reading most senders (f.tenure + 1) gone
            (place.Body f.owner (length (body_words f.body)) most) bytes;
        over = refl;
        takes = takes_head most senders least word gone bytes bytes ready.limit (record {
          tenure = f.tenure;
          owner = f.owner;
          count = length (body_words f.body);
        }) (record {
          is = cc;
          owner = lawful.owner;
          owner_bits = lawful.owner_bits;
          some = some;
          fillable = size;
          late = may.0.1;
          tenure = lawful.tenure;
        }) stays;
        ready = record {
          sound = (ready.sound, some, omega arith, omega arith);
          limit = ready.limit;
          named = slice_get_within gone f.owner.0 false stays;
        };
        senders = refl {a = senders};
      }

  module _ (owner : SenderNo) (left room : ℕ) (ready : IsReady (at (place.Body owner left room)))
    where
      -- at a message
      begins : Fills most senders least gone owner left room (word ∷ rest) pieces
          → GoesOn (at (place.Body owner left room)) word
      begins f =
          let some = ready.sound.1 in
          let few = ready.sound.3 in
          let g : First most senders least gone owner left room word rest pieces =
          first most senders least gone owner left room word rest pieces some f in
          let size : ℕ = length g.message.message in
          let more = g.room_more in
          let within : 1 + data_len size ≤ left = g.within in
          let short = g.lawful.1.0 in
          let fillable : left - (1 + data_len size) ≤ 8 * (room - 1) =
          let filled = words_most g.fills.messages g.fills.each in
          let number = g.fills.few in
          let long = g.fills.long in omega arith in
          elim (cases_lt 0 size) [
            | inl long ↦ record {
              found = None;
              new = reading most senders least gone
                  (place.Data owner (left - 1) (room - 1) g.message.number size) [];
              over = refl;
              takes = takes_begun most senders least word gone owner left room bytes
                  (record { len = size; number = g.message.number }) (record {
                    is = g.word_is;
                    len = g.lawful.1.0;
                    number = g.lawful.0;
                  }) some within
                  more few fillable long;
              ready = record {
                sound = (omega arith, omega arith, omega arith, omega arith, omega arith, refl);
                limit = ready.limit;
                named = ready.named;
              };
              senders = refl {a = senders};
            }
            | inr short ↦
                let empty : size ≡ 0 = omega arith in
                let none : data_len size ≡ 0 = ap data_len empty in
                let a : After most owner (left - 1) (room - 1) gone =
                after most owner (left - 1) (room - 1) gone (omega arith)
                (omega arith) ready.named in
                record {
                  found =
                      Some
                      (piece.Item (record {
                        sender = owner;
                        number = g.message.number;
                        message = [];
                      }));
                  new = reading most senders least gone a.place [];
                  over = a.over;
                  takes = takes_empty most senders least word gone owner left room bytes
                      (record { len = size; number = g.message.number }) (record {
                        is = g.word_is;
                        len = g.lawful.1.0;
                        number = g.lawful.0;
                      }) some within
                      more few fillable a.place [] empty a.is;
                  ready = record { sound = a.sound; limit = ready.limit; named = a.named };
                  senders = refl {a = senders};
                }
          ]

      -- at an end
      ends : EndsAll most left room (word ∷ rest) pieces → GoesOn (at (place.Body owner left room))
          word
      ends e = record {
        found = Some piece.End;
        new = reading most senders least gone place.Ended bytes;
        over = refl;
        takes = takes_end most senders least word gone owner left room bytes bytes ready.sound.1
            (let x = e.words_are in cc) e.alone e.fresh;
        ready = record { sound = tt; limit = ready.limit; named = tt };
        senders = refl {a = senders};
      }

      -- at a leave
      leaves : LeavesNext most senders least gone owner left room (word ∷ rest) pieces
          → GoesOn (at (place.Body owner left room)) word
      leaves e = record {
        found = Some (piece.Leave owner);
        new = reading most senders least (slice_set gone owner.0 true) place.Between [];
        over = refl;
        takes = takes_leave most senders least word gone owner left room bytes [] ready.sound.1
            (let x = e.words_are in cc) e.alone e.fresh ready.named;
        ready = record { sound = refl; limit = ready.limit; named = tt };
        senders = refl {a = senders};
      }

  -- within a message
  module _ (owner : SenderNo) (left room number len : ℕ)
      (ready : IsReady (at (place.Data owner left room number len)))
      (c : Completes most senders least gone owner left room number len bytes (word ∷ rest) pieces)
    where
      goes_data : GoesOn (at (place.Data owner left room number len)) word
      goes_data =
          let short = ready.sound.0 in
          let length_few = ready.sound.1 in
          let within = ready.sound.2 in
          let fillable = ready.sound.3 in
          let few = ready.sound.4 in
          let eights = ready.sound.5 in
          let k : ℕ = min (len - length bytes) 8 in
          let spelt : word ≡ data_word c.more =
          (let e : word ∷ rest
          ≡ data_word c.more ∷ (words_of_bytes c.n (drop 8 c.more) ++ c.rest_after)
          = c.words_are in cc) in
          let fits : word < 2 ^ 64 = (let low = data_low c.more c.each in omega arith) in
          let long : k ≡ min (length c.more) 8 = (let t = c.together in omega arith) in
          let none : All (λ b. b ≡ 0) (drop k (to_be_bytes w64 word)) =
          subst (λ z. All (λ b. b ≡ 0) (drop k z)) (sym (data_bytes c.more word c.each spelt))
          (rest_zero c.more k long) in
          let took : length (take k (to_be_bytes w64 word)) ≡ k =
          length-take k (to_be_bytes w64 word) ∙ (let e = spread_len word in omega arith) in
          let had : length (bytes ++ take k (to_be_bytes w64 word))
          ≡ length bytes + length (take k (to_be_bytes w64 word)) =
          length-append bytes (take k (to_be_bytes w64 word)) in
          elim (cases_lt (length bytes + k) len) [
            | inl more ↦
                record {
                  found = None;
                  new = reading most senders least gone (place.Data owner
                      (left - 1) room number len)
                      (bytes ++ take k (to_be_bytes w64 word));
                  over = refl;
                  takes = takes_part most senders least word gone owner left room number len k
                      bytes fits
                      short within fillable few refl none more;
                  ready = record {
                    sound = (
                      omega arith,
                      omega arith,
                      omega arith,
                      omega arith,
                      omega arith,
                      omega arith,
                    );
                    limit = ready.limit;
                    named = ready.named;
                  };
                  senders = refl {a = senders};
                }
            | inr whole ↦
                let a : After most owner (left - 1) room gone =
                after most owner (left - 1) room gone (omega arith) (omega arith) ready.named in
                record {
                  found =
                      Some
                      (piece.Item (record {
                        sender = owner;
                        number = number;
                        message = bytes ++ take k (to_be_bytes w64 word);
                      }));
                  new = reading most senders least gone a.place [];
                  over = a.over;
                  takes = takes_last most senders least word gone owner left room number len k
                      bytes fits
                      short within fillable few refl none a.place [] (omega arith) a.is;
                  ready = record { sound = a.sound; limit = ready.limit; named = a.named };
                  senders = refl {a = senders};
                }
          ]

-- wherever it stands
goes_at : (most senders least : ℕ) (gone : List Bool) (p : Place) (bytes : List ℕ) (word : ℕ)
    (rest : List ℕ) (pieces : List (Option Piece))
    → IsReady (reading most senders least gone p bytes)
    → Awaits (reading most senders least gone p bytes) (word ∷ rest) pieces
    → GoesOn (reading most senders least gone p bytes) word
goes_at most senders least gone place.Between bytes word rest pieces ready a =
    heads most senders least gone bytes word rest pieces ready a.0 a.1 a.2
goes_at most senders least gone (place.Body owner left room) bytes word rest pieces ready (inl f) =
    begins most senders least gone bytes word rest pieces owner left room ready f
goes_at most senders least gone (place.Body owner left room) bytes word rest pieces ready
    (inr (inl e)) =
    ends most senders least gone bytes word rest pieces owner left room ready e
goes_at most senders least gone (place.Body owner left room) bytes word rest pieces ready
    (inr (inr e)) =
    leaves most senders least gone bytes word rest pieces owner left room ready e
goes_at most senders least gone (place.Data owner left room number len) bytes word rest pieces
    ready c =
    goes_data most senders least gone bytes word rest pieces owner left room number len ready c
goes_at most senders least gone place.Ended bytes word rest pieces ready a =
    absurd (let x : word ∷ rest ≡ [] = a.0 in cc)
goes_at most senders least gone place.Bad bytes word rest pieces ready a = absurd a

pub goes_on : (r : Reading) (word : ℕ) (rest : List ℕ) (pieces : List (Option Piece))
    → IsReady r → Awaits r (word ∷ rest) pieces → GoesOn r word
goes_on r word rest pieces ready a =
    goes_at r.most r.senders r.least r.left r.place r.bytes word rest pieces ready a
