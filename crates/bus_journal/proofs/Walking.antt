-- From the records that were walked to the frames that are told.
use Rattle.std.proofs.Common.{◌≡◌, ℕ, ◌+◌, ◌-◌, ◌<◌, ◌≤◌, List, [], ◌∷◌, Bool}
use Rattle.std.proofs.Common.{◌++◌, length, get_or, take, drop, map, sym, ap, subst, ◌∙◌}
use Rattle.std.proofs.Common.{arith, append_assoc, ◌⊎◌, inl, inr}
use Rattle.std.specs.List.{AllByRecursion}
use Rattle.std.proofs.lemmas.List.{length-append, length-drop, append-nil, take_more}
use Rattle.std.proofs.lemmas.List.{take-append-drop, take-append-le, drop-drop, drop_at}
use Rattle.std.proofs.lemmas.List.{append_cancel_left}
use Rattle.bus_batch.specs.Frames.{Frame, AreFrames, frame_words, log_words, order_of, Spells}
use Rattle.bus_batch.specs.Frames.{tenure_and_owner}
use Rattle.bus_deliverylog.specs.Logs.{IsFirstBad}
use Rattle.bus_journal.specs.Format.{Heading, IsHeading, header_bytes, records_bytes, record_bytes}
use Rattle.bus_journal.specs.Records.{IsChunk, BeginsNone}
use Rattle.bus_journal.specs.Reading.{HasRecords}
use Rattle.bus_deliverylog.specs.declared.orders.LogRead.{LogRead}
use Rattle.bus_deliverylog.specs.Orders.{order_held}
use Rattle.bus_journal.specs.declared.ends.JournalEnd.{JournalEnd}
use Rattle.bus_journal.specs.Reading.{IsJournal, IsLongest, Tells}
use Rattle.bus_journal.specs.Walks.{Walks, TellsRecords, words_in}
use Rattle.bus_journal.proofs.Chunks.{GoesOn, comparable, length-record, words_few, words-append}
use Rattle.bus_journal.proofs.Chunks.{no_records}
use Rattle.bus_journal.proofs.Frames.{cuts, front_frames, few_from_chunks, frames_are_chunks}
use Rattle.bus_journal.proofs.Frames.{goes_on_as, no_words, no_frames, words_of_frames}

-- the frames that walked records are, where their words begin a log's
pub record Walked (h : Heading) (body words : List ℕ) (size : ℕ) (cs : List (List ℕ))
    (fs : List Frame) (more : List ℕ) : Type 0 where
  pub front : List Frame
  pub back : List Frame
  pub both : fs ≡ front ++ back
  pub chunks_are : map frame_words front ≡ cs
  pub rest_is : log_words back ≡ more
  pub records : HasRecords h front (drop size body) body

pub walked : (h : Heading) (body : List ℕ) (room : ℕ) (words : List ℕ) (size : ℕ)
    (w : Walks h body room words size) (fs : List Frame) (more : List ℕ) → AreFrames h.senders fs
    → log_words fs ≡ words ++ more → Walked h body words size w.chunks fs more
walked h body room words size w fs more lawful e =
    let k = cuts h.senders h.most 0 w.chunks fs more w.each lawful
    (e ∙ ap (λ z. z ++ more) w.words_are) in
    record {
      front = k.front;
      back = k.back;
      both = k.both;
      chunks_are = k.chunks_are;
      rest_is = k.rest_is;
      records = record {
        lawful = front_frames h.senders 0 k.front k.back
            (subst (λ z. AreFrames h.senders z) k.both lawful);
        few = few_from_chunks h.senders h.most k.front
            (subst (AllByRecursion (IsChunk h.senders h.most)) (sym k.chunks_are) w.each);
        body_is = w.body_is
            ∙ ap (λ z. records_bytes h.place z ++ drop size body) (sym k.chunks_are);
      };
    }

-- what a walk has where it stops
pub walks_from : (h : Heading) (body rest words : List ℕ) (room size m n : ℕ)
    (cs : List (List ℕ)) → AllByRecursion (IsChunk h.senders h.most) cs → words ≡ words_in cs
    → length words ≤ room → body ≡ records_bytes h.place cs ++ rest
    → size ≡ length body - length rest → m ≡ length words → n ≡ length words
    → BeginsNone h.senders h.most (h.place + m) (room - n) rest → Walks h body room words size
walks_from h body rest words room size m n cs each words_are few body_is size_is m_is n_is none =
    let all = ap length body_is in
    let both = length-append (records_bytes h.place cs) rest in
    let left : drop size body ≡ rest =
    ap (λ z. drop size z) body_is
    ∙ drop_at (records_bytes h.place cs) rest size (omega arith) in
    record {
      chunks = cs;
      each = each;
      words_are = words_are;
      within = omega arith;
      few = few;
      body_is = body_is ∙ ap (λ z. records_bytes h.place cs ++ z) (sym left);
      none = subst (λ z. BeginsNone h.senders h.most (h.place + z) (room - length words)
          (drop size body)) m_is
          (subst (λ z. BeginsNone h.senders h.most (h.place + m) (room - z) (drop size body)) n_is
          (subst (λ z. BeginsNone h.senders h.most (h.place + m) (room - n) z) (sym left) none));
    }

-- ---- which records follow

-- other records of the same bytes either begin these, or have more where these end
pub compared : (h : Heading) (body : List ℕ) (room : ℕ) (words : List ℕ) (size : ℕ)
    (w : Walks h body room words size) (others : List Frame) (rest : List ℕ)
    → HasRecords h others rest body
    → GoesOn h.place (map frame_words others) rest w.chunks (drop size body)
    ⊎ GoesOn h.place w.chunks (drop size body) (map frame_words others) rest
compared h body room words size w others rest has =
    comparable h.senders h.most h.place (map frame_words others) w.chunks rest (drop size body)
    (frames_are_chunks h.senders h.most 0 others has.lawful has.few) w.each
    (sym has.body_is ∙ w.body_is)

chunks_of : (h : Heading) (body : List ℕ) (others : List Frame) (rest : List ℕ)
    → HasRecords h others rest body
    → AllByRecursion (IsChunk h.senders h.most) (map frame_words others)
chunks_of h body others rest has =
    frames_are_chunks h.senders h.most 0 others has.lawful has.few

behind : (senders most : ℕ) (cs : List (List ℕ)) (c : List ℕ) (ds : List (List ℕ))
    → AllByRecursion (IsChunk senders most) (cs ++ c ∷ ds) → IsChunk senders most c
behind senders most [] c ds each = each.0
behind senders most (b ∷ cs) c ds each = behind senders most cs c ds each.1

-- the next record does not fit in the room
next_passes : (h : Heading) (body : List ℕ) (room : ℕ) (words : List ℕ) (size : ℕ)
    (w : Walks h body room words size) (c : List ℕ) (ds : List (List ℕ)) (rest : List ℕ)
    → IsChunk h.senders h.most c
    → drop size body ≡ records_bytes (h.place + length (words_in w.chunks)) (c ∷ ds) ++ rest
    → room - length words < length c
next_passes h body room words size w c ds rest chunk e =
    let there : h.place + length (words_in w.chunks) ≡ h.place + length words =
    ap (λ z. h.place + length z) (sym w.words_are) in
    w.none c (records_bytes ((h.place + length (words_in w.chunks)) + length c) ds ++ rest) chunk
    (e ∙ append_assoc (record_bytes (h.place + length (words_in w.chunks)) c)
    (records_bytes ((h.place + length (words_in w.chunks)) + length c) ds) rest
    ∙ ap (λ z. record_bytes z c
    ++ (records_bytes ((h.place + length (words_in w.chunks)) + length c) ds ++ rest)) there)

-- where there is room for all, none is left out
pub begins_all : (h : Heading) (body : List ℕ) (words : List ℕ) (size : ℕ)
    (w : Walks h body (length body) words size) (others : List Frame) (rest : List ℕ)
    → HasRecords h others rest body
    → (more : List (List ℕ)) × (w.chunks ≡ map frame_words others ++ more)
begins_all h body words size w others rest has =
    elim (compared h body (length body) words size w others rest has) [
      | inl g ↦ (g.more, g.longer)
      | inr g ↦ none_more g.more g.longer g.rest_is
    ]
  where
    none_more : (ds : List (List ℕ)) → map frame_words others ≡ w.chunks ++ ds
        → drop size body ≡ records_bytes (h.place + length (words_in w.chunks)) ds ++ rest
        → (more : List (List ℕ)) × (w.chunks ≡ map frame_words others ++ more)
    none_more [] e r =
        ([], sym (append-nil w.chunks) ∙ sym e ∙ sym (append-nil (map frame_words others)))
    none_more (c ∷ ds) e r =
        let chunk = behind h.senders h.most w.chunks c ds
        (subst (AllByRecursion (IsChunk h.senders h.most)) e (chunks_of h body others rest has)) in
        let passes = next_passes h body (length body) words size w c ds rest chunk r in
        let there = h.place + length (words_in w.chunks) in
        let left = ap length r in
        let parts = length-append (records_bytes there (c ∷ ds)) rest in
        let first = length-append (record_bytes there c) (records_bytes (there + length c) ds) in
        let one = length-record there c in
        let all = ap length w.body_is in
        let both = length-append (records_bytes h.place w.chunks) (drop size body) in
        let few = words_few h.place w.chunks in
        let same = ap length w.words_are in
        absurd (omega arith)

-- ---- all that was walked is a log

-- so are no other frames but a beginning of these
pub begin_these : (h : Heading) (others front : List Frame) (rest rest' body : List ℕ)
    (cs more : List (List ℕ))
    → HasRecords h others rest body → HasRecords h front rest' body
    → map frame_words front ≡ cs → cs ≡ map frame_words others ++ more
    → (later : List Frame) × (front ≡ others ++ later)
begin_these h others front rest rest' body cs more has has' e e' =
    let k = goes_on_as h.senders 0 0 others front more has.lawful has'.lawful (e ∙ e') in
    (k.0, k.1)

-- ---- a record whose words no log has

-- frames of the same bytes, with words behind the bad one's place, would be a log that has it
bad_in_log : (senders : ℕ) (words : List ℕ) (place : ℕ) (others : List Frame) (back : List ℕ)
    → IsFirstBad senders words place → AreFrames senders others
    → words ≡ log_words others ++ back → place < length (log_words others) → ⊥
bad_in_log senders words place others back bad lawful e below =
    let fits : place + 1 ≤ length (log_words others) = omega arith in
    let front : take (place + 1) words ≡ take (place + 1) (log_words others) =
    ap (λ z. take (place + 1) z) e ∙ take-append-le (place + 1) (log_words others) back fits in
    let step : take (place + 1) words ≡ take place words ++ get_or words place 0 ∷ [] =
    take_more words place 0 bad.below in
    bad.bad (
      drop (place + 1) (log_words others),
      record {
        frames = others;
        lawful = lawful;
        words_are =
            sym (take-append-drop (place + 1) (log_words others))
            ∙ ap (λ z. z ++ drop (place + 1) (log_words others)) (sym front ∙ step);
      },
    )

-- no frames of the same bytes reach past the records before the bad word
pub begins_good : (h : Heading) (body : List ℕ) (words words' : List ℕ) (size size' place : ℕ)
    (w : Walks h body (length body) words size) (v : Walks h body place words' size')
    (others : List Frame) (rest : List ℕ) → IsFirstBad h.senders words place
    → HasRecords h others rest body
    → (more : List (List ℕ)) × (v.chunks ≡ map frame_words others ++ more)
begins_good h body words words' size size' place w v others rest bad has =
    elim (compared h body place words' size' v others rest has) [
      | inl g ↦ (g.more, g.longer)
      | inr g ↦ none_more g.more g.longer g.rest_is
    ]
  where
    none_more : (ds : List (List ℕ)) → map frame_words others ≡ v.chunks ++ ds
        → drop size' body ≡ records_bytes (h.place + length (words_in v.chunks)) ds ++ rest
        → (more : List (List ℕ)) × (v.chunks ≡ map frame_words others ++ more)
    none_more [] e r =
        ([], sym (append-nil v.chunks) ∙ sym e ∙ sym (append-nil (map frame_words others)))
    none_more (c ∷ ds) e r =
        let chunk = behind h.senders h.most v.chunks c ds
        (subst (AllByRecursion (IsChunk h.senders h.most)) e (chunks_of h body others rest has)) in
        let passes = next_passes h body place words' size' v c ds rest chunk r in
        let few = v.few in
        let whole = begins_all h body words size w others rest has in
        let words_are : words ≡ log_words others ++ words_in whole.0 =
        w.words_are ∙ ap words_in whole.1 ∙ words-append (map frame_words others) whole.0
        ∙ ap (λ z. z ++ words_in whole.0) (words_of_frames others) in
        let others_are : log_words others ≡ words_in v.chunks ++ (c ++ words_in ds) =
        sym (words_of_frames others) ∙ ap words_in e ∙ words-append v.chunks (c ∷ ds) in
        let long = ap length others_are in
        let parts = length-append (words_in v.chunks) (c ++ words_in ds) in
        let parts' = length-append c (words_in ds) in
        let same = ap length v.words_are in
        absurd (bad_in_log h.senders words place others (words_in whole.0) bad has.lawful words_are
        (omega arith))

-- ---- what is told

-- words that were walked and are a log's, where no frames of the same bytes have more
pub told : (h : Heading) (body : List ℕ) (room : ℕ) (log : LogRead) (words : List ℕ) (size : ℕ)
    (w : Walks h body room words size)
    → Spells h.senders words (order_held log.order) log.owners.items
    → ((others : List Frame) (rest : List ℕ) → HasRecords h others rest body
    → (more : List (List ℕ)) × (w.chunks ≡ map frame_words others ++ more))
    → TellsRecords h body log words size
told h body room log words size w s all =
    let k = walked h body room words size w s.frames [] s.lawful
    (s.words_are ∙ sym (append-nil words)) in
    let none = no_words k.back k.rest_is in
    let same : s.frames ≡ k.front =
    k.both ∙ ap (λ z. k.front ++ z) none ∙ append-nil k.front in
    record {
      frames = k.front;
      records = k.records;
      within = w.within;
      words_are = sym s.words_are ∙ ap log_words same;
      order_is = sym s.order_is ∙ ap order_of same;
      owners_are = sym s.owners_are ∙ ap (λ z. map tenure_and_owner z) same;
      longest = λ others rest has.
          let begin = all others rest has in
          begin_these h others k.front rest (drop size body) body w.chunks begin.0 has k.records
          k.chunks_are begin.1;
    }

pub told_all : (h : Heading) (body : List ℕ) (log : LogRead) (words : List ℕ) (size : ℕ)
    → Walks h body (length body) words size
    → Spells h.senders words (order_held log.order) log.owners.items
    → TellsRecords h body log words size
told_all h body log words size w s =
    told h body (length body) log words size w s (begins_all h body words size w)

pub told_good : (h : Heading) (body : List ℕ) (log : LogRead) (words words' : List ℕ)
    (size size' place : ℕ) → Walks h body (length body) words size
    → Walks h body place words' size' → IsFirstBad h.senders words place
    → Spells h.senders words' (order_held log.order) log.owners.items
    → TellsRecords h body log words' size'
told_good h body log words words' size size' place w v bad s =
    told h body place log words' size' v s
    (λ others rest has. begins_good h body words words' size size' place w v others rest bad has)

-- ---- behind a header

-- what was read behind a header is what the whole bytes say
pub tells : (h : Heading) (bytes body : List ℕ) (start size : ℕ) (log : LogRead)
    (words : List ℕ) (n : ℕ) (e : JournalEnd) (b : Bool) → IsHeading h → start ≤ length bytes
    → bytes ≡ header_bytes h ++ drop start bytes → body ≡ drop start bytes → n ≡ length words
    → (t : TellsRecords h body log words size)
    → Tells bytes t.frames (record {
      heading = h;
      order = order_held log.order;
      owners = log.owners.items;
      words = words;
      place = h.place + n;
      end = e;
      whole = start + size;
      hides = b;
    })
tells h bytes body start size log words n e b is within parts body_is n_is t =
    let rest : drop size body ≡ drop (start + size) bytes =
    ap (λ z. drop size z) body_is ∙ drop-drop size start bytes in
    let left = length-drop start bytes in
    let long = ap length body_is in
    let few = t.within in
    record {
      journal = record {
        heading = is;
        body = body;
        records = subst (λ z. HasRecords h t.frames z body) rest t.records;
        bytes_are = parts ∙ ap (λ z. header_bytes h ++ z) (sym body_is);
      };
      within = omega arith;
      order_is = t.order_is;
      owners_are = t.owners_are;
      words_are = t.words_are;
      place_is = ap (λ z. h.place + z) (n_is ∙ ap length t.words_are);
    }

-- frames of one list of words, in the same bytes before the same rest, are one
pub one_list : (h : Heading) (fs gs : List Frame) (rest body : List ℕ)
    → HasRecords h fs rest body → HasRecords h gs rest body → fs ≡ gs
one_list h fs gs rest body has has' =
    elim (comparable h.senders h.most h.place (map frame_words fs) (map frame_words gs) rest rest
    (chunks_of h body fs rest has) (chunks_of h body gs rest has')
    (sym has.body_is ∙ has'.body_is)) [
      | inl g ↦ sym (same fs gs has.lawful has'.lawful g.more g.longer
          (no_records (h.place + length (words_in (map frame_words fs))) g.more rest g.rest_is))
      | inr g ↦ same gs fs has'.lawful has.lawful g.more g.longer
          (no_records (h.place + length (words_in (map frame_words gs))) g.more rest g.rest_is)
    ]
  where
    same : (xs ys : List Frame) → AreFrames h.senders xs → AreFrames h.senders ys
        → (more : List (List ℕ)) → map frame_words ys ≡ map frame_words xs ++ more → more ≡ []
        → ys ≡ xs
    same xs ys lawful lawful' more longer none =
        let k = goes_on_as h.senders 0 0 xs ys more lawful lawful' longer in
        let nobody = no_frames k.0 (k.2 ∙ none) in
        k.1 ∙ ap (λ z. xs ++ z) nobody ∙ append-nil xs

-- the bytes behind one header
pub same_body : (h : Heading) (frames : List Frame) (rest bytes body : List ℕ)
    → (j : IsJournal h frames rest bytes) → bytes ≡ header_bytes h ++ body
    → HasRecords h frames rest body
same_body h frames rest bytes body j e =
    subst (λ z. HasRecords h frames rest z)
    (append_cancel_left (header_bytes h) j.body body (sym j.bytes_are ∙ e)) j.records

pub is_longest : (h : Heading) (bytes body : List ℕ) (start size whole : ℕ) (log : LogRead)
    (words : List ℕ) (frames : List Frame) → bytes ≡ header_bytes h ++ body
    → (t : TellsRecords h body log words size) → drop size body ≡ drop whole bytes
    → IsJournal h frames (drop whole bytes) bytes → IsLongest h frames bytes
is_longest h bytes body start size whole log words frames e t rest j others behind k =
    let here = same_body h frames (drop whole bytes) bytes body j e in
    let one = one_list h t.frames frames (drop whole bytes) body
    (subst (λ z. HasRecords h t.frames z body) rest t.records) here in
    let there = t.longest others behind (same_body h others behind bytes body k e) in
    (there.0, sym one ∙ there.1)
