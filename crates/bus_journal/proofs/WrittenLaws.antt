-- A journal that was written is told whole.
use Rattle.std.proofs.Common.{◌≡◌, ℕ, ◌+◌, List, [], ◌∷◌, ◌++◌, length, drop, map, refl, sym, ap}
use Rattle.std.proofs.Common.{subst, ◌∙◌, arith, inl, inr, false}
use Rattle.std.proofs.lemmas.List.{length-append, append-nil, drop_all}
use Rattle.bus_batch.specs.Frames.{Frame, AreFrames, frame_words, order_of, log_words}
use Rattle.bus_batch.specs.Frames.{tenure_and_owner}
use Rattle.bus_journal.specs.declared.ends.JournalEnd.TheVariants as end
use Rattle.bus_journal.specs.Format.{Heading, IsHeading, journal_bytes, record_bytes, records_bytes}
use Rattle.bus_journal.specs.Reading.{AreFew, Answer, Reads, IsJournal, IsLongest, HasRecords}
use Rattle.bus_journal.specs.Walks.{words_in}
use Rattle.bus_journal.proofs.Chunks.{comparable, length-record}
use Rattle.bus_journal.proofs.Frames.{frames_are_chunks}
use Rattle.bus_journal.proofs.Walking.{begin_these, same_body}
use Rattle.bus_journal.proofs.AnswerLaws.{journal_there}

-- nothing is no record
no_more : (place : ℕ) (cs : List (List ℕ)) (rest : List ℕ) → [] ≡ records_bytes place cs ++ rest
    → cs ≡ []
no_more place [] rest e = refl
no_more place (c ∷ cs) rest e =
    let later = records_bytes (place + length c) cs in
    let size = ap length e in
    let all = length-append (record_bytes place c ++ later) rest in
    let both = length-append (record_bytes place c) later in
    let one = length-record place c in
    absurd (omega (arith, size, all, both, one))

-- all other frames in the bytes begin those that were written
longest : (h : Heading) (frames : List Frame) → AreFrames h.senders frames → AreFew h.most frames
    → IsLongest h frames (journal_bytes h frames)
longest h frames lawful few others rest j =
    elim (comparable h.senders h.most h.place (map frame_words others) (map frame_words frames)
    rest [] (frames_are_chunks h.senders h.most 0 others has.lawful has.few)
    (frames_are_chunks h.senders h.most 0 frames lawful few) (sym has.body_is ∙ own.body_is)) [
      | inl g ↦ begin_these h others frames rest [] body (map frame_words frames) g.more has own
          refl g.longer
      | inr g ↦
          let none = no_more (h.place + length (words_in (map frame_words frames))) g.more rest
          g.rest_is in
          begin_these h others frames rest [] body (map frame_words frames) [] has own refl
          (sym (append-nil (map frame_words frames))
          ∙ ap (λ z. map frame_words frames ++ z) (sym none) ∙ sym g.longer
          ∙ sym (append-nil (map frame_words others)))
    ]
  where
    body : List ℕ
    body = records_bytes h.place (map frame_words frames)

    has : HasRecords h others rest body
    has = same_body h others rest (journal_bytes h frames) body j refl

    own : HasRecords h frames [] body
    own = record { lawful = lawful; few = few; body_is = sym (append-nil body) }

-- the answer
abbrev whole_of : Heading → List Frame → Answer
whole_of h frames = record {
  heading = h;
  order = order_of frames;
  owners = map tenure_and_owner frames;
  words = log_words frames;
  place = h.place + length (log_words frames);
  end = end.Whole;
  whole = length (journal_bytes h frames);
  hides = false;
}

reads : (h : Heading) (frames : List Frame) → IsHeading h → AreFrames h.senders frames
    → AreFew h.most frames → Reads (journal_bytes h frames) frames (whole_of h frames)
reads h frames is lawful few =
    let bytes = journal_bytes h frames in
    let nothing : drop (length bytes) bytes ≡ [] = drop_all (length bytes) bytes (omega arith) in
    record {
      tells = record {
        journal = subst (λ z. IsJournal h frames z bytes) (sym nothing)
            (journal_there h frames [] bytes is lawful few (sym (append-nil bytes)));
        within = omega arith;
        order_is = refl;
        owners_are = refl;
        words_are = refl;
        place_is = refl;
      };
      longest = longest h frames lawful few;
      ends = nothing;
      hides = ((λ is_true. absurd cc), (λ both. let torn = both.0 in absurd cc));
    }

pub told_whole : (h : Heading) (frames : List Frame) → IsHeading h → AreFrames h.senders frames
    → AreFew h.most frames → (a : Answer) × Reads (journal_bytes h frames) frames a
    × (a.heading ≡ h) × (a.end ≡ end.Whole) × (a.whole ≡ length (journal_bytes h frames))
told_whole h frames is lawful few =
    (whole_of h frames, reads h frames is lawful few, refl, refl, refl)
