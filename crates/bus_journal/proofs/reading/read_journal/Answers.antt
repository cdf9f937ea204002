use Rattle.std.proofs.Common.{◌≡◌, ◌+◌, ◌++◌, length, drop, ap, sym, subst, ◌∙◌}
use Rattle.std.proofs.lemmas.List.{drop-drop}
use Rattle.bus_journal.specs.Format.{header_bytes}
use Rattle.std.proofs.Common.{List}
use Rattle.std.specs.Prelude.{IsTrue, ◌↔◌}
use Rattle.bus_journal.specs.Records.{HidesRecord}
use Rattle.bus_journal.specs.declared.ends.JournalEnd.TheVariants as end
use Rattle.bus_batch.specs.Frames.{Frame}
use Rattle.bus_journal.specs.Reading.{heading_of, EndsAs, IsJournal, IsLongest}
use Rattle.bus_journal.proofs.Walking.{tells, is_longest}
use Rattle.bus_journal.proofs.reading.read_journal.Goals as goal

pub returns-clause-read : goal.returns-clause-read
returns-clause-read c =
    let t = c.in_ok-log.ensures.told in
    let w = c.in_ok-log.walked in
    let size : length w.words.items ≡ w.words.len = sym w.words.ok.0 in (
      t.frames,
      tells (heading_of c.in_ok-header.header) c.args.bytes.now c.split_at.result.1.now
          c.in_ok-header.start w.size c.in_ok-log.log w.words.items c.len.result
          c.end_of-end.result _
          c.in_ok-header.ensures.heading c.in_ok-header.ensures.size c.in_ok-header.ensures.read
          c.split_at.ensures.back (c.len.ensures ∙ sym size) t,
    )

longest : (c : goal.After-is_hiding-hides) (frames : List Frame)
    → IsJournal (heading_of c.in_ok-header.header) frames
    (drop (c.in_ok-header.start + c.in_ok-log.walked.size) c.args.bytes.now) c.args.bytes.now
    → IsLongest (heading_of c.in_ok-header.header) frames c.args.bytes.now
longest c frames j =
    let w = c.in_ok-log.walked in
    let start = c.in_ok-header.start in
    is_longest (heading_of c.in_ok-header.header) c.args.bytes.now c.split_at.result.1.now
    start w.size (start + w.size) c.in_ok-log.log w.words.items frames
    (c.in_ok-header.ensures.read
    ∙ ap (λ z. header_bytes (heading_of c.in_ok-header.header) ++ z) (sym c.split_at.ensures.back))
    c.in_ok-log.ensures.told
    (ap (λ z. drop w.size z) c.split_at.ensures.back ∙ drop-drop w.size start c.args.bytes.now) j

ending : (c : goal.After-is_hiding-hides)
    → EndsAs c.in_ok-header.header.senders c.in_ok-header.header.most
    (drop (c.in_ok-header.start + c.in_ok-log.walked.size) c.args.bytes.now) c.end_of-end.result
ending c =
    let h = c.in_ok-header.header in
    let w = c.in_ok-log.walked in
    subst (λ z. EndsAs h.senders h.most z c.end_of-end.result)
    (c.split_at-2.ensures.back ∙ ap (λ z. drop w.size z) c.split_at.ensures.back
    ∙ drop-drop w.size c.in_ok-header.start c.args.bytes.now) c.end_of-end.ensures

hiding : (c : goal.After-is_hiding-hides)
    → IsTrue c.is_hiding-hides.result
    ↔ ((c.end_of-end.result ≡ end.Torn)
    × HidesRecord c.in_ok-header.header.senders c.in_ok-header.header.most
    (c.in_ok-header.header.place + c.len.result)
    (drop (c.in_ok-header.start + c.in_ok-log.walked.size) c.args.bytes.now))
hiding c =
    let h = c.in_ok-header.header in
    let w = c.in_ok-log.walked in
    subst (λ z. IsTrue c.is_hiding-hides.result
    ↔ ((c.end_of-end.result ≡ end.Torn)
    × HidesRecord h.senders h.most (h.place + c.len.result) z))
    (c.split_at-2.ensures.back ∙ ap (λ z. drop w.size z) c.split_at.ensures.back
    ∙ drop-drop w.size c.in_ok-header.start c.args.bytes.now) c.is_hiding-hides.ensures

pub returns-clause-longest : goal.returns-clause-longest
returns-clause-longest c frames told = longest c frames told.journal

pub returns-clause-damaged : goal.returns-clause-damaged
returns-clause-damaged c is torn =
    let h = c.in_ok-header.header in
    let w = c.in_ok-log.walked in
    subst (λ z. EndsAs h.senders h.most
    (drop (c.in_ok-header.start + w.size) c.args.bytes.now) z) is (ending c) torn

pub returns-clause-reads : goal.returns-clause-reads
returns-clause-reads c frames told = record {
  tells = told;
  longest = longest c frames told.journal;
  ends = ending c;
  hides = hiding c;
}

pub returns-clause-hides : goal.returns-clause-hides
returns-clause-hides c = hiding c
