use Rattle.std.proofs.Common.{◌≡◌, [], take, ap, sym, subst, ◌∙◌, append-nil, inl, inr}
use Rattle.bus_journal.specs.Format.{journal_bytes}
use Rattle.bus_journal.specs.declared.ends.JournalEnd.TheVariants as end
use Rattle.bus_logtext.specs.Journals.{IsJournalAnswer, journal_text, outcome_of}
use Rattle.bus_logtext.proofs.laws.repaired_journals_are_whole.Goals as goal

pub returns : goal.returns
returns c input left text outcome repaired answer =
    let m = repaired.1 in
    let a = m.answer in
    let left_is : left ≡ take a.whole input =
    repaired.2 ∙ ap (λ z. take z input) m.size_is in
    elim (subst (λ z. IsJournalAnswer z outcome text) left_is answer) [
      | inl t ↦
          let w = c.mended_journals_are_whole.ensures.whole input m.frames t.frames a t.answer
          m.reads t.reads in (
            t.outcome_is ∙ ap outcome_of w.2,
            (
              m.frames,
              a,
              m.reads,
              t.text_is
                  ∙ ap (λ z. journal_text t.answer.heading z t.answer.end t.answer.whole) w.0
                  ∙ ap (λ z. journal_text z m.frames t.answer.end t.answer.whole) w.1
                  ∙ ap (λ z. journal_text a.heading m.frames z t.answer.whole) w.2
                  ∙ ap (λ z. journal_text a.heading m.frames end.Whole z) w.3,
            ),
          )
      | inr r ↦
          absurd (r.none.known (c.written_journals_are_read.ensures.never a.heading m.frames []
          (take a.whole input) r.cause m.reads.tells.journal.heading
          (c.mended_journals_are_whole.ensures.left input m.frames a m.reads
          ∙ sym (append-nil (journal_bytes a.heading m.frames))) r.none.refused))
    ]
