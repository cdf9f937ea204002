use Rattle.std.proofs.Common.{sym, ap, ◌∙◌, inl}
use Rattle.bus_journal.specs.declared.ends.JournalEnd.TheVariants as end
use Rattle.bus_logtext.specs.Journals.{journal_text, outcome_of}
use Rattle.bus_logtext.proofs.laws.written_journals_are_told.Goals as goal

pub returns : goal.returns
returns c h frames is lawful few =
    let w = c.written_journals_are_read.ensures.whole h frames is lawful few in
    let a = w.0 in
    inl (record {
      frames = frames;
      answer = a;
      reads = w.1;
      outcome_is = sym (ap outcome_of w.3);
      text_is = sym (ap (λ z. journal_text z frames a.end a.whole) w.2
          ∙ ap (λ z. journal_text h frames z a.whole) w.3
          ∙ ap (λ z. journal_text h frames end.Whole z) w.4);
    })
