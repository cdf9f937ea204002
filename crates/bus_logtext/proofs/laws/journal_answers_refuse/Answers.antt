use Rattle.std.proofs.Common.{◌≡◌, take, ap, ◌∙◌, inl, inr}
use Rattle.bus_script.specs.declared.answers.Outcome.TheVariants.{Done, Refused}
use Rattle.bus_logtext.specs.Journals.{outcome_of}
use Rattle.bus_logtext.proofs.JournalLemmas.{not_left}
use Rattle.bus_logtext.proofs.laws.journal_answers_refuse.Goals as goal

pub returns-clause-torn : goal.returns-clause-torn
returns-clause-torn c h frames byte input text is lawful few e answer = elim answer [
  | inl t ↦
      let torn = c.journals_refuse.ensures.torn h frames byte input t.frames t.answer is lawful few
      e t.reads in
      let bad : Done ≡ Refused = t.outcome_is ∙ ap outcome_of torn in absurd cc
  | inr r ↦ let bad : Done ≡ Refused = r.outcome_is in absurd cc
]

pub returns-clause-left : goal.returns-clause-left
returns-clause-left c h frames byte input is lawful few e repaired =
    let m = repaired.1 in
    let a = m.answer in
    let torn = c.journals_refuse.ensures.torn h frames byte input m.frames a is lawful few e
    m.reads in
    not_left a.heading.senders a.heading.most input a m.reads.tells.within m.reads.ends torn
    (repaired.2 ∙ ap (λ z. take z input) m.size_is)

pub returns-clause-damaged : goal.returns-clause-damaged
returns-clause-damaged c h frames f sum input text is lawful few one size last other e says =
    elim says [
      | inl (inl t) ↦
          let damaged = c.journals_refuse.ensures.damaged h frames f sum input t.frames t.answer is
          lawful few one size last other e t.reads in
          let bad : Done ≡ Refused = t.outcome_is ∙ ap outcome_of damaged in absurd cc
      | inl (inr r) ↦ let bad : Done ≡ Refused = r.outcome_is in absurd cc
      | inr left ↦
          let m = left.1 in
          m.mendable (c.journals_refuse.ensures.damaged h frames f sum input m.frames m.answer is
          lawful few one size last other e m.reads)
    ]
