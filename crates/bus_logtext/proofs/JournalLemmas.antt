-- Bytes have one answer as a journal, and one repair.
use Rattle.std.proofs.Common.{◌≡◌, ◌≢◌, List, ℕ, refl, sym, ap, subst, ◌∙◌, inl, inr}
use Rattle.std.proofs.Common.{length, take, drop, ◌≤◌, arith}
use Rattle.std.proofs.lemmas.List.{nil_from_length, length-drop, length-take-le}
use Rattle.bus_batch.specs.Frames.{Frame}
use Rattle.bus_journal.specs.Reading.{Answer, Reads, EndsAs, IsRefused}
use Rattle.bus_journal.specs.declared.ends.JournalEnd.TheVariants as end
use Rattle.bus_journal.specs.declared.headers.JournalFault.{JournalFault}
use Rattle.bus_journal.specs.declared.headers.JournalFault.TheVariants as fault
use Rattle.bus_script.specs.declared.answers.Outcome.{Outcome}
use Rattle.bus_script.specs.declared.answers.Outcome.TheVariants.{Done, Refused}
use Rattle.bus_logtext.specs.Journals.{IsJournalAnswer, IsRepaired, IsBeyondRepair, Mends}
use Rattle.bus_logtext.specs.Journals.{journal_text, fault_line, outcome_of}

-- what the laws of journals say of the readings of bytes
pub record AreOne : Type 0 where
  pub answers : (bytes : List ℕ) (told told' : List Frame) (a b : Answer) → Reads bytes told a
      → Reads bytes told' b → (told ≡ told') × (a ≡ b)
  pub faults : (bytes : List ℕ) (f g : JournalFault) → IsRefused bytes f → IsRefused bytes g
      → f ≢ fault.NoMemory → g ≢ fault.NoMemory → f ≡ g
  pub apart : (bytes : List ℕ) (told : List Frame) (a : Answer) (f : JournalFault)
      → Reads bytes told a → IsRefused bytes f → f ≡ fault.NoMemory

pub one_answer : AreOne → (input : List ℕ) (outcome other : Outcome) (text another : List ℕ)
    → IsJournalAnswer input outcome text → IsJournalAnswer input other another
    → (outcome ≡ other) × (text ≡ another)
one_answer one input outcome other text another (inl t) (inl u) =
    let same = one.answers input t.frames u.frames t.answer u.answer t.reads u.reads in (
      t.outcome_is ∙ ap (λ (z : Answer). outcome_of z.end) same.1 ∙ sym u.outcome_is,
      t.text_is
          ∙ ap (λ (z : Answer). journal_text z.heading t.frames z.end z.whole) same.1
          ∙ ap (λ z. journal_text u.answer.heading z u.answer.end u.answer.whole) same.0
          ∙ sym u.text_is,
    )
one_answer one input outcome other text another (inl t) (inr r) =
    absurd (r.none.known (one.apart input t.frames t.answer r.cause t.reads r.none.refused))
one_answer one input outcome other text another (inr r) (inl t) =
    absurd (r.none.known (one.apart input t.frames t.answer r.cause t.reads r.none.refused))
one_answer one input outcome other text another (inr r) (inr s) =
    let same = one.faults input r.cause s.cause r.none.refused s.none.refused r.none.known
    s.none.known in
    (r.outcome_is ∙ sym s.outcome_is, r.text_is ∙ ap fault_line same ∙ sym s.text_is)

not_both : AreOne → (input : List ℕ) (size : ℕ) → Mends input size → IsBeyondRepair input → ⊥
not_both one input size m (inl d) =
    let same = one.answers input m.frames d.frames m.answer d.answer m.reads d.reads in
    elim d.damaged [
      | inl damaged ↦ m.mendable (ap (λ (z : Answer). z.end) same.1 ∙ damaged)
      | inr hides ↦
          let both = sym m.hides ∙ ap (λ (z : Answer). z.hides) same.1 ∙ hides in absurd cc
    ]
not_both one input size m (inr f) =
    f.1.known (one.apart input m.frames m.answer f.0 m.reads f.1.refused)

pub one_repair : AreOne → (input : List ℕ) (outcome other : Outcome) (left another : List ℕ)
    → IsRepaired input outcome left → IsRepaired input other another
    → (outcome ≡ other) × (left ≡ another)
one_repair one input Done Done left another h k =
    let m = h.1 in
    let n = k.1 in
    let same = one.answers input m.frames n.frames m.answer n.answer m.reads n.reads in
    let sizes : h.0 ≡ k.0 =
    m.size_is ∙ ap (λ (z : Answer). z.whole) same.1 ∙ sym n.size_is in
    (refl, h.2 ∙ ap (λ z. take z input) sizes ∙ sym k.2)
one_repair one input Done Refused left another h k = absurd (not_both one input h.0 h.1 k.0)
one_repair one input Refused Done left another h k = absurd (not_both one input k.0 k.1 h.0)
one_repair one input Refused Refused left another h k = (refl, h.1 ∙ sym k.1)

-- what is torn is not left as it is
pub not_left : (senders most : ℕ) (input : List ℕ) (a : Answer) → a.whole ≤ length input
    → EndsAs senders most (drop a.whole input) a.end → a.end ≡ end.Torn
    → input ≡ take a.whole input → ⊥
not_left senders most input a within ends torn same =
    let e = subst (λ z. EndsAs senders most (drop a.whole input) z) torn ends in
    let long = ap length same in
    let front = length-take-le a.whole input within in
    let rest = length-drop a.whole input in
    e.0 (nil_from_length (drop a.whole input) (omega (arith, long, front, rest)))
