use Rattle.std.proofs.Common.{◌++◌, take, get_or, ap, sym, refl, ◌∙◌, length}
use Rattle.std.proofs.Common.{append_assoc}
use Rattle.std.proofs.lemmas.List.{take_at, take_all, take_more}
use Rattle.bus_journal.specs.Format.{word_bytes, words_bytes}
use Rattle.bus_journal.proofs.Words.{words-push}
use Rattle.bus_journal.proofs.bytes.push_words.Goals as goal

pub loop-word-preserved : goal.loop-word-preserved
unfolding word_bytes
loop-word-preserved c =
    let i = c.loop-word.word-index in
    let words = c.args.words.now in
    let old = c.args.out.now.items in
    c.in_ok-extend_from_slice.ensures.items
    ∙ ap (λ z. z ++ c.to_be_bytes.result) c.loop-word.invariant
    ∙ append_assoc old (words_bytes (take i words)) c.to_be_bytes.result
    ∙ ap (λ z. old ++ z)
    (ap (λ z. words_bytes (take i words) ++ z) c.to_be_bytes.ensures
    ∙ sym (ap words_bytes (take_more words i 0 c.loop-word-test.true)
    ∙ words-push (take i words) (get_or words i 0)))

pub returns-in_err-extend_from_slice-clause-kept :
    goal.returns-in_err-extend_from_slice-clause-kept
returns-in_err-extend_from_slice-clause-kept c =
    let old = c.args.out.now.items in
    ap (λ z. take (length old) z)
    (c.in_err-extend_from_slice.ensures.items ∙ c.loop-word.invariant)
    ∙ take_at old (words_bytes (take c.loop-word.word-index c.args.words.now)) (length old) refl

pub returns-clause-ok : goal.returns-clause-ok
returns-clause-ok c =
    c.loop-word.invariant
    ∙ ap (λ z. c.args.out.now.items ++ words_bytes z)
    (take_all c.loop-word.word-index c.args.words.now c.loop-word-test.false)

pub returns-clause-kept : goal.returns-clause-kept
returns-clause-kept c =
    let old = c.args.out.now.items in
    ap (λ z. take (length old) z) c.loop-word.invariant
    ∙ take_at old (words_bytes (take c.loop-word.word-index c.args.words.now)) (length old) refl
