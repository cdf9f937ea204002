use Rattle.std.proofs.Common.{◌≡◌, ◌++◌, string_bytes, sym, ap, ◌∙◌, append-nil, arith}
use Rattle.std.proofs.Math.Facts.{Fits-lt-pow}
use Rattle.std.proofs.lemmas.List.{drop_all}
use Rattle.bus_logtext.specs.Words.{words_text, words_of}
use Rattle.bus_logtext.proofs.PrintLemmas.{words_read_again}
use Rattle.bus_logtext.proofs.words.print_words.Goals as goal

pub returns-clause-read : goal.returns-clause-read
returns-clause-read c = λ few.
    let printed : string_bytes c.loop-word.text ≡ words_text c.args.words.now =
    sym (append-nil (string_bytes c.loop-word.text))
    ∙ ap (λ l. string_bytes c.loop-word.text ++ words_text l)
    (sym (drop_all c.loop-word.word-index c.args.words.now (omega arith)))
    ∙ c.loop-word.invariant in
    ap words_of printed
    ∙ words_read_again c.args.words.now (λ k. Fits-lt-pow (c.type_inv.words k)) few
