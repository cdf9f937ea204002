use Rattle.std.proofs.Common.{◌≡◌, ◌++◌, length, drop, ap, ◌∙◌}
use Rattle.std.proofs.lemmas.List.{take_rest}
use Rattle.bus_journal.specs.Format.{magic, checksum, words_bytes}
use Rattle.bus_journal.specs.Reading.{heading_of}
use Rattle.bus_journal.proofs.HeaderLaws.{header_pushed}
use Rattle.bus_journal.proofs.headers.append_header.Goals as goal

pub returns-clause-ok : goal.returns-clause-ok
unfolding magic
returns-clause-ok c =
    let old = c.args.out.now.items in
    let words = c.push_words-2.new.out.items in
    let start = c.len-start.result in
    let at : start ≡ length old = c.len-start.ensures ∙ c.args.out.now.ok.0 in
    header_pushed (heading_of c.args.header.now) old c.extend_from_slice.new.self.items
    c.push_words.new.out.items words c.extend_from_slice-2.new.self.items c.checksum_of-sum.result
    c.in_ok-extend_from_slice.ensures.items c.in_ok-push_words.ensures.ok
    (c.in_ok-push_words-2.ensures.ok
    ∙ ap (λ z. c.push_words.new.out.items ++ words_bytes z) c.deref.ensures.value)
    c.in_ok-extend_from_slice-2.ensures.items
    (c.checksum_of-sum.ensures
    ∙ ap checksum (take_rest c.deref-2.result.now start
    ∙ ap (λ z. drop start z) c.deref-2.ensures.value ∙ ap (λ z. drop z words) at))
