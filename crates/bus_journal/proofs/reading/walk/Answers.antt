use Rattle.std.proofs.Common.{◌≡◌, ◌+◌, ◌-◌, [], ◌∷◌, ◌++◌, length, drop, ap, sym, ◌∙◌, arith}
use Rattle.std.proofs.Common.{append_assoc, refl}
use Rattle.std.proofs.lemmas.List.{length-append}
use Rattle.bus_journal.specs.Format.{record_bytes, records_bytes}
use Rattle.bus_journal.specs.Reading.{heading_of}
use Rattle.bus_journal.specs.Walks.{words_in}
use Rattle.bus_journal.proofs.Chunks.{walked_one, chunks-push, words-push, records-push}
use Rattle.bus_journal.proofs.Walking.{walks_from}
use Rattle.bus_journal.proofs.reading.walk.Goals as goal

pub records-preserved : goal.records-preserved
records-preserved c =
    let h = c.args.header.now in
    let inv = c.records.invariant in
    let b = c.in-Some.ensures.some in
    let p = c.in_ok-push_words_of.ensures in
    let rest = c.records.rest.now in
    let old = c.records.words.items in
    let one = walked_one h.senders h.most (h.place + c.len.result)
    (c.args.room - c.len-in-records.result) c.in-Some.count rest p.0 b
    (sym c.split_at.ensures.front ∙ p.1) p.2 in
    let size : length old ≡ c.records.words.len = sym c.records.words.ok.0 in
    let at = c.len.ensures in
    let at' = c.len-in-records.ensures in
    let there : h.place + c.len.result ≡ h.place + length (words_in inv.chunks) =
    ap (λ z. h.place + z) (at ∙ sym size ∙ ap length inv.words_are) in
    let more : length c.push_words_of.new.words.items ≡ length old + length b.words =
    ap length (p.3 ∙ ap (λ z. old ++ z) one.0) ∙ length-append old b.words in
    let count = b.count_is in
    let few = b.few in
    let room = inv.few in
    record {
      chunks = inv.chunks ++ b.words ∷ [];
      each = chunks-push h.senders h.most inv.chunks b.words inv.each b.chunk;
      words_are = p.3 ∙ ap (λ z. old ++ z) one.0 ∙ ap (λ z. z ++ b.words) inv.words_are
          ∙ sym (words-push inv.chunks b.words);
      few = omega arith;
      body_is = inv.body_is
          ∙ ap (λ z. records_bytes h.place inv.chunks ++ z)
          (b.bytes_are ∙ ap (λ z. record_bytes z b.words ++ b.rest) there)
          ∙ sym (append_assoc (records_bytes h.place inv.chunks)
          (record_bytes (h.place + length (words_in inv.chunks)) b.words) b.rest)
          ∙ ap (λ z. z ++ b.rest) (sym (records-push h.place inv.chunks b.words))
          ∙ ap (λ z. records_bytes h.place (inv.chunks ++ b.words ∷ []) ++ z)
          (sym (c.split_at-in-Some.ensures.back
          ∙ ap (λ z. drop 8 z) c.split_at.ensures.back ∙ one.1));
    }

pub returns : goal.returns
returns c =
    let h = c.args.header.now in
    let inv = c.records.invariant in
    let old = c.records.words.items in
    let size : length old ≡ c.records.words.len = sym c.records.words.ok.0 in
    walks_from (heading_of h) c.args.body.now c.records.rest.now old c.args.room
    (length c.args.body.now - length c.records.rest.now) c.len.result c.len-in-records.result
    inv.chunks inv.each inv.words_are inv.few inv.body_is refl (c.len.ensures ∙ sym size)
    (c.len-in-records.ensures ∙ sym size) c.in_default.ensures.none
