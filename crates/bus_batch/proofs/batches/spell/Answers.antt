use Rattle.std.proofs.Common.{◌≡◌, ◌+◌, ◌-◌, ◌*◌, ◌/◌, [], ◌∷◌, ◌++◌, length, take, drop, arith}
use Rattle.std.proofs.Common.{sym, ap, ◌∙◌}
use Rattle.std.proofs.lemmas.List.{length-append, length-drop, append_assoc, take_all}
use Rattle.bus_batch.specs.Frames.{message_word, words_of_bytes, data_word, data_len}
use Rattle.bus_batch.proofs.WordLaws.{length-words_of_bytes}
use Rattle.bus_batch.proofs.Spelling.{first_eight, word_pushed}
use Rattle.bus_batch.proofs.batches.spell.Goals as goal

pub push-requires-in-loop-i : goal.push-requires-in-loop-i
push-requires-in-loop-i c =
    let begun =
    c.args.body.now.items ++ message_word (length c.args.bytes.now) c.args.number ∷ [] in
    let long =
    ap (λ z. length z) c.loop-i.invariant.own
    ∙ length-append begun (words_of_bytes c.loop-i.i c.args.bytes.now) in
    let one = length-append c.args.body.now.items
    (message_word (length c.args.bytes.now) c.args.number ∷ []) in
    let own = length-words_of_bytes c.loop-i.i c.args.bytes.now in
    let room = c.requires.room in
    let short = c.requires.short in
    let below = c.loop-i-test.true in
    omega arith

pub loop-i-preserved : goal.loop-i-preserved
loop-i-preserved c =
    let bytes = c.args.bytes.now in
    let i = c.loop-i.i in
    let begun = c.args.body.now.items ++ message_word (length bytes) c.args.number ∷ [] in
    let below = c.loop-i-test.true in
    let word : c.data_word_of.result ≡ data_word (drop (8 * i) bytes) =
    c.data_word_of.ensures
    ∙ ap (λ z. data_word (take z (drop (8 * i) bytes)))
    (let e : 8 * i + 8 - 8 * i ≡ 8 = omega arith in e)
    ∙ first_eight (drop (8 * i) bytes) (let e = length-drop (8 * i) bytes in omega arith) in
    record {
      own = word_pushed begun bytes c.loop-i.body.items c.push-in-loop-i.new.self.items i
          c.data_word_of.result c.loop-i.invariant.own c.push-in-loop-i.ensures.items word;
    }

pub push-requires-then-whole-bytes : goal.push-requires-then-whole-bytes
push-requires-then-whole-bytes c =
    let begun =
    c.args.body.now.items ++ message_word (length c.args.bytes.now) c.args.number ∷ [] in
    let long =
    ap (λ z. length z) c.loop-i.invariant.own
    ∙ length-append begun (words_of_bytes c.loop-i.i c.args.bytes.now) in
    let one = length-append c.args.body.now.items
    (message_word (length c.args.bytes.now) c.args.number ∷ []) in
    let own = length-words_of_bytes c.loop-i.i c.args.bytes.now in
    let room = c.requires.room in
    let short = c.requires.short in
    let some = c.if-whole-bytes.true in
    let most = c.loop-i.auto.i-end in
    omega arith

pub returns-then-whole-bytes : goal.returns-then-whole-bytes
returns-then-whole-bytes c =
    let bytes = c.args.bytes.now in
    let i = c.loop-i.i in
    let begun = c.args.body.now.items ++ message_word (length bytes) c.args.number ∷ [] in
    let some = c.if-whole-bytes.true in
    let most = c.loop-i.auto.i-end in
    let least = c.loop-i-test.false in
    let at : length bytes / 8 ≡ i = omega arith in
    let left : length bytes - 8 * i ≡ length (drop (8 * i) bytes) =
    sym (length-drop (8 * i) bytes) in
    let word : c.data_word_of-then-whole-bytes.result ≡ data_word (drop (8 * i) bytes) =
    c.data_word_of-then-whole-bytes.ensures
    ∙ ap (λ z. data_word (take (length bytes - 8 * z) (drop (8 * z) bytes))) at
    ∙ ap data_word (take_all (length bytes - 8 * i) (drop (8 * i) bytes) (omega arith)) in
    word_pushed begun bytes c.loop-i.body.items c.push-then-whole-bytes.new.self.items i
    c.data_word_of-then-whole-bytes.result c.loop-i.invariant.own
    c.push-then-whole-bytes.ensures.items word
    ∙ append_assoc c.args.body.now.items (message_word (length bytes) c.args.number ∷ [])
    (words_of_bytes (i + 1) bytes)
    ∙ ap (λ z.
    c.args.body.now.items
    ++ (message_word (length bytes) c.args.number ∷ words_of_bytes z bytes))
    (let e : i + 1 ≡ data_len (length bytes) = omega arith in e)
