use Rattle.std.proofs.Common.{rules, ◌≡◌, ◌+◌, ◌<◌, ◌≤◌, [], ◌∷◌, ◌++◌, length, All, arith, subst}
use Rattle.std.proofs.Common.{sym, ap, ◌∙◌}
use Rattle.std.specs.List.{flat_map}
use Rattle.std.proofs.lemmas.List.{length-append, get_or_default}
use Rattle.bus_register.specs.declared.limits.TheConstants.{MOST_BYTES, NUMBERS}
use Rattle.bus_batch.specs.Messages.{Numbered, numbered_messages}
use Rattle.bus_batch.specs.Frames.{message_words}
use Rattle.bus_batch.specs.Batches.{Pending, spelled}
use Rattle.bus_batch.specs.declared.batches.Phase.TheVariants as phase
use Rattle.bus_batch.proofs.BatchLaws.{kept_put}
use Rattle.bus_batch.proofs.WordLaws.{length-message_words}
use Rattle.bus_batch.proofs.Batching.{words_put}
use Rattle.bus_batch.proofs.Spelling.{spelled_put}
use Rattle.bus_batch.proofs.batches.Batch.put.Goals as goal

pub invariant_of-self : goal.invariant_of-self
invariant_of-self c =
    let old = c.self.inside in
    let bytes = c.args.bytes.now in
    let ms = spelled old.count old.body.items in
    let kept = c.self.invariant.0 in
    let is = c.self.invariant.1 in
    let many = c.self.invariant.2 in
    let most = c.self.invariant.3 in
    let is_open : old.phase ≡ phase.Open = search rules in
    let short : length bytes ≤ MOST_BYTES = search rules in
    let each : All (λ byte. byte < 256) bytes =
    (λ k d below. subst (λ z. z < 256) (get_or_default bytes k 0 d below)
    (let e = c.type_inv.bytes k in search rules)) in
    let numbers : old.first + length ms < NUMBERS = search rules in
    let own : Numbered = record { number = old.first + old.count; message = bytes } in
    let after : spelled (old.count + 1) c.spell.new.body.items ≡ ms ++ bytes ∷ [] =
    ap (λ z. spelled (old.count + 1) z) c.spell.ensures
    ∙ spelled_put old.first old.count old.body.items bytes kept.each many is (omega arith)
    (short, each) in
    let words = c.spell.ensures
    ∙ ap (λ z. z ++ message_words own) is
    ∙ ap (λ z.
    flat_map message_words (numbered_messages old.first ms)
    ++ message_words (record { number = old.first + z; message = bytes })) (sym many)
    ∙ sym (words_put old.first ms bytes)
    ∙ ap (λ z. flat_map message_words (numbered_messages old.first z)) (sym after) in
    let parts =
    ap (λ z. length z) c.spell.ensures ∙ length-append old.body.items (message_words own) in
    let more = length-message_words own in
    let long = ap (λ z. length z) after ∙ length-append ms (bytes ∷ []) in (
      kept_put _ bytes (spelled (old.count + 1) c.spell.new.body.items) kept is_open (omega arith)
          numbers (short, each) after,
      words,
      omega arith,
      omega arith,
    )

pub returns-clause-taken : goal.returns-clause-taken
returns-clause-taken c =
    let old = c.self.inside in
    let bytes = c.args.bytes.now in
    let count = old.count + 1 in
    let items = c.spell.new.body.items in
    let kept = c.self.invariant.0 in
    let is = c.self.invariant.1 in
    let many = c.self.invariant.2 in
    let short : length bytes ≤ MOST_BYTES = search rules in
    let each : All (λ byte. byte < 256) bytes =
    (λ k d below. subst (λ z. z < 256) (get_or_default bytes k 0 d below)
    (let e = c.type_inv.bytes k in search rules)) in
    let numbers : old.first + length (spelled old.count old.body.items) < NUMBERS =
    search rules in
    let after : spelled count items ≡ spelled old.count old.body.items ++ bytes ∷ [] =
    ap (λ z. spelled count z) c.spell.ensures
    ∙ spelled_put old.first old.count old.body.items bytes kept.each many is (omega arith)
    (short, each) in
    subst (λ (s : Pending).
    record {
      sender = old.sender;
      limit = old.limit;
      first = old.first;
      messages = spelled count items;
      phase = old.phase;
      busy = old.busy;
    }
    ≡ record s { messages = s.messages ++ bytes ∷ [] })
    c.self.view_is (ap (λ z. record {
      sender = old.sender;
      limit = old.limit;
      first = old.first;
      messages = z;
      phase = old.phase;
      busy = old.busy;
    }) after)
