use Rattle.std.proofs.Common.{◌≡◌, ◌+◌, ◌*◌, ◌<◌, ◌^◌, ◌++◌, length, take, drop, ap, sym, subst}
use Rattle.std.proofs.Common.{refl, ◌∙◌, arith, All}
use Rattle.bus_journal.specs.Format.{word_bytes, words_bytes, checksum, header_bytes}
use Rattle.bus_journal.proofs.HeaderLaws.{damaged_sum, damaged_numbers, is_header}
use Rattle.bus_journal.proofs.headers.read_header.Goals as goal

pub returns-then-not-are_same-clause-refused : goal.returns-then-not-are_same-clause-refused
returns-then-not-are_same-clause-refused c =
    damaged_sum c.in_ok-senders.senders c.args.bytes.now c.in_ok-senders.ensures.begins (λ e.
    let no = c.if-not-are_same.ensures.1
    (ap (λ z. take 8 z) c.split_at.ensures.back ∙ e
    ∙ sym (c.checksum_of.ensures ∙ ap checksum c.split_at.ensures.front)) in
    absurd cc)

pub returns-then-most-eq0-clause-refused : goal.returns-then-most-eq0-clause-refused
returns-then-most-eq0-clause-refused c =
    let most = c.in-Some-Some.most in
    let place = c.in-Some-Some.place in
    let words = c.split_at-2.ensures.back ∙ ap (λ z. drop 24 z) c.split_at.ensures.front in
    let numbers = c.split_at-3.ensures.back ∙ ap (λ z. drop 8 z) words in
    damaged_numbers c.in_ok-senders.senders most place c.args.bytes.now
    c.in_ok-senders.ensures.begins c.in-Some-Some.ensures.fits c.in-Some-Some.ensures'.fits
    (subst (λ z. z ≡ word_bytes most ++ drop 8 z) words c.in-Some-Some.ensures.some)
    (subst (λ z. z ≡ word_bytes place ++ drop 8 z) numbers c.in-Some-Some.ensures'.some)
    (λ some few low. elim c.then-most-eq0.branch [
      | goal.then-most-eq0-via-then-most-eq0 w ↦
          (let is = w.if-most-eq0.true in absurd (omega arith))
      | goal.then-most-eq0-via-else-most-eq0+then-most-gt-MOST_BATCH w ↦
          (let past = w.if-most-gt-MOST_BATCH.true in absurd (omega arith))
      | goal.then-most-eq0-via-else-most-eq0+else-most-gt-MOST_BATCH+then-place-ge-PLACES w ↦
          (let past = w.if-place-ge-PLACES.true in absurd (omega arith))
    ])

-- what was read stands there
items_are : (c : goal.In_ok-push_words_of)
    → c.push_words_of.new.words.items ≡ c.in_ok-push_words_of.ensures.0
items_are c =
    let p = c.in_ok-push_words_of.ensures in
    p.3 ∙ ap (λ z. z ++ p.0) c.new-first.ensures.items

known : (c : goal.In_ok-push_words_of)
    → (length c.push_words_of.new.words.items ≡ c.in_ok-senders.senders)
    × (c.args.bytes.now
    ≡ header_bytes (record {
      senders = c.in_ok-senders.senders;
      most = c.in-Some-Some.most;
      place = c.in-Some-Some.place;
      first = c.push_words_of.new.words.items;
    }) ++ drop (40 + 8 * c.in_ok-senders.senders + 8) c.args.bytes.now)
known c =
    let most = c.in-Some-Some.most in
    let place = c.in-Some-Some.place in
    let items = c.push_words_of.new.words.items in
    let p = c.in_ok-push_words_of.ensures in
    let words = c.split_at-2.ensures.back ∙ ap (λ z. drop 24 z) c.split_at.ensures.front in
    let behind = sym c.split_at-4.ensures.back ∙ p.1 ∙ ap words_bytes (sym (items_are c)) in
    let numbers = c.in-Some-Some.ensures'.some ∙ ap (λ z. word_bytes place ++ z) behind in
    let tail = c.in-Some-Some.ensures.some
    ∙ ap (λ z. word_bytes most ++ z) (sym c.split_at-3.ensures.back ∙ numbers) in
    is_header c.in_ok-senders.senders most place items c.args.bytes.now
    c.in_ok-senders.ensures.begins (sym words ∙ tail)
    (sym (ap (λ z. take 8 z) c.split_at.ensures.back) ∙ c.if-not-are_same.ensures.0 refl
    ∙ c.checksum_of.ensures ∙ ap checksum c.split_at.ensures.front)

pub returns-clause-heading : goal.returns-clause-heading
returns-clause-heading c = record {
  some_senders = c.in_ok-senders.ensures.begins.some;
  most_senders = c.in_ok-senders.ensures.begins.most;
  some_messages = (let some = c.if-most-eq0.false in omega arith);
  most_messages = c.if-most-gt-MOST_BATCH.false;
  place = c.if-place-ge-PLACES.false;
  each_sender = (known c).0;
  words = subst (All (λ w. w < 2 ^ 64)) (sym (items_are c)) c.in_ok-push_words_of.ensures.2;
}

pub returns-clause-read : goal.returns-clause-read
returns-clause-read c = (known c).1
