use Rattle.std.proofs.Common.{◌++◌, drop, ap, sym, refl, ◌∙◌, arith}
use Rattle.bus_journal.specs.Format.{magic, word_bytes}
use Rattle.bus_journal.proofs.HeaderLaws.{other_magic, torn_early, begins_as, version_parts}
use Rattle.bus_journal.proofs.HeaderLaws.{torn_behind_version, senders_parts, damaged_senders}
use Rattle.bus_journal.proofs.HeaderLaws.{torn_behind_senders}
use Rattle.bus_journal.proofs.headers.senders_of.Goals as goal

pub returns-then-not-are_same-clause-refused : goal.returns-then-not-are_same-clause-refused
unfolding magic
returns-then-not-are_same-clause-refused c =
    other_magic c.args.bytes.now c.min-known.result c.min-known.ensures (λ e.
    let no = c.if-not-are_same.ensures.1 (c.split_at.ensures.front ∙ e) in absurd cc)

pub returns-in_default-clause-refused : goal.returns-in_default-clause-refused
unfolding magic
returns-in_default-clause-refused c =
    let few = c.in_default.ensures.none in
    let back = c.split_at.ensures.back_len in
    let known = c.min-known.ensures in
    torn_early c.args.bytes.now
    (begins_as c.args.bytes.now c.min-known.result c.min-known.ensures
    (sym c.split_at.ensures.front ∙ c.if-not-are_same.ensures.0 refl))
    (omega arith)

pub returns-then-version-ne-VERSION-clause-refused :
    goal.returns-then-version-ne-VERSION-clause-refused
unfolding magic
returns-then-version-ne-VERSION-clause-refused c = (
  drop 8 c.split_at.result.1.now,
  version_parts c.args.bytes.now c.min-known.result c.in-Some.version c.split_at.result.0.now
      c.split_at.result.1.now c.min-known.ensures c.split_at.ensures.front
      (c.if-not-are_same.ensures.0 refl) c.split_at.ensures.back c.in-Some.ensures.long
      c.in-Some.ensures.some,
  c.in-Some.ensures.fits,
  c.if-version-ne-VERSION.true,
)

pub returns-in_default-first_word-clause-refused : goal.returns-in_default-first_word-clause-refused
unfolding magic
returns-in_default-first_word-clause-refused c =
    let few = c.in_default-first_word.ensures.none in
    let back = c.split_at-2.ensures.back_len in
    torn_behind_version c.args.bytes.now (drop 8 c.split_at.result.1.now)
    (version_parts c.args.bytes.now c.min-known.result c.in-Some.version c.split_at.result.0.now
    c.split_at.result.1.now c.min-known.ensures c.split_at.ensures.front
    (c.if-not-are_same.ensures.0 refl) c.split_at.ensures.back c.in-Some.ensures.long
    c.in-Some.ensures.some
    ∙ ap (λ z. magic ++ (word_bytes z ++ drop 8 c.split_at.result.1.now))
    c.if-version-ne-VERSION.false)
    (omega arith)

pub returns-then-senders-eq0-clause-refused : goal.returns-then-senders-eq0-clause-refused
unfolding magic
returns-then-senders-eq0-clause-refused c =
    damaged_senders c.args.bytes.now (drop 8 c.split_at-2.result.1.now) c.in-Some-first_word.senders
    c.in-Some-first_word.ensures.fits
    (senders_parts c.args.bytes.now c.min-known.result c.in-Some.version
    c.in-Some-first_word.senders c.split_at.result.0.now c.split_at.result.1.now
    c.split_at-2.result.1.now c.min-known.ensures c.split_at.ensures.front
    (c.if-not-are_same.ensures.0 refl) c.split_at.ensures.back c.in-Some.ensures.long
    c.in-Some.ensures.some c.if-version-ne-VERSION.false c.split_at-2.ensures.back
    c.in-Some-first_word.ensures.some)
    (λ some few. elim c.then-senders-eq0.branch [
      | goal.then-senders-eq0-via-then-senders-eq0 w ↦
          (let is = w.if-senders-eq0.true in absurd (omega arith))
      | goal.then-senders-eq0-via-else-senders-eq0+then-senders w ↦
          (let past = w.if-senders.true in absurd (omega arith))
    ])

pub returns-then-bytes-senders-clause-refused : goal.returns-then-bytes-senders-clause-refused
unfolding magic
returns-then-bytes-senders-clause-refused c =
    let some = c.if-senders-eq0.false in
    let few = c.if-bytes-senders.true in
    torn_behind_senders c.args.bytes.now (drop 8 c.split_at-2.result.1.now)
    c.in-Some-first_word.senders c.in-Some-first_word.ensures.fits
    (senders_parts c.args.bytes.now c.min-known.result c.in-Some.version
    c.in-Some-first_word.senders c.split_at.result.0.now c.split_at.result.1.now
    c.split_at-2.result.1.now c.min-known.ensures c.split_at.ensures.front
    (c.if-not-are_same.ensures.0 refl) c.split_at.ensures.back c.in-Some.ensures.long
    c.in-Some.ensures.some c.if-version-ne-VERSION.false c.split_at-2.ensures.back
    c.in-Some-first_word.ensures.some)
    (omega arith) c.if-senders.false (omega arith)

pub returns-clause-begins : goal.returns-clause-begins
unfolding magic
returns-clause-begins c =
    let some = c.if-senders-eq0.false in
    let long = c.if-bytes-senders.false in
    record {
      behind = drop 8 c.split_at-2.result.1.now;
      parts = senders_parts c.args.bytes.now c.min-known.result c.in-Some.version
          c.in-Some-first_word.senders c.split_at.result.0.now c.split_at.result.1.now
          c.split_at-2.result.1.now c.min-known.ensures c.split_at.ensures.front
          (c.if-not-are_same.ensures.0 refl) c.split_at.ensures.back c.in-Some.ensures.long
          c.in-Some.ensures.some c.if-version-ne-VERSION.false c.split_at-2.ensures.back
          c.in-Some-first_word.ensures.some;
      some = omega arith;
      most = c.if-senders.false;
      long = omega arith;
    }
