use Rattle.std.proofs.Common.{[], ◌++◌, subst}
use Rattle.sha2.specs.Sha256.{Holds, initial_hash_256}
use Rattle.bus_journal.specs.Format.{word_bytes}
use Rattle.bus_journal.proofs.bytes.checksum_at.Goals as goal

pub returns : goal.returns
unfolding word_bytes
returns c =
    c.sealed.ensures (word_bytes c.args.place ++ c.args.bytes.now)
    (c.finalize.ensures (word_bytes c.args.place ++ c.args.bytes.now)
    (subst (λ z. Holds initial_hash_256 c.update-2.new.self.core (z ++ c.args.bytes.now))
    c.to_be_bytes.ensures
    (c.update-2.ensures c.to_be_bytes.result (c.update.ensures [] c.new-hasher.ensures))))
