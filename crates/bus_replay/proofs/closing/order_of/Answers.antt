use Rattle.std.proofs.Common.{◌≡◌, ℕ, List, map, refl, sym, ◌∙◌}
use Rattle.std.specs.Prelude.{Result, Ok, Err, MatchResult}
use Rattle.bus_batch.specs.Frames.{IsLog, Spells, order_of, tenure_and_owner}
use Rattle.bus_deliverylog.specs.declared.orders.LogFault.{LogFault}
use Rattle.bus_deliverylog.specs.declared.orders.LogFault.TheVariants as fault
use Rattle.bus_replay.proofs.closing.order_of.Goals as goal

-- of a whole log nothing else goes wrong
only_memory : {A : Type 0} (good : A → Type 0) (r : Result A LogFault) (why : LogFault)
    → r ≡ Err why → MatchResult r good (λ f. f ≡ fault.NoMemory) → why ≡ fault.NoMemory
only_memory good (Ok read) why is said = absurd cc
only_memory good (Err other) why is said = let same : other ≡ why = cc in sym same ∙ said

-- the words are such a log
spelled : (senders : ℕ) (log words : List ℕ) (k : IsLog senders log) → words ≡ log
    → Spells senders words (order_of k.frames) (map tenure_and_owner k.frames)
spelled senders log words k is = record {
  frames = k.frames;
  lawful = k.lawful;
  words_are = k.words_are ∙ sym is;
  order_is = refl;
  owners_are = refl;
}

pub unreachable-requires : goal.unreachable-requires
unreachable-requires c =
    let log = c.requires in
    let same = only_memory _ c.read_log.result _ c.in-Err-BadWord.is
    (c.read_log.ensures.exact _ _ (spelled c.args.senders c.args.history.now.log c.log.result.now
    log c.log.ensures)) in
    absurd cc

pub unreachable-requires-in-Err-Torn : goal.unreachable-requires-in-Err-Torn
unreachable-requires-in-Err-Torn c =
    let log = c.requires in
    let same = only_memory _ c.read_log.result _ c.in-Err-Torn.is
    (c.read_log.ensures.exact _ _ (spelled c.args.senders c.args.history.now.log c.log.result.now
    log c.log.ensures)) in
    absurd cc
