-- Two sittings, of which the second one goes on from what was recorded of the first.
use Rattle.std.specs.Prelude.{◌≡◌, ◌≢◌, ℕ, List, [], ◌∷◌, map, ◌++◌}
use Rattle.bus_batch.specs.declared.messages.Item.{Item}
use Rattle.bus_batch.specs.Frames.{Order, Says}
use Rattle.bus_replica.specs.Replicas.{LeadTo, Operations}

-- the order of a sitting, behind the operations that were replayed before it
abbrev pub behind : List Item → Order → Order
behind replayed order = record {
  entries = map Says replayed ++ order.entries;
  ended = order.ended;
}

-- ---- what a recovery must not lead to
-- a state that keeps what was applied to it: of which sender each is, and its bytes
abbrev pub Kept : Type 0
Kept = List (ℕ × List ℕ)

abbrev pub nothing : Kept → Type 0
nothing kept = kept ≡ []

abbrev pub keeps : Operations Kept (Unit {0})
keeps old sender bytes answer new = new ≡ old ++ (sender, bytes) ∷ []

abbrev pub kept_of : Item → ℕ × List ℕ
kept_of item = (item.sender.0, item.message)

-- of two operations that were replayed, the one before the other
pub record RecoveriesRefuse (a b : Item) : Type 0 where
  -- a state without the last of them, or without the first
  pub last_lost : ¬ LeadTo nothing keeps (a ∷ b ∷ []) (kept_of a ∷ [])
  pub first_lost : ¬ LeadTo nothing keeps (a ∷ b ∷ []) (kept_of b ∷ [])
  -- one with the first applied twice
  pub doubled : ¬ LeadTo nothing keeps (a ∷ b ∷ []) (kept_of a ∷ kept_of a ∷ kept_of b ∷ [])
  -- one with the second before the first
  pub turned : kept_of a ≢ kept_of b
      → ¬ LeadTo nothing keeps (a ∷ b ∷ []) (kept_of b ∷ kept_of a ∷ [])
  -- one with an operation that another sender is said to have sent
  pub misplaced : (sender : ℕ) → sender ≢ a.sender.0
      → ¬ LeadTo nothing keeps (a ∷ []) ((sender, (kept_of a).1) ∷ [])
