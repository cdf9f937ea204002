-- What pieces of long operations come to in a state of these: the fold of the operations that are
-- whole, and of each worker what it has begun.
use Rattle.std.proofs.Common.{◌≡◌, ℕ, ◌<◌, ◌≤◌, Bool, true, false, cond, ◌==◌, List, [], ◌∷◌, ◌++◌}
use Rattle.std.proofs.Common.{Option, Some, None, All, length, map, filter, flat_map, get_or, refl}
use Rattle.std.proofs.Common.{sym, ap, subst, ◌∙◌, inl, inr, append_assoc, arith}
use Rattle.std.proofs.lemmas.Bool.Decides.{eqb_tells}
use Rattle.std.proofs.lemmas.Grind.{get_or-set_at, common_steps}
use Rattle.std.proofs.lemmas.List.{append-nil, length-set, get_or-set_other}
use Rattle.std.proofs.lemmas.List.{length-replicate, get_or-replicate, map-append}
use Rattle.std.proofs.lemmas.List.Elements.{filter-append}
use Rattle.bus_register.specs.declared.limits.TheConstants.{MOST_SENDERS}
use Rattle.bus_batch.specs.declared.messages.Item.{Item}
use Rattle.bus_long.specs.Joined.{longs, longs_behind, sent_by, whole_behind, whole_item}
use Rattle.bus_long.specs.Pieces.{Begun, begun, begun_by, nothing, pieces, whole_by}
use Rattle.bus_long.specs.declared.pieces.TheConstants.{MOST_LONG_BYTES}
use Rattle.bus_replica.specs.OneOrder.{AreFunctions}
use Rattle.bus_replica.specs.Longs.{AppliesLong, AppliesWhole, IsFirstLong, LongState, begun_of}
use Rattle.bus_replica.specs.Replicas.{Operations, Folds, Begins, Then}

-- what the laws of pieces say
pub record PieceLaws : Type 0 where
  pub one : (items : List Item) (item : Item)
      → longs (items ++ item ∷ []) ≡ longs items ++ whole_behind items item
  pub grow : (items more : List Item)
      → longs (items ++ more) ≡ longs items ++ longs_behind items more
  pub last : (messages before : List (List ℕ)) (message last : List ℕ)
      → All (λ m. length m ≤ MOST_LONG_BYTES) messages → length message ≤ MOST_LONG_BYTES
      → pieces message ≡ before ++ last ∷ []
      → whole_by (begun nothing (flat_map pieces messages ++ before)) last ≡ Some message
  pub whole : (sender : ℕ) (items : List Item) (messages more : List (List ℕ))
      → All (λ m. length m ≤ MOST_LONG_BYTES) messages
      → sent_by sender items ++ more ≡ flat_map pieces messages
      → (rest : List (List ℕ)) × (sent_by sender (longs items) ++ rest ≡ messages)

-- items of workers whose numbers are below this
abbrev pub AreBelow : ℕ → List Item → Type 0
AreBelow many items =
    (before after : List Item) (item : Item) → items ≡ before ++ item ∷ after
    → item.sender.0 < many

pub below_before : (many : ℕ) (items more : List Item) → AreBelow many (items ++ more)
    → AreBelow many items
below_before many items more below before after item e = grind (arith, common_steps, append_assoc)

-- ---- what a worker has begun
begun_on : (b : Begun) (messages : List (List ℕ)) (message : List ℕ)
    → begun b (messages ++ message ∷ []) ≡ begun_by (begun b messages) message
begun_on b [] message = refl
begun_on b (m ∷ messages) message = begun_on (begun_by b m) messages message

-- the messages of a worker, with an item more
sent_one : (b : Bool) (item : Item)
    → map (λ (i : Item). i.message) (cond b (item ∷ []) []) ≡ cond b (item.message ∷ []) []
sent_one true item = refl
sent_one false item = refl

sent_more : (worker : ℕ) (items : List Item) (item : Item)
    → sent_by worker (items ++ item ∷ [])
    ≡ sent_by worker items ++ cond (item.sender.0 == worker) (item.message ∷ []) []
sent_more worker items item =
    grind (arith, common_steps, map, filter-append, map-append, filter, sent_one)

-- so what it has begun is as before, or what its message leaves begun
begun_more : (worker : ℕ) (items : List Item) (item : Item) (b : Bool)
    → (item.sender.0 == worker) ≡ b
    → begun nothing (sent_by worker (items ++ item ∷ []))
    ≡ cond b (begun_by (begun nothing (sent_by worker items)) item.message)
    (begun nothing (sent_by worker items))
begun_more worker items item true own = grind (arith, common_steps, sent_more, begun_on)
begun_more worker items item false other = grind (arith, common_steps, sent_more, append-nil)

-- ---- one outcome
module _ {S A : Type 0} (IsFirst : S → Type 0) (Applies : Operations S A)
    (F : AreFunctions IsFirst Applies) where
  whole_same : (old : S) (from : ℕ) (whole : Option (List ℕ)) (answer answer' : Option A)
      (new new' : S) → AppliesWhole Applies old from whole answer new
      → AppliesWhole Applies old from whole answer' new' → (answer ≡ answer') × (new ≡ new')
  whole_same old from None answer answer' new new' a b = (a.0 ∙ sym b.0, a.1 ∙ sym b.1)
  whole_same old from (Some bytes) answer answer' new new' a b = grind (arith, common_steps)

  same_long : (a b : LongState S) → a.state ≡ b.state → a.begun ≡ b.begun → a ≡ b
  same_long a b state begun_is = grind (arith, common_steps)

  pub functions_long : AreFunctions (IsFirstLong IsFirst) (AppliesLong Applies)
  functions_long = grind (arith, common_steps, same_long, whole_same)

-- ---- the fold
module _ {S A : Type 0} (IsFirst : S → Type 0) (Applies : Operations S A) (laws : PieceLaws) where
  -- where these items led to this state of long operations, the operations that are whole led to
  -- the state of these, and of each worker it has what the worker has begun
  pub record HasFolded (first : LongState S) (items : List Item) (state : LongState S) :
      Type 0 where
    pub folds : Folds Applies first.state (longs items) state.state
    pub begun_is : (worker : ℕ) → worker < MOST_SENDERS
        → begun_of state worker ≡ begun nothing (sent_by worker items)
    pub many : length state.begun ≡ MOST_SENDERS

  applies_whole : (first old new : S) (items : List Item) (item : Item)
      (whole : Option (List ℕ)) (answer : Option A) → Folds Applies first items old
      → AppliesWhole Applies old item.sender.0 whole answer new
      → Folds Applies first (items ++ whole_item item whole) new
  applies_whole first old new items item None answer folds applied = grind (arith, append-nil)
  applies_whole first old new items item (Some bytes) answer folds applied =
      Then items old (record item { message = bytes }) applied.0 new folds applied.2

  begun_step : (first old new : LongState S) (items : List Item) (item : Item)
      (answer : Option A) → HasFolded first items old → item.sender.0 < MOST_SENDERS
      → AppliesLong Applies old item.sender.0 item.message answer new → (worker : ℕ)
      → worker < MOST_SENDERS
      → begun_of new worker ≡ begun nothing (sent_by worker (items ++ item ∷ []))
  begun_step first old new items item answer h own applied worker below =
      let from = item.sender.0 in
      let left = begun_by (begun_of old from) item.message in
      elim (eqb_tells from worker) [
        | inl same ↦
            ap (λ z. get_or z worker nothing) applied.begins
            ∙ get_or-set_at old.begun from worker left nothing (sym same.1)
            (subst (λ z. from < z) (sym h.many) own)
            ∙ ap (λ b. begun_by b item.message) (h.begun_is from own)
            ∙ ap (λ w. begun_by (begun nothing (sent_by w items)) item.message) same.1
            ∙ sym (begun_more worker items item true same.0)
        | inr other ↦ grind (arith, common_steps, get_or, get_or-set_other, begun_more)
      ]

  pub folds_long : (first : LongState S) → IsFirstLong IsFirst first → (items : List Item)
      (state : LongState S) → Folds (AppliesLong Applies) first items state
      → AreBelow MOST_SENDERS items → HasFolded first items state
  folds_long first begins _ _ Begins below = record {
    folds = Begins;
    begun_is = λ worker few.
        ap (λ z. get_or z worker nothing) begins.1
        ∙ get_or-replicate MOST_SENDERS worker nothing nothing few;
    many = ap length begins.1 ∙ length-replicate MOST_SENDERS nothing;
  }
  folds_long first begins _ _ (Then items old item answer new before applied) below =
      let h = folds_long first begins items old before
      (below_before MOST_SENDERS items (item ∷ []) below) in
      grind (arith, common_steps, applies_whole, begun_step, length, length-set)
