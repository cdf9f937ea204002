-- What no step of a sender may answer, whatever its definitions are.
use Rattle.std.specs.Prelude.{◌≡◌, ◌≢◌, ℕ, ◌+◌, ◌-◌, ◌*◌, ◌/◌, ◌<◌, ◌≤◌, false, true, Some, None}
use Rattle.std.specs.Prelude.{Bool, List, [], ◌∷◌, IsSomeAnd}
use Rattle.bus_batch.specs.Batches.{next_of}
use Rattle.bus_batch.specs.declared.messages.Mark.{Mark}
use Rattle.bus_batch.specs.declared.batches.Phase.TheVariants as batch
use Rattle.bus_register.specs.declared.registers.Op.TheVariants.{Load}
use Rattle.bus_register.specs.declared.registers.SenderNo.{SenderNo}
use Rattle.bus_presence.specs.Reclamation.{presence_at}
use Rattle.bus_presence.specs.declared.pins.Pin.TheVariants.{Away, Pinned, Unpinning, Invalidated}
use Rattle.bus_tenure.specs.Core.{Election, frame_len, is_marking, is_closing, is_leaving, log_at}
use Rattle.bus_tenure.specs.Situations.{IsClosed, IsIdle, IsSpent, Elects}
use Rattle.bus_tenure.specs.declared.pages.Page.{Page}
use Rattle.bus_tenure.specs.declared.phases.Phase.TheVariants.{Resting, Electing, Holding}
use Rattle.bus_tenure.specs.declared.turns.Turn.{Turn}
use Rattle.bus_tenure.specs.declared.turns.Turn.TheVariants as turn
use Rattle.bus_core.specs.Keeping.{IsAway}
use Rattle.bus_core.specs.Reusing.Keeping.{held_of}
use Rattle.bus_core.specs.Reusing.Participants.{sizes_with}
use Rattle.bus_core.specs.declared.reuses.Reuse.{Reuse}
use Rattle.bus_core.specs.Places.{LiesAt}
use Rattle.bus_core.specs.Senders.{Sender, Does, situation}
use Rattle.bus_core.specs.Table.{line_now}
use Rattle.bus_core.specs.Telling.{FeedTells, RestTells, RestIsTold, LooksFirst, LooksInVain}
use Rattle.bus_core.specs.Telling.{FindsNoneLeft, Loses, IsChosen, GivesReady, IsBehind, Begins}
use Rattle.bus_core.specs.Telling.{LooksSecond, RunsElection}

pub record AnswersRefuse {E : Type 0} (X : Election E) (v : Sender E) (got word : ℕ) : Type 0 where
  -- Idle with a step
  pub idle_with_a_step : ¬ FeedTells X v got word turn.Idle
  -- Delivered before the length takes its frame in
  pub delivered_unpublished : (t first last : ℕ) (page : Page) (stored : ℕ)
      → v.core.phase ≡ Holding t page stored false
      → ¬ FeedTells X v got word (turn.Delivered t first last)
  -- Delivered of another tenure than that whose page it holds
  pub delivered_elsewhere : (t u first last : ℕ) (page : Page) (stored : ℕ) (published : Bool)
      → v.core.phase ≡ Holding t page stored published → t ≢ u
      → ¬ FeedTells X v got word (turn.Delivered u first last)
  -- Delivered with another first or last number than those of its batch
  pub delivered_from_elsewhere : (t first last : ℕ) → first ≢ v.core.queue.first
      → ¬ FeedTells X v got word (turn.Delivered t first last)
  pub delivered_up_to_elsewhere : (t first last : ℕ) → last ≢ next_of v.core.queue - 1
      → ¬ FeedTells X v got word (turn.Delivered t first last)
  -- Delivered of an end mark, or of a leave mark
  pub delivered_the_end : (t first last : ℕ) → is_closing v.core.queue.phase ≡ true
      → ¬ FeedTells X v got word (turn.Delivered t first last)
  pub delivered_the_leave : (t first last : ℕ) → is_leaving v.core.queue.phase ≡ true
      → ¬ FeedTells X v got word (turn.Delivered t first last)
  -- Left of messages, or of an end mark
  pub left_with_messages : (t : ℕ) → is_marking v.core.queue.phase ≡ false
      → ¬ FeedTells X v got word (turn.Left t)
  pub left_with_the_end : (t : ℕ) → is_closing v.core.queue.phase ≡ true
      → ¬ FeedTells X v got word (turn.Left t)
  -- Left before the length takes its mark in, or of another tenure than that whose page it holds
  pub left_unpublished : (t : ℕ) (page : Page) (stored : ℕ)
      → v.core.phase ≡ Holding t page stored false → ¬ FeedTells X v got word (turn.Left t)
  pub left_elsewhere : (t u : ℕ) (page : Page) (stored : ℕ) (published : Bool)
      → v.core.phase ≡ Holding t page stored published → t ≢ u
      → ¬ FeedTells X v got word (turn.Left u)
  -- Full where its frame fits, or once it is published
  pub full_with_room : (t : ℕ) (page : Page) (stored : ℕ) (published : Bool)
      → v.core.phase ≡ Holding t page stored published
      → page.words + frame_len v.core ≤ v.core.layout.capacity + page.floor
      → ¬ FeedTells X v got word turn.Full
  pub full_published : (t : ℕ) (page : Page) (stored : ℕ)
      → v.core.phase ≡ Holding t page stored true → ¬ FeedTells X v got word turn.Full
  -- Closed while the order goes on, by a sender that was not to close, or before the length takes
  -- its end mark in
  pub closed_too_soon : (t : ℕ) (page : Page) (stored : ℕ) (published : Bool)
      → v.core.phase ≡ Holding t page stored published
      → page.ended ≡ false → is_closing v.core.queue.phase ≡ false
      → ¬ FeedTells X v got word turn.Closed
  pub closed_unpublished : (t : ℕ) (page : Page) (stored : ℕ)
      → v.core.phase ≡ Holding t page stored false → page.ended ≡ false
      → ¬ FeedTells X v got word turn.Closed
  -- Closed once its leave mark stands in the log
  pub closed_while_leaving : (t : ℕ) (page : Page) (stored : ℕ)
      → v.core.phase ≡ Holding t page stored true
      → is_leaving v.core.queue.phase ≡ true → ¬ FeedTells X v got word turn.Closed
  -- any answer of a holder, where it holds no page
  pub delivered_without_a_page : (t first last : ℕ) → held_of v.core.phase ≡ None
      → ¬ FeedTells X v got word (turn.Delivered t first last)
  pub left_without_a_page : (t : ℕ) → held_of v.core.phase ≡ None
      → ¬ FeedTells X v got word (turn.Left t)
  pub full_without_a_page : held_of v.core.phase ≡ None → ¬ FeedTells X v got word turn.Full
  pub closed_without_a_page : held_of v.core.phase ≡ None → ¬ FeedTells X v got word turn.Closed
  -- Waiting of one that pins no tenure, where nothing waits, or on the stage of an open tenure that
  -- it may enter
  pub waits_with_nothing : IsAway v.reuse → v.core.queue.messages ≡ []
      → v.core.queue.phase ≡ batch.Open → ¬ FeedTells X v got word turn.Waiting
  pub waits_before_an_open_tenure : (t : ℕ) → IsAway v.reuse → got ≡ 2 * t → v.core.least ≤ t
      → ¬ FeedTells X v got word turn.Waiting
  -- Spent while a tenure is left, or held, or of a sender that holds a page
  pub spent_while_held : (t : ℕ) → got ≡ 2 * t + 1 → ¬ FeedTells X v got word turn.Spent
  pub spent_with_a_page : (t : ℕ) (page : Page) (stored : ℕ) (published : Bool)
      → v.core.phase ≡ Holding t page stored published
      → ¬ FeedTells X v got word turn.Spent
  pub spent_too_soon : got / 2 < v.core.layout.rows → ¬ FeedTells X v got word turn.Spent
  -- Lost to itself
  pub lost_to_itself : (t : ℕ) → ¬ FeedTells X v got word (turn.Lost t record { 0 = v.core.me })
  -- Lost with a row for each tenure: by a step that left its election without an owner, or was no
  -- step of it
  pub lost_undecided : (t u : ℕ) (o : SenderNo) (e : E) → v.reuse ≡ None
      → situation X v ≡ Does (Elects u e)
      → X.owner (X.fed e got word) ≡ None → ¬ FeedTells X v got word (turn.Lost t o)
  pub lost_at_rest : (t : ℕ) (o : SenderNo) → v.reuse ≡ None → v.core.phase ≡ Resting
      → ¬ FeedTells X v got word (turn.Lost t o)
  -- Lost with rows that are used again: where it remembers no owner, or another, or while it pins
  -- no tenure
  pub lost_to_another : (t : ℕ) (o : SenderNo) (r : Reuse) → v.reuse ≡ Some r → r.lost ≡ None
      → ¬ FeedTells X v got word (turn.Lost t o)
  pub lost_to_one_not_remembered : (t : ℕ) (o p : SenderNo) (r : Reuse) → v.reuse ≡ Some r
      → r.lost ≡ Some p → p ≢ o
      → ¬ FeedTells X v got word (turn.Lost t o)
  pub lost_away : (t : ℕ) (o : SenderNo) (r : Reuse) → v.reuse ≡ Some r → r.pin ≡ Away
      → ¬ FeedTells X v got word (turn.Lost t o)
  -- Own of a tenure whose election chose another, of another tenure, or while it pins none
  pub own_of_another : (t u o : ℕ) (e : E) → v.core.phase ≡ Electing u e → X.owner e ≡ Some o
      → o ≢ v.core.me
      → ¬ FeedTells X v got word (turn.Own t)
  pub own_elsewhere : (t u : ℕ) (e : E) → v.core.phase ≡ Electing u e → t ≢ u
      → ¬ FeedTells X v got word (turn.Own t)
  pub own_away : (t : ℕ) (r : Reuse) → v.reuse ≡ Some r → r.pin ≡ Away
      → ¬ FeedTells X v got word (turn.Own t)
  -- Waiting of a sender that goes through an election, in the tenure that it stands in
  pub waits_apart : (u : ℕ) (e : E) → v.reuse ≡ None → v.core.phase ≡ Electing u e
      → ¬ FeedTells X v got word turn.Waiting
  pub waits_pinned : (t u : ℕ) (e : E) (r : Reuse) → v.reuse ≡ Some r → r.pin ≡ Pinned t
      → v.core.phase ≡ Electing u e
      → ¬ FeedTells X v got word turn.Waiting
  -- Behind with a row for each tenure, or where the step found another number than the presence of
  -- that tenure, was no load of that sender's presence, or held no page
  pub behind_apart : (t : ℕ) (p : SenderNo) → v.reuse ≡ None
      → ¬ FeedTells X v got word (turn.Behind t p)
  pub behind_unnamed : (t : ℕ) (p : SenderNo) → got ≢ 1 + t
      → ¬ FeedTells X v got word (turn.Behind t p)
  pub behind_without_a_load : (t : ℕ) (p : SenderNo)
      → (line_now X v).op word
      ≢ Some (Load record { 0 = presence_at (sizes_with v.core.layout 0) p.0 })
      → ¬ FeedTells X v got word (turn.Behind t p)
  pub behind_without_a_page : (t : ℕ) (p : SenderNo) → held_of v.core.phase ≡ None
      → ¬ FeedTells X v got word (turn.Behind t p)
  -- Going where it lost a tenure, whether it remembers to whom or not, came too late, takes a page
  -- or gives one back
  pub loses_silently : (t : ℕ) (o : SenderNo) → Loses X v got word t o
      → ¬ FeedTells X v got word turn.Going
  pub forgets_its_loss : (t : ℕ) (r : Reuse) → v.reuse ≡ Some r → r.pin ≡ Unpinning t
      → v.core.phase ≡ Resting
      → ¬ FeedTells X v got word turn.Going
  pub invalidated_silently : (t : ℕ) (r : Reuse) → v.reuse ≡ Some r → r.pin ≡ Invalidated t
      → ¬ FeedTells X v got word turn.Going
  pub takes_silently : (t : ℕ) → IsChosen X v t → ¬ FeedTells X v got word turn.Going
  pub gives_silently : (t : ℕ) → GivesReady X v t → ¬ FeedTells X v got word turn.Going
  -- Going where it looked in vain, no tenure is left to it, or a sender is behind
  pub waits_silently : LooksInVain v got → ¬ FeedTells X v got word turn.Going
  pub spent_silently : FindsNoneLeft v got → ¬ FeedTells X v got word turn.Going
  pub behind_silently : (t p : ℕ) → IsSomeAnd v.reuse (λ r. IsBehind X v got word t p r)
      → ¬ FeedTells X v got word turn.Going
  -- Going, without a step, where nothing waits
  pub goes_on_idly : situation X v ≡ Does IsIdle → ¬ RestIsTold X v turn.Going
  -- Going where it begins another tenure than the one whose stage it looked at
  pub begins_elsewhere : (t : ℕ) → LooksFirst v → Begins ((line_now X v).fed got word) t
      → t ≢ got / 2
      → ¬ FeedTells X v got word turn.Going
  -- Going where it looked for the second time, and its election runs though that was of another
  -- tenure, runs in another tenure, or does not run though that was of its own
  pub enters_on_another_stage : (t u : ℕ) → LooksSecond v t
      → RunsElection ((line_now X v).fed got word).core u → got / 2 ≢ t
      → ¬ FeedTells X v got word turn.Going
  pub enters_elsewhere : (t u : ℕ) → LooksSecond v t
      → RunsElection ((line_now X v).fed got word).core u → u ≢ t
      → ¬ FeedTells X v got word turn.Going
  pub enters_none : (t : ℕ) → LooksSecond v t → got / 2 ≡ t
      → ¬ RunsElection ((line_now X v).fed got word).core t
      → ¬ FeedTells X v got word turn.Going

-- What no sender answers that takes no step.
pub record RestsRefuse {E : Type 0} (v : Sender E) : Type 0 where
  -- anything in an election, with a page, or while it pins a tenure
  pub rests_in_an_election : (a : Turn) (t : ℕ) (e : E) → v.core.phase ≡ Electing t e
      → ¬ RestTells v a
  pub rests_with_a_page : (a : Turn) (t : ℕ) → held_of v.core.phase ≡ Some t → ¬ RestTells v a
  pub rests_while_it_pins : (a : Turn) (r : Reuse) → v.reuse ≡ Some r → r.pin ≢ Away
      → ¬ RestTells v a
  -- Idle where a message waits, or a mark, or where the batch is closed
  pub idle_with_a_message : (m : List ℕ) (rest : List (List ℕ)) → v.core.queue.messages ≡ m ∷ rest
      → ¬ RestTells v turn.Idle
  pub idle_with_a_mark : (m : Mark) → v.core.queue.phase ≡ batch.Marking m → ¬ RestTells v turn.Idle
  pub idle_once_closed : v.core.queue.phase ≡ batch.Closed → ¬ RestTells v turn.Idle
  -- Closed while its batch is open or its mark waits still
  pub closed_while_open : v.core.queue.phase ≡ batch.Open → ¬ RestTells v turn.Closed
  pub closed_with_a_mark : (m : Mark) → v.core.queue.phase ≡ batch.Marking m
      → ¬ RestTells v turn.Closed
  -- Spent while a tenure is left, or with nothing to send
  pub spent_with_a_tenure_left : v.core.least < v.core.layout.rows → ¬ RestTells v turn.Spent
  pub spent_with_nothing : v.core.queue.messages ≡ [] → v.core.queue.phase ≡ batch.Open
      → ¬ RestTells v turn.Spent

-- On which words no step lies: one of an election, with a row for each tenure, on a word of the
-- log, and one of who has nothing to do.
pub record PlacesRefuse {E : Type 0} (v : Sender E) : Type 0 where
  pub election_on_the_log : (t r : ℕ) (e : E) → v.reuse ≡ None → log_at v.core.layout ≤ r
      → ¬ LiesAt v (Does (Elects t e)) r
  pub idle_on_a_word : (r : ℕ) → ¬ LiesAt v (Does IsIdle) r
  pub closed_on_a_word : (r : ℕ) → ¬ LiesAt v (Does IsClosed) r
  pub spent_on_a_word : (r : ℕ) → ¬ LiesAt v (Does IsSpent) r
