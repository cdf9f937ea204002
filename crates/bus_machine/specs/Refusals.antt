-- What no turn of a machine may answer, what no sender of it remembers, and what follows no
-- machine.
use Rattle.std.specs.Prelude.{◌≡◌, ◌≢◌, ℕ, ◌+◌, ◌*◌, ◌%◌, ◌<◌, ◌≤◌, Bool, true, false, Some}
use Rattle.std.specs.Prelude.{None, List, [], ◌∷◌, ◌++◌, drop, length, slice_get, slice_index}
use Rattle.bus_batch.specs.declared.batches.Phase.TheVariants as batch
use Rattle.bus_batch.specs.Frames.{Frame, Order, Spells, IsFrame, AreFrames, frame_words, items_of}
use Rattle.bus_batch.specs.Frames.{log_words, has_gone}
use Rattle.bus_batch.specs.declared.messages.Mark.{Mark}
use Rattle.bus_batch.specs.declared.messages.Mark.TheVariants as mark
use Rattle.bus_batch.specs.declared.messages.Item.{Item}
use Rattle.bus_batch.specs.Batches.{next_of, CanPut, CanClose, IsPutFault, IsCloseFault}
use Rattle.bus_batch.specs.declared.batches.PutFault.TheVariants as put
use Rattle.bus_batch.specs.declared.batches.CloseFault.TheVariants as close
use Rattle.bus_core.specs.Keeping.{queue_of}
use Rattle.bus_core.specs.Seen.{tenure_begun}
use Rattle.bus_core.specs.Senders.{Sender, Does, Clears, ReadsPassed, situation}
use Rattle.bus_core.specs.Table.{lost_of, line_now}
use Rattle.bus_core.specs.declared.reuses.Passing.{Passing}
use Rattle.bus_core.specs.declared.reuses.Reuse.{Reuse}
use Rattle.bus_deliverylog.specs.Orders.{of_sender}
use Rattle.bus_core.specs.Reusing.Participants.{sizes_with}
use Rattle.bus_core.specs.Reusing.Keeping.{held_of}
use Rattle.bus_presence.specs.Reclamation.{Entry, row_of}
use Rattle.bus_presence.specs.Reclaimers.{Reclaiming}
use Rattle.bus_presence.specs.Standing.{Stands}
use Rattle.bus_register.specs.declared.limits.TheConstants.{MOST_SENDERS}
use Rattle.bus_register.specs.declared.kinds.Kind.TheVariants as kind
use Rattle.bus_register.specs.declared.registers.Op.{Op}
use Rattle.bus_register.specs.declared.registers.Op.TheVariants.{Load, Store}
use Rattle.bus_register.specs.Words.{register}
use Rattle.bus_presence.specs.declared.pins.Pin.TheVariants.{Unpinning}
use Rattle.bus_register.specs.declared.registers.SenderNo.{SenderNo}
use Rattle.bus_tenure.specs.Core.{Election, frame_len}
use Rattle.bus_tenure.specs.Situations.{StoresWord}
use Rattle.bus_tenure.specs.declared.pages.Page.{Page}
use Rattle.bus_tenure.specs.Seen.{tenure_of}
use Rattle.bus_tenure.specs.declared.phases.Phase.TheVariants.{Resting, Electing, Holding}
use Rattle.bus_tenure.specs.declared.turns.Turn.TheVariants as turn
use Rattle.bus_world.specs.Headline.{Action, HasPut, Stepped, Announced, Asked, Elected, Took}
use Rattle.bus_world.specs.World.{Event, Ask}
use Rattle.bus_world.specs.declared.events.Answer.{Answer}
use Rattle.bus_world.specs.declared.events.Answer.TheVariants as answer
use Rattle.bus_machine.specs.Bounding.{named_by, AreBounded, PinsAreBounded}
use Rattle.bus_machine.specs.Finding.{places_found}
use Rattle.bus_machine.specs.Machine.{Machine, Trails, Reached, Happens, base_of, log_place}
use Rattle.bus_machine.specs.Machine.{ShowsLog, stage_of, floor_of, log_of, passed_by}
use Rattle.bus_machine.specs.Promise.{IsPageOf, IsPromised, Follows, actions_in, pin_of}
use Rattle.bus_machine.specs.Promise.{frame_published}
use Rattle.bus_machine.specs.Telling.{TurnTells, PutTells, LossesAreSeen, IsLeast}

pub record LossesRefuse {E : Type 0} (m : Machine E) : Type 0 where
  -- a sender remembers an owner, and has done nothing
  pub idle_loser : (D : ℕ → List Action) (s : ℕ) (v : Sender E) (o : SenderNo)
      → slice_get m.senders s ≡ Some v → lost_of v.reuse ≡ Some o → D s ≡ [] → ¬ LossesAreSeen m D
  -- or remembers itself
  pub own_loser : (D : ℕ → List Action) (s : ℕ) (v : Sender E) (o : SenderNo)
      → slice_get m.senders s ≡ Some v → lost_of v.reuse ≡ Some o → o.0 ≡ s → ¬ LossesAreSeen m D
  -- or another owner than that with which it saw the election of its tenure end
  pub wrong_owner : (D : ℕ → List Action) (s : ℕ) (v : Sender E) (o : SenderNo) (t u : ℕ)
      → slice_get m.senders s ≡ Some v → lost_of v.reuse ≡ Some o → pin_of v.reuse ≡ Unpinning t
      → ((w : ℕ) → Elected (D s) t w → w ≡ u) → o.0 ≢ u → ¬ LossesAreSeen m D

-- an answer that names another owner, or a sender that took no page, or more than all that was
-- published spells
pub record AnswersRefuse {E : Type 0} (m : Machine E) (log : List ℕ) (s : ℕ) (v : Sender E)
    (actions : List Action) : Type 0 where
  -- Lost to an owner with which it saw no election of this tenure end
  pub lost_unseen : (t : ℕ) (o : SenderNo) → ¬ Elected actions t o.0
      → ¬ TurnTells m log s v actions (turn.Lost t o)
  -- Lost to itself
  pub lost_to_itself : (t : ℕ) (o : SenderNo) → o.0 ≡ s
      → ¬ TurnTells m log s v actions (turn.Lost t o)
  -- Own of a tenure whose page it did not take
  pub own_untaken : (t : ℕ) → ((place : ℕ) → ¬ Took actions t place)
      → ¬ TurnTells m log s v actions (turn.Own t)
  -- Delivered with an empty log
  pub delivered_nothing : (t first last : ℕ) → log ≡ []
      → ¬ TurnTells m log s v actions (turn.Delivered t first last)
  -- Delivered of another tenure or sender than those of the last frame of the log, or from another
  -- number than its first
  pub delivered_elsewhere : (t first last : ℕ) (front : List Frame) (f : Frame)
      → AreFrames m.layout.senders (front ++ f ∷ [])
      → log_words (front ++ f ∷ []) ≡ log → f.tenure ≢ t
      → ¬ TurnTells m log s v actions (turn.Delivered t first last)
  pub delivered_by_another : (t first last : ℕ) (front : List Frame) (f : Frame)
      → AreFrames m.layout.senders (front ++ f ∷ [])
      → log_words (front ++ f ∷ []) ≡ log → f.owner.0 ≢ s
      → ¬ TurnTells m log s v actions (turn.Delivered t first last)
  pub delivered_from_elsewhere : (t first last : ℕ) (front : List Frame) (f : Frame) (i : Item)
      (rest : List Item)
      → AreFrames m.layout.senders (front ++ f ∷ []) → log_words (front ++ f ∷ []) ≡ log
      → items_of f ≡ i ∷ rest → i.number ≢ first
      → ¬ TurnTells m log s v actions (turn.Delivered t first last)
  -- Left without its leave mark in the order that the log spells
  pub left_without_mark : (t : ℕ) (order : Order) (owners : List (ℕ × SenderNo))
      → Spells m.layout.senders log order owners
      → has_gone s order ≡ false → ¬ TurnTells m log s v actions (turn.Left t)
  -- or of another tenure or sender than those of the last frame of the log
  pub left_elsewhere : (t : ℕ) (front : List Frame) (f : Frame)
      → AreFrames m.layout.senders (front ++ f ∷ [])
      → log_words (front ++ f ∷ []) ≡ log → f.tenure ≢ t
      → ¬ TurnTells m log s v actions (turn.Left t)
  pub left_by_another : (t : ℕ) (front : List Frame) (f : Frame)
      → AreFrames m.layout.senders (front ++ f ∷ [])
      → log_words (front ++ f ∷ []) ≡ log → f.owner.0 ≢ s
      → ¬ TurnTells m log s v actions (turn.Left t)
  -- Full where there is room
  pub full_with_room : length log + frame_len v.core ≤ m.layout.capacity
      → ¬ TurnTells m log s v actions turn.Full
  -- also behind the floor of its page; or where it has not loaded all passed places in the tenure,
  -- or that floor is not the least of what they showed
  pub full_behind_the_floor : (t : ℕ) (page : Page) (stored : ℕ) (published : Bool)
      → v.core.phase ≡ Holding t page stored published
      → length log + frame_len v.core ≤ m.layout.capacity + page.floor
      → ¬ TurnTells m log s v actions turn.Full
  pub full_unloaded : 0 < m.layout.passers → length (places_found actions) ≢ m.layout.passers
      → ¬ TurnTells m log s v actions turn.Full
  pub full_by_another_floor : (t : ℕ) (page : Page) (stored : ℕ) (published : Bool)
      → 0 < m.layout.passers → v.core.phase ≡ Holding t page stored published
      → ¬ IsLeast page.floor (length log) (places_found actions)
      → ¬ TurnTells m log s v actions turn.Full
  -- Closed with an empty log; or while the order goes on, of one that has not left in it, or whose
  -- batch was not closed
  pub closed_with_nothing : log ≡ [] → ¬ TurnTells m log s v actions turn.Closed
  pub closed_too_soon : (order : Order) (owners : List (ℕ × SenderNo))
      → Spells m.layout.senders log order owners → order.ended ≡ false
      → has_gone s order ≡ false → ¬ TurnTells m log s v actions turn.Closed
  pub closed_by_leaving : (order : Order) (owners : List (ℕ × SenderNo))
      → Spells m.layout.senders log order owners
      → order.ended ≡ false → v.core.queue.phase ≢ batch.Closed
      → ¬ TurnTells m log s v actions turn.Closed
  -- Spent in the first of two tenures, or in the only one, of a sender that has seen no election
  -- end
  pub spent_before_the_last : stage_of m ≡ 1 → m.layout.rows ≡ 2
      → ¬ TurnTells m log s v actions turn.Spent
  pub spent_unseen : stage_of m ≡ 0 → m.layout.rows ≡ 1 → actions ≡ []
      → ¬ TurnTells m log s v actions turn.Spent
  -- Behind where each tenure has a row
  pub behind_apart : (t : ℕ) (p : SenderNo) → m.reuse ≡ None
      → ¬ TurnTells m log s v actions (turn.Behind t p)

-- a first message that is accepted as number 1, a second one as number 0, and one that was not put
pub record NumbersRefuse : Type 0 where
  pub first_as_one : (bytes : List ℕ) → ¬ PutTells 0 (HasPut 1 bytes ∷ []) (answer.Number 1)
  pub second_as_zero : (bytes more : List ℕ)
      → ¬ PutTells 0 (HasPut 0 bytes ∷ HasPut 0 more ∷ []) (answer.Number 0)
  pub unput : ¬ PutTells 0 [] (answer.Number 0)
  -- of a sender whose sitting began with the number 5, numbers that start anew
  pub starts_anew : (bytes : List ℕ) → ¬ PutTells 5 (HasPut 0 bytes ∷ []) (answer.Number 0)

-- a close that is answered Leaving, or a leave that is answered Closing, or that lets another mark
-- wait, or none
pub record MarksRefuse {E : Type 0} (X : Election E) (old new : Machine E) : Type 0 where
  pub leave_as_close : (s : ℕ) → ¬ Happens X old (Ask s mark.Leave) answer.Closing new
  pub close_as_leave : (s : ℕ) → ¬ Happens X old (Ask s mark.End) answer.Leaving new
  pub leave_waits_as_end : (s : ℕ) (v : Sender E) (a : Answer) → slice_get new.senders s ≡ Some v
      → v.core.queue.phase ≡ batch.Marking mark.End → ¬ Happens X old (Ask s mark.Leave) a new
  pub end_waits_as_leave : (s : ℕ) (v : Sender E) (a : Answer) → slice_get new.senders s ≡ Some v
      → v.core.queue.phase ≡ batch.Marking mark.Leave → ¬ Happens X old (Ask s mark.End) a new
  pub leave_waits_not : (s : ℕ) (v : Sender E) (a : Answer) → slice_get new.senders s ≡ Some v
      → v.core.queue.phase ≡ batch.Open
      → ¬ Happens X old (Ask s mark.Leave) a new

-- more steps towards a page than an election has turns, or no turn left while one runs
pub record BoundsRefuse {E : Type 0} (X : Election E) (bound : ℕ) (m : Machine E) (T : Trails) :
    Type 0 where
  -- two steps of an election of one turn
  pub too_many : (s n k : ℕ) (rest : List Action)
      → T.actions s
      ≡ Stepped (Some 0) kind.Announce n None turn.Going
      ∷ Stepped (Some 0) kind.WriteFirst k None turn.Going ∷ rest
      → ¬ AreBounded X 1 m T
  pub none_left : (s : ℕ) (v : Sender E) (t : ℕ) (e : E) → slice_get m.senders s ≡ Some v
      → v.core.phase ≡ Electing t e → X.turns_left e ≡ 0
      → ¬ AreBounded X bound m T
  -- four steps of a pin of tenure 0, or a first one that names none
  pub too_many_of_pin : (s a b : ℕ)
      → T.pins s
      ≡ record { op = Store record { 0 = a } 1; got = 0 }
      ∷ record { op = Load record { 0 = b }; got = 0 }
      ∷ record { op = Load record { 0 = b }; got = 0 }
      ∷ record { op = Load record { 0 = b }; got = 0 } ∷ [] → ¬ PinsAreBounded T
  pub unnamed : (s : ℕ) (e : Entry) (entries : List Entry) → T.pins s ≡ e ∷ entries
      → named_by e.op None ≡ None → ¬ PinsAreBounded T

-- What is said of a sender and this tenure by what it has done is what was said before: it
-- announced itself there, saw the election end and took the page only if it had done so before.
pub record SaysNoMore (t : ℕ) (before after : List Action) : Type 0 where
  pub announced : Announced after t → Announced before t
  pub elected : (o : ℕ) → Elected after t o → Elected before t o
  pub took : (place : ℕ) → Took after t place → (earlier : ℕ) × Took before t earlier

-- Actions in a tenure are not the same as before where a sender has seen its election end since, or
-- has taken its page.
pub record SaysMore (t : ℕ) (before after : List Action) : Type 0 where
  pub elected_late : (o : ℕ) → ¬ Elected before t o → Elected after t o
      → actions_in t after ≢ actions_in t before
  pub taken_late : (place : ℕ) → ((k : ℕ) → ¬ Took before t k) → Took after t place
      → actions_in t after ≢ actions_in t before

pub record FollowsRefuse {E : Type 0} (X : Election E) (old : Machine E) (e : Event) (a : Answer)
    (new : Machine E) : Type 0 where
  -- the stage falls from that of tenure 1, which is open, to that of tenure 0, which is held
  pub falls : (length length' : ℕ) (rest rest' : List ℕ) → old.words ≡ length ∷ 2 ∷ rest
      → new.words ≡ length' ∷ 1 ∷ rest' → ¬ Follows X old e a new
  -- the floor of the page falls
  pub floor_falls : (page next : Page) → IsPageOf old page → IsPageOf new next
      → next.floor < page.floor → ¬ Follows X old e a new
  -- a passed place falls
  pub passed_falls : (r at : ℕ) → passed_by old.layout old.reuse r ≡ Some at
      → slice_index new.words at < slice_index old.words at → ¬ Follows X old e a new
  -- nothing led to the old machine
  pub led_by_nothing : ((T : Trails) → ¬ Reached X old T) → ¬ Follows X old e a new
  -- the cells show other words than were published, and no length was stored: so more or fewer
  pub grows_unpublished : (T : Trails) → Reached X old T → frame_published X old e ≡ None
      → ¬ ShowsLog new T.log → ¬ Follows X old e a new
  -- a length was stored, and they show what they showed
  pub publishes_nothing : (T : Trails) (f : Frame) → Reached X old T
      → frame_published X old e ≡ Some f → ShowsLog new T.log → ¬ Follows X old e a new
  -- no word of the log is used again, and it has wrapped: a word below the length, read straight,
  -- is not the one that was published there
  pub wraps : (T : Trails) (place : ℕ) → Reached X old T → new.layout.passers ≡ 0
      → place < length T.log
      → slice_index new.words (log_place new.layout new.reuse + place) ≢ slice_index T.log place
      → ¬ Follows X old e a new
  -- another frame was published than that of who stored the length, and stands
  pub other_frame : (T : Trails) (senders : ℕ) (f g : Frame) → Reached X old T
      → frame_published X old e ≡ Some f → IsFrame senders f → IsFrame senders g → g ≢ f
      → floor_of new ≤ length T.log
      → log_of new ≡ drop (floor_of new) T.log ++ frame_words g → ¬ Follows X old e a new
  -- a frame was published, and beside it a cell was rewritten: before the frame they show other
  -- words than were published
  pub rewritten : (T : Trails) (f : Frame) (log : List ℕ) → Reached X old T
      → frame_published X old e ≡ Some f → log ≢ drop (floor_of new) T.log
      → log_of new ≡ log ++ frame_words f → ¬ Follows X old e a new

-- a page at home with an odd stage, or out with an even one; or one that knows another number of
-- tenures
pub record PagesRefuse {E : Type 0} (X : Election E) (m : Machine E) (T : Trails) : Type 0 where
  pub home_while_held : (page : Page) (t : ℕ) → m.home ≡ Some page → stage_of m ≡ 2 * t + 1
      → ¬ IsPromised X m T
  pub out_while_open : (t : ℕ) → m.home ≡ None → stage_of m ≡ 2 * t → ¬ IsPromised X m T
  pub other_tenure : (page : Page) → m.home ≡ Some page → stage_of m ≢ 2 * page.tenures
      → ¬ IsPromised X m T
  -- or that knows another length than the log has
  pub other_words : (page : Page) → m.home ≡ Some page → page.words ≢ slice_index m.words 0
      → ¬ IsPromised X m T
  -- or whose floor is past the length, or past what a receiver has passed
  pub floor_past_length : (page : Page) → m.home ≡ Some page → slice_index m.words 0 < page.floor
      → ¬ IsPromised X m T
  pub floor_past_receivers : (page : Page) → IsPageOf m page → floor_of m < page.floor
      → ¬ IsPromised X m T
  -- or another next number of a sender than that behind the log
  pub other_items : (page : Page) (order : Order) (owners : List (ℕ × SenderNo)) (s : ℕ)
      → m.home ≡ Some page
      → Spells m.layout.senders T.log order owners → s < MOST_SENDERS
      → slice_index page.next s ≢ base_of m s + length (of_sender s order)
      → ¬ IsPromised X m T
  -- or another of whom it is to know whether it has left
  pub other_leavers : (page : Page) (order : Order) (owners : List (ℕ × SenderNo)) (s : ℕ)
      → m.home ≡ Some page
      → Spells m.layout.senders T.log order owners → s < MOST_SENDERS
      → slice_get page.left s ≢ Some (has_gone s order)
      → ¬ IsPromised X m T
  -- or such a page that is out, whose holder has published nothing
  pub out_other_leavers : (s : ℕ) (v : Sender E) (t : ℕ) (page : Page) (stored q : ℕ)
      (order : Order) (owners : List (ℕ × SenderNo))
      → m.home ≡ None → slice_get m.senders s ≡ Some v → v.core.phase ≡ Holding t page stored false
      → Spells m.layout.senders T.log order owners → q < MOST_SENDERS
      → slice_get page.left q ≢ Some (has_gone q order)
      → ¬ IsPromised X m T
  -- a page at home that counts a tenure, while nobody has done anything
  pub counts_untaken : (page : Page) → m.home ≡ Some page → page.tenures ≡ 1
      → ((s : ℕ) → T.actions s ≡ []) → ¬ IsPromised X m T
  -- two senders that hold a page, that is to be laid one, or that give it back
  pub two_holders : (s q : ℕ) (v w : Sender E) (t u : ℕ) → slice_get m.senders s ≡ Some v
      → slice_get m.senders q ≡ Some w
      → held_of v.core.phase ≡ Some t → held_of w.core.phase ≡ Some u → s ≢ q → ¬ IsPromised X m T
  -- or one that holds that of a tenure without having taken it
  pub holds_untaken : (s : ℕ) (v : Sender E) (t : ℕ) → slice_get m.senders s ≡ Some v
      → held_of v.core.phase ≡ Some t
      → ((place : ℕ) → ¬ Took (T.actions s) t place) → ¬ IsPromised X m T
  -- a page that is out while nobody holds one
  pub out_of_hands : m.home ≡ None
      → ((s : ℕ) (v : Sender E) (t : ℕ) → slice_get m.senders s ≡ Some v
      → held_of v.core.phase ≢ Some t)
      → ¬ IsPromised X m T

-- a sender that goes by what is not so
pub record MemoriesRefuse {E : Type 0} (X : Election E) (m : Machine E) (T : Trails) : Type 0 where
  -- it goes by another number than its own, by another layout than the machine, or marks its frames
  -- with another number
  pub other_number : (s : ℕ) (v : Sender E) → slice_get m.senders s ≡ Some v → v.core.me ≢ s
      → ¬ IsPromised X m T
  pub other_layout : (s : ℕ) (v : Sender E) → slice_get m.senders s ≡ Some v
      → v.core.layout ≢ m.layout → ¬ IsPromised X m T
  pub other_mark : (s : ℕ) (v : Sender E) → slice_get m.senders s ≡ Some v
      → v.core.queue.sender.0 ≢ s → ¬ IsPromised X m T
  -- it uses another number of rows again
  pub other_rows : (s : ℕ) (v : Sender E) (r : Reuse) (rows : ℕ) → slice_get m.senders s ≡ Some v
      → m.reuse ≡ Some rows → v.reuse ≡ Some r
      → r.rows ≢ rows → ¬ IsPromised X m T
  -- its next message is the second one, and it has done nothing
  pub first_as_one : (s : ℕ) (v : Sender E) → slice_get m.senders s ≡ Some v
      → next_of v.core.queue ≡ base_of m s + 1 → T.actions s ≡ [] → ¬ IsPromised X m T
  -- its batch is closed while the order goes on, in which it has not left
  pub closed_too_soon : (s : ℕ) (v : Sender E) (order : Order) (owners : List (ℕ × SenderNo))
      → slice_get m.senders s ≡ Some v
      → v.core.queue.phase ≡ batch.Closed → Spells m.layout.senders T.log order owners
      → order.ended ≡ false → has_gone s order ≡ false
      → ¬ IsPromised X m T
  -- it has left in the order, and its batch is open; or its leave mark waits still while it holds
  -- no page
  pub open_after_leaving : (s : ℕ) (v : Sender E) (order : Order) (owners : List (ℕ × SenderNo))
      → slice_get m.senders s ≡ Some v
      → v.core.queue.phase ≡ batch.Open → Spells m.layout.senders T.log order owners
      → has_gone s order ≡ true → ¬ IsPromised X m T
  pub leaving_after_leaving : (s : ℕ) (v : Sender E) (order : Order) (owners : List (ℕ × SenderNo))
      → slice_get m.senders s ≡ Some v
      → v.core.queue.phase ≡ batch.Marking mark.Leave → v.core.phase ≡ Resting
      → Spells m.layout.senders T.log order owners
      → has_gone s order ≡ true → ¬ IsPromised X m T
  -- it has asked to close or to leave, and its batch is open
  pub open_after_asking : (s : ℕ) (v : Sender E) (asked : Mark) → slice_get m.senders s ≡ Some v
      → v.core.queue.phase ≡ batch.Open
      → Asked asked (T.actions s) → ¬ IsPromised X m T
  -- its batch is closed, and nothing was published
  pub closed_with_nothing : (s : ℕ) (v : Sender E) → slice_get m.senders s ≡ Some v
      → v.core.queue.phase ≡ batch.Closed → T.log ≡ [] → ¬ IsPromised X m T
  -- it enters tenure 0 no more, which is open, and has done nothing
  pub past_at_first : (s : ℕ) (v : Sender E) → slice_get m.senders s ≡ Some v → v.core.least ≡ 1
      → stage_of m ≡ 0 → T.actions s ≡ [] → ¬ IsPromised X m T
  -- it has begun a tenure, be it by its pin, that is not opened yet
  pub begins_ahead : (s : ℕ) (v : Sender E) (t : ℕ) → slice_get m.senders s ≡ Some v
      → tenure_begun v ≡ Some t → stage_of m < 2 * t → ¬ IsPromised X m T
  -- its election of a tenure runs that is not opened yet
  pub runs_ahead : (s : ℕ) (v : Sender E) (t : ℕ) (e : E) → slice_get m.senders s ≡ Some v
      → v.core.phase ≡ Electing t e → stage_of m < 2 * t → ¬ IsPromised X m T
  -- its batch is on its way at rest, or is not in a tenure
  pub busy_at_rest : (s : ℕ) (v : Sender E) → slice_get m.senders s ≡ Some v
      → v.core.phase ≡ Resting → v.core.queue.busy ≡ true → ¬ IsPromised X m T
  pub idle_in_a_tenure : (s : ℕ) (v : Sender E) (t : ℕ) → slice_get m.senders s ≡ Some v
      → tenure_of v.core.phase ≡ Some t → v.core.queue.busy ≡ false
      → ¬ IsPromised X m T
  -- it has begun a tenure, be it by its pin, and a put or a close could be taken, or it has begun
  -- none, and one is refused as Busy
  pub puts_once_begun : (s len : ℕ) (v : Sender E) (t : ℕ) → slice_get m.senders s ≡ Some v
      → tenure_begun v ≡ Some t
      → CanPut (queue_of v.core.queue v.reuse) len → ¬ IsPromised X m T
  pub closes_once_begun : (s : ℕ) (v : Sender E) (t : ℕ) → slice_get m.senders s ≡ Some v
      → tenure_begun v ≡ Some t
      → CanClose (queue_of v.core.queue v.reuse) → ¬ IsPromised X m T
  pub busy_with_none_begun : (s len : ℕ) (v : Sender E) → slice_get m.senders s ≡ Some v
      → tenure_begun v ≡ None
      → IsPutFault (queue_of v.core.queue v.reuse) len put.Busy → ¬ IsPromised X m T
  pub busy_to_close : (s : ℕ) (v : Sender E) → slice_get m.senders s ≡ Some v
      → tenure_begun v ≡ None
      → IsCloseFault (queue_of v.core.queue v.reuse) close.Busy → ¬ IsPromised X m T

-- a word of the log that is stored where the length has passed
pub record WordsRefuse {E : Type 0} (X : Election E) (m : Machine E) (T : Trails) : Type 0 where
  pub below_the_length : (s : ℕ) (v : Sender E) (t : ℕ) (page : Page) (stored word : ℕ) (o : Op)
      → slice_get m.senders s ≡ Some v
      → situation X v ≡ Does (StoresWord t page stored) → (line_now X v).op word ≡ Some o
      → m.layout.passers ≡ 0
      → register o < log_place m.layout m.reuse + slice_index m.words 0 → ¬ IsPromised X m T
  -- or in the cell of a word that stands
  pub over_a_word : (s : ℕ) (v : Sender E) (t : ℕ) (page : Page) (stored word place : ℕ) (o : Op)
      → slice_get m.senders s ≡ Some v
      → situation X v ≡ Does (StoresWord t page stored) → (line_now X v).op word ≡ Some o
      → floor_of m ≤ place → place < slice_index m.words 0
      → register o ≡ log_place m.layout m.reuse + place % m.layout.capacity → ¬ IsPromised X m T
  -- a load of the passed place of another receiver than the next one, as of the first one again
  pub loads_another_place : (s : ℕ) (v : Sender E) (t word r : ℕ) (p : Passing) (o : Op)
      → slice_get m.senders s ≡ Some v → situation X v ≡ ReadsPassed t p
      → (line_now X v).op word ≡ Some o → passed_by m.layout m.reuse r ≡ Some (register o)
      → r ≢ length (places_found (T.actions s)) → ¬ IsPromised X m T
  -- a step that clears a word of a row in which somebody stands
  pub clears_under_a_stander : (rows p q t place word : ℕ) (v : Sender E) (s : Reclaiming) (o : Op)
      → m.reuse ≡ Some rows
      → slice_get m.senders p ≡ Some v → situation X v ≡ Clears s → (line_now X v).op word ≡ Some o
      → Stands (sizes_with m.layout rows) q (T.pins q) t → place < m.layout.width
      → register o ≡ row_of (sizes_with m.layout rows) t + place → ¬ IsPromised X m T
