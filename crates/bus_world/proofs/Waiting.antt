-- What senders have put, and what an event puts and publishes.
use Rattle.std.proofs.Common.{◌≡◌, ℕ, cond, ◌==◌, Option, Some, None, List, [], ◌∷◌, ◌++◌, length}
use Rattle.std.proofs.Common.{map, slice_get, refl, sym}
use Rattle.std.proofs.lemmas.List.{append-nil}
use Rattle.bus_batch.specs.Frames.{Frame, frame_words, order_of}
use Rattle.bus_deliverylog.specs.Orders.{of_sender}
use Rattle.bus_tenure.specs.Core.{Core, Election}
use Rattle.bus_tenure.specs.Situations.{Situation, situation_of, line_of}
use Rattle.bus_world.specs.Log.{words_of_frame}
pub use Rattle.bus_world.specs.Waiting.{waiting_at}
use Rattle.bus_world.specs.Private.Machines.{Bus, going, can_put}
use Rattle.bus_world.specs.World.{Event, Put, Ask, Turn, Recv, Stop, Gone}

-- ---- the frames of the log
abbrev pub with_frame : Option Frame → List Frame → List Frame
with_frame None frames = frames
with_frame (Some f) frames = frames ++ f ∷ []

-- its words, behind those of the log
abbrev pub log_with : Option Frame → List ℕ → List ℕ
log_with None log = log
log_with (Some f) log = log ++ frame_words f

pub log_more : (o : Option Frame) (log : List ℕ) → log_with o log ≡ log ++ words_of_frame o
log_more None log = sym (append-nil log)
log_more (Some f) log = refl

-- after a turn in a situation: one more where the length was stored
abbrev pub frames_after : {E : Type 0} → Election E → Core E → Situation E → List Frame → List Frame
frames_after X c z frames = with_frame (line_of X c z).publishes frames

abbrev pub frames_by : {E : Type 0} → Election E → Option (Core E) → List Frame → List Frame
frames_by X None frames = frames
frames_by X (Some c) frames = frames_after X c (situation_of X c) frames

-- after an event
abbrev pub event_frames : {E : Type 0} → Election E → Bus E → Event → List Frame → List Frame
event_frames X b (Put s bytes) frames = frames
event_frames X b (Ask s m) frames = frames
event_frames X b (Turn s word) frames = frames_by X (going b s) frames
event_frames X b (Recv r) frames = frames
event_frames X b (Stop s) frames = frames
event_frames X b (Gone r) frames = frames

-- ---- messages
-- those of a sender that are not in the order yet
abbrev pub waiting_of : {E : Type 0} → Option (Core E) → List (List ℕ)
waiting_of None = []
waiting_of (Some c) = waiting_at c c.phase

-- what a sender has put: its messages in the order, and those that are not in it yet
abbrev pub put_by : {E : Type 0} → Bus E → List Frame → ℕ → List (List ℕ)
put_by bus frames s =
    map (λ i. i.message) (of_sender s (order_of frames))
    ++ waiting_of (slice_get bus.side.senders s)

abbrev pub accepted_by : {E : Type 0} → Option (Core E) → List ℕ → List (List ℕ)
accepted_by None bytes = []
accepted_by (Some c) bytes = cond (can_put c.queue (length bytes)) (bytes ∷ []) []

-- the message that an event puts for a sender: none, or the bytes of a put that is accepted
abbrev pub accepted : {E : Type 0} → Bus E → Event → ℕ → List (List ℕ)
accepted b (Put s bytes) q = cond (q == s) (accepted_by (going b s) bytes) []
accepted b (Ask s m) q = []
accepted b (Turn s word) q = []
accepted b (Recv r) q = []
accepted b (Stop s) q = []
accepted b (Gone r) q = []
