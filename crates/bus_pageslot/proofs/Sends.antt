-- Calls of a sender.

-- A sender stays who it is: its number, and that from which its messages are counted.
pub mod Staying
-- What a turn, and a sending, makes of the messages that wait; and of batches that a sender fills
-- and sends off.
pub mod Batching
-- A sender that has accepted a message or a mark still shows its seat, which no step has changed;
-- and its actions have that one more.
pub mod Puts
-- What waits with a sender while the page is at home was answered the numbers from that on which
-- the page says.
pub mod FoundThere
-- What waits with one sender, put into the batch of another.
pub mod Carries
-- A turn puts nothing, and turns between which a function is asked are turns.
pub mod Sending
-- A step of a sender is one step more that its seat shows.
pub mod Counted
-- A holder's turn takes one of the turns that are left of its tenure, also where it makes the next
-- row ready; and by the table, so does any turn of a tenure that is begun.
pub mod HoldingTurns
-- A turn of a tenure that is begun takes one of the turns that are left of it, and goes on in it or
-- ends it: here those of its pin and of its election, and that it takes the page.
pub mod TurnsLeft
-- Turns up to the end of the tenure that is begun: each takes one of those that are left of it,
-- none is of another, and at its end nothing of it is held.
pub mod Finishing
-- A sender that waits for room: what its turns and looks keep, and what they do not allow.
pub mod Room
-- What a look finds, and how many words the frame of a batch has.
pub mod Looking
-- What a look found is right for as long as it says: a no from the load of the least passed place
-- on, and a yes while the length is the same.
pub mod Noes
-- What a sender answers without a step is so: it is a turn of the machine behind the table, which
-- adds no action.
pub mod Resting
