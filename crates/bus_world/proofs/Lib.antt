-- Who goes on, and who has stopped.
pub mod Stopping
-- What senders have put, and what an event puts and publishes.
pub mod Waiting
-- The passage of the lock is kept by each thing that a sender does.
pub mod TenuresLaws
-- What a new frame, and a word past the length, do to the log.
pub mod LogLaws
-- How many items a log can have: a frame has a head and so many messages at most, each of one word
-- or more.
pub mod Bounds
-- The frame of a batch.
pub mod FrameOfBatch
-- What is kept of one sender beside the steps of others: its part, who has left, and who owns a
-- frame; and what it keeps that gives a page back without having published.
pub mod SenderParts
-- Each turn of a sender that holds no page keeps what senders, words, page and owners keep.
pub mod BusLaws
-- Each turn of a sender that holds the page keeps what senders, words, page and owners keep: it
-- stores a word of its frame or the length, or gives the page back.
pub mod HolderLaws
-- Each turn of a sender keeps what senders, words, page and owners keep, whatever the random word:
-- said of words and senders by number, and then of the lists of a machine.
pub mod TurningLaws
-- What receivers were given is a prefix of the order.
pub mod ReceivingLaws
-- A turn of a sender changes what nobody has put: messages go from a batch into the order, and
-- nowhere else.
pub mod PutLaws
-- What a sender accepts between its turns keeps what senders, words, page and owners keep: said of
-- words and senders by number.
pub mod Accepting
-- Every event keeps the bus lawful, and a lawful bus keeps its promises.
pub mod WorldLaws
-- What is appended to receivers at their starts.
pub mod StartingLaws
-- Lists, bytes, numbers and results of a program; and who took the page, as an answer tells it.
pub mod PlayingLaws
-- What is read from the words of a bus, and what a new one is made of.
pub mod ViewingLaws
-- What stands at a place of a list: of none, of one element, and of one that another follows.
pub mod Places
-- What ties the trails to the state of the bus.
pub mod Tying
-- What a step does to trails, and to the tables that are as the trails tell.
pub mod TableTrails
-- A turn of a sender keeps what ties the trails to the senders' side.
pub mod TurnTrails
-- A turn of a receiver keeps what ties its trail to its place.
pub mod HearTrails
-- Who asked for a mark: one that waits in a batch, and one that stands in the log, was asked for by
-- its sender.
pub mod Asking
-- The frames of a log, as owners and items that belong to each other.
pub mod Framing
-- Events one after another: who took the pages only grows, and each event is answered.
pub mod Growing
-- What the election of any ratifier has, so that a bus goes by it.
pub mod Serving
-- Every event keeps what ties the trails to the receivers, and so does a receiver that is copied to
-- another number.
pub mod EventHears
-- Every event keeps what ties the trails to the bus, and the promise follows from it.
pub mod EventTrails
-- Each of the wrong behaviours is refused.
pub mod Refused
-- What frames say of their owners, and of the numbers of their items.
pub mod FrameOwners
-- Words of zero, the page at home and senders at their starts keep what senders, words, page and
-- owners keep.
pub mod Beginning
-- Steps of a bus whose rows are used again that change no word of a tenure's row: those of pins,
-- and those that clear the next row.
pub mod CyclicProtocolWords
-- The words of a bus whose rows and whose log are used again, beside those of one that has a row
-- for each tenure and a log without an end.
pub mod RingWords
-- Frames whose words begin those of others begin them, and frames from one of them on are a log by
-- themselves: what stands of a log whose first frames are gone can be read as a whole one.
pub mod Standing
-- What each step does to the floor and to passed places, and where frames begin: a passed place
-- only rises, and so does the floor.
pub mod FloorLaws
-- What stands of a log whose words are used again, from the least passed place on: it is the end of
-- all that was published, and can be read as a log of its own.
pub mod RingLaws
-- What senders have noted stays true: what each has put, how its messages were numbered, and who
-- asked for a mark.
pub mod CyclicProtocolNotes
-- Receivers of a bus whose rows are used again are as those of one that has a row for each tenure,
-- whose log lies elsewhere.
pub mod CyclicProtocolHears
-- What is always kept of a bus whose rows are used again, beside one that has a row for each
-- tenure; and what a turn of one sender leaves of it.
pub mod CyclicProtocolKept
-- How a sender enters tenures and leaves them keeps what is always kept: a first look at the stage,
-- and each step of its pin; and so does a turn in which nothing happens.
pub mod CyclicProtocolPins
-- A step of an election keeps what is always kept, and so does a sender that takes the page.
pub mod CyclicProtocolElections
-- A holder of the page keeps what is always kept: it stores words of its frame and the length,
-- makes the next row ready and gives the page back.
pub mod CyclicProtocolHolders
-- What the step of a receiver does to the words: a load nothing, and without a passed place it
-- takes no other.
pub mod ReceiverSteps
-- A holder of the page whose frame does not fit loads the passed places, one after another, and
-- with the last one its page gets a floor that all of them are past.
pub mod CyclicProtocolReads
-- Whatever a receiver does keeps all that is kept: it loads a word, or stores in its passed place a
-- number no less than what stood there, where a frame begins or past all words.
pub mod CyclicProtocolPasses
-- Whoever joins keeps all that is kept: a receiver that has not left stores its passed place in
-- that of a higher number, or takes no step where there are no passed places.
pub mod CyclicProtocolJoins
-- Whatever senders do whose rows are used again, it is as if each tenure had a row for itself.
pub mod CyclicProtocolLaws
-- To each of the wrong buses nothing leads.
pub mod RingRefused
-- A step that is taken on another word, and the situation that is due.
pub mod PlacedSteps
