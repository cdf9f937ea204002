-- No more than a whole log of words lies behind the floor that the words show, nor behind that of
-- the page at home.
pub mod Fitting
-- A sender of either kind of rows is a process: its laws, by the one table of its turns.
pub mod Turns
-- What a sender of the one machine may do leads on, with a row for each tenure and with rows that
-- are used again.
pub mod Leading
-- Who is none of a machine's senders has done nothing.
pub mod ReachedMachines
-- A bus of either kind of rows is an automaton: its laws, by what every machine keeps that events
-- lead to.
pub mod States
-- The one automaton begins as it should.
pub mod Beginning
-- What the answer of a step tells once the page is out of a sender's hands, it tells of the sender
-- before that.
pub mod HandedTells
-- A sender of which no step is due answers why, and not that it goes on.
pub mod RestingTells
-- Who takes a page with its next step was chosen by the election of that tenure, with both kinds of
-- rows.
pub mod Owning
-- A bus of no plan is refused for two causes, and one that is served has sizes that an automaton
-- begins with.
pub mod ServedPlans
-- A reader that stands in a log goes on with its next word.
pub mod Readings
-- A receiver of a machine goes on to a place where a frame begins, and says so in its passed place:
-- by its turns alone, of which no other changes a word.
pub mod Walking
-- What a receiver between threads goes by: it finds each word that it may ask for, its passed place
-- shows what it has passed, and it may pass more or leave for good.
pub mod Passing
-- A bus of any kind is an automaton: what it owes threads, put together.
pub mod Owed
