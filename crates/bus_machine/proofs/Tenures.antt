-- Who enters a tenure, takes its page, clears the row of the next, and in how many steps.

-- Which tenure a sender may enter next, and what its pin has to do with its phase.
pub mod Entering
-- Where a sender goes on in its tenure or before it, its situation is the one that it has there.
pub mod Own
-- A holder clears words of the row of the next tenure alone, in which nobody stands.
pub mod Clearing
-- In a tenure whose row has gone on to a later one nobody has an action more.
pub mod Gone
-- Of each machine that is reached there are numbers of nobody, from some number on: nobody was
-- answered anything there.
pub mod Nobody
-- Who takes the page is told so by the answer of its turn, and nobody else.
pub mod Takes
-- Who took the pages that a machine still tells, of all who took pages.
pub mod PagesTaken
-- A sender takes no more steps towards the page of a tenure than its election has, and one more.
pub mod ElectionBounds
-- Where rows are used again a sender takes three steps at most for its pin of a tenure.
pub mod PinBounds
