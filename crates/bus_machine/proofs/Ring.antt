-- What floors and passed places keep.

-- Whatever happens, the floor of a page only rises.
pub mod Floors
-- Whatever happens, no passed place falls: a sender stores in none, and a receiver only in its own,
-- where it stores a place that is no less than what it shows, or 2^64 - 1.
pub mod PassedRising
-- What a holder has loaded of the passed places is what its actions found there since it took its
-- page; and once all are loaded, the floor of the page is the least of them.
pub mod Loaded
-- A holder loads the passed places in the order of receivers.
pub mod LoadsInTurn
-- What a holder has found in passed places stood there when it loaded them, each in the place of
-- the next receiver.
pub mod ShownPlaces
-- What the words say of what receivers were given, and what of it still stands.
pub mod Giving
