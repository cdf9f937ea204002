-- What words, page and senders keep, by the frames of the log. Most other files go by these.

-- The page of a machine and its stage, and who takes and holds the page, by the frames of its log.
pub mod Paging
-- Where the page is, and who takes and holds it, by what senders, words and page always keep.
pub mod AtHome
-- What words, page and senders of a machine keep by the frames of its log, of both kinds of rows.
pub mod Framed
-- What the page knows, who has it while it is out, and where a word of the log is stored, by the
-- frames of the log.
pub mod Knowing
-- What an event publishes stands in its cells just behind what was published before.
pub mod Publishing
-- With each event what was published grows by the words that join it, which are those of a frame or
-- none.
pub mod Joining
-- What is read of the cells of a log, from a place on.
pub mod Cells
-- From the floor of a page on each word that was published stands in its cell.
pub mod FloorWords
-- The end of the order and tenures that are past, by the frames of the log and by trails that have
-- grown.
pub mod Ending
-- Where the log is extended and the trails have grown, the promise stays.
pub mod Staying
