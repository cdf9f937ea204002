-- A close that is taken, and then sent.
mod ClosingLaws
-- The seats that handles show, as handles are made one by one.
mod HandleLaws
-- The numbers of senders, as they are noted one by one.
mod PageLaws
-- What the last answer of a sending says as a Result; and turns between which a function is asked
-- of which less is said.
mod SendingLaws
-- Turns of a receiver between which a function is asked of which less is said.
mod HearingLaws
