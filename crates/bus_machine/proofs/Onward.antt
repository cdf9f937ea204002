-- What never falls.

-- Whatever happens, the stage never falls.
pub mod StageRises
-- The stage leaves that of an open tenure only by who takes its page.
pub mod StageLeaves
-- Whatever happens, the new machine follows the old one, and what is answered is so.
pub mod Following
