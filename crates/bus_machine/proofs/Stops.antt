-- Stops and leaves are for good. Each file serves one goal.

-- A stop is for good, and changes nothing else.
pub mod StopLaws
-- A leave of a receiver is for good.
pub mod LeaveLaws
