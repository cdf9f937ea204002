-- The parts of a box and of a handle, as values; parts taken apart and put together, whatever seat
-- lies there.
mod HandleValues
-- The handle of a receiver, taken apart and put together.
mod ReceiverValues
-- The handle of a sender, taken apart and put together.
mod SenderValues
