-- A list that is filled from its first place on.
mod FillLaws
-- Items that are heard one by one, and written one behind another.
mod HearLaws
-- A list written over the first places of another, item by item.
mod OverLaws
