-- What a sender's pin has to do with the trail of its steps: in which tenure it stands, and which
-- one its presence shows.
pub mod PinTrails
-- What each reclamation keeps; and that steps of pins keep it, and what is stored in the row of a
-- tenure in which a sender stands.
pub mod ReclamationKept
-- Steps of the stage and of a reclaimer keep what each reclamation keeps, and so does what is
-- stored elsewhere: whatever is reached keeps it.
pub mod ReclaimerLaws
-- Every reclamation that is reached is safe.
pub mod ReclamationLaws
-- In rows used again each tenure's object keeps its law, as if over a row for itself.
pub mod RowLaws
