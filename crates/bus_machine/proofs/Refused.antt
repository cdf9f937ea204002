-- What the definitions refuse. Each file serves a few goals.

-- Answers, memories and machines that the definitions refuse.
pub mod RefusalLaws
-- Each of the wrong behaviours is refused.
pub mod PromiseRefused
-- No promise holds of a log that lacks what was put, or has a word that was never stored.
pub mod LogRefused
-- No fork is one that goes down, takes a number that is taken, or makes another than its maker.
pub mod ForkLaws
