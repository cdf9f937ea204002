-- A transfer has one outcome.
mod Outcomes
