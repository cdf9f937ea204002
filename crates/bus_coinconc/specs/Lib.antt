pub mod Conciliation
pub mod Conciliator
pub mod ConciliatorAnswer
pub mod ConciliatorKinds
pub mod ConciliatorRefused
pub mod ConciliatorProtocol
pub mod Private
