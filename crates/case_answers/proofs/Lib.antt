pub mod Accepted
pub mod CardRefused
pub mod ComputedRefusals
pub mod ComputedReplies
pub mod ComputedLists
pub mod StoredCard
pub mod Statuses
