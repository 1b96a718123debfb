pub mod ListLaws
pub mod LoopLaws
pub mod PlaceCounts
pub mod RowReplyLaws
pub mod ListedSlots
pub mod WriteLoops
pub mod FreeSlots
pub mod SoundLaws
