pub mod RowTests
pub mod SoundWords
pub mod WrittenRows
pub mod StaysSound
