pub mod DateLaws
