pub mod UsableLaws
