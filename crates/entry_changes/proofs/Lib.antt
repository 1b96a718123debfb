pub mod ChangeLaws
