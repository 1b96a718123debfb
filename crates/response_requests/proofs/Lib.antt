pub mod RespondLaws
