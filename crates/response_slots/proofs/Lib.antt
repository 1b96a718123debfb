pub mod RowReplyLaws
