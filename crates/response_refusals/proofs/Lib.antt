pub mod ReplyLaws
pub mod RefusalLaws
