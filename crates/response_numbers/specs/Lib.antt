pub mod RefusalForms
