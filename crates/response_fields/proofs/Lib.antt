pub mod FieldsWritten
