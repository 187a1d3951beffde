pub mod FieldsRead
