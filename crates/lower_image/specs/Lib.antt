pub mod FieldErrors
