pub mod Composing
pub mod Divided
pub mod LinearForms
pub mod Rows
pub mod Signs
