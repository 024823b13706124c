pub mod HeadValues
pub mod inside
