pub mod Formed
pub mod Laws
pub mod Meant
pub mod SyntaxMeant
