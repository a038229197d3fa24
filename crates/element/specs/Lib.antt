pub mod Products
pub mod ProductLaws
