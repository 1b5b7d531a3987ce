pub mod Arrays
pub mod Children
pub mod Offers
pub mod Order
pub mod Bar
