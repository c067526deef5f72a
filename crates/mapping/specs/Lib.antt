pub mod Pages
pub mod Totals
pub mod View
