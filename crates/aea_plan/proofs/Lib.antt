pub mod Lists
pub mod Numbered
pub mod Flipped
pub mod Walking
pub mod Lining
pub mod Printing
