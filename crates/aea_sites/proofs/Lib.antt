mod Lists
mod Flipped
mod Counting
mod Losing
mod Rows
mod LossLaws
mod Passing
mod ByFates
