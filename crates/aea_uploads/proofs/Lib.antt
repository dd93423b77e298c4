mod Pushes
mod Keeping
mod Gathered
mod Parts
mod Faults
mod Filled
mod Closed
mod Counted
