-- Why a run is refused, and what else its answer says.
pub mod Streams
pub mod Stops
pub mod Begins
pub mod Failing
pub mod Running
