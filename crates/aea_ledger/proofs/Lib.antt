pub mod Passed
pub mod Pieces
pub mod Writes
pub mod Creates
pub mod Steps
pub mod JoinedSteps
pub mod ShortSteps
pub mod Gates
pub mod Starts
pub mod Small
pub mod Commits
pub mod Digests
pub mod Appends
pub mod Lying
pub mod Recording
mod Making
mod Takings
mod Joining
pub mod Ends
pub mod Readying
mod Adding
