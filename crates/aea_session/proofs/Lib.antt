mod Aborts
mod Begins
mod Opens
mod Chunked
mod Fresh
mod Slotted
mod Quietly
mod Spaces
mod Taking
mod LookingPrinted
mod LookingAt
mod Copied
mod LookingKept
mod LookingOver
-- offered: how long a reply is
pub mod Lengths
mod CloseFaults
mod CloseFull
mod CloseSteps
mod CloseWoven
mod CloseHomes
mod CloseOpen
mod CloseRecord
mod CloseKeeps
mod CloseAdds
mod CloseWrites
mod ClosedTaking
mod Ceilings
mod Served
mod Traces
-- offered: how the ledger goes on by messages that were taken
pub mod Going
mod Watching
mod Using
