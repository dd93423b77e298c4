mod Plans
mod Survivors
mod Frames
mod Ends
mod Reporting
