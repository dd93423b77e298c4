mod Closings
mod Examples
mod Holding
mod Machines
mod Names
mod Runs
