mod Between
mod Blocks
mod Chain
mod Staying
