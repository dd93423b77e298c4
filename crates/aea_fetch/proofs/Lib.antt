-- offered: what is under a name
pub mod Blocks
pub mod Payloads
pub mod Firsts
pub mod Copies
pub mod Loops
pub mod Broken
-- offered: what the catalogue found, and what is said of the blocks under a name
pub mod Getting
-- offered: payloads that are the blocks of a data list
pub mod Owns
mod Puts
