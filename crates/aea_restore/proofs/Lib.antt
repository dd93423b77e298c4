-- offered: the XOR of lists of blocks whose payloads are wide
pub mod Sums
-- offered: the other blocks of equations that give a block
pub mod Parts
-- offered: payloads that are drawn from survivors
pub mod Drawing
mod Ways
-- offered: that no digests clash where the survivors are honest
pub mod Ends
-- offered: lists that are gone through by their places
pub mod Items
mod Loops
-- offered: payloads that are read, judged and added up
pub mod Judging
mod Ordered
mod Blocks
-- offered: the equations of a fate give its block
pub mod Planned
mod Restorable
-- offered: other names of the restored blocks
pub mod Same
