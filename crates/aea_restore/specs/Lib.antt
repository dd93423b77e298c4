pub mod Plans
pub mod Given
pub mod Laws
pub mod Drawn
pub mod Judged
pub mod Repairs
pub mod UnderWay
pub mod InOrder
