pub mod Tests
pub mod Placed
pub mod Steps
pub mod Inverters
pub mod Negation
pub mod Order
pub mod Pair
pub mod Spoiled
