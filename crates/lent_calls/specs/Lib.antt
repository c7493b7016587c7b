-- The definitions of what a host hands over and is handed back as lent numbers.
pub mod Moves
pub mod Ticks
pub mod Falling
pub mod Currents
