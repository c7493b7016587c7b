-- Laws of a host's calls in lent numbers.
pub mod Movers
pub mod Bodies
pub mod Falls
