-- The definitions of bodies: the cases of their numbers, the order of these, the limits on them, and a body in lent numbers.
pub mod Body
pub mod Numbers
pub mod Limits
pub mod Lent
pub mod Cases
