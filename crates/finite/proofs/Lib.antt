-- Request Eleven holds: `eleven` in Whole. Limits ties bounds to the tests of limits, Asked has loops that ask; Clips and Moves have the move, Lengths
-- and Currents the liquids, Frictions and Steps the step; Samples shows that bounds are reached and that tables must be checked.
pub mod Limits
pub mod Asked
pub mod Clips
pub mod Moves
pub mod Lengths
pub mod Currents
pub mod Frictions
pub mod Steps
pub mod Whole
pub mod Samples
