-- The table check: what refusal 1 is given for.
pub mod Check
