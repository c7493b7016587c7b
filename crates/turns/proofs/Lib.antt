-- The table's rule.
pub mod Rules
