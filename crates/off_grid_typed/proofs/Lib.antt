-- what lies past the end of what is lent
pub mod Past
