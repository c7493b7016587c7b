-- How a host in another language is told two refusals.
pub mod Told
