-- What a sample comes to: its number for who takes it, and what a host is handed of it. Document 02's words stand in quotes.
use Rattle.std.specs.Prelude.{ℕ, Float}
use Rattle.floats.specs.Numbers.{zero64}
use Rattle.drags.specs.declared.Sample.{Sample}
use Rattle.drags.specs.declared.Sample.TheVariants.{Friction, Air, Unloaded, Unregistered}
use Rattle.drags.specs.declared.Support.{Support}
use Rattle.drags.specs.declared.Support.TheVariants.{Asked, NotAsked}

-- "Each caller's number stays what the Rust gives": .unwrap_or(default), .map_or(default, ..)
abbrev pub sample_or : Float → Sample → Float
sample_or default (Friction f) = f
sample_or default Air = default
sample_or default Unloaded = default
sample_or default Unregistered = default

-- ---- what a host is handed: "the case and, where sampled, the number"

-- "a sampled number, air, unloaded, or unregistered"
abbrev pub reason_number : Sample → ℕ
reason_number (Friction f) = 1
reason_number Air = 2
reason_number Unloaded = 3
reason_number Unregistered = 4

-- "a fifth case, not asked"
abbrev pub case_number : Support → ℕ
case_number (Asked sample) = reason_number sample
case_number NotAsked = 0

-- 0 where no number was sampled
abbrev pub sampled_number : Support → Float
sampled_number (Asked sample) = sample_or zero64 sample
sampled_number NotAsked = zero64
