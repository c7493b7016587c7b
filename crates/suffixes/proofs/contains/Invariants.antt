-- `suffixes::contains` meets its contract. The invariant: what is left, from `k` on, decides the whole. Assumes nothing.
use mathlib.Core.Path.{◌≡◌}
use lib.ListN.{drop}
use Rattle.suffixes.specs.Bytes.{has_within}
use Rattle.suffixes.proofs.contains.Given as goal

abbrev pub invariant-loop-k : goal.invariant-loop-k
invariant-loop-k l = has_within (drop l.k l.id) l.part ≡ has_within l.id l.part
