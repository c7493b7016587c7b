-- `collection::collect` meets its contract. Assumes nothing.
use mathlib.Core.Path.{◌≡◌, ap, ◌∙◌}
use Prim.Native.Nat.{min}
use native.Mathlib.Omega.{arith}
use Rattle.sweeps.specs.Lists.{room, cap_of}
use Rattle.sweeps.proofs.Caps.{cap-in-room}
use Rattle.collection.specs.Answers.{held_asked}
use Rattle.collection.proofs.Past.{all-come-to}
use Rattle.collection.proofs.collect.Goals as goal

pub returns : goal.returns
returns c =
    let cap = c.args.cap in
    let m = cap-in-room cap in
    let all : min (cap_of cap) room ≡ cap_of cap = omega arith in
    rw (c.cap_of.ensures, all) at c.collect_up_to.ensures ∙ ap held_asked (all-come-to (cap_of cap) _ _ _ _ _ c.range_of.ensures)
