-- `scene_held::parts::take_words` meets its contract. Assumes nothing.
use Rattle.std.proofs.Common.{rules}
use Rattle.blocks.specs.Blocks.{part_word}
use Rattle.base.proofs.Fill.{turn, whole}
use Rattle.base.specs.Loop.{listed}
use native.Mathlib.Omega.{arith}
use lib.ListN.{length, take, length-set}
use Prim.Native.Nat.{ℕ, ◌-◌, ◌≤◌}
use native.Mathlib.Nat.{sub-zero}
use mathlib.Core.List.{◌++◌}
use mathlib.Core.Path.{◌≡◌, refl, ap}
use Rattle.scene_held.proofs.parts.take_words.Goals as goal

pub loop-i-init : goal.loop-i-init
loop-i-init c =
    let e = c.held-n.ensures in
    let f : ℕ → ℕ = part_word c.args.file.now c.args.p in
    (search rules, omega arith, omega arith, refl, ap (λ (k : ℕ). listed f k 0) (sub-zero c.held-n.result))

pub loop-i-preserved : goal.loop-i-preserved
loop-i-preserved c =
    let f : ℕ → ℕ = part_word c.args.file.now c.args.p in
    (search rules, search rules, simp length-set c.loop-i.invariant.2, simp length-set c.loop-i.invariant.3, turn f c.held-n.result c.loop-i.i c.loop-i.to _ c.part_word.result c.part_word.ensures (search rules) (search rules) c.loop-i.invariant.4)

pub shape_of-to : goal.shape_of-to
shape_of-to c = c.loop-i.invariant.3

pub returns : goal.returns
returns c =
    let f : ℕ → ℕ = part_word c.args.file.now c.args.p in
    let whole_part = whole f c.held-n.result c.loop-i.i c.loop-i.to _ (search rules) c.loop-i.invariant.0 c.loop-i.invariant.4 in
    rw c.held-n.ensures at whole_part
