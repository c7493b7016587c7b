-- `window::look_in` meets its contract: of u32s nothing wraps, and the column's word is one of its layer. Assumes nothing.
use mathlib.Core.Path.{◌≡◌, sym, ◌∙◌, subst}
use mathlib.Core.Bool.{true}
use Prim.Native.Nat.{ℕ, ◌+◌, ◌*◌, ◌≤◌, ◌<◌}
use native.Mathlib.Nat.{mul_comm, mul-le-mul}
use native.Mathlib.Omega.{arith}
use lib.Arith.{digits_lt}
use lib.IntN.{nat_abs}
use mir.Syntax.{w64}
use mir.ValLaws.{to_z-of_z}
use Rattle.base.specs.Choose.{choose}
use Rattle.window.specs.Offsets.{is_ahead, look_within}
use Rattle.window.proofs.Offsets.{ahead-below, ahead-casts}
use Rattle.window.proofs.look_in.Goals as goal
use Rattle.window.proofs.look_in.Goals.{After-struct_known-1, Then-is_ahead, Then-is_ahead-2}

-- what the two tests say of the offsets
x-ahead : (c : Then-is_ahead) → let a = c.args in is_ahead a.x a.s.x ≡ true
x-ahead c = rw (to_z-of_z w64 c.args.x c.ranges.x) at (sym c.is_ahead.ensures ∙ c.if-is_ahead.true)

z-ahead : (c : Then-is_ahead-2) → let a = c.args in is_ahead a.z a.s.z ≡ true
z-ahead c = rw (to_z-of_z w64 c.args.z c.ranges.z) at (sym c.is_ahead-then-is_ahead.ensures ∙ c.if-is_ahead-2.true)

within : (c : Then-is_ahead-2) → let a = c.args in nat_abs a.z * a.s.x + nat_abs a.x < a.s.x * a.s.z
within c =
    let a = c.args in
    subst (λ (n : ℕ). nat_abs a.z * a.s.x + nat_abs a.x < n) (mul_comm a.s.z a.s.x)
    (digits_lt (ahead-below a.z a.s.z (z-ahead c)) (ahead-below a.x a.s.x (rw (to_z-of_z w64 c.args.x c.ranges.x) at (sym c.is_ahead.ensures ∙ c.if-is_ahead.true))))

layer : (c : After-struct_known-1) → let a = c.args in a.s.x * a.s.z ≤ 4294967295 * 4294967295
layer c = mul-le-mul {n₂ = 4294967295} {m₂ = 4294967295} (omega arith) (omega arith)

pub overflow_cast-at : goal.overflow_cast-at
overflow_cast-at c = rw (to_z-of_z w64 c.args.z c.ranges.z) (ahead-casts c.args.z c.args.s.z (z-ahead (goal.at.overflow_cast-at c).Then-is_ahead-2) (omega arith))

pub overflow_mul-at : goal.overflow_mul-at
overflow_mul-at c = rw (to_z-of_z w64 c.args.z c.ranges.z) (omega (arith, layer (goal.at.overflow_mul-at c).After-struct_known-1, within (goal.at.overflow_mul-at c).Then-is_ahead-2))

pub overflow_cast-at-then-is_ahead-2 : goal.overflow_cast-at-then-is_ahead-2
overflow_cast-at-then-is_ahead-2 c = rw (to_z-of_z w64 c.args.x c.ranges.x) (ahead-casts c.args.x c.args.s.x (x-ahead (goal.at.overflow_cast-at-then-is_ahead-2 c).Then-is_ahead) (omega arith))

pub overflow_add-at : goal.overflow_add-at
overflow_add-at c = rw (to_z-of_z w64 c.args.z c.ranges.z, to_z-of_z w64 c.args.x c.ranges.x) (omega (arith, layer (goal.at.overflow_add-at c).After-struct_known-1, within (goal.at.overflow_add-at c).Then-is_ahead-2))

pub overflow_mul-sx : goal.overflow_mul-sx
overflow_mul-sx c = omega (arith, layer (goal.at.overflow_mul-sx c).After-struct_known-1)

pub look_down-requires : goal.look_down-requires
look_down-requires c =
    rw (to_z-of_z w64 c.args.z c.ranges.z, to_z-of_z w64 c.args.x c.ranges.x) (within (goal.at.look_down-requires c).Then-is_ahead-2)

pub returns-then-is_ahead-2 : goal.returns-then-is_ahead-2
unfolding look_within choose
returns-then-is_ahead-2 c =
    let e = rw (to_z-of_z w64 c.args.x c.ranges.x, to_z-of_z w64 c.args.y c.ranges.y, to_z-of_z w64 c.args.z c.ranges.z) at c.look_down.ensures in
    rw (x-ahead (goal.at.returns-then-is_ahead-2 c).Then-is_ahead, z-ahead (goal.at.returns-then-is_ahead-2 c).Then-is_ahead-2, ← e)

pub returns-then-is_ahead : goal.returns-then-is_ahead
unfolding look_within choose
returns-then-is_ahead c =
    let z = rw (to_z-of_z w64 c.args.z c.ranges.z) at (sym c.is_ahead-then-is_ahead.ensures ∙ c.if-is_ahead-2.false) in
    rw (x-ahead (goal.at.returns-then-is_ahead c).Then-is_ahead, z)

pub returns : goal.returns
unfolding look_within choose
returns c = rw (rw (to_z-of_z w64 c.args.x c.ranges.x) at (sym c.is_ahead.ensures ∙ c.if-is_ahead.false))
