-- `window::look_down` meets its contract: below 2^32 columns no place wraps, and where a column's word was lent, the cell's lies before it. Assumes
-- nothing.
use Rattle.std.proofs.Common.{rules}
use mathlib.Core.Path.{◌≡◌, sym, ◌∙◌}
use mathlib.Core.Bool.{true}
use Prim.Native.Nat.{◌+◌, ◌*◌, ◌≤◌, ◌<◌}
use native.Mathlib.Nat.{mul-le-mul}
use native.Mathlib.Omega.{arith}
use lib.IntN.{nat_abs}
use lib.ListN.{length}
use mir.Syntax.{w64}
use mir.ValLaws.{to_z-of_z}
use borrow.Author.Tests.{le-ltb, lt-ltb, eq-eqb, ne_eqb}
use Rattle.base.specs.Choose.{choose}
use Rattle.window.specs.Offsets.{is_ahead, look_down}
use Rattle.window.proofs.Offsets.{ahead-below, ahead-casts, place-under}
use Rattle.window.proofs.look_down.Goals as goal
use Rattle.window.proofs.look_down.Goals.{Then-is_ahead, Then-layer-lt4294967296}

near : (c : Then-layer-lt4294967296) → let a = c.args in a.height * a.layer ≤ 4294967295 * 4294967295
near c = mul-le-mul {n₂ = 4294967295} {m₂ = 4294967295} (omega arith) (omega arith)

-- what the test says of the offset
y-ahead : (c : Then-is_ahead) → let a = c.args in is_ahead a.y a.height ≡ true
y-ahead c =
    rw (to_z-of_z w64 c.args.y c.ranges.y) at (sym c.is_ahead.ensures ∙ c.if-is_ahead.true)

-- the cell's place
under : (c : Then-is_ahead) → let a = c.args in nat_abs a.y * a.layer + a.at < length a.words.now
under c =
    let a = c.args in
    let k = place-under a.layer a.height a.at (nat_abs a.y) (ahead-below a.y a.height (y-ahead c)) in
    let n = c.if-i-words.true in
    omega arith

pub overflow_mul-i : goal.overflow_mul-i
overflow_mul-i c = omega (arith, near (goal.at.overflow_mul-i c).Then-layer-lt4294967296)

pub overflow_add-i : goal.overflow_add-i
overflow_add-i c = omega (arith, near (goal.at.overflow_add-i c).Then-layer-lt4294967296)

pub returns-then-words-i-eq0 : goal.returns-then-words-i-eq0
unfolding look_down choose
returns-then-words-i-eq0 c =
    rw (lt-ltb _ _ c.if-layer-lt4294967296.true, lt-ltb _ _ c.if-i-words.true, eq-eqb _ _ c.if-words-i-eq0.true)

pub returns-then-void : goal.returns-then-void
unfolding look_down choose
returns-then-void c =
    rw (lt-ltb _ _ c.if-layer-lt4294967296.true, lt-ltb _ _ c.if-i-words.true, ne_eqb _ _ c.if-words-i-eq0.false, c.if-void.true)

pub overflow_cast-k : goal.overflow_cast-k
overflow_cast-k c =
    let h = c.ranges.height.fits in
    rw (to_z-of_z w64 c.args.y c.ranges.y) (ahead-casts c.args.y c.args.height (y-ahead (goal.at.overflow_cast-k c).Then-is_ahead) (omega arith))

pub overflow_mul-k : goal.overflow_mul-k
overflow_mul-k c = let k = under (goal.at.overflow_mul-k c).Then-is_ahead in rw (to_z-of_z w64 c.args.y c.ranges.y) (omega arith)

pub overflow_add-k : goal.overflow_add-k
overflow_add-k c = let k = under (goal.at.overflow_add-k c).Then-is_ahead in rw (to_z-of_z w64 c.args.y c.ranges.y) (omega arith)

pub offset_bounds-words-k : goal.offset_bounds-words-k
offset_bounds-words-k c = let k = under (goal.at.offset_bounds-words-k c).Then-is_ahead in rw (to_z-of_z w64 c.args.y c.ranges.y) (search (rules, k))

pub bounds-words-k : goal.bounds-words-k
bounds-words-k c = rw (to_z-of_z w64 c.args.y c.ranges.y) (under (goal.at.bounds-words-k c).Then-is_ahead)

pub returns-then-is_ahead : goal.returns-then-is_ahead
unfolding look_down choose
returns-then-is_ahead c =
    rw (to_z-of_z w64 c.args.y c.ranges.y, lt-ltb _ _ c.if-layer-lt4294967296.true, lt-ltb _ _ c.if-i-words.true, ne_eqb _ _ c.if-words-i-eq0.false, c.if-void.false, y-ahead (goal.at.returns-then-is_ahead c).Then-is_ahead)

pub returns-then-i-words : goal.returns-then-i-words
unfolding look_down choose
returns-then-i-words c =
    let y = rw (to_z-of_z w64 c.args.y c.ranges.y) at (sym c.is_ahead.ensures ∙ c.if-is_ahead.false) in
    rw (lt-ltb _ _ c.if-layer-lt4294967296.true, lt-ltb _ _ c.if-i-words.true, ne_eqb _ _ c.if-words-i-eq0.false, c.if-void.false, y)

pub returns-then-layer-lt4294967296 : goal.returns-then-layer-lt4294967296
unfolding look_down choose
returns-then-layer-lt4294967296 c = rw (lt-ltb _ _ c.if-layer-lt4294967296.true, le-ltb _ _ c.if-i-words.false)

pub returns : goal.returns
unfolding look_down choose
returns c = rw (le-ltb _ _ c.if-layer-lt4294967296.false)
