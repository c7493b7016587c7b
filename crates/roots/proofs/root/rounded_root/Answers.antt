-- `roots::root::rounded_root` meets its contract: each need is a fact of `Whole` or of `Split` (`Halves.antt`). Assumes nothing.
use Prim.Native.Nat.{ℕ, ◌-◌, ◌*◌, ◌%◌, ◌^◌, ◌≤◌, ◌<◌}
use native.Mathlib.Nat.{mul-le-mul_left}
use native.Mathlib.Omega.{arith}
use Rattle.roots.proofs.Halves.{Whole, Split, whole-root, split, up, down}
use Rattle.roots.proofs.root.rounded_root.Goals as goal
use Rattle.roots.proofs.root.rounded_root.Goals.{After-quotient-q, After-whole_root-s}

-- after `whole_root`
whole : (c : After-whole_root-s) → Whole c.args.n c.whole_root-s.result
whole c = whole-root _ _ c.requires.0 c.requires.1 c.whole_root-s.ensures.0 c.whole_root-s.ensures.1

-- after `quotient`
known : (c : After-quotient-q) → Split c.args.n c.whole_root-s.result c.quotient-q.result
known c = split _ _ _ (whole-root _ _ c.requires.0 c.requires.1 c.whole_root-s.ensures.0 c.whole_root-s.ensures.1) c.quotient-q.ensures.0 c.quotient-q.ensures.1

-- the product that proposes the quotient
product : (r h d : ℕ) → r ≤ d → d < 2 ^ 33 → r * (h % 2 ^ 31) < 2 ^ 64
product r h d a b =
    let p : r * (h % 2 ^ 31) ≤ r * (2 ^ 31 - 1) = mul-le-mul_left r (omega arith) in
    omega arith

pub overflow_add-d : goal.overflow_add-d
overflow_add-d c = omega (arith, whole (goal.at.overflow_add-d c).After-whole_root-s)

pub overflow_mul-a : goal.overflow_mul-a
overflow_mul-a c = omega (arith, whole (goal.at.overflow_mul-a c).After-whole_root-s)

pub overflow_mul-r-2 : goal.overflow_mul-r-2
overflow_mul-r-2 c = record { fits = product _ c.guess-g.result.inverse _ (whole (goal.at.overflow_mul-r-2 c).After-whole_root-s).rest (let w = whole (goal.at.overflow_mul-r-2 c).After-whole_root-s in omega arith) }

pub quotient-q-requires : goal.quotient-q-requires
quotient-q-requires c = omega (arith, whole (goal.at.quotient-q-requires c).After-whole_root-s)

pub overflow_mul-u : goal.overflow_mul-u
overflow_mul-u c = omega (arith, known (goal.at.overflow_mul-u c).After-quotient-q)

pub overflow_mul-u-2 : goal.overflow_mul-u-2
overflow_mul-u-2 c = omega (arith, known (goal.at.overflow_mul-u-2 c).After-quotient-q)

pub overflow_mul-t : goal.overflow_mul-t
overflow_mul-t c = omega (arith, whole (goal.at.overflow_mul-t c).After-whole_root-s)

pub overflow_add-t : goal.overflow_add-t
overflow_add-t c = omega (arith, known (goal.at.overflow_add-t c).After-quotient-q, whole (goal.at.overflow_add-t c).After-whole_root-s)

pub overflow_mul-q : goal.overflow_mul-q
overflow_mul-q c = omega (arith, known (goal.at.overflow_mul-q c).After-quotient-q)

pub overflow_add-t-2 : goal.overflow_add-t-2
overflow_add-t-2 c = omega (arith, known (goal.at.overflow_add-t-2 c).After-quotient-q, whole (goal.at.overflow_add-t-2 c).After-whole_root-s)

pub overflow_add-result : goal.overflow_add-result
overflow_add-result c = omega (arith, known (goal.at.overflow_add-result c).After-quotient-q, whole (goal.at.overflow_add-result c).After-whole_root-s)

pub returns-then-t-q : goal.returns-then-t-q
returns-then-t-q c = up _ _ _ (known (goal.at.returns-then-t-q c).After-quotient-q) c.if-t-q.true

pub returns : goal.returns
returns c = down _ _ _ (known (goal.at.returns c).After-quotient-q) c.if-t-q.false
