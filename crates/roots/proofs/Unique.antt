-- Of two f64s that are each the nearest to x's root, neither is below the other; hence `root-unique` (Roots.antt). Assumes nothing.
use Prim.Native.Nat.{ℕ, ◌+◌, ◌*◌, ◌<◌}
use native.Mathlib.Omega.{arith}
use mathlib.Core.Bool.{false}
use lib.IntN.{ℤ}
use lib.Ieee.{Float, fin, up, down}
use lib.Ieee.Positive.{num, den}
use Rattle.roots.specs.Root.{Root, MidBelow, MidAbove}

opposed : (x : Float) (n n' : ℕ) (d d' : ℤ) → MidBelow x (fin false n d) (fin false n' d') → MidAbove x (fin false n' d') (fin false n d) → ⊥
opposed x n n' d d' a b = at (num x) (den x) (n * up d) (down d) (n' * up d') (down d') a b
  where
    at : (a A b B c C : ℕ) → (b * C + c * B) * (b * C + c * B) * A < 4 * a * (B * C * (B * C)) → 4 * a * (C * B * (C * B)) < (c * B + b * C) * (c * B + b * C) * A → ⊥
    at a A b B c C p q = omega arith

pub unique : (x : Float) (n n' : ℕ) (d d' : ℤ) → Root x (fin false n d) → Root x (fin false n' d') → n * up d * down d' < n' * up d' * down d → ⊥
unique x n n' d d' r r' h = opposed x n n' d d' (r'.less n d r.held h) (r.more n' d' r'.held h)
