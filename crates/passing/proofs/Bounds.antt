-- What the program works out of a reach fits its types. Assumes nothing.
use mathlib.Core.Path.{◌≡◌, sym, ap, ◌∙◌}
use mathlib.Core.Bool.{true, ◌&&◌}
use Prim.Native.Nat.{ℕ, ◌+◌, ◌-◌, ◌/◌, ◌≤◌, ◌<◌}
use native.Mathlib.Omega.{arith}
use lib.Dec.{ltb}
use mir.Syntax.{w8}
use mir.Val.{Fits}
use borrow.Author.Tests.{ltb-true}
use Rattle.base.proofs.Every.{both}
use Rattle.window.specs.declared.Sizes.{Sizes}
use Rattle.window.proofs.Check.{AllSmall, sizes-small}
use Rattle.groups.specs.declared.Place.{Place}
use Rattle.std.specs.Prelude.{Option, Some}
use Rattle.groups.specs.declared.Layout.{Layout}
use Rattle.groups.specs.Places.{Laid, layout_of, layout_seen}
use Rattle.passing.specs.Passing.{spans}
use Rattle.passing.proofs.Clear.{layout-fits}

-- ---- the groups of a place in a window that fits are few
quarter : (n m : ℕ) → n < m → m ≤ 64 → Fits w8 (n / 4)
quarter n m h k = record { fits = omega arith }

stretch : (a b m n : ℕ) → b < m → m ≤ 64 → n ≡ b / 4 + 1 - a / 4 → Fits w8 n
stretch a b m n h k e = record { fits = omega arith }

module _ (s : Sizes) (o : Option Layout) (l : Layout) (a b : Place) (told : layout_seen o ≡ layout_of s) (is : o ≡ Some l) (g : spans s a b ≡ true) where
  small : AllSmall s
  small = sizes-small s (layout-fits s (ap (λ (k : Laid). k.fits) (sym told ∙ ap layout_seen is)))

  ends : (ltb a.x s.x && ltb b.x s.x && ltb a.z s.z ≡ true) × (ltb b.z s.z ≡ true)
  ends = let k = both (ltb a.x s.x && ltb b.x s.x && ltb a.z s.z) (ltb b.z s.z) g in (k.one, k.two)

  pub first-x : Fits w8 (a.x / 4)
  first-x =
      let k = both (ltb a.x s.x && ltb b.x s.x) (ltb a.z s.z) ends.0 in
      quarter a.x s.x (ltb-true a.x s.x (both (ltb a.x s.x) (ltb b.x s.x) k.one).one) small.x.high

  pub first-z : Fits w8 (a.z / 4)
  first-z =
      let k = both (ltb a.x s.x && ltb b.x s.x) (ltb a.z s.z) ends.0 in
      quarter a.z s.z (ltb-true a.z s.z k.two) small.z.high

  pub across-x : (n : ℕ) → n ≡ b.x / 4 + 1 - a.x / 4 → Fits w8 n
  across-x n e =
      let k = both (ltb a.x s.x && ltb b.x s.x) (ltb a.z s.z) ends.0 in
      stretch a.x b.x s.x n (ltb-true b.x s.x (both (ltb a.x s.x) (ltb b.x s.x) k.one).two) small.x.high e

  pub across-z : (n : ℕ) → n ≡ b.z / 4 + 1 - a.z / 4 → Fits w8 n
  across-z n e = stretch a.z b.z s.z n (ltb-true b.z s.z ends.1) small.z.high e
