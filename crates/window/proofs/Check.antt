-- What a window that passes its check keeps to. Assumes nothing.
use mathlib.Core.Path.{◌≡◌, refl, sym, ◌∙◌}
use mathlib.Core.Bool.{Bool, true, false, ◌&&◌}
use Prim.Native.Nat.{ℕ, ◌*◌, ◌≤◌}
use native.Mathlib.Nat.{mul-le-mul}
use lib.Dec.{leb, leb-suc-suc}
use lib.IntN.{ℤ, pos, negsuc}
use lib.Signed.{le_z}
use borrow.Author.Tests.{leb-true}
use Rattle.base.proofs.Every.{both}
use Rattle.window.specs.declared.Sizes.{Sizes}
use Rattle.window.specs.Window.{size_is_fit, sizes_fit, coordinate_fits}

and_yes : (b : Bool) → (b && true) ≡ b
and_yes true = refl
and_yes false = refl

-- a size of at most 2^25, by two comparisons
pub fits_by : (c : ℤ) → (le_z (negsuc 33554431) c && le_z c (pos 33554432)) ≡ coordinate_fits c
unfolding coordinate_fits
fits_by (pos n) = refl
fits_by (negsuc n) = and_yes (leb n 33554431) ∙ sym (leb-suc-suc n 33554431)

pub record Small (n : ℕ) : Type 0 where
  pub low : 1 ≤ n
  pub high : n ≤ 64

size_small : (n : ℕ) → size_is_fit n ≡ true → Small n
size_small n e = let k = both (leb 1 n) (leb n 64) e in record { low = leb-true 1 n k.one; high = leb-true n 64 k.two }

pub record AllSmall (s : Sizes) : Type 0 where
  pub x : Small s.x
  pub y : Small s.y
  pub z : Small s.z

pub sizes-small : (s : Sizes) → sizes_fit s ≡ true → AllSmall s
unfolding sizes_fit
sizes-small s e =
    let xyz = both (size_is_fit s.x && size_is_fit s.y) (size_is_fit s.z) e in
    let xy = both (size_is_fit s.x) (size_is_fit s.y) xyz.one in
    record { x = size_small s.x xy.one; y = size_small s.y xy.two; z = size_small s.z xyz.two }

pub layer-count : (s : Sizes) → AllSmall s → s.x * s.y ≤ 4096
layer-count s k = mul-le-mul {n₂ = 64} {m₂ = 64} k.x.high k.y.high

pub cell-count : (s : Sizes) → AllSmall s → s.x * s.y * s.z ≤ 262144
cell-count s k = mul-le-mul {n₂ = 4096} {m₂ = 64} (layer-count s k) k.z.high

pub column-count : (s : Sizes) → AllSmall s → s.x * s.z ≤ 4096
column-count s k = mul-le-mul {n₂ = 64} {m₂ = 64} k.x.high k.z.high
