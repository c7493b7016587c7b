-- How many groups and words there are in a window that passes its check, and which group is number i of them. Assumes nothing.
use mathlib.Core.Path.{◌≡◌, subst}
use Prim.Native.Nat.{ℕ, ◌+◌, ◌*◌, ◌/◌, ◌≤◌, ◌<◌}
use native.Mathlib.Nat.{mul-le-mul, mod-lt, div-lt_iff_lt-mul}
use native.Mathlib.Omega.{arith}
use mir.Syntax.{w8, w32}
use mir.Val.{Fits}
use Rattle.window.specs.declared.Sizes.{Sizes}
use Rattle.window.proofs.Check.{AllSmall, cell-count, column-count}
use Rattle.group_words.proofs.Cells.{Near}
use Rattle.groups.specs.Groups.{groups_on, group_count, group_at}
use Rattle.groups.specs.Summary.{words_before}

pub few : (n : ℕ) → n ≤ 64 → groups_on n ≤ 16
few n h = omega arith

pub byte-groups : (n : ℕ) → n ≤ 64 → Fits w8 (groups_on n)
byte-groups n h = record { fits = omega arith }

pub some-on : (n : ℕ) → 1 ≤ n → 0 < groups_on n
some-on n h = omega arith

module _ (s : Sizes) (k : AllSmall s) where
  pub layer-groups : groups_on s.x * groups_on s.y ≤ 256
  layer-groups = mul-le-mul {n₂ = 16} {m₂ = 16} (few s.x k.x.high) (few s.y k.y.high)

  pub all-groups : group_count s ≤ 4096
  all-groups = mul-le-mul {n₂ = 256} {m₂ = 16} layer-groups (few s.z k.z.high)

  pub all_words : words_before s ≤ 266240
  all_words = let a = cell-count s k in let b = column-count s k in omega arith

below : {a b c : ℕ} → a < b → b ≤ c → a < c
below h l = omega arith

-- the group that is number i lies among them
module _ (s : Sizes) (k : AllSmall s) (i : ℕ) (h : i < group_count s) where
  pub at_x : (group_at s i).x < groups_on s.x
  at_x = mod-lt i (some-on s.x k.x.low)

  pub at-z : (group_at s i).z < groups_on s.z
  at-z = mod-lt (i / groups_on s.x) (some-on s.z k.z.low)

  turned : (x y z : ℕ) → x * y * z ≡ y * z * x
  turned x y z = omega arith

  pub at_y : (group_at s i).y < groups_on s.y
  at_y =
      (div-lt_iff_lt-mul (some-on s.z k.z.low)).1
      ((div-lt_iff_lt-mul (some-on s.x k.x.low)).1
      (subst (λ (n : ℕ). i < n) (turned (groups_on s.x) (groups_on s.y) (groups_on s.z)) h))

  pub at-near : Near (group_at s i)
  at-near = record { x = below at_x (few s.x k.x.high); y = below at_y (few s.y k.y.high); z = below at-z (few s.z k.z.high) }

-- ---- where the words of a summary stand
pub word_fits : (s : Sizes) → AllSmall s → (at n i : ℕ) → at ≡ words_before s → n ≡ group_count s → i < n → Fits w32 (at + i)
word_fits s k at n i e f h = let a = all-groups s k in let b = all_words s k in record { fits = omega arith }

-- ---- where a group's word stands
module _ (s : Sizes) (small : AllSmall s) (gx gy gz across deep : ℕ) (hx : gx < 16) (hy : gy < 16) (hz : gz < 16) (ea : across ≡ groups_on s.x) (ed : deep ≡ groups_on s.z) where
  wide : across ≤ 16
  wide = let k = few s.x small.x.high in omega arith

  rows : gy * deep ≤ 256
  rows = let k = few s.z small.z.high in mul-le-mul {n₂ = 16} {m₂ = 16} (omega arith) (omega arith)

  index : (gy * deep + gz) * across ≤ 4352
  index = let r = rows in mul-le-mul {n₂ = 272} {m₂ = 16} (omega arith) wide

  pub rows_fit : Fits w32 (gy * deep)
  rows_fit = let r = rows in record { fits = omega arith }

  pub row_fits : Fits w32 (gy * deep + gz)
  row_fits = let r = rows in record { fits = omega arith }

  pub line-fits : Fits w32 ((gy * deep + gz) * across)
  line-fits = let r = index in record { fits = omega arith }

  pub index-fits : Fits w32 ((gy * deep + gz) * across + gx)
  index-fits = let r = index in record { fits = omega arith }

  pub place-fits : (n : ℕ) → n ≡ words_before s → Fits w32 (n + ((gy * deep + gz) * across + gx))
  place-fits n e = let r = index in let m = all_words s small in record { fits = omega arith }
