-- A move over any list of boxes: what must be known at the start (`Start`), and what then holds at the end of each box of the list (`from_start`) and of
-- any box that the swept area does not overlap (`from-start-aside`). Assumes nothing.
use mathlib.Core.Path.{◌≡◌, refl, sym, subst}
use mathlib.Core.Bool.{Bool, true, false, ◌&&◌}
use mathlib.Core.List.{List, [], ◌∷◌, Memᴰ}
use Prim.Native.Nat.{ℕ, zero, suc, ◌+◌, ◌*◌, ◌^◌, ◌≤◌, ◌<◌}
use native.Mathlib.Omega.{arith}
use lib.IntN.{ℤ, pos}
use lib.Dec.{T, lit<, lit≤}
use lib.Ieee.{Float, nan, inf, fin, binary64, le, fits}
use lib.Ieee.Fits.{and_l, and_r}
use Rattle.base.specs.Choose.{choose}
use Rattle.floats.specs.Numbers.{zero64, is_within_limit, size_of}
use Rattle.boxes.specs.declared.Vec3.{Vec3}
use Rattle.boxes.specs.declared.Aabb.{Aabb}
use Rattle.boxes.specs.Boxes.{vec, expand_towards}
use Rattle.boxes.specs.Limits.{two_to, are_within, sides_of, is_box, is_delta, is_step}
use Rattle.sweeps.specs.Move.{move_over}
use Rattle.off_grid.specs.Scaled.{tight_units, is_slight}
use Rattle.off_grid.specs.Demand.{vec_f64, box_f64, TypedMove}
use Rattle.base.proofs.Scaled.{scaled_size, over, under, Real, Within, widen, zero-real, zero-over, zero-under}
use Rattle.off_grid.proofs.Axis.{unit, le→, All}
use Rattle.off_grid.proofs.Passes.{BoxIn, VecIn, Clear}
use Rattle.off_grid.proofs.Sequence.{moved}
use Rattle.off_grid.proofs.Sweep.{Area, area-is, moved_in, outside-clear}
use Rattle.off_grid.proofs.Whole.{clear-slight}

-- 1, in units
unfoldable pub one : ℕ
one = 2 ^ 1074

pub one-units : one ≡ 268435456 * unit
unfolding one unit
one-units = refl

-- ---- from the tests to the facts
size_fits : (s : Bool) (m : ℕ) (e : ℤ) → T (fits binary64 (fin s m e)) → T (fits binary64 (fin false m e))
unfolding fits
size_fits s zero e t = t
size_fits s (suc m) e t = t

within : (x limit : Float) (r : ℕ) → T (fits binary64 x) → Real limit → over limit ≡ r → under limit ≡ 0 → T (is_within_limit x limit) → Within x r
unfolding choose size_of over under scaled_size
within nan limit r f L z w t = absurd t
within (inf s) limit r f L z w t = absurd t
within (fin false m e) limit r f L z w t =
    let h = le→ (record { fit = f; finite = tt }) L t in
    record { real = record { fit = f; finite = tt }; high = omega arith; low = omega arith }
within (fin true m e) limit r f L z w t =
    let h = le→ (record { fit = size_fits true m e f; finite = tt }) L t in
    record { real = record { fit = f; finite = tt }; high = omega arith; low = omega arith }

-- a limit, in units
record Limit (limit : Float) (r : ℕ) : Type 0 where
  real : Real limit
  above : over limit ≡ r
  below : under limit ≡ 0

corner : Limit (two_to 25) (33554432 * one)
unfolding fits over under scaled_size one
corner = record { real = record { fit = tt; finite = tt }; above = refl; below = refl }

longest : Limit (two_to 7) (128 * one)
unfolding fits over under scaled_size one
longest = record { real = record { fit = tt; finite = tt }; above = refl; below = refl }

highest : Limit (two_to 2) (4 * one)
unfolding fits over under scaled_size one
highest = record { real = record { fit = tt; finite = tt }; above = refl; below = refl }

vec_in : (v : Vec3) (limit : Float) (r : ℕ) → Limit limit r → T (vec_f64 v) → T (are_within v limit) → VecIn r v
vec_in v limit r L f t =
    let f' = and_r (fits binary64 v.x) (fits binary64 v.y && fits binary64 v.z) f in
    let t' = and_r (is_within_limit v.x limit) (is_within_limit v.y limit && is_within_limit v.z limit) t in
    record {
      x = at v.x (and_l (fits binary64 v.x) (fits binary64 v.y && fits binary64 v.z) f) (and_l (is_within_limit v.x limit) (is_within_limit v.y limit && is_within_limit v.z limit) t);
      y = at v.y (and_l (fits binary64 v.y) (fits binary64 v.z) f') (and_l (is_within_limit v.y limit) (is_within_limit v.z limit) t');
      z = at v.z (and_r (fits binary64 v.y) (fits binary64 v.z) f') (and_r (is_within_limit v.y limit) (is_within_limit v.z limit) t');
    }
  where
    at : (x : Float) → T (fits binary64 x) → T (is_within_limit x limit) → Within x r
    at x f t = within x limit r f L.real L.above L.below t

-- a box within document 01's limits
pub box_in : (b : Aabb) → T (box_f64 b) → T (is_box b) → BoxIn (33554432 * one) b
box_in b f t =
    let t' = and_r (are_within b.min (two_to 25)) (are_within b.max (two_to 25) && sides_of b) t in
    let l = vec_in b.min (two_to 25) (33554432 * one) corner (and_l (vec_f64 b.min) (vec_f64 b.max) f) (and_l (are_within b.min (two_to 25)) (are_within b.max (two_to 25) && sides_of b) t) in
    let h = vec_in b.max (two_to 25) (33554432 * one) corner (and_r (vec_f64 b.min) (vec_f64 b.max) f) (and_l (are_within b.max (two_to 25)) (sides_of b) t') in
    record { x0 = l.x; y0 = l.y; z0 = l.z; x1 = h.x; y1 = h.y; z1 = h.z }

-- a step height: from 0, and no longer than a delta
pub record Height (h : Float) : Type 0 where
  pub in-limit : Within h (128 * one)
  pub up : under h ≤ over h

height : (h : Float) → T (fits binary64 h) → T (is_step h) → Height h
height h f t =
    let w : Within h (4 * one) = within h (two_to 2) (4 * one) f highest.real highest.above highest.below (and_l (is_within_limit h (two_to 2)) (le zero64 h) t) in
    let u = le→ zero-real w.real (and_r (is_within_limit h (two_to 2)) (le zero64 h) t) in
    let a = zero-over in
    let b = zero-under in
    record { in-limit = widen (omega arith) w; up = omega arith }

-- ---- what is known of the mover at the start, and of the boxes: they may reach to 2 ^ 26 and 4 more
pub record Mover (a : Aabb) (d : Vec3) (h : Float) : Type 0 where
  pub box : BoxIn (33554432 * one) a
  pub delta : VecIn (128 * one) d
  pub step : Height h

pub mover : (a : Aabb) (d : Vec3) (h : Float) → TypedMove a d h → T (is_box a) → T (is_delta d) → T (is_step h) → Mover a d h
mover a d h F B D S = record { box = box_in a F.box B; delta = vec_in d (two_to 7) (128 * one) longest F.way D; step = height h F.step S }

pub record Start (bs : List Aabb) (a : Aabb) (d : Vec3) (h : Float) : Type 0 where
  pub mover : Mover a d h
  pub boxes : All (BoxIn (67108868 * one)) bs
  pub free : All (Clear 0 0 0 0 a) bs

wide : 67108868 * one + (33554432 * one + 4 * (128 * one) + 4 * unit) < 2 ^ 55 * unit
unfolding one unit
wide = lit< tt

near : 33554432 * one + 4 * (128 * one) + 4 * unit < 2 ^ 54 * unit
unfolding one unit
near = lit< tt

among : (P : Aabb → Type 0) (b : Aabb) (bs : List Aabb) → All P bs → Memᴰ b bs → P b
among P b bs h (Memᴰ.head e) = subst P (sym e) h.0
among P b bs h (Memᴰ.tail {xs = xs} m) = among P b xs h.1 m

pub all_of : (P : Aabb → Type 0) (bs : List Aabb) (b : Aabb) → All P bs → Memᴰ b bs → P b
all_of P bs b h m = among P b bs h m

pub all_from : (P : Aabb → Type 0) (bs : List Aabb) → ((b : Aabb) → Memᴰ b bs → P b) → All P bs
all_from P [] h = tt
all_from P (b ∷ bs) h = (h b (Memᴰ.head refl), all_from P bs (λ o n. h o (Memᴰ.tail n)))

-- the area that a move sweeps
abbrev pub swept_by : Aabb → Vec3 → Float → Aabb
swept_by a d h = expand_towards (expand_towards a d) (vec zero64 h zero64)

-- ---- at the end, for a bound that three units do not pass
module _ (k : ℕ) (K : 3 * unit ≤ k) (bs : List Aabb) (a : Aabb) (d : Vec3) (h : Float) (grounded : Bool) (s : Start bs a d h) where
  pub from_start : (b : Aabb) → Memᴰ b bs → T (is_slight (pos k) (move_over bs a d h grounded).aabb b)
  from_start b m =
      clear-slight k K (move_over bs a d h grounded).aabb b
      (all_of (Clear (3 * unit) (3 * unit) (3 * unit) (3 * unit) (move_over bs a d h grounded).aabb) bs b
      (moved bs a (67108868 * one) (33554432 * one) (128 * one) s.boxes s.mover.box s.free wide near d h grounded s.mover.delta s.mover.step.in-limit s.mover.step.up) m)

  pub from-start-aside : (b : Aabb) → Clear 0 0 0 0 (swept_by a d h) b → T (is_slight (pos k) (move_over bs a d h grounded).aabb b)
  from-start-aside b c =
      clear-slight k K (move_over bs a d h grounded).aabb b
      (outside-clear (swept_by a d h) (move_over bs a d h grounded).aabb b
      (moved_in bs a (67108868 * one) (33554432 * one) (128 * one) s.boxes s.mover.box s.free wide near d h s.mover.delta s.mover.step.in-limit s.mover.step.up grounded) c)

-- the ends of the swept area
pub swept-in : (a : Aabb) (d : Vec3) (h : Float) → Mover a d h → Area (33554432 * one + 128 * one + unit + 128 * one + unit) a d h (swept_by a d h)
swept-in a d h s = area-is [] a 0 (33554432 * one) (128 * one) tt s.box tt wide-none near d h s.delta s.step.in-limit s.step.up
  where
    wide-none : 0 + (33554432 * one + 4 * (128 * one) + 4 * unit) < 2 ^ 55 * unit
    wide-none = let w = wide in omega arith

-- ---- the two bounds
pub tight : 3 * unit ≤ tight_units
unfolding unit
tight = lit≤ tt

pub loose : 3 * unit ≤ 2 ^ 1048
unfolding unit
loose = lit≤ tt
