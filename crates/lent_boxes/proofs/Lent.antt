-- Boxes that are lent: they are gone through where they lie. w is what the whole comes to. Assumes nothing.
use mathlib.Core.Path.{◌≡◌, refl, ap}
use mathlib.Core.Bool.{Bool, ◌&&◌}
use mathlib.Core.List.{List, [], ◌∷◌}
use Prim.Native.Nat.{ℕ, zero, suc, ◌+◌, ◌-◌, ◌≤◌, ◌<◌}
use native.Mathlib.Omega.{arith}
use lib.ListN.{length, get_or}
use lib.Ieee.{Float}
use Rattle.std.specs.List.{list_all, range_with_len}
use Rattle.base.specs.Loop.{listed}
use Rattle.floats.specs.Numbers.{zero64}
use Rattle.boxes.specs.declared.Aabb.{Aabb}
use Rattle.boxes.specs.Boxes.{vec, box}
use Rattle.boxes.specs.Limits.{is_box, are_boxes}
use Rattle.sweeps.specs.Move.{clip_all}
use Rattle.tables.proofs.Lists.{get_d_any}
use Rattle.movers.specs.Movers.{aabb_at}
use Rattle.lent_boxes.specs.Boxes.{boxes_in, lent_count, at_most, first_boxes}

-- boxes that are all there
pub all_there : (n : ℕ) (l : List Float) → n ≤ lent_count l → first_boxes n l ≡ boxes_in l n
all_there n l h = let e : at_most n l ≡ n = omega arith in ap (boxes_in l) e

-- a box whose last number is there, and so all of them
pub whole-box : (l : List Float) (i : ℕ) (d : Float) → i + 5 < length l
    → box (vec (get_or l i d) (get_or l (i + 1) d) (get_or l (i + 2) d)) (vec (get_or l (i + 3) d) (get_or l (i + 4) d) (get_or l (i + 5) d)) ≡ aabb_at l i
whole-box l i d h =
    let n0 = get_d_any l i d zero64 (omega arith) in
    let n1 = get_d_any l (i + 1) d zero64 (omega arith) in
    let n2 = get_d_any l (i + 2) d zero64 (omega arith) in
    let n3 = get_d_any l (i + 3) d zero64 (omega arith) in
    let n4 = get_d_any l (i + 4) d zero64 (omega arith) in
    let n5 = get_d_any l (i + 5) d zero64 (omega arith) in
    let k4 : i + 3 + 1 ≡ i + 4 = omega arith in
    let k5 : i + 3 + 2 ≡ i + 5 = omega arith in
    rw (k4, k5, n0, n1, n2, n3, n4, n5)

module _ (g : ℕ → Aabb) (n i : ℕ) where
  one_more : i < n → listed g (n - i) i ≡ g i ∷ listed g (n - (i + 1)) (i + 1)
  unfolding listed
  one_more h = let q : n - i ≡ suc (n - (i + 1)) = omega arith in rw q

  no_more : n ≤ i → listed g (n - i) i ≡ []
  unfolding listed
  no_more h = let q : n - i ≡ 0 = omega arith in rw q

  -- a box of a pass, which comes to e, and the end of a pass
  module _ (clip : Aabb → Aabb → Float → Float) (mover : Aabb) where
    pub clip-turn : (b : Aabb) (d e w : Float) → i < n → b ≡ g i → e ≡ clip b mover d → clip_all clip (listed g (n - i) i) mover d ≡ w → clip_all clip (listed g (n - (i + 1)) (i + 1)) mover e ≡ w
    unfolding clip_all
    clip-turn b d e w h eb ee inv = let t = rw (one_more h) at inv in rw (ee, eb) t

    pub clip-end : (d w : Float) → n ≤ i → clip_all clip (listed g (n - i) i) mover d ≡ w → d ≡ w
    unfolding clip_all
    clip-end d w h inv = rw (no_more h) at inv

-- whether they are boxes, as the library asks of each
pub all-listed : (g : ℕ → Aabb) (n i : ℕ) → list_all (λ k. is_box (g k)) (range_with_len i n) ≡ are_boxes (listed g n i)
unfolding are_boxes listed
all-listed g zero i = refl
all-listed g (suc n) i = ap (λ (t : Bool). is_box (g i) && t) (all-listed g n (i + 1))
