-- The passes of a move over a list: three of an attempt, and four of a step-up. Assumes nothing.
use mathlib.Core.Path.{◌≡◌, refl, subst}
use mathlib.Core.Bool.{Bool, true, false}
use mathlib.Core.List.{List}
use Prim.Native.Nat.{ℕ, ◌+◌, ◌*◌, ◌^◌, ◌≤◌, ◌<◌}
use native.Mathlib.Nat.{lt_of_le_of_lt}
use native.Mathlib.Omega.{arith}
use lib.Ieee.{Float, neg, lt}
use Rattle.base.specs.Choose.{choose}
use Rattle.floats.specs.Numbers.{zero64}
use Rattle.boxes.specs.declared.Vec3.{Vec3}
use Rattle.boxes.specs.declared.Aabb.{Aabb}
use Rattle.sweeps.specs.declared.Swept.{Swept}
use Rattle.boxes.specs.Boxes.{vec, offset_by, clip_x, clip_y, clip_z}
use Rattle.sweeps.specs.Move.{clip_all, clip_sequence, stepped_up, flat_square, tries_step, move_over}
use Rattle.base.proofs.Scaled.{over, under, Real, Within, zero_in, neg-over, neg-under, neg-within}
use Rattle.off_grid.proofs.Axis.{unit, Way, fore, back, Stops, All, all_map, all-map3, Course, clips, land, rise, sink}
use Rattle.off_grid.proofs.Passes.{Trail, trail, BoxIn, Offset, VecIn, offset, offset-in, ShortY, Clear, beside_x, beside_y, beside_z, pass-x, pass-y, pass-z}

way_in : {d w : Float} {t : ℕ} → Within d t → Real w → Way d w → Within w t
way_in D W (fore a b) = let h = D.high in record { real = W; high = omega arith; low = omega arith }
way_in D W (back a b) = let h = D.low in record { real = W; high = omega arith; low = omega arith }

-- ---- a pass: boxes of size r, a mover of size q, a way of size t
pub record Passed (d w : Float) (q t : ℕ) (c : Aabb) : Type 0 where
  pub way : Way d w
  pub within : Within w t
  pub box : BoxIn (q + t + unit) c

module _ (bs : List Aabb) (a : Aabb) (d : Float) (r q t : ℕ) (B : All (BoxIn r) bs) (A : BoxIn q a) (D : Within d t) (S : r + q < 2 ^ 55 * unit) (S' : q + t < 2 ^ 54 * unit) where
  course-x : Course (λ b. b.min.x) (λ b. b.max.x) (beside_x a) a d (clip_all clip_x bs a d) bs
  course-x =
      clips clip_x (λ b. b.min.x) (λ b. b.max.x) (beside_x a) a (λ b e. refl) r q A.x0 A.x1 S bs d
      (all_map (λ (b : Aabb) (h : BoxIn r b). record { lo = h.x0; hi = h.x1 }) bs B) D.real

  course-y : Course (λ b. b.min.y) (λ b. b.max.y) (beside_y a) a d (clip_all clip_y bs a d) bs
  course-y =
      clips clip_y (λ b. b.min.y) (λ b. b.max.y) (beside_y a) a (λ b e. refl) r q A.y0 A.y1 S bs d
      (all_map (λ (b : Aabb) (h : BoxIn r b). record { lo = h.y0; hi = h.y1 }) bs B) D.real

  course-z : Course (λ b. b.min.z) (λ b. b.max.z) (beside_z a) a d (clip_all clip_z bs a d) bs
  course-z =
      clips clip_z (λ b. b.min.z) (λ b. b.max.z) (beside_z a) a (λ b e. refl) r q A.z0 A.z1 S bs d
      (all_map (λ (b : Aabb) (h : BoxIn r b). record { lo = h.z0; hi = h.z1 }) bs B) D.real

  way-x : Within (clip_all clip_x bs a d) t
  way-x = way_in D course-x.real course-x.way

  way-y : Within (clip_all clip_y bs a d) t
  way-y = way_in D course-y.real course-y.way

  way-z : Within (clip_all clip_z bs a d) t
  way-z = way_in D course-z.real course-z.way

  vec-x : VecIn t (vec (clip_all clip_x bs a d) zero64 zero64)
  vec-x = record { x = way-x; y = zero_in t; z = zero_in t }

  vec-y : VecIn t (vec zero64 (clip_all clip_y bs a d) zero64)
  vec-y = record { x = zero_in t; y = way-y; z = zero_in t }

  vec-z : VecIn t (vec zero64 zero64 (clip_all clip_z bs a d))
  vec-z = record { x = zero_in t; y = zero_in t; z = way-z }

  off-x : Offset a (vec (clip_all clip_x bs a d) zero64 zero64) (offset_by a (vec (clip_all clip_x bs a d) zero64 zero64))
  off-x = offset a (vec (clip_all clip_x bs a d) zero64 zero64) q t A vec-x S'

  pub off-y : Offset a (vec zero64 (clip_all clip_y bs a d) zero64) (offset_by a (vec zero64 (clip_all clip_y bs a d) zero64))
  off-y = offset a (vec zero64 (clip_all clip_y bs a d) zero64) q t A vec-y S'

  off-z : Offset a (vec zero64 zero64 (clip_all clip_z bs a d)) (offset_by a (vec zero64 zero64 (clip_all clip_z bs a d)))
  off-z = offset a (vec zero64 zero64 (clip_all clip_z bs a d)) q t A vec-z S'

  passed-x : Passed d (clip_all clip_x bs a d) q t (offset_by a (vec (clip_all clip_x bs a d) zero64 zero64))
  passed-x = record { way = course-x.way; within = way-x; box = offset-in A vec-x off-x }

  pub passed-y : Passed d (clip_all clip_y bs a d) q t (offset_by a (vec zero64 (clip_all clip_y bs a d) zero64))
  passed-y = record { way = course-y.way; within = way-y; box = offset-in A vec-y off-y }

  passed-z : Passed d (clip_all clip_z bs a d) q t (offset_by a (vec zero64 zero64 (clip_all clip_z bs a d)))
  passed-z = record { way = course-z.way; within = way-z; box = offset-in A vec-z off-z }

  clear-x : (y y' z : ℕ) → All (Clear 0 y y' z a) bs → All (Clear (3 * unit) y y' z (offset_by a (vec (clip_all clip_x bs a d) zero64 zero64))) bs
  clear-x y y' z C =
      all-map3 (λ b h i j. pass-x a (offset_by a (vec (clip_all clip_x bs a d) zero64 zero64)) b (clip_all clip_x bs a d) 0 y y' z A h off-x i j) bs B course-x.stops C

  clear-z : (x y y' : ℕ) → All (Clear x y y' 0 a) bs → All (Clear x y y' (3 * unit) (offset_by a (vec zero64 zero64 (clip_all clip_z bs a d)))) bs
  clear-z x y y' C =
      all-map3 (λ b h i j. pass-z a (offset_by a (vec zero64 zero64 (clip_all clip_z bs a d))) b (clip_all clip_z bs a d) x y y' 0 A h off-z i j) bs B course-z.stops C

  abbrev Own : ℕ → ℕ → ℕ → ℕ → Type 0
  Own e e' y y' =
      (b : Aabb) → Stops b.min.y b.max.y a.min.y a.max.y (clip_all clip_y bs a d) → ShortY a b e e'
      → ShortY (offset_by a (vec zero64 (clip_all clip_y bs a d) zero64)) b y y'

  clear-y : (x z e e' y y' : ℕ) → Own e e' y y' → All (Clear x e e' z a) bs → All (Clear x y y' z (offset_by a (vec zero64 (clip_all clip_y bs a d) zero64))) bs
  clear-y x z e e' y y' own C =
      all-map3 (λ b h i j. pass-y a (offset_by a (vec zero64 (clip_all clip_y bs a d) zero64)) b (clip_all clip_y bs a d) x y y' z A h off-y i (own b) j) bs B course-y.stops C

  -- the three kinds of pass along y
  land-y : Own 0 0 (3 * unit) (3 * unit)
  land-y b s h = land s off-y.y0 off-y.y1 h

  rise-y : under (clip_all clip_y bs a d) ≤ over (clip_all clip_y bs a d) → Own 0 0 (3 * unit) 0
  rise-y u b s h = rise s off-y.y0 off-y.y1 u h

  sink-y : over (clip_all clip_y bs a d) ≤ under (clip_all clip_y bs a d) → Own (3 * unit) 0 (3 * unit) (3 * unit)
  sink-y u b s h = sink s off-y.y0 off-y.y1 u h

pub not-down : {d w : Float} → under d ≤ over d → Way d w → under w ≤ over w
not-down u (fore h k) = h
not-down u (back h k) = omega arith

pub not-up : {d w : Float} → over d ≤ under d → Way d w → over w ≤ under w
not-up u (fore h k) = omega arith
not-up u (back h k) = h

-- ---- an attempt: y, then x, then z
pub record Done (bs : List Aabb) (a : Aabb) (q t y' : ℕ) (d : Vec3) (s : Swept) : Type 0 where
  pub box : BoxIn (q + 3 * t + 3 * unit) s.aabb
  pub way-x : Way d.x s.moved.x
  pub way-y : Way d.y s.moved.y
  pub way-z : Way d.z s.moved.z
  pub within : Within s.moved.y t
  pub gone : Trail a s.moved s.aabb
  pub clear : All (Clear (3 * unit) (3 * unit) y' (3 * unit) s.aabb) bs

box-same : {q q' : ℕ} {b : Aabb} → q ≡ q' → BoxIn q b → BoxIn q' b
box-same {b = b} e h = subst (λ (z : ℕ). BoxIn z b) e h

module _ (bs : List Aabb) (a : Aabb) (r q t : ℕ) (B : All (BoxIn r) bs) (A : BoxIn q a) (C : All (Clear 0 0 0 0 a) bs)
    (S : r + (q + 4 * t + 4 * unit) < 2 ^ 55 * unit) (S' : q + 4 * t + 4 * unit < 2 ^ 54 * unit) where
  abbrev after_y : Vec3 → Aabb
  after_y d = offset_by a (vec zero64 (clip_all clip_y bs a d.y) zero64)

  attempt : (d : Vec3) (y' : ℕ) → VecIn t d → (All (Clear 0 0 0 0 a) bs → All (Clear 0 (3 * unit) y' 0 (after_y d)) bs) → Done bs a q t y' d (clip_sequence bs a d)
  unfolding clip_sequence
  attempt d y' D own =
      let c1 : Aabb = after_y d in
      let p1 : Passed d.y (clip_all clip_y bs a d.y) q t c1 =
      passed-y bs a d.y r q t B A D.y (lt_of_le_of_lt (w0 r q t unit) S) (lt_of_le_of_lt (v0 q t unit) S') in
      let c2 : Aabb = offset_by c1 (vec (clip_all clip_x bs c1 d.x) zero64 zero64) in
      let S1 : r + (q + t + unit) < 2 ^ 55 * unit = lt_of_le_of_lt (w1 r q t unit) S in
      let S1' : q + t + unit + t < 2 ^ 54 * unit = lt_of_le_of_lt (v1 q t unit) S' in
      let p2 : Passed d.x (clip_all clip_x bs c1 d.x) (q + t + unit) t c2 = passed-x bs c1 d.x r (q + t + unit) t B p1.box D.x S1 S1' in
      let k2 : All (Clear (3 * unit) (3 * unit) y' 0 c2) bs = clear-x bs c1 d.x r (q + t + unit) t B p1.box D.x S1 S1' (3 * unit) y' 0 (own C) in
      let S2 : r + (q + t + unit + t + unit) < 2 ^ 55 * unit = lt_of_le_of_lt (w2 r q t unit) S in
      let S2' : q + t + unit + t + unit + t < 2 ^ 54 * unit = lt_of_le_of_lt (v2 q t unit) S' in
      let p3 = passed-z bs c2 d.z r (q + t + unit + t + unit) t B p2.box D.z S2 S2' in
      let k3 = clear-z bs c2 d.z r (q + t + unit + t + unit) t B p2.box D.z S2 S2' (3 * unit) (3 * unit) y' k2 in
      record {
        box = box-same (all3 q t unit) p3.box;
        way-x = p2.way;
        way-y = p1.way;
        way-z = p3.way;
        within = p1.within;
        gone = trail (off-y bs a d.y r q t B A D.y (lt_of_le_of_lt (w0 r q t unit) S) (lt_of_le_of_lt (v0 q t unit) S'))
            (off-x bs c1 d.x r (q + t + unit) t B p1.box D.x S1 S1') (off-z bs c2 d.z r (q + t + unit + t + unit) t B p2.box D.z S2 S2');
        clear = k3;
      }
    where
      w0 : (r q t u : ℕ) → r + q ≤ r + (q + 4 * t + 4 * u)
      w0 r q t u = omega arith

      v0 : (q t u : ℕ) → q + t ≤ q + 4 * t + 4 * u
      v0 q t u = omega arith

      w1 : (r q t u : ℕ) → r + (q + t + u) ≤ r + (q + 4 * t + 4 * u)
      w1 r q t u = omega arith

      v1 : (q t u : ℕ) → q + t + u + t ≤ q + 4 * t + 4 * u
      v1 q t u = omega arith

      w2 : (r q t u : ℕ) → r + (q + t + u + t + u) ≤ r + (q + 4 * t + 4 * u)
      w2 r q t u = omega arith

      v2 : (q t u : ℕ) → q + t + u + t + u + t ≤ q + 4 * t + 4 * u
      v2 q t u = omega arith

      all3 : (q t u : ℕ) → q + t + u + t + u + t + u ≡ q + 3 * t + 3 * u
      all3 q t u = omega arith

  start-wide : r + q < 2 ^ 55 * unit
  start-wide = lt_of_le_of_lt (go r q t unit) S
    where
      go : (r q t u : ℕ) → r + q ≤ r + (q + 4 * t + 4 * u)
      go r q t u = omega arith

  start-near : q + t < 2 ^ 54 * unit
  start-near = lt_of_le_of_lt (go q t unit) S'
    where
      go : (q t u : ℕ) → q + t ≤ q + 4 * t + 4 * u
      go q t u = omega arith

  -- any delta
  pub plain : (d : Vec3) → VecIn t d → Done bs a q t (3 * unit) d (clip_sequence bs a d)
  plain d D =
      attempt d (3 * unit) D
      (clear-y bs a d.y r q t B A D.y start-wide start-near 0 0 0 0 (3 * unit) (3 * unit) (land-y bs a d.y r q t B A D.y start-wide start-near))

  -- a delta that is not downward: a box below stays below
  pub upward : (d : Vec3) → VecIn t d → under d.y ≤ over d.y → Done bs a q t 0 d (clip_sequence bs a d)
  upward d D u =
      attempt d 0 D
      (clear-y bs a d.y r q t B A D.y start-wide start-near 0 0 0 0 (3 * unit) 0
      (rise-y bs a d.y r q t B A D.y start-wide start-near (not-down u (passed-y bs a d.y r q t B A D.y start-wide start-near).way)))

  -- ---- the step-up
  pub stepped : (d : Vec3) (h : Float) → VecIn t d → Within h t → under h ≤ over h
      → All (Clear (3 * unit) (3 * unit) (3 * unit) (3 * unit) (stepped_up bs a d h).aabb) bs
  unfolding stepped_up
  stepped d h D H u =
      let s : Swept = clip_sequence bs a (vec d.x h d.z) in
      let o : Done bs a q t 0 (vec d.x h d.z) s = upward (vec d.x h d.z) (record { x = D.x; y = H; z = D.z }) u in
      let q' : ℕ = q + 3 * t + 3 * unit in
      let W : r + q' < 2 ^ 55 * unit = lt_of_le_of_lt (w3 r q t unit) S in
      let V' : q' + t < 2 ^ 54 * unit = lt_of_le_of_lt (v3 q t unit) S' in
      let N : Within (neg s.moved.y) t = neg-within o.within in
      let up : under s.moved.y ≤ over s.moved.y = not-down u o.way-y in
      let a1 : over (neg s.moved.y) ≡ under s.moved.y = neg-over s.moved.y in
      let a2 : under (neg s.moved.y) ≡ over s.moved.y = neg-under s.moved.y in
      let p = passed-y bs s.aabb (neg s.moved.y) r q' t B o.box N W V' in
      clear-y bs s.aabb (neg s.moved.y) r q' t B o.box N W V' (3 * unit) (3 * unit) (3 * unit) 0 (3 * unit) (3 * unit)
      (sink-y bs s.aabb (neg s.moved.y) r q' t B o.box N W V' (not-up (omega arith) p.way))
      o.clear
    where
      w3 : (r q t u : ℕ) → r + (q + 3 * t + 3 * u) ≤ r + (q + 4 * t + 4 * u)
      w3 r q t u = omega arith

      v3 : (q t u : ℕ) → q + 3 * t + 3 * u + t ≤ q + 4 * t + 4 * u
      v3 q t u = omega arith

  -- ---- the move
  pub moved : (d : Vec3) (h : Float) (grounded : Bool) → VecIn t d → Within h t → under h ≤ over h
      → All (Clear (3 * unit) (3 * unit) (3 * unit) (3 * unit) (move_over bs a d h grounded).aabb) bs
  unfolding move_over choose
  moved d h grounded D H u =
      go (tries_step d h grounded (clip_sequence bs a d).moved) (lt (flat_square (clip_sequence bs a d).moved) (flat_square (stepped_up bs a d h).moved))
    where
      go : (p q : Bool) → All (Clear (3 * unit) (3 * unit) (3 * unit) (3 * unit) (choose p (choose q (stepped_up bs a d h) (clip_sequence bs a d)) (clip_sequence bs a d)).aabb) bs
      go true true = stepped d h D H u
      go true false = (plain d D).clear
      go false q = (plain d D).clear
