-- What the tests of `specs/Grid` say of the numbers: how many units of 1/4096 a number on the grid is, and which whole-number box a box is. Assumes
-- nothing.
use mathlib.Core.Path.{◌≡◌, refl, sym, ap, ◌∙◌, subst}
use mathlib.Core.Logic.{◌⊎◌, inl, inr}
use mathlib.Core.Bool.{Bool, true, false, ◌&&◌}
use mathlib.Core.List.{List, [], ◌∷◌}
use Prim.Native.Nat.{ℕ, ◌+◌, ◌-◌, ◌*◌, ◌/◌, ◌%◌, ◌^◌, ◌≤◌, ◌<◌}
use native.Mathlib.Nat.{mul-div_cancel, div-add-mod'}
use native.Mathlib.Omega.{arith}
use lib.Dec.{T, leb→le, ltb→lt, eqb→eq}
use lib.Ieee.{Float, nan, inf, fin, lt, up, down}
use lib.Ieee.Fits.{and_l, and_r, down_pos, eq→eqb}
use Rattle.base.specs.Choose.{choose}
use Rattle.floats.specs.Numbers.{size_of, is_within_limit}
use Rattle.boxes.specs.declared.Vec3.{Vec3}
use Rattle.boxes.specs.declared.Aabb.{Aabb}
use Rattle.boxes.specs.Limits.{two_to, are_within, sides_of, is_box, are_boxes}
use Rattle.grid.specs.Grid.{on_grid, vec_on_grid, is_solid, is_proper, are_proper}
use Rattle.grid.proofs.Units.{At, Signed, at_same, lt-is, le_is}
use Rattle.grid.proofs.Axis.{Span, All}
use Rattle.grid.proofs.Whole.{Box, Solid}
use Rattle.grid.proofs.Counted.{base, OnSpan, On, OnAll, Leads}

-- ---- a number
pub record Read (x : Float) : Type 0 where
  pub plus : ℕ
  pub minus : ℕ
  pub at : At x plus minus
  pub either : (plus ≡ 0) ⊎ (minus ≡ 0)

whole_part : (a d : ℕ) → a % d ≡ 0 → a ≡ a / d * d
whole_part a d h = sym (div-add-mod' a d) ∙ tail (a / d * d) (a % d) h
  where
    tail : (x y : ℕ) → y ≡ 0 → x + y ≡ x
    tail x y e = omega arith

pub read : (x : Float) → T (on_grid x) → Read x
unfolding on_grid
read nan t = absurd t
read (inf s) t = absurd t
read (fin s m e) t = go s (m * up e * 4096 / down e) (whole_part (m * up e * 4096) (down e) (eqb→eq (m * up e * 4096 % down e) 0 t))
  where
    go : (s : Bool) (k : ℕ) → m * up e * 4096 ≡ k * down e → Read (fin s m e)
    go false k v = record { plus = k; minus = 0; at = record { sign = false; size = k; value = (refl, v); units = omega arith }; either = inr refl }
    go true k v = record { plus = 0; minus = k; at = record { sign = true; size = k; value = (refl, v); units = omega arith }; either = inl refl }

no-rest : (k d : ℕ) → 0 < d → k * d % d ≡ 0
no-rest k d D = go (k * d / d) (k * d % d) (mul-div_cancel k D) (div-add-mod' (k * d) d)
  where
    go : (q r : ℕ) → q ≡ k → q * d + r ≡ k * d → r ≡ 0
    go q r e h = let z : q * d ≡ k * d = ap (λ (i : ℕ). i * d) e in omega arith

pub at-grid : (x : Float) (p n : ℕ) → At x p n → T (on_grid x)
unfolding on_grid
at-grid nan p n h = absurd h.value
at-grid (inf s) p n h = absurd h.value
at-grid (fin s m e) p n h = eq→eqb {a = m * up e * 4096 % down e} {b = 0} (ap (λ (z : ℕ). z % down e) h.value.1 ∙ no-rest h.size (down e) (down_pos e))

-- a number within a limit of L units
pub within-units : (x limit : Float) (L : ℕ) → At limit L 0 → T (is_within_limit x limit) → (r : Read x) → r.plus + r.minus ≤ L
unfolding choose size_of
within-units nan limit L H t r = absurd t
within-units (inf s) limit L H t r = absurd t
within-units (fin s m e) limit L H t r =
    let k = r.at.size in
    let size : At (fin false m e) k 0 = record { sign = false; size = k; value = (refl, r.at.value.1); units = omega arith } in
    let z : k ≤ L = leb→le k L (subst T (le_is (fin false m e) limit k 0 L 0 k L size H (omega arith)) t) in
    go r.at.sign k r.plus r.minus r.at.units r.either z
  where
    go : (s : Bool) (k p n : ℕ) → Signed s k p n → (p ≡ 0) ⊎ (n ≡ 0) → k ≤ L → p + n ≤ L
    go true k p n u (inl e) z = omega arith
    go true k p n u (inr e) z = omega arith
    go false k p n u (inl e) z = omega arith
    go false k p n u (inr e) z = omega arith

-- ---- a side of a box
pub record ReadSpan (a b : Float) (reach : ℕ) : Type 0 where
  pub span : Span
  pub on : OnSpan a b span
  pub thick : span.lo < span.hi
  pub deep : base ≤ span.lo + reach
  pub room : span.hi ≤ base + reach

read-span : (a b limit : Float) (L : ℕ) → L ≤ 2 ^ 39 → At limit L 0 → T (on_grid a) → T (on_grid b) → T (is_within_limit a limit) → T (is_within_limit b limit) → T (lt a b) → ReadSpan a b L
read-span a b limit L small H A B P Q h =
    let r = read a A in
    let q = read b B in
    let rs : r.plus + r.minus ≤ L = within-units a limit L H P r in
    let qs : q.plus + q.minus ≤ L = within-units b limit L H Q q in
    let u = base + r.plus - r.minus in
    let v = base + q.plus - q.minus in
    let U : At a u base = at_same r.plus r.minus u base (omega arith) r.at in
    let W : At b v base = at_same q.plus q.minus v base (omega arith) q.at in
    record {
      span = record { lo = u; hi = v };
      on = record { lo = record { at = U; within = omega arith }; hi = record { at = W; within = omega arith } };
      thick = ltb→lt u v (subst T (lt-is a b u base v base u v U W (omega arith)) h);
      deep = omega arith;
      room = omega arith;
    }

-- ---- a box handed in: within 2 ^ 25, which is 2 ^ 37 units
abbrev pub reach : ℕ
reach = 2 ^ 37

pub limit-at : At (two_to 25) reach 0
limit-at = record { sign = false; size = 2 ^ 37; value = (refl, refl); units = omega arith }

-- three tests, and six
pub record Three (a b c : Bool) : Type 0 where
  pub x : T a
  pub y : T b
  pub z : T c

pub three : (a b c : Bool) → T (a && (b && c)) → Three a b c
three a b c t = record { x = and_l a (b && c) t; y = and_l b c (and_r a (b && c) t); z = and_r b c (and_r a (b && c) t) }

pub vec-within : (v : Vec3) (limit : Float) → T (are_within v limit) → Three (is_within_limit v.x limit) (is_within_limit v.y limit) (is_within_limit v.z limit)
vec-within v limit t = three (is_within_limit v.x limit) (is_within_limit v.y limit) (is_within_limit v.z limit) t

pub record ReadBox (f : Aabb) : Type 0 where
  pub x : ReadSpan f.min.x f.max.x reach
  pub y : ReadSpan f.min.y f.max.y reach
  pub z : ReadSpan f.min.z f.max.z reach

abbrev pub box_of : {f : Aabb} → ReadBox f → Box
box_of r = record { x = r.x.span; y = r.y.span; z = r.z.span }

pub box-on : {f : Aabb} (r : ReadBox f) → On f (box_of r)
box-on r = record { x = r.x.on; y = r.y.on; z = r.z.on }

pub box-solid : {f : Aabb} (r : ReadBox f) → Solid (box_of r)
box-solid r = record { x = r.x.thick; y = r.y.thick; z = r.z.thick }

pub record Proper (b : Aabb) : Type 0 where
  pub low : Three (on_grid b.min.x) (on_grid b.min.y) (on_grid b.min.z)
  pub high : Three (on_grid b.max.x) (on_grid b.max.y) (on_grid b.max.z)
  pub solid : Three (lt b.min.x b.max.x) (lt b.min.y b.max.y) (lt b.min.z b.max.z)

pub proper : (b : Aabb) → T (is_proper b) → Proper b
unfolding is_proper
proper b t =
    let r = three (vec_on_grid b.min) (vec_on_grid b.max) (is_solid b) t in
    record { low = three _ _ _ r.x; high = three _ _ _ r.y; solid = three _ _ _ r.z }

pub read-box : (f : Aabb) → T (is_box f) → T (is_proper f) → ReadBox f
read-box f b t =
    let p = proper f t in
    let w = three (are_within f.min (two_to 25)) (are_within f.max (two_to 25)) (sides_of f) b in
    let u = vec-within f.min (two_to 25) w.x in
    let v = vec-within f.max (two_to 25) w.y in
    record {
      x = read-span f.min.x f.max.x (two_to 25) reach (omega arith) limit-at p.low.x p.high.x u.x v.x p.solid.x;
      y = read-span f.min.y f.max.y (two_to 25) reach (omega arith) limit-at p.low.y p.high.y u.y v.y p.solid.y;
      z = read-span f.min.z f.max.z (two_to 25) reach (omega arith) limit-at p.low.z p.high.z u.z v.z p.solid.z;
    }

-- ---- the boxes of a list
pub record Knowns (fs : List Aabb) : Type 0 where
  pub boxes : List Box
  pub on : OnAll fs boxes
  pub solid : All Solid boxes

pub knowns : (fs : List Aabb) → T (are_boxes fs) → T (are_proper fs) → Knowns fs
unfolding are_boxes are_proper
knowns [] b t = record { boxes = []; on = tt; solid = tt }
knowns (f ∷ fs) b t =
    let k = read-box f (and_l (is_box f) (are_boxes fs) b) (and_l (is_proper f) (are_proper fs) t) in
    let r = knowns fs (and_r (is_box f) (are_boxes fs) b) (and_r (is_proper f) (are_proper fs) t) in
    record { boxes = box_of k ∷ r.boxes; on = (box-on k, r.on); solid = (box-solid k, r.solid) }

-- ---- a share of the delta, from a side within the reach
pub record Lead (d : Float) (s : Span) (most : ℕ) : Type 0 where
  pub goal : ℕ
  pub leads : Leads d s goal
  pub low : s.lo ≤ goal + most
  pub high : goal ≤ s.lo + most

pub lead : (d limit : Float) (L : ℕ) → L ≤ 2 ^ 38 → At limit L 0 → T (on_grid d) → T (is_within_limit d limit) → (s : Span) → s.lo < s.hi → base ≤ s.lo + 2 ^ 38 → s.hi ≤ base + 2 ^ 38 → Lead d s L
lead d limit L small H G W s thick deep room =
    let r = read d G in
    let rs : r.plus + r.minus ≤ L = within-units d limit L H W r in
    let g = s.lo + r.plus - r.minus in
    record { goal = g; leads = record { at = at_same r.plus r.minus g s.lo (omega arith) r.at; within = omega arith }; low = omega arith; high = omega arith }
