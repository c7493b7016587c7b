-- No number of contents that pass 1 to 4 is a NaN, so that its bits are its own. Assumes nothing.
use mathlib.Core.Bool.{Bool, true, false, not, ◌&&◌, false≢true}
use mathlib.Core.Path.{◌≡◌, refl, sym, subst}
use Prim.Native.Nat.{ℕ, zero, suc, ◌+◌, ◌*◌, ◌/◌, ◌%◌, ◌<◌}
use native.Mathlib.Omega.{arith}
use lib.Dec.{T}
use lib.Ieee.{Float, nan, inf, fin, is_nan, le, lt}
use lib.ListN.{length, get_or}
use Rattle.base.specs.Choose.{choose}
use Rattle.base.specs.Every.{every}
use Rattle.base.proofs.Every.{both, every-at}
use Rattle.floats.specs.Numbers.{zero64, is_within_limit}
use Rattle.boxes.specs.declared.Vec3.{Vec3}
use Rattle.boxes.specs.Limits.{two_to, are_within, is_step}
use Rattle.cover.specs.Cover.{box_count, box_number}
use Rattle.tables.proofs.Lists.{get_d_any}
use Rattle.table_check.specs.Check.{four, side_fits, box_fits}
use Rattle.bodies.specs.Numbers.{number_at}
use Rattle.bodies.specs.Limits.{is_extent, is_small, is_position, is_velocity, motion_fits}
use Rattle.bodies.specs.Lent.{motion_at, body_at, rules_at}
use Rattle.bodies.proofs.Fits.{fitted}
use Rattle.files.specs.Contents.{Contents}
use Rattle.rounds.proofs.Passed.{Passed}

-- ---- a number within a limit

within : (x l : Float) → is_within_limit x l ≡ true → is_nan x ≡ false
unfolding is_nan choose
within nan l h = absurd (false≢true h)
within (inf s) l h = refl
within (fin s m e) l h = refl

pub known : (x : Float) → is_nan x ≡ false → T (not (is_nan x))
known x h = subst (λ (t : Bool). T (not t)) (sym h) tt

-- ---- the body's

record Vector (v : Vec3) : Type 0 where
  x-known : is_nan v.x ≡ false
  y-known : is_nan v.y ≡ false
  z-known : is_nan v.z ≡ false

vector : (v : Vec3) (l : Float) → are_within v l ≡ true → Vector v
vector v l h =
    let a = both (is_within_limit v.x l) (is_within_limit v.y l && is_within_limit v.z l) h in
    let b = both (is_within_limit v.y l) (is_within_limit v.z l) a.two in
    record { x-known = within v.x l a.one; y-known = within v.y l b.one; z-known = within v.z l b.two }

small : (x : Float) → is_small x ≡ true → is_nan x ≡ false
unfolding is_small
small x h = within x (two_to 4) h

extent : (x : Float) → is_extent x ≡ true → is_nan x ≡ false
unfolding is_extent
extent x h = within x (two_to 4) (both (is_within_limit x (two_to 4)) (lt zero64 x) h).one

step : (x : Float) → is_step x ≡ true → is_nan x ≡ false
step x h = within x (two_to 2) (both (is_within_limit x (two_to 2)) (le zero64 x) h).one

module _ (c : Contents) (p : Passed c) where
  pub number-known : (k : ℕ) → k < 19 → is_nan (number_at c.numbers k) ≡ false
  unfolding motion_fits is_position is_velocity every
  number-known k h =
      let b = body_at c.numbers c.words in
      let g = motion_at c.numbers c.words in
      let f = fitted c.records (rules_at c.numbers c.words) b g.on_ground p.numbers_fit in
      let m = f.body in
      let u = f.rules in
      let s = both (are_within g.feet (two_to 25)) (are_within g.velocity (two_to 6)) p.motion-fits in
      let x = vector g.feet (two_to 25) s.one in
      let v = vector g.velocity (two_to 6) s.two in
      let all : every 19 (λ k. not (is_nan (number_at c.numbers k))) ≡ true =
      rw (x.x-known, x.y-known, x.z-known, v.x-known, v.y-known, v.z-known, extent _ m.width, extent _ m.height, small _ m.offset, small _ m.gravity, small _ m.vertical, small _ m.horizontal, small _ m.flap, step _ m.step, small _ u.friction, small _ u.depth, small _ u.gravity, small _ u.water, small _ u.lava) in
      turned (is_nan (number_at c.numbers k)) (every-at 19 (λ k. not (is_nan (number_at c.numbers k))) all k h)
    where
      turned : (t : Bool) → not t ≡ true → t ≡ false
      turned true e = absurd (false≢true e)
      turned false e = refl

  -- ---- the shapes'

  side : (a b : Float) → side_fits a b ≡ true → (is_nan a ≡ false) × (is_nan b ≡ false)
  unfolding side_fits
  side a b h =
      let t = both (is_within_limit a four && is_within_limit b four) (le a b) h in
      let s = both (is_within_limit a four) (is_within_limit b four) t.one in
      (within a four s.one, within b four s.two)

  box-known : (k : ℕ) → k < box_count c.shapes → (j : ℕ) → j < 6 → is_nan (box_number c.shapes k j) ≡ false
  unfolding box_fits
  box-known k h j l =
      let t = every-at (box_count c.shapes) (box_fits c.shapes) p.boxes-fit k h in
      let n : ℕ → Float = box_number c.shapes k in
      let t₁ = both (side_fits (n 0) (n 3) && side_fits (n 1) (n 4)) (side_fits (n 2) (n 5)) t in
      let t₂ = both (side_fits (n 0) (n 3)) (side_fits (n 1) (n 4)) t₁.one in
      go j l (side _ _ t₂.one) (side _ _ t₂.two) (side _ _ t₁.two)
    where
      go : (j : ℕ) → j < 6 → (is_nan (box_number c.shapes k 0) ≡ false) × (is_nan (box_number c.shapes k 3) ≡ false)
          → (is_nan (box_number c.shapes k 1) ≡ false) × (is_nan (box_number c.shapes k 4) ≡ false)
          → (is_nan (box_number c.shapes k 2) ≡ false) × (is_nan (box_number c.shapes k 5) ≡ false) → is_nan (box_number c.shapes k j) ≡ false
      go zero l a b d = a.0
      go (suc zero) l a b d = b.0
      go (suc (suc zero)) l a b d = d.0
      go (suc (suc (suc zero))) l a b d = a.1
      go (suc (suc (suc (suc zero)))) l a b d = b.1
      go (suc (suc (suc (suc (suc zero))))) l a b d = d.1
      go (suc (suc (suc (suc (suc (suc j)))))) l a b d = absurd (much j l)
        where
          much : (j : ℕ) → suc (suc (suc (suc (suc (suc j))))) < 6 → ⊥
          much j l = omega arith

  pub shape-known : (i : ℕ) → i < length c.shapes → is_nan (get_or c.shapes i zero64) ≡ false
  shape-known i h =
      let w = p.shapes-whole in
      let q : i / 6 * 6 + i % 6 ≡ i = omega arith in
      let e = box-known (i / 6) (omega arith) (i % 6) (omega arith) in
      rw (get_d_any c.shapes i zero64 nan h) (rw q at e)
