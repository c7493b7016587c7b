-- `Travels` leaves no choice: on one axis, of two ways that both fit it neither is longer. So a move that stays put, stops short, or jumps a thin wall
-- does not fit demand 3. Nothing cites this file: it is a check on the demand. Assumes nothing.
use mathlib.Core.Path.{◌≡◌, sym, ◌∙◌, subst}
use mathlib.Core.Bool.{Bool, true, false, not}
use Prim.Native.Nat.{ℕ, ◌+◌, ◌-◌, ◌^◌, ◌≤◌, ◌<◌}
use native.Mathlib.Omega.{arith}
use lib.Dec.{T, ltb, ltb→lt, lt→ltb, eqb→eq, not_T, T_not, nltb→le}
use lib.Ieee.{Float, binary64, add, sub, lt, eq}
use lib.Ieee.Fits.{eq→eqb}
use Rattle.base.specs.Choose.{choose}
use Rattle.base.proofs.Tests.{T_true, ltb_no}
use Rattle.floats.specs.Numbers.{zero64, is_within_limit}
use Rattle.boxes.specs.declared.Aabb.{Aabb}
use Rattle.boxes.specs.Boxes.{overlap}
use Rattle.boxes.specs.Limits.{two_to}
use Rattle.grid.specs.Grid.{on_grid}
use Rattle.grid.specs.Demand.{grid_unit, further, Free, Struck, Travels}
use Rattle.grid.proofs.Units.{At, add_at, sub_at, at_same, lt-is, eq-at}
use Rattle.grid.proofs.Axis.{Way, upward, downward}
use Rattle.grid.proofs.Counted.{base, zero-at}
use Rattle.grid.proofs.Readings.{read, at-grid, within-units}
use Rattle.grid.proofs.Courses.{way→between, unit-at, Place, place}
use Rattle.grid.proofs.Starts.{delta-at}

clash : (Block : Aabb → Type 0) (a : Aabb) → Free Block a → Struck Block a → ⊥
clash Block a f s = T_not (overlap a s.by) (f s.by s.is) s.hits

module _ (Block : Aabb → Type 0) (at : Float → Aabb) (share : Float) (e : ℕ) (S : At share e base) (room : e ≤ base + 2 ^ 19) (deep : base ≤ e + 2 ^ 19) where
  differs : (a : Float) (p : ℕ) → At a p base → (p ≡ e → ⊥) → T (not (eq a share))
  differs a p A n = not_T (eq a share) (λ t. n (same (eqb→eq (p + base) (e + base) (subst T (eq-at a share p base e base A S) t))))
    where
      same : p + base ≡ e + base → p ≡ e
      same h = omega arith

  on-up : (q : ℕ) → base < e → Way base e q → (base ≤ q) × (q ≤ e)
  on-up q up (upward h j) = (h, j)
  on-up q up (downward h j) = (omega arith, omega arith)

  on-down : (q : ℕ) → e ≤ base → Way base e q → (e ≤ q) × (q ≤ base)
  on-down q down (upward h j) = (omega arith, omega arith)
  on-down q down (downward h j) = (h, j)

  -- a is the shorter way: the multiple after it lies on the way b
  module _ (a b : Float) (A : Travels Block at share a) (B : Travels Block at share b) (p : Place a base e) (q : Place b base e) where
    no-shorter-up : base < e → p.q < q.q → ⊥
    unfolding further choose
    no-shorter-up up l =
        let low : base ≤ p.q = (on-up p.q up p.way).0 in
        let high : q.q ≤ e = (on-up q.q up q.way).1 in
        let x : At (add binary64 a grid_unit) (p.q + 1) base = at_same (p.q + 1) (base + 0) (p.q + 1) base (omega arith) (add_at a grid_unit p.q base 1 0 p.at unit-at (omega arith) (omega arith)) in
        let t : lt zero64 share ≡ true = lt-is zero64 share base base e base base e (zero-at base) S (omega arith) ∙ T_true (ltb base e) (lt→ltb base e up) in
        clash Block (at (add binary64 a grid_unit))
        (B.clear (add binary64 a grid_unit) (at-grid (add binary64 a grid_unit) (p.q + 1) base x) (way→between b (add binary64 a grid_unit) base q.q (p.q + 1) q.at x (upward (omega arith) (omega arith))))
        (subst (λ (u : Bool). Struck Block (at (choose u (add binary64 a grid_unit) (sub binary64 a grid_unit)))) t (A.far (differs a p.q p.at (λ h. omega arith))))

    no-shorter-down : e ≤ base → q.q < p.q → ⊥
    unfolding further choose
    no-shorter-down down l =
        let high : p.q ≤ base = (on-down p.q down p.way).1 in
        let low : e ≤ q.q = (on-down q.q down q.way).0 in
        let r = p.q - 1 in
        let x : At (sub binary64 a grid_unit) r base = at_same (p.q + 0) (base + 1) r base (omega arith) (sub_at a grid_unit p.q base 1 0 p.at unit-at (omega arith) (omega arith)) in
        let t : lt zero64 share ≡ false = lt-is zero64 share base base e base base e (zero-at base) S (omega arith) ∙ ltb_no base e down in
        clash Block (at (sub binary64 a grid_unit))
        (B.clear (sub binary64 a grid_unit) (at-grid (sub binary64 a grid_unit) r base x) (way→between b (sub binary64 a grid_unit) base q.q r q.at x (downward (omega arith) (omega arith))))
        (subst (λ (u : Bool). Struck Block (at (choose u (add binary64 a grid_unit) (sub binary64 a grid_unit)))) t (A.far (differs a p.q p.at (λ h. omega arith))))

  same_way : (a b : Float) → Travels Block at share a → Travels Block at share b → T (eq a b)
  same_way a b A B =
      let p = place share a base e S A.exact A.towards in
      let q = place share b base e S B.exact B.towards in
      subst T (sym (eq-at a b p.q base q.q base p.at q.at))
      (eq→eqb {a = p.q + base} {b = q.q + base} (go p q (no-shorter-up a b A B p q) (no-shorter-up b a B A q p) (no-shorter-down a b A B p q) (no-shorter-down b a B A q p) (ltb base e) (ltb→lt base e) (nltb→le base e)))
    where
      go : (p : Place a base e) (q : Place b base e) → (base < e → p.q < q.q → ⊥) → (base < e → q.q < p.q → ⊥) → (e ≤ base → q.q < p.q → ⊥) → (e ≤ base → p.q < q.q → ⊥)
          → (t : Bool) → (T t → base < e) → (T (not t) → e ≤ base) → p.q + base ≡ q.q + base
      go p q f g h j true u v = let f' = f (u tt) in let g' = g (u tt) in omega arith
      go p q f g h j false u v = let h' = h (v tt) in let j' = j (v tt) in omega arith

-- of two ways that fit, on the share of an accepted delta, neither is longer
pub travels-once : (Block : Aabb → Type 0) (at : Float → Aabb) (share a b : Float) → T (on_grid share) → T (is_within_limit share (two_to 7)) → Travels Block at share a → Travels Block at share b → T (eq a b)
travels-once Block at share a b G W =
    let r = read share G in
    let small : r.plus + r.minus ≤ 2 ^ 19 = within-units share (two_to 7) (2 ^ 19) delta-at W r in
    let e = base + r.plus - r.minus in
    same_way Block at share e (at_same r.plus r.minus e base (omega arith) r.at) (omega arith) (omega arith) a b
