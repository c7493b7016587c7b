-- `roots::root::halved_of` meets its contract. Assumes nothing.
use Prim.Native.Nat.{ℕ, suc, ◌+◌, ◌-◌, ◌*◌, ◌/◌, ◌%◌, ◌^◌, ◌<◌}
use mathlib.Core.Path.{◌≡◌, sym, ap, subst, ◌∙◌}
use native.Mathlib.Nat.{mul-one}
use native.Mathlib.Omega.{arith}
use lib.Count.{count_leading_zeros}
use Rattle.roots.specs.Steps.{Halves, units_at}
use Rattle.roots.proofs.Shift.{Norm, norm}
use Rattle.roots.proofs.root.halved_of.Goals as goal
use Rattle.roots.proofs.root.halved_of.Goals.{Then-e-eq0}

units-zero : (e t : ℕ) → e ≡ 0 → t * 2 ^ 0 ≡ units_at e t
unfolding units_at
units-zero e t h = mul-one t ∙ ap (λ (x : ℕ). units_at x t) (sym h)

units-suc : (e t : ℕ) → (e ≡ 0 → ⊥) → (2 ^ 52 + t) * 2 ^ (e - 1) ≡ units_at e t
unfolding units_at
units-suc e t h = let p : suc (e - 1) ≡ e = omega arith in ap (λ (x : ℕ). units_at x t) p

-- a number below the normal ones: its own bits, which are not 0
small : (b : ℕ) → 0 < b → b / 2 ^ 52 ≡ 0 → Norm (b % 2 ^ 52) (count_leading_zeros 64 (b % 2 ^ 52))
small b p e = norm (b % 2 ^ 52) (omega arith) (omega arith)

known : (c : Then-e-eq0) → Norm (c.args.b % 2 ^ 52) (count_leading_zeros 64 (c.args.b % 2 ^ 52))
known c = small c.args.b c.requires.0 c.if-e-eq0.true

pub overflow_cast-z : goal.overflow_cast-z
overflow_cast-z c = omega (arith, known (goal.at.overflow_cast-z c).Then-e-eq0)

pub overflow_sub-z : goal.overflow_sub-z
overflow_sub-z c = (known (goal.at.overflow_sub-z c).Then-e-eq0).eleven

pub halved_at-requires : goal.halved_at-requires
halved_at-requires c = let n = known (goal.at.halved_at-requires c).Then-e-eq0 in (n.small, n.low, n.high, omega arith)

pub returns-then-e-eq0 : goal.returns-then-e-eq0
returns-then-e-eq0 c =
    let b = c.args.b in
    (subst (λ (x : ℕ). Halves x c.halved_at.result.n c.halved_at.result.half) (units-zero (b / 2 ^ 52) (b % 2 ^ 52) c.if-e-eq0.true) c.halved_at.ensures.0, c.halved_at.ensures.1)

pub returns : goal.returns
returns c =
    let b = c.args.b in
    (subst (λ (x : ℕ). Halves x c.halved_at-2.result.n c.halved_at-2.result.half) (units-suc (b / 2 ^ 52) (b % 2 ^ 52) c.if-e-eq0.false) c.halved_at-2.ensures.0, c.halved_at-2.ensures.1)
