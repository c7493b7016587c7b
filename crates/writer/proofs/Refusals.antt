-- What it means that nothing is refused. Assumes nothing.
use mathlib.Core.Bool.{Bool, true, false, true≢false}
use mathlib.Core.Path.{◌≡◌, refl, sym, ◌∙◌}
use Prim.Native.Nat.{ℕ, suc}
use native.Mathlib.Omega.{arith}
use lib.Dec.{eqb}
use borrow.Author.Tests.{eq-eqb, eqb-true}
use Rattle.base.specs.Choose.{choose}
use Rattle.writer.specs.Written.{or_else}

-- ---- none of two refusals

no-first : (x y : ℕ) → choose true x y ≡ 0 → x ≡ 0
unfolding choose
no-first x y h = h

no_second : (x y : ℕ) → choose false x y ≡ 0 → y ≡ 0
unfolding choose
no_second x y h = h

pub record Neither (a b : ℕ) : Type 0 where
  pub first : a ≡ 0
  pub second : b ≡ 0

pub neither : (a b : ℕ) → or_else a b ≡ 0 → Neither a b
neither a b h = go (eqb a 0) refl h
  where
    go : (t : Bool) → eqb a 0 ≡ t → choose t b a ≡ 0 → Neither a b
    go true e g = record { first = eqb-true a 0 e; second = no-first b a g }
    go false e g = absurd (true≢false (sym (eq-eqb a 0 (no_second b a g)) ∙ e))

-- a test without which there is a refusal
pub record Held (t : Bool) (a : ℕ) : Type 0 where
  pub test : t ≡ true
  pub rest : a ≡ 0

pub held : (t : Bool) (a k : ℕ) → choose t a (suc k) ≡ 0 → Held t a
unfolding choose
held true a k h = record { test = refl; rest = h }
held false a k h = absurd (never k h)
  where
    never : (k : ℕ) → suc k ≡ 0 → ⊥
    never k h = omega arith
