-- What module 1 answers, from the test that the code made: `ok` is what the test means. Assumes nothing.
use mathlib.Core.Path.{◌≡◌, refl, sym, ap, ◌∙◌, subst}
use native.Mathlib.Omega.{arith}
use Prim.Native.Nat.{ℕ}
use mathlib.Core.Bool.{Bool, true, false}
use lib.Dec.{T}
use lib.Ieee.{Float}
use Rattle.std.specs.Prelude.{Ok, Err}
use Rattle.base.specs.Choose.{choose}
use Rattle.base.specs.declared.Refusal.{Refusal}
use Rattle.base.specs.declared.Refusal.TheVariants.{Place}
use Rattle.base.specs.Refusals.{number_of}
use Rattle.base.proofs.Answers.{some_number}
use Rattle.floats.specs.Numbers.{Answer, answered, answer_where}

pub passed : (ok r : Bool) → r ≡ ok → r ≡ true → T ok
passed ok r e h = subst T (sym (sym e ∙ h)) tt

pub taken : (ok : Bool) (v w : Float) → ok ≡ true → v ≡ w → answered (Ok v) ≡ answer_where ok w
unfolding choose
taken ok v w t h = rw (t, h)

pub turned-away : (ok : Bool) (w : Float) → ok ≡ false → answered (Err Place) ≡ answer_where ok w
unfolding choose
turned-away ok w t = rw t

-- what an answer tells of the test
pub was-taken : (ok : Bool) (v r : Float) → answered (Ok r) ≡ answer_where ok v → (ok ≡ true) × (r ≡ v)
unfolding choose
was-taken true v r h = (refl, ap (λ (b : Answer). b.value) h)
was-taken false v r h = absurd (let z : ◌≡◌ {A = ℕ} 0 4 = ap (λ (b : Answer). b.refusal) h in omega arith)

pub was-turned-away : (ok : Bool) (v : Float) (e : Refusal) → answered (Err e) ≡ answer_where ok v → (ok ≡ false) × (number_of e ≡ 4)
unfolding choose
was-turned-away true v e h = absurd (some_number e (ap (λ (b : Answer). b.refusal) h))
was-turned-away false v e h = (refl, ap (λ (b : Answer). b.refusal) h)
