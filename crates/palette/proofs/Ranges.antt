-- What the code relies on of states below 212, by tests that are computed. Assumes nothing.
use mathlib.Core.Bool.{Bool, true}
use mathlib.Core.Path.{◌≡◌, refl}
use Prim.Native.Nat.{ℕ, ◌<◌, ◌≤◌}
use lib.Dec.{eqb, leb}
use borrow.Author.Tests.{leb-true, ne_eqb}
use Rattle.base.specs.Choose.{choose}
use Rattle.base.specs.Every.{every}
use Rattle.base.proofs.Every.{every-at}
use Rattle.palette_states.specs.States.{kind, index, bit, bit_at}

-- a bit that is set is at or below the state
cleared : ℕ → ℕ → Bool
cleared s p = choose (eqb (bit_at (index s) p) 0) true (leb (bit p) s)

pub bit_below : (s p : ℕ) → s < 212 → p < 4 → (bit_at (index s) p ≡ 0 → ⊥) → bit p ≤ s
unfolding every choose kind index bit bit_at cleared
bit_below s p h g e =
    let t : choose (eqb (bit_at (index s) p) 0) true (leb (bit p) s) ≡ true = every-at 4 (cleared s) (every-at 212 (λ s. every 4 (cleared s)) refl s h) p g in
    leb-true (bit p) s (rw (ne_eqb (bit_at (index s) p) 0 e) at t)
