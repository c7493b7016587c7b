-- The rule of a fence's or pane's transitions, by one test over the palette that is computed: link k leads to a state of the same kind, of whose four
-- bits only the named one is changed, to 1 by "on" and to 0 by "off"; its posts are its own index. Assumes nothing.
use mathlib.Core.Bool.{Bool, true, ◌&&◌}
use mathlib.Core.Path.{◌≡◌, refl}
use Prim.Native.Nat.{ℕ, ◌+◌, ◌/◌, ◌<◌}
use lib.Dec.{eqb}
use borrow.Author.Tests.{eqb-true}
use Rattle.base.specs.Choose.{choose}
use Rattle.base.specs.Every.{every}
use Rattle.base.proofs.Every.{both, every-at}
use Rattle.palette_states.specs.States.{kind, index, bit, bit_at}
use Rattle.turns.specs.Turns.{is_on}
use Rattle.palette.specs.Links.{fence_link}

-- bit p of what link k of s leads to
abbrev named : ℕ → ℕ → ℕ → ℕ
named s k p = choose (eqb p (k / 2)) (choose (is_on k) 1 0) (bit_at (index s) p)

abbrev bits : ℕ → ℕ → ℕ → Bool
bits s k p = eqb (bit_at (index (fence_link s k)) p) (named s k p)

abbrev turns : ℕ → ℕ → Bool
turns s k = eqb (kind (fence_link s k)) (kind s) && every 4 (bits s k)

-- states 2 to 49: no other is a fence or a pane
abbrev right : ℕ → Bool
right n = every 8 (turns (n + 2)) && (eqb (fence_link (n + 2) 8) (n + 2) && eqb (fence_link (n + 2) 9) (n + 2))

pub record Rule (s k : ℕ) : Type 0 where
  pub same : kind (fence_link s k) ≡ kind s
  pub digit : (p : ℕ) → p < 4 → bit_at (index (fence_link s k)) p ≡ named s k p

pub rule : (n k : ℕ) → n < 48 → k < 8 → Rule (n + 2) k
unfolding every choose kind index bit bit_at fence_link
rule n k h g =
    let all_right : every 48 right ≡ true = refl in
    let a = both (every 8 (turns (n + 2))) _ (every-at 48 right all_right n h) in
    let b = both (eqb (kind (fence_link (n + 2) k)) (kind (n + 2))) (every 4 (bits (n + 2) k)) (every-at 8 (turns (n + 2)) a.one k g) in
    record { same = eqb-true _ _ b.one; digit = λ p l. eqb-true _ _ (every-at 4 (bits (n + 2) k) b.two p l) }
