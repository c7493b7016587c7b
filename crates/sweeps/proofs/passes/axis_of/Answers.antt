-- `sweeps::passes::axis_of` meets its contract. Assumes nothing.
use mathlib.Core.List.{[], ◌∷◌}
use mathlib.Core.Path.{◌≡◌, refl}
use Prim.Native.Nat.{ℕ, zero, suc, ◌%◌}
use lib.ListN.{get_or}
use Rattle.sweeps.specs.declared.Along.TheVariants.{X, Y, Z}
use Rattle.sweeps.specs.Passes.{axis_number, axis_of}
use Rattle.sweeps.proofs.passes.axis_of.Goals as goal

in_order : (k : ℕ) → axis_number (get_or (Y ∷ X ∷ Z ∷ []) k X) ≡ get_or (1 ∷ 0 ∷ 2 ∷ []) k 0
in_order zero = refl
in_order (suc zero) = refl
in_order (suc (suc zero)) = refl
in_order (suc (suc (suc k))) = refl

pub returns : goal.returns
unfolding axis_of
returns c = in_order (c.args.pass % 3)
