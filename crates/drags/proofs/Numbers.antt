-- What a host is handed tells the case: its number and the sampled one settle what a step tells. Assumes nothing.
use mathlib.Core.Path.{◌≡◌, refl, sym, ap, ◌∙◌}
use Prim.Native.Nat.{ℕ}
use lib.Dec.{eqb}
use lib.Ieee.{Float}
use Rattle.base.specs.Choose.{choose}
use Rattle.drags.specs.declared.Sample.TheVariants.{Friction, Air, Unloaded, Unregistered}
use Rattle.drags.specs.declared.Support.{Support}
use Rattle.drags.specs.declared.Support.TheVariants.{Asked, NotAsked}
use Rattle.drags.specs.Cases.{case_number, sampled_number}

abbrev support_by : ℕ → Float → Support
support_by n friction =
    choose (eqb n 0) NotAsked
    (choose (eqb n 1) (Asked (Friction friction)) (choose (eqb n 2) (Asked Air) (choose (eqb n 3) (Asked Unloaded) (Asked Unregistered))))

support-back : (s : Support) → support_by (case_number s) (sampled_number s) ≡ s
unfolding choose
support-back (Asked (Friction f)) = refl
support-back (Asked Air) = refl
support-back (Asked Unloaded) = refl
support-back (Asked Unregistered) = refl
support-back NotAsked = refl

pub support-unique : (s t : Support) → case_number s ≡ case_number t → sampled_number s ≡ sampled_number t → s ≡ t
support-unique s t e f = sym (support-back s) ∙ (ap (λ (n : ℕ). support_by n (sampled_number s)) e ∙ (ap (support_by (case_number t)) f ∙ support-back t))
