-- A word as a signed number, as the library has it. Assumes nothing.
use Rattle.std.proofs.Common.{◌≡◌, ℕ, ◌-◌, ◌<◌, Bool, true, false, ltb, refl, ap, ◌∙◌, arith, w32, to_z, of_z, pos, suc}
use lib.IntN.{negsuc}
use mir.Val.{sel}
use Rattle.std.proofs.lemmas.Int.{of_z-to_z}
use Rattle.base.specs.Choose.{choose}
use Rattle.lent_words.specs.Words.{signed_word}

signed : (w : ℕ) → to_z w32 w ≡ signed_word w
unfolding signed_word choose
signed w = go (ltb w 2147483648)
  where
    go : (t : Bool) → sel t (pos w) (negsuc (4294967296 - suc w)) ≡ choose t (pos w) (negsuc (4294967295 - w))
    go true = refl
    go false = let e : 4294967296 - suc w ≡ 4294967295 - w = omega arith in rw e

pub signed_back : (w : ℕ) → w < 4294967296 → to_z w32 (of_z w32 (to_z w32 w)) ≡ signed_word w
signed_back w h = ap (to_z w32) (of_z-to_z w32 w h) ∙ signed w
