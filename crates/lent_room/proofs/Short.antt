-- Where there is no room, or where a slice has another length than it should, the answer is known before any cell is asked for. Assumes nothing.
use mathlib.Core.Path.{◌≡◌, refl}
use mathlib.Core.Bool.{Bool, true, false, not}
use Prim.Native.Nat.{ℕ}
use lib.Dec.{eqb}
use Rattle.base.specs.Choose.{choose}
use Rattle.base.specs.Ask.{Ask, refused, unless}
use Rattle.lent_room.specs.Room.{roomy, short_of}

module _ {A : Type 0} (lent early : ℕ) (ask : Ask A) where
  pub no_room : roomy lent early false ask ≡ refused (short_of lent early)
  unfolding choose
  no_room = go (eqb lent 0) (eqb early 0) where
    go : (b d : Bool) → choose {A = Ask A} (not b) (refused lent) (choose (not d) (refused early) (refused 11)) ≡ refused (choose b (choose d 11 early) lent)
    go false d = refl
    go true false = refl
    go true true = refl

  pub no-early : (wide : Bool) → eqb early 0 ≡ false → roomy lent early wide ask ≡ refused (short_of lent early)
  unfolding choose
  no-early wide e = rw e (go (eqb lent 0)) where
    go : (b : Bool) → choose {A = Ask A} (not b) (refused lent) (refused early) ≡ refused (choose b early lent)
    go false = refl
    go true = refl

-- a test that was passed before is passed
pub again : {A : Type 0} (t : Bool) (n : ℕ) (g : Ask A → Ask A) (ask : Ask A) → unless t n (g (unless t n ask)) ≡ unless t n (g ask)
unfolding choose
again true n g ask = refl
again false n g ask = refl

-- it is a refusal
pub never-0 : (lent early : ℕ) → eqb (short_of lent early) 0 ≡ false
unfolding choose
never-0 lent early = go (eqb lent 0) (eqb early 0) refl refl where
  go : (b d : Bool) → eqb lent 0 ≡ b → eqb early 0 ≡ d → eqb (choose b (choose d 11 early) lent) 0 ≡ false
  go false d e e' = e
  go true false e e' = e'
  go true true e e' = refl
