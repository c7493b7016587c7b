-- What an answer says is said by no other: two answers that mean the same are equal. Assumes nothing.
use mathlib.Core.Path.{◌≡◌, refl, sym, ap, ◌∙◌}
use Prim.Native.Nat.{ℕ}
use lib.Dec.{eqb}
use Rattle.std.specs.Prelude.{⊤, Result, Ok, Err}
use Rattle.base.specs.Choose.{choose}
use Rattle.base.specs.declared.Refusal.{Refusal}
use Rattle.base.specs.declared.Refusal.TheVariants.{Tables, Window, Number, Place, OutsideWindow, TooManyBoxes, Unregistered, Malformed, NoWindow, Room, TooManyBlocks, Summary, TooMany}
use Rattle.base.specs.Refusals.{number_of, asked, verdict}

-- the refusal with a number
refusal_of : ℕ → Refusal
refusal_of n =
    choose (eqb n 1) Tables
    (choose (eqb n 2) Window
    (choose (eqb n 3) Number
    (choose (eqb n 4) Place
    (choose (eqb n 5) OutsideWindow
    (choose (eqb n 6) TooManyBoxes
    (choose (eqb n 7) Unregistered
    (choose (eqb n 8) Malformed
    (choose (eqb n 10) NoWindow
    (choose (eqb n 11) Room
    (choose (eqb n 12) TooManyBlocks
    (choose (eqb n 13) Summary TooMany)))))))))))

back : (e : Refusal) → refusal_of (number_of e) ≡ e
unfolding choose refusal_of
back Tables = refl
back Window = refl
back Number = refl
back Place = refl
back OutsideWindow = refl
back TooManyBoxes = refl
back Unregistered = refl
back Malformed = refl
back NoWindow = refl
back Room = refl
back TooManyBlocks = refl
back Summary = refl
back TooMany = refl

-- no two refusals have one number
pub one_number : (d e : Refusal) → number_of d ≡ number_of e → d ≡ e
one_number d e q = sym (back d) ∙ ap refusal_of q ∙ back e

-- and none has the number 0
pub some_number : (e : Refusal) → number_of e ≡ 0 → ⊥
some_number Tables h = cc
some_number Window h = cc
some_number Number h = cc
some_number Place h = cc
some_number OutsideWindow h = cc
some_number TooManyBoxes h = cc
some_number Unregistered h = cc
some_number Malformed h = cc
some_number NoWindow h = cc
some_number Room h = cc
some_number TooManyBlocks h = cc
some_number Summary h = cc
some_number TooMany h = cc

pub one_asked : {A : Type 0} (a b : Result A Refusal) → asked a ≡ asked b → a ≡ b
one_asked (Ok x) (Ok y) e = cc
one_asked (Ok x) (Err d) e = cc
one_asked (Err d) (Ok y) e = cc
one_asked (Err c) (Err d) e = let q : number_of c ≡ number_of d = cc in ap Err (one_number c d q)

pub one_verdict : (a b : Result ⊤ Refusal) → verdict a ≡ verdict b → a ≡ b
one_verdict (Ok a) (Ok b) h = refl
one_verdict (Ok a) (Err d) h = absurd (some_number d (sym h))
one_verdict (Err d) (Ok b) h = absurd (some_number d h)
one_verdict (Err c) (Err d) h = ap Err (one_number c d h)
