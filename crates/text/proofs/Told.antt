-- The text of an answer is `text_of` at the number of its refusal, where that is not 0, and at 0 where there is none. Assumes nothing.
use mathlib.Core.Path.{◌≡◌, refl}
use Prim.Native.Nat.{ℕ}
use borrow.Author.Tests.{ne_eqb}
use Rattle.std.specs.Prelude.{Ok, Err}
use Rattle.base.specs.Choose.{choose}
use Rattle.base.specs.declared.Refusal.{Refusal}
use Rattle.base.specs.declared.Refusal.TheVariants.{Tables, Window, Number, Place, OutsideWindow, TooManyBoxes, Unregistered, Malformed, NoWindow, Room, TooManyBlocks, Summary, TooMany}
use Rattle.base.specs.Refusals.{number_of}
use Rattle.bodies.specs.declared.MotionNumbers.{MotionNumbers}
use Rattle.tables.specs.declared.LiquidKind.{LiquidKind}
use Rattle.text.specs.declared.Lines.{Lines}
use Rattle.text.specs.Text.{text_of}
use Rattle.text.specs.Told.{told_text, told_by}

pub told-lines : (l : Lines) → told_text (Ok l) ≡ text_of 0 l.motion l.liquid
unfolding text_of choose
told-lines l = refl

-- of whatever says a number but 0
pub told-any : {V : Type 0} (says : V → ℕ) (v : V) (m : MotionNumbers) (k : LiquidKind) → (says v ≡ 0 → ⊥) → told_by says (Err v) ≡ text_of (says v) m k
unfolding text_of choose
told-any says v m k h = rw (ne_eqb (says v) 0 h)

pub told_refusal : (e : Refusal) (m : MotionNumbers) (k : LiquidKind) → told_text (Err e) ≡ text_of (number_of e) m k
unfolding text_of choose
told_refusal Tables m k = refl
told_refusal Window m k = refl
told_refusal Number m k = refl
told_refusal Place m k = refl
told_refusal OutsideWindow m k = refl
told_refusal TooManyBoxes m k = refl
told_refusal Unregistered m k = refl
told_refusal Malformed m k = refl
told_refusal NoWindow m k = refl
told_refusal Room m k = refl
told_refusal TooManyBlocks m k = refl
told_refusal Summary m k = refl
told_refusal TooMany m k = refl
