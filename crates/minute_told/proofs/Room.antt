-- How long what is printed of a minute is: 56 bytes for a line, and 10 for a refusal. Assumes nothing.
use mathlib.Core.Bool.{Bool, true, false}
use mathlib.Core.List.{List, [], ◌∷◌}
use mathlib.Core.Path.{◌≡◌, refl, ◌∙◌}
use Prim.Native.Nat.{ℕ, ◌+◌, ◌*◌, ◌≤◌}
use native.Mathlib.Omega.{arith}
use lib.Dec.{eqb}
use lib.ListN.{length, length-append}
use Rattle.base.specs.Choose.{choose}
use Rattle.boxes.specs.declared.Vec3.{Vec3}
use Rattle.text.specs.Text.{feet_line, refused_text}
use Rattle.text.proofs.Sizes.{feet-length, refused-length}
use Rattle.minute_told.specs.Printed.{feet_lines, ending, text_by}

lines-length : (vs : List Vec3) → length (feet_lines vs) ≡ length vs * 56
unfolding feet_lines
lines-length [] = refl
lines-length (v ∷ vs) =
    let e : length (feet_lines vs) ≡ length vs * 56 = lines-length vs in
    let f = feet-length v in
    length-append (feet_line v) (feet_lines vs) ∙ (omega arith)

ending-most : (refusal : ℕ) → length (ending refusal) ≤ 10
unfolding ending choose
ending-most refusal = go (eqb refusal 0) (refused-length refusal)
  where
    go : (b : Bool) → length (refused_text refusal) ≡ 10 → length (choose b [] (refused_text refusal)) ≤ 10
    go true e = omega arith
    go false e = omega arith

pub text-length : (lines : List Vec3) (refusal : ℕ) → length (text_by lines refusal) ≤ length lines * 56 + 10
unfolding text_by
text-length lines refusal =
    let n = length-append (feet_lines lines) (ending refusal) in
    let l = lines-length lines in
    let e = ending-most refusal in
    omega arith
