-- The lines of a minute, one behind the other. Assumes nothing.
use mathlib.Core.List.{List, ◌++◌, append-nil, append_assoc}
use mathlib.Core.Path.{◌≡◌, sym, ap, ◌∙◌}
use Prim.Native.Nat.{ℕ, zero, suc, ◌+◌, ◌≤◌}
use native.Mathlib.Omega.{arith}
use Rattle.base.specs.Loop.{listed}
use Rattle.boxes.specs.declared.Vec3.{Vec3}
use Rattle.text.specs.Text.{feet_line}
use Rattle.text.specs.Cursor.{Put}
use Rattle.text.proofs.Cursor.{then, nothing}
use Rattle.minute_told.specs.Printed.{feet_lines, ending, text_by}

lines_more : (f : ℕ → Vec3) (k i : ℕ) → feet_lines (listed f (suc k) i) ≡ feet_lines (listed f k i) ++ feet_line (f (i + k))
unfolding feet_lines listed
lines_more f zero i = let e : i + 0 ≡ i = omega arith in append-nil (feet_line (f i)) ∙ ap (λ (j : ℕ). feet_line (f j)) (sym e)
lines_more f (suc k) i =
    let e : i + suc k ≡ i + 1 + k = omega arith in
    ap (λ (l : List ℕ). feet_line (f i) ++ l) (lines_more f k (i + 1) ∙ ap (λ (j : ℕ). feet_lines (listed f k (i + 1)) ++ feet_line (f j)) (sym e))
    ∙ sym (append_assoc (feet_line (f i)) (feet_lines (listed f k (i + 1))) (feet_line (f (i + suc k))))

pub lines-begin : (out : List ℕ) (f : ℕ → Vec3) → Put out 0 (feet_lines (listed f 0 0)) out 0
unfolding feet_lines listed
lines-begin out f = nothing out 0

pub lines-turn : {out mid after : List ℕ} {cursor r : ℕ} (f : ℕ → Vec3) (k : ℕ) → Put out 0 (feet_lines (listed f k 0)) mid cursor → Put mid cursor (feet_line (f k)) after r
    → Put out 0 (feet_lines (listed f (k + 1) 0)) after r
lines-turn f k p q =
    let e : k + 1 ≡ suc k = omega arith in
    let z : 0 + k ≡ k = omega arith in
    rw (e, lines_more f k 0, z) (then p q)

pub lines_end : {out mid : List ℕ} {cursor : ℕ} (f : ℕ → Vec3) (n k : ℕ) → k ≤ n → n ≤ k → Put out 0 (feet_lines (listed f k 0)) mid cursor → Put out 0 (feet_lines (listed f n 0)) mid cursor
lines_end f n k h h' p = let e : k ≡ n = omega arith in rw e at p

-- ---- the whole

pub all-put : {out mid end : List ℕ} {at r : ℕ} (lines : List Vec3) (refusal : ℕ) → Put out 0 (feet_lines lines) mid at → Put mid at (ending refusal) end r
    → Put out 0 (text_by lines refusal) end r
unfolding text_by
all-put lines refusal p q = then p q
