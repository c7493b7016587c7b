-- The feet of each tick, read back from the numbers that a run wrote. Assumes nothing.
use mathlib.Core.List.{List, [], ◌∷◌, ◌++◌}
use mathlib.Core.Path.{◌≡◌, refl, ap, ◌∙◌}
use Prim.Native.Nat.{ℕ, zero, suc, ◌+◌, ◌*◌, ◌≤◌}
use native.Mathlib.Omega.{arith}
use lib.Ieee.{Float}
use lib.ListN.{length, drop, get_or}
use Rattle.base.specs.Loop.{listed, stored}
use Rattle.base.proofs.Stored.{stored-front}
use Rattle.floats.specs.Numbers.{zero64}
use Rattle.boxes.specs.declared.Vec3.{Vec3}
use Rattle.boxes.specs.Boxes.{vec}
use Rattle.minute_state.specs.Minute.{State, lines_as_numbers}
use Rattle.minute_state.specs.Turns.{Minute, minute_of}
use Rattle.minute_state.proofs.Turns.{numbers-length}
use Rattle.text.specs.Cursor.{Put}
use Rattle.minute_told.specs.Printed.{text_by, minute_text, feet_at}

module _ {A : Type 0} (f g : ℕ → A) (h : (j : ℕ) → f (j + 1) ≡ g j) where
  listed-shift : (n i : ℕ) → listed f n (i + 1) ≡ listed g n i
  unfolding listed
  listed-shift zero i = refl
  listed-shift (suc n) i = let a = h i in let b = listed-shift n (i + 1) in λ k. a k ∷ b k

behind-three : (x y z : Float) (l : List Float) (i : ℕ) → feet_at (x ∷ y ∷ z ∷ l) (i + 1) ≡ feet_at l i
behind-three x y z l i =
    let a : (i + 1) * 3 ≡ suc (suc (suc (i * 3))) = omega arith in
    let b : (i + 1) * 3 + 1 ≡ suc (suc (suc (i * 3 + 1))) = omega arith in
    let c : (i + 1) * 3 + 2 ≡ suc (suc (suc (i * 3 + 2))) = omega arith in
    λ k. vec (get_or (x ∷ y ∷ z ∷ l) (a k) zero64) (get_or (x ∷ y ∷ z ∷ l) (b k) zero64) (get_or (x ∷ y ∷ z ∷ l) (c k) zero64)

read_back : (vs : List Vec3) (rest : List Float) → listed (feet_at (lines_as_numbers vs ++ rest)) (length vs) 0 ≡ vs
unfolding listed lines_as_numbers
read_back [] rest = refl
read_back (v ∷ vs) rest =
    ap (λ (t : List Vec3). v ∷ t)
    (listed-shift (feet_at (v.x ∷ v.y ∷ v.z ∷ (lines_as_numbers vs ++ rest))) (feet_at (lines_as_numbers vs ++ rest)) (behind-three v.x v.y v.z (lines_as_numbers vs ++ rest)) (length vs) 0 ∙ read_back vs rest)

pub feet-back : (feet : List Float) (vs : List Vec3) → length vs * 3 ≤ length feet → listed (feet_at (stored feet 0 (lines_as_numbers vs))) (length vs) 0 ≡ vs
feet-back feet vs h =
    let n = numbers-length vs in
    ap (λ (l : List Float). listed (feet_at l) (length vs) 0) (stored-front feet (lines_as_numbers vs) (omega arith)) ∙ read_back vs (drop (length (lines_as_numbers vs)) feet)

-- ---- what is told of a run is the text of its state

pub printed : (s : State) (feet after : List Float) (m : Minute) {out end : List ℕ} {r : ℕ} → length s.lines * 3 ≤ length feet
    → m ≡ minute_of s → after ≡ stored feet 0 (lines_as_numbers s.lines) → Put out 0 (text_by (listed (feet_at after) m.ticks 0) m.refusal) end r
    → Put out 0 (minute_text s) end r
printed s feet after m h em ea p =
    let back = ap (λ (k : ℕ). listed (feet_at after) k 0) (ap (λ (t : Minute). t.ticks) em)
    ∙ ap (λ (l : List Float). listed (feet_at l) (length s.lines) 0) ea ∙ feet-back feet s.lines h in
    rw (back, ap (λ (t : Minute). t.refusal) em) at p
