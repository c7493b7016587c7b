-- Limits: a number is finite and of size at most a limit exactly when it lies between the two ends, and what the counts of a table come to.
-- Assumes nothing.
use mathlib.Core.Bool.{Bool, true, false, ◌&&◌, ◌||◌}
use mathlib.Core.Path.{◌≡◌, refl, sym}
use mathlib.Core.List.{List}
use Prim.Native.Nat.{ℕ, ◌+◌, ◌*◌, ◌%◌, ◌<◌, ◌≤◌}
use native.Mathlib.Nat.{mul-pos}
use native.Mathlib.Omega.{arith}
use lib.ListN.{length}
use lib.Dec.{ltb, leb, eqb}
use lib.IntN.{ℤ, pos}
use lib.Ieee.{Float, nan, inf, fin, binary64, of_bits, up, down, lt, eq, le}
use lib.Ieee.Fits.{up_pos, down_pos}
use borrow.Author.Tests.{lt-ltb, eq-eqb, ne_eqb, eqb-true, eqb-false, leb-true}
use Rattle.base.specs.Choose.{choose}
use Rattle.base.proofs.Every.{both}
use Rattle.floats.specs.Numbers.{is_within_limit, size_of}
use Rattle.cover.specs.Cover.{box_count}
use Rattle.table_check.specs.Check.{state_count, table_counts_fit, sixteen, four}

-- ---- between -limit and limit
some-above : (a b : ℕ) → 0 < a → ltb 0 (a + b) ≡ true
some-above a b h = lt-ltb 0 (a + b) (omega arith)

any-above : (a b : ℕ) → 0 < b → ltb 0 (a + b) ≡ true
any-above a b h = lt-ltb 0 (a + b) (omega arith)

and_one : (a : Bool) → a && true ≡ a
and_one true = refl
and_one false = refl

eqb_comm : (a b : ℕ) → eqb a b ≡ eqb b a
eqb_comm a b = go (eqb b a) refl
  where
    go : (t : Bool) → eqb b a ≡ t → eqb a b ≡ t
    go true e = eq-eqb a b (sym (eqb-true b a e))
    go false e = ne_eqb a b (λ (h : a ≡ b). eqb-false b a e (sym h))

four-pos : (e : ℤ) → 0 < 1 * up (pos 2) * down e
four-pos e = mul-pos (mul-pos {m = 1} (omega arith) (up_pos (pos 2))) (down_pos e)

pub between : (x : Float) → is_within_limit x four ≡ le (fin true 1 (pos 2)) x && le x four
unfolding choose size_of le lt eq
between nan = refl
between (inf true) = refl
between (inf false) = refl
between (fin false m e) = rw (some-above (1 * up (pos 2) * down e) (m * up e * down (pos 2)) (four-pos e))
between (fin true m e) =
    let a : ℕ = 1 * up (pos 2) * down e in
    let b : ℕ = m * up e * down (pos 2) in
    rw (any-above b a (four-pos e), eqb_comm a b) (sym (and_one (ltb b a || eqb b a && true)))

-- ---- literals of the code
pub sixteen-bits : of_bits binary64 0x4030000000000000 ≡ sixteen
unfolding of_bits
sixteen-bits = refl

-- ---- the counts
pub few-states : (records : List ℕ) (shapes : List Float) → table_counts_fit records shapes ≡ true → state_count records ≤ 4096
unfolding table_counts_fit
few-states records shapes h =
    let a : Bool = eqb (length records % 20) 0 in
    let b : Bool = eqb (length shapes % 6) 0 in
    let c : Bool = leb 1 (state_count records) in
    let d : Bool = leb (state_count records) 4096 in
    let abcd = both (a && b && c && d) (leb (box_count shapes) 16384) h in
    leb-true (state_count records) 4096 (both (a && b && c) d abcd.one).two
