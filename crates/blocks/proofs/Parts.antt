-- How many words a block of each kind has, and how many blocks a part has. Assumes nothing.
use mathlib.Core.Bool.{Bool, true, false}
use mathlib.Core.Path.{◌≡◌, refl}
use Prim.Native.Nat.{ℕ, ◌+◌, ◌*◌, ◌/◌, ◌%◌, ◌≤◌, ◌<◌}
use native.Mathlib.Nat.{div-le_self, mod-lt, div-add-mod', mul-le-mul}
use native.Mathlib.Omega.{arith}
use lib.Dec.{T, eqb, eqb→eq}
use Rattle.base.specs.Choose.{choose}
use Rattle.blocks.specs.declared.Part.{Part}
use Rattle.blocks.specs.Blocks.{per_block, blocks_of, end_of, body_part, record_part, box_part, window_part}

-- ---- how many words a block of a kind has: 8 to 123

pub record Per (n : ℕ) : Type 0 where
  pub least : 8 ≤ n
  pub most : n ≤ 123

pub per-block : (kind : ℕ) → Per (per_block kind)
unfolding per_block choose
per-block kind = go (eqb kind 1) (eqb kind 2) (eqb kind 3) (eqb kind 4) (eqb kind 6)
  where
    go : (a b c d e : Bool) → Per (choose a 49 (choose b 120 (choose c 120 (choose d 8 (choose e 120 123)))))
    go true b c d e = record { least = omega arith; most = omega arith }
    go false true c d e = record { least = omega arith; most = omega arith }
    go false false true d e = record { least = omega arith; most = omega arith }
    go false false false true e = record { least = omega arith; most = omega arith }
    go false false false false true = record { least = omega arith; most = omega arith }
    go false false false false false = record { least = omega arith; most = omega arith }

-- ---- how many blocks: no more than there are words, and one

pub blocks-most : (p : Part) → blocks_of p ≤ p.words + 1
unfolding blocks_of choose
blocks-most p = go (eqb (p.words % per_block p.kind) 0) (p.words / per_block p.kind) (div-le_self p.words (per_block p.kind))
  where
    go : (b : Bool) (q : ℕ) → q ≤ p.words → q + choose b 0 1 ≤ p.words + 1
    go true q h = omega arith
    go false q h = omega arith

pub ruleset few = (blocks-most)

-- ---- where the parts begin fits 32 bits

body-blocks : blocks_of body_part ≡ 1
unfolding blocks_of per_block choose
body-blocks = refl

pub boxes-first : (s : ℕ) → s < 65536 → end_of (record_part s) < 2000000
boxes-first s h = let o = body-blocks in let m = blocks-most (record_part s) in omega arith

pub window-first : (s b : ℕ) → s < 65536 → b < 65536 → end_of (box_part s b) < 3000000
window-first s b h k = let a = boxes-first s h in let m = blocks-most (box_part s b) in omega arith

pub cells-first : (s b : ℕ) → s < 65536 → b < 65536 → end_of (window_part s b) < 4000000
cells-first s b h k = let a = window-first s b h k in let m = blocks-most (window_part s b) in omega arith

pub ruleset places = (boxes-first, window-first, cells-first)

-- ---- how many words 128 blocks hold

pub words-most : (p : Part) → p.words ≤ blocks_of p * per_block p.kind
unfolding blocks_of choose
words-most p = go (eqb (p.words % per_block p.kind) 0) (eqb→eq (p.words % per_block p.kind) 0) (div-add-mod' p.words (per_block p.kind)) (mod-lt p.words (positive (per-block p.kind).least))
  where
    positive : {n : ℕ} → 8 ≤ n → 0 < n
    positive h = omega arith

    go : (b : Bool) → (T b → p.words % per_block p.kind ≡ 0) → p.words / per_block p.kind * per_block p.kind + p.words % per_block p.kind ≡ p.words
        → p.words % per_block p.kind < per_block p.kind → p.words ≤ (p.words / per_block p.kind + choose b 0 1) * per_block p.kind
    go true e d m = let z = e tt in omega arith
    go false e d m = omega arith

pub room : (p : Part) → end_of p ≤ 128 → p.words ≤ 15744
room p h =
    let b : blocks_of p ≤ 128 = omega arith in
    let m : blocks_of p * per_block p.kind ≤ 15744 = mul-le-mul {n₂ = 128} {m₂ = 123} b (per-block p.kind).most in
    let w = words-most p in
    omega arith
