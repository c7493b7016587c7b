-- The bits of an f32 that is no number, and a block out of an array. Assumes nothing.
use mathlib.Core.Bool.{true}
use mathlib.Core.List.{List}
use mathlib.Core.Path.{◌≡◌, sym, ap, subst}
use Prim.Native.Nat.{ℕ, ◌+◌, ◌*◌, ◌<◌}
use native.Mathlib.Omega.{arith}
use lib.Dec.{T}
use lib.Ieee.{Float, binary32, to_bits, ne}
use lib.Ieee.Compare.{differs_from_itself}
use Rattle.base.specs.Loop.{listed}
use Rattle.blocks.specs.declared.Part.{Part}
use Rattle.blocks.specs.Blocks.{per_block, used_in}
use Rattle.blocks.proofs.Parts.{per-block}
use Rattle.part_writer.specs.Bytes.{block_bytes, part_block, word_in}
use Rattle.base.proofs.Listed.{listed-from}
use Rattle.block_writer.proofs.Blocks.{block_same}
use Rattle.part_writer.proofs.Counts.{used-most}

pub bits_of_nan : (x : Float) → ne x x ≡ true → 2143289344 ≡ to_bits binary32 x
unfolding to_bits
bits_of_nan x h = ap (to_bits binary32) (sym (differs_from_itself x (subst T (sym h) tt)))

-- block j of the part, out of an array that holds its words
pub block-from : (p : Part) (f : ℕ → ℕ) (j : ℕ) (words : List ℕ) → words ≡ listed (λ k. f (j * per_block p.kind + k)) 123 0
    → block_bytes (p.first + j) p.kind (λ k. word_in words (0 + k)) (used_in p j) ≡ part_block p f j
unfolding part_block
block-from p f j words e =
    let m = (per-block p.kind).most in
    let u = used-most p j in
    block_same (p.first + j) p.kind (λ k. word_in words (0 + k)) (λ k. f (j * per_block p.kind + k)) (used_in p j) (λ k h. at k (omega arith))
  where
    at : (k : ℕ) → k < 123 → word_in words (0 + k) ≡ f (j * per_block p.kind + k)
    at k h =
        let z : 0 + k ≡ k = omega arith in
        rw (z, e) (listed-from (λ (k : ℕ). f (j * per_block p.kind + k)) 123 k 0 h)
