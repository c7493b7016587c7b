-- A block of a file: its words are the file's at their place, and its bytes the file's. Assumes nothing.
use mathlib.Core.Bool.{Bool, true, false}
use mathlib.Core.List.{List, []}
use mathlib.Core.Path.{◌≡◌, ap, ◌∙◌}
use Prim.Native.Nat.{ℕ, ◌+◌, ◌*◌, ◌/◌, ◌≤◌, ◌<◌}
use native.Mathlib.Decide.{dec_lt}
use native.Mathlib.Omega.{arith}
use lib.Dec.{ltb}
use lib.ListN.{length, get_or, take, drop, length-take, get_or-eq_default}
use lib.Seq.{get_or-take, get_or-drop}
use borrow.Author.Tests.{lt-ltb}
use Rattle.base.specs.Choose.{choose}
use Rattle.block_checks.specs.Checks.{file_word}
use Rattle.block_rules.specs.Rules.{block_of}

-- ---- its words and bytes

pub block-is : (file : List ℕ) (b : ℕ) → b < length file / 512 → block_of file b ≡ take 512 (drop (b * 512) file)
unfolding block_of choose
block-is file b h = rw (lt-ltb b (length file / 512) h)

pub block-word : (file : List ℕ) (b k : ℕ) → b < length file / 512 → k < 128 → file_word (block_of file b) k ≡ file_word file (b * 128 + k)
unfolding file_word
block-word file b k h l =
    let z : k * 4 + 0 ≡ k * 4 = omega arith in
    let y : (b * 128 + k) * 4 + 0 ≡ (b * 128 + k) * 4 = omega arith in
    let e : get_or (take 512 (drop (b * 512) file)) (k * 4) 0 ≡ get_or file ((b * 128 + k) * 4) 0 = rw (z, y) at (byte 0 (omega arith)) in
    rw (block-is file b h, e, byte 1 (omega arith), byte 2 (omega arith), byte 3 (omega arith))
  where
    byte : (m : ℕ) → m < 4 → get_or (take 512 (drop (b * 512) file)) (k * 4 + m) 0 ≡ get_or file ((b * 128 + k) * 4 + m) 0
    byte m q =
        let e : b * 512 + (k * 4 + m) ≡ (b * 128 + k) * 4 + m = omega arith in
        get_or-take 512 (drop (b * 512) file) (k * 4 + m) 0 (omega arith) ∙ get_or-drop (b * 512) file (k * 4 + m) 0 ∙ ap (λ (n : ℕ). get_or file n 0) e

module _ (file : List ℕ) (small : (i : ℕ) → get_or file i 0 < 256) where
  taken-small : (b i : ℕ) → Dec (i < 512) → get_or (take 512 (drop b file)) i 0 < 256
  taken-small b i (yes h) = rw (get_or-take 512 (drop b file) i 0 h, get_or-drop b file i 0) (small (b + i))
  taken-small b i (no h) =
      let o : length (take 512 (drop b file)) ≤ i = rw (length-take 512 (drop b file)) (omega arith) in
      rw (get_or-eq_default (take 512 (drop b file)) 0 o) (omega arith)

  pub block-small : (b i : ℕ) → get_or (block_of file b) i 0 < 256
  unfolding block_of choose
  block-small b i = go (ltb b (length file / 512))
    where
      go : (t : Bool) → get_or (choose t (take 512 (drop (b * 512) file)) []) i 0 < 256
      go true = taken-small (b * 512) i (dec_lt i 512)
      go false = omega arith
