-- A sound block of the new mark with two words exchanged fits by neither rule, whatever its kind and number are to be, unless 2^32 divides the places
-- apart times the difference of the words. Assumes nothing.
use mathlib.Core.Bool.{Bool, true, false, ◌&&◌}
use mathlib.Core.List.{List}
use mathlib.Core.Path.{◌≡◌, sym, ◌∙◌}
use Prim.Native.Nat.{ℕ, ◌*◌, ◌%◌, ◌<◌}
use native.Mathlib.Omega.{arith}
use lib.Dec.{eqb}
use lib.ListN.{take}
use borrow.Author.Tests.{eqb-true}
use Rattle.base.specs.Choose.{choose}
use Rattle.base.proofs.Every.{both}
use Rattle.suffixes.proofs.Texts.{equal-same}
use Rattle.blocks.specs.Blocks.{old_mark, new_mark, file_word, marked, second_of, word126, check_of, rest_zero, block_fits}
use Rattle.block_checks.proofs.Words.{first_word}
use Rattle.exchange.specs.Exchange.{distance, Among, Exchanged}
use Rattle.exchange.proofs.Checks.{agree}

-- what a block that fits has in words 0 and 126
record Sound (second : Bool) (block : List ℕ) : Type 0 where
  mark : file_word block 0 ≡ file_word (choose second new_mark old_mark) 0
  check : file_word block 126 ≡ word126 second block

sound : (second : Bool) (block : List ℕ) (number kind used : ℕ) → block_fits second block number kind used ≡ true → Sound second block
unfolding block_fits marked
sound second block number kind used h =
    let m : Bool = marked second block in
    let k : Bool = eqb (file_word block 1) kind in
    let n : Bool = eqb (file_word block 2) number in
    let r : Bool = rest_zero block used in
    let w : Bool = eqb (file_word block 126) (word126 second block) in
    let a = both (m && k && n && r && w) (eqb (file_word block 127) (check_of block)) h in
    let b = both (m && k && n && r) w a.one in
    let c = both (m && k && n) r b.one in
    let d = both (m && k) n c.one in
    record {
      mark = first_word block (choose second new_mark old_mark) (equal-same (take 4 block) (choose second new_mark old_mark) (both m k d.one).one);
      check = eqb-true (file_word block 126) (word126 second block) b.two;
    }

-- the two marks are two words
two-marks : file_word new_mark 0 ≡ file_word old_mark 0 → ⊥
unfolding file_word
two-marks e = omega arith

module _ (block other : List ℕ) (i j : ℕ) (among : Among i j) (exchanged : Exchanged (file_word block) (file_word other) i j)
    (number kind used : ℕ) (fits : block_fits true block number kind used ≡ true) where
  kept : (k : ℕ) → k < 128 → (k < 1) → file_word other k ≡ file_word block k
  kept k h l =
      let a = among.one in
      let b = among.two in
      exchanged.others k h (λ e. omega arith) (λ e. omega arith)

  kept-last : file_word other 126 ≡ file_word block 126
  kept-last =
      let a = among.one-most in
      let b = among.two-most in
      exchanged.others 126 (omega arith) (λ e. omega arith) (λ e. omega arith)

  by-rule : (second : Bool) → Sound second other → distance i j * distance (file_word block i) (file_word block j) % 4294967296 ≡ 0
  unfolding word126 second_of choose
  by-rule true s =
      agree (file_word block) (file_word other) i j among exchanged (sym s.check ∙ kept-last ∙ (sound true block number kind used fits).check)
  by-rule false s = absurd (two-marks (sym (sound true block number kind used fits).mark ∙ sym (kept 0 (omega arith) (omega arith)) ∙ s.mark))

  pub only-multiples : (second : Bool) (number' kind' used' : ℕ) → block_fits second other number' kind' used' ≡ true
      → distance i j * distance (file_word block i) (file_word block j) % 4294967296 ≡ 0
  only-multiples second number' kind' used' h = by-rule second (sound second other number' kind' used' h)
