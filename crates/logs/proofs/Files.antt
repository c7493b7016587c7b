-- From what the program finds of a file to what the definitions say of it. Assumes nothing.
use mathlib.Core.Bool.{Bool, true, false, ◌&&◌}
use mathlib.Core.List.{List, []}
use mathlib.Core.Path.{◌≡◌, sym, ap, ◌∙◌}
use Prim.Native.Nat.{ℕ, ◌+◌, ◌-◌, ◌*◌, ◌%◌, ◌≤◌, ◌<◌, min}
use native.Mathlib.Decide.{dec_lt}
use native.Mathlib.Omega.{arith}
use lib.Dec.{eqb, ltb, leb}
use lib.ListN.{length, take, length-take}
use lib.Seq.{take_all}
use borrow.Author.Tests.{le-leb, le-ltb}
use Rattle.base.specs.Choose.{choose}
use Rattle.base.proofs.Every.{both, and_right}
use Rattle.blocks.specs.Blocks.{part_fits, log_part}
use Rattle.files.specs.Files.{counts_fit, counts_of, flap_fits, blocks_for, blocks_fit, is_scene}
use Rattle.files.proofs.Told.{tells}
use Rattle.logs.specs.declared.Log.{Log}
use Rattle.logs.specs.Logs.{end_fits, events_fit, first_blocks, scene_in, blocks_in, log_word, log_of, log_fits, whole_log, is_log}

-- ---- the scene at a file's start

module _ (file : List ℕ) where
  -- no more bytes than there are
  pub cut : (n : ℕ) → take (min (length file) n) file ≡ take n file
  cut n = go (dec_lt n (length file))
    where
      go : Dec (n < length file) → take (min (length file) n) file ≡ take n file
      go (yes l) = let e : min (length file) n ≡ n = omega arith in rw e
      go (no l) = let e : min (length file) n ≡ length file = omega arith in rw e (take_all (length file) file (omega arith) ∙ sym (take_all n file (omega arith)))

  -- it is a part of the file
  first-most : (b : ℕ) → length (first_blocks file b) ≤ length file
  unfolding first_blocks choose
  first-most b = go (leb b 128)
    where
      go : (t : Bool) → length (choose t (take (b * 512) file) []) ≤ length file
      go true = let e = length-take (b * 512) file in omega arith
      go false = omega arith

  pub scene-most : length (scene_in file) ≤ length file
  unfolding scene_in choose
  scene-most = go (counts_fit file)
    where
      go : (t : Bool) → length (choose t (first_blocks file (blocks_for (counts_of file))) []) ≤ length file
      go true = first-most (blocks_for (counts_of file))
      go false = omega arith

pub ruleset most = (scene-most)

pub ruleset cuts = (cut)

-- ---- a file that is a scene is no log: nothing lies behind it

none-behind : (word : ℕ → ℕ) (blocks e : ℕ) → blocks ≡ 0 → events_fit word blocks e ≡ false
unfolding events_fit end_fits
none-behind word blocks e z =
    let h : blocks * 30 ≤ e = omega arith in
    let n = and_right (leb (blocks * 30) (e + 30)) (ltb e (blocks * 30)) (le-ltb e (blocks * 30) h) in
    rw n

module _ (file : List ℕ) (s : is_scene file ≡ true) where
  scene-whole : scene_in file ≡ file
  unfolding is_scene scene_in first_blocks choose
  scene-whole =
      let t = tells file s in
      let size = t.size in
      let c = (both (counts_fit file) (flap_fits file && blocks_fit file (counts_of file)) s).one in
      rw (c, le-leb (blocks_for (counts_of file)) 128 t.few) (take_all (blocks_for (counts_of file) * 512) file (omega arith))

  no_block : (log_of file).blocks ≡ 0
  no_block = ap (λ (f : List ℕ). blocks_in file - blocks_in f) scene-whole ∙ itself (blocks_in file)
    where
      itself : (n : ℕ) → n - n ≡ 0
      itself n = omega arith

  pub scene-no-log : is_log file ≡ false
  unfolding is_log whole_log log_fits
  scene-no-log =
      let l : Log = log_of file in
      let e = none-behind (log_word file l.scene l.blocks) l.blocks l.events no_block in
      and_right (is_scene (scene_in file)) _ (and_right (leb (blocks_in file) 128) _ (and_right (eqb (length file % 512) 0) _ (and_right (part_fits file (log_part l.scene l.blocks)) _ e)))
