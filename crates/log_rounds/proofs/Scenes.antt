-- A scene at the start of a longer file is the scene that is found there. Assumes nothing.
use mathlib.Core.Bool.{Bool, true, false, ◌&&◌}
use mathlib.Core.List.{List, [], ◌++◌}
use mathlib.Core.Path.{◌≡◌, refl, sym, ◌∙◌}
use Prim.Native.Nat.{ℕ, ◌+◌, ◌*◌, ◌/◌, ◌<◌, ◌≤◌, min}
use native.Mathlib.Decide.{dec_lt}
use native.Mathlib.Omega.{arith}
use lib.Dec.{leb}
use lib.ListN.{length, take, drop, length-append, length-take, length-drop}
use lib.Seq.{take-append-le, drop-append-le, take_at, take_all}
use borrow.Author.Tests.{lt-ltb, le-ltb, le-leb}
use Rattle.base.specs.Choose.{choose}
use Rattle.base.proofs.Every.{both}
use Rattle.blocks.specs.declared.Part.{Part}
use Rattle.blocks.specs.Blocks.{block_of, per_block, end_of, part_word, body_part, window_part}
use Rattle.block_rules.proofs.Blocks.{block-is}
use Rattle.files.specs.Places.{states_place, boxes_place}
use Rattle.files.specs.Files.{body_word, flap_fits, window_in, sizes_in, counts_in, counts_fit, counts_of, blocks_for, blocks_fit, is_scene}
use Rattle.files.proofs.Told.{Told, tells}
use Rattle.part_writer.proofs.Counts.{within}
use Rattle.logs.specs.Logs.{first_blocks, scene_in}

-- ---- what stands in a file's whole blocks stays, whatever comes behind them

module _ (file more : List ℕ) where
  pub block_more : (b : ℕ) → b < length file / 512 → block_of (file ++ more) b ≡ block_of file b
  block_more b h =
      let l = length-append file more in
      let d = length-drop (b * 512) file in
      block-is (file ++ more) b (omega arith)
      ∙ rw (drop-append-le (b * 512) file more (omega arith)) (take-append-le 512 (drop (b * 512) file) more (omega arith))
      ∙ sym (block-is file b h)

  module _ (p : Part) (whole : end_of p * 512 ≤ length file) where
    word-at : (i : ℕ) → part_word (file ++ more) p i ≡ part_word file p i
    unfolding part_word choose
    word-at i = go (dec_lt i p.words)
      where
        go : Dec (i < p.words) → part_word (file ++ more) p i ≡ part_word file p i
        go (yes l) =
            let w = (within p i l).block-there in
            rw (lt-ltb i p.words l, block_more (p.first + i / per_block p.kind) (omega arith))
        go (no l) =
            let g : p.words ≤ i = omega arith in
            rw (le-ltb i p.words g)

    word_more : part_word (file ++ more) p ≡ part_word file p
    word_more j i = word-at i j

-- ---- a scene, with more behind it

module _ (file more : List ℕ) (s : is_scene file ≡ true) where
  abbrev told : Told file (counts_of file)
  told = tells file s

  body_same : (i : ℕ) → body_word (file ++ more) i ≡ body_word file i
  body_same i = let size = told.size in word-at file more body_part (omega arith) i

  place_same : part_word (file ++ more) (window_part (body_word file states_place) (body_word file boxes_place)) ≡ part_word file (window_part (body_word file states_place) (body_word file boxes_place))
  unfolding counts_in
  place_same = let size = told.size in word_more file more (window_part (body_word file states_place) (body_word file boxes_place)) (omega arith)

  sizes-same : sizes_in (file ++ more) ≡ sizes_in file
  unfolding sizes_in window_in
  sizes-same = rw (body_same states_place, body_same boxes_place, place_same)

  counts_same : counts_of (file ++ more) ≡ counts_of file
  unfolding counts_in
  counts_same = rw (sizes-same, body_same states_place, body_same boxes_place)

  fit_same : counts_fit (file ++ more) ≡ true
  unfolding counts_fit is_scene
  fit_same =
      let c = (both (counts_fit file) (flap_fits file && blocks_fit file (counts_of file)) s).one in
      rw (sizes-same, body_same states_place, body_same boxes_place) c

  pub scene-first : scene_in (file ++ more) ≡ file
  unfolding scene_in first_blocks choose
  scene-first =
      rw (fit_same, counts_same, le-leb (blocks_for (counts_of file)) 128 told.few) (take_at file more (blocks_for (counts_of file) * 512) told.size)

-- ---- the scene that is found is the file's start

taken : (l : List ℕ) (n : ℕ) → take (length (take n l)) l ≡ take n l
taken l n = go (dec_lt n (length l)) (length-take n l)
  where
    go : Dec (n < length l) → length (take n l) ≡ min n (length l) → take (length (take n l)) l ≡ take n l
    go (yes h) e = let q : length (take n l) ≡ n = omega arith in rw q
    go (no h) e =
        let q : length (take n l) ≡ length l = omega arith in
        rw q (take_all (length l) l (omega arith) ∙ sym (take_all n l (omega arith)))

pub scene-start : (file : List ℕ) → take (length (scene_in file)) file ≡ scene_in file
unfolding scene_in first_blocks choose
scene-start file = go (counts_fit file) (leb (blocks_for (counts_of file)) 128)
  where
    go : (a b : Bool) → take (length (choose a (choose b (take (blocks_for (counts_of file) * 512) file) []) [])) file ≡ choose a (choose b (take (blocks_for (counts_of file) * 512) file) []) []
    go true true = taken file (blocks_for (counts_of file) * 512)
    go true false = refl
    go false b = refl
