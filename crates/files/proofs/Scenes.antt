-- From what the program finds of a file's counts to what the definitions say of the file. Assumes nothing.
use mathlib.Core.Bool.{Bool, true, false, ◌&&◌, true≢false, false≢true}
use mathlib.Core.List.{List}
use mathlib.Core.Path.{◌≡◌, refl, sym, ap}
use Prim.Native.Nat.{ℕ, ◌*◌, ◌≤◌}
use native.Mathlib.Omega.{arith}
use lib.Dec.{leb, eqb}
use lib.ListN.{length}
use borrow.Author.Tests.{leb-true}
use Rattle.base.specs.Choose.{choose}
use Rattle.base.specs.Ask.{Ask, refused, found}
use Rattle.base.proofs.Every.{both}
use Rattle.window.proofs.Check.{sizes-small, layer-count, cell-count, column-count}
use Rattle.blocks.specs.Blocks.{record_part, box_part, cell_part}
use Rattle.blocks.proofs.Parts.{room}
use Rattle.files.specs.declared.Counts.{Counts}
use Rattle.files.specs.Files.{counts_fit, counts_of, flap_fits, parts_fit, blocks_for, blocks_fit, is_scene}

-- ---- found where a test holds, and else refused by 8

abbrev has_found : {A : Type 0} → Ask A → Bool
has_found (refused k) = false
has_found (found a) = true

abbrev found_or : {A : Type 0} → A → Ask A → A
found_or d (refused k) = d
found_or d (found a) = a

pub unfit : {A : Type 0} (b : Bool) (m : A) → refused 8 ≡ choose b (found m) (refused 8) → b ≡ false
unfolding choose
unfit true m e = absurd (false≢true (ap has_found e))
unfit false m e = refl

pub record Are {A : Type 0} (b : Bool) (n m : A) : Type 0 where
  pub test : b ≡ true
  pub same : m ≡ n

pub are : {A : Type 0} (b : Bool) (n m : A) → found n ≡ choose b (found m) (refused 8) → Are b n m
unfolding choose
are true n m e = record { test = refl; same = sym (ap (found_or n) e) }
are false n m e = absurd (true≢false (ap has_found e))

-- how many words a window of sizes within their limits has
pub ruleset small = (sizes-small, layer-count, cell-count, column-count)

-- ---- the counts of a scene

pub no-scene : (file : List ℕ) → refused 8 ≡ choose (is_scene file) (found (counts_of file)) (refused 8) → is_scene file ≡ false
no-scene file e = unfit (is_scene file) (counts_of file) e

-- how many words its parts have: 128 blocks hold no more
pub record Rooms (n : Counts) : Type 0 where
  pub records : n.states * 20 ≤ 15744
  pub shapes : n.boxes * 6 ≤ 15744
  pub cells : n.cells ≤ 15744

pub rooms : (n : Counts) → blocks_for n ≤ 128 → Rooms n
rooms n h =
    record {
      records = room (record_part n.states) (omega arith);
      shapes = room (box_part n.states n.boxes) (omega arith);
      cells = room (cell_part n.states n.boxes n.cells) h;
    }

pub record Scene (file : List ℕ) (n : Counts) : Type 0 where
  pub test : is_scene file ≡ true
  pub same : counts_of file ≡ n
  pub few : blocks_for n ≤ 128

few-blocks : (file : List ℕ) → is_scene file ≡ true → blocks_for (counts_of file) ≤ 128
unfolding is_scene blocks_fit
few-blocks file e =
    let n = counts_of file in
    let f = (both (counts_fit file) (flap_fits file && blocks_fit file n) e).two in
    let b = (both (flap_fits file) (blocks_fit file n) f).two in
    leb-true (blocks_for n) 128 (both (leb (blocks_for n) 128) (eqb (length file) (blocks_for n * 512) && parts_fit file n) b).one

pub scene : (file : List ℕ) (n : Counts) → found n ≡ choose (is_scene file) (found (counts_of file)) (refused 8) → Scene file n
scene file n e =
    let a = are (is_scene file) n (counts_of file) e in
    record { test = a.test; same = a.same; few = rw a.same at (few-blocks file a.test) }
