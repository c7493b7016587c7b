-- What 8 says of a file that is a scene: its parts fit, and so each of its blocks does. Assumes nothing.
use mathlib.Core.Bool.{Bool, true, ◌&&◌}
use mathlib.Core.List.{List}
use mathlib.Core.Path.{◌≡◌}
use Prim.Native.Nat.{ℕ, ◌+◌, ◌-◌, ◌*◌, ◌/◌, ◌<◌, ◌≤◌}
use native.Mathlib.Decide.{dec_lt}
use native.Mathlib.Omega.{arith}
use lib.Dec.{eqb, leb}
use lib.ListN.{length}
use borrow.Author.Tests.{eqb-true, leb-true}
use Rattle.base.proofs.Every.{both, every-at}
use Rattle.blocks.specs.declared.Part.{Part}
use Rattle.blocks.specs.Blocks.{block_of, is_second, block_fits, blocks_of, end_of, used_in, part_fits, body_part, record_part, box_part, window_part, cell_part}
use Rattle.files.specs.declared.Counts.{Counts}
use Rattle.files.specs.Files.{counts_fit, flap_fits, counts_of, parts_fit, blocks_for, blocks_fit, is_scene}

pub record Told (file : List ℕ) (n : Counts) : Type 0 where
  pub few : blocks_for n ≤ 128
  pub size : length file ≡ blocks_for n * 512
  pub flap : flap_fits file ≡ true
  pub body-fits : part_fits file body_part ≡ true
  pub records-fit : part_fits file (record_part n.states) ≡ true
  pub boxes-fit : part_fits file (box_part n.states n.boxes) ≡ true
  pub place-fits : part_fits file (window_part n.states n.boxes) ≡ true
  pub cells_fit : part_fits file (cell_part n.states n.boxes n.cells) ≡ true

pub tells : (file : List ℕ) → is_scene file ≡ true → Told file (counts_of file)
unfolding is_scene blocks_fit parts_fit
tells file h =
    let n = counts_of file in
    let a = part_fits file body_part in
    let b = part_fits file (record_part n.states) in
    let d = part_fits file (box_part n.states n.boxes) in
    let e = part_fits file (window_part n.states n.boxes) in
    let f = part_fits file (cell_part n.states n.boxes n.cells) in
    let all : Bool = a && b && d && e && f in
    let size : Bool = eqb (length file) (blocks_for n * 512) in
    let few : Bool = leb (blocks_for n) 128 in
    let t₁ = both (counts_fit file) (flap_fits file && (few && (size && all))) h in
    let t₂ = both (flap_fits file) (few && (size && all)) t₁.two in
    let t₃ = both few (size && all) t₂.two in
    let t₄ = both size all t₃.two in
    let p₁ = both (a && b && d && e) f t₄.two in
    let p₂ = both (a && b && d) e p₁.one in
    let p₃ = both (a && b) d p₂.one in
    let p₄ = both a b p₃.one in
    record {
      few = leb-true _ _ t₃.one;
      size = eqb-true _ _ t₄.one;
      flap = t₂.one;
      body-fits = p₄.one;
      records-fit = p₄.two;
      boxes-fit = p₃.two;
      place-fits = p₂.two;
      cells_fit = p₁.two;
    }

-- ---- each block fits, as one of some part

pub record Fitting (file : List ℕ) (b : ℕ) : Type 0 where
  pub kind : ℕ
  pub used : ℕ
  pub fits : block_fits (is_second file) (block_of file b) b kind used ≡ true

of_part : (file : List ℕ) (p : Part) (b : ℕ) → part_fits file p ≡ true → p.first ≤ b → b < end_of p → Fitting file b
unfolding part_fits
of_part file p b fits first last =
    let e : p.first + (b - p.first) ≡ b = omega arith in
    record { kind = p.kind; used = used_in p (b - p.first); fits = rw e at (every-at (blocks_of p) _ fits (b - p.first) (omega arith)) }

pub each-block : (file : List ℕ) → is_scene file ≡ true → (b : ℕ) → b < length file / 512 → Fitting file b
each-block file s b h =
    let n = counts_of file in
    let t = tells file s in
    let size = t.size in
    let below : b < blocks_for n = omega arith in
    go n t below (dec_lt b (end_of body_part)) (dec_lt b (end_of (record_part n.states))) (dec_lt b (end_of (box_part n.states n.boxes)))
    (dec_lt b (end_of (window_part n.states n.boxes)))
  where
    go : (n : Counts) → Told file n → b < blocks_for n → Dec (b < end_of body_part) → Dec (b < end_of (record_part n.states))
        → Dec (b < end_of (box_part n.states n.boxes)) → Dec (b < end_of (window_part n.states n.boxes)) → Fitting file b
    go n t l (yes p) q r u = of_part file body_part b t.body-fits (omega arith) p
    go n t l (no p) (yes q) r u = of_part file (record_part n.states) b t.records-fit (omega arith) q
    go n t l (no p) (no q) (yes r) u = of_part file (box_part n.states n.boxes) b t.boxes-fit (omega arith) r
    go n t l (no p) (no q) (no r) (yes u) = of_part file (window_part n.states n.boxes) b t.place-fits (omega arith) u
    go n t l (no p) (no q) (no r) (no u) = of_part file (cell_part n.states n.boxes n.cells) b t.cells_fit (omega arith) l
