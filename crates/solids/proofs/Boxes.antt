-- The boxes of a cell by number are the boxes of its shape, and how many there are. Assumes nothing.
use mathlib.Core.Path.{◌≡◌, refl, sym, ap, ◌∙◌}
use mathlib.Core.Bool.{Bool, true, false}
use mathlib.Core.List.{List, []}
use Prim.Native.Nat.{ℕ, zero, suc, ◌+◌, ◌*◌, ◌/◌, ◌≤◌}
use native.Mathlib.Nat.{mul-div_cancel, zero-lt-suc}
use native.Mathlib.Omega.{arith}
use lib.Dec.{T, leb, eqb, leb→le}
use lib.ListN.{length, take, drop, length-take, length-drop}
use lib.Ieee.{Float}
use borrow.Author.Tests.{ne_eqb}
use Rattle.base.specs.Choose.{choose}
use Rattle.base.specs.Loop.{listed}
use Rattle.base.specs.Ask.{Ask, found}
use Rattle.cover.specs.Cover.{box_count}
use Rattle.tables.specs.declared.Head.{Head}
use Rattle.tables.specs.Tables.{word_at, is_registered, head_at, boxes_at}
use Rattle.window.specs.declared.Pos.{Pos}
use Rattle.window.specs.Look.{Block, some}
use Rattle.connect.specs.Connect.{connect_kind, connected_state}
use Rattle.solids.specs.declared.Shape.{Shape}
use Rattle.solids.specs.Shapes.{boxes, aabbs_of, connected_shape, shape_of}
use Rattle.solids.specs.declared.Shape.TheVariants.{Cube, Part}
use Rattle.solids.specs.Parts.{shape_in, part_boxes, count_of, nth_aabb}

-- a record that is registered
pub head-registered : (records : List ℕ) (id : ℕ) (h : Head) → h ≡ head_at records id → is_registered records id ≡ h.registered
unfolding is_registered
head-registered records id h e = sym (ap (λ (x : Head). x.registered) e)

-- and that connects as nothing has its own boxes
pub plain-shape : (look : Pos → Ask Block) (records : List ℕ) (p : Pos) (id : ℕ) (h : Head) → h ≡ head_at records id → h.registered ≡ true → h.kind ≡ 0
    → shape_of look records p (some id) ≡ found (boxes h.first h.count)
unfolding shape_of connected_shape connected_state connect_kind choose
plain-shape look records p id h e r k =
    let t : is_registered records id ≡ true = head-registered records id h e ∙ r in
    let w : word_at records id 4 ≡ 0 = sym (ap (λ (x : Head). x.kind) e) ∙ k in
    rw (t, w, e)

-- a part that is there whole has `count` boxes, and another none
part_count : (shapes : List Float) (first count : ℕ) → box_count (boxes_at shapes first count) ≡ choose (eqb (length (boxes_at shapes first count)) 0) 0 count
unfolding boxes_at choose
part_count shapes first count = go (leb (first + count) (box_count shapes)) (leb→le (first + count) (box_count shapes))
  where
    both : (n : ℕ) → n ≡ count * 6 → n / 6 ≡ choose (eqb n 0) 0 count
    both n e = at count e
      where
        at : (k : ℕ) → n ≡ k * 6 → n / 6 ≡ choose (eqb n 0) 0 k
        at zero e = rw e
        at (suc k) e = ap (λ (x : ℕ). x / 6) e ∙ mul-div_cancel (suc k) (zero-lt-suc 5) ∙ (rw (ne_eqb n 0 (λ z. some k (sym e ∙ z))))
          where
            some : (k : ℕ) → suc k * 6 ≡ 0 → ⊥
            some k z = omega arith

    go : (t : Bool) → (T t → first + count ≤ box_count shapes)
        → box_count (choose t (take (count * 6) (drop (first * 6) shapes)) []) ≡ choose (eqb (length (choose t (take (count * 6) (drop (first * 6) shapes)) [])) 0) 0 count
    go true h =
        let l : first + count ≤ length shapes / 6 = h tt in
        let n : length (take (count * 6) (drop (first * 6) shapes)) ≡ count * 6 = simp (length-take, length-drop) (omega arith) in
        both (length (take (count * 6) (drop (first * 6) shapes))) n
    go false h = refl

-- all boxes of a cell, from number 0 on
pub listed-all : (shapes part : List Float) (p : Pos) (s : Shape) (n : ℕ) → part ≡ part_boxes shapes s → n ≡ count_of s part
    → aabbs_of shapes p (shape_in s) ≡ listed (nth_aabb s part p) n 0
unfolding listed
listed-all shapes part p Cube n e m = rw m
listed-all shapes part p (Part first count) n e m = rw (m, e, part_count shapes first count)
