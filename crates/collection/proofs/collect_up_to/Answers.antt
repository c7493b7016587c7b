-- `collection::collect_up_to` meets its contract: its loops over layers, lines, cells and a cell's boxes have left what `Collects.antt` says.
-- Assumes nothing.
use mathlib.Core.Path.{refl, sym, ap, ◌∙◌}
use mathlib.Core.List.{List}
use Prim.Native.Nat.{ℕ, ◌<◌}
use native.Mathlib.Omega.{arith}
use Rattle.boxes.specs.declared.Aabb.{Aabb}
use Rattle.sweeps.specs.declared.BoxList.{BoxList}
use Rattle.sweeps.specs.Lists.{room}
use Rattle.std.proofs.lemmas.Result.{err_from_is_err_and}
use Rattle.collection.specs.Collect.{push}
use Rattle.collection.proofs.Collects.{all_past, walk_begins, layer-begins, line-begins, cells-turn, cell-begins, cell-refused, box-next, boxes-end, cells-end, lines_end, layers-end, kept, passed, box-refused, full, empty-list, collected, not-collected}
use Rattle.collection.proofs.Past.{all-on, all_end}
use Rattle.collection.proofs.collect_up_to.Goals as goal
use Rattle.collection.proofs.collect_up_to.Goals.{then-intersects+else-i-most, else-intersects}

pub loop-y-init : goal.loop-y-init
loop-y-init c =
    let e = empty-list _ c.new-list.ensures in
    let f = push c.counted-most.result in
    (e.0, walk_begins f _ _ _ _ _ _ _ ∙ ap (all_past f _ _ _ _ _ _) e.1)

pub loop-x-init : goal.loop-x-init
loop-x-init c = let i = c.loop-y.invariant in (i.0, sym (layer-begins (push c.counted-most.result) _ _ _ _ _ _ _ _ c.loop-y-test.true) ∙ i.1)

pub loop-z-init : goal.loop-z-init
loop-z-init c = let i = c.loop-x.invariant in (i.0, sym (line-begins (push c.counted-most.result) _ _ _ _ _ _ _ _ _ (all-on _ _ c.loop-x-test.true)) ∙ i.1)

pub returns-in_err-part : goal.returns-in_err-part
returns-in_err-part c =
    let most = c.counted-most.result in
    let i = c.loop-z.invariant in
    let turn = cells-turn (push most) _ _ _ _ _ _ _ _ _ _ c.loop-z-test.true _ c.place-p.ensures in
    let stop = cell-refused (push most) _ _ _ _ _ _ _ _ turn _ (sym c.in_err-part.ensures) in
    let p = err_from_is_err_and c.from_residual.result c.from_residual.ensures.1 in
    rw (p.1, p.2) (rw c.counted-most.ensures at (not-collected _ most _ _ _ _ _ _ (sym stop ∙ i.1)))

pub loop-k-init : goal.loop-k-init
loop-k-init c =
    let f = push c.counted-most.result in
    let i = c.loop-z.invariant in
    let turn = cells-turn f _ _ _ _ _ _ _ _ _ _ c.loop-z-test.true _ c.place-p.ensures in
    let begun = cell-begins f _ _ _ _ _ _ _ _ turn c.in_ok-part.part _ _ (sym c.in_ok-part.ensures) refl c.count_in-n.ensures in
    (i.0, sym begun ∙ i.1)

pub returns-then-i-most : goal.returns-then-i-most
returns-then-i-most c =
    let most = c.counted-most.result in
    let i = c.loop-k.invariant in
    let more = full room _ _ i.0 most _ _ c.if-i-most.true (sym c.intersects.ensures ∙ c.if-intersects.true) in
    let stop = box-refused (push most) _ _ _ _ _ _ _ c.loop-k-test.true c.box_in-b.ensures 6 more in
    rw c.counted-most.ensures at (not-collected _ most _ _ _ _ _ 6 (sym stop ∙ i.1))

pub offset_bounds-list-i : goal.offset_bounds-list-i
offset_bounds-list-i c =
    let p = c.counted-most.ensures in
    let i = c.loop-k.invariant.0.whole in
    omega arith

pub bounds-list-i : goal.bounds-list-i
bounds-list-i c =
    let p = c.counted-most.ensures in
    let i = c.loop-k.invariant.0.whole in
    omega arith

pub overflow_add-list : goal.overflow_add-list
overflow_add-list c =
    let p = c.counted-most.ensures in
    let i = c.loop-k.invariant.0.whole in
    omega arith

pub loop-k-preserved : goal.loop-k-preserved
loop-k-preserved c =
    let most = c.counted-most.result in
    let l = c.loop-k.list in
    let m = c.if-intersects.list in
    let i = c.loop-k.invariant in
    let o = sym c.intersects.ensures in
    let boxes-in : BoxList → List Aabb = λ x. x.boxes in
    let count-in : BoxList → ℕ = λ x. x.count in
    elim c.if-intersects.branch [
      | then-intersects+else-i-most w ↦
          let b : l.count < most = w.if-i-most.false in
          let went = kept room most _ _ l.boxes m.boxes l.count m.count i.0 (ap boxes-in w.list-is) (ap count-in w.list-is) (omega arith) b (o ∙ w.if-intersects.true) in
          (went.0, sym (box-next (push most) _ _ _ _ _ _ _ c.loop-k-test.true c.box_in-b.ensures _ went.1) ∙ i.1)
      | else-intersects w ↦
          let went = passed room most _ _ l.boxes m.boxes l.count m.count i.0 (ap boxes-in w.list-is) (ap count-in w.list-is) (o ∙ w.if-intersects.false) in
          (went.0, sym (box-next (push most) _ _ _ _ _ _ _ c.loop-k-test.true c.box_in-b.ensures _ went.1) ∙ i.1)
    ]

pub loop-z-preserved : goal.loop-z-preserved
loop-z-preserved c = let i = c.loop-k.invariant in (i.0, sym (boxes-end (push c.counted-most.result) _ _ _ _ _ _ c.loop-k-test.false) ∙ i.1)

pub loop-x-preserved : goal.loop-x-preserved
loop-x-preserved c = let i = c.loop-z.invariant in (i.0, sym (cells-end (push c.counted-most.result) _ _ _ _ _ _ _ _ _ _ c.loop-z-test.false) ∙ i.1)

pub loop-y-preserved : goal.loop-y-preserved
loop-y-preserved c = let i = c.loop-x.invariant in (i.0, sym (lines_end (push c.counted-most.result) _ _ _ _ _ _ _ _ _ (all_end _ _ c.loop-x-test.false)) ∙ i.1)

pub returns : goal.returns
returns c =
    let most = c.counted-most.result in
    let i = c.loop-y.invariant in
    rw c.counted-most.ensures at (collected _ most _ _ _ _ _ room _ _ i.0 (sym (layers-end (push most) _ _ _ _ _ _ _ _ c.loop-y-test.false) ∙ i.1))
