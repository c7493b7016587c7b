-- `collection::collect_into` meets its contract: its loops over layers, lines, cells and a cell's boxes have left what `Collects.antt` says.
-- Assumes nothing.
use mathlib.Core.Path.{refl, sym, ap, ◌∙◌}
use Prim.Native.Nat.{◌<◌}
use native.Mathlib.Omega.{arith}
use Rattle.passing.specs.Passing.{reach_seen}
use Rattle.passing.proofs.Four.{not-asked, later, handed-on, its-lines}
use Rattle.std.proofs.lemmas.Result.{err_from_is_err_and}
use Rattle.collection.specs.Collect.{push}
use Rattle.collection.proofs.Collects.{all_past, walk_begins, layer-begins, line-begins, cells-turn, cell-begins, cell-refused, box-next, box-refused, boxes-end, cells-end, lines_end, layers-end, not-collected}
use Rattle.collection.proofs.Lent.{on-the-way, at-the-end, into, out, put, left, over-full, no-box, lent-collected}
use Rattle.collection.proofs.collect_into.Goals as goal
use Rattle.collection.proofs.collect_into.Goals.{then-intersects+else-count-most, else-intersects}

pub loop-y-init : goal.loop-y-init
loop-y-init c =
    let f = push c.at_most-most.result in
    let m = c.at_most-most.ensures in
    (record { long = refl; wide = omega arith; counts = omega arith }, not-asked c.args.view.words.now c.args.view.window c.args.r (reach_seen c.reach_in-over.result) _ _ refl, walk_begins f _ _ _ _ _ _ _ ∙ ap (all_past f _ _ _ _ _ _) (no-box c.args.room.now))

pub loop-x-init : goal.loop-x-init
loop-x-init c = let i = c.loop-y.invariant in (into i.0, sym (layer-begins (push c.at_most-most.result) _ _ _ _ _ _ _ _ c.loop-y-test.true) ∙ i.2)

pub loop-z-init : goal.loop-z-init
loop-z-init c = let i = c.loop-x.invariant in (into i.0, sym (line-begins (push c.at_most-most.result) _ _ _ _ _ _ _ _ _ (on-the-way _ _ _ _ _ _ _ c.reach_in-over.ensures (its-lines _ _ _ _ _ _ _ c.lines_at-layer.ensures c.loop-y.invariant.1) c.loop-x-test.true)) ∙ i.1)

pub shape_of-room-in_err-part : goal.shape_of-room-in_err-part
shape_of-room-in_err-part c = c.loop-z.invariant.0.long ∙ c.loop-x.invariant.0.long ∙ c.loop-y.invariant.0.long

pub returns-in_err-part : goal.returns-in_err-part
returns-in_err-part c =
    let most = c.at_most-most.result in
    let i = c.loop-z.invariant in
    let turn = cells-turn (push most) _ _ _ _ _ _ _ _ _ _ c.loop-z-test.true _ c.place-p.ensures in
    let stop = cell-refused (push most) _ _ _ _ _ _ _ _ turn _ (sym c.in_err-part.ensures) in
    let p = err_from_is_err_and c.from_residual.result c.from_residual.ensures.1 in
    rw (p.1, p.2) record { room_after = rw c.at_most-most.ensures at (not-collected _ most _ _ _ _ _ _ (sym stop ∙ i.1)); count_bound = omega arith }

pub loop-k-init : goal.loop-k-init
loop-k-init c =
    let f = push c.at_most-most.result in
    let i = c.loop-z.invariant in
    let turn = cells-turn f _ _ _ _ _ _ _ _ _ _ c.loop-z-test.true _ c.place-p.ensures in
    let begun = cell-begins f _ _ _ _ _ _ _ _ turn c.in_ok-part.part _ _ (sym c.in_ok-part.ensures) c.boxes-shape.ensures c.count-n.ensures in
    (into i.0, sym begun ∙ i.1)

pub shape_of-room-then-count-most : goal.shape_of-room-then-count-most
shape_of-room-then-count-most c = c.loop-k.invariant.0.long ∙ c.loop-z.invariant.0.long ∙ c.loop-x.invariant.0.long ∙ c.loop-y.invariant.0.long

pub returns-then-count-most : goal.returns-then-count-most
returns-then-count-most c =
    let most = c.at_most-most.result in
    let i = c.loop-k.invariant in
    let more = over-full most _ _ c.loop-k.room _ c.if-count-most.true (sym c.intersects.ensures ∙ c.if-intersects.true) in
    let stop = box-refused (push most) _ _ _ _ _ _ _ c.loop-k-test.true c.aabb-b.ensures 6 more in
    record { room_after = rw c.at_most-most.ensures at (not-collected _ most _ _ _ _ _ 6 (sym stop ∙ i.1)); count_bound = omega arith }

pub overflow_add-count : goal.overflow_add-count
overflow_add-count c = let n = c.at_most-most.ensures in let h : c.loop-k.count < c.at_most-most.result = c.if-count-most.false in omega (arith, c.well_formed.1.0)

pub loop-k-preserved : goal.loop-k-preserved
loop-k-preserved c =
    let most = c.at_most-most.result in
    let i = c.loop-k.invariant in
    let o = sym c.intersects.ensures in
    elim c.if-intersects.branch [
      | then-intersects+else-count-most w ↦
          let went = put _ most _ _ c.loop-k.room c.if-intersects.room c.loop-k.count c.if-intersects.count i.0 (w.room-is ∙ w.put_box.ensures) w.count-is w.if-count-most.false (o ∙ w.if-intersects.true) in
          (went.0, sym (box-next (push most) _ _ _ _ _ _ _ c.loop-k-test.true c.aabb-b.ensures _ went.1) ∙ i.1)
      | else-intersects w ↦
          let went = left _ most _ _ c.loop-k.room c.if-intersects.room c.loop-k.count c.if-intersects.count i.0 w.room-is w.count-is (o ∙ w.if-intersects.false) in
          (went.0, sym (box-next (push most) _ _ _ _ _ _ _ c.loop-k-test.true c.aabb-b.ensures _ went.1) ∙ i.1)
    ]

pub loop-z-preserved : goal.loop-z-preserved
loop-z-preserved c = let i = c.loop-k.invariant in (out c.loop-z.invariant.0 i.0, sym (boxes-end (push c.at_most-most.result) _ _ _ _ _ _ c.loop-k-test.false) ∙ i.1)

pub loop-x-preserved : goal.loop-x-preserved
loop-x-preserved c = let i = c.loop-z.invariant in (out c.loop-x.invariant.0 i.0, sym (cells-end (push c.at_most-most.result) _ _ _ _ _ _ _ _ _ _ c.loop-z-test.false) ∙ i.1)

pub loop-y-preserved : goal.loop-y-preserved
loop-y-preserved c = let i = c.loop-x.invariant in (out c.loop-y.invariant.0 i.0, later _ _ _ _ _ _ (handed-on _ _ _ _ _ _ _ c.lines_at-layer.ensures c.loop-y.invariant.1), sym (lines_end (push c.at_most-most.result) _ _ _ _ _ _ _ _ _ (at-the-end _ _ _ _ _ _ _ c.reach_in-over.ensures (its-lines _ _ _ _ _ _ _ c.lines_at-layer.ensures c.loop-y.invariant.1) c.loop-x-test.false)) ∙ i.1)

pub shape_of-room : goal.shape_of-room
shape_of-room c = c.loop-y.invariant.0.long

pub returns : goal.returns
returns c =
    let i = c.loop-y.invariant in
    let most = c.at_most-most.result in
    record { room_after = rw c.at_most-most.ensures at (lent-collected _ most _ _ _ _ _ c.loop-y.room _ (sym (layers-end (push most) _ _ _ _ _ _ _ _ c.loop-y-test.false) ∙ i.2)); count_bound = rw c.at_most-most.ensures at i.0.counts }
