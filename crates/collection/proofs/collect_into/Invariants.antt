-- `collection::collect_into` meets its contract: its loops over layers, lines, cells and a cell's boxes have left what `Collects.antt` says.
-- Assumes nothing.
use mathlib.Core.Path.{◌≡◌}
use mathlib.Core.List.{[]}
use Prim.Native.Nat.{◌+◌}
use lib.ListN.{length}
use Rattle.window.specs.Views.{look_in}
use Rattle.passing.specs.Passing.{reach_seen, passes, Tells}
use Rattle.solids.specs.Parts.{nth_aabb}
use Rattle.lent_boxes.specs.Boxes.{boxes_in}
use Rattle.collection.specs.Collect.{push}
use Rattle.collection.proofs.Collects.{all_past, layers_from, lines_from, cells_from, boxes_from}
use Rattle.collection.proofs.Lent.{Space}
use Rattle.collection.proofs.collect_into.Given as goal

abbrev pub invariant-loop-k : goal.invariant-loop-k
invariant-loop-k l = Space (length l.initial.room) l.most l.room l.count
    × (boxes_from (push l.most) l.area (cells_from (push l.most) (look_in l.view) l.tables.records.now l.tables.shapes.now l.area l.r (passes l.view.words.now l.view.window l.r) l.y l.x (l.z + 1)) (nth_aabb l.part l.shape l.p) l.n l.k (boxes_in l.room l.count)
    ≡ all_past (push l.most) (look_in l.view) l.tables.records.now l.tables.shapes.now l.area l.r (passes l.view.words.now l.view.window l.r) [])

abbrev pub invariant-loop-z : goal.invariant-loop-z
invariant-loop-z l = Space (length l.initial.room) l.most l.room l.count
    × (cells_from (push l.most) (look_in l.view) l.tables.records.now l.tables.shapes.now l.area l.r (passes l.view.words.now l.view.window l.r) l.y l.x l.z (boxes_in l.room l.count)
    ≡ all_past (push l.most) (look_in l.view) l.tables.records.now l.tables.shapes.now l.area l.r (passes l.view.words.now l.view.window l.r) [])

abbrev pub invariant-loop-x : goal.invariant-loop-x
invariant-loop-x l = Space (length l.initial.room) l.most l.room l.count
    × (lines_from (push l.most) (look_in l.view) l.tables.records.now l.tables.shapes.now l.area l.r (passes l.view.words.now l.view.window l.r) l.y l.x (boxes_in l.room l.count)
    ≡ all_past (push l.most) (look_in l.view) l.tables.records.now l.tables.shapes.now l.area l.r (passes l.view.words.now l.view.window l.r) [])

abbrev pub invariant-loop-y : goal.invariant-loop-y
invariant-loop-y l = Space (length l.initial.room) l.most l.room l.count
    × Tells l.view.words.now l.view.window l.r (reach_seen l.over) l.layer l.y
    × (layers_from (push l.most) (look_in l.view) l.tables.records.now l.tables.shapes.now l.area l.r (passes l.view.words.now l.view.window l.r) l.y (boxes_in l.room l.count)
    ≡ all_past (push l.most) (look_in l.view) l.tables.records.now l.tables.shapes.now l.area l.r (passes l.view.words.now l.view.window l.r) [])
