-- `collection::collect_up_to` meets its contract: its loops over layers, lines, cells and a cell's boxes have left what `Collects.antt` says.
-- Assumes nothing.
use mathlib.Core.Path.{◌≡◌}
use mathlib.Core.List.{[]}
use Prim.Native.Nat.{◌+◌}
use lib.ListN.{take}
use Rattle.sweeps.specs.Lists.{room}
use Rattle.window.specs.Views.{look_in}
use Rattle.solids.specs.Parts.{part_boxes, nth_aabb}
use Rattle.collection.specs.Collect.{push}
use Rattle.collection.specs.Past.{none}
use Rattle.collection.proofs.Collects.{Room, all_past, layers_from, lines_from, cells_from, boxes_from}
use Rattle.collection.proofs.collect_up_to.Given as goal

abbrev pub invariant-loop-k : goal.invariant-loop-k
invariant-loop-k l = Room room l.list.boxes l.list.count
    × (boxes_from (push l.most) l.area (cells_from (push l.most) (look_in l.view) l.tables.records.now l.tables.shapes.now l.area l.r none l.y l.x (l.z + 1)) (nth_aabb l.part (part_boxes l.tables.shapes.now l.part) l.p) l.n l.k (take l.list.count l.list.boxes)
    ≡ all_past (push l.most) (look_in l.view) l.tables.records.now l.tables.shapes.now l.area l.r none [])

abbrev pub invariant-loop-z : goal.invariant-loop-z
invariant-loop-z l = Room room l.list.boxes l.list.count
    × (cells_from (push l.most) (look_in l.view) l.tables.records.now l.tables.shapes.now l.area l.r none l.y l.x l.z (take l.list.count l.list.boxes)
    ≡ all_past (push l.most) (look_in l.view) l.tables.records.now l.tables.shapes.now l.area l.r none [])

abbrev pub invariant-loop-x : goal.invariant-loop-x
invariant-loop-x l = Room room l.list.boxes l.list.count
    × (lines_from (push l.most) (look_in l.view) l.tables.records.now l.tables.shapes.now l.area l.r none l.y l.x (take l.list.count l.list.boxes)
    ≡ all_past (push l.most) (look_in l.view) l.tables.records.now l.tables.shapes.now l.area l.r none [])

abbrev pub invariant-loop-y : goal.invariant-loop-y
invariant-loop-y l = Room room l.list.boxes l.list.count
    × (layers_from (push l.most) (look_in l.view) l.tables.records.now l.tables.shapes.now l.area l.r none l.y (take l.list.count l.list.boxes)
    ≡ all_past (push l.most) (look_in l.view) l.tables.records.now l.tables.shapes.now l.area l.r none [])
