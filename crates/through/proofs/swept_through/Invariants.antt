-- `through::swept_through` meets its contract: its first four loops leave what `Collects.antt` says, and the passes over what they left are
-- those of a move over a list. Assumes nothing.
use mathlib.Core.Path.{◌≡◌}
use mathlib.Core.List.{[]}
use Prim.Native.Nat.{◌+◌, ◌-◌}
use lib.ListN.{take, drop}
use Rattle.sweeps.specs.Lists.{cap_of}
use Rattle.through.specs.Few.{few}
use Rattle.sweeps.specs.Move.{clip_all}
use Rattle.sweeps.specs.Passes.{axis_number, clip_along, passes_from, sweep_of}
use Rattle.window.specs.Views.{look_in}
use Rattle.passing.specs.Passing.{reach_seen, passes, Tells}
use Rattle.collection.specs.Collect.{push}
use Rattle.solids.specs.Parts.{nth_aabb}
use Rattle.collection.proofs.Collects.{Room, all_past, layers_from, lines_from, cells_from, boxes_from}
use Rattle.through.proofs.swept_through.Given as goal

abbrev pub invariant-loop-k : goal.invariant-loop-k
invariant-loop-k l = Room few l.list.boxes l.list.count × (boxes_from (push (cap_of l.cap)) l.area (cells_from (push (cap_of l.cap)) (look_in l.view) l.tables.records.now l.tables.shapes.now l.area l.r (passes l.view.words.now l.view.window l.r) l.y l.x (l.z + 1)) (nth_aabb l.part l.shape l.p) l.n l.k (take l.list.count l.list.boxes) ≡ all_past (push (cap_of l.cap)) (look_in l.view) l.tables.records.now l.tables.shapes.now l.area l.r (passes l.view.words.now l.view.window l.r) [])

abbrev pub invariant-loop-z : goal.invariant-loop-z
invariant-loop-z l = Room few l.list.boxes l.list.count × (cells_from (push (cap_of l.cap)) (look_in l.view) l.tables.records.now l.tables.shapes.now l.area l.r (passes l.view.words.now l.view.window l.r) l.y l.x l.z (take l.list.count l.list.boxes) ≡ all_past (push (cap_of l.cap)) (look_in l.view) l.tables.records.now l.tables.shapes.now l.area l.r (passes l.view.words.now l.view.window l.r) [])

abbrev pub invariant-loop-x : goal.invariant-loop-x
invariant-loop-x l = Room few l.list.boxes l.list.count × (lines_from (push (cap_of l.cap)) (look_in l.view) l.tables.records.now l.tables.shapes.now l.area l.r (passes l.view.words.now l.view.window l.r) l.y l.x (take l.list.count l.list.boxes) ≡ all_past (push (cap_of l.cap)) (look_in l.view) l.tables.records.now l.tables.shapes.now l.area l.r (passes l.view.words.now l.view.window l.r) [])

abbrev pub invariant-loop-y : goal.invariant-loop-y
invariant-loop-y l = Room few l.list.boxes l.list.count × Tells l.view.words.now l.view.window l.r (reach_seen l.over) l.layer l.y × (layers_from (push (cap_of l.cap)) (look_in l.view) l.tables.records.now l.tables.shapes.now l.area l.r (passes l.view.words.now l.view.window l.r) l.y (take l.list.count l.list.boxes) ≡ all_past (push (cap_of l.cap)) (look_in l.view) l.tables.records.now l.tables.shapes.now l.area l.r (passes l.view.words.now l.view.window l.r) [])

abbrev pub invariant-loop-b : goal.invariant-loop-b
invariant-loop-b l =
    let clip = clip_along (axis_number l.axis) in
    clip_all clip (drop l.b-index l.boxes) l.now.aabb l.d ≡ clip_all clip l.boxes l.now.aabb l.initial.d

abbrev pub invariant-loop-pass : goal.invariant-loop-pass
invariant-loop-pass l = passes_from (7 - l.pass) l.pass l.boxes l.q l.s ≡ sweep_of l.boxes l.q
