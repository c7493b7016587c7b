-- `palette_boxes::put_box` meets its contract. Assumes nothing.
use Rattle.std.proofs.Common.{◌≡◌, ◌+◌, ◌≤◌, map, length, drop}
use Rattle.base.specs.Loop.{stored}
use Rattle.palette_boxes.specs.Shapes.{sixteenths}
use Rattle.palette_boxes.proofs.put_box.Given as goal

abbrev pub invariant-loop-c : goal.invariant-loop-c
invariant-loop-c l = (l.c ≤ 6) × (length l.out ≡ length l.initial.out) × (stored l.out (l.at + l.c) (drop l.c (map sixteenths l.n-items)) ≡ stored l.initial.out l.at (map sixteenths l.n-items))
