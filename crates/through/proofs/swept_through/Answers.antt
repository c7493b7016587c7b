-- `through::swept_through` meets its contract: its first four loops leave what `Collects.antt` says, and the passes over what they left are
-- those of a move over a list. Assumes nothing.
use mathlib.Core.Path.{◌≡◌, refl, sym, ap, ◌∙◌}
use mathlib.Core.List.{List}
use Prim.Native.Nat.{ℕ, ◌<◌}
use native.Mathlib.Omega.{arith}
use lib.ListN.{take}
use Rattle.boxes.specs.declared.Aabb.{Aabb}
use Rattle.sweeps.specs.Lists.{cap_of}
use Rattle.through.specs.declared.Few.{Few}
use Rattle.through.specs.Few.{few, cap_within}
use Rattle.sweeps.specs.Passes.{axis_number, clip_along, pass_of, passes_from}
use Rattle.sweeps.proofs.Turns.{slice-turn, slice-end, pass-is, pass_on, pass-over, passes-end}
use Rattle.passing.specs.Passing.{reach_seen}
use Rattle.passing.proofs.Four.{not-asked, later, handed-on, its-lines}
use Rattle.collection.specs.Collect.{push}
use Rattle.std.proofs.lemmas.Result.{err_from_is_err_and}
use Rattle.collection.proofs.Collects.{all_past, walk_begins, layer-begins, line-begins, cells-turn, cell-begins, cell-refused, box-next, boxes-end, cells-end, lines_end, layers-end, kept, passed}
use Rattle.through.proofs.Moved.{moved, not-moved, on-the-way, at-the-end, empty-few}
use Rattle.through.proofs.swept_through.Goals as goal
use Rattle.through.proofs.swept_through.Goals.{After-next_sweep-s, then-intersects+else-list-most, else-intersects}

pub loop-y-init : goal.loop-y-init
loop-y-init c =
    let given = c.args in
    let e = empty-few _ c.new-list.ensures in
    (e.0, not-asked given.view.words.now given.view.window given.r (reach_seen c.reach_in-over.result) _ _ refl, walk_begins (push _) _ _ _ _ _ _ _ ∙ ap (all_past (push _) _ _ _ _ _ _) e.1)

pub loop-x-init : goal.loop-x-init
loop-x-init c = let i = c.loop-y.invariant in (i.0, sym (layer-begins (push _) _ _ _ _ _ _ _ _ c.loop-y-test.true) ∙ i.2)

pub loop-z-init : goal.loop-z-init
loop-z-init c = let i = c.loop-x.invariant in (i.0, sym (line-begins (push _) _ _ _ _ _ _ _ _ _ (on-the-way _ _ _ _ _ _ _ c.reach_in-over.ensures (its-lines _ _ _ _ _ _ _ c.lines_at-layer.ensures c.loop-y.invariant.1) c.loop-x-test.true)) ∙ i.1)

pub returns-in_err-part : goal.returns-in_err-part
returns-in_err-part c =
    let i = c.loop-z.invariant in
    let turn = cells-turn (push _) _ _ _ _ _ _ _ _ _ _ c.loop-z-test.true _ c.place-p.ensures in
    let stop = cell-refused (push _) _ _ _ _ _ _ _ _ turn _ (sym c.in_err-part.ensures) in
    let p = err_from_is_err_and c.from_residual.result c.from_residual.ensures.1 in
    rw (p.1, p.2) (not-moved _ _ _ _ _ _ _ _ _ _ (sym stop ∙ i.1))

pub loop-k-init : goal.loop-k-init
loop-k-init c =
    let i = c.loop-z.invariant in
    let cell = c.place-p.ensures in
    let begun = cell-begins (push _) _ _ _ _ _ _ _ _ (cells-turn (push _) _ _ _ _ _ _ _ _ _ _ c.loop-z-test.true _ cell) c.in_ok-part.part _ _ (sym c.in_ok-part.ensures) c.boxes-shape.ensures c.count-n.ensures in
    (i.0, sym begun ∙ i.1)

pub returns-then-list-most : goal.returns-then-list-most
returns-then-list-most c = c.many-told.ensures

pub offset_bounds-list-list : goal.offset_bounds-list-list
offset_bounds-list-list c = let i = c.loop-k.invariant.0.whole in let m = c.cap_within-most.ensures in omega arith

pub bounds-list-list : goal.bounds-list-list
bounds-list-list c = let i = c.loop-k.invariant.0.whole in let m = c.cap_within-most.ensures in omega arith

pub overflow_add-list : goal.overflow_add-list
overflow_add-list c = let i = c.loop-k.invariant.0.whole in let m = c.cap_within-most.ensures in omega arith

pub loop-k-preserved : goal.loop-k-preserved
loop-k-preserved c =
    let cap = c.args.cap in
    let l = c.loop-k.list in
    let i = c.loop-k.invariant in
    let o = sym c.intersects.ensures in
    let boxes-in : Few → List Aabb = λ x. x.boxes in
    let count-in : Few → ℕ = λ x. x.count in
    let m = c.if-intersects.list in
    elim c.if-intersects.branch [
      | then-intersects+else-list-most w ↦
          let b : l.count < cap_within few cap = rw c.cap_within-most.ensures at w.if-list-most.false in
          let went = kept few (cap_of cap) _ _ l.boxes m.boxes l.count m.count i.0 (ap boxes-in w.list-is) (ap count-in w.list-is) (omega arith) (omega arith) (o ∙ w.if-intersects.true) in
          (went.0, sym (box-next (push _) _ _ _ _ _ _ _ c.loop-k-test.true c.quick_aabb-b.ensures _ went.1) ∙ i.1)
      | else-intersects w ↦
          let went = passed few (cap_of cap) _ _ l.boxes m.boxes l.count m.count i.0 (ap boxes-in w.list-is) (ap count-in w.list-is) (o ∙ w.if-intersects.false) in
          (went.0, sym (box-next (push _) _ _ _ _ _ _ _ c.loop-k-test.true c.quick_aabb-b.ensures _ went.1) ∙ i.1)
    ]

pub loop-z-preserved : goal.loop-z-preserved
loop-z-preserved c = let i = c.loop-k.invariant in (i.0, sym (boxes-end (push _) _ _ _ _ _ _ c.loop-k-test.false) ∙ i.1)

pub loop-x-preserved : goal.loop-x-preserved
loop-x-preserved c = let i = c.loop-z.invariant in (i.0, sym (cells-end (push _) _ _ _ _ _ _ _ _ _ _ c.loop-z-test.false) ∙ i.1)

pub loop-y-preserved : goal.loop-y-preserved
loop-y-preserved c = let i = c.loop-x.invariant in (i.0, later _ _ _ _ _ _ (handed-on _ _ _ _ _ _ _ c.lines_at-layer.ensures c.loop-y.invariant.1), sym (lines_end (push _) _ _ _ _ _ _ _ _ _ (at-the-end _ _ _ _ _ _ _ c.reach_in-over.ensures (its-lines _ _ _ _ _ _ _ c.lines_at-layer.ensures c.loop-y.invariant.1) c.loop-x-test.false)) ∙ i.1)

pub loop-pass-init : goal.loop-pass-init
loop-pass-init c = ap (passes_from 7 0 _ _) c.begun-s.ensures

pub loop-b-init : goal.loop-b-init
loop-b-init c = refl

pub loop-b-preserved : goal.loop-b-preserved
loop-b-preserved c =
    slice-turn _ c.loop-b.b-index (clip_along (axis_number c.axis_of-axis.result)) c.loop-pass.s.now.aabb _ c.loop-b.d _ _ c.loop-b-test.true c.clip_along-d.ensures c.loop-b.invariant

-- a pass was made
made : (c : After-next_sweep-s) → c.next_sweep-s.result ≡ pass_of c.loop-pass.pass (take c.loop-y.list.count c.loop-y.list.boxes) c.args.q c.loop-pass.s
made c =
    let axis = axis_number c.axis_of-axis.result in
    let gone-through = slice-end _ c.loop-b.b-index (clip_along axis) c.loop-pass.s.now.aabb c.loop-b.d _ c.loop-b-test.false c.loop-b.invariant in
    pass-is _ c.args.q c.loop-pass.pass c.loop-pass.s _ _ axis _ _ c.axis_of-axis.ensures c.wanted-d.ensures gone-through c.gone.ensures c.next_sweep-s.ensures

pub returns-then-s : goal.returns-then-s
returns-then-s c =
    moved _ _ _ _ _ _ _ _ _ _ (sym (layers-end (push _) _ _ _ _ _ _ _ _ c.loop-y-test.false) ∙ c.loop-y.invariant.2) _ (pass-over _ _ c.loop-pass.pass c.loop-pass.s _ _ (made (goal.at.returns-then-s c).After-next_sweep-s) c.loop-pass-test.true c.if-s.true c.loop-pass.invariant) _ c.ended.ensures

pub loop-pass-preserved : goal.loop-pass-preserved
loop-pass-preserved c =
    pass_on _ _ c.loop-pass.pass c.loop-pass.s _ _ (made (goal.at.loop-pass-preserved c).After-next_sweep-s) c.loop-pass-test.true c.if-s.false c.loop-pass.invariant

pub returns : goal.returns
returns c =
    moved _ _ _ _ _ _ _ _ _ _ (sym (layers-end (push _) _ _ _ _ _ _ _ _ c.loop-y-test.false) ∙ c.loop-y.invariant.2) _ (passes-end _ _ c.loop-pass.pass c.loop-pass.s _ c.loop-pass-test.false c.loop-pass.invariant) _ c.ended-2.ensures
