-- `list_moves::swept_over` meets its contract. Assumes nothing.
use mathlib.Core.Path.{◌≡◌, ap, ◌∙◌}
use mathlib.Core.List.{List}
use Rattle.boxes.specs.declared.Aabb.{Aabb}
use Rattle.sweeps.specs.Passes.{axis_number, clip_along, pass_of, sweep_of}
use Rattle.sweeps.proofs.Turns.{slice-turn, slice-end, pass-is, pass_on, pass-over, passes-end}
use Rattle.list_moves.proofs.swept_over.Goals as goal
use Rattle.list_moves.proofs.swept_over.Goals.{After-next_sweep-s}

-- a pass was made
made : (c : After-next_sweep-s) → c.next_sweep-s.result ≡ pass_of c.loop-pass.pass c.as_slice-boxes.result.now c.args.q c.loop-pass.s
made c =
    let axis = axis_number c.axis_of-axis.result in
    let gone-through = slice-end c.as_slice-boxes.result.now c.loop-b.b-index (clip_along axis) c.loop-pass.s.now.aabb c.loop-b.d _ c.loop-b-test.false c.loop-b.invariant in
    pass-is c.as_slice-boxes.result.now c.args.q c.loop-pass.pass c.loop-pass.s _ _ axis _ _ c.axis_of-axis.ensures c.wanted-d.ensures gone-through c.gone.ensures c.next_sweep-s.ensures

pub loop-b-preserved : goal.loop-b-preserved
loop-b-preserved c =
    slice-turn c.as_slice-boxes.result.now c.loop-b.b-index (clip_along (axis_number c.axis_of-axis.result)) c.loop-pass.s.now.aabb _ c.loop-b.d _ _ c.loop-b-test.true c.clip_along-d.ensures c.loop-b.invariant

pub returns-then-s : goal.returns-then-s
returns-then-s c =
    pass-over _ _ c.loop-pass.pass c.loop-pass.s _ _ (made (goal.at.returns-then-s c).After-next_sweep-s) c.loop-pass-test.true c.if-s.true c.loop-pass.invariant
    ∙ ap (λ (bs : List Aabb). sweep_of bs c.args.q) c.as_slice-boxes.ensures

pub loop-pass-preserved : goal.loop-pass-preserved
loop-pass-preserved c =
    pass_on _ _ c.loop-pass.pass c.loop-pass.s _ _ (made (goal.at.loop-pass-preserved c).After-next_sweep-s) c.loop-pass-test.true c.if-s.false c.loop-pass.invariant

pub returns : goal.returns
returns c =
    passes-end _ _ c.loop-pass.pass c.loop-pass.s _ c.loop-pass-test.false c.loop-pass.invariant
    ∙ ap (λ (bs : List Aabb). sweep_of bs c.args.q) c.as_slice-boxes.ensures
