-- `lent_moves::moved_over` meets its contract. Assumes nothing.
use mathlib.Core.Path.{◌≡◌, ◌∙◌}
use Rattle.sweeps.specs.Passes.{pass_of}
use Rattle.sweeps.proofs.Shape.{moves}
use Rattle.sweeps.proofs.Turns.{pass-is, pass_on, pass-over, passes-end}
use Rattle.lent_boxes.specs.Boxes.{first_boxes}
use Rattle.lent_moves.proofs.moved_over.Goals as goal
use Rattle.lent_moves.proofs.moved_over.Goals.{After-next_sweep-s}

-- a pass was made
made : (c : After-next_sweep-s) → c.next_sweep-s.result ≡ pass_of c.loop-pass.pass (first_boxes c.args.n c.args.numbers.now) c.args.q c.loop-pass.s
made c = pass-is _ _ c.loop-pass.pass c.loop-pass.s _ _ _ _ _ c.axis_of-axis.ensures c.wanted-way.ensures c.clip_all-d.ensures c.gone.ensures c.next_sweep-s.ensures

pub returns-then-s : goal.returns-then-s
returns-then-s c =
    let l = c.loop-pass in
    c.ended.ensures ∙ moves _ _ _ (pass-over _ _ l.pass l.s _ _ (made (goal.at.returns-then-s c).After-next_sweep-s) c.loop-pass-test.true c.if-s.true l.invariant)

pub loop-pass-preserved : goal.loop-pass-preserved
loop-pass-preserved c =
    let l = c.loop-pass in
    pass_on _ _ l.pass l.s _ _ (made (goal.at.loop-pass-preserved c).After-next_sweep-s) c.loop-pass-test.true c.if-s.false l.invariant

pub returns : goal.returns
returns c = c.ended-2.ensures ∙ moves _ _ _ (passes-end _ _ c.loop-pass.pass c.loop-pass.s _ c.loop-pass-test.false c.loop-pass.invariant)
