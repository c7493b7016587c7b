-- `minute::play` meets its contract. Assumes nothing.
use Rattle.minute_state.proofs.Turns.{going-first, turn-held, turn-going, held-stop, held-end}
use Rattle.minute.proofs.Ends.{ended, going}
use Rattle.minute.proofs.play.Goals as goal

pub loop-i-init : goal.loop-i-init
loop-i-init c = going-first _ _ _ _ _ _ c.ranges.n.fits c.requires.ticks_value c.requires.refusal_value

pub returns-then-is_err : goal.returns-then-is_err
returns-then-is_err c =
    let d = held-stop _ _ _ _ _ _ _ _ _ (turn-held _ _ _ _ _ _ _ _ _ _ c.loop-i.invariant c.loop-i-test.true _ c.event_at-e.ensures _ _ _ c.turn-m.ensures.value c.turn-m.ensures.words_after c.turn-m.ensures.feet_after) (ended _ _ c.is_err.ensures.value c.if-is_err.true) in
    record { value = d.is; words_after = d.cells; feet_after = d.numbers }

pub loop-i-preserved : goal.loop-i-preserved
loop-i-preserved c =
    turn-going _ _ _ _ _ _ _ _ _ _ c.loop-i.invariant c.loop-i-test.true _ c.event_at-e.ensures _ _ _ c.turn-m.ensures.value c.turn-m.ensures.words_after c.turn-m.ensures.feet_after (going _ _ c.is_err.ensures.value c.if-is_err.false)

pub returns : goal.returns
returns c =
    let d = held-end _ _ _ _ _ _ _ _ _ c.loop-i.invariant.held c.loop-i-test.false in
    record { value = d.is; words_after = d.cells; feet_after = d.numbers }
