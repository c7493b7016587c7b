-- `minute::play` meets its contract. Assumes nothing.
use mathlib.Core.List.{[]}
use Rattle.base.specs.Loop.{listed}
use Rattle.logs.specs.Logs.{event_at, log_word}
use Rattle.minute_state.specs.Minute.{lent_seen, after}
use Rattle.minute_state.specs.Turns.{minute_seen, state_of}
use Rattle.minute_state.proofs.Turns.{Going}
use Rattle.minute.proofs.play.Given as goal

abbrev pub invariant-loop-i : goal.invariant-loop-i
invariant-loop-i l =
    Going (lent_seen l.lent) (event_at (log_word l.file l.log.scene l.log.blocks)) l.n
    (after (lent_seen l.lent) (state_of (minute_seen l.initial.m) l.initial.words []) (listed (event_at (log_word l.file l.log.scene l.log.blocks)) l.n 0))
    l.initial.words l.initial.feet l.i (minute_seen l.m) l.words l.feet
