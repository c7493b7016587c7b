-- `turns::turn` meets its contract. Assumes nothing.
use mathlib.Core.Path.{refl}
use native.Mathlib.Omega.{arith}
use borrow.Author.Tests.{lt-ltb, le-ltb}
use Rattle.base.specs.Choose.{choose}
use Rattle.base.specs.Every.{every}
use Rattle.turns.specs.Turns.{weight, digit_at, turned, turned_at, wall_link, wall_turn}
use Rattle.turns.proofs.Rules.{tested, right, read}
use Rattle.turns.proofs.turn.Goals as goal
use Rattle.turns.proofs.turn.Goals.{else-wall-lt162-via-then-wall-lt162+else-k-lt10, else-wall-lt162-via-else-wall-lt162}

-- the test over the whole table, computed
pub returns-then-k-lt10 : goal.returns-then-k-lt10
unfolding tested right every choose weight digit_at turned turned_at wall_link
returns-then-k-lt10 c = let both = read _ _ _ _ c.entry.ensures refl refl c.if-wall-lt162.true c.if-k-lt10.true in record { value = both.0; rule = both.1 }

pub returns-else-wall-lt162 : goal.returns-else-wall-lt162
unfolding wall_turn choose
returns-else-wall-lt162 c = elim c.else-wall-lt162.branch [
  | else-wall-lt162-via-then-wall-lt162+else-k-lt10 w ↦ record { value = rw (lt-ltb _ _ w.if-wall-lt162.true, le-ltb _ _ w.if-k-lt10.false); rule = λ h g. absurd (omega (arith, w.if-k-lt10.false)) }
  | else-wall-lt162-via-else-wall-lt162 w ↦ record { value = rw (le-ltb _ _ w.if-wall-lt162.false); rule = λ h g. absurd (omega (arith, w.if-wall-lt162.false)) }
]
