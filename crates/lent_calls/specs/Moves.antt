-- The move through a window, in lent numbers: `mover` is the box that moves and its delta, nine numbers, and `places` are how many numbers
-- there is room for in what is lent to be written to.
use Rattle.std.specs.Prelude.{true, List, ℕ, eqb, leb, Float}
use Rattle.sweeps.specs.Entry.{MoveAnswer}
use Rattle.base.specs.Ask.{Ask}
use Rattle.sweeps.specs.declared.MoveResult.{MoveResult}
use Rattle.sweeps.specs.Lists.{cap_of}
use Rattle.lent.specs.Lent.{direct_refusal}
use Rattle.summary.specs.Calls.{plain_words, summed}
use Rattle.movers.specs.Movers.{vec_at, aabb_at, mover_refusal}
use Rattle.window.specs.declared.Window.{Window}
use Rattle.window.specs.Look.{look_at}
use Rattle.moves.specs.Answers.{move_aabb, move_answer}
use Rattle.lent_room.specs.Room.{roomy}

-- move_aabb: 1, 2, 3, 4 and 11 in order, before any cell is asked for; then 5 or 6
unfoldable pub moved_by : ℕ → ℕ → Ask MoveResult → List Float → Float → ℕ → ℕ → MoveAnswer
moved_by cap first asked mover step grounded places =
    move_answer (aabb_at mover 0) (roomy first (mover_refusal cap mover step grounded true) (leb 10 places) asked)

abbrev pub moving_at : ℕ → List ℕ → List Float → List ℕ → Window → List Float → Float → ℕ → Ask MoveResult
moving_at cap records shapes cells w mover step grounded =
    move_aabb (cap_of cap) (look_at cells w) records shapes (aabb_at mover 0) (vec_at mover 6) step (eqb grounded 1)

unfoldable pub move_at : ℕ → List ℕ → List Float → List ℕ → Window → List Float → Float → ℕ → ℕ → MoveAnswer
move_at cap records shapes cells w mover step grounded places =
    moved_by cap (direct_refusal records shapes cells w) (moving_at cap records shapes cells w mover step grounded) mover step grounded places

-- over a summary behind the window's words: its 11 and 13 come behind the 11 of the room, and then the move over cells and columns
unfoldable pub move_summed_at : ℕ → List ℕ → List Float → List ℕ → Window → List Float → Float → ℕ → ℕ → MoveAnswer
move_summed_at cap records shapes cells w mover step grounded places =
    moved_by cap (direct_refusal records shapes (plain_words cells w) w) (summed records cells w (moving_at cap records shapes (plain_words cells w) w mover step grounded)) mover step grounded places
