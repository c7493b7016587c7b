-- What a move that was asked for writes is what its numbers say. Assumes nothing.
use mathlib.Core.Path.{◌≡◌, refl}
use mathlib.Core.List.{List}
use lib.Ieee.{Float}
use borrow.Author.Tests.{ne_eqb}
use Rattle.std.specs.Prelude.{Result, Ok, Err}
use Rattle.base.specs.Choose.{choose}
use Rattle.base.specs.declared.Refusal.{Refusal}
use Rattle.base.specs.Refusals.{number_of, asked}
use Rattle.base.proofs.Answers.{some_number}
use Rattle.boxes.specs.declared.Aabb.{Aabb}
use Rattle.sweeps.specs.declared.MoveResult.{MoveResult}
use Rattle.sweeps.specs.Entry.{move_answer}
use Rattle.lent_numbers.specs.Written.{written_by, written_asked}

pub asked-written : (out : List Float) (b : Aabb) (r : Result MoveResult Refusal) → written_asked out (asked r) ≡ written_by out (move_answer b (asked r))
unfolding written_by choose
asked-written out b (Ok m) = refl
asked-written out b (Err e) = rw (ne_eqb (number_of e) 0 (some_number e))
