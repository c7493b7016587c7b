-- What a turn's answer says is said by no other: two answers that mean the same are equal. Assumes nothing.
use mathlib.Core.Path.{◌≡◌, ap}
use Prim.Native.Nat.{ℕ}
use Rattle.std.specs.Prelude.{Result, Ok, Err}
use Rattle.base.specs.Ask.{Ask, Turn, next}
use Rattle.base.specs.declared.Refusal.{Refusal}
use Rattle.base.specs.Refusals.{number_of, asked_as}
use Rattle.base.proofs.Answers.{one_number}
use Rattle.currents.specs.declared.Streams.{Streams}
use Rattle.currents.specs.declared.Current.{Current}

-- the streams of a turn that goes on
abbrev on : Streams → Turn Streams Current
on s = next s

pub one-gathered : (a b : Result Streams Refusal) → asked_as on a ≡ asked_as on b → a ≡ b
one-gathered (Ok s) (Ok t) e = cc
one-gathered (Ok s) (Err d) e = cc
one-gathered (Err d) (Ok t) e = cc
one-gathered (Err c) (Err d) e = let q : number_of c ≡ number_of d = cc in ap Err (one_number c d q)
