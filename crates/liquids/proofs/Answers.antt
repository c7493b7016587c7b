-- What a turn of the search says is said by no other: two answers that mean the same are equal. Assumes nothing.
use mathlib.Core.Path.{◌≡◌, ap}
use Prim.Native.Nat.{ℕ}
use Rattle.std.specs.Prelude.{Bool, Result, Ok, Err}
use Rattle.std.specs.declared.ops.ControlFlow.{ControlFlow}
use Rattle.std.specs.declared.ops.ControlFlow.TheVariants.{Continue, Break}
use Rattle.base.specs.declared.Refusal.{Refusal}
use Rattle.base.specs.Refusals.{number_of, asked_as}
use Rattle.base.proofs.Answers.{one_number}
use Rattle.tables.specs.declared.LiquidKind.{LiquidKind}
use Rattle.liquids.specs.Answers.{search_of}

-- whether it goes on, and with what
one_search_of : (a b : ControlFlow LiquidKind Bool) → search_of a ≡ search_of b → a ≡ b
one_search_of (Continue s) (Continue t) e = cc
one_search_of (Continue s) (Break k) e = cc
one_search_of (Break j) (Continue t) e = cc
one_search_of (Break j) (Break k) e = cc

pub one-search : (a b : Result (ControlFlow LiquidKind Bool) Refusal) → asked_as search_of a ≡ asked_as search_of b → a ≡ b
one-search (Ok s) (Ok t) e = let q : search_of s ≡ search_of t = cc in ap Ok (one_search_of s t q)
one-search (Ok s) (Err d) e = cc
one-search (Err d) (Ok t) e = cc
one-search (Err c) (Err d) e = let q : number_of c ≡ number_of d = cc in ap Err (one_number c d q)
