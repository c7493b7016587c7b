-- What a host is told is all that it is: another answer that fits the contract is equal. Assumes nothing.
use mathlib.Core.Path.{◌≡◌, sym, ap}
use Rattle.std.specs.Prelude.{Result, Ok, Err}
use Rattle.base.specs.declared.Refusal.{Refusal}
use Rattle.base.specs.Refusals.{asked}
use Rattle.base.proofs.Answers.{one_number, some_number}
use Rattle.tables.specs.declared.LiquidKind.{LiquidKind}
use Rattle.liquids.specs.Answers.{LiquidAnswer, liquid_answer}

pub liquid-once : (a b : Result LiquidKind Refusal) → liquid_answer (asked a) ≡ liquid_answer (asked b) → a ≡ b
liquid-once (Ok x) (Ok y) e = ap (λ (s : LiquidAnswer). Ok s.kind) e
liquid-once (Ok x) (Err d) e = absurd (some_number d (sym (ap (λ (s : LiquidAnswer). s.refusal) e)))
liquid-once (Err d) (Ok y) e = absurd (some_number d (ap (λ (s : LiquidAnswer). s.refusal) e))
liquid-once (Err c) (Err d) e = ap Err (one_number c d (ap (λ (s : LiquidAnswer). s.refusal) e))
