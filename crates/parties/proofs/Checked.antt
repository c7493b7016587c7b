-- By the program's test whether the tables were refused. Assumes nothing.
use mathlib.Core.Bool.{Bool, true, false, true≢false}
use mathlib.Core.Path.{◌≡◌, sym, ◌∙◌}
use Prim.Native.Nat.{ℕ}
use Rattle.std.specs.Prelude.{⊤, Result, Ok, Err}
use Rattle.std.specs.Result.{is_err}
use Rattle.base.specs.declared.Refusal.{Refusal}
use Rattle.base.specs.Refusals.{verdict}
use Rattle.base.proofs.Answers.{some_number}

pub refused_by : (r : Result ⊤ Refusal) (b : Bool) (n : ℕ) → verdict r ≡ n → b ≡ is_err r → b ≡ true → n ≡ 0 → ⊥
refused_by (Ok x) b n v e t = absurd (true≢false (sym t ∙ e))
refused_by (Err d) b n v e t = λ z. some_number d (v ∙ z)

pub passed : (r : Result ⊤ Refusal) (b : Bool) (n : ℕ) → verdict r ≡ n → b ≡ is_err r → b ≡ false → n ≡ 0
passed (Ok x) b n v e f = sym v
passed (Err d) b n v e f = absurd (true≢false (sym e ∙ f))
