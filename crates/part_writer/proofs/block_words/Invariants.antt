-- `part_writer::block_words` meets its contract. Assumes nothing.
use Rattle.std.proofs.Common.{◌≡◌, ℕ, ◌+◌, ◌-◌, ◌≤◌, ◌++◌, length, take}
use Rattle.base.specs.Loop.{listed}
use Rattle.part_writer.proofs.block_words.Given as goal

abbrev pub invariant-loop-k : goal.invariant-loop-k
invariant-loop-k g l =
    (l.k ≤ 123)
    × (length l.words ≡ 123)
    × ((f : ℕ → ℕ) → ((i w : ℕ) → goal.F-post g l.word i w → w ≡ f i) → take l.k l.words ++ listed (λ i. f (l.from + i)) (123 - l.k) l.k ≡ listed (λ i. f (l.from + i)) 123 0)
