-- `palette::links::fence_link` meets its contract. Assumes nothing.
use Rattle.std.proofs.Common.{◌≡◌, ◌/◌, ◌∙◌, arith, rules}
use Rattle.palette_states.specs.States.{index, bit_at}
use Rattle.palette.proofs.Ranges.{bit_below}
use Rattle.palette.proofs.links.fence_link.Goals as goal

pub overflow_sub-result : goal.overflow_sub-result
overflow_sub-result c =
    rw c.bit_of-bit.ensures.value
    (bit_below c.args.state (c.args.k / 2) (search rules) (omega arith)
    (λ (e : bit_at (index c.args.state) (c.args.k / 2) ≡ 0). let z : c.bit_at-set.result ≡ 0 = c.bit_at-set.ensures ∙ (rw (← c.index_of.ensures) at e) in search rules))
