-- `tables::float_at` meets its contract. Assumes nothing.
use Rattle.std.proofs.Common.{sym, ◌∙◌, rules}
use lib.ListN.{get_or-eq_default}
use Rattle.tables.proofs.Lists.{get_d_any}
use Rattle.tables.proofs.float_at.Goals as goal

pub returns-then-i-shape : goal.returns-then-i-shape
returns-then-i-shape c =
    c.f32_to_f64_with_nan.ensures ∙ get_d_any c.args.shape.now _ _ _ c.if-i-shape.true

pub returns : goal.returns
returns c = sym (get_or-eq_default c.args.shape.now _ c.if-i-shape.false)
