-- `tables::box_of` meets its contract. Assumes nothing.
use Rattle.std.proofs.Common.{rules}
use Rattle.tables.proofs.Casts.{lower-casts, upper-casts}
use Rattle.tables.proofs.box_of.Goals as goal

pub float_to_float-result : goal.float_to_float-result
float_to_float-result c = lower-casts _ _ c.row_known-1.given c.if-x0-x1.true

pub float_to_float-result-then-z0-z1 : goal.float_to_float-result-then-z0-z1
float_to_float-result-then-z0-z1 c = lower-casts _ _ c.row_known-then-z0-z1-1.given c.if-y0-y1.true

pub float_to_float-result-then-z0-z1-2 : goal.float_to_float-result-then-z0-z1-2
float_to_float-result-then-z0-z1-2 c = lower-casts _ _ c.row_known-then-z0-z1-2-1.given c.if-z0-z1.true

pub float_to_float-result-then-z0-z1-3 : goal.float_to_float-result-then-z0-z1-3
float_to_float-result-then-z0-z1-3 c = upper-casts _ _ c.row_known-then-z0-z1-3-1.given c.if-x0-x1.true

pub float_to_float-result-then-z0-z1-4 : goal.float_to_float-result-then-z0-z1-4
float_to_float-result-then-z0-z1-4 c = upper-casts _ _ c.row_known-then-z0-z1-4-1.given c.if-y0-y1.true

pub float_to_float-result-then-z0-z1-5 : goal.float_to_float-result-then-z0-z1-5
float_to_float-result-then-z0-z1-5 c = upper-casts _ _ c.row_known-then-z0-z1-5-1.given c.if-z0-z1.true

pub returns : goal.returns
returns c =
    rw (← c.f32_to_f64_with_nan.ensures, ← c.f32_to_f64_with_nan-2.ensures, ← c.f32_to_f64_with_nan-3.ensures, ← c.f32_to_f64_with_nan-4.ensures, ← c.f32_to_f64_with_nan-5.ensures, ← c.f32_to_f64_with_nan-6.ensures)
