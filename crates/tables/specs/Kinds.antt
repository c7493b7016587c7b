-- Which kind of liquid a number of word 2 names: none but these, and another number is refused by 1.
use Rattle.std.specs.Prelude.{ℕ, ◌==◌, Result, Ok, Err}
use Rattle.base.specs.Choose.{choose}
use Rattle.base.specs.declared.Refusal.{Refusal}
use Rattle.base.specs.declared.Refusal.TheVariants.{Tables}
use Rattle.tables.specs.declared.LiquidKind.{LiquidKind}
use Rattle.tables.specs.declared.LiquidKind.TheVariants.{None, Water, Lava}
use Rattle.tables.specs.Tables.{kind_number}

unfoldable pub kind_read : ℕ → Result LiquidKind Refusal
kind_read n =
    choose (n == kind_number None) (Ok None)
    (choose (n == kind_number Water) (Ok Water)
    (choose (n == kind_number Lava) (Ok Lava)
    (Err Tables)))
