-- What a turn of the search says, and what a host is handed.
use Rattle.std.specs.Prelude.{Bool, not, List, ℕ, Float}
use Rattle.base.specs.Ask.{Ask, refused, found, Turn, next, done}
use Rattle.boxes.specs.declared.Aabb.{Aabb}
use Rattle.boxes.specs.Limits.{is_box}
use Rattle.tables.specs.declared.LiquidKind.{LiquidKind}
use Rattle.tables.specs.declared.LiquidKind.TheVariants.{None}
use Rattle.window.specs.declared.Window.{Window}
use Rattle.window.specs.Look.{look_at}
use Rattle.lent.specs.Lent.{unless, direct}
use Rattle.std.specs.declared.ops.ControlFlow.{ControlFlow}
use Rattle.std.specs.declared.ops.ControlFlow.TheVariants.{Continue, Break}
use Rattle.liquids.specs.Living.{living_liquid}

-- what one cell's turn says
abbrev pub search_of : ControlFlow LiquidKind Bool → Turn Bool LiquidKind
search_of (Continue lava) = next lava
search_of (Break kind) = done kind

-- ---- what a host is handed

-- refusal 0 and the liquid, or a refusal and none
pub record LiquidAnswer : Type 0 where
  pub refusal : ℕ
  pub kind : LiquidKind

-- a refused call answers none
abbrev pub liquid_answer : Ask LiquidKind → LiquidAnswer
liquid_answer (refused n) = record { refusal = n; kind = None }
liquid_answer (found kind) = record { refusal = 0; kind = kind }

-- 1, then 2, then 4, before any cell is asked for; then 5
unfoldable pub living_entry : List ℕ → List Float → List ℕ → Window → Aabb → LiquidAnswer
living_entry records shapes cells w aabb =
    liquid_answer (direct records shapes cells w (unless (not (is_box aabb)) 4 (living_liquid (look_at cells w) records aabb)))
