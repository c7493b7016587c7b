-- What the program's answers say, and what a host is handed.
use Rattle.std.specs.Prelude.{List, ℕ, Float}
use Rattle.base.specs.Ask.{Ask, refused, found}
use Rattle.window.specs.declared.Pos.{Pos}
use Rattle.window.specs.declared.Window.{Window}
use Rattle.window.specs.Look.{look_at}
use Rattle.lent.specs.Lent.{direct}
use Rattle.connect.specs.Connect.{connected_state}

-- refusal 0 and the state, or a refusal and 0
pub record StateAnswer : Type 0 where
  pub refusal : ℕ
  pub state : ℕ

-- a refused call hands back the state 0
abbrev pub state_answer : Ask ℕ → StateAnswer
state_answer (refused n) = record { refusal = n; state = 0 }
state_answer (found s) = record { refusal = 0; state = s }

-- 1, then 2, before any cell is asked for; then 5
unfoldable pub connected_entry : List ℕ → List Float → List ℕ → Window → Pos → ℕ → StateAnswer
connected_entry records shapes cells w p state =
    state_answer (direct records shapes cells w (connected_state (look_at cells w) records p state))
