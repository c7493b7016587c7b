-- A window from plain numbers: its origin, its sizes, the world's lowest and highest cell, and the air state.
use Rattle.std.specs.Prelude.{ℕ, ℤ}
use Rattle.window.specs.declared.Window.{Window}

abbrev pub window_of : ℤ → ℤ → ℤ → ℕ → ℕ → ℕ → ℤ → ℤ → ℕ → Window
window_of ox oy oz sx sy sz lowest highest air =
    record {
      origin = record { x = ox; y = oy; z = oz };
      sizes = record { x = sx; y = sy; z = sz };
      lowest = lowest;
      highest = highest;
      air = air;
    }

-- the same window under another air state
abbrev pub with_air : Window → ℕ → Window
with_air w air = record { origin = w.origin; sizes = w.sizes; lowest = w.lowest; highest = w.highest; air = air }
