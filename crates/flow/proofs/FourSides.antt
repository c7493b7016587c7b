-- The four sides of a flow, from what the calls of one turn answer. The invariant says that the sides that are left, from here, come to what
-- all four come to. Assumes nothing.
use mathlib.Core.Bool.{Bool, false}
use mathlib.Core.Path.{◌≡◌, refl}
use mathlib.Core.List.{List, [], ◌∷◌}
use Rattle.std.specs.Prelude.{Option}
use Prim.Native.Nat.{ℕ, zero, suc, ◌+◌, ◌-◌, ◌<◌, ◌≤◌}
use native.Mathlib.Omega.{arith}
use lib.ListN.{get_or}
use Rattle.base.specs.Choose.{choose}
use Rattle.base.specs.Ask.{Ask, refused, found, asking}
use Rattle.base.proofs.Asks.{ask-end, ask-stop, ask-next}
use Rattle.boxes.specs.declared.Vec3.{Vec3}
use Rattle.boxes.specs.Vectors.{zero_vec}
use Rattle.cover.specs.declared.Side.{Side}
use Rattle.cover.specs.declared.Side.TheVariants.{North, East, South, West}
use Rattle.tables.specs.declared.LiquidState.{LiquidState}
use Rattle.window.specs.declared.Pos.{Pos}
use Rattle.window.specs.Look.{Block}
use lib.Ieee.{Float}
use Rattle.flow.specs.Flow.{FlowSoFar, difference, flowed_by, walled_by, side_flow, normalised_flow, side_of, side_turn, liquid_flow}

abbrev pub so_far : Vec3 → Bool → FlowSoFar
so_far flow walled = record { flow = flow; walled = walled }

-- the sides as the program lists them
abbrev pub listed_sides : List Side
listed_sides = East ∷ West ∷ South ∷ North ∷ []

side_at : (k : ℕ) → k < 4 → get_or listed_sides k North ≡ side_of k
unfolding side_of choose
side_at zero h = refl
side_at (suc zero) h = refl
side_at (suc (suc zero)) h = refl
side_at (suc (suc (suc zero))) h = refl
side_at (suc (suc (suc (suc k)))) h = absurd (omega arith)

module _ (look : Pos → Ask Block) (records : List ℕ) (p : Pos) (state : LiquidState) where
  abbrev whole : Ask FlowSoFar
  whole = asking (side_turn look records p state) 4 0 (so_far zero_vec false)

  pub record Sides (flow : Vec3) (walled : Bool) (k : ℕ) : Type 0 where
    pub rest : asking (side_turn look records p state) (4 - k) k (so_far flow walled) ≡ whole

  pub sides_start : (flow : Vec3) → flow ≡ zero_vec → Sides flow false 0
  sides_start flow e = record { rest = rw e refl }

  module _ {flow : Vec3} {walled : Bool} {k : ℕ} (inv : Sides flow walled k) where
    -- what the whole comes to where a turn is refused, and where all are done
    ends : (n : ℕ) → k < 4 → refused n ≡ side_turn look records p state k (so_far flow walled) → refused n ≡ liquid_flow look records p state
    unfolding liquid_flow
    ends n h e = rw (← ask-stop (side_turn look records p state) 4 k (so_far flow walled) whole h (refused n) n e refl inv.rest)

    pub sides_end : (v : Vec3) → 4 ≤ k → v ≡ normalised_flow flow walled → found v ≡ liquid_flow look records p state
    unfolding liquid_flow
    sides_end v h e = rw (← ask-end (side_turn look records p state) 4 k (so_far flow walled) whole h inv.rest, e)

    module _ (h : k < 4) where
      abbrev pub side : Side
      side = get_or listed_sides k North

      s : side ≡ side_of k
      s = side_at k h

      pub no_difference : (n : ℕ) → refused n ≡ difference look records p state side → refused n ≡ liquid_flow look records p state
      unfolding side_flow
      no_difference n d = ends n h (rw (← s, ← d))

      module _ (gap : Option Float) (d : found gap ≡ difference look records p state side) where
        pub no_wall : (n : ℕ) → refused n ≡ walled_by look records p state side walled → refused n ≡ liquid_flow look records p state
        unfolding side_flow
        no_wall n e = ends n h (rw (← s, ← d, ← e))

        turned : (b : Bool) (v : Vec3) → found b ≡ walled_by look records p state side walled → v ≡ flowed_by flow side gap
            → found (so_far v b) ≡ side_turn look records p state k (so_far flow walled)
        unfolding side_flow
        turned b v e f = rw (← s, ← d, ← e, ← f)

        pub sides_next : (b : Bool) (v : Vec3) → found b ≡ walled_by look records p state side walled → v ≡ flowed_by flow side gap → Sides v b (k + 1)
        sides_next b v e f =
            record {
              rest = ask-next (side_turn look records p state) 4 k (so_far flow walled) whole h (found (so_far v b)) (so_far v b) (turned b v e f) refl inv.rest;
            }
