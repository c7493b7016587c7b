-- Transitions and posts, words 9 to 18 of document 01: north, east, south, west, post, each off and on. Link k is word 9 + k.
use Rattle.std.specs.Prelude.{ℕ, ◌+◌, ◌-◌, ◌/◌, leb, eqb}
use Rattle.base.specs.Choose.{choose}
use Rattle.turns.specs.Turns.{is_on, wall_turn}
use Rattle.palette_states.specs.States.{kind, index, bit, bit_at}

-- a fence or pane sets or clears its bit of the side, and its posts are its own index
unfoldable pub fence_link : ℕ → ℕ → ℕ
fence_link s k =
    choose (leb 8 k) s
    (choose (eqb (bit_at (index s) (k / 2)) 0)
    (choose (is_on k) (s + bit (k / 2)) s)
    (choose (is_on k) s (s - bit (k / 2))))

-- what connects as nothing has no link
unfoldable pub link : ℕ → ℕ → ℕ
link s k = choose (eqb (kind s) 0) 0 (choose (eqb (kind s) 4) (wall_turn (index s) k) (fence_link s k))
