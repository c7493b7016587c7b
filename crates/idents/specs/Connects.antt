-- What a block connects as, after `connectable`: by its identifier and the presence of the two north properties.
use Rattle.std.specs.Prelude.{Bool, not, ◌||◌, List, ℕ}
use Rattle.base.specs.Choose.{choose}
use Rattle.idents.specs.declared.Connects.{Connects}
use Rattle.idents.specs.declared.Connects.TheVariants.{Nothing, Fence, NetherBrickFence, Thin, Wall}
use Rattle.suffixes.specs.Bytes.{bytes, equal, ends_with}

-- the numbers of word 4
abbrev pub connects_number : Connects → ℕ
connects_number Nothing = 0
connects_number Fence = 1
connects_number NetherBrickFence = 2
connects_number Thin = 3
connects_number Wall = 4

unfoldable pub family : List ℕ → Bool → Bool → Connects
family id has_wall_north has_fence_north =
    choose has_wall_north Wall
    (choose (not has_fence_north) Nothing
    (choose (ends_with id (bytes "_fence")) (choose (equal id (bytes "minecraft:nether_brick_fence")) NetherBrickFence Fence)
    (choose (ends_with id (bytes "glass_pane") || ends_with id (bytes "_bars")) Thin
    Nothing)))

-- word 4
unfoldable pub connects_as : List ℕ → Bool → Bool → ℕ
connects_as id has_wall_north has_fence_north = connects_number (family id has_wall_north has_fence_north)
