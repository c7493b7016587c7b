-- Whether a block raises the post of a wall below it, after `wall_post_rule`.
use Rattle.std.specs.Prelude.{Bool, not, ◌&&◌, List, ℕ, eqb}
use Rattle.base.specs.Choose.{choose}
use Rattle.idents.specs.declared.Properties.{Properties}
use Rattle.idents.specs.declared.Post.{Post}
use Rattle.idents.specs.declared.Post.TheVariants.{Never, Always, North, East, South, West, BadDirection}
use Rattle.suffixes.specs.Bytes.{bytes, equal, ends_with, has_within}
use Rattle.idents.specs.declared.Connects.TheVariants.{Wall}
use Rattle.idents.specs.Connects.{connects_number, connects_as}

-- the numbers of word 6; where the Rust panics, a number that no word 6 has
abbrev pub post_number : Post → ℕ
post_number Never = 0
post_number Always = 1
post_number North = 2
post_number East = 3
post_number South = 4
post_number West = 5
post_number BadDirection = 255

-- 255 marks a property that the block does not have
abbrev pub present : ℕ → Bool
present v = not (eqb v 255)

abbrev pub raised : Bool → Post
raised b = choose b Always Never

unfoldable pub facing : ℕ → Post
facing direction =
    choose (eqb direction 0) East
    (choose (eqb direction 1) West
    (choose (eqb direction 2) South
    (choose (eqb direction 3) North
    BadDirection)))

unfoldable pub is_wooden_trapdoor : List ℕ → Bool
is_wooden_trapdoor id = ends_with id (bytes "trapdoor") && not (equal id (bytes "minecraft:iron_trapdoor")) && not (has_within id (bytes "copper"))

unfoldable pub post_rule : List ℕ → Properties → Post
post_rule id p =
    choose (ends_with id (bytes "lantern")) (raised (eqb p.hanging 0))
    (choose (ends_with id (bytes "standing_sign")) Always
    (choose (present p.torch) (raised (eqb p.torch 1))
    (choose (eqb (connects_as id p.wall_north p.fence_north) (connects_number Wall)) (raised (eqb p.wall_post 1))
    (choose (is_wooden_trapdoor id && eqb p.open 1) (facing p.direction)
    Never))))

-- word 6
unfoldable pub wall_post_of : List ℕ → Properties → ℕ
wall_post_of id p = post_number (post_rule id p)
