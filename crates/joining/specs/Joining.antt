-- Module 5 without its asking: the Rust's `connects`, the transitions and the post rule, over the words of lent records.
use Rattle.std.specs.Prelude.{Bool, true, false, not, ◌&&◌, ◌||◌, List, ℕ, ◌/◌, ◌%◌, eqb}
use Rattle.base.specs.Choose.{choose}
use Rattle.cover.specs.declared.Side.{Side}
use Rattle.cover.specs.declared.Side.TheVariants.{North, East, South, West}
use Rattle.tables.specs.Tables.{word_at, is_registered}
use Rattle.window.specs.Look.{Block, none, some}
use Rattle.joining.specs.declared.Joined.{Joined}

abbrev pub along_x : Side → Bool
along_x North = false
along_x East = true
along_x South = false
along_x West = true

-- ---- connects

-- word 4: 0 nothing, 1 fence, 2 nether brick fence, 3 thin, 4 wall; an unregistered state connects as nothing
unfoldable pub connect_kind : List ℕ → ℕ → ℕ
connect_kind records state = choose (is_registered records state) (word_at records state 4) 0

unfoldable pub is_fence : ℕ → Bool
is_fence kind = choose (eqb kind 1) true (eqb kind 2)

unfoldable pub is_thin_or_wall : ℕ → Bool
is_thin_or_wall kind = choose (eqb kind 3) true (eqb kind 4)

-- word 19, bit 0 north, 1 east, 2 south, 3 west: the neighbour's face opposite to its side
unfoldable pub opposite_face : ℕ → Side → Bool
opposite_face faces North = eqb (faces / 4 % 2) 1
opposite_face faces East = eqb (faces / 8 % 2) 1
opposite_face faces South = eqb (faces % 2) 1
opposite_face faces West = eqb (faces / 2 % 2) 1

-- word 5, gate 0 none, 1 spans x, 2 spans z: it decides unless we are thin, and joins where it spans the side's axis
unfoldable pub gate_decides : ℕ → ℕ → Bool
gate_decides kind gate = choose (eqb kind 3) false (not (eqb gate 0))

unfoldable pub gate_joins : ℕ → Side → Bool
gate_joins gate side = choose (along_x side) (eqb gate 1) (not (eqb gate 1))

-- an unregistered neighbour doesn't connect; fence to fence the same material only; thin or wall to thin or wall; a gate by its axis; the face
unfoldable pub registered_connects : List ℕ → ℕ → Side → ℕ → Bool
registered_connects records kind side state =
    choose (is_registered records state)
    (choose (is_fence kind && is_fence (word_at records state 4)) (eqb kind (word_at records state 4))
    (choose (is_thin_or_wall kind && is_thin_or_wall (word_at records state 4)) true
    (choose (gate_decides kind (word_at records state 5)) (gate_joins (word_at records state 5) side)
    (opposite_face (word_at records state 19) side))))
    false

-- what is not loaded connects
abbrev pub connects : List ℕ → ℕ → Side → Block → Bool
connects records kind side none = true
connects records kind side (some state) = registered_connects records kind side state

-- ---- transitions

-- words 9 to 16: north, east, south, west, each off and on
unfoldable pub side_word : Side → Bool → ℕ
side_word North on = choose on 10 9
side_word East on = choose on 12 11
side_word South on = choose on 14 13
side_word West on = choose on 16 15

unfoldable pub transition : List ℕ → Side → Bool → ℕ → ℕ
transition records side on state = word_at records state (side_word side on)

-- side by side, each from the state that the one before gave
unfoldable pub transitions : List ℕ → Joined → ℕ → ℕ
transitions records j state =
    transition records West j.west
    (transition records South j.south
    (transition records East j.east
    (transition records North j.north state)))

-- words 17 and 18: post off, on
unfoldable pub post_transition : List ℕ → Bool → ℕ → ℕ
post_transition records on state = choose on (word_at records state 18) (word_at records state 17)

-- ---- the post of a wall

-- exactly north and south, or exactly east and west
unfoldable pub straight : Joined → Bool
straight j = (j.north && not j.east && j.south && not j.west) || (not j.north && j.east && not j.south && j.west)

-- word 6: 0 never, 1 always, 2 to 5 facing north, east, south, west
unfoldable pub raises : ℕ → Joined → Bool
raises rule j =
    choose (eqb rule 1) true
    (choose (eqb rule 2) j.north
    (choose (eqb rule 3) j.east
    (choose (eqb rule 4) j.south
    (choose (eqb rule 5) j.west false))))

-- what is not loaded, or not registered, raises nothing
unfoldable pub raised_by : List ℕ → Joined → Block → Bool
raised_by records j none = false
raised_by records j (some above) = choose (is_registered records above) (raises (word_at records above 6) j) false
