-- The lent tables of document 01: a record is 20 words, a box six numbers. A look-up out of range answers 0, none, or no box.
use Rattle.std.specs.Prelude.{ℕ, ◌+◌, ◌*◌, ◌/◌, ◌%◌, Bool, List, [], take, drop, ◌==◌, from_bits, nat_le, nat_lt, slice_index, slice_index_or, Float}
use Rattle.std.specs.Float.{binary32}
use Rattle.base.specs.Choose.{choose}
use Rattle.floats.specs.Numbers.{zero64}
use Rattle.cover.specs.Cover.{box_count}
use Rattle.tables.specs.declared.LiquidKind.{LiquidKind}
use Rattle.tables.specs.declared.LiquidKind.TheVariants.{None, Water, Lava}
use Rattle.tables.specs.declared.LiquidState.{LiquidState}
use Rattle.tables.specs.declared.Head.{Head}
use Rattle.tables.specs.declared.ShapeBox.{ShapeBox}

-- ---- records

-- word k of a state's record; a record has words 0 to 19, and no other
abbrev pub word_at : List ℕ → ℕ → ℕ → ℕ
word_at records state k = choose (nat_lt k 20) (slice_index records (state * 20 + k)) 0

-- word 0: bit 0 registered, bit 1 blocks motion
unfoldable pub is_registered : List ℕ → ℕ → Bool
is_registered records state = word_at records state 0 % 2 == 1

unfoldable pub blocks_motion : List ℕ → ℕ → Bool
blocks_motion records state = word_at records state 0 / 2 % 2 == 1

-- words 0, 4, 7 and 8 together
abbrev pub head_of : ℕ → ℕ → ℕ → ℕ → Head
head_of flags kind first count = record { registered = (flags % 2 == 1); kind = kind; first = first; count = count }

abbrev pub head_at : List ℕ → ℕ → Head
head_at records state = head_of (word_at records state 0) (word_at records state 4) (word_at records state 7) (word_at records state 8)

-- word 1: the number with these f32 bits, which is an f64 too
unfoldable pub friction_at : List ℕ → ℕ → Float
friction_at records state = from_bits binary32 (word_at records state 1)

-- word 2: document 01's number of each kind of liquid
abbrev pub kind_number : LiquidKind → ℕ
kind_number None = 0
kind_number Water = 1
kind_number Lava = 2

unfoldable pub kind_of : ℕ → LiquidKind
kind_of n = choose (n == kind_number Water) Water (choose (n == kind_number Lava) Lava None)

-- words 2 and 3; depth 0 where there is no liquid
unfoldable pub liquid_of : ℕ → ℕ → LiquidState
liquid_of n depth = choose (kind_number (kind_of n) == 0) record { kind = None; depth = 0 } record { kind = kind_of n; depth = depth }

-- an unknown state has none
unfoldable pub liquid_at : List ℕ → ℕ → LiquidState
liquid_at records state = choose (is_registered records state) (liquid_of (word_at records state 2) (word_at records state 3)) record { kind = None; depth = 0 }

-- ---- boxes

-- the part of the shapes that is `count` boxes from box `first` on: nothing where it is not there whole
unfoldable pub boxes_at : List Float → ℕ → ℕ → List Float
boxes_at shapes first count = choose (nat_le (first + count) (box_count shapes)) (take (count * 6) (drop (first * 6) shapes)) []

-- words 7 and 8: a state's boxes
abbrev pub state_boxes : List ℕ → List Float → ℕ → List Float
state_boxes records shapes state = boxes_at shapes (word_at records state 7) (word_at records state 8)

-- number i of a shape, +0 where there is none
abbrev pub float_at : List Float → ℕ → Float
float_at shape i = slice_index_or shape i zero64

abbrev pub shape_box_of : Float → Float → Float → Float → Float → Float → ShapeBox
shape_box_of x0 y0 z0 x1 y1 z1 = record { x0 = x0; y0 = y0; z0 = z0; x1 = x1; y1 = y1; z1 = z1 }

-- box k of a shape
abbrev pub box_at : List Float → ℕ → ShapeBox
box_at shape k =
    record {
      x0 = float_at shape (k * 6);
      y0 = float_at shape (k * 6 + 1);
      z0 = float_at shape (k * 6 + 2);
      x1 = float_at shape (k * 6 + 3);
      y1 = float_at shape (k * 6 + 4);
      z1 = float_at shape (k * 6 + 5);
    }
