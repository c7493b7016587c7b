-- A flow is of size at most 2 on each axis, and an item's current of size at most 4, whatever the cells and the tables are. Flows are summed over any
-- number of cells: a sum within 2 ^ 60 stays there, and it is normalised where it is of more than one flow. Assumes nothing.
use mathlib.Core.Path.{◌≡◌, refl, sym, subst}
use mathlib.Core.Bool.{Bool, true, false, not}
use mathlib.Core.List.{List}
use Prim.Native.Nat.{ℕ, suc, ◌+◌, ◌*◌, ◌^◌, ◌≤◌, ◌<◌}
use native.Mathlib.Nat.{zero-lt-suc}
use native.Mathlib.Omega.{arith}
use lib.IntN.{ℤ, pos, negsuc, ◌-ℤ◌}
use lib.Dec.{T, leb, ltb, eqb, leb→le, ltb→lt, nleb→lt, lit≤}
use lib.Ieee.{Float, binary64, of_int, of_bits}
use borrow.Author.Tests.{eqb-true}
use Rattle.base.specs.Choose.{choose}
use Rattle.base.specs.Ask.{Ask, found, Turn, next, done, resume}
use Rattle.base.specs.Every.{every}
use Rattle.base.proofs.Every.{every-at}
use Rattle.base.proofs.Bounds.{Within, round-most, whole, mul-within, sub_within, neg-within, stays}
use Rattle.floats.specs.Numbers.{one64}
use Rattle.boxes.specs.declared.Vec3.{Vec3}
use Rattle.boxes.specs.declared.Aabb.{Aabb}
use Rattle.boxes.specs.Boxes.{plus, minus}
use Rattle.boxes.specs.Vectors.{zero_vec, unit_y, scaled, normalised}
use Rattle.cover.specs.declared.Side.{Side}
use Rattle.cover.specs.declared.Side.TheVariants.{North, East, South, West}
use Rattle.tables.specs.declared.LiquidKind.{LiquidKind}
use Rattle.tables.specs.declared.LiquidKind.TheVariants.{None, Water, Lava}
use Rattle.tables.specs.declared.LiquidState.{LiquidState}
use Rattle.window.specs.declared.Pos.{Pos}
use Rattle.window.specs.Look.{Block}
use Rattle.flow.specs.Liquid.{is_liquid, liquid_held, alike, blocks_liquid_flow}
use Rattle.flow.specs.Flow as flow
use Rattle.currents.specs.declared.Stream.{Stream}
use Rattle.currents.specs.declared.Streams.{Streams}
use Rattle.currents.specs.declared.Current.{Current}
use Rattle.currents.specs.Current as current
use Rattle.ticks.proofs.Tells.{Finds, nothing, one, by, either, after}
use Rattle.finite.proofs.Asked.{asks, walks, Goes}
use Rattle.finite.proofs.Moves.{Vec, wider, zero-within, zero-vec, plus-within, either-vec}
use Rattle.finite.proofs.Lengths.{normal-within}

-- ---- differences of depths
abbrev small : ℤ → Bool
small (pos n) = leb n 16
small (negsuc n) = ltb n 16

number-within : (z : ℤ) → small z ≡ true → Within (of_int binary64 z) 16
unfolding of_int
number-within (pos n) h = round-most false n 1 (zero-lt-suc 0) (whole 16 (lit≤ tt)) (times n (leb→le n 16 (subst T (sym h) tt)))
  where
    times : (n : ℕ) → n ≤ 16 → n * 1 ≤ 16 * 1
    times n l = omega arith
number-within (negsuc n) h = round-most true (suc n) 1 (zero-lt-suc 0) (whole 16 (lit≤ tt)) (times n (ltb→lt n 16 (subst T (sym h) tt)))
  where
    times : (n : ℕ) → n < 16 → suc n * 1 ≤ 16 * 1
    times n l = omega arith

-- every difference of two depths below 8, and with 8 more: computed
all_small : every 8 (λ a. every 8 (λ c. small (pos a -ℤ pos c))) ≡ true
unfolding every
all_small = refl

all-small-below : every 8 (λ a. every 8 (λ c. small (pos a -ℤ (pos c -ℤ pos 8)))) ≡ true
unfolding every
all-small-below = refl

depth_small : (depth : ℕ) → flow.effective_depth depth < 8
unfolding flow.effective_depth choose
depth_small depth = go (leb 8 depth) (nleb→lt 8 depth)
  where
    go : (t : Bool) → (T (not t) → depth < 8) → choose t 0 depth < 8
    go true f = lit≤ tt
    go false f = f tt

-- ---- what flows to one side
beside-differs : (a c : ℕ) → a < 8 → c < 8 → Within (flow.difference_to a c) 16
unfolding flow.difference_to
beside-differs a c p q = number-within _ (every-at 8 (λ c. small (pos a -ℤ pos c)) (every-at 8 (λ a. every 8 (λ c. small (pos a -ℤ pos c))) all_small a p) c q)

below-differs : (a c : ℕ) → a < 8 → c < 8 → Within (flow.difference_below a c) 16
unfolding flow.difference_below
below-differs a c p q = number-within _ (every-at 8 (λ c. small (pos a -ℤ (pos c -ℤ pos 8))) (every-at 8 (λ a. every 8 (λ c. small (pos a -ℤ (pos c -ℤ pos 8)))) all-small-below a p) c q)

pub one-within : Within one64 1
unfolding of_bits
one-within = record { is = lit≤ tt }

six-within : Within flow.six64 6
unfolding of_bits
six-within = record { is = lit≤ tt }

unit-within : (side : Side) → Vec (flow.unit_to side) 1
unfolding flow.unit_to
unit-within North = record { x = zero-within 1; y = zero-within 1; z = neg-within one64 1 one-within }
unit-within East = record { x = one-within; y = zero-within 1; z = zero-within 1 }
unit-within South = record { x = zero-within 1; y = zero-within 1; z = one-within }
unit-within West = record { x = neg-within one64 1 one-within; y = zero-within 1; z = zero-within 1 }

scaled-within : (v : Vec3) (d : Float) (n m : ℕ) → Vec v n → Within d m → n * m ≤ 2 ^ 53 → Vec (scaled v d) (n * m)
scaled-within v d n m h g l = record { x = mul-within v.x d n m h.x g l; y = mul-within v.y d n m h.y g l; z = mul-within v.z d n m h.z g l }

minus-within : (u v : Vec3) (n m : ℕ) → Vec u n → Vec v m → n + m ≤ 2 ^ 53 → Vec (minus u v) (n + m)
minus-within u v n m h g l = record { x = sub_within u.x v.x n m h.x g.x l; y = sub_within u.y v.y n m h.y g.y l; z = sub_within u.z v.z n m h.z g.z l }

stays_within : (u v : Vec3) → Vec u (2 ^ 60) → Vec v 16 → Vec (plus u v) (2 ^ 60)
stays_within u v h g = record { x = stays u.x v.x h.x g.x; y = stays u.y v.y h.y g.y; z = stays u.z v.z h.z g.z }

side-within : (v : Vec3) (side : Side) (d : Float) → Vec v (2 ^ 60) → Within d 16 → Vec (plus v (scaled (flow.unit_to side) d)) (2 ^ 60)
side-within v side d h g = stays_within v (scaled (flow.unit_to side) d) h (scaled-within (flow.unit_to side) d 1 16 (unit-within side) g (lit≤ tt))

pub normalised-within : (v : Vec3) (walled : Bool) → Vec v (2 ^ 60) → Vec (flow.normalised_flow v walled) 2
unfolding flow.normalised_flow
normalised-within v walled h =
    let six : Vec (scaled unit_y flow.six64) 6 = scaled-within unit_y flow.six64 1 6 record { x = zero-within 1; y = one-within; z = zero-within 1 } six-within (lit≤ tt) in
    let down : Vec (minus (normalised v) (scaled unit_y flow.six64)) 8 = minus-within (normalised v) (scaled unit_y flow.six64) 2 6 (normal-within v h) six (lit≤ tt) in
    normal-within _ (either-vec walled _ v (2 ^ 60) (wider _ 8 (2 ^ 60) down (lit≤ tt)) h)

record Runs (f : flow.FlowSoFar) : Type 0 where
  is : Vec f.flow (2 ^ 60)

-- ---- flows summed over cells: what there is of none, of one, and of more
record Streaming (s : Stream) : Type 0 where
  any : Vec s.flow (2 ^ 60)
  none : s.count ≡ 0 → Vec s.flow 0
  one : s.count ≡ 1 → Vec s.flow 2

record Both (s : Streams) : Type 0 where
  water : Streaming s.water
  lava : Streaming s.lava

no_stream : Streaming current.empty_stream
no_stream = record { any = zero-vec (2 ^ 60); none = λ e. zero-vec 0; one = λ e. zero-vec 2 }

joined-streams : (s : Stream) (v : Vec3) → Streaming s → Vec v 2 → Streaming (current.stream_with s v)
unfolding current.stream_with current.one_more_than choose
joined-streams s v h g =
    record {
      any = stays_within s.flow v h.any (wider v 2 16 g (lit≤ tt));
      none = λ e. go-none (eqb s.count 0) e;
      one = λ e. plus-within s.flow v 0 2 (h.none (eqb-true s.count 0 (go-one (eqb s.count 0) e))) g (lit≤ tt);
    }
  where
    go-none : (t : Bool) → ◌≡◌ {A = ℕ} (choose t 1 2) 0 → Vec (plus s.flow v) 0
    go-none true e = absurd (omega arith)
    go-none false e = absurd (omega arith)

    go-one : (t : Bool) → ◌≡◌ {A = ℕ} (choose t 1 2) 1 → t ≡ true
    go-one true e = refl
    go-one false e = absurd (omega arith)

gathered-streams : (k : LiquidKind) (v : Vec3) (s : Streams) → Both s → Vec v 2 → Both (current.gathered k v s)
unfolding current.gathered
gathered-streams None v s h g = h
gathered-streams Water v s h g = record { water = joined-streams s.water v h.water g; lava = h.lava }
gathered-streams Lava v s h g = record { water = h.water; lava = joined-streams s.lava v h.lava g }

-- ---- what they do to a velocity
water-push : Within current.water_push 1
unfolding of_bits
water-push = record { is = lit≤ tt }

lava-push : Within current.lava_push 1
unfolding of_bits
lava-push = record { is = lit≤ tt }

direction-within : (s : Stream) → Streaming s → Vec (current.direction_of s) 2
unfolding current.direction_of choose
direction-within s h = go (eqb s.count 1) (eqb-true s.count 1)
  where
    go : (t : Bool) → (t ≡ true → s.count ≡ 1) → Vec (choose t s.flow (normalised s.flow)) 2
    go true f = h.one (f refl)
    go false f = normal-within s.flow h.any

pushed-within : (v : Vec3) (s : Stream) (d : Float) (n : ℕ) → Vec v n → Streaming s → Within d 1 → n + 2 ≤ 2 ^ 53 → Vec (current.carried_by v s d) (n + 2)
unfolding current.carried_by
pushed-within v s d n h g a l =
    either-vec (eqb s.count 0) _ _ (n + 2) (wider v n (n + 2) h (omega arith))
    (plus-within v (scaled (current.direction_of s) d) n 2 h (scaled-within (current.direction_of s) d 2 1 (direction-within s g) a (lit≤ tt)) l)

pub record Flows (c : Current) : Type 0 where
  pub flow : Vec c.flow 4

current-within : (s : Streams) → Both s → Flows (current.current_of s)
unfolding current.current_of
current-within s h =
    record { flow = pushed-within _ s.lava current.lava_push 2 (pushed-within zero_vec s.water current.water_push 0 (zero-vec 0) h.water water-push (lit≤ tt)) h.lava lava-push (lit≤ tt) }

-- ---- the asking
module _ (look : Pos → Ask Block) (records : List ℕ) where
  difference-finds : (p : Pos) (state : LiquidState) (side : Side) → Finds (λ g. (v : Vec3) → Vec v (2 ^ 60) → Vec (flow.flowed_by v side g) (2 ^ 60)) (flow.difference look records p state side)
  unfolding flow.difference flow.flowed_by
  difference-finds p state side =
      after (liquid_held look records _) _ (λ other.
      either (alike other.kind state.kind) _ _
      (one _ (λ v h. side-within v side _ h (beside-differs _ _ (depth_small other.depth) (depth_small state.depth))))
      (after (blocks_liquid_flow look records _) _ (λ stopped.
      either stopped _ _ (one _ (λ v h. h))
      (after (liquid_held look records _) _ (λ under.
      either (alike under.kind state.kind) _ _
      (one _ (λ v h. side-within v side _ h (below-differs _ _ (depth_small under.depth) (depth_small state.depth))))
      (one _ (λ v h. h)))))))

  side-finds : (p : Pos) (state : LiquidState) (side : Side) (f : flow.FlowSoFar) → Runs f → Finds Runs (flow.side_flow look records p state side f)
  unfolding flow.side_flow
  side-finds p state side f h =
      by _ _ (difference-finds p state side) (λ g G. after (flow.walled_by look records p state side f.walled) _ (λ w. one _ record { is = G f.flow h.is }))

  flow-finds : (p : Pos) (state : LiquidState) → Finds (λ v. Vec v 2) (flow.liquid_flow look records p state)
  unfolding flow.liquid_flow
  flow-finds p state =
      by _ _ (asks Runs (flow.side_turn look records p state) (λ i f h. side-finds p state (flow.side_of i) f h) 4 0 record { flow = zero_vec; walled = false } record { is = zero-vec (2 ^ 60) })
      (λ f F. one _ (normalised-within f.flow f.walled F.is))

  turn-finds : (foot : Pos) (foot_state : LiquidState) (p : Pos) (s : Streams) → Both s → Finds (Goes Both) (current.current_turn look records foot foot_state p s)
  unfolding current.current_turn
  turn-finds foot foot_state p s h =
      after (current.liquid_known look records foot foot_state p) _ (λ state.
      either (is_liquid state.kind) _ _
      (by _ _ (flow-finds p state) (λ v W. one _ (gathered-streams state.kind v s h W)))
      (one _ h))

  pub current-finds : (aabb : Aabb) (foot : Pos) (foot_state : LiquidState) → Finds Flows (current.item_current look records aabb foot foot_state)
  unfolding current.item_current
  current-finds aabb foot foot_state =
      either (current.beyond_reach aabb) _ _ (nothing 5)
      (by _ _ (walks Both (current.current_turn look records foot foot_state) (current.current_range aabb) (turn-finds foot foot_state) current.no_streams record { water = no_stream; lava = no_stream }) end)
    where
      end : (t : Turn Streams Current) → Goes Both t → Finds Flows (resume (λ s. found (current.current_of s)) t)
      end (next s) h = one _ (current-within s h)
      end (done c) h = absurd h
