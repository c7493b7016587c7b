-- A move over any boxes stays within bounds (`move-within`): no clip lengthens a way, and each axis is gone along once, or up and down again. So it is
-- of every list that is handed in or collected, whatever the tables are. Assumes nothing.
use mathlib.Core.Path.{◌≡◌, refl}
use mathlib.Core.Bool.{Bool, true, false, not, ◌&&◌}
use mathlib.Core.Logic.{inl, inr}
use mathlib.Core.List.{List}
use Prim.Native.Nat.{ℕ, ◌+◌, ◌*◌, ◌^◌, ◌≤◌, ◌<◌}
use native.Mathlib.Omega.{arith}
use lib.Dec.{eqb, ltb, lit≤}
use lib.Ieee.{Float, binary64, of_bits, neg, add, lt}
use borrow.Author.Tests.{eqb-false}
use Rattle.base.specs.Choose.{choose}
use Rattle.base.specs.Ask.{Ask, refused, found, ◌>>=◌, unless}
use Rattle.base.proofs.Every.{both, and-true}
use Rattle.base.proofs.Bounds.{Within, add-within, neg-within, more}
use Rattle.floats.specs.Numbers.{zero64}
use Rattle.boxes.specs.declared.Vec3.{Vec3}
use Rattle.boxes.specs.declared.Aabb.{Aabb}
use Rattle.boxes.specs.Boxes.{vec, plus, offset_by, clip_x, clip_y, clip_z}
use Rattle.boxes.specs.Vectors.{zero_vec}
use Rattle.boxes.specs.Limits.{two_to, are_within, is_box, is_delta, is_step, are_boxes}
use Rattle.sweeps.specs.declared.BoxList.{BoxList}
use Rattle.sweeps.specs.declared.Swept.{Swept}
use Rattle.sweeps.specs.declared.MoveResult.{MoveResult}
use Rattle.sweeps.specs.Lists.{is_cap, cap_of, list_of}
use Rattle.sweeps.specs.Move.{clip_all, clip_sequence, stepped_up, longer, flat_square, tries_step, move_over}
use Rattle.sweeps.specs.Entry.{move_over_list}
use Rattle.window.specs.declared.Pos.{Pos}
use Rattle.window.specs.declared.Window.{Window}
use Rattle.window.specs.Look.{Block, look_at}
use Rattle.lent.specs.Lent.{direct_refusal}
use Rattle.ranges.specs.declared.Range.{Range}
use Rattle.collection.specs.Collect.{swept_area, collect_block_boxes}
use Rattle.collection.specs.Past.{collect_past}
use Rattle.collection.proofs.Refuses as may
use Rattle.through.specs.Through.{move_aabb, move_aabb_past}
use Rattle.through.proofs.Moved.{move-refuses}
use Rattle.moves.specs.Answers.{move_answer, move_entry}
use Rattle.ticks.proofs.Tells.{Finds, one, after}
use Rattle.finite.specs.Finite.{limit, farthest_move, longest_way, is_near_move, MoveIsNear}
use Rattle.finite.proofs.Limits.{from-test, to-test}
use Rattle.finite.proofs.Asked.{passed, checked}
use Rattle.finite.proofs.Clips.{x-clips, y-clips, z-clips, all-within}

-- ---- vectors and boxes of bounded numbers, axis by axis
pub record Axes (v : Vec3) (a b c : ℕ) : Type 0 where
  pub x : Within v.x a
  pub y : Within v.y b
  pub z : Within v.z c

abbrev pub Vec : Vec3 → ℕ → Type 0
Vec v n = Axes v n n n

pub record Sides (s : Aabb) (a b c : ℕ) : Type 0 where
  pub min : Axes s.min a b c
  pub max : Axes s.max a b c

abbrev pub Box : Aabb → ℕ → Type 0
Box s n = Sides s n n n

axes-wider : {a b c p q r : ℕ} (v : Vec3) → Axes v a b c → a ≤ p → b ≤ q → c ≤ r → Axes v p q r
axes-wider v h l m n = record { x = more v.x _ _ h.x l; y = more v.y _ _ h.y m; z = more v.z _ _ h.z n }

sides-wider : {a b c p q r : ℕ} (s : Aabb) → Sides s a b c → a ≤ p → b ≤ q → c ≤ r → Sides s p q r
sides-wider s h l m n = record { min = axes-wider s.min h.min l m n; max = axes-wider s.max h.max l m n }

pub wider : (v : Vec3) (n m : ℕ) → Vec v n → n ≤ m → Vec v m
wider v n m h l = axes-wider v h l l l

pub zero-within : (n : ℕ) → Within zero64 n
unfolding of_bits
zero-within n = record { is = none n }
  where
    none : (n : ℕ) → 0 * 1 * 1 ≤ n * 1
    none n = omega arith

pub zero-vec : (n : ℕ) → Vec zero_vec n
zero-vec n = record { x = zero-within n; y = zero-within n; z = zero-within n }

plus-axes : {a b c n m k : ℕ} (u v : Vec3) → Axes u a b c → Axes v n m k → a + n ≤ 2 ^ 53 → b + m ≤ 2 ^ 53 → c + k ≤ 2 ^ 53 → Axes (plus u v) (a + n) (b + m) (c + k)
plus-axes u v h g p q r =
    record {
      x = add-within u.x v.x _ _ h.x g.x p;
      y = add-within u.y v.y _ _ h.y g.y q;
      z = add-within u.z v.z _ _ h.z g.z r;
    }

pub plus-within : (u v : Vec3) (n m : ℕ) → Vec u n → Vec v m → n + m ≤ 2 ^ 53 → Vec (plus u v) (n + m)
plus-within u v n m h g l = plus-axes u v h g l l l

offset-sides : {a b c n m k : ℕ} (s : Aabb) (v : Vec3) → Sides s a b c → Axes v n m k → a + n ≤ 2 ^ 53 → b + m ≤ 2 ^ 53 → c + k ≤ 2 ^ 53 → Sides (offset_by s v) (a + n) (b + m) (c + k)
offset-sides s v h g p q r = record { min = plus-axes s.min v h.min g p q r; max = plus-axes s.max v h.max g p q r }

pub either-vec : (t : Bool) (u v : Vec3) (n : ℕ) → Vec u n → Vec v n → Vec (choose t u v) n
unfolding choose
either-vec true u v n h g = h
either-vec false u v n h g = g

-- ---- a move of a box within N, by ways within n, and with a step height within h

-- an attempt whose way up or down is within m, before it is settled down again
record Tried (N n m : ℕ) (s : Swept) : Type 0 where
  pub box : Sides s.aabb (N + n) (N + m) (N + n)
  pub moved : Axes s.moved n m n

record Gone (N n : ℕ) (s : Swept) : Type 0 where
  pub box : Box s.aabb (N + n)
  pub moved : Vec s.moved n

pub record Moved (N n : ℕ) (r : MoveResult) : Type 0 where
  pub box : Box r.aabb (N + n)
  pub moved : Vec r.moved n

module _ (N n : ℕ) (S : N + n ≤ 2 ^ 53) where
  sequence-within : (m : ℕ) → m ≤ n → (boxes : List Aabb) (aabb : Aabb) (delta : Vec3) → Box aabb N → Axes delta n m n → Tried N n m (clip_sequence boxes aabb delta)
  unfolding clip_sequence
  sequence-within m M boxes aabb delta B D =
      let o : Within zero64 0 = zero-within 0 in
      let dy : Float = clip_all clip_y boxes aabb delta.y in
      let y : Within dy m = all-within clip_y y-clips boxes aabb delta.y m D.y in
      let after_y : Aabb = offset_by aabb (vec zero64 dy zero64) in
      let dx : Float = clip_all clip_x boxes after_y delta.x in
      let x : Within dx n = all-within clip_x x-clips boxes after_y delta.x n D.x in
      let after_x : Aabb = offset_by after_y (vec dx zero64 zero64) in
      let dz : Float = clip_all clip_z boxes after_x delta.z in
      let z : Within dz n = all-within clip_z z-clips boxes after_x delta.z n D.z in
      let first : Sides after_y (N + 0) (N + m) (N + 0) = offset-sides aabb (vec zero64 dy zero64) B record { x = o; y = y; z = o } (omega arith) (omega arith) (omega arith) in
      let second : Sides after_x (N + 0 + n) (N + m + 0) (N + 0 + 0) = offset-sides after_y (vec dx zero64 zero64) first record { x = x; y = o; z = o } (omega arith) (omega arith) (omega arith) in
      record {
        box = sides-wider (offset_by after_x (vec zero64 zero64 dz))
            (offset-sides after_x (vec zero64 zero64 dz) second record { x = o; y = o; z = z } (omega arith) (omega arith) (omega arith))
            (omega arith) (omega arith) (omega arith);
        moved = record { x = x; y = y; z = z };
      }

  first-within : (boxes : List Aabb) (aabb : Aabb) (delta : Vec3) → Box aabb N → Vec delta n → Gone N n (clip_sequence boxes aabb delta)
  first-within boxes aabb delta B D = let t = sequence-within n (omega arith) boxes aabb delta B D in record { box = t.box; moved = t.moved }

  module _ (h : ℕ) (H : 2 * h ≤ n) where
    stepped_within : (boxes : List Aabb) (aabb : Aabb) (delta : Vec3) (step : Float) → Box aabb N → Vec delta n → Within step h → Gone N n (stepped_up boxes aabb delta step)
    unfolding stepped_up
    stepped_within boxes aabb delta step B D U =
        let o : Within zero64 0 = zero-within 0 in
        let up : Swept = clip_sequence boxes aabb (vec delta.x step delta.z) in
        let u : Tried N n h up = sequence-within h (omega arith) boxes aabb (vec delta.x step delta.z) B record { x = D.x; y = U; z = D.z } in
        let down : Float = clip_all clip_y boxes up.aabb (neg up.moved.y) in
        let d : Within down h = all-within clip_y y-clips boxes up.aabb (neg up.moved.y) h (neg-within up.moved.y h u.moved.y) in
        record {
          box = sides-wider (offset_by up.aabb (vec zero64 down zero64))
              (offset-sides up.aabb (vec zero64 down zero64) u.box record { x = o; y = d; z = o } (omega arith) (omega arith) (omega arith))
              (omega arith) (omega arith) (omega arith);
          moved = record {
            x = u.moved.x;
            y = more (add binary64 up.moved.y down) (h + h) n (add-within up.moved.y down h h u.moved.y d (omega arith)) (omega arith);
            z = u.moved.z;
          };
        }

    either-gone : (t : Bool) (a b : Swept) → Gone N n a → Gone N n b → Gone N n (choose t a b)
    unfolding choose
    either-gone true a b p q = p
    either-gone false a b p q = q

    pub move-within : (boxes : List Aabb) (aabb : Aabb) (delta : Vec3) (step : Float) (grounded : Bool) → Box aabb N → Vec delta n → Within step h → Moved N n (move_over boxes aabb delta step grounded)
    unfolding move_over
    move-within boxes aabb delta step grounded B D U =
        let first : Swept = clip_sequence boxes aabb delta in
        let up : Swept = stepped_up boxes aabb delta step in
        let f : Gone N n first = first-within boxes aabb delta B D in
        let u : Gone N n up = stepped_within boxes aabb delta step B D U in
        let g : Gone N n (choose (tries_step delta step grounded first.moved) (longer first up) first) =
        either-gone (tries_step delta step grounded first.moved) (longer first up) first (either-gone (lt (flat_square first.moved) (flat_square up.moved)) up first u f) f in
        record { box = g.box; moved = g.moved }

    -- over boxes that are asked for, in whatever way
    pub asked-within : (asked : Ask (List Aabb)) (aabb : Aabb) (delta : Vec3) (step : Float) (grounded : Bool) → Box aabb N → Vec delta n → Within step h
        → Finds (Moved N n) (asked >>= λ boxes. found (move_over boxes aabb delta step grounded))
    asked-within asked aabb delta step grounded B D U = after asked _ (λ boxes. one _ (move-within boxes aabb delta step grounded B D U))

    -- through a window
    pub window-within : (cap : ℕ) (look : Pos → Ask Block) (records : List ℕ) (shapes : List Float) (aabb : Aabb) (delta : Vec3) (step : Float) (grounded : Bool) → Box aabb N → Vec delta n → Within step h
        → Finds (Moved N n) (move_aabb cap look records shapes aabb delta step grounded)
    unfolding move_aabb
    window-within cap look records shapes aabb delta step grounded = asked-within (collect_block_boxes cap look records shapes (swept_area aabb delta step)) aabb delta step grounded

    -- and past layers
    pub past-within : (cap : ℕ) (over : Range → ℕ → Bool) (look : Pos → Ask Block) (records : List ℕ) (shapes : List Float) (aabb : Aabb) (delta : Vec3) (step : Float) (grounded : Bool) → Box aabb N → Vec delta n → Within step h
        → Finds (Moved N n) (move_aabb_past cap over look records shapes aabb delta step grounded)
    unfolding move_aabb_past
    past-within cap over look records shapes aabb delta step grounded = asked-within (collect_past over cap look records shapes (swept_area aabb delta step)) aabb delta step grounded

-- ---- what the tests of a direct move say
pub vec-test : (v : Vec3) (k : ℕ) → are_within v (two_to k) ≡ true → Vec v (2 ^ k)
vec-test v k h =
    let a = both _ _ h in
    let b = both _ _ a.two in
    record { x = from-test v.x k a.one; y = from-test v.y k b.one; z = from-test v.z k b.two }

box-test : (b : Aabb) → is_box b ≡ true → Box b (2 ^ 25)
box-test b h =
    let a = both _ _ h in
    let c = both _ _ a.two in
    record { min = vec-test b.min 25 a.one; max = vec-test b.max 25 c.one }

pub step-test : (h : Float) → is_step h ≡ true → Within h 4
step-test h t = from-test h 2 (both _ _ t).one

pub vec-near : (v : Vec3) (n m : ℕ) → Vec v n → n ≤ m → are_within v (limit m) ≡ true
vec-near v n m h l = and-true _ _ (to-test v.x n m h.x l) (and-true _ _ (to-test v.y n m h.y l) (to-test v.z n m h.z l))

-- ---- a move within its limits
abbrev Bounded : MoveResult → Type 0
Bounded = Moved (2 ^ 25) 128

pub bounded-near : (r : MoveResult) → Bounded r → is_near_move r ≡ true
unfolding is_near_move
bounded-near r h =
    let far : 2 ^ 25 + 128 ≤ farthest_move = lit≤ tt in
    and-true _ _ (vec-near r.aabb.min (2 ^ 25 + 128) farthest_move h.box.min far)
    (and-true _ _ (vec-near r.aabb.max (2 ^ 25 + 128) farthest_move h.box.max far) (vec-near r.moved 128 longest_way h.moved (lit≤ tt)))

module _ (aabb : Aabb) (delta : Vec3) (step : Float) (grounded : Bool) (B : is_box aabb ≡ true) (D : is_delta delta ≡ true) (U : is_step step ≡ true) where
  pub over-near : (boxes : List Aabb) → is_near_move (move_over boxes aabb delta step grounded) ≡ true
  over-near boxes = bounded-near _ (move-within (2 ^ 25) 128 (lit≤ tt) 4 (lit≤ tt) boxes aabb delta step grounded (box-test aabb B) (vec-test delta 7 D) (step-test step U))

  through-bounded : (cap : ℕ) (look : Pos → Ask Block) (records : List ℕ) (shapes : List Float) → Finds Bounded (move_aabb cap look records shapes aabb delta step grounded)
  through-bounded cap look records shapes = window-within (2 ^ 25) 128 (lit≤ tt) 4 (lit≤ tt) cap look records shapes aabb delta step grounded (box-test aabb B) (vec-test delta 7 D) (step-test step U)

-- ---- the entries

-- no refusal is 0
abbrev pub Some : ℕ → Type 0
Some k = 0 < k

pub checked-some : {A : Type 0} (n : ℕ) (ask : Ask A) → may.Refuses Some ask → may.Refuses Some (unless (not (eqb n 0)) n ask)
unfolding choose
checked-some {A} n ask h = go (eqb n 0) (eqb-false n 0)
  where
    go : (t : Bool) → (t ≡ false → n ≡ 0 → ⊥) → may.Refuses Some (choose (not t) (refused n) ask)
    go true f = h
    go false f = may.names n (above n (f refl))
      where
        above : (n : ℕ) → (n ≡ 0 → ⊥) → 0 < n
        above n f = omega arith

answer-near : (aabb : Aabb) (asked : Ask MoveResult) → Finds Bounded asked → may.Refuses Some asked → MoveIsNear (move_answer aabb asked)
answer-near aabb (found m) h g e = bounded-near m (h.each m refl)
answer-near aabb (refused k) h g e = let p : 0 < k = g.only k refl in absurd (omega arith)

module _ (cap : ℕ) (records : List ℕ) (shapes : List Float) (cells : List ℕ) (w : Window) (aabb : Aabb) (delta : Vec3) (step : Float) (grounded : Bool) where
  abbrev core : Ask MoveResult
  core = move_aabb (cap_of cap) (look_at cells w) records shapes aabb delta step grounded

  abbrev fourth : Ask MoveResult
  fourth = unless (not (is_box aabb && is_delta delta)) 4 core

  abbrev third : Ask MoveResult
  third = unless (not (is_cap cap && is_step step)) 3 fourth

  core-some : may.Refuses Some core
  core-some = may.wider core some (move-refuses (cap_of cap) cells w records shapes aabb delta step grounded)
    where
      some : (n : ℕ) → may.FiveOrSix n → 0 < n
      some n (inl p) = omega arith
      some n (inr p) = omega arith

  pub entry-near : MoveIsNear (move_entry cap records shapes cells w aabb delta step grounded)
  unfolding move_entry
  entry-near =
      answer-near aabb (unless (not (eqb (direct_refusal records shapes cells w) 0)) (direct_refusal records shapes cells w) third)
      (checked (direct_refusal records shapes cells w) third (λ e.
      passed (is_cap cap && is_step step) 3 fourth (λ t. passed (is_box aabb && is_delta delta) 4 core (λ h.
      let b = both (is_box aabb) (is_delta delta) h in
      through-bounded aabb delta step grounded b.one b.two (both (is_cap cap) (is_step step) t).two (cap_of cap) (look_at cells w) records shapes))))
      (checked-some (direct_refusal records shapes cells w) third
      (may.either _ _ fourth (may.names 3 (omega arith)) (may.either _ _ core (may.names 4 (omega arith)) core-some)))

-- ---- the move over a list
record Accepted (a b : Bool) : Type 0 where
  one : a ≡ true
  two : b ≡ true

accepted : (a b c : Bool) → ◌≡◌ {A = ℕ} (choose (not a) 3 (choose (not b) 4 (choose c 6 0))) 0 → Accepted a b
unfolding choose
accepted true true c e = record { one = refl; two = refl }
accepted true false c e = absurd (omega arith)
accepted false b c e = absurd (omega arith)

kept : (n : ℕ) (a b : MoveResult) → n ≡ 0 → is_near_move a ≡ true → is_near_move (choose (eqb n 0) a b) ≡ true
unfolding choose
kept n a b e h = rw e h

pub list-near : (cap : ℕ) (list : BoxList) (aabb : Aabb) (delta : Vec3) (step : Float) (grounded : Bool) → MoveIsNear (move_over_list cap list aabb delta step grounded)
unfolding move_over_list
list-near cap list aabb delta step grounded e =
    let a = accepted (is_cap cap && is_step step) (is_box aabb && (is_delta delta && are_boxes (list_of list))) (ltb (cap_of cap) list.count) e in
    let b = both _ _ a.two in
    kept _ _ _ e (over-near aabb delta step grounded b.one (both _ _ b.two).one (both (is_cap cap) (is_step step) a.one).two (list_of list))
