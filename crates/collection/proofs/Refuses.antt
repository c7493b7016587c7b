-- Which refusals can come up: a look-up and a connection refuse 5 alone, collection 5 and 6, `collides` 5. Assumes nothing.
use mathlib.Core.Path.{◌≡◌, refl}
use mathlib.Core.Bool.{Bool, true, false}
use mathlib.Core.Logic.{◌⊎◌, inl, inr}
use mathlib.Core.List.{List, [], ◌∷◌}
use Prim.Native.Nat.{ℕ, zero, suc, ◌+◌}
use native.Mathlib.Omega.{arith}
use lib.Dec.{eqb}
use lib.Ieee.{Float}
use Rattle.base.specs.Choose.{choose}
use Rattle.base.specs.Ask.{Ask, refused, found, ◌>>=◌, asking, Turn, next, done, resume, onward, turning}
use Rattle.boxes.specs.declared.Aabb.{Aabb}
use Rattle.cover.specs.declared.Side.{Side}
use Rattle.cover.specs.declared.Side.TheVariants.{North, East, South, West}
use Rattle.window.specs.declared.Pos.{Pos}
use Rattle.window.specs.declared.Window.{Window}
use Rattle.window.specs.Look.{Block, none, some, look_at}
use Rattle.ranges.specs.declared.Range.{Range}
use Rattle.ranges.specs.Walk.{line, layer, walk}
use Rattle.joining.specs.declared.Joined.{Joined}
use Rattle.connect.specs.Connect.{connect_kind, joins, post, beside_neighbours, connected_state}
use Rattle.collection.specs.Collect.{connected_shape, shape_of, cell_shape, offer, offer_all, visit, push, hit, range_of, collect_in, collect_block_boxes, collides_with_blocks}
use Rattle.collection.specs.Past.{layer_past, walk_past, collect_in_past}

-- what a refusal's number can be
pub record Refuses {A : Type 0} (P : ℕ → Type 0) (m : Ask A) : Type 0 where
  pub only : (n : ℕ) → m ≡ refused n → P n

pub wider : {A : Type 0} {P Q : ℕ → Type 0} (m : Ask A) → ((n : ℕ) → P n → Q n) → Refuses P m → Refuses Q m
wider m f h = record { only = λ n e. f n (h.only n e) }

abbrev pub Five : ℕ → Type 0
Five n = n ≡ 5

abbrev pub FiveOrSix : ℕ → Type 0
FiveOrSix n = (n ≡ 5) ⊎ (n ≡ 6)

-- ---- found, chosen, asked one after the other, asked in a loop
module _ {P : ℕ → Type 0} where
  pub finds : {A : Type 0} (a : A) → Refuses P (found a)
  finds a = record { only = λ n e. let z : ◌≡◌ {A = ℕ} 0 1 = cc in absurd (omega arith) }

  pub names : {A : Type 0} (k : ℕ) → P k → Refuses {A = A} P (refused k)
  names k p = record { only = λ n e. let q : k ≡ n = cc in rw q at p }

  pub either : {A : Type 0} (t : Bool) (a b : Ask A) → Refuses P a → Refuses P b → Refuses P (choose t a b)
  unfolding choose
  either true a b h g = h
  either false a b h g = g

  pub after : {A B : Type 0} (m : Ask A) (k : A → Ask B) → Refuses P m → ((a : A) → Refuses P (k a)) → Refuses P (m >>= k)
  after (refused j) k h g = names j (h.only j refl)
  after (found a) k h g = g a

  on : {S R : Type 0} (m : Ask (Turn S R)) (k : S → Ask (Turn S R)) → Refuses P m → ((a : S) → Refuses P (k a)) → Refuses P (m >>= onward k)
  on {S} {R} m k h g = after m (onward k) h turn
    where
      turn : (t : Turn S R) → Refuses P (onward k t)
      turn (next a) = g a
      turn (done r) = finds (done r)

  loops : {S R : Type 0} (f : ℕ → S → Ask (Turn S R)) → ((i : ℕ) (s : S) → Refuses P (f i s)) → (k i : ℕ) (s : S) → Refuses P (turning f k i s)
  unfolding turning
  loops f h zero i s = finds (next s)
  loops f h (suc k) i s = on (f i s) (turning f k (i + 1)) (h i s) (loops f h k (i + 1))

  pub walks : {S R : Type 0} (f : Pos → S → Ask (Turn S R)) (r : Range) → ((p : Pos) (s : S) → Refuses P (f p s)) → (s : S) → Refuses P (walk f r s)
  unfolding walk layer line
  walks f r h = loops (layer f r) (λ y. loops (line f r y) (λ x. loops _ (λ z. h _) r.z.count 0) r.x.count 0) r.y.count 0

  -- past layers
  pub past-walks : {S R : Type 0} (over : ℕ → Bool) (f : Pos → S → Ask (Turn S R)) (r : Range) → ((p : Pos) (s : S) → Refuses P (f p s)) → (s : S) → Refuses P (walk_past over f r s)
  unfolding walk_past layer_past layer line
  past-walks over f r h =
      loops (layer_past over f r) (λ y s. either _ _ _ (finds _) (loops (line f r y) (λ x. loops _ (λ z. h _) r.z.count 0) r.x.count 0 s)) r.y.count 0

  pub asks : {S : Type 0} (f : ℕ → S → Ask S) → ((i : ℕ) (s : S) → Refuses P (f i s)) → (k i : ℕ) (s : S) → Refuses P (asking f k i s)
  unfolding asking
  asks f h zero i s = finds s
  asks f h (suc k) i s = after (f i s) (asking f k (i + 1)) (h i s) (asks f h k (i + 1))

  pub resumes : {S R : Type 0} (k : S → Ask R) → ((a : S) → Refuses P (k a)) → (t : Turn S R) → Refuses P (resume k t)
  resumes k h (next a) = h a
  resumes k h (done r) = finds r

-- ---- look-ups and connections
pub look-refuses : (cells : List ℕ) (w : Window) (p : Pos) → Refuses Five (look_at cells w p)
unfolding look_at
look-refuses cells w p = either _ _ _ (names 5 refl) (either _ _ _ (finds _) (either _ _ _ (finds _) (either _ _ _ (names 5 refl) (finds _))))

module _ (look : Pos → Ask Block) (h : (p : Pos) → Refuses Five (look p)) (records : List ℕ) where
  joins-refuses : (p : Pos) (kind : ℕ) (side : Side) → Refuses Five (joins look records p kind side)
  unfolding joins
  joins-refuses p kind side = after (look _) _ (h _) (λ b. finds _)

  post-refuses : (p : Pos) (j : Joined) → Refuses Five (post look records p j)
  unfolding post
  post-refuses p j = after (look _) _ (h _) (λ b. finds _)

  beside-refuses : (p : Pos) (kind state : ℕ) → Refuses Five (beside_neighbours look records p kind state)
  unfolding beside_neighbours
  beside-refuses p kind state =
      after _ _ (joins-refuses p kind North) (λ n.
      after _ _ (joins-refuses p kind East) (λ e.
      after _ _ (joins-refuses p kind South) (λ s.
      after _ _ (joins-refuses p kind West) (λ w.
      either (eqb kind 4) _ _ (after _ _ (post-refuses p _) (λ b. finds _)) (finds _)))))

  pub connected-refuses : (p : Pos) (state : ℕ) → Refuses Five (connected_state look records p state)
  unfolding connected_state
  connected-refuses p state = either (eqb (connect_kind records state) 0) (found state) _ (finds state) (beside-refuses p (connect_kind records state) state)

  block-refuses : (p : Pos) (b : Block) → Refuses Five (shape_of look records p b)
  unfolding shape_of connected_shape
  block-refuses p none = finds _
  block-refuses p (some id) = either _ _ _ (after _ _ (connected-refuses p id) (λ s. finds _)) (finds _)

  pub cell-refuses : (p : Pos) → Refuses Five (cell_shape look records p)
  unfolding cell_shape
  cell-refuses p = after (look p) _ (h p) (block-refuses p)

  -- ---- visiting, for a P that 5 is one of
  module _ {S : Type 0} {P : ℕ → Type 0} (five : (n : ℕ) → n ≡ 5 → P n) (accept : Aabb → S → Ask (Turn S Bool)) (g : (b : Aabb) (s : S) → Refuses P (accept b s)) (area : Aabb) (shapes : List Float) where
    offers-refuse : (bs : List Aabb) (s : S) → Refuses P (offer_all accept area bs s)
    unfolding offer_all
    offers-refuse [] s = finds (next s)
    offers-refuse (b ∷ bs) s = on (offer accept area b s) (offer_all accept area bs) (either _ _ _ (g b s) (finds (next s))) (offers-refuse bs)

    visit-refuses : (p : Pos) (s : S) → Refuses P (visit accept area look records shapes p s)
    unfolding visit
    visit-refuses p s = after (cell_shape look records p) _ (wider _ five (cell-refuses p)) (λ shape. offers-refuse _ s)

push-refuses : (cap : ℕ) (b : Aabb) (bs : List Aabb) → Refuses FiveOrSix (push cap b bs)
push-refuses cap b bs = either _ _ _ (finds _) (names 6 (inr refl))

range-refuses : (cap : ℕ) (cells : List ℕ) (w : Window) (records : List ℕ) (shapes : List Float) (area : Aabb) (r : Range) → Refuses FiveOrSix (collect_in cap (look_at cells w) records shapes area r)
range-refuses cap cells w records shapes area r =
    after _ _ (walks _ r (visit-refuses (look_at cells w) (look-refuses cells w) records (λ n e. inl e) (push cap) (push-refuses cap) area shapes) []) (λ t. finds _)

pub past-refuses : (over : ℕ → Bool) (cap : ℕ) (cells : List ℕ) (w : Window) (records : List ℕ) (shapes : List Float) (area : Aabb) (r : Range) → Refuses FiveOrSix (collect_in_past over cap (look_at cells w) records shapes area r)
past-refuses over cap cells w records shapes area r =
    after _ _ (past-walks over _ r (visit-refuses (look_at cells w) (look-refuses cells w) records (λ n e. inl e) (push cap) (push-refuses cap) area shapes) []) (λ t. finds _)

pub collect-refuses : (cap : ℕ) (cells : List ℕ) (w : Window) (records : List ℕ) (shapes : List Float) (area : Aabb) → Refuses FiveOrSix (collect_block_boxes cap (look_at cells w) records shapes area)
unfolding collect_block_boxes
collect-refuses cap cells w records shapes area = range-refuses cap cells w records shapes area (range_of area)

pub collides-refuses : (cells : List ℕ) (w : Window) (records : List ℕ) (shapes : List Float) (area : Aabb) → Refuses Five (collides_with_blocks (look_at cells w) records shapes area)
unfolding collides_with_blocks
collides-refuses cells w records shapes area =
    after _ _ (walks _ _ (visit-refuses (look_at cells w) (look-refuses cells w) records (λ n e. e) hit (λ b s. finds _) area shapes) false) (λ t. finds _)
