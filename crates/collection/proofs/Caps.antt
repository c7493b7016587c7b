-- The cap of a collection. Raising it alters no outcome other than a refusal 6 (`raised`); and with room for no box, the first box that overlaps
-- the area is the refusal 6, which tells of a hit (`told-by-none`). Assumes nothing.
use mathlib.Core.Path.{◌≡◌, refl, sym, ap, subst, ◌∙◌}
use mathlib.Core.Bool.{Bool, true, false}
use mathlib.Core.Logic.{◌⊎◌, inl, inr}
use mathlib.Core.List.{List, [], ◌∷◌, ◌++◌}
use Prim.Native.Nat.{ℕ, zero, suc, ◌+◌, ◌≤◌}
use native.Mathlib.Omega.{arith}
use lib.Dec.{eqb, ltb}
use lib.ListN.{length}
use lib.Ieee.{Float}
use borrow.Author.Tests.{le-ltb, ltb-true, ltb-false, eq-eqb, ne_eqb}
use Rattle.base.specs.Choose.{choose}
use Rattle.base.specs.Ask.{Ask, refused, found, ◌>>=◌, Turn, next, done, onward, turning}
use Rattle.boxes.specs.declared.Aabb.{Aabb}
use Rattle.boxes.specs.Boxes.{overlap}
use Rattle.sweeps.specs.Lists.{Held}
use Rattle.window.specs.declared.Pos.{Pos}
use Rattle.window.specs.declared.Window.{Window}
use Rattle.window.specs.Look.{look_at}
use Rattle.ranges.specs.declared.Range.{Range}
use Rattle.ranges.specs.Walk.{line, layer, walk}
use Rattle.collection.specs.Collect.{CellShape, aabbs_of, cell_shape, offer, offer_all, visit, push, pushed, hit, is_hit, range_of, collect_block_boxes, collides_with_blocks}
use Rattle.collection.specs.Past.{layer_past, walk_past, collect_in_past}
use Rattle.collection.specs.Answers.{held_asked}
use Rattle.collection.proofs.Refuses.{Refuses, Five, FiveOrSix, look-refuses, cell-refuses, collect-refuses}

-- ---- what was asked, from the answer of a collection
pub list-told : (h : Held) (m : Ask (List Aabb)) → Refuses FiveOrSix m → h ≡ held_asked m → h.refusal ≡ 0 → m ≡ found h.boxes
list-told h (found bs) f e z = rw e
list-told h (refused n) f e z = never (f.only n refl) (sym (ap (λ (x : Held). x.refusal) e) ∙ z)
  where
    never : (n ≡ 5) ⊎ (n ≡ 6) → n ≡ 0 → refused n ≡ found h.boxes
    never (inl a) b = absurd (omega arith)
    never (inr a) b = absurd (omega arith)

pub refusal-told : (h : Held) (m : Ask (List Aabb)) → h ≡ held_asked m → (h.refusal ≡ 0 → ⊥) → m ≡ refused h.refusal
refusal-told h (found bs) e z = absurd (z (ap (λ (x : Held). x.refusal) e))
refusal-told h (refused n) e z = rw e

no-list : {n : ℕ} {bs : List Aabb} → ◌≡◌ {A = Ask (List Aabb)} (refused n) (found bs) → ⊥
no-list e = subst Refusal e tt
  where
    Refusal : Ask (List Aabb) → Type 0
    Refusal (refused n) = Unit
    Refusal (found bs) = ⊥

number : {n k : ℕ} → ◌≡◌ {A = Ask (List Aabb)} (refused n) (refused k) → n ≡ k
number e = ap told e
  where
    told : Ask (List Aabb) → ℕ
    told (refused n) = n
    told (found bs) = 0

-- ---- two walks side by side: both refuse 5, or both go on, or the first refuses 6
data Beside {S U : Type 0} (P : S → U → Type 0) (Q : Ask (Turn U Bool) → Type 0) (m : Ask (Turn S Bool)) (n : Ask (Turn U Bool)) : Type 0 where
  outside : m ≡ refused 5 → n ≡ refused 5 → Beside P Q m n
  going : (s : S) (u : U) → P s u → m ≡ found (next s) → n ≡ found (next u) → Beside P Q m n
  full : m ≡ refused 6 → Q n → Beside P Q m n

module _ {S U : Type 0} (P : S → U → Type 0) (Q : Ask (Turn U Bool) → Type 0) (keeps : (n : Ask (Turn U Bool)) (l : U → Ask (Turn U Bool)) → Q n → Q (n >>= onward l)) where
  after : (m : Ask (Turn S Bool)) (n : Ask (Turn U Bool)) (k : S → Ask (Turn S Bool)) (l : U → Ask (Turn U Bool))
      → Beside P Q m n → ((s : S) (u : U) → P s u → Beside P Q (k s) (l u)) → Beside P Q (m >>= onward k) (n >>= onward l)
  after m n k l (outside a b) h = outside (rw a) (rw b)
  after m n k l (going s u p a b) h = rw (a, b) (h s u p)
  after m n k l (full a b) h = full (rw a) (keeps n l b)

  turns : (f : ℕ → S → Ask (Turn S Bool)) (g : ℕ → U → Ask (Turn U Bool)) → ((i : ℕ) (s : S) (u : U) → P s u → Beside P Q (f i s) (g i u))
      → (k i : ℕ) (s : S) (u : U) → P s u → Beside P Q (turning f k i s) (turning g k i u)
  unfolding turning
  turns f g h zero i s u p = going s u p refl refl
  turns f g h (suc k) i s u p = after (f i s) (g i u) (turning f k (i + 1)) (turning g k (i + 1)) (h i s u p) (turns f g h k (i + 1))

  module _ (f : Pos → S → Ask (Turn S Bool)) (g : Pos → U → Ask (Turn U Bool)) (r : Range) (h : (p : Pos) (s : S) (u : U) → P s u → Beside P Q (f p s) (g p u)) where
    layers : (y : ℕ) (s : S) (u : U) → P s u → Beside P Q (layer f r y s) (layer g r y u)
    unfolding layer line
    layers y = turns (line f r y) (line g r y) (λ x. turns _ _ (λ z. h _) r.z.count 0) r.x.count 0

    walks : (s : S) (u : U) → P s u → Beside P Q (walk f r s) (walk g r u)
    unfolding walk
    walks = turns (layer f r) (layer g r) layers r.y.count 0

    walks-past : (over : ℕ → Bool) (s : S) (u : U) → P s u → Beside P Q (walk_past over f r s) (walk_past over g r u)
    unfolding walk_past layer_past choose
    walks-past over = turns (layer_past over f r) (layer_past over g r) (λ y s u p. either (over y) y s u p) r.y.count 0
      where
        either : (t : Bool) (y : ℕ) (s : S) (u : U) → P s u → Beside P Q (choose t (found (next s)) (layer f r y s)) (choose t (found (next u)) (layer g r y u))
        either true y s u p = going s u p refl refl
        either false y s u p = layers y s u p

  module _ (accept : Aabb → S → Ask (Turn S Bool)) (other : Aabb → U → Ask (Turn U Bool)) (both : (b : Aabb) (s : S) (u : U) → P s u → Beside P Q (accept b s) (other b u)) (area : Aabb) where
    one : (t : Bool) (b : Aabb) (s : S) (u : U) → P s u → Beside P Q (choose t (accept b s) (found (next s))) (choose t (other b u) (found (next u)))
    unfolding choose
    one true b s u p = both b s u p
    one false b s u p = going s u p refl refl

    offers : (bs : List Aabb) (s : S) (u : U) → P s u → Beside P Q (offer_all accept area bs s) (offer_all other area bs u)
    unfolding offer_all
    offers [] s u p = going s u p refl refl
    offers (b ∷ bs) s u p =
        after (offer accept area b s) (offer other area b u) (offer_all accept area bs) (offer_all other area bs) (one (overlap b area) b s u p) (offers bs)

    visits : (cells : List ℕ) (w : Window) (records : List ℕ) (shapes : List Float) (p : Pos) (s : S) (u : U) → P s u
        → Beside P Q (visit accept area (look_at cells w) records shapes p s) (visit other area (look_at cells w) records shapes p u)
    unfolding visit
    visits cells w records shapes p s u q = cell (cell_shape (look_at cells w) records p) (cell-refuses (look_at cells w) (look-refuses cells w) records p)
      where
        cell : (m : Ask CellShape) → Refuses Five m
            → Beside P Q (m >>= λ shape. offer_all accept area (aabbs_of shapes p shape) s) (m >>= λ shape. offer_all other area (aabbs_of shapes p shape) u)
        cell (refused k) f = outside (ap refused (f.only k refl)) (ap refused (f.only k refl))
        cell (found shape) f = offers (aabbs_of shapes p shape) s u q

    collections : (cells : List ℕ) (w : Window) (records : List ℕ) (shapes : List Float) (s : S) (u : U) → P s u
        → Beside P Q (walk (visit accept area (look_at cells w) records shapes) (range_of area) s) (walk (visit other area (look_at cells w) records shapes) (range_of area) u)
    collections cells w records shapes = walks _ _ (range_of area) (visits cells w records shapes)

module _ (cells : List ℕ) (w : Window) (records : List ℕ) (shapes : List Float) (area : Aabb) where
  abbrev up_to : ℕ → Ask (List Aabb)
  up_to cap = collect_block_boxes cap (look_at cells w) records shapes area

  -- ---- a higher cap
  abbrev Same : List Aabb → List Aabb → Type 0
  Same s u = s ≡ u

  abbrev Any : Ask (Turn (List Aabb) Bool) → Type 0
  Any n = n ≡ n

  pushes : (a b : ℕ) → a ≤ b → (x : Aabb) (s u : List Aabb) → s ≡ u → Beside Same Any (push a x s) (push b x u)
  unfolding choose
  pushes a b h x s u e = rw (← e) (go (ltb (length s) a) (ltb (length s) b) refl refl)
    where
      go : (t v : Bool) → ltb (length s) a ≡ t → ltb (length s) b ≡ v
          → Beside Same Any (choose t (found (next (s ++ (x ∷ [])))) (refused 6)) (choose v (found (next (s ++ (x ∷ [])))) (refused 6))
      go true true p q = going _ _ refl refl refl
      go true false p q = absurd (omega (arith, ltb-true, ltb-false))
      go false v p q = full refl refl

  alike : (m n : Ask (Turn (List Aabb) Bool)) → Beside Same Any m n → ((m >>= λ t. found (pushed t)) ≡ refused 6) ⊎ ((m >>= λ t. found (pushed t)) ≡ (n >>= λ t. found (pushed t)))
  alike m n (outside p q) = inr (rw (p, q))
  alike m n (going s u e p q) = inr (rw (p, q, e))
  alike m n (full p q) = inl (rw p)

  pub raised : (a b : ℕ) → a ≤ b → (up_to a ≡ refused 6) ⊎ (up_to a ≡ up_to b)
  unfolding collect_block_boxes
  raised a b h = alike _ _ (collections Same Any (λ n l q. refl) (push a) (push b) (pushes a b h) area cells w records shapes [] [] refl)

  -- the same past layers, by what the lower cap comes to
  module _ (over : ℕ → Bool) (r : Range) (a b : ℕ) (h : a ≤ b) where
    abbrev under : ℕ → Ask (List Aabb)
    under cap = collect_in_past over cap (look_at cells w) records shapes area r

    raised-past : (under a ≡ refused 6) ⊎ (under a ≡ under b)
    raised-past = alike _ _ (walks-past Same Any (λ n l q. refl) _ _ r (visits Same Any (λ n l q. refl) (push a) (push b) (pushes a b h) area cells w records shapes) over [] [] refl)

    pub found-under : (bs : List Aabb) → under a ≡ found bs → under b ≡ found bs
    found-under bs e = go raised-past
      where
        go : (under a ≡ refused 6) ⊎ (under a ≡ under b) → under b ≡ found bs
        go (inl six) = absurd (no-list (sym six ∙ e))
        go (inr same) = sym same ∙ e

    pub refused-under : (n : ℕ) → under a ≡ refused n → (n ≡ 6 → ⊥) → under b ≡ refused n
    refused-under n e other = go raised-past
      where
        go : (under a ≡ refused 6) ⊎ (under a ≡ under b) → under b ≡ refused n
        go (inl six) = absurd (other (number (sym e ∙ six)))
        go (inr same) = sym same ∙ e

  -- ---- no room at all
  abbrev None : List Aabb → Bool → Type 0
  None s u = u ≡ false

  abbrev Hit : Ask (Turn Bool Bool) → Type 0
  Hit n = n ≡ found (done true)

  no-push : (x : Aabb) (s : List Aabb) (u : Bool) → u ≡ false → Beside None Hit (push 0 x s) (hit x u)
  unfolding choose
  no-push x s u e = full (rw (le-ltb (length s) 0 (omega arith))) refl

  abbrev pub hit_of : Ask (List Aabb) → Ask Bool
  hit_of (refused n) = choose (eqb n 6) (found true) (refused n)
  hit_of (found bs) = found false

  pub told-by-none : hit_of (up_to 0) ≡ collides_with_blocks (look_at cells w) records shapes area
  unfolding collect_block_boxes collides_with_blocks choose
  told-by-none = go _ _ (collections None Hit (λ n l q. rw q) (push 0) hit no-push area cells w records shapes [] false refl)
    where
      go : (m : Ask (Turn (List Aabb) Bool)) (n : Ask (Turn Bool Bool)) → Beside None Hit m n → hit_of (m >>= λ t. found (pushed t)) ≡ (n >>= λ t. found (is_hit t))
      go m n (outside p q) = rw (p, q)
      go m n (going s u e p q) = rw (p, q, e)
      go m n (full p q) = rw (p, q)

  -- what such a collection answered
  module _ (h : Held) (e : h ≡ held_asked (up_to 0)) where
    pub no_hit : h.refusal ≡ 0 → found false ≡ collides_with_blocks (look_at cells w) records shapes area
    no_hit z = sym (ap hit_of (list-told h (up_to 0) (collect-refuses 0 cells w records shapes area) e z)) ∙ told-by-none

    refused-by : (h.refusal ≡ 0 → ⊥) → choose (eqb h.refusal 6) (found true) (refused h.refusal) ≡ collides_with_blocks (look_at cells w) records shapes area
    refused-by z = sym (ap hit_of (refusal-told h (up_to 0) e z)) ∙ told-by-none

    pub is-hit : (h.refusal ≡ 0 → ⊥) → h.refusal ≡ 6 → found true ≡ collides_with_blocks (look_at cells w) records shapes area
    unfolding choose
    is-hit z s = rw (eq-eqb h.refusal 6 s) at (refused-by z)

    pub hit-refused : (h.refusal ≡ 0 → ⊥) → (h.refusal ≡ 6 → ⊥) → refused h.refusal ≡ collides_with_blocks (look_at cells w) records shapes area
    unfolding choose
    hit-refused z s = rw (ne_eqb h.refusal 6 s) at (refused-by z)
