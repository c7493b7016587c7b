-- Going through a range cell by cell, as the code does with `next`, comes to the three loops of `walk`. Assumes nothing.
use mathlib.Core.Path.{◌≡◌, refl, sym, ap, ◌∙◌}
use mathlib.Core.Bool.{Bool, true, false}
use mathlib.Core.Logic.{◌⊎◌, inl, inr}
use Prim.Native.Nat.{ℕ, zero, suc, ◌+◌, ◌-◌, ◌*◌, ◌≤◌, ◌<◌}
use native.Mathlib.Nat.{sub-zero, mul-le-mul_right}
use native.Mathlib.Omega.{arith}
use lib.Dec.{ltb, eqb}
use borrow.Author.Tests.{lt-ltb, le-ltb, ltb-true, ltb-false, eqb-true, eqb-false}
use Rattle.base.specs.Choose.{choose}
use Rattle.base.specs.Ask.{Ask, refused, found, ◌>>=◌, Turn, next, done, onward, turning}
use Rattle.window.specs.declared.Pos.{Pos}
use Rattle.ranges.specs.declared.Range.{Range}
use Rattle.ranges.specs.declared.At.{At}
use Rattle.ranges.specs.Ranges.{place_at, place_of, next_of, start_of, no_cells, trimmed}
use Rattle.ranges.specs.Walk.{line, layer, walk}

some : (n : ℕ) → (n ≡ 0 → ⊥) → 0 < n
some n h = omega arith

-- ---- one loop
module _ {S R : Type 0} (f : ℕ → S → Ask (Turn S R)) (n i : ℕ) (s : S) where
  loop-end : n ≤ i → turning f (n - i) i s ≡ found (next s)
  unfolding turning
  loop-end h = let q : n - i ≡ 0 = omega arith in rw q

  loop-turn : i < n → turning f (n - i) i s ≡ (f i s >>= onward (turning f (n - (i + 1)) (i + 1)))
  unfolding turning
  loop-turn h = let q : n - i ≡ suc (n - (i + 1)) = omega arith in rw q

-- a loop whose turns all go on with the same state
still : {S R : Type 0} (f : ℕ → S → Ask (Turn S R)) → ((i : ℕ) (s : S) → f i s ≡ found (next s)) → (k i : ℕ) (s : S) → turning f k i s ≡ found (next s)
unfolding turning
still f h zero i s = refl
still f h (suc k) i s = rw (h i s) (still f h k (i + 1) s)

-- ---- what is left of a range
module _ {S R : Type 0} (f : Pos → S → Ask (Turn S R)) (r : Range) where
  abbrev pub line_from : ℕ → ℕ → ℕ → S → Ask (Turn S R)
  line_from y x z = turning (λ z. f (place_at r x y z)) (r.z.count - z) z

  abbrev pub lines_from : ℕ → ℕ → S → Ask (Turn S R)
  lines_from y x = turning (line f r y) (r.x.count - x) x

  abbrev pub layers_from : ℕ → S → Ask (Turn S R)
  layers_from y = turning (layer f r) (r.y.count - y) y

  -- from a cell on: the rest of its line, of its layer's lines, and of the layers
  abbrev pub inside : At → S → Ask (Turn S R)
  inside t s = (line_from t.y t.x t.z s >>= onward (lines_from t.y (t.x + 1))) >>= onward (layers_from (t.y + 1))

  unfoldable pub rest : At → S → Ask (Turn S R)
  rest t s = choose (ltb t.y r.y.count) (inside t s) (found (next s))

  -- after the last layer
  pub rest_end : (t : At) (s : S) → r.y.count ≤ t.y → rest t s ≡ found (next s)
  unfolding rest choose
  rest_end t s h = rw (le-ltb t.y r.y.count h)

  rest_in : (t : At) (s : S) → t.y < r.y.count → rest t s ≡ inside t s
  unfolding rest choose
  rest_in t s h = rw (lt-ltb t.y r.y.count h)

  -- ---- a turn: what the cell answers decides
  module _ (t : At) (s : S) (hy : t.y < r.y.count) (hx : t.x < r.x.count) (hz : t.z < r.z.count) where
    opened : inside t s ≡ ((f (place_of r t) s >>= onward (line_from t.y t.x (t.z + 1))) >>= onward (lines_from t.y (t.x + 1))) >>= onward (layers_from (t.y + 1))
    opened = ap (λ m. (m >>= onward (lines_from t.y (t.x + 1))) >>= onward (layers_from (t.y + 1))) (loop-turn (λ z. f (place_at r t.x t.y z)) r.z.count t.z s hz)

    pub rest-refused : (k : ℕ) → f (place_of r t) s ≡ refused k → rest t s ≡ refused k
    rest-refused k e = rest_in t s hy ∙ opened ∙ (rw e)

    pub rest-done : (b : R) → f (place_of r t) s ≡ found (done b) → rest t s ≡ found (done b)
    rest-done b e = rest_in t s hy ∙ opened ∙ (rw e)

  -- ---- the cell after
  -- a layer is begun with its first line, and a line with its first cell
  line-whole : (y x : ℕ) (s : S) → line_from y x 0 s ≡ line f r y x s
  unfolding line
  line-whole y x s = ap (λ n. turning (λ z. f (place_at r x y z)) n 0 s) (sub-zero r.z.count)

  lines-begin : (y x : ℕ) (s : S) → x < r.x.count → (line_from y x 0 s >>= onward (lines_from y (x + 1))) ≡ lines_from y x s
  lines-begin y x s h = ap (λ m. m >>= onward (lines_from y (x + 1))) (line-whole y x s) ∙ sym (loop-turn (line f r y) r.x.count x s h)

  layer-whole : (y : ℕ) (s : S) → lines_from y 0 s ≡ layer f r y s
  unfolding layer
  layer-whole y s = ap (λ n. turning (line f r y) n 0 s) (sub-zero r.x.count)

  begun-by : (y : ℕ) (s : S) → 0 < r.x.count → (b : Bool) → ltb y r.y.count ≡ b → rest record { x = 0; y = y; z = 0 } s ≡ layers_from y s
  begun-by y s hx true e =
      let h = ltb-true y r.y.count e in
      rest_in record { x = 0; y = y; z = 0 } s h
      ∙ ap (λ m. m >>= onward (layers_from (y + 1))) (lines-begin y 0 s hx ∙ layer-whole y s)
      ∙ sym (loop-turn (layer f r) r.y.count y s h)
  begun-by y s hx false e =
      let h = ltb-false y r.y.count e in
      rest_end record { x = 0; y = y; z = 0 } s h ∙ sym (loop-end (layer f r) r.y.count y s h)

  begun : (y : ℕ) (s : S) → 0 < r.x.count → rest record { x = 0; y = y; z = 0 } s ≡ layers_from y s
  begun y s hx = begun-by y s hx (ltb y r.y.count) refl

  module _ (t : At) (s a : S) (hy : t.y < r.y.count) (hx : t.x < r.x.count) (hz : t.z < r.z.count) (e : f (place_of r t) s ≡ found (next a)) where
    passed : rest t s ≡ ((line_from t.y t.x (t.z + 1) a >>= onward (lines_from t.y (t.x + 1))) >>= onward (layers_from (t.y + 1)))
    passed = rest_in t s hy ∙ opened t s hy hx hz ∙ (rw e)

    onwards : (p q : Bool) → ltb (t.z + 1) r.z.count ≡ p → ltb (t.x + 1) r.x.count ≡ q → rest t s ≡ rest (next_of r t) a
    unfolding next_of choose
    onwards true q ep eq = passed ∙ sym (rest_in record { x = t.x; y = t.y; z = t.z + 1 } a hy) ∙ (rw ep)
    onwards false true ep eq =
        passed
        ∙ ap (λ m. (m >>= onward (lines_from t.y (t.x + 1))) >>= onward (layers_from (t.y + 1))) (loop-end (λ z. f (place_at r t.x t.y z)) r.z.count (t.z + 1) a (ltb-false (t.z + 1) r.z.count ep))
        ∙ ap (λ m. m >>= onward (layers_from (t.y + 1))) (sym (lines-begin t.y (t.x + 1) a (ltb-true (t.x + 1) r.x.count eq)))
        ∙ sym (rest_in record { x = t.x + 1; y = t.y; z = 0 } a hy)
        ∙ (rw (ep, eq))
    onwards false false ep eq =
        passed
        ∙ ap (λ m. (m >>= onward (lines_from t.y (t.x + 1))) >>= onward (layers_from (t.y + 1))) (loop-end (λ z. f (place_at r t.x t.y z)) r.z.count (t.z + 1) a (ltb-false (t.z + 1) r.z.count ep))
        ∙ ap (λ m. m >>= onward (layers_from (t.y + 1))) (loop-end (line f r t.y) r.x.count (t.x + 1) a (ltb-false (t.x + 1) r.x.count eq))
        ∙ sym (begun (t.y + 1) a (above t.x r.x.count hx))
        ∙ (rw (ep, eq, lt-ltb t.y r.y.count hy))
      where
        above : (a b : ℕ) → a < b → 0 < b
        above a b h = omega arith

    pub rest-next : rest t s ≡ rest (next_of r t) a
    rest-next = onwards (ltb (t.z + 1) r.z.count) (ltb (t.x + 1) r.x.count) refl refl

  -- all three: what the cell answers, and then the rest from the next cell on
  pub rest-turn : (t : At) (s : S) → t.y < r.y.count → t.x < r.x.count → t.z < r.z.count → rest t s ≡ (f (place_of r t) s >>= onward (rest (next_of r t)))
  rest-turn t s hy hx hz = go (f (place_of r t) s) refl
    where
      go : (m : Ask (Turn S R)) → f (place_of r t) s ≡ m → rest t s ≡ (m >>= onward (rest (next_of r t)))
      go (refused k) e = rest-refused t s hy hx hz k e
      go (found (next a)) e = rest-next t s a hy hx hz e
      go (found (done b)) e = rest-done t s hy hx hz b e

  -- ---- from the start
  empty-line : r.z.count ≡ 0 → (y x : ℕ) (s : S) → line f r y x s ≡ found (next s)
  unfolding line turning
  empty-line h y x s = rw h

  empty-layer : (r.x.count ≡ 0) ⊎ (r.z.count ≡ 0) → (y : ℕ) (s : S) → layer f r y s ≡ found (next s)
  unfolding layer turning
  empty-layer (inl h) y s = rw h
  empty-layer (inr h) y s = still (line f r y) (empty-line h y) r.x.count 0 s

  pub rest-start : (s : S) → rest (start_of r) s ≡ walk f r s
  unfolding start_of choose walk
  rest-start s = go (eqb r.x.count 0) (eqb r.z.count 0) refl refl
    where
      same : (n : ℕ) → n ≤ n
      same n = omega arith

      none : (r.x.count ≡ 0) ⊎ (r.z.count ≡ 0) → rest record { x = 0; y = r.y.count; z = 0 } s ≡ turning (layer f r) r.y.count 0 s
      none h = rest_end record { x = 0; y = r.y.count; z = 0 } s (same r.y.count) ∙ sym (still (layer f r) (empty-layer h) r.y.count 0 s)

      go : (p q : Bool) → eqb r.x.count 0 ≡ p → eqb r.z.count 0 ≡ q
          → rest (choose p record { x = 0; y = r.y.count; z = 0 } (choose q record { x = 0; y = r.y.count; z = 0 } record { x = 0; y = 0; z = 0 })) s ≡ turning (layer f r) r.y.count 0 s
      go true q ep eq = none (inl (eqb-true r.x.count 0 ep))
      go false true ep eq = none (inr (eqb-true r.z.count 0 eq))
      go false false ep eq = begun 0 s (some r.x.count (eqb-false r.x.count 0 ep)) ∙ ap (λ n. turning (layer f r) n 0 s) (sub-zero r.y.count)

  -- ---- a range that was trimmed
  pub walk-trimmed : (s : S) → walk f (trimmed r) s ≡ walk f r s
  unfolding trimmed choose walk turning
  walk-trimmed s = go (eqb r.x.count 0) (eqb r.z.count 0) refl refl
    where
      none : (r.x.count ≡ 0) ⊎ (r.z.count ≡ 0) → found (next s) ≡ turning (layer f r) r.y.count 0 s
      none h = sym (still (layer f r) (empty-layer h) r.y.count 0 s)

      go : (p q : Bool) → eqb r.x.count 0 ≡ p → eqb r.z.count 0 ≡ q → walk f (choose p no_cells (choose q no_cells r)) s ≡ turning (layer f r) r.y.count 0 s
      go true q ep eq = none (inl (eqb-true r.x.count 0 ep))
      go false true ep eq = none (inr (eqb-true r.z.count 0 eq))
      go false false ep eq = refl

-- where it has a layer it has a cell on each axis: no loop over it turns without coming to a cell
pub trimmed-whole : (r : Range) → 0 < (trimmed r).y.count → (0 < (trimmed r).x.count) × (0 < (trimmed r).z.count)
unfolding trimmed choose
trimmed-whole r = go (eqb r.x.count 0) (eqb r.z.count 0) refl refl
  where
    go : (p q : Bool) → eqb r.x.count 0 ≡ p → eqb r.z.count 0 ≡ q → 0 < (choose p no_cells (choose q no_cells r)).y.count
        → (0 < (choose p no_cells (choose q no_cells r)).x.count) × (0 < (choose p no_cells (choose q no_cells r)).z.count)
    go true q ep eq h = absurd (omega arith)
    go false true ep eq h = absurd (omega arith)
    go false false ep eq h = (some r.x.count (eqb-false r.x.count 0 ep), some r.z.count (eqb-false r.z.count 0 eq))

-- ---- where the code stands: in a cell of the range, as long as there is a layer left
pub record Within (r : Range) (t : At) : Type 0 where
  pub x : t.y < r.y.count → t.x < r.x.count
  pub z : t.y < r.y.count → t.z < r.z.count

pub start-within : (r : Range) → Within r (start_of r)
unfolding start_of choose
start-within r = go (eqb r.x.count 0) (eqb r.z.count 0) refl refl
  where
    past : {A : Type 0} (n : ℕ) → n < n → A
    past n h = absurd (omega arith)

    go : (p q : Bool) → eqb r.x.count 0 ≡ p → eqb r.z.count 0 ≡ q → Within r (choose p record { x = 0; y = r.y.count; z = 0 } (choose q record { x = 0; y = r.y.count; z = 0 } record { x = 0; y = 0; z = 0 }))
    go true q ep eq = record { x = past r.y.count; z = past r.y.count }
    go false true ep eq = record { x = past r.y.count; z = past r.y.count }
    go false false ep eq = record { x = λ _. some r.x.count (eqb-false r.x.count 0 ep); z = λ _. some r.z.count (eqb-false r.z.count 0 eq) }

-- how far it is to the end of the range
unfoldable pub left : Range → At → ℕ
left r t = ((r.y.count - t.y) * suc r.x.count + (r.x.count - t.x)) * suc r.z.count + (r.z.count - t.z)

module _ (r : Range) (t : At) (hy : t.y < r.y.count) (hx : t.x < r.x.count) (hz : t.z < r.z.count) where
  pub next-within : Within r (next_of r t)
  unfolding next_of choose
  next-within = go (ltb (t.z + 1) r.z.count) (ltb (t.x + 1) r.x.count) refl refl
    where
      above : (a b : ℕ) → a < b → 0 < b
      above a b h = omega arith

      go : (p q : Bool) → ltb (t.z + 1) r.z.count ≡ p → ltb (t.x + 1) r.x.count ≡ q
          → Within r (choose p record { x = t.x; y = t.y; z = t.z + 1 } (choose q record { x = t.x + 1; y = t.y; z = 0 } record { x = 0; y = choose (ltb t.y r.y.count) (t.y + 1) t.y; z = 0 }))
      go true q ep eq = record { x = λ _. hx; z = λ _. ltb-true (t.z + 1) r.z.count ep }
      go false true ep eq = record { x = λ _. ltb-true (t.x + 1) r.x.count eq; z = λ _. above t.z r.z.count hz }
      go false false ep eq = record { x = λ _. above t.x r.x.count hx; z = λ _. above t.z r.z.count hz }

  pub next-less : left r (next_of r t) < left r t
  unfolding left next_of choose
  next-less = go (ltb (t.z + 1) r.z.count) (ltb (t.x + 1) r.x.count) refl refl
    where
      short : (p a b : ℕ) → b < a → p + b < p + a
      short p a b h = omega arith

      jump : (P Q n k e : ℕ) → P < Q → k ≤ n → P * suc n + k < Q * suc n + e
      jump P Q n k e h l = let m : suc P * suc n ≤ Q * suc n = mul-le-mul_right (suc n) h in omega arith

      one_less : (n i : ℕ) → i < n → n - (i + 1) < n - i
      one_less n i h = omega arith

      last : (n : ℕ) → n - 0 ≤ n
      last n = omega arith

      go : (p q : Bool) → ltb (t.z + 1) r.z.count ≡ p → ltb (t.x + 1) r.x.count ≡ q
          → left r (choose p record { x = t.x; y = t.y; z = t.z + 1 } (choose q record { x = t.x + 1; y = t.y; z = 0 } record { x = 0; y = choose (ltb t.y r.y.count) (t.y + 1) t.y; z = 0 })) < left r t
      go true q ep eq = short _ (r.z.count - t.z) (r.z.count - (t.z + 1)) (one_less r.z.count t.z hz)
      go false true ep eq =
          jump ((r.y.count - t.y) * suc r.x.count + (r.x.count - (t.x + 1))) ((r.y.count - t.y) * suc r.x.count + (r.x.count - t.x)) r.z.count (r.z.count - 0) (r.z.count - t.z)
          (short _ (r.x.count - t.x) (r.x.count - (t.x + 1)) (one_less r.x.count t.x hx)) (last r.z.count)
      go false false ep eq =
          rw (lt-ltb t.y r.y.count hy)
          (jump ((r.y.count - (t.y + 1)) * suc r.x.count + (r.x.count - 0)) ((r.y.count - t.y) * suc r.x.count + (r.x.count - t.x)) r.z.count (r.z.count - 0) (r.z.count - t.z)
          (jump (r.y.count - (t.y + 1)) (r.y.count - t.y) r.x.count (r.x.count - 0) (r.x.count - t.x) (one_less r.y.count t.y hy) (last r.x.count)) (last r.z.count))
