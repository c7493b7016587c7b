-- A box put behind boxes that are there is one box more of them. Assumes nothing.
use mathlib.Core.Path.{◌≡◌, refl, sym, ap, ◌∙◌}
use mathlib.Core.List.{List, [], ◌∷◌, ◌++◌}
use Prim.Native.Nat.{ℕ, zero, suc, ◌+◌, ◌*◌, ◌≤◌, ◌<◌}
use native.Mathlib.Numerals.{add-one}
use native.Mathlib.Omega.{arith}
use lib.ListN.{length, get_or, set, length-set}
use lib.Seq.{get_or-set_same, get_or-set_other}
use lib.Ieee.{Float}
use borrow.Author.Tests.{lt-ltb, le-ltb}
use Rattle.base.specs.Choose.{choose}
use Rattle.base.specs.Loop.{listed, stored}
use Rattle.floats.specs.Numbers.{zero64}
use Rattle.boxes.specs.declared.Aabb.{Aabb}
use Rattle.lent_boxes.specs.Boxes.{box_of, boxes_in, lent_count, six_of, put_in}

-- ---- lists that are listed
module _ {A : Type 0} (f : ℕ → A) where
  last : (n i : ℕ) → listed f (suc n) i ≡ listed f n i ++ (f (i + n) ∷ [])
  unfolding listed
  last zero i = let e : i + 0 ≡ i = omega arith in ap (λ (j : ℕ). f j ∷ []) (sym e)
  last (suc n) i =
      let e : i + suc n ≡ i + 1 + n = omega arith in
      ap (λ (l : List A). f i ∷ l) (last n (i + 1)) ∙ ap (λ (j : ℕ). f i ∷ (listed f n (i + 1) ++ (f j ∷ []))) (sym e)

  alike : (g : ℕ → A) (n i : ℕ) → ((k : ℕ) → k < i + n → f k ≡ g k) → listed f n i ≡ listed g n i
  unfolding listed
  alike g zero i h = refl
  alike g (suc n) i h =
      ap (λ (a : A). a ∷ listed f n (i + 1)) (h i (omega arith)) ∙ ap (λ (l : List A). g i ∷ l) (alike g n (i + 1) (λ k m. h k (omega arith)))

-- ---- what stands before, and among, elements that were stored
apart : {j i : ℕ} → j < i → j ≡ i → ⊥
apart h e = omega arith

module _ {A : Type 0} (d : A) where
  before : (l : List A) (i : ℕ) (xs : List A) (j : ℕ) → j < i → get_or (stored l i xs) j d ≡ get_or l j d
  unfolding stored
  before l i [] j h = refl
  before l i (x ∷ xs) j h = before (set l i x) (i + 1) xs j (omega arith) ∙ get_or-set_other l i j x d (apart h)

  among : (l : List A) (i : ℕ) (xs : List A) (k : ℕ) → i + length xs ≤ length l → k < length xs → get_or (stored l i xs) (i + k) d ≡ get_or xs k d
  unfolding stored
  among l i [] k h g = absurd (omega arith)
  among l i (x ∷ xs) zero h g =
      let z : i + 0 ≡ i = omega arith in
      rw z (before (set l i x) (i + 1) xs i (omega arith) ∙ get_or-set_same l i x d (omega arith))
  among l i (x ∷ xs) (suc k) h g =
      let z : i + suc k ≡ i + 1 + k = omega arith in
      let e = length-set l i x in
      rw z (among (set l i x) (i + 1) xs k (omega arith) (omega arith))

-- six stored as the program stores them: their places are there, and they come to `stored`
module _ (l : List Float) (k : ℕ) (h : k < lent_count l) where
  pub second : (a : Float) → k * 6 + 1 < length (set l (k * 6) a)
  second a = let e = length-set l (k * 6) a in omega arith

  pub third : (a b : Float) → k * 6 + 2 < length (set (set l (k * 6) a) (k * 6 + 1) b)
  third a b = let f = length-set (set l (k * 6) a) (k * 6 + 1) b in let g = length-set l (k * 6) a in omega arith

  pub fourth : (a b c : Float) → k * 6 + 3 < length (set (set (set l (k * 6) a) (k * 6 + 1) b) (k * 6 + 2) c)
  fourth a b c = let e = length-set (set (set l (k * 6) a) (k * 6 + 1) b) (k * 6 + 2) c in let f = length-set (set l (k * 6) a) (k * 6 + 1) b in let g = length-set l (k * 6) a in omega arith

  pub fifth : (a b c d : Float) → k * 6 + 4 < length (set (set (set (set l (k * 6) a) (k * 6 + 1) b) (k * 6 + 2) c) (k * 6 + 3) d)
  fifth a b c d = let j = length-set (set (set (set l (k * 6) a) (k * 6 + 1) b) (k * 6 + 2) c) (k * 6 + 3) d in let e = length-set (set (set l (k * 6) a) (k * 6 + 1) b) (k * 6 + 2) c in let f = length-set (set l (k * 6) a) (k * 6 + 1) b in let g = length-set l (k * 6) a in omega arith

  pub sixth : (a b c d e : Float) → k * 6 + 5 < length (set (set (set (set (set l (k * 6) a) (k * 6 + 1) b) (k * 6 + 2) c) (k * 6 + 3) d) (k * 6 + 4) e)
  sixth a b c d e = let i = length-set (set (set (set (set l (k * 6) a) (k * 6 + 1) b) (k * 6 + 2) c) (k * 6 + 3) d) (k * 6 + 4) e in let j = length-set (set (set (set l (k * 6) a) (k * 6 + 1) b) (k * 6 + 2) c) (k * 6 + 3) d in let e = length-set (set (set l (k * 6) a) (k * 6 + 1) b) (k * 6 + 2) c in let f = length-set (set l (k * 6) a) (k * 6 + 1) b in let g = length-set l (k * 6) a in omega arith

pub stored-six : (l : List Float) (i : ℕ) (a b c d e f : Float) → set (set (set (set (set (set l i a) (i + 1) b) (i + 2) c) (i + 3) d) (i + 4) e) (i + 5) f ≡ stored l i (a ∷ b ∷ c ∷ d ∷ e ∷ f ∷ [])
unfolding stored
stored-six l i a b c d e f =
    let k2 : i + 1 + 1 ≡ i + 2 = omega arith in
    let k3 : i + 2 + 1 ≡ i + 3 = omega arith in
    let k4 : i + 3 + 1 ≡ i + 4 = omega arith in
    let k5 : i + 4 + 1 ≡ i + 5 = omega arith in
    rw (k2, k3, k4, k5)

-- ---- boxes
module _ (l : List Float) (k : ℕ) (b : Aabb) where
  pub was-put : k < lent_count l → put_in l k b ≡ stored l (k * 6) (six_of b)
  unfolding put_in choose
  was-put h = rw (lt-ltb k (lent_count l) h)

  pub no_room : lent_count l ≤ k → put_in l k b ≡ l
  unfolding put_in choose
  no_room h = rw (le-ltb k (lent_count l) h)

module _ (l : List Float) (k : ℕ) (b : Aabb) (h : k < lent_count l) where
  abbrev after : List Float
  after = stored l (k * 6) (six_of b)

  earlier : (j : ℕ) → j < k → box_of after j ≡ box_of l j
  earlier j less =
      let n0 = before zero64 l (k * 6) (six_of b) (j * 6) (omega arith) in
      let n1 = before zero64 l (k * 6) (six_of b) (j * 6 + 1) (omega arith) in
      let n2 = before zero64 l (k * 6) (six_of b) (j * 6 + 2) (omega arith) in
      let n3 = before zero64 l (k * 6) (six_of b) (j * 6 + 3) (omega arith) in
      let n4 = before zero64 l (k * 6) (six_of b) (j * 6 + 3 + 1) (omega arith) in
      let n5 = before zero64 l (k * 6) (six_of b) (j * 6 + 3 + 2) (omega arith) in
      rw (n0, n1, n2, n3, n4, n5)

  number : (n : ℕ) → n < 6 → get_or after (k * 6 + n) zero64 ≡ get_or (six_of b) n zero64
  number n less = among zero64 l (k * 6) (six_of b) n (omega arith) (omega arith)

  itself : box_of after k ≡ b
  itself =
      let z : k * 6 + 0 ≡ k * 6 = omega arith in
      let k4 : k * 6 + 3 + 1 ≡ k * 6 + 4 = omega arith in
      let k5 : k * 6 + 3 + 2 ≡ k * 6 + 5 = omega arith in
      let n0 = rw z at (number 0 (omega arith)) in
      rw (k4, k5, n0, number 1 (omega arith), number 2 (omega arith), number 3 (omega arith), number 4 (omega arith), number 5 (omega arith))

  pub one_more : boxes_in after (k + 1) ≡ boxes_in l k ++ (b ∷ [])
  one_more =
      let here : 0 + k ≡ k = omega arith in
      ap (λ (n : ℕ). boxes_in after n) (add-one k)
      ∙ last (box_of after) k 0
      ∙ ap (λ (bs : List Aabb). bs ++ (box_of after (0 + k) ∷ [])) (alike (box_of after) (box_of l) k 0 (λ j m. earlier j (omega arith)))
      ∙ ap (λ (a : Aabb). boxes_in l k ++ (a ∷ [])) (ap (box_of after) here ∙ itself)
