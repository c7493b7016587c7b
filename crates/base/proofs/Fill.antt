-- Lists that a loop fills in place, and elements stored one after the other. Assumes nothing.
use mathlib.Core.Path.{◌≡◌, sym, ap, ◌∙◌}
use mathlib.Core.List.{List, [], ◌∷◌, ◌++◌, append-nil}
use Prim.Native.Nat.{ℕ, suc, ◌+◌, ◌-◌, ◌<◌, ◌≤◌}
use native.Mathlib.Numerals.{add-one}
use native.Mathlib.Omega.{arith}
use lib.ListN.{length, take, drop, get_or, set, drop_of_length-le}
use lib.Seq.{take-suc-set, append_snoc, drop-cons}
use Rattle.base.specs.Loop.{listed, stored}

-- ---- what stands there up to i, and what is still to come, is the whole
module _ {A : Type 0} (f : ℕ → A) (n i : ℕ) (l : List A) (w : List A) where
  -- a turn writes f i at i
  pub turn : (a : A) → a ≡ f i → i < n → i < length l → take i l ++ listed f (n - i) i ≡ w → take (i + 1) (set l i a) ++ listed f (n - (i + 1)) (i + 1) ≡ w
  unfolding listed
  turn a e h inside inv =
      let q : n - i ≡ suc (n - (i + 1)) = omega arith in
      let rest : List A = listed f (n - (i + 1)) (i + 1) in
      ap (λ (k : ℕ). take k (set l i a) ++ rest) (add-one i)
      ∙ ap (λ (r : List A). r ++ rest) (take-suc-set l i a inside)
      ∙ append_snoc (take i l) a rest
      ∙ ap (λ (x : A). take i l ++ (x ∷ rest)) e
      ∙ (rw q at inv)

  -- the end
  pub whole : n ≤ i → i ≤ n → take i l ++ listed f (n - i) i ≡ w → take n l ≡ w
  unfolding listed
  whole h h' inv =
      let q : n - i ≡ 0 = omega arith in
      let e : n ≡ i = omega arith in
      ap (λ (k : ℕ). take k l) e ∙ sym (append-nil (take i l)) ∙ (rw q at inv)

-- ---- stored

-- what is stored behind what was stored
pub stored-then : {A : Type 0} (l : List A) (i : ℕ) (xs ys : List A) → stored (stored l i xs) (i + length xs) ys ≡ stored l i (xs ++ ys)
unfolding stored
stored-then l i [] ys = let e : i + 0 ≡ i = omega arith in ap (λ (k : ℕ). stored l k ys) e
stored-then l i (x ∷ xs) ys =
    let e : i + suc (length xs) ≡ i + 1 + length xs = omega arith in
    ap (λ (k : ℕ). stored (stored (set l i x) (i + 1) xs) k ys) e ∙ stored-then (set l i x) (i + 1) xs ys

-- a loop that stores f 0, f 1 and so on from `at` on: what it has stored by turn i, and the rest of it, is the whole
module _ {A : Type 0} (f : ℕ → A) (n at i : ℕ) (l w : List A) where
  pub listed-turn : (a : A) → a ≡ f i → i < n → stored l (at + i) (listed f (n - i) i) ≡ w → stored (set l (at + i) a) (at + (i + 1)) (listed f (n - (i + 1)) (i + 1)) ≡ w
  unfolding stored listed
  listed-turn a e h inv =
      let q : n - i ≡ suc (n - (i + 1)) = omega arith in
      let p : at + (i + 1) ≡ at + i + 1 = omega arith in
      let rest : List A = listed f (n - (i + 1)) (i + 1) in
      let all : stored l (at + i) (f i ∷ rest) ≡ w = rw q at inv in
      ap (λ (k : ℕ). stored (set l (at + i) a) k rest) p ∙ ap (λ (x : A). stored (set l (at + i) x) (at + i + 1) rest) e ∙ all

  pub listed-end : n ≤ i → stored l (at + i) (listed f (n - i) i) ≡ w → l ≡ w
  unfolding stored listed
  listed-end h inv = let q : n - i ≡ 0 = omega arith in rw q at inv

-- a loop that stores a text from `at` on
module _ {A : Type 0} (d : A) (text : List A) (at i : ℕ) (l w : List A) where
  pub text-turn : i < length text → stored l (at + i) (drop i text) ≡ w → stored (set l (at + i) (get_or text i d)) (at + (i + 1)) (drop (i + 1) text) ≡ w
  unfolding stored
  text-turn h inv =
      let p : at + (i + 1) ≡ at + i + 1 = omega arith in
      let rest : List A = drop (i + 1) text in
      let q : drop i text ≡ get_or text i d ∷ rest = drop-cons text i d h ∙ ap (λ (n : ℕ). get_or text i d ∷ drop n text) (sym (add-one i)) in
      let all : stored l (at + i) (get_or text i d ∷ rest) ≡ w = rw q at inv in
      ap (λ (k : ℕ). stored (set l (at + i) (get_or text i d)) k rest) p ∙ all

  pub text-end : length text ≤ i → stored l (at + i) (drop i text) ≡ w → l ≡ w
  unfolding stored
  text-end h inv = rw (drop_of_length-le text h) at inv
