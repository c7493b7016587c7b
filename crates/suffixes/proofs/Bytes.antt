-- Bytes compared one after the other, and a part looked for at one place after the other. Assumes nothing.
use mathlib.Core.Path.{◌≡◌, refl, sym, ap, ◌∙◌}
use mathlib.Core.Bool.{Bool, true, false, ◌&&◌, ◌||◌, true≢false}
use mathlib.Core.List.{List, [], ◌∷◌}
use Prim.Native.Nat.{ℕ, suc, ◌+◌, ◌-◌, ◌≤◌, ◌<◌, min}
use native.Mathlib.Numerals.{add-one}
use native.Mathlib.Omega.{arith}
use lib.Dec.{eqb}
use lib.ListN.{length, get_or, take, drop, length-take, length-drop}
use lib.Seq.{drop-cons, take_all}
use lib.Pointwise.{pointwise}
use borrow.Author.Tests.{eqb-true, eqb-false, eq-eqb, ne_eqb}
use Rattle.base.proofs.Every.{and_right}
use Rattle.suffixes.specs.Bytes.{equal, ends_with, starts_with, has_within}

-- one element more
from : (l : List ℕ) (i : ℕ) → i < length l → drop i l ≡ get_or l i 0 ∷ drop (i + 1) l
from l i h = drop-cons l i 0 h ∙ ap (λ (n : ℕ). get_or l i 0 ∷ drop n l) (sym (add-one i))

-- ---- equal
-- lists of different lengths
pub unequal : (a b : List ℕ) → (length a ≡ length b → ⊥) → equal a b ≡ false
unfolding equal
unequal [] [] h = absurd (h refl)
unequal [] (y ∷ b) h = refl
unequal (x ∷ a) [] h = refl
unequal (x ∷ a) (y ∷ b) h = and_right (eqb x y) (equal a b) (unequal a b (λ e. h (ap suc e)))

-- the library's equality of bytes
pub same_bytes : (a b : List ℕ) → pointwise eqb a b ≡ equal a b
unfolding equal
same_bytes [] [] = refl
same_bytes [] (y ∷ b) = refl
same_bytes (x ∷ a) [] = refl
same_bytes (x ∷ a) (y ∷ b) = ap (λ (t : Bool). eqb x y && t) (same_bytes a b)

eqb_comm : (a b : ℕ) → eqb a b ≡ eqb b a
eqb_comm a b = go (eqb b a) refl
  where
    go : (t : Bool) → eqb b a ≡ t → eqb a b ≡ t
    go true e = eq-eqb a b (sym (eqb-true b a e))
    go false e = ne_eqb a b (λ (h : a ≡ b). eqb-false b a e (sym h))

same_turned : (a b : List ℕ) → pointwise eqb b a ≡ equal a b
unfolding equal
same_turned [] [] = refl
same_turned [] (y ∷ b) = refl
same_turned (x ∷ a) [] = refl
same_turned (x ∷ a) (y ∷ b) = rw (eqb_comm y x, same_turned a b)

-- ---- ends_with
-- as the library finds it
pub ends_by : (id suffix : List ℕ) → pointwise eqb suffix (drop (length id - length suffix) id) ≡ ends_with id suffix
unfolding ends_with
ends_by id suffix = same_turned (drop (length id - length suffix) id) suffix

-- no identifier ends in a longer suffix
pub too_short : (id suffix : List ℕ) → length id < length suffix → ends_with id suffix ≡ false
unfolding ends_with
too_short id suffix h =
    let l : length (drop (length id - length suffix) id) ≤ length id = simp length-drop (omega arith) in
    unequal (drop (length id - length suffix) id) suffix (λ e. shorter _ _ _ l h e)
  where
    shorter : (d n m : ℕ) → d ≤ n → n < m → d ≡ m → ⊥
    shorter d n m l h e = omega arith

-- ---- has_within
-- as the library finds it, from place k on
pub starts_by : (id part : List ℕ) (k : ℕ) → pointwise eqb part (take (length part) (take (length id - k) (drop k id))) ≡ starts_with (drop k id) part
unfolding starts_with
starts_by id part k = rw (take_all (length id - k) (drop k id) (simp length-drop (omega arith))) (same_turned (take (length part) (drop k id)) part)

-- no part is longer than what it is looked for in
pub starts-short : (l p : List ℕ) → length l < length p → starts_with l p ≡ false
unfolding starts_with
starts-short l p h = unequal (take (length p) l) p (λ e. shorter (length l) (length p) h (sym (length-take (length p) l) ∙ e))
  where
    shorter : (n m : ℕ) → n < m → min m n ≡ m → ⊥
    shorter n m h e = omega arith

pub within-short : (l p : List ℕ) → length l < length p → has_within l p ≡ false
unfolding has_within
within-short [] p h = starts-short [] p h
within-short (b ∷ l) p h = rw (starts-short (b ∷ l) p h, within-short l p (omega arith))

-- no bytes start anything
pub starts-part : (l p : List ℕ) → starts_with l p ≡ false → 0 < length p
unfolding starts_with equal
starts-part l [] e = absurd (true≢false e)
starts-part l (b ∷ p) e = omega arith

-- what is left from place k on; w is what the whole comes to
module _ (id p : List ℕ) (k : ℕ) (w : Bool) (inv : has_within (drop k id) p ≡ w) where
  pub within_end : k ≤ length id → length id < k + length p → false ≡ w
  within_end l h = sym (within-short (drop k id) p (simp length-drop (omega arith))) ∙ inv

  pub within-found : starts_with (drop k id) p ≡ true → true ≡ w
  unfolding has_within
  within-found e = sym (found (drop k id) e) ∙ inv
    where
      found : (l : List ℕ) → starts_with l p ≡ true → has_within l p ≡ true
      found [] e = e
      found (b ∷ l) e = ap (λ (t : Bool). t || has_within l p) e

  pub within-next : k < length id → starts_with (drop k id) p ≡ false → has_within (drop (k + 1) id) p ≡ w
  unfolding has_within
  within-next h e =
      let i : (starts_with (drop k id) p || has_within (drop (k + 1) id) p) ≡ w = rw (from id k h) (rw (from id k h) at inv) in
      rw e at i
