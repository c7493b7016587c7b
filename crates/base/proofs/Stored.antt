-- What a list is after elements were stored into it. Assumes nothing.
use mathlib.Core.List.{List, [], ◌∷◌, ◌++◌, append-nil, append_assoc}
use mathlib.Core.Path.{◌≡◌, refl, sym, ap, ◌∙◌}
use Prim.Native.Nat.{ℕ, suc, ◌+◌, ◌-◌, ◌≤◌}
use native.Mathlib.Numerals.{add-one}
use native.Mathlib.Omega.{arith}
use lib.ListN.{length, take, drop, set, length-drop, take-append-drop, drop_of_length-le}
use lib.Seq.{sets, sets-eq, length-sets, take_all, set_out, drop-set-add, take-set-le}
use borrow.Rule.Slice.PartMut.{put_mid, post_of, Post-is}
use Rattle.base.specs.Loop.{stored}

module _ {A : Type 0} where
  stored-sets : (l : List A) (i : ℕ) (xs : List A) → stored l i xs ≡ sets l i xs
  unfolding stored
  stored-sets l i [] = refl
  stored-sets l i (x ∷ xs) = ap (λ (k : ℕ). stored (set l i x) k xs) (add-one i) ∙ stored-sets (set l i x) (suc i) xs

  pub stored-length : (l : List A) (i : ℕ) (xs : List A) → length (stored l i xs) ≡ length l
  stored-length l i xs = ap length (stored-sets l i xs) ∙ length-sets l i xs

  -- what stands before them, they themselves, and what stands behind them
  pub stored-parts : (l : List A) (i : ℕ) (xs : List A) → i + length xs ≤ length l → stored l i xs ≡ take i l ++ xs ++ drop (i + length xs) l
  stored-parts l i xs h = stored-sets l i xs ∙ sets-eq xs l i h

  pub stored-front : (l xs : List A) → length xs ≤ length l → stored l 0 xs ≡ xs ++ drop (length xs) l
  stored-front l xs h =
      let z : 0 + length xs ≡ length xs = omega arith in
      rw z at (stored-parts l 0 xs (omega arith))

  -- the same where so many are known to be stored
  pub stored-first : (l xs : List A) (n : ℕ) → length xs ≡ n → n ≤ length l → stored l 0 xs ≡ xs ++ drop n l
  stored-first l xs n e h = stored-front l xs (omega arith) ∙ ap (λ (k : ℕ). xs ++ drop k l) e

  -- as many as there are places
  pub stored-all : (l xs : List A) → length l ≡ length xs → stored l 0 xs ≡ xs
  stored-all l xs e = stored-front l xs (omega arith) ∙ ap (λ (r : List A). xs ++ r) (drop_of_length-le l {i = length xs} (omega arith)) ∙ append-nil xs

  -- a part that was lent to a call, and came back filled
  pub stored-mid : (l : List A) (a e : ℕ) (xs : List A) → a ≤ e → e ≤ length l → length xs ≡ e - a → put_mid a (e - a) l xs ≡ stored l a xs
  stored-mid l a e xs h g n =
      let p : a + length xs ≡ e = omega arith in
      sym (append_assoc (take a l) xs (post_of a (e - a) l))
      ∙ ap (λ (r : List A). take a l ++ xs ++ r) (Post-is a e l h)
      ∙ sym (rw p at (stored-parts l a xs (omega arith)))

-- what lies behind a place
pub rest : {A : Type 0} (l : List A) (k : ℕ) → take (length l - k) (drop k l) ≡ drop k l
rest l k =
    let n = length-drop k l in
    let all : length (drop k l) ≤ length l - k = omega (arith, n) in
    take_all (length l - k) (drop k l) all

-- into what lies behind a place, or into the whole
pub stored-behind : {A : Type 0} (l : List A) (at k : ℕ) (xs : List A) → take at l ++ stored (drop at l) k xs ≡ stored l (at + k) xs
unfolding stored
stored-behind l at k [] = take-append-drop at l
stored-behind {A} l at k (x ∷ xs) =
    let after : List A = set l (at + k) x in
    let same : take at after ≡ take at l = take-set-le at l (at + k) x (omega arith) in
    let next : at + (k + 1) ≡ at + k + 1 = omega arith in
    ap (λ (r : List A). take at l ++ stored r (k + 1) xs) (sym (drop-set-add at l k x))
    ∙ ap (λ (r : List A). r ++ stored (drop at after) (k + 1) xs) (sym same)
    ∙ stored-behind after at (k + 1) xs
    ∙ ap (λ (i : ℕ). stored after i xs) next

-- the part behind a place, put back with what was stored into it
pub put-behind : {A : Type 0} (l part : List A) (at : ℕ) (xs : List A) → part ≡ stored (take (length l - at) (drop at l)) 0 xs
    → take at l ++ (part ++ drop (length l - at) (drop at l)) ≡ stored l at xs
put-behind {A} l part at xs e =
    let n = length-drop at l in
    let few : length (drop at l) ≤ length l - at = omega (arith, n) in
    let here : at + 0 ≡ at = omega arith in
    ap (λ (r : List A). take at l ++ (part ++ r)) (drop_of_length-le (drop at l) few)
    ∙ ap (λ (r : List A). take at l ++ r) (append-nil part ∙ e)
    ∙ ap (λ (r : List A). take at l ++ stored r 0 xs) (rest l at)
    ∙ stored-behind l at 0 xs
    ∙ ap (λ (k : ℕ). stored l k xs) here

-- from behind the end on, nothing
pub stored-beyond : {A : Type 0} (l : List A) (i : ℕ) (xs : List A) → length l ≤ i → stored l i xs ≡ l
unfolding stored
stored-beyond l i [] h = refl
stored-beyond {A} l i (x ∷ xs) h =
    let later : length l ≤ i + 1 = omega arith in
    ap (λ (r : List A). stored r (i + 1) xs) (set_out l i x h) ∙ stored-beyond l (i + 1) xs later
