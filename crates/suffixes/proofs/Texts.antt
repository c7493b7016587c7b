-- What the tests on bytes come to: `equal` is equality, `ends_with` finds the bytes to be something and the suffix, and `has_within` something,
-- the part and something more; and each finds what is there. Assumes nothing.
use mathlib.Core.Path.{◌≡◌, refl, sym, ap, ◌∙◌}
use mathlib.Core.Bool.{Bool, true, false, ◌||◌, false≢true}
use mathlib.Core.List.{List, [], ◌∷◌, ◌++◌}
use Prim.Native.Nat.{ℕ, ◌-◌}
use native.Mathlib.Omega.{arith}
use lib.Dec.{eqb}
use lib.ListN.{length, take, drop, length-append, take-append-drop}
use lib.Seq.{take-append_seam, drop-append_seam}
use borrow.Author.Tests.{eqb-true, eq-eqb}
use Rattle.base.proofs.Every.{both}
use Rattle.suffixes.specs.Bytes.{equal, ends_with, starts_with, has_within}

-- ---- equal
pub equal-same : (a b : List ℕ) → equal a b ≡ true → a ≡ b
unfolding equal
equal-same [] [] e = refl
equal-same [] (y ∷ b) e = absurd (false≢true e)
equal-same (x ∷ a) [] e = absurd (false≢true e)
equal-same (x ∷ a) (y ∷ b) e =
    let h = both (eqb x y) (equal a b) e in
    λ i. eqb-true x y h.one i ∷ equal-same a b h.two i

pub same-equal : (a : List ℕ) → equal a a ≡ true
unfolding equal
same-equal [] = refl
same-equal (x ∷ a) = rw (eq-eqb x x refl, same-equal a)

-- ---- ends_with
pub ends-split : (id suffix : List ℕ) → ends_with id suffix ≡ true → take (length id - length suffix) id ++ suffix ≡ id
unfolding ends_with
ends-split id suffix e =
    let k = length id - length suffix in
    ap (λ (d : List ℕ). take k id ++ d) (sym (equal-same (drop k id) suffix e)) ∙ take-append-drop k id

pub split-ends : (u suffix : List ℕ) → ends_with (u ++ suffix) suffix ≡ true
unfolding ends_with
split-ends u suffix =
    let k : length (u ++ suffix) - length suffix ≡ length u = simp length-append (omega arith) in
    rw (k, drop-append_seam u suffix, same-equal suffix)

-- ---- has_within
pub record Within (id part : List ℕ) : Type 0 where
  pub front : List ℕ
  pub rest : List ℕ
  pub whole : front ++ (part ++ rest) ≡ id

starts-within : (id part : List ℕ) → starts_with id part ≡ true → Within id part
unfolding starts_with
starts-within id part e = record {
  front = [];
  rest = drop (length part) id;
  whole = ap (λ (l : List ℕ). l ++ drop (length part) id) (sym (equal-same (take (length part) id) part e)) ∙ take-append-drop (length part) id;
}

later : {id part : List ℕ} (b : ℕ) → Within id part → Within (b ∷ id) part
later b w = record { front = b ∷ w.front; rest = w.rest; whole = ap (λ (l : List ℕ). b ∷ l) w.whole }

either : {A : Type 0} (s t : Bool) → (s ≡ true → A) → (t ≡ true → A) → (s || t) ≡ true → A
either true t f g e = f refl
either false t f g e = g e

pub within-split : (id part : List ℕ) → has_within id part ≡ true → Within id part
unfolding has_within
within-split [] part e = starts-within [] part e
within-split (b ∷ id) part e =
    either (starts_with (b ∷ id) part) (has_within id part) (starts-within (b ∷ id) part) (λ h. later b (within-split id part h)) e

or-true : (t : Bool) → (t || true) ≡ true
or-true true = refl
or-true false = refl

-- where the part starts at once
first-within : (l part : List ℕ) → starts_with l part ≡ true → has_within l part ≡ true
unfolding has_within
first-within [] part e = e
first-within (b ∷ l) part e = ap (λ (t : Bool). t || has_within l part) e

split-starts : (part v : List ℕ) → starts_with (part ++ v) part ≡ true
unfolding starts_with
split-starts part v = ap (λ (l : List ℕ). equal l part) (take-append_seam part v) ∙ same-equal part

pub split-within : (u part v : List ℕ) → has_within (u ++ (part ++ v)) part ≡ true
unfolding has_within
split-within [] part v = first-within (part ++ v) part (split-starts part v)
split-within (b ∷ u) part v =
    ap (λ (t : Bool). starts_with (b ∷ (u ++ (part ++ v))) part || t) (split-within u part v) ∙ or-true (starts_with (b ∷ (u ++ (part ++ v))) part)
