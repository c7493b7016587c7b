-- The two halves of a buffer. Assumes nothing.
use mathlib.Core.Path.{◌≡◌, sym, ap, ◌∙◌}
use mathlib.Core.List.{List, ◌++◌}
use Prim.Native.Nat.{ℕ, ◌+◌, ◌/◌, ◌≤◌}
use native.Mathlib.Omega.{arith}
use lib.ListN.{length, take, drop, length-append, length-drop}
use lib.Ieee.{Float}
use lib.Seq.{length-take-le, take_at, drop_at, drop-drop}
use Rattle.halves.specs.Halves.{Who, first, second, length_of_half, half_place, half_of, nobodys}

pub two-halves : (out : List Float) → length_of_half out + length_of_half out ≤ length out
two-halves out = omega arith

place-fits : (who : Who) (out : List Float) → half_place who out + length_of_half out ≤ length out
place-fits first out = let fits = two-halves out in omega (arith, fits)
place-fits second out = let fits = two-halves out in omega (arith, fits)

pub half_length : (who : Who) (out : List Float) → length (half_of who out) ≡ length_of_half out
half_length who out =
    let n = length-drop (half_place who out) out in
    let fits = place-fits who out in
    length-take-le (length_of_half out) (drop (half_place who out) out) (omega (arith, n, fits))

-- two halves and what is nobody's, put together, are a buffer of that length, whose halves they are
module _ (out x y : List Float) (nx : length x ≡ length_of_half out) (ny : length y ≡ length_of_half out) where
  abbrev pub joined : List Float
  joined = x ++ (y ++ nobodys out)

  pub joined_length : length joined ≡ length out
  joined_length =
      let all = length-append x (y ++ nobodys out) in
      let later = length-append y (nobodys out) in
      let n = length-drop (length_of_half out + length_of_half out) out in
      let fits = two-halves out in
      omega (arith, all, later, n, fits)

  same_half : length_of_half joined ≡ length_of_half out
  same_half = ap (λ (n : ℕ). n / 2) joined_length

  pub first-joined : half_of first joined ≡ x
  first-joined = ap (λ (h : ℕ). take h joined) same_half ∙ take_at x (y ++ nobodys out) (length_of_half out) nx

  pub second-joined : half_of second joined ≡ y
  second-joined =
      ap (λ (h : ℕ). take h (drop h joined)) same_half
      ∙ ap (λ (l : List Float). take (length_of_half out) l) (drop_at x (y ++ nobodys out) (length_of_half out) nx)
      ∙ take_at y (nobodys out) (length_of_half out) ny

  pub rest-joined : nobodys joined ≡ nobodys out
  rest-joined =
      ap (λ (h : ℕ). drop (h + h) joined) same_half
      ∙ sym (drop-drop (length_of_half out) (length_of_half out) joined)
      ∙ ap (λ (l : List Float). drop (length_of_half out) l) (drop_at x (y ++ nobodys out) (length_of_half out) nx)
      ∙ drop_at y (nobodys out) (length_of_half out) ny
