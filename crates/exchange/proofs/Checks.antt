-- What the second check shows of two words exchanged: it stays as it was only where 2^32 divides the places apart times the difference of the words.
-- Assumes nothing.
use mathlib.Core.Path.{◌≡◌, sym, ap, ◌∙◌, subst}
use Prim.Native.Nat.{ℕ, ◌+◌, ◌*◌, ◌%◌, ◌<◌, ◌≤◌}
use native.Mathlib.Decide.{dec_le, dec_lt}
use native.Mathlib.Omega.{arith}
use Rattle.blocks.specs.Blocks.{sum_of}
use Rattle.exchange.specs.Exchange.{distance, Among, Exchanged}
use Rattle.exchange.proofs.Sums.{two}

-- a at place i and b at place i + d change places: the sum changes by d times their difference
moved : (i d a b s s' : ℕ) → s' + (i + 1) * a + (i + d + 1) * b ≡ s + (i + 1) * b + (i + d + 1) * a → s' + d * b ≡ s + d * a
moved i d a b s s' h = omega arith

rest : (p s s' : ℕ) → s' ≡ s + p → s' % 4294967296 ≡ s % 4294967296 → p % 4294967296 ≡ 0
rest p s s' e h = omega arith

more : (d b x s s' : ℕ) → s' + d * b ≡ s + d * (b + x) → s' ≡ s + d * x
more d b x s s' h = omega arith

shown : (d a b s s' : ℕ) → s' + d * b ≡ s + d * a → s' % 4294967296 ≡ s % 4294967296 → d * distance a b % 4294967296 ≡ 0
shown d a b s s' h same = go (dec_le b a)
  where
    go : Dec (b ≤ a) → d * distance a b % 4294967296 ≡ 0
    go (yes l) =
        let e : a ≡ b + distance a b = omega arith in
        rest (d * distance a b) s s' (more d b (distance a b) s s' (h ∙ ap (λ (n : ℕ). s + d * n) e)) same
    go (no l) =
        let e : b ≡ a + distance a b = omega arith in
        rest (d * distance a b) s' s (more d a (distance a b) s' s (sym h ∙ ap (λ (n : ℕ). s' + d * n) e)) (sym same)

abbrev weighted : (ℕ → ℕ) → ℕ → ℕ
weighted f k = (k + 1) * f k

-- i before j
ahead : (f g : ℕ → ℕ) (i j : ℕ) → i < j → j ≤ 125 → Exchanged f g i j → sum_of (weighted g) 126 % 4294967296 ≡ sum_of (weighted f) 126 % 4294967296
    → distance i j * distance (f i) (f j) % 4294967296 ≡ 0
ahead f g i j before most x same =
    let S : ℕ = sum_of (weighted f) 126 in
    let S' : ℕ = sum_of (weighted g) 126 in
    let s : S' + (i + 1) * f i + (j + 1) * f j ≡ S + (i + 1) * g i + (j + 1) * g j =
    two (weighted f) (weighted g) 126 i j before (omega arith) (λ k l p q. ap (λ (w : ℕ). (k + 1) * w) (x.others k (omega arith) p q)) in
    let t : S' + (i + 1) * f i + (j + 1) * f j ≡ S + (i + 1) * f j + (j + 1) * f i = rw (x.there, x.back) at s in
    let d : j ≡ i + distance i j = omega arith in
    shown (distance i j) (f i) (f j) S S'
    (moved i (distance i j) (f i) (f j) S S' (subst (λ (m : ℕ). S' + (i + 1) * f i + (m + 1) * f j ≡ S + (i + 1) * f j + (m + 1) * f i) d t)) same

turned : {f g : ℕ → ℕ} {i j : ℕ} → Exchanged f g i j → Exchanged f g j i
turned x = record { there = x.back; back = x.there; others = λ k l p q. x.others k l q p }

swapped : (a b : ℕ) → distance a b ≡ distance b a
swapped a b = omega arith

pub agree : (f g : ℕ → ℕ) (i j : ℕ) → Among i j → Exchanged f g i j → sum_of (weighted g) 126 % 4294967296 ≡ sum_of (weighted f) 126 % 4294967296
    → distance i j * distance (f i) (f j) % 4294967296 ≡ 0
agree f g i j p x same = go (dec_lt i j) (dec_lt j i)
  where
    go : Dec (i < j) → Dec (j < i) → distance i j * distance (f i) (f j) % 4294967296 ≡ 0
    go (yes h) l = ahead f g i j h p.two-most x same
    go (no h) (yes l) = rw (swapped i j, swapped (f i) (f j)) (ahead f g j i l p.one-most (turned x) same)
    go (no h) (no l) =
        let z : distance i j ≡ 0 = omega arith in
        rw z (none (distance (f i) (f j)))
      where
        none : (n : ℕ) → 0 * n % 4294967296 ≡ 0
        none n = omega arith
