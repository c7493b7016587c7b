-- Laws of `appended`: an element, a part, the length, the loops that store them, and pieces of one length. Assumes nothing.
use mathlib.Core.Path.{◌≡◌, refl, sym, ap, ◌∙◌}
use mathlib.Core.List.{List, ◌++◌, append-nil, append_assoc}
use Prim.Native.Nat.{ℕ, zero, suc, ◌+◌, ◌-◌, ◌*◌, ◌<◌, ◌≤◌}
use native.Mathlib.Nat.{add-zero, zero-add, suc-add, le_of_suc-le-suc, not-suc-le-zero, mul-le-mul}
use native.Mathlib.Decide.{dec_lt}
use native.Mathlib.Omega.{arith}
use lib.ListN.{length, get_or, take, drop, length-append, length-drop, get_or-append}
use lib.Seq.{take_at, take_all, take-add, take-append-le, drop_at, drop-append-le, get_or-append-add}
use Rattle.base.specs.Loop.{appended, stored}
use Rattle.base.proofs.Fill.{stored-then}

-- ---- appended
module _ {A : Type 0} (f : ℕ → List A) where
  -- so many, and then as many again
  pub appended-split : (m n i : ℕ) → appended f (m + n) i ≡ appended f m i ++ appended f n (i + m)
  unfolding appended
  appended-split zero n i = let e : i + 0 ≡ i = omega arith in rw (zero-add n, e)
  appended-split (suc m) n i =
      let e : i + 1 + m ≡ i + suc m = omega arith in
      rw (suc-add m n) (ap (λ (l : List A). f i ++ l) (appended-split m n (i + 1) ∙ ap (λ (k : ℕ). appended f m (i + 1) ++ appended f n k) e) ∙ sym (append_assoc (f i) (appended f m (i + 1)) (appended f n (i + suc m))))

  pub appended-last : (n : ℕ) → appended f (suc n) 0 ≡ appended f n 0 ++ f n
  unfolding appended
  appended-last n =
      let e : suc n ≡ n + 1 = omega arith in
      let z : 0 + n ≡ n = omega arith in
      ap (λ (k : ℕ). appended f k 0) e ∙ appended-split n 1 0 ∙ rw (z, append-nil (f n))

  -- the part that is f s
  pub appended-part : (n s a b : ℕ) → s < n → length (appended f s 0) ≡ a → length (f s) ≡ b → take b (drop a (appended f n 0)) ≡ f s
  unfolding appended
  appended-part n s a b h p q =
      let e : n ≡ s + suc (n - suc s) = omega arith in
      let z : 0 + s ≡ s = omega arith in
      let w : appended f n 0 ≡ appended f s 0 ++ (f s ++ appended f (n - suc s) (s + 1)) = ap (λ (k : ℕ). appended f k 0) e ∙ appended-split s (suc (n - suc s)) 0 ∙ rw z in
      rw (w, drop_at (appended f s 0) (f s ++ appended f (n - suc s) (s + 1)) a p) (take_at (f s) (appended f (n - suc s) (s + 1)) b q)

  -- ---- a loop over i that stores f i: what is stored by then, and the rest of it, is the whole
  module _ (n i : ℕ) (l w : List A) (at : ℕ) where
    pub appended-turn : (l' : List A) (at' : ℕ) → l' ≡ stored l at (f i) → at' ≡ at + length (f i) → i < n → stored l at (appended f (n - i) i) ≡ w → stored l' at' (appended f (n - (i + 1)) (i + 1)) ≡ w
    unfolding appended
    appended-turn l' at' p q h inv =
        let e : n - i ≡ suc (n - (i + 1)) = omega arith in
        let all : stored l at (f i ++ appended f (n - (i + 1)) (i + 1)) ≡ w = rw e at inv in
        rw (p, q) (stored-then l at (f i) (appended f (n - (i + 1)) (i + 1)) ∙ all)

    pub appended-end : n ≤ i → stored l at (appended f (n - i) i) ≡ w → l ≡ w
    unfolding stored appended
    appended-end h inv = let q : n - i ≡ 0 = omega arith in rw q at inv

  -- and its place comes to the end
  module _ (n i at e : ℕ) where
    pub place-turn : (at' : ℕ) → at' ≡ at + length (f i) → i < n → at + length (appended f (n - i) i) ≡ e → at' + length (appended f (n - (i + 1)) (i + 1)) ≡ e
    unfolding appended
    place-turn at' q h inv =
        let r : n - i ≡ suc (n - (i + 1)) = omega arith in
        let all : at + length (f i ++ appended f (n - (i + 1)) (i + 1)) ≡ e = rw r at inv in
        omega (arith, all, length-append (f i) (appended f (n - (i + 1)) (i + 1)))

    pub place_end : n ≤ i → at + length (appended f (n - i) i) ≡ e → at ≡ e
    unfolding appended
    place_end h inv =
        let q : n - i ≡ 0 = omega arith in
        let all : at + 0 ≡ e = rw q at inv in
        omega arith

  -- ---- a loop that looks for element k
  module _ (n i k : ℕ) (d w : A) where
    split : i < n → get_or (appended f (n - i) i) k d ≡ w → get_or (f i ++ appended f (n - (i + 1)) (i + 1)) k d ≡ w
    unfolding appended
    split h inv = let r : n - i ≡ suc (n - (i + 1)) = omega arith in rw r at inv

    -- it is in f i, or further on
    pub element-here : i < n → k < length (f i) → get_or (appended f (n - i) i) k d ≡ w → get_or (f i) k d ≡ w
    element-here h g inv = sym (get_or-append (f i) (appended f (n - (i + 1)) (i + 1)) d k g) ∙ split h inv

    pub element-on : (m : ℕ) → i < n → k ≡ length (f i) + m → get_or (appended f (n - i) i) k d ≡ w → get_or (appended f (n - (i + 1)) (i + 1)) m d ≡ w
    element-on m h e inv = sym (get_or-append-add (f i) (appended f (n - (i + 1)) (i + 1)) m d) ∙ ap (λ (j : ℕ). get_or (f i ++ appended f (n - (i + 1)) (i + 1)) j d) (sym e) ∙ split h inv

    pub element-none : n ≤ i → get_or (appended f (n - i) i) k d ≡ w → d ≡ w
    unfolding appended
    element-none h inv = let q : n - i ≡ 0 = omega arith in rw q at inv

-- ---- pieces of one length: each stands at its place, and a list is what its pieces come to
module _ {A : Type 0} where
  pub appended-same : (g h : ℕ → List A) (n : ℕ) → ((j : ℕ) → j < n → g j ≡ h j) → appended g n 0 ≡ appended h n 0
  unfolding appended
  appended-same g h zero e = refl
  appended-same g h (suc n) e = rw (appended-last g n, appended-last h n, appended-same g h n (λ j l. e j (omega arith)), e n (omega arith))

  module _ (m : ℕ) where
    pub appended-length : (g : ℕ → List A) (n : ℕ) → ((j : ℕ) → j < n → length (g j) ≡ m) → length (appended g n 0) ≡ n * m
    unfolding appended
    appended-length g zero e = omega arith
    appended-length g (suc n) e =
        let a = appended-length g n (λ j l. e j (omega arith)) in
        let b = e n (omega arith) in
        ap length (appended-last g n) ∙ length-append (appended g n 0) (g n) ∙ omega arith

    -- the piece at each place
    pub appended-at : (g : ℕ → List A) (n j : ℕ) → ((j : ℕ) → j < n → length (g j) ≡ m) → j < n → take m (drop (j * m) (appended g n 0)) ≡ g j
    appended-at g zero j e h = absurd (not-suc-le-zero h)
    appended-at g (suc n) j e h =
        ap (λ (l : List A). take m (drop (j * m) l)) (appended-last g n)
        ∙ go (dec_lt j n) (appended-length g n (λ j l. e j (omega arith))) (λ l. appended-at g n j (λ j l. e j (omega arith)) l)
      where
        go : Dec (j < n) → length (appended g n 0) ≡ n * m → (j < n → take m (drop (j * m) (appended g n 0)) ≡ g j) → take m (drop (j * m) (appended g n 0 ++ g n)) ≡ g j
        go (yes l) size before =
            let room : (j + 1) * m ≤ n * m = mul-le-mul {m₂ = m} (omega arith) (omega arith) in
            let d = drop-append-le (j * m) (appended g n 0) (g n) (omega arith) in
            let t = take-append-le m (drop (j * m) (appended g n 0)) (g n) (rw (length-drop (j * m) (appended g n 0)) (omega arith)) in
            rw (d, t) (before l)
        go (no l) size before =
            let q : j ≡ n = omega arith in
            let b = e n (omega arith) in
            rw (q, drop_at (appended g n 0) (g n) (n * m) size) (take_all m (g n) (omega arith))

    -- the pieces of a list, so many as are taken of it
    pub appended-cut : (l : List A) (n : ℕ) → take (n * m) l ≡ appended (λ j. take m (drop (j * m) l)) n 0
    unfolding appended
    appended-cut l zero = let z : 0 * m ≡ 0 = omega arith in rw z
    appended-cut l (suc n) =
        let s : suc n * m ≡ n * m + m = omega arith in
        rw (s, take-add (n * m) m l, appended-cut l n) (sym (appended-last (λ (j : ℕ). take m (drop (j * m) l)) n))
