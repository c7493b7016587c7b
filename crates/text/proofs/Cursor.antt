-- Texts written one behind the other. Assumes nothing.
use mathlib.Core.Bool.{Bool, true, false}
use mathlib.Core.List.{List, [], ◌∷◌, ◌++◌, append-nil}
use mathlib.Core.Path.{◌≡◌, refl, sym, ap, ◌∙◌}
use Prim.Native.Nat.{ℕ, zero, suc, ◌+◌, ◌≤◌, ◌<◌, min, max}
use native.Mathlib.Decide.{dec_le}
use native.Mathlib.Omega.{arith}
use lib.ListN.{length, get_or, take, set, length-append}
use lib.Seq.{take-suc, take_all, set_out}
use Rattle.base.specs.Loop.{listed, stored}
use Rattle.base.proofs.Fill.{stored-then}
use Rattle.base.proofs.Stored.{stored-length, stored-beyond}
use Rattle.text.specs.Cursor.{behind, Put}
use Rattle.text.specs.Text.{joined_text}

-- ---- stored

-- a cursor that stays at the end stores what one beyond it would: nothing
held_back : (l : List ℕ) (at n : ℕ) (xs : List ℕ) → stored l (behind (length l) at n) xs ≡ stored l (at + n) xs
held_back l at n xs = go (dec_le (at + n) (length l))
  where
    go : Dec (at + n ≤ length l) → stored l (behind (length l) at n) xs ≡ stored l (at + n) xs
    go (yes h) = let e : behind (length l) at n ≡ at + n = omega arith in ap (λ (k : ℕ). stored l k xs) e
    go (no h) = stored-beyond l (behind (length l) at n) xs (omega arith) ∙ sym (stored-beyond l (at + n) xs (omega arith))

-- ---- the cursor

pub same_size : {l text after : List ℕ} {at r : ℕ} → Put l at text after r → length after ≡ length l
same_size {l} {text} {after} {at} p = ap length p.buffer ∙ stored-length l at text

pub nothing : (l : List ℕ) (at : ℕ) → Put l at [] l at
unfolding stored
nothing l at = record { buffer = refl; cursor = omega arith }

-- one byte where there is room, and where there is none
pub byte-in : (l : List ℕ) (at x : ℕ) → at < length l → Put l at (x ∷ []) (set l at x) (at + 1)
unfolding stored
byte-in l at x h = record { buffer = refl; cursor = omega arith }

pub byte-out : (l : List ℕ) (at x : ℕ) → length l ≤ at → Put l at (x ∷ []) l at
unfolding stored
byte-out l at x h = record { buffer = sym (set_out l at x h); cursor = omega arith }

-- a text, and one behind it
further : (size at m n : ℕ) → behind size (behind size at m) n ≡ behind size at (m + n)
further size at m n = omega arith

pub then : {l s mid t after : List ℕ} {at between r : ℕ} → Put l at s mid between → Put mid between t after r → Put l at (s ++ t) after r
then {l} {s} {mid} {t} {after} {at} {between} {r} p q =
    let size = same_size p in
    record {
      buffer =
          q.buffer
          ∙ ap (λ (k : ℕ). stored mid k t) (p.cursor ∙ ap (λ (n : ℕ). behind n at (length s)) (sym size))
          ∙ held_back mid at (length s) t
          ∙ ap (λ (m : List ℕ). stored m (at + length s) t) p.buffer
          ∙ stored-then l at s t;
      cursor =
          q.cursor
          ∙ ap (λ (n : ℕ). behind n between (length t)) size
          ∙ ap (λ (k : ℕ). behind (length l) k (length t)) p.cursor
          ∙ further (length l) at (length s) (length t)
          ∙ ap (behind (length l) at) (sym (length-append s t));
    }

-- ---- pieces: the last, and one before others

pub last : {l p after : List ℕ} {at r : ℕ} → Put l at p after r → Put l at (joined_text (p ∷ [])) after r
unfolding joined_text
last {p = p} w = rw (append-nil p) w

pub first : {l p mid after : List ℕ} {at between r : ℕ} (ps : List (List ℕ)) → Put l at p mid between → Put mid between (joined_text ps) after r → Put l at (joined_text (p ∷ ps)) after r
unfolding joined_text
first ps p q = then p q

-- ---- loops: a byte behind those of the turns before

pub text-turn : {l out after : List ℕ} {at cursor r : ℕ} (text : List ℕ) (i : ℕ) → i < length text → Put l at (take i text) out cursor → Put out cursor (get_or text i 0 ∷ []) after r
    → Put l at (take (i + 1) text) after r
text-turn text i h p q =
    let e : i + 1 ≡ suc i = omega arith in
    rw (e, take-suc text i 0 h) (then p q)

pub text-end : {l out : List ℕ} {at cursor : ℕ} (text : List ℕ) (i : ℕ) → length text ≤ i → Put l at (take i text) out cursor → Put l at text out cursor
text-end text i h p = rw (take_all i text h) at p

listed_more : (f : ℕ → ℕ) (k i : ℕ) → listed f (suc k) i ≡ listed f k i ++ (f (i + k) ∷ [])
unfolding listed
listed_more f zero i = let e : i + 0 ≡ i = omega arith in ap (λ (j : ℕ). f j ∷ []) (sym e)
listed_more f (suc k) i =
    let e : i + suc k ≡ i + 1 + k = omega arith in
    ap (λ (l : List ℕ). f i ∷ l) (listed_more f k (i + 1)) ∙ ap (λ (j : ℕ). f i ∷ (listed f k (i + 1) ++ (f j ∷ []))) (sym e)

pub listed-turn : {l out after : List ℕ} {at cursor r : ℕ} (f : ℕ → ℕ) (k : ℕ) → Put l at (listed f k 0) out cursor → Put out cursor (f k ∷ []) after r
    → Put l at (listed f (k + 1) 0) after r
listed-turn f k p q =
    let e : k + 1 ≡ suc k = omega arith in
    let z : 0 + k ≡ k = omega arith in
    rw (e, listed_more f k 0, z) (then p q)

pub listed-end : {l out : List ℕ} {at cursor : ℕ} (f : ℕ → ℕ) (n k : ℕ) → k ≤ n → n ≤ k → Put l at (listed f k 0) out cursor → Put l at (listed f n 0) out cursor
listed-end f n k h h' p = let e : k ≡ n = omega arith in rw e at p
