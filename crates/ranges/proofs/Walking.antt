-- A loop that goes through a range with `place` and `next` comes to `walk`. Its invariant is `Walked`; m is what a call's answer says.
-- Assumes nothing.
use mathlib.Core.Path.{◌≡◌, sym, ap, ◌∙◌}
use Prim.Native.Nat.{ℕ, ◌≤◌, ◌<◌}
use Rattle.base.specs.Ask.{Ask, refused, found, Turn, next, done}
use Rattle.window.specs.declared.Pos.{Pos}
use Rattle.ranges.specs.declared.Range.{Range}
use Rattle.ranges.specs.declared.At.{At}
use Rattle.ranges.specs.Ranges.{place_of, next_of, start_of}
use Rattle.ranges.specs.Walk.{walk}
use Rattle.ranges.proofs.Walks.{rest, rest-start, rest-refused, rest-done, rest-next, rest_end, Within, start-within, next-within, left, next-less}

-- in the cell t with the state s: what is left of the range comes to what the whole does from s₀
pub record Walked {S R : Type 0} (f : Pos → S → Ask (Turn S R)) (r : Range) (s₀ : S) (t : At) (s : S) : Type 0 where
  pub within : Within r t
  pub same : rest f r t s ≡ walk f r s₀

pub walked_start : {S R : Type 0} (f : Pos → S → Ask (Turn S R)) (r : Range) (s : S) (t : At) → t ≡ start_of r → Walked f r s t s
walked_start f r s t e = rw e record { within = start-within r; same = rest-start f r s }

module _ {S R : Type 0} {f : Pos → S → Ask (Turn S R)} {r : Range} {s₀ : S} {t : At} {s : S} (k : Walked f r s₀ t s) where
  pub walked_end : r.y.count ≤ t.y → walk f r s₀ ≡ found (next s)
  walked_end h = sym k.same ∙ rest_end f r t s h

  module _ (h : t.y < r.y.count) {p : Pos} (e : p ≡ place_of r t) {m : Ask (Turn S R)} (g : m ≡ f p s) where
    answered : f (place_of r t) s ≡ m
    answered = ap (λ (q : Pos). f q s) (sym e) ∙ sym g

    pub walked_stop : (n : ℕ) → m ≡ refused n → walk f r s₀ ≡ refused n
    walked_stop n a = sym k.same ∙ rest-refused f r t s h (k.within.x h) (k.within.z h) n (answered ∙ a)

    pub walked-done : (b : R) → m ≡ found (done b) → walk f r s₀ ≡ found (done b)
    walked-done b a = sym k.same ∙ rest-done f r t s h (k.within.x h) (k.within.z h) b (answered ∙ a)

    pub walked_next : (s' : S) → m ≡ found (next s') → (t' : At) → t' ≡ next_of r t → Walked f r s₀ t' s'
    walked_next s' a t' i =
        rw i record {
          within = next-within r t h (k.within.x h) (k.within.z h);
          same = sym (rest-next f r t s s' h (k.within.x h) (k.within.z h) (answered ∙ a)) ∙ k.same;
        }

  pub walked-less : t.y < r.y.count → (t' : At) → t' ≡ next_of r t → left r t' < left r t
  walked-less h t' i = rw i (next-less r t h (k.within.x h) (k.within.z h))
