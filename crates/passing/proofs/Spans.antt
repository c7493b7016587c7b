-- The cells of a range between two that lie in the window lie in it too, in the groups between theirs. Assumes nothing.
use mathlib.Core.Path.{◌≡◌, refl, sym, ap, ◌∙◌, subst}
use mathlib.Core.Bool.{Bool, true, false, true≢false, false≢true}
use Prim.Native.Nat.{ℕ, ◌+◌, ◌-◌, ◌≤◌, ◌<◌}
use native.Mathlib.Omega.{arith}
use lib.Dec.{ltb}
use lib.IntN.{ℤ, pos, negsuc, nat_abs, ◌+ℤ◌, ◌-ℤ◌, neg_ℤ, +ℤ_assoc, +ℤ_comm, +ℤ_idr, +ℤ-neg_ℤ_cancel, -ℤ-+ℤ_cancel}
use lib.Signed.{le_z, lt_z}
use borrow.Author.Tests.{leb-true, leb-false, le-leb, ltb-true, lt-ltb}
use Rattle.base.specs.Choose.{choose}
use Rattle.base.proofs.Every.{both, and-true}
use Rattle.window.specs.Window.{within}
use Rattle.window.proofs.Order.{lt-moved, le-moved}
use Rattle.window.proofs.Offsets.{ahead}
use Rattle.groups.specs.Places.{offset_in}
use Rattle.ranges.specs.Ranges.{on_from}

-- ---- the order of whole numbers
le_then : (a b c : ℤ) → le_z a b ≡ true → le_z b c ≡ true → le_z a c ≡ true
le_then (pos a) (pos b) (pos c) h k = let x = leb-true a b h in let y = leb-true b c k in le-leb a c (omega arith)
le_then (pos a) (pos b) (negsuc c) h k = absurd (false≢true k)
le_then (pos a) (negsuc b) c h k = absurd (false≢true h)
le_then (negsuc a) (pos b) (pos c) h k = refl
le_then (negsuc a) (pos b) (negsuc c) h k = absurd (false≢true k)
le_then (negsuc a) (negsuc b) (pos c) h k = refl
le_then (negsuc a) (negsuc b) (negsuc c) h k = let x = leb-true b a h in let y = leb-true c b k in le-leb c a (omega arith)

le-self : (a : ℤ) → le_z a a ≡ true
le-self (pos a) = le-leb a a (omega arith)
le-self (negsuc a) = le-leb a a (omega arith)

le-lt : (a b c : ℤ) → le_z a b ≡ true → lt_z b c ≡ true → lt_z a c ≡ true
le-lt (pos a) (pos b) (pos c) h k = let x = leb-true a b h in let y = ltb-true b c k in lt-ltb a c (omega arith)
le-lt (pos a) (pos b) (negsuc c) h k = absurd (false≢true k)
le-lt (pos a) (negsuc b) c h k = absurd (false≢true h)
le-lt (negsuc a) (pos b) (pos c) h k = refl
le-lt (negsuc a) (pos b) (negsuc c) h k = absurd (false≢true k)
le-lt (negsuc a) (negsuc b) (pos c) h k = refl
le-lt (negsuc a) (negsuc b) (negsuc c) h k = let x = leb-true b a h in let y = ltb-true c b k in lt-ltb c a (omega arith)

-- ---- further cells of a range lie no lower
further : (a : ℤ) (j k : ℕ) → j ≤ k → le_z (a +ℤ pos j) (a +ℤ pos k) ≡ true
further a j k h = (λ i. le_z (+ℤ_comm a (pos j) i) (+ℤ_comm a (pos k) i)) ∙ le-moved a (pos j) (pos k) ∙ le-leb j k h

grows : (a : ℤ) (j k : ℕ) → j ≤ k → le_z (on_from a j) (on_from a k) ≡ true
unfolding on_from choose
grows a j k h = go (le_z (a +ℤ pos j) (pos 67108864)) (le_z (a +ℤ pos k) (pos 67108864)) refl refl
  where
    go : (s t : Bool) → le_z (a +ℤ pos j) (pos 67108864) ≡ s → le_z (a +ℤ pos k) (pos 67108864) ≡ t → le_z (choose s (a +ℤ pos j) (pos 67108864)) (choose t (a +ℤ pos k) (pos 67108864)) ≡ true
    go true true e f = further a j k h
    go true false e f = e
    go false true e f = absurd (true≢false (sym (le_then (a +ℤ pos j) (a +ℤ pos k) (pos 67108864) (further a j k h) f) ∙ e))
    go false false e f = le-self (pos 67108864)

-- ---- a place below the size is that of a coordinate within
is_within : (c o : ℤ) (n : ℕ) → ltb (offset_in c o n) n ≡ true → within o n c ≡ true
unfolding offset_in choose
is_within c o n h = go (within o n c) refl h
  where
    go : (t : Bool) → within o n c ≡ t → ltb (choose t (nat_abs (c -ℤ o)) n) n ≡ true → within o n c ≡ true
    go true e h = e
    go false e h = let l = ltb-true n n h in absurd (omega arith)

offset-is : (c o : ℤ) (n : ℕ) → within o n c ≡ true → offset_in c o n ≡ nat_abs (c -ℤ o)
unfolding offset_in choose
offset-is c o n e = rw e

-- ---- between two that lie within
pub record Between (o : ℤ) (n : ℕ) (c : ℤ) (low high : ℕ) : Type 0 where
  pub at : ℕ
  pub is : c ≡ o +ℤ pos at
  pub inside : within o n c ≡ true
  pub off : nat_abs (c -ℤ o) ≡ at
  pub above : low ≤ at
  pub under : at ≤ high
  pub small : at < n

module _ (o : ℤ) (n : ℕ) (a b c : ℤ) (ha : within o n a ≡ true) (hb : within o n b ≡ true) (ac : le_z a c ≡ true) (cb : le_z c b ≡ true) where
  lies : within o n c ≡ true
  lies =
      let p = both (le_z o a) (lt_z a (o +ℤ pos n)) ha in
      let q = both (le_z o b) (lt_z b (o +ℤ pos n)) hb in
      and-true (le_z o c) (lt_z c (o +ℤ pos n)) (le_then o a c p.one ac) (le-lt c b (o +ℤ pos n) cb q.two)

  moved : (x y : ℤ) (i j : ℕ) → x -ℤ o ≡ pos i → y -ℤ o ≡ pos j → le_z x y ≡ true → i ≤ j
  moved x y i j e f h = leb-true i j ((λ k. le_z (sym e k) (sym f k)) ∙ le-moved (neg_ℤ o) x y ∙ h)

  pub between : Between o n c (nat_abs (a -ℤ o)) (nat_abs (b -ℤ o))
  between =
      let k = ahead o n c lies in
      let i = ahead o n a ha in
      let j = ahead o n b hb in
      let ei = ap nat_abs i.is in
      let ej = ap nat_abs j.is in
      let l = moved a c i.size k.size i.is k.is ac in
      let m = moved c b k.size j.size k.is j.is cb in
      record {
        at = k.size;
        is = sym (-ℤ-+ℤ_cancel c o) ∙ ap (λ (z : ℤ). z +ℤ o) k.is ∙ +ℤ_comm (pos k.size) o;
        inside = lies;
        off = ap nat_abs k.is;
        above = subst (λ (t : ℕ). t ≤ k.size) (sym ei) l;
        under = subst (λ (t : ℕ). k.size ≤ t) (sym ej) m;
        small = k.small;
      }

-- the same between places
placed : (o : ℤ) (n : ℕ) (a b c : ℤ) → ltb (offset_in a o n) n ≡ true → ltb (offset_in b o n) n ≡ true → le_z a c ≡ true → le_z c b ≡ true → Between o n c (offset_in a o n) (offset_in b o n)
placed o n a b c ha hb ac cb =
    let p = is_within a o n ha in
    let q = is_within b o n hb in
    rw (offset-is a o n p, offset-is b o n q) (between o n a b c p q ac cb)

-- number x of a range's cells on an axis, of which the first and the last lie within
pub in-range : (o : ℤ) (n : ℕ) (first : ℤ) (count x : ℕ) → x < count → ltb (offset_in (on_from first 0) o n) n ≡ true → ltb (offset_in (on_from first (count - 1)) o n) n ≡ true
    → Between o n (on_from first x) (offset_in (on_from first 0) o n) (offset_in (on_from first (count - 1)) o n)
in-range o n first count x h a b = placed o n (on_from first 0) (on_from first (count - 1)) (on_from first x) a b (grows first 0 x (omega arith)) (grows first x (count - 1) (omega arith))

-- one cell
pub alone : (o : ℤ) (n : ℕ) (c : ℤ) → ltb (offset_in c o n) n ≡ true → Between o n c (offset_in c o n) (offset_in c o n)
alone o n c h = placed o n c c c h h (le-self c) (le-self c)

-- ---- further cells of a range lie no higher than so many cells further
le-other : (a b : ℤ) → le_z a b ≡ false → le_z b a ≡ true
le-other (pos a) (pos b) h = let x = leb-false a b h in le-leb b a (omega arith)
le-other (pos a) (negsuc b) h = refl
le-other (negsuc a) (pos b) h = absurd (true≢false h)
le-other (negsuc a) (negsuc b) h = let x = leb-false b a h in le-leb a b (omega arith)

so_far : (a : ℤ) (j k : ℕ) → j ≤ k → a +ℤ pos j +ℤ pos (k - j) ≡ a +ℤ pos k
so_far a j k h = let e : j + (k - j) ≡ k = omega arith in +ℤ_assoc a (pos j) (pos (k - j)) ∙ ap (λ (n : ℕ). a +ℤ pos n) e

no_lower : (a : ℤ) (n : ℕ) → le_z a (a +ℤ pos n) ≡ true
no_lower a n = (λ i. le_z (sym (+ℤ_idr a) i) (a +ℤ pos n)) ∙ further a 0 n (omega arith)

slow : (a : ℤ) (j k : ℕ) → j ≤ k → le_z (on_from a k) (on_from a j +ℤ pos (k - j)) ≡ true
unfolding on_from choose
slow a j k h = go (le_z (a +ℤ pos j) (pos 67108864)) (le_z (a +ℤ pos k) (pos 67108864)) refl refl
  where
    go : (s t : Bool) → le_z (a +ℤ pos j) (pos 67108864) ≡ s → le_z (a +ℤ pos k) (pos 67108864) ≡ t → le_z (choose t (a +ℤ pos k) (pos 67108864)) (choose s (a +ℤ pos j) (pos 67108864) +ℤ pos (k - j)) ≡ true
    go true true e f = (λ i. le_z (a +ℤ pos k) (so_far a j k h i)) ∙ le-self (a +ℤ pos k)
    go true false e f = (λ i. le_z (pos 67108864) (so_far a j k h i)) ∙ le-other (a +ℤ pos k) (pos 67108864) f
    go false true e f = absurd (true≢false (sym (le_then (a +ℤ pos j) (a +ℤ pos k) (pos 67108864) (further a j k h) f) ∙ e))
    go false false e f = no_lower (pos 67108864) (k - j)

inside : (o : ℤ) (n m : ℕ) → m < n → within o n (o +ℤ pos m) ≡ true
inside o n m h =
    and-true (le_z o (o +ℤ pos m)) (lt_z (o +ℤ pos m) (o +ℤ pos n)) (no_lower o m)
    ((λ i. lt_z (+ℤ_comm o (pos m) i) (+ℤ_comm o (pos n) i)) ∙ lt-moved o (pos m) (pos n) ∙ lt-ltb m n h)

-- a cell of a range so many cells on from one that lies within, where so many more do too
pub on-from : (o : ℤ) (n : ℕ) (first : ℤ) (y z : ℕ) → y ≤ z → offset_in (on_from first y) o n + (z - y) < n
    → (offset_in (on_from first y) o n ≤ offset_in (on_from first z) o n) × (offset_in (on_from first z) o n ≤ offset_in (on_from first y) o n + (z - y))
on-from o n first y z h s =
    let a = on_from first y in
    let t = offset_in a o n in
    let ha = is_within a o n (lt-ltb t n (omega arith)) in
    let k = ahead o n a ha in
    let et : t ≡ k.size = offset-is a o n ha ∙ ap nat_abs k.is in
    let ea : a ≡ o +ℤ pos t = sym (-ℤ-+ℤ_cancel a o) ∙ ap (λ (x : ℤ). x +ℤ o) k.is ∙ +ℤ_comm (pos k.size) o ∙ ap (λ (m : ℕ). o +ℤ pos m) (sym et) in
    let eb : a +ℤ pos (z - y) ≡ o +ℤ pos (t + (z - y)) = ap (λ (x : ℤ). x +ℤ pos (z - y)) ea ∙ +ℤ_assoc o (pos t) (pos (z - y)) in
    let b = o +ℤ pos (t + (z - y)) in
    let hb = inside o n (t + (z - y)) s in
    let m = between o n a b (on_from first z) ha hb (grows first y z h) (subst (λ (x : ℤ). le_z (on_from first z) x ≡ true) eb (slow first y z h)) in
    let ez : offset_in (on_from first z) o n ≡ m.at = offset-is (on_from first z) o n m.inside ∙ m.off in
    let low : t ≤ m.at = subst (λ (x : ℕ). x ≤ m.at) (sym (offset-is a o n ha)) m.above in
    let top : nat_abs (b -ℤ o) ≡ t + (z - y) = so-many o (t + (z - y)) in
    let high : m.at ≤ t + (z - y) = subst (λ (x : ℕ). m.at ≤ x) top m.under in
    (subst (λ (x : ℕ). t ≤ x) (sym ez) low, subst (λ (x : ℕ). x ≤ t + (z - y)) (sym ez) high)
  where
    so-many : (o : ℤ) (m : ℕ) → nat_abs (o +ℤ pos m -ℤ o) ≡ m
    so-many o m = ap nat_abs (ap (λ (x : ℤ). x -ℤ o) (+ℤ_comm o (pos m)) ∙ +ℤ-neg_ℤ_cancel (pos m) o)
