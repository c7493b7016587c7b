-- After any run of sets from a built summary each word equals the one built afresh. Assumes nothing.
use mathlib.Core.Path.{◌≡◌, refl, sym, ap, ◌∙◌, subst}
use mathlib.Core.Bool.{Bool, true, false, ◌&&◌}
use mathlib.Core.List.{List, [], ◌∷◌}
use Prim.Native.Nat.{ℕ, zero, suc, ◌+◌, ◌*◌, ◌/◌, ◌%◌, ◌≤◌, ◌<◌}
use native.Mathlib.Nat.{div-add-mod'}
use native.Mathlib.Decide.{dec_lt}
use native.Mathlib.Omega.{arith}
use lib.Arith.{digits_lt, digits_div, digits_mod}
use lib.Dec.{eqb}
use lib.IntN.{ℤ, pos, nat_abs, ◌+ℤ◌, ◌-ℤ◌, +ℤ_comm, +ℤ-neg_ℤ_cancel}
use lib.ListN.{length, get_or, set, length-set}
use lib.Seq.{get_or-set_same, get_or-set_other}
use borrow.Author.Tests.{eqb-true}
use Rattle.base.specs.Choose.{choose}
use Rattle.base.specs.Every.{every}
use Rattle.base.specs.Loop.{listed, stored}
use Rattle.base.proofs.Every.{both}
use Rattle.window.specs.declared.Pos.{Pos}
use Rattle.window.specs.declared.Sizes.{Sizes}
use Rattle.window.specs.declared.Window.{Window}
use Rattle.window.specs.Window.{column_inside, height_inside, index_of, column_index_of, sizes_fit}
use Rattle.window.specs.Look.{look_at}
use Rattle.window.proofs.Cells.{Inside, is-inside, is-near, index_below, index-unique}
use Rattle.group_words.specs.declared.Group.{Group}
use Rattle.groups.specs.Groups.{groups_on, group_count, group_index, group_at, group_of, cut, cell_at, is_empty, is_empty_line, is_empty_layer, is_empty_group, group_word}
use Rattle.groups.specs.Summary.{summary_of, words_before, has_summary, built, is_inside, set_in, after_set, PlacedSet, after_sets}
use Rattle.groups.proofs.Same.{Alike, itself, behind, look-same, word-alike}

-- ---- words of what was stored
less : {j i : ℕ} → j < i → j ≡ i → ⊥
less h e = omega arith

module _ {A : Type 0} (d : A) where
  stored-long : (l : List A) (i : ℕ) (xs : List A) → length (stored l i xs) ≡ length l
  unfolding stored
  stored-long l i [] = refl
  stored-long l i (x ∷ xs) = stored-long (set l i x) (i + 1) xs ∙ length-set l i x

  stored-before : (l : List A) (i : ℕ) (xs : List A) (j : ℕ) → j < i → get_or (stored l i xs) j d ≡ get_or l j d
  unfolding stored
  stored-before l i [] j h = refl
  stored-before l i (x ∷ xs) j h = stored-before (set l i x) (i + 1) xs j (omega arith) ∙ get_or-set_other l i j x d (less h)

  stored_at : (f : ℕ → A) (n at i : ℕ) (l : List A) (k : ℕ) → at + n ≤ length l → k < n → get_or (stored l at (listed f n i)) (at + k) d ≡ f (i + k)
  unfolding stored listed
  stored_at f zero at i l k h g = absurd (omega arith)
  stored_at f (suc n) at i l zero h g =
      let a : at + 0 ≡ at = omega arith in
      let b : i + 0 ≡ i = omega arith in
      rw (a, b) (stored-before (set l at (f i)) (at + 1) (listed f n (i + 1)) at (omega arith) ∙ get_or-set_same l at (f i) d (omega arith))
  stored_at f (suc n) at i l (suc k) h g =
      let a : at + suc k ≡ at + 1 + k = omega arith in
      let b : i + suc k ≡ i + 1 + k = omega arith in
      let e = length-set l at (f i) in
      rw (a, b) (stored_at f n (at + 1) (i + 1) (set l at (f i)) k (omega arith) (omega arith))

-- ---- the number of a group, and the group of a number
module _ (s : Sizes) where
  pub at-index : (g : Group) → g.x < groups_on s.x → g.z < groups_on s.z → group_at s (group_index s g) ≡ g
  at-index g hx hz =
      let row = digits_div (g.y * groups_on s.z + g.z) hx in
      let x = digits_mod (g.y * groups_on s.z + g.z) hx in
      let y = ap (λ (n : ℕ). n / groups_on s.z) row ∙ digits_div g.y hz in
      let z = ap (λ (n : ℕ). n % groups_on s.z) row ∙ digits_mod g.y hz in
      λ i. record { x = x i; y = y i; z = z i }

  index_at : (i : ℕ) → group_index s (group_at s i) ≡ i
  index_at i =
      ap (λ (n : ℕ). n * groups_on s.x + i % groups_on s.x) (div-add-mod' (i / groups_on s.x) (groups_on s.z))
      ∙ div-add-mod' i (groups_on s.x)

  turned : (x y z : ℕ) → y * z * x ≡ x * y * z
  turned x y z = omega arith

  pub index-under : (g : Group) → g.x < groups_on s.x → g.y < groups_on s.y → g.z < groups_on s.z → group_index s g < group_count s
  index-under g hx hy hz = subst (λ (n : ℕ). group_index s g < n) (turned (groups_on s.x) (groups_on s.y) (groups_on s.z)) (digits_lt (digits_lt hy hz) hx)

-- ---- the group of a cell
pub of_four : (n size : ℕ) → n < size → n / 4 < groups_on size
of_four n size h = omega arith

in_four : (g k size : ℕ) → k < cut size g → k < 4
in_four g k size h = omega arith

far : (o : ℤ) (n : ℕ) → nat_abs (o +ℤ pos n -ℤ o) ≡ n
far o n = ap (λ (t : ℤ). nat_abs (t -ℤ o)) (+ℤ_comm o (pos n)) ∙ ap nat_abs (+ℤ-neg_ℤ_cancel (pos n) o)

fourth : (o : ℤ) (g k size : ℕ) → k < cut size g → nat_abs (o +ℤ pos (g * 4 + k) -ℤ o) / 4 ≡ g
fourth o g k size h = ap (λ (n : ℕ). n / 4) (far o (g * 4 + k)) ∙ digits_div g (in_four g k size h)

its-group : (w : Window) (g : Group) (x y z : ℕ) → x < cut w.sizes.x g.x → y < cut w.sizes.y g.y → z < cut w.sizes.z g.z
    → group_of w (cell_at w (g.x * 4 + x) (g.y * 4 + y) (g.z * 4 + z)) ≡ g
its-group w g x y z hx hy hz =
    let a = fourth w.origin.x g.x x w.sizes.x hx in
    let b = fourth w.origin.y g.y y w.sizes.y hy in
    let c = fourth w.origin.z g.z z w.sizes.z hz in
    λ i. record { x = a i; y = b i; z = c i }

-- ---- a set leaves every other cell, and every other group's word
every-same : (n : ℕ) (f h : ℕ → Bool) → ((k : ℕ) → k < n → f k ≡ h k) → every n f ≡ every n h
unfolding every
every-same zero f h e = refl
every-same (suc n) f h e = let a = every-same n f h (λ k l. e k (omega arith)) in let b = e n (omega arith) in λ i. a i && b i

module _ (records words : List ℕ) (w : Window) (p : Pos) (state : ℕ) (inside : Inside w p) where
  behind-cells : (q : Pos) → column_index_of w q ≡ index_of w p → ⊥
  unfolding column_index_of
  behind-cells q e = let h = index_below w p inside in omega arith

  look-other : (q : Pos) → (q ≡ p → ⊥) → look_at (set words (index_of w p) state) w q ≡ look_at words w q
  look-other q ne =
      look-same w (set words (index_of w p) state) words (length-set words (index_of w p) state) q
      (λ c. get_or-set_other words (index_of w p) (column_index_of w q) state 0 (behind-cells q))
      (λ c h. get_or-set_other words (index_of w p) (index_of w q) state 0 (λ e. ne (index-unique w q p (is-inside w q c h) inside e)))

  word-other : (g : Group) → (g ≡ group_of w p → ⊥) → group_word records (set words (index_of w p) state) w g ≡ group_word records words w g
  unfolding is_empty_group is_empty_layer is_empty_line
  word-other g ne =
      ap (λ (t : Bool). choose t 0 1)
      (every-same (cut w.sizes.y g.y) _ _ (λ y hy.
      every-same (cut w.sizes.z g.z) _ _ (λ z hz.
      every-same (cut w.sizes.x g.x) _ _ (λ x hx.
      ap (is_empty records) (look-other _ (λ e. ne (sym (its-group w g x y z hx hy hz) ∙ ap (group_of w) e)))))))

-- ---- each word equals the one built afresh
abbrev pub Fresh : List ℕ → List ℕ → Window → Type 0
Fresh records words w = (i : ℕ) → i < group_count w.sizes → get_or words (words_before w.sizes + i) 0 ≡ group_word records words w (group_at w.sizes i)

-- there is a summary's place
pub record Has (words : List ℕ) (w : Window) : Type 0 where
  pub sizes : sizes_fit w.sizes ≡ true
  pub long : length words ≡ words_before w.sizes + group_count w.sizes

pub has : (words : List ℕ) (w : Window) → has_summary words w ≡ true → Has words w
unfolding has_summary
has words w e =
    let n = words_before w.sizes + group_count w.sizes in
    let b = both (sizes_fit w.sizes) (eqb (length words) n) e in
    record { sizes = b.one; long = eqb-true (length words) n b.two }

pub sizes_there : (words : List ℕ) (w : Window) (t : Bool) → t ≡ has_summary words w → t ≡ true → sizes_fit w.sizes ≡ true
sizes_there words w t e h = (has words w (sym e ∙ h)).sizes

there-by : (a b : List ℕ) (w : Window) → length a ≡ length b → has_summary b w ≡ true → has_summary a w ≡ true
unfolding has_summary
there-by a b w e t = ap (λ (n : ℕ). sizes_fit w.sizes && eqb n (words_before w.sizes + group_count w.sizes)) e ∙ t

-- of the summary that was built
module _ (records words : List ℕ) (w : Window) (there : has_summary words w ≡ true) where
  abbrev now : List ℕ
  now = stored words (words_before w.sizes) (summary_of records words w)

  built_alike : Alike w.sizes now words
  built_alike = record {
    long = stored-long 0 words (words_before w.sizes) (summary_of records words w);
    words = λ i h. stored-before 0 words (words_before w.sizes) (summary_of records words w) i h;
  }

  stored-fresh : Fresh records now w
  unfolding summary_of
  stored-fresh i h =
      let l = (has words w there).long in
      let z : 0 + i ≡ i = omega arith in
      stored_at 0 (λ j. group_word records words w (group_at w.sizes j)) (group_count w.sizes) (words_before w.sizes) 0 words i (omega arith) h
      ∙ ap (λ (j : ℕ). group_word records words w (group_at w.sizes j)) z
      ∙ sym (word-alike w now words built_alike records (group_at w.sizes i))

  pub built-fresh : Fresh records (built records words w) w
  unfolding built choose
  built-fresh = rw there stored-fresh

  pub built-there : has_summary (built records words w) w ≡ true
  unfolding built choose
  built-there = rw there (there-by now words w built_alike.long there)

-- of one that a set mends
module _ (records words : List ℕ) (w : Window) (p : Pos) (state : ℕ) (there : has_summary words w ≡ true) (inside : Inside w p) (known : Fresh records words w) where
  abbrev s : Sizes
  s = w.sizes

  abbrev g : Group
  g = group_of w p

  abbrev cells : List ℕ
  cells = set words (index_of w p) state

  abbrev at : ℕ
  at = words_before s + group_index s g

  gx : g.x < groups_on s.x
  gx = of_four _ _ (is-near inside).x

  gy : g.y < groups_on s.y
  gy = of_four _ _ (is-near inside).y

  gz : g.z < groups_on s.z
  gz = of_four _ _ (is-near inside).z

  long : length (set_in records words w p state) ≡ length words
  long = length-set cells at (group_word records cells w g) ∙ length-set words (index_of w p) state

  mended-alike : Alike s (set_in records words w p state) cells
  mended-alike = behind s cells cells at (group_word records cells w g) (omega arith) (itself s cells)

  at_there : at < length cells
  at_there = let l = (has words w there).long in let m = length-set words (index_of w p) state in let h = index-under s g gx gy gz in omega arith

  before-there : (j : ℕ) → words_before s + j ≡ index_of w p → ⊥
  before-there j e = let h = index_below w p inside in omega arith

  other : (j : ℕ) → j < group_count s → (j ≡ group_index s g → ⊥) → get_or (set_in records words w p state) (words_before s + j) 0 ≡ group_word records (set_in records words w p state) w (group_at s j)
  other j h ne =
      get_or-set_other cells at (words_before s + j) (group_word records cells w g) 0 (λ e. ne (omega arith))
      ∙ get_or-set_other words (index_of w p) (words_before s + j) state 0 (before-there j)
      ∙ known j h
      ∙ sym (word-other records words w p state inside (group_at s j) (λ e. ne (sym (index_at s j) ∙ ap (group_index s) e)))
      ∙ sym (word-alike w (set_in records words w p state) cells mended-alike records (group_at s j))

  own : get_or (set_in records words w p state) (words_before s + group_index s g) 0 ≡ group_word records (set_in records words w p state) w (group_at s (group_index s g))
  own =
      get_or-set_same cells at (group_word records cells w g) 0 at_there
      ∙ ap (group_word records cells w) (sym (at-index s g gx gz))
      ∙ sym (word-alike w (set_in records words w p state) cells mended-alike records (group_at s (group_index s g)))

  set-fresh : Fresh records (set_in records words w p state) w
  set-fresh j h = go (dec_lt j (group_index s g)) (dec_lt (group_index s g) j)
    where
      go : Dec (j < group_index s g) → Dec (group_index s g < j) → get_or (set_in records words w p state) (words_before s + j) 0 ≡ group_word records (set_in records words w p state) w (group_at s j)
      go (yes l) m = other j h (λ e. omega arith)
      go (no l) (yes m) = other j h (λ e. omega arith)
      go (no l) (no m) =
          let e : group_index s g ≡ j = omega arith in
          subst (λ (i : ℕ). get_or (set_in records words w p state) (words_before s + i) 0 ≡ group_word records (set_in records words w p state) w (group_at s i)) e own

-- ---- any run of sets
pub record Kept (records words : List ℕ) (w : Window) : Type 0 where
  pub there : has_summary words w ≡ true
  pub fresh : Fresh records words w

one_set : (records words : List ℕ) (w : Window) (p : Pos) (state : ℕ) → Kept records words w → Kept records (after_set records words w p state) w
unfolding after_set choose
one_set records words w p state k = go (is_inside w p) refl
  where
    go : (t : Bool) → is_inside w p ≡ t → Kept records (after_set records words w p state) w
    go true e =
        let b = both (column_inside w p) (height_inside w p) e in
        let i = is-inside w p b.one b.two in
        rw (k.there, e) record {
          there = there-by (set_in records words w p state) words w (long records words w p state k.there i k.fresh) k.there;
          fresh = set-fresh records words w p state k.there i k.fresh;
        }
    go false e = rw (k.there, e) k

pub many-sets : (records words : List ℕ) (w : Window) (sets : List PlacedSet) → Kept records words w → Kept records (after_sets records words w sets) w
unfolding after_sets
many-sets records words w [] k = k
many-sets records words w (q ∷ qs) k = many-sets records (after_set records words w q.at q.state) w qs (one_set records words w q.at q.state k)

-- from a built summary on
pub after-sets : (records words : List ℕ) (w : Window) (sets : List PlacedSet) → has_summary words w ≡ true → Fresh records (after_sets records (built records words w) w sets) w
after-sets records words w sets t = (many-sets records (built records words w) w sets record { there = built-there records words w t; fresh = built-fresh records words w t }).fresh
