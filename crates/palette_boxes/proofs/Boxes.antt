-- Laws of a state's parts and boxes: how long they are, what they hold, and where they stand among all. Assumes nothing.
use Rattle.std.proofs.Common.{◌≡◌, ℕ, zero, suc, ◌+◌, ◌-◌, ◌*◌, ◌<◌, ◌≤◌, Bool, true, false, eqb, List, [], ◌∷◌, ◌++◌, map, length, get_or, drop, set, sym, refl, ap, ◌∙◌, add-one, arith, length-append}
use lib.ListN.{length-map, get_or-map}
use lib.Ieee.{Float}
use Rattle.base.specs.Choose.{choose}
use Rattle.base.specs.Loop.{listed, stored, appended}
use Rattle.base.proofs.Fill.{text-turn, text-end}
use Rattle.floats.specs.Numbers.{zero64}
use Rattle.tables.specs.Tables.{float_at}
use Rattle.tables.proofs.Lists.{get_d_any}
use Rattle.palette_states.specs.States.{kind}
use Rattle.palette_boxes.specs.Shapes.{box_of_part, sixteenths, has_part, part_numbers, boxes_of_state, one, box_count_of, first_box, by_kind}
use Rattle.base.proofs.Appended.{appended-last}

-- ---- a number by kind is at most what each of the three is
at_most : (t : Bool) (a b n : ℕ) → a ≤ n → b ≤ n → choose t a b ≤ n
unfolding choose
at_most true a b n p q = p
at_most false a b n p q = q

pub by-kind-most : (k pane wall fence n : ℕ) → pane ≤ n → wall ≤ n → fence ≤ n → by_kind k pane wall fence ≤ n
unfolding by_kind
by-kind-most k pane wall fence n p q r = at_most (eqb k 3) _ _ n p (at_most (eqb k 4) _ _ n q r)

-- ---- a box has six numbers
chosen : (t : Bool) (a b : List ℕ) (n : ℕ) → length a ≡ n → length b ≡ n → length (choose t a b) ≡ n
unfolding choose
chosen true a b n p q = p
chosen false a b n p q = q

pub box-six : (k part : ℕ) → length (box_of_part k part) ≡ 6
unfolding box_of_part
box-six k part = chosen (eqb part 0) _ _ 6 refl (chosen (eqb part 1) _ _ 6 refl (chosen (eqb part 2) _ _ 6 refl (chosen (eqb part 3) _ _ 6 refl refl)))

numbers-six : (k part : ℕ) → length (map sixteenths (box_of_part k part)) ≡ 6
numbers-six k part = length-map (box_of_part k part) sixteenths ∙ box-six k part

-- ---- a part that is there, and one that is not
pub part-is : (s part : ℕ) → has_part s part ≡ true → part_numbers s part ≡ map sixteenths (box_of_part (kind s) part)
unfolding part_numbers choose
part-is s part h = rw h

pub part_none : (s part : ℕ) → has_part s part ≡ false → part_numbers s part ≡ []
unfolding part_numbers choose
part_none s part h = rw h

pub part-six : (s part : ℕ) → has_part s part ≡ true → length (part_numbers s part) ≡ 6
part-six s part h = ap length (part-is s part h) ∙ numbers-six (kind s) part

pub part_length : (s part : ℕ) → length (part_numbers s part) ≡ one s part * 6
unfolding one choose
part_length s part = go (has_part s part) refl
  where
    go : (b : Bool) → has_part s part ≡ b → length (part_numbers s part) ≡ choose b 1 0 * 6
    go true h = part-six s part h
    go false h = ap length (part_none s part h)

one-most : (s part : ℕ) → one s part ≤ 1
unfolding one choose
one-most s part = go (has_part s part)
  where
    go : (b : Bool) → choose {A = ℕ} b 1 0 ≤ 1
    go true = omega arith
    go false = omega arith

pub part-short : (s part : ℕ) → length (part_numbers s part) ≤ 6
part-short s part = omega (arith, part_length s part, one-most s part)

-- number c of a part that is there
pub part_at : (s part c : ℕ) (b : List ℕ) → b ≡ box_of_part (kind s) part → has_part s part ≡ true → c < 6 → sixteenths (get_or b c 0) ≡ float_at (part_numbers s part) c
part_at s part c b e h g =
    let l : c < length (map sixteenths (box_of_part (kind s) part)) = rw (numbers-six (kind s) part) g in
    rw (e, part-is s part h) (sym (get_or-map sixteenths (box_of_part (kind s) part) c 0) ∙ get_d_any (map sixteenths (box_of_part (kind s) part)) c (sixteenths 0) zero64 l)

-- ---- the boxes of a state, and of all
pub boxes-length : (s : ℕ) → length (boxes_of_state s) ≡ box_count_of s * 6
unfolding boxes_of_state appended box_count_of
boxes-length s =
    let a : List Float = part_numbers s 0 in
    let b : List Float = part_numbers s 1 in
    let c : List Float = part_numbers s 2 in
    let d : List Float = part_numbers s 3 in
    let e : List Float = part_numbers s 4 in
    omega (
      arith,
      part_length s 0,
      part_length s 1,
      part_length s 2,
      part_length s 3,
      part_length s 4,
      length-append a (b ++ (c ++ (d ++ (e ++ [])))),
      length-append b (c ++ (d ++ (e ++ []))),
      length-append c (d ++ (e ++ [])),
      length-append d (e ++ []),
      length-append e [],
    )

pub count_most : (s : ℕ) → box_count_of s ≤ 5
unfolding box_count_of
count_most s = omega (arith, one-most s 0, one-most s 1, one-most s 2, one-most s 3, one-most s 4)

pub boxes-short : (s : ℕ) → length (boxes_of_state s) ≤ 30
boxes-short s = omega (arith, boxes-length s, count_most s)

pub first_next : (s : ℕ) → first_box (s + 1) ≡ first_box s + box_count_of s
unfolding first_box
first_next s = ap first_box (add-one s)

pub first-length : (n : ℕ) → length (appended boxes_of_state n 0) ≡ first_box n * 6
unfolding appended first_box
first-length zero = refl
first-length (suc n) =
    let e : length (appended boxes_of_state (suc n) 0) ≡ length (appended boxes_of_state n 0 ++ boxes_of_state n) = ap length (appended-last boxes_of_state n) in
    omega (arith, e, length-append (appended boxes_of_state n 0) (boxes_of_state n), first-length n, boxes-length n)

-- ---- loops that store
-- the numbers of a box, from `at` on
module _ (b : List ℕ) (at c : ℕ) (l w : List Float) (six : length b ≡ 6) where
  pub box-turn : (l' : List Float) (x : Float) → c < 6 → x ≡ sixteenths (get_or b c 0) → l' ≡ set l (at + c) x → stored l (at + c) (drop c (map sixteenths b)) ≡ w → stored l' (at + (c + 1)) (drop (c + 1) (map sixteenths b)) ≡ w
  box-turn l' x h e p inv =
      let g : c < length (map sixteenths b) = rw (length-map b sixteenths, six) h in
      rw (p, e, ← get_or-map sixteenths b c 0) (text-turn (sixteenths 0) (map sixteenths b) at c l w g inv)

  pub box-end : 6 ≤ c → stored l (at + c) (drop c (map sixteenths b)) ≡ w → l ≡ w
  box-end h inv = let g : length (map sixteenths b) ≤ c = rw (length-map b sixteenths, six) h in text-end (sixteenths 0) (map sixteenths b) at c l w g inv

-- the numbers f 0, f 1 and so on from 0 on
module _ {A : Type 0} (f : ℕ → A) (n i : ℕ) (l w : List A) where
  pub list-turn : (l' : List A) (a : A) → a ≡ f i → l' ≡ set l i a → i < n → stored l i (listed f (n - i) i) ≡ w → stored l' (i + 1) (listed f (n - (i + 1)) (i + 1)) ≡ w
  unfolding stored listed
  list-turn l' a e p h inv =
      let q : n - i ≡ suc (n - (i + 1)) = omega arith in
      let all : stored l i (f i ∷ listed f (n - (i + 1)) (i + 1)) ≡ w = rw q at inv in
      rw (p, e) all

  pub list-end : n ≤ i → stored l i (listed f (n - i) i) ≡ w → l ≡ w
  unfolding stored listed
  list-end h inv = let q : n - i ≡ 0 = omega arith in rw q at inv
