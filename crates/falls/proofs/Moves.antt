-- From a fresh record, after any list of moves: the sum is the drops since the last reset, and landed is what the last landing gave. Assumes
-- nothing.
use mathlib.Core.Bool.{Bool, true, false, not, ◌&&◌, ◌||◌}
use mathlib.Core.List.{List, [], ◌∷◌, ◌++◌}
use mathlib.Core.Logic.{◌⊎◌, inl, inr}
use mathlib.Core.Path.{◌≡◌, refl, sym, ap, ◌∙◌, subst}
use lib.Dec.{T, T_not}
use lib.Ieee.{Float}
use lib.Ieee.Fits.{and_i, and_l, and_r}
use Rattle.base.specs.Choose.{choose}
use Rattle.floats.specs.Numbers.{zero64}
use Rattle.fall_rule.specs.declared.Fall.{Fall}
use Rattle.flow.specs.Liquid.{is_water}
use Rattle.fall_rule.specs.Rule.{went_down, drop_of, deeper, landing, fall_of, fall_by, fresh}
use Rattle.falls.specs.Moves.{Move, move_of, lands, resets, deepened, drops_of, none_of, Last, Since, past, all, Landed, last, never, Fallen, fall_after_move, through}

-- ---- a last move of a kind is there, or there is none: so every list has its moves since the last reset, and one list of them alone

record Same (xs ys : List Move) (m n : Move) (us vs : List Move) : Type 0 where
  earlier : xs ≡ ys
  move : m ≡ n
  later : us ≡ vs

module _ (p : Move → Bool) where
  here : (m : Move) (ms : List Move) (b : Bool) → (T b → T (p m)) → (T (not b) → T (not (p m))) → T (none_of p ms) → Last p (m ∷ ms) ⊎ T (none_of p (m ∷ ms))
  unfolding none_of
  here m ms true f g t = inl record { earlier = []; move = m; later = ms; whole = refl; is = f tt; none = t }
  here m ms false f g t = inr (and_i (not (p m)) (none_of p ms) (g tt) t)

  further : (m : Move) (ms : List Move) → Last p ms ⊎ T (none_of p ms) → Last p (m ∷ ms) ⊎ T (none_of p (m ∷ ms))
  further m ms (inl l) =
      inl
      record {
        earlier = m ∷ l.earlier;
        move = l.move;
        later = l.later;
        whole = ap (λ (k : List Move). m ∷ k) l.whole;
        is = l.is;
        none = l.none;
      }
  further m ms (inr t) = here m ms (p m) (λ h. h) (λ h. h) t

  last-or-none : (moves : List Move) → Last p moves ⊎ T (none_of p moves)
  last-or-none [] = inr (unfold none_of in tt)
  last-or-none (m ∷ ms) = further m ms (last-or-none ms)

  -- and it is one: two splits at the last move of the kind are the same
  has : (xs : List Move) (n : Move) (ys : List Move) → T (p n) → T (none_of p (xs ++ (n ∷ ys))) → ⊥
  unfolding none_of
  has [] n ys h t = T_not (p n) (and_l (not (p n)) (none_of p ys) t) h
  has (x ∷ xs) n ys h t = has xs n ys h (and_r (not (p x)) (none_of p (xs ++ (n ∷ ys))) t)

  heads : (a b : Move) (x y : List Move) → a ∷ x ≡ b ∷ y → a ≡ b
  heads a b x y e = cc

  tails : (a b : Move) (x y : List Move) → a ∷ x ≡ b ∷ y → x ≡ y
  tails a b x y e = cc

  same-split : (xs ys : List Move) (m n : Move) (us vs : List Move) → xs ++ (m ∷ us) ≡ ys ++ (n ∷ vs) → T (p m) → T (p n) → T (none_of p us) → T (none_of p vs)
      → Same xs ys m n us vs
  same-split [] [] m n us vs e h k t u = record { earlier = refl; move = heads m n us vs e; later = tails m n us vs e }
  same-split [] (y ∷ ys) m n us vs e h k t u =
      absurd (has ys n vs k (subst (λ (l : List Move). T (none_of p l)) (tails m y us (ys ++ (n ∷ vs)) e) t))
  same-split (x ∷ xs) [] m n us vs e h k t u =
      absurd (has xs m us h (subst (λ (l : List Move). T (none_of p l)) (sym (tails x n (xs ++ (m ∷ us)) vs e)) u))
  same-split (x ∷ xs) (y ∷ ys) m n us vs e h k t u =
      let rest = same-split xs ys m n us vs (tails x y (xs ++ (m ∷ us)) (ys ++ (n ∷ vs)) e) h k t u in
      let first = heads x y (xs ++ (m ∷ us)) (ys ++ (n ∷ vs)) e in
      record { earlier = rw (first, rest.earlier); move = rest.move; later = rest.later }

  one_last : (moves : List Move) (l k : Last p moves) → Same l.earlier k.earlier l.move k.move l.later k.later
  one_last moves l k =
      same-split l.earlier k.earlier l.move k.move l.later k.later (sym l.whole ∙ k.whole) l.is k.is l.none k.none

  not-both : (moves : List Move) → Last p moves → T (none_of p moves) → ⊥
  not-both moves l t = has l.earlier l.move l.later l.is (subst (λ (k : List Move). T (none_of p k)) l.whole t)

pub since-is : (moves : List Move) → (since : List Move) × Since moves since
since-is moves = elim (last-or-none resets moves) [ inl l ↦ (l.later, past l) | inr t ↦ (moves, all t) ]

pub since-one : (moves a b : List Move) → Since moves a → Since moves b → a ≡ b
since-one moves a b (past l) (past k) = (one_last resets moves l k).later
since-one moves a b (past l) (all t) = absurd (not-both resets moves l t)
since-one moves a b (all t) (past k) = absurd (not-both resets moves k t)
since-one moves a b (all t) (all u) = refl

landed-one : (moves : List Move) (x y : Float) → Landed moves x → Landed moves y → x ≡ y
landed-one moves x y (last l s a) (last k t b) =
    let same = one_last lands moves l k in
    let e : s ≡ t = since-one l.earlier s t a (subst (λ (ms : List Move). Since ms t) (sym same.earlier) b) in
    rw (e, same.move)
landed-one moves x y (last l s a) (never t) = absurd (not-both lands moves l t)
landed-one moves x y (never t) (last l s a) = absurd (not-both lands moves l t)
landed-one moves x y (never t) (never u) = refl

-- what is claimed leaves no second record
pub fallen-one : (moves : List Move) (a b : Fall) → Fallen moves a → Fallen moves b → a ≡ b
fallen-one moves a b f g =
    let e : f.since ≡ g.since = since-one moves f.since g.since f.is g.is in
    let s : a.sum ≡ b.sum = f.sum ∙ ap drops_of e ∙ sym g.sum in
    let l : a.landed ≡ b.landed = landed-one moves a.landed b.landed f.landed g.landed in
    ap (λ (x : Float). fall_of x a.landed) s ∙ ap (fall_of b.sum) l

-- ---- one move

-- the rule's four arms, by its three tests
abbrev arms : Bool → Bool → Bool → Float → Float → Float → Fall
arms w g d deep land kept = choose w (fall_of zero64 kept) (choose g (fall_of zero64 land) (choose d (fall_of deep kept) (fall_of zero64 kept)))

module _ (fall : Fall) (m : Move) where
  reset-sum : T (resets m) → (fall_after_move fall m).sum ≡ zero64
  unfolding fall_by choose
  reset-sum = go (is_water m.liquid) m.on_ground (went_down (move_of m))
    where
      go : (w g d : Bool) → T (w || (g || not d))
          → (arms w g d (deeper fall.sum (drop_of (move_of m))) (landing fall.sum (move_of m)) fall.landed).sum ≡ zero64
      go true g d t = refl
      go false true d t = refl
      go false false true t = absurd t
      go false false false t = refl

  other-sum : T (not (resets m)) → (fall_after_move fall m).sum ≡ deeper fall.sum (drop_of (move_of m))
  unfolding fall_by choose
  other-sum = go (is_water m.liquid) m.on_ground (went_down (move_of m))
    where
      go : (w g d : Bool) → T (not (w || (g || not d)))
          → (arms w g d (deeper fall.sum (drop_of (move_of m))) (landing fall.sum (move_of m)) fall.landed).sum
          ≡ deeper fall.sum (drop_of (move_of m))
      go true g d t = absurd t
      go false true d t = absurd t
      go false false true t = refl
      go false false false t = absurd t

  land-landed : T (lands m) → (fall_after_move fall m).landed ≡ landing fall.sum (move_of m)
  unfolding fall_by choose
  land-landed = go (is_water m.liquid) m.on_ground (went_down (move_of m))
    where
      go : (w g d : Bool) → T (not w && g)
          → (arms w g d (deeper fall.sum (drop_of (move_of m))) (landing fall.sum (move_of m)) fall.landed).landed
          ≡ landing fall.sum (move_of m)
      go true g d t = absurd t
      go false true d t = refl
      go false false d t = absurd t

  other-landed : T (not (lands m)) → (fall_after_move fall m).landed ≡ fall.landed
  unfolding fall_by choose
  other-landed = go (is_water m.liquid) m.on_ground (went_down (move_of m))
    where
      go : (w g d : Bool) → T (not (not w && g))
          → (arms w g d (deeper fall.sum (drop_of (move_of m))) (landing fall.sum (move_of m)) fall.landed).landed ≡ fall.landed
      go true g d t = refl
      go false true d t = absurd t
      go false false true t = refl
      go false false false t = refl

-- ---- lists of moves

through-then : (fall : Fall) (xs ys : List Move) → through fall (xs ++ ys) ≡ through (through fall xs) ys
unfolding through
through-then fall [] ys = refl
through-then fall (x ∷ xs) ys = through-then (fall_after_move fall x) xs ys

-- through the earlier moves, then the last one of a kind, then the later ones
split : (p : Move → Bool) (fall : Fall) (moves : List Move) (l : Last p moves)
    → through fall moves ≡ through (fall_after_move (through fall l.earlier) l.move) l.later
unfolding through
split p fall moves l = ap (through fall) l.whole ∙ through-then fall l.earlier (l.move ∷ l.later)

none-sum : (fall : Fall) (ms : List Move) → T (none_of resets ms) → (through fall ms).sum ≡ deepened fall.sum ms
unfolding through deepened none_of
none-sum fall [] t = refl
none-sum fall (m ∷ ms) t =
    none-sum (fall_after_move fall m) ms (and_r (not (resets m)) (none_of resets ms) t)
    ∙ ap (λ (s : Float). deepened s ms) (other-sum fall m (and_l (not (resets m)) (none_of resets ms) t))

none-landed : (fall : Fall) (ms : List Move) → T (none_of lands ms) → (through fall ms).landed ≡ fall.landed
unfolding through none_of
none-landed fall [] t = refl
none-landed fall (m ∷ ms) t =
    none-landed (fall_after_move fall m) ms (and_r (not (lands m)) (none_of lands ms) t)
    ∙ other-landed fall m (and_l (not (lands m)) (none_of lands ms) t)

-- ---- the theorem, of moves

fallen-sum : (moves since : List Move) → Since moves since → (through fresh moves).sum ≡ drops_of since
fallen-sum moves since (all t) = none-sum fresh moves t
fallen-sum moves since (past l) =
    let before : Fall = through fresh l.earlier in
    ap (λ (f : Fall). f.sum) (split resets fresh moves l)
    ∙ none-sum (fall_after_move before l.move) l.later l.none
    ∙ ap (λ (s : Float). deepened s l.later) (reset-sum before l.move l.is)

landing_is : (moves : List Move) (l : Last lands moves) (since : List Move) → Since l.earlier since
    → (through fresh moves).landed ≡ landing (drops_of since) (move_of l.move)
landing_is moves l since s =
    let before : Fall = through fresh l.earlier in
    ap (λ (f : Fall). f.landed) (split lands fresh moves l)
    ∙ none-landed (fall_after_move before l.move) l.later l.none
    ∙ land-landed before l.move l.is
    ∙ ap (λ (x : Float). landing x (move_of l.move)) (fallen-sum l.earlier since s)

fallen-landed : (moves : List Move) → Last lands moves ⊎ T (none_of lands moves) → Landed moves (through fresh moves).landed
fallen-landed moves (inl l) =
    let s = since-is l.earlier in
    subst (Landed moves) (sym (landing_is moves l s.0 s.1)) (last l s.0 s.1)
fallen-landed moves (inr t) = subst (Landed moves) (sym (none-landed fresh moves t)) (never t)

pub moves-fallen : (moves : List Move) → Fallen moves (through fresh moves)
moves-fallen moves =
    let s = since-is moves in
    record { since = s.0; is = s.1; sum = fallen-sum moves s.0 s.1; landed = fallen-landed moves (last-or-none lands moves) }
