-- A mover in lent numbers: with its length and room it is the move's entry, and else it is refused before any cell is asked for. Assumes nothing.
use mathlib.Core.Path.{◌≡◌, refl, ap, ◌∙◌}
use mathlib.Core.Bool.{Bool, true, false, not, ◌&&◌}
use mathlib.Core.List.{List}
use Prim.Native.Nat.{ℕ}
use lib.Dec.{eqb, leb, ltb}
use lib.ListN.{length}
use lib.Ieee.{Float}
use Rattle.base.specs.Choose.{choose}
use Rattle.base.specs.Ask.{Ask, refused}
use Rattle.std.specs.Prelude.{Result, Ok, Err}
use Rattle.base.specs.declared.Refusal.{Refusal}
use Rattle.base.specs.Refusals.{asked, verdict}
use Rattle.boxes.specs.declared.Aabb.{Aabb}
use Rattle.base.proofs.Every.{both}
use Rattle.sweeps.specs.declared.MoveResult.{MoveResult}
use Rattle.sweeps.specs.Entry.{MoveAnswer}
use Rattle.sweeps.specs.Lists.{is_cap}
use Rattle.boxes.specs.Limits.{is_box, is_delta, is_step}
use Rattle.lent.specs.Lent.{direct_refusal, direct, unless}
use Rattle.movers.specs.Movers.{vec_at, aabb_at, mover_fits, mover_refusal, whole_move}
use Rattle.lent_numbers.specs.Written.{written_by}
use Rattle.window.specs.declared.Window.{Window}
use Rattle.summary.specs.Calls.{plain_words, summed}
use Rattle.moves.specs.Answers.{move_answer, move_entry, move_summed}
use Rattle.lent_room.specs.Room.{short_of}
use Rattle.lent_calls.specs.Moves.{moved_by, moving_at, move_at, move_summed_at}
use Rattle.lent_room.proofs.Short.{no_room, no-early, never-0}

-- a move's answer has the number of its refusal
pub told : (b : Aabb) (r : Result MoveResult Refusal) → (move_answer b (asked r)).refusal ≡ verdict r
told b (Ok m) = refl
told b (Err e) = refl

-- 3, then 4, one by one
tests : {A : Type 0} (s f : Bool) (ask : Ask A) → choose (not s) (refused 3) (choose (not f) (refused 4) ask)
    ≡ choose (not (eqb (choose s (choose f 0 4) 3) 0)) (refused (choose s (choose f 0 4) 3)) ask
unfolding choose
tests false f ask = refl
tests true true ask = refl
tests true false ask = refl

module _ (cap : ℕ) (mover : List Float) (step : Float) (grounded : ℕ) where
  abbrev early : ℕ
  early = mover_refusal cap mover step grounded true

  -- an entry that asks for this, over these words
  module _ (records : List ℕ) (shapes : List Float) (cells : List ℕ) (w : Window) (asked : Ask MoveResult) where
    unfoldable entry : MoveAnswer
    entry = move_answer (aabb_at mover 0) (direct records shapes cells w (unless (not (is_cap cap && is_step step)) 3 (unless (not (is_box (aabb_at mover 0) && is_delta (vec_at mover 6))) 4 asked)))

    entry_whole : (places : ℕ) → whole_move mover grounded places ≡ true → entry ≡ moved_by cap (direct_refusal records shapes cells w) asked mover step grounded places
    unfolding entry moved_by mover_refusal choose
    entry_whole places whole =
        let g = both (ltb grounded 2) (eqb (length mover) 9 && leb 10 places) whole in
        let n = both (eqb (length mover) 9) (leb 10 places) g.two in
        rw (g.one, n.one, n.two)
        (ap (λ (ask : Ask MoveResult). move_answer (aabb_at mover 0) (direct records shapes cells w ask))
        (tests (is_cap cap && is_step step) (is_box (aabb_at mover 0) && is_delta (vec_at mover 6)) asked))

  module _ (records : List ℕ) (shapes : List Float) (cells : List ℕ) (w : Window) (places : ℕ) (whole : whole_move mover grounded places ≡ true) where
    pub move-whole : move_entry cap records shapes cells w (aabb_at mover 0) (vec_at mover 6) step (eqb grounded 1) ≡ move_at cap records shapes cells w mover step grounded places
    unfolding move_at move_entry entry
    move-whole = entry_whole records shapes cells w (moving_at cap records shapes cells w mover step grounded) places whole

    pub summed-whole : move_summed cap records shapes cells w (aabb_at mover 0) (vec_at mover 6) step (eqb grounded 1) ≡ move_summed_at cap records shapes cells w mover step grounded places
    unfolding move_summed_at move_summed entry
    summed-whole = entry_whole records shapes (plain_words cells w) w (summed records cells w (moving_at cap records shapes (plain_words cells w) w mover step grounded)) places whole

  three : ltb grounded 2 ≡ false → eqb early 0 ≡ false
  unfolding mover_refusal choose
  three e = rw e (never (is_cap cap)) where
    never : (s : Bool) → eqb (choose (s && false) (choose (mover_fits mover true) 0 4) 3) 0 ≡ false
    never true = refl
    never false = refl

  four : eqb (length mover) 9 ≡ false → eqb early 0 ≡ false
  unfolding mover_refusal choose
  four e = rw e (either (is_cap cap && (ltb grounded 2 && is_step step))) where
    either : (s : Bool) → eqb (choose s 4 3) 0 ≡ false
    either true = refl
    either false = refl

  module _ (first : ℕ) (asked : Ask MoveResult) where
    cases : (places : ℕ) (a b : Bool) → ltb grounded 2 ≡ a → eqb (length mover) 9 ≡ b → a && (b && leb 10 places) ≡ false
        → moved_by cap first asked mover step grounded places ≡ move_answer (aabb_at mover 0) (refused (short_of first early))
    unfolding moved_by
    cases places true true ea eb n = rw n (ap (move_answer (aabb_at mover 0)) (no_room first early asked))
    cases places true false ea eb n = ap (move_answer (aabb_at mover 0)) (no-early first early asked (leb 10 places) (four eb))
    cases places false b ea eb n = ap (move_answer (aabb_at mover 0)) (no-early first early asked (leb 10 places) (three ea))

    -- nothing is written then
    pub short-move : (out : List Float) (r : ℕ) → whole_move mover grounded (length out) ≡ false → r ≡ short_of first early
        → (r ≡ (moved_by cap first asked mover step grounded (length out)).refusal)
        × (out ≡ written_by out (moved_by cap first asked mover step grounded (length out)))
    unfolding written_by choose
    short-move out r h e = rw (cases (length out) (ltb grounded 2) (eqb (length mover) 9) refl refl h, never-0 first early) (e, refl)
