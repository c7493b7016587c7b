-- What a minute can be refused by: 1 to 8, so that a refusal is written whole. Assumes nothing.
use mathlib.Core.Bool.{Bool, true, false, not}
use mathlib.Core.List.{List, [], ◌∷◌}
use mathlib.Core.Logic.{◌⊎◌, inl, inr}
use mathlib.Core.Path.{◌≡◌, refl, sym, subst}
use Prim.Native.Nat.{ℕ, ◌%◌, ◌≤◌}
use native.Mathlib.Omega.{arith}
use lib.Dec.{T, eqb}
use lib.Ieee.{Float}
use Rattle.base.specs.Choose.{choose}
use Rattle.base.specs.Ask.{refused}
use Rattle.bodies.specs.declared.BodyNumbers.{BodyNumbers}
use Rattle.bodies.specs.declared.Rules.{Rules}
use Rattle.bodies.specs.declared.MotionNumbers.{MotionNumbers}
use Rattle.bodies.specs.Lent.{motion_at}
use Rattle.bodies.specs.Limits.{numbers_are_fit, motion_fits, number_refusal}
use Rattle.window.specs.declared.Window.{Window}
use Rattle.window.specs.Window.{window_fits, window_refusal}
use Rattle.table_check.specs.Check.{tables_fit}
use Rattle.lent.specs.Lent.{unless, lent_refusal}
use Rattle.step.specs.Answers.{step_answer}
use Rattle.step.proofs.Refuses.{Named, step-refusal}
use Rattle.fall_rule.specs.declared.Fall.{Fall}
use Rattle.step_answers.specs.Records.{FallingAnswer}
use Rattle.fall_rule.specs.Rule.{fall_fits}
use Rattle.falls.specs.Answers.{with_fall, falling_entry}
use Rattle.falls.proofs.Laws.{beside, unfit}
use Rattle.files.specs.Contents.{Contents, contents_in}
use Rattle.groups.specs.Summary.{is_inside}
use Rattle.logs.specs.declared.CellSet.{CellSet}
use Rattle.logs.specs.declared.Event.{Event}
use Rattle.logs.specs.declared.Event.TheVariants as event
use Rattle.logs.specs.Logs.{is_log, scene_in, events_of}
use Rattle.minute_state.specs.Minute.{MinuteLent, minute_window, State, after_step, ended, ticked, set_place, start}
use Rattle.minute.specs.Separate.{separate_step, set_alone, event_alone, separately}
use Rattle.logged.specs.Logged.{logged_refusal, minute_alone, lent_of, minute_over, malformed_log, minute_in}

-- ---- of a step with a fall record

lent-most : (records : List ℕ) (shapes : List Float) (cells : List ℕ) (w : Window) → lent_refusal records shapes cells w ≤ 8
unfolding lent_refusal window_refusal choose
lent-most records shapes cells w = go (tables_fit records shapes) (window_fits cells w)
  where
    go : (a b : Bool) → choose (eqb (choose a 0 1) 0) (choose b 0 2) (choose a 0 1) ≤ 8
    go true true = omega arith
    go true false = omega arith
    go false b = omega arith

numbers-most : (records : List ℕ) (rules : Rules) (body : BodyNumbers) (given : MotionNumbers) → number_refusal records rules body given ≤ 8
unfolding number_refusal choose
numbers-most records rules body given = go (numbers_are_fit records rules body given.on_ground) (motion_fits given.feet given.velocity)
  where
    go : (a b : Bool) → choose a (choose b 0 4) 3 ≤ 8
    go true true = omega arith
    go true false = omega arith
    go false b = omega arith

unless-most : (given : MotionNumbers) (b : Bool) (n : ℕ) → n ≤ 8 → (step_answer given (unless b n (refused 3))).refusal ≤ 8
unfolding choose
unless-most given true n h = h
unless-most given false n h = omega arith

within : (n : ℕ) → (n ≡ 0) ⊎ Named n → n ≤ 8
within n (inl e) = omega arith
within n (inr k) = omega arith

module _ (records : List ℕ) (shapes : List Float) (cells : List ℕ) (w : Window) (rules : Rules) (body : BodyNumbers) (given : MotionNumbers) (age : ℕ) (fall : Fall) where
  entry-most : (falling_entry records shapes cells w rules body given age fall).step.refusal ≤ 8
  unfolding with_fall
  entry-most = go (fall_fits fall) refl
    where
      go : (b : Bool) → fall_fits fall ≡ b → (falling_entry records shapes cells w rules body given age fall).step.refusal ≤ 8
      go true e = rw (beside records shapes cells w rules body given age fall (subst T (sym e) tt)) (within _ (step-refusal records shapes cells w rules body given age))
      go false e =
          rw (unfit records shapes cells w rules body given age fall (subst (λ (b : Bool). T (not b)) (sym e) tt))
          (unless-most given (not (eqb (lent_refusal records shapes cells w) 0)) (lent_refusal records shapes cells w) (lent-most records shapes cells w))

-- ---- of each event, and so of all

ticked-most : (s : State) (a : FallingAnswer) → a.step.refusal ≤ 8 → (ticked s a).refusal ≤ 8
unfolding ticked choose
ticked-most s a h = go (eqb a.step.refusal 0)
  where
    go : (b : Bool) → (choose b (after_step s a) (ended s a.step.refusal)).refusal ≤ 8
    go true = omega arith
    go false = h

set-most : (l : MinuteLent) (s : State) (q : CellSet) → (set_alone l s q).refusal ≤ 8
unfolding set_alone choose
set-most l s q = go (is_inside (minute_window l) (set_place l q)) refl
  where
    go : (b : Bool) → is_inside (minute_window l) (set_place l q) ≡ b → (set_alone l s q).refusal ≤ 8
    go true e = rw e (omega arith)
    go false e = rw e (omega arith)

event-most : (l : MinuteLent) (s : State) (e : Event) → (event_alone l s e).refusal ≤ 8
event-most l s event.Tick = ticked-most s (separate_step l s) (entry-most _ _ _ _ _ _ _ _ _)
event-most l s (event.Set q) = set-most l s q

separately-most : (l : MinuteLent) (es : List Event) (s : State) → s.refusal ≤ 8 → (separately l s es).refusal ≤ 8
unfolding separately choose
separately-most l [] s h = h
separately-most l (e ∷ es) s h = go (eqb s.refusal 0) (separately-most l es (event_alone l s e) (event-most l s e))
  where
    go : (b : Bool) → (separately l (event_alone l s e) es).refusal ≤ 8 → (choose b (separately l (event_alone l s e) es) s).refusal ≤ 8
    go true k = k
    go false k = h

-- ---- of the scene, and of the file

scene-most : (l : MinuteLent) (cells : List ℕ) (given : MotionNumbers) → logged_refusal l cells given ≤ 8
unfolding logged_refusal choose
scene-most l cells given =
    go (eqb (lent_refusal l.records l.shapes cells (minute_window l)) 0) (lent-most l.records l.shapes cells (minute_window l)) (numbers-most l.records l.rules l.body given)
  where
    go : {n m : ℕ} (b : Bool) → n ≤ 8 → m ≤ 8 → choose b m n ≤ 8
    go true h k = k
    go false h k = h

alone-most : (l : MinuteLent) (cells : List ℕ) (given : MotionNumbers) (age : ℕ) (events : List Event) → (minute_alone l cells given age events).refusal ≤ 8
unfolding minute_alone choose
alone-most l cells given age events = go (eqb (logged_refusal l cells given) 0) (separately-most l events (start given age cells 0) (omega arith))
  where
    go : (b : Bool) → (separately l (start given age cells 0) events).refusal ≤ 8
        → (choose b (separately l (start given age cells 0) events) (start given age cells (logged_refusal l cells given))).refusal ≤ 8
    go true h = h
    go false h = scene-most l cells given

over-most : (c : Contents) (events : List Event) → (minute_over c events).refusal ≤ 8
unfolding minute_over
over-most c events = alone-most (lent_of c) c.cells (motion_at c.numbers c.words) c.age events

pub minute-within : (file : List ℕ) → (minute_in file).refusal ≤ 8
unfolding minute_in choose
minute-within file = go (is_log file)
  where
    go : (b : Bool) → (choose b (minute_over (contents_in (scene_in file)) (events_of file)) malformed_log).refusal ≤ 8
    go true = over-most (contents_in (scene_in file)) (events_of file)
    go false = omega arith

-- the digit that is written is the number
pub one-digit : (file : List ℕ) → (minute_in file).refusal % 10 ≡ (minute_in file).refusal
one-digit file = let h = minute-within file in omega arith
