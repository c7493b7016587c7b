-- What the call comes to: no log, a body that is short, or the minute itself. Assumes nothing.
use mathlib.Core.Bool.{Bool, true, false}
use mathlib.Core.List.{List}
use mathlib.Core.Path.{◌≡◌, refl, ap, ◌∙◌}
use Prim.Native.Nat.{ℕ}
use lib.Dec.{eqb}
use lib.Ieee.{Float}
use Rattle.base.specs.Choose.{choose}
use Rattle.base.specs.Loop.{stored}
use Rattle.base.specs.Ask.{refused, found}
use Rattle.bodies.specs.declared.MotionNumbers.{MotionNumbers}
use Rattle.bodies.specs.Lent.{motion_at, body_at, rules_at, body_refusal}
use Rattle.window.specs.declared.Window.{Window}
use Rattle.lent.specs.Lent.{lent_refusal}
use Rattle.summary.specs.Calls.{plain_words}
use Rattle.files.proofs.Scenes.{unfit, are}
use Rattle.logs.specs.declared.Log.{Log}
use Rattle.logs.specs.Logs.{is_log, log_of, events_by}
use Rattle.minute_state.specs.Turns.{Minute, minute_of}
use Rattle.minute_state.specs.Minute.{State, lent_by, start, minute, lines_as_numbers}
use Rattle.minute_told.specs.Numbers.{minute_written}
use Rattle.lent_room.proofs.Short.{never-0}
use Rattle.minutes.specs.Calls.{whole_minute, short_at, minute_at}

-- ---- what is no log is refused by 8

pub unread : {A : Type 0} (n : ℕ) (b : Bool) (m : A) → refused n ≡ choose b (found m) (refused 8) → (n ≡ 8) × (refused 8 ≡ choose b (found m) (refused 8))
unfolding choose
unread n true m e = cc
unread n false m e = (cc, refl)

-- ---- a refusal before anything runs

module _ (s : State) (cells : List ℕ) (feet out : List Float) (given : MotionNumbers) (age n : ℕ) (e : s ≡ start given age cells n) (some : eqb n 0 ≡ false) where
  kept : out ≡ minute_written out (minute_of (start given age cells n))
  unfolding minute_written choose
  kept = rw some

  none : feet ≡ stored feet 0 (lines_as_numbers (start given age cells n).lines)
  unfolding stored lines_as_numbers
  none = refl

  pub untouched : (n ≡ s.refusal) × ((cells ≡ s.words) × ((feet ≡ stored feet 0 (lines_as_numbers s.lines)) × (out ≡ minute_written out (minute_of s))))
  untouched = rw e (refl, (refl, (none, kept)))

-- ---- the three ways

module _ (records : List ℕ) (shapes : List Float) (cells : List ℕ) (w : Window) (numbers : List Float) (words : List ℕ) (age : ℕ) (log : List ℕ) (places : ℕ) where
  -- the minute of a body that has its numbers
  abbrev alone : Log → State
  alone l = minute (lent_by records shapes w (rules_at numbers words) (body_at numbers words)) cells (motion_at numbers words) age (events_by log l)

  whole : (l : Log) → found l ≡ choose (is_log log) (found (log_of log)) (refused 8) → whole_minute numbers words places ≡ true
      → alone l ≡ minute_at records shapes cells w numbers words age log places
  unfolding minute_at choose
  whole l e t = let a = are (is_log log) l (log_of log) e in rw (a.test, t, a.same)

  module _ (feet out : List Float) where
    pub no-log : refused 8 ≡ choose (is_log log) (found (log_of log)) (refused 8)
        → (8 ≡ (minute_at records shapes cells w numbers words age log places).refusal) × ((cells ≡ (minute_at records shapes cells w numbers words age log places).words)
        × ((feet ≡ stored feet 0 (lines_as_numbers (minute_at records shapes cells w numbers words age log places).lines))
        × (out ≡ minute_written out (minute_of (minute_at records shapes cells w numbers words age log places)))))
    unfolding minute_at choose
    no-log e =
        let s = minute_at records shapes cells w numbers words age log places in
        untouched s cells feet out (motion_at numbers words) age 8 (rw (unfit (is_log log) (log_of log) e)) refl

    pub short : (l : Log) (r : ℕ) → found l ≡ choose (is_log log) (found (log_of log)) (refused 8) → whole_minute numbers words places ≡ false → r ≡ short_at records shapes cells w numbers words
        → (r ≡ (minute_at records shapes cells w numbers words age log places).refusal) × ((cells ≡ (minute_at records shapes cells w numbers words age log places).words)
        × ((feet ≡ stored feet 0 (lines_as_numbers (minute_at records shapes cells w numbers words age log places).lines))
        × (out ≡ minute_written out (minute_of (minute_at records shapes cells w numbers words age log places)))))
    unfolding minute_at choose
    short l r e t er =
        let s = minute_at records shapes cells w numbers words age log places in
        let a = are (is_log log) l (log_of log) e in
        untouched s cells feet out (motion_at numbers words) age r (rw (a.test, t, er)) (ap (λ (n : ℕ). eqb n 0) er ∙ never-0 (lent_refusal records shapes (plain_words cells w) w) (body_refusal records numbers words))

    pub ran : (l : Log) (m : Minute) (r : ℕ) (cells' : List ℕ) (feet' out' : List Float) → found l ≡ choose (is_log log) (found (log_of log)) (refused 8) → whole_minute numbers words places ≡ true
        → (m ≡ minute_of (alone l)) × ((cells' ≡ (alone l).words) × (feet' ≡ stored feet 0 (lines_as_numbers (alone l).lines))) → (r ≡ m.refusal) × (out' ≡ minute_written out m)
        → (r ≡ (minute_at records shapes cells w numbers words age log places).refusal) × ((cells' ≡ (minute_at records shapes cells w numbers words age log places).words)
        × ((feet' ≡ stored feet 0 (lines_as_numbers (minute_at records shapes cells w numbers words age log places).lines))
        × (out' ≡ minute_written out (minute_of (minute_at records shapes cells w numbers words age log places)))))
    ran l m r cells' feet' out' e t p q =
        rw (← whole l e t) (q.0 ∙ ap (λ (m : Minute). m.refusal) p.0, (p.1.0, (p.1.1, q.1 ∙ ap (minute_written out) p.0)))
