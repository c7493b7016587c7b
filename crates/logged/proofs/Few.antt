-- How many lines a minute has: no more than its log has events, and so 3,840 at most. Assumes nothing.
use mathlib.Core.Bool.{Bool, true, false, ◌&&◌}
use mathlib.Core.List.{List, [], ◌∷◌}
use mathlib.Core.Path.{◌≡◌, refl, ap}
use Prim.Native.Nat.{ℕ, zero, suc, ◌+◌, ◌-◌, ◌*◌, ◌%◌, ◌≤◌}
use native.Mathlib.Omega.{arith}
use lib.Dec.{eqb, leb}
use lib.Ieee.{Float}
use lib.ListN.{length, length-append}
use borrow.Author.Tests.{leb-true}
use Rattle.base.specs.Choose.{choose}
use Rattle.base.proofs.Every.{both}
use Rattle.base.proofs.Listed.{listed-length}
use Rattle.bodies.specs.declared.MotionNumbers.{MotionNumbers}
use Rattle.step_answers.specs.Records.{FallingAnswer}
use Rattle.files.specs.Files.{is_scene}
use Rattle.files.specs.Contents.{Contents, contents_in}
use Rattle.groups.specs.Summary.{is_inside}
use Rattle.logs.specs.declared.CellSet.{CellSet}
use Rattle.logs.specs.declared.Event.{Event}
use Rattle.logs.specs.declared.Event.TheVariants as event
use Rattle.logs.specs.Logs.{end_from, event_at, log_word, log_of, log_fits, blocks_in, whole_log, is_log, scene_in, events_by, events_of}
use Rattle.minute_state.specs.Minute.{MinuteLent, minute_window, State, after_step, ended, ticked, set_place, start}
use Rattle.minute.specs.Separate.{separate_step, set_alone, event_alone, separately}
use Rattle.logged.specs.Logged.{logged_refusal, minute_alone, minute_over, malformed_log, minute_in}

-- ---- one line at most for each event

ticked-one : (s : State) (a : FallingAnswer) → length (ticked s a).lines ≤ length s.lines + 1
unfolding ticked choose
ticked-one s a = go (eqb a.step.refusal 0)
  where
    go : (b : Bool) → length (choose b (after_step s a) (ended s a.step.refusal)).lines ≤ length s.lines + 1
    go true = let p = length-append s.lines (a.step.motion.feet ∷ []) in omega arith
    go false = omega arith

set-none : (l : MinuteLent) (s : State) (q : CellSet) → (set_alone l s q).lines ≡ s.lines
unfolding set_alone choose
set-none l s q = go (is_inside (minute_window l) (set_place l q)) refl
  where
    go : (b : Bool) → is_inside (minute_window l) (set_place l q) ≡ b → (set_alone l s q).lines ≡ s.lines
    go true e = rw e
    go false e = rw e

event-one : (l : MinuteLent) (s : State) (e : Event) → length (event_alone l s e).lines ≤ length s.lines + 1
event-one l s event.Tick = ticked-one s (separate_step l s)
event-one l s (event.Set q) = let e = ap length (set-none l s q) in omega arith

separately-few : (l : MinuteLent) (es : List Event) (s : State) → length (separately l s es).lines ≤ length s.lines + length es
unfolding separately choose
separately-few l [] s = omega arith
separately-few l (e ∷ es) s = go (eqb s.refusal 0) (separately-few l es (event_alone l s e))
  where
    go : (b : Bool) → length (separately l (event_alone l s e) es).lines ≤ length (event_alone l s e).lines + length es
        → length (choose b (separately l (event_alone l s e) es) s).lines ≤ length s.lines + length (e ∷ es)
    go true h = let k = event-one l s e in omega arith
    go false h = omega arith

over-few : (c : Contents) (events : List Event) → length (minute_over c events).lines ≤ length events
unfolding minute_over minute_alone choose
over-few c events = go _ _ _ _
  where
    go : (l : MinuteLent) (cells : List ℕ) (given : MotionNumbers) (age : ℕ) → length (minute_alone l cells given age events).lines ≤ length events
    go l cells given age = by (eqb (logged_refusal l cells given) 0) (separately-few l events (start given age cells 0))
      where
        by : (b : Bool) → length (separately l (start given age cells 0) events).lines ≤ 0 + length events
            → length (choose b (separately l (start given age cells 0) events) (start given age cells (logged_refusal l cells given))).lines ≤ length events
        by true h = omega arith
        by false h = omega arith

-- ---- how many events a log has

end-most : (word : ℕ → ℕ) (n i : ℕ) → end_from word n i ≤ i + n
unfolding end_from choose
end-most word zero i = omega arith
end-most word (suc n) i = go (eqb (word (i * 4)) 0) (end-most word n (i + 1))
  where
    go : (b : Bool) → end_from word n (i + 1) ≤ i + 1 + n → choose b i (end_from word n (i + 1)) ≤ i + suc n
    go true h = omega arith
    go false h = omega arith

log-blocks : (file : List ℕ) → is_log file ≡ true → blocks_in file ≤ 128
unfolding is_log whole_log
log-blocks file t =
    let a = (both (is_scene (scene_in file)) (whole_log file (log_of file)) t).two in
    let b = (both (leb (blocks_in file) 128) (eqb (length file % 512) 0 && log_fits file (log_of file)) a).one in
    leb-true (blocks_in file) 128 b

events-few : (file : List ℕ) → is_log file ≡ true → length (events_of file) ≤ 3840
unfolding events_by
events-few file t =
    let l = log_of file in
    let n = listed-length (event_at (log_word file l.scene l.blocks)) l.events 0 in
    let m = end-most (log_word file l.scene l.blocks) (l.blocks * 30) 0 in
    let b = log-blocks file t in
    let k : l.blocks ≤ blocks_in file = less (blocks_in file) l.scene in
    omega arith
  where
    less : (a b : ℕ) → a - b ≤ a
    less a b = omega arith

pub minute-few : (file : List ℕ) → length (minute_in file).lines ≤ 3840
unfolding minute_in choose
minute-few file = go (is_log file) refl
  where
    go : (b : Bool) → is_log file ≡ b → length (choose b (minute_over (contents_in (scene_in file)) (events_of file)) malformed_log).lines ≤ 3840
    go true t = let h = over-few (contents_in (scene_in file)) (events_of file) in let k = events-few file t in omega arith
    go false t = omega arith

-- so many numbers hold the feet of every tick
pub all-feet : (file : List ℕ) (feet : List Float) → length feet ≡ 11520 → length (minute_in file).lines * 3 ≤ length feet
all-feet file feet e = let h = minute-few file in omega arith
