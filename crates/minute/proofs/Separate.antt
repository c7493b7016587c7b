-- A minute comes to what separate steps come to, over the windows as each set left them, for any list of events. Assumes nothing.
use mathlib.Core.Bool.{Bool, true, false, true≢false}
use mathlib.Core.List.{List, [], ◌∷◌, ◌++◌}
use mathlib.Core.Path.{◌≡◌, refl, sym, ap, ◌∙◌, subst}
use Prim.Native.Nat.{ℕ, ◌<◌}
use native.Mathlib.Omega.{arith}
use lib.Dec.{T, eqb, eqb→eq}
use lib.ListN.{set}
use borrow.Author.Tests.{eq-eqb}
use Rattle.base.specs.Choose.{choose}
use Rattle.base.proofs.Every.{both, every-from}
use Rattle.boxes.specs.declared.Vec3.{Vec3}
use Rattle.bodies.specs.declared.MotionNumbers.{MotionNumbers}
use Rattle.bodies.specs.Limits.{number_refusal}
use Rattle.window.specs.Window.{column_inside, height_inside, cell_count, index_of}
use Rattle.window.proofs.Cells.{is-inside, index_below}
use Rattle.lent.specs.Lent.{lent_refusal}
use Rattle.groups.specs.Groups.{group_count}
use Rattle.groups.specs.Summary.{has_summary, build_refusal, built, is_inside, set_refusal, after_set, PlacedSet, after_sets, agrees}
use Rattle.groups.proofs.Sets.{Kept, built-there, built-fresh, many-sets}
use Rattle.summary.specs.Calls.{plain_words}
use Rattle.step_answers.specs.Records.{FallingAnswer}
use Rattle.falls.specs.Answers.{falling_entry}
use Rattle.logs.specs.declared.CellSet.{CellSet as LogSet}
use Rattle.logs.specs.declared.Event.{Event}
use Rattle.logs.specs.declared.Event.TheVariants as event
use Rattle.minute_state.specs.Minute.{MinuteLent, minute_window, State, older, step_on, ended, after_step, ticked, set_place, changed, event_on, after, start_refusal, start, minute}
use Rattle.minute.specs.Separate.{separate_step, set_alone, event_alone, separately, Equals}
use Rattle.minute.proofs.Plain.{plain-built, plain-set, lent-kept, tick-plain}

-- ---- what a run's state and that of separate steps have in common after each event

record Alike (l : MinuteLent) (s t : State) : Type 0 where
  motion : s.motion ≡ t.motion
  age : s.age ≡ t.age
  fall : s.fall ≡ t.fall
  cells : plain_words s.words (minute_window l) ≡ t.words
  kept : Kept l.records s.words (minute_window l)
  sound : lent_refusal l.records l.shapes t.words (minute_window l) ≡ 0
  lines : s.lines ≡ t.lines
  refusal : s.refusal ≡ t.refusal

module _ (l : MinuteLent) (s t : State) (a : Alike l s t) where
  -- ---- a tick

  same_step : step_on l s ≡ separate_step l t
  same_step =
      let w = minute_window l in
      tick-plain l.records l.shapes s.words w l.rules l.body s.motion s.age s.fall a.kept (ap (λ (c : List ℕ). lent_refusal l.records l.shapes c w) a.cells ∙ a.sound)
      ∙ (λ i. falling_entry l.records l.shapes (a.cells i) w l.rules l.body (a.motion i) (a.age i) (a.fall i))

  ticked-alike : (r : FallingAnswer) → Alike l (ticked s r) (ticked t r)
  unfolding ticked choose
  ticked-alike r = go (eqb r.step.refusal 0)
    where
      go : (b : Bool) → Alike l (choose b (after_step s r) (ended s r.step.refusal)) (choose b (after_step t r) (ended t r.step.refusal))
      go true =
          record {
            motion = refl;
            age = ap (λ (n : ℕ). older n) a.age;
            fall = refl;
            cells = a.cells;
            kept = a.kept;
            sound = a.sound;
            lines = ap (λ (v : List Vec3). v ++ (r.step.motion.feet ∷ [])) a.lines;
            refusal = refl;
          }
      go false = record { motion = a.motion; age = a.age; fall = a.fall; cells = a.cells; kept = a.kept; sound = a.sound; lines = a.lines; refusal = refl }

  -- ---- a set

  module _ (q : LogSet) where
    one : PlacedSet
    one = record { at = set_place l q; state = q.state }

    set-kept : Kept l.records (after_set l.records s.words (minute_window l) (set_place l q) q.state) (minute_window l)
    unfolding after_sets one
    set-kept = many-sets l.records s.words (minute_window l) (one ∷ []) a.kept

    near : is_inside (minute_window l) (set_place l q) ≡ true → index_of (minute_window l) (set_place l q) < cell_count (minute_window l).sizes
    near e =
        let b = both (column_inside (minute_window l) (set_place l q)) (height_inside (minute_window l) (set_place l q)) e in
        index_below (minute_window l) (set_place l q) (is-inside (minute_window l) (set_place l q) b.one b.two)

    set-alike : Alike l (changed l s q) (set_alone l t q)
    unfolding set_refusal after_set set_alone choose
    set-alike = go (is_inside (minute_window l) (set_place l q)) refl
      where
        go : (b : Bool) → is_inside (minute_window l) (set_place l q) ≡ b → Alike l (changed l s q) (set_alone l t q)
        go true e =
            let k = set-kept in
            rw (a.kept.there, e) record {
              motion = a.motion;
              age = a.age;
              fall = a.fall;
              cells = plain-set l.records s.words (minute_window l) a.kept.there (set_place l q) q.state (near e) ∙ ap (λ (c : List ℕ). set c (index_of (minute_window l) (set_place l q)) q.state) a.cells;
              kept = rw (a.kept.there, e) at k;
              sound = lent-kept t.words (minute_window l) (index_of (minute_window l) (set_place l q)) q.state (near e) l.records l.shapes ∙ a.sound;
              lines = a.lines;
              refusal = refl;
            }
        go false e =
            rw (a.kept.there, e) record { motion = a.motion; age = a.age; fall = a.fall; cells = a.cells; kept = a.kept; sound = a.sound; lines = a.lines; refusal = refl }

  event-alike : (e : Event) → Alike l (event_on l s e) (event_alone l t e)
  event-alike event.Tick = subst (λ (r : FallingAnswer). Alike l (ticked s (step_on l s)) (ticked t r)) same_step (ticked-alike (step_on l s))
  event-alike (event.Set q) = set-alike q

-- ---- any list of events

all_alike : (l : MinuteLent) (es : List Event) (s t : State) → Alike l s t → Alike l (after l s es) (separately l t es)
unfolding after separately choose
all_alike l [] s t a = a
all_alike l (e ∷ es) s t a =
    subst (λ (b : Bool). Alike l (choose (eqb s.refusal 0) (after l (event_on l s e) es) s) (choose b (separately l (event_alone l t e) es) t))
    (ap (λ (n : ℕ). eqb n 0) a.refusal)
    (go (eqb s.refusal 0) (λ k. all_alike l es (event_on l s e) (event_alone l t e) k))
  where
    go : (b : Bool) → (Alike l (event_on l s e) (event_alone l t e) → Alike l (after l (event_on l s e) es) (separately l (event_alone l t e) es))
        → Alike l (choose b (after l (event_on l s e) es) s) (choose b (separately l (event_alone l t e) es) t)
    go true again = again (event-alike l s t a e)
    go false again = a

-- ---- the start

record Starts (l : MinuteLent) (words : List ℕ) : Type 0 where
  lent : lent_refusal l.records l.shapes (plain_words words (minute_window l)) (minute_window l) ≡ 0
  there : has_summary words (minute_window l) ≡ true

-- 0, or the first of two refusals
second : (n m : ℕ) → choose (eqb n 0) m n ≡ 0 → (n ≡ 0) × (m ≡ 0)
unfolding choose
second n m h = go (eqb n 0) refl h
  where
    go : (b : Bool) → eqb n 0 ≡ b → choose b m n ≡ 0 → (n ≡ 0) × (m ≡ 0)
    go true e h = (eqb→eq n 0 (subst T (sym e) tt), h)
    go false e h = absurd (true≢false (sym (eq-eqb n 0 h) ∙ e))

there-by : (b : Bool) → choose {A = ℕ} b 0 11 ≡ 0 → b ≡ true
unfolding choose
there-by true h = refl
there-by false h = let z : ◌≡◌ {A = ℕ} 11 0 = h in absurd (omega arith)

starts : (l : MinuteLent) (words : List ℕ) (given : MotionNumbers) → start_refusal l words given ≡ 0 → Starts l words
unfolding start_refusal build_refusal
starts l words given e =
    let lent = lent_refusal l.records l.shapes (plain_words words (minute_window l)) (minute_window l) in
    let numbers = number_refusal l.records l.rules l.body given in
    let a = second lent (choose (eqb numbers 0) (choose (has_summary words (minute_window l)) 0 11) numbers) e in
    let b = second numbers (choose (has_summary words (minute_window l)) 0 11) a.1 in
    record { lent = a.0; there = there-by (has_summary words (minute_window l)) b.1 }

-- the theorem: what a minute that starts leaves, for any list of events
pub minute-separate : (l : MinuteLent) (words : List ℕ) (given : MotionNumbers) (age : ℕ) (events : List Event) → start_refusal l words given ≡ 0
    → Equals l (minute l words given age events) (separately l (start given age (plain_words words (minute_window l)) 0) events)
unfolding minute agrees choose
minute-separate l words given age events e =
    let b = starts l words given e in
    let w = minute_window l in
    let first : Alike l (start given age (built l.records words w) 0) (start given age (plain_words words w) 0) = record {
      motion = refl;
      age = refl;
      fall = refl;
      cells = plain-built l.records words w b.there;
      kept = record { there = built-there l.records words w b.there; fresh = built-fresh l.records words w b.there };
      sound = b.lent;
      lines = refl;
      refusal = refl;
    } in
    let a = all_alike l events (start given age (built l.records words w) 0) (start given age (plain_words words w) 0) first in
    rw (eq-eqb (start_refusal l words given) 0 e) record {
      motion = a.motion;
      age = a.age;
      fall = a.fall;
      cells = a.cells;
      summary = every-from (group_count w.sizes) _ (λ i h. eq-eqb _ _ (a.kept.fresh i h));
      lines = a.lines;
      refusal = a.refusal;
    }
