-- What the program holds of a minute after so many events, and that one event more keeps it so. Assumes nothing.
use Rattle.std.proofs.Common.{◌≡◌, ℕ, suc, ◌+◌, ◌-◌, ◌*◌, ◌<◌, ◌≤◌, Bool, true, false, eqb, List, [], ◌∷◌, ◌++◌, length, set, sym, refl, ap, ◌∙◌, mod-eq_of_lt, arith, length-append, length-set, eq-eqb, ne_eqb}
use lib.Ieee.{Float}
use Rattle.base.specs.Choose.{choose}
use Rattle.base.specs.Loop.{listed, stored}
use Rattle.base.proofs.Fill.{stored-then}
use Rattle.base.proofs.Stored.{stored-length}
use Rattle.boxes.specs.declared.Vec3.{Vec3}
use Rattle.groups.specs.Summary.{has_summary, is_inside, set_in, after_set}
use Rattle.step_answers.specs.Records.{FallingAnswer}
use Rattle.logs.specs.declared.Event.{Event}
use Rattle.logs.specs.declared.Event.TheVariants as event
use Rattle.minute_state.specs.Minute.{MinuteLent, minute_window, State, ended, after_step, ticked, set_place, event_on, after, lines_as_numbers}
use Rattle.minute_state.specs.Turns.{Minute, minute_of, state_of, ended_with, step_by, later, stepped_minute, ticked_by, feet_numbers, feet_by, turned_by, words_by, feet_after}

-- ---- the lines as numbers

pub numbers-length : (lines : List Vec3) → length (lines_as_numbers lines) ≡ length lines * 3
unfolding lines_as_numbers
numbers-length [] = refl
numbers-length (v ∷ vs) = let e = numbers-length vs in let g : length (lines_as_numbers vs) ≡ length vs * 3 = e in omega arith

numbers_more : (lines : List Vec3) (v : Vec3) → lines_as_numbers (lines ++ (v ∷ [])) ≡ lines_as_numbers lines ++ feet_numbers v
unfolding lines_as_numbers
numbers_more [] v = refl
numbers_more (u ∷ us) v = ap (λ (r : List Float). u.x ∷ u.y ∷ u.z ∷ r) (numbers_more us v)

-- ---- the count of ticks

-- it does not wrap before 2^32 - 1
pub later-is : (ticks : ℕ) → ticks < 4294967295 → later ticks ≡ ticks + 1
later-is ticks h = mod-eq_of_lt (omega arith)

-- ---- one event

-- the lines after an event
lines_by : MinuteLent → List ℕ → Minute → List Vec3 → Event → List Vec3
lines_by l words m lines event.Tick = choose (eqb (step_by l words m).step.refusal 0) (lines ++ ((step_by l words m).step.motion.feet ∷ [])) lines
lines_by l words m lines (event.Set q) = lines

module _ (m : Minute) (words : List ℕ) (lines : List Vec3) (a : FallingAnswer) where
  line : List Vec3
  line = choose (eqb a.step.refusal 0) (lines ++ (a.step.motion.feet ∷ [])) lines

  ticked-is : ticked (state_of m words lines) a ≡ state_of (ticked_by m a) words line
  unfolding ticked ticked_by choose line
  ticked-is = go (eqb a.step.refusal 0)
    where
      go : (b : Bool) → choose b (after_step (state_of m words lines) a) (ended (state_of m words lines) a.step.refusal) ≡ state_of (choose b (stepped_minute m a) (ended_with m a.step.refusal)) words (choose b (lines ++ (a.step.motion.feet ∷ [])) lines)
      go true = refl
      go false = refl

  ticked-count : m.ticks < 4294967295 → m.ticks ≡ length lines → (ticked_by m a).ticks ≡ length line
  unfolding ticked_by choose line
  ticked-count small e = go (eqb a.step.refusal 0)
    where
      go : (b : Bool) → (choose b (stepped_minute m a) (ended_with m a.step.refusal)).ticks ≡ length (choose b (lines ++ (a.step.motion.feet ∷ [])) lines)
      go true = let p = length-append lines (a.step.motion.feet ∷ []) in later-is m.ticks small ∙ omega arith
      go false = e

  ticked-few : (ticked_by m a).ticks ≤ m.ticks + 1
  unfolding ticked_by choose
  ticked-few = go (eqb a.step.refusal 0)
    where
      go : (b : Bool) → (choose b (stepped_minute m a) (ended_with m a.step.refusal)).ticks ≤ m.ticks + 1
      go true = omega arith
      go false = omega arith

  ticked-feet : (feet₀ feet : List Float) → m.ticks ≡ length lines → feet ≡ stored feet₀ 0 (lines_as_numbers lines) → feet_by feet m a ≡ stored feet₀ 0 (lines_as_numbers line)
  unfolding feet_by choose line
  ticked-feet feet₀ feet n e = go (eqb a.step.refusal 0)
    where
      go : (b : Bool) → choose b (stored feet (m.ticks * 3) (feet_numbers a.step.motion.feet)) feet ≡ stored feet₀ 0 (lines_as_numbers (choose b (lines ++ (a.step.motion.feet ∷ [])) lines))
      go true =
          let at : m.ticks * 3 ≡ 0 + length (lines_as_numbers lines) = let g = numbers-length lines in omega arith in
          rw (at, e) (stored-then feet₀ 0 (lines_as_numbers lines) (feet_numbers a.step.motion.feet) ∙ ap (stored feet₀ 0) (sym (numbers_more lines a.step.motion.feet)))
      go false = e

module _ (l : MinuteLent) (words : List ℕ) (m : Minute) (lines : List Vec3) where
  event-is : (e : Event) → event_on l (state_of m words lines) e ≡ state_of (turned_by l words m e) (words_by l words e) (lines_by l words m lines e)
  unfolding lines_by line
  event-is event.Tick = ticked-is m words lines (step_by l words m)
  event-is (event.Set q) = refl

  event-count : (e : Event) → m.ticks < 4294967295 → m.ticks ≡ length lines → (turned_by l words m e).ticks ≡ length (lines_by l words m lines e)
  unfolding lines_by line
  event-count event.Tick small h = ticked-count m words lines (step_by l words m) small h
  event-count (event.Set q) small h = h

  event-few : (e : Event) → (turned_by l words m e).ticks ≤ m.ticks + 1
  event-few event.Tick = ticked-few m words lines (step_by l words m)
  event-few (event.Set q) = omega arith

  event-feet : (e : Event) (feet₀ feet : List Float) → m.ticks ≡ length lines → feet ≡ stored feet₀ 0 (lines_as_numbers lines)
      → feet_after l words m feet e ≡ stored feet₀ 0 (lines_as_numbers (lines_by l words m lines e))
  unfolding lines_by line
  event-feet event.Tick feet₀ feet h p = ticked-feet m words lines (step_by l words m) feet₀ feet h p
  event-feet (event.Set q) feet₀ feet h p = p

-- ---- nothing grows

words_long : (l : MinuteLent) (words : List ℕ) (e : Event) → length (words_by l words e) ≡ length words
unfolding after_set choose
words_long l words event.Tick = refl
words_long l words (event.Set q) = go (has_summary words (minute_window l)) (is_inside (minute_window l) (set_place l q))
  where
    go : (b c : Bool) → length (choose b (choose c (set_in l.records words (minute_window l) (set_place l q) q.state) words) words) ≡ length words
    go true true = length-set (set words _ _) _ _ ∙ length-set words _ _
    go true false = refl
    go false c = refl

-- ---- after i of n events: what is left comes to the whole

pub record Held (l : MinuteLent) (ev : ℕ → Event) (n : ℕ) (whole : State) (feet₀ : List Float) (i : ℕ) (m : Minute) (words : List ℕ) (feet : List Float) : Type 0 where
  pub lines : List Vec3
  pub count : m.ticks ≡ length lines
  pub few : m.ticks ≤ i
  pub here : feet ≡ stored feet₀ 0 (lines_as_numbers lines)
  pub rest : after l (state_of m words lines) (listed ev (n - i) i) ≡ whole

-- and no refusal has come so far, of fewer events than would let the count of ticks wrap
pub record Going (l : MinuteLent) (ev : ℕ → Event) (n : ℕ) (whole : State) (words₀ : List ℕ) (feet₀ : List Float) (i : ℕ) (m : Minute) (words : List ℕ) (feet : List Float) : Type 0 where
  pub held : Held l ev n whole feet₀ i m words feet
  pub fine : m.refusal ≡ 0
  pub short : n < 65536
  pub words_same : length words ≡ length words₀

-- and after the last
pub record Done (whole : State) (feet₀ : List Float) (m : Minute) (words : List ℕ) (feet : List Float) : Type 0 where
  pub is : m ≡ minute_of whole
  pub cells : words ≡ whole.words
  pub numbers : feet ≡ stored feet₀ 0 (lines_as_numbers whole.lines)

pub feet-same : {l : MinuteLent} {ev : ℕ → Event} {n : ℕ} {whole : State} {feet₀ : List Float} {i : ℕ} {m : Minute} {words : List ℕ} {feet : List Float} → Held l ev n whole feet₀ i m words feet
    → length feet ≡ length feet₀
feet-same h = ap length h.here ∙ stored-length _ 0 (lines_as_numbers h.lines)

pub held_first : (l : MinuteLent) (ev : ℕ → Event) (n : ℕ) (feet : List Float) (m : Minute) (words : List ℕ) → m.ticks ≡ 0
    → Held l ev n (after l (state_of m words []) (listed ev n 0)) feet 0 m words feet
unfolding stored lines_as_numbers
held_first l ev n feet m words e =
    let q : n - 0 ≡ n = omega arith in
    record { lines = []; count = e; few = omega arith; here = refl; rest = ap (λ (k : ℕ). after l (state_of m words []) (listed ev k 0)) q }

pub going-first : (l : MinuteLent) (ev : ℕ → Event) (n : ℕ) (feet : List Float) (m : Minute) (words : List ℕ) → n < 65536 → m.ticks ≡ 0 → m.refusal ≡ 0
    → Going l ev n (after l (state_of m words []) (listed ev n 0)) words feet 0 m words feet
going-first l ev n feet m words k e f = record { held = held_first l ev n feet m words e; fine = f; short = k; words_same = refl }

module _ (l : MinuteLent) (ev : ℕ → Event) (n : ℕ) (whole : State) (feet₀ : List Float) (i : ℕ) (m : Minute) (words : List ℕ) (feet : List Float) (h : Held l ev n whole feet₀ i m words feet) where
  pub held_next : n < 65536 → i < n → m.refusal ≡ 0 → (e : Event) → e ≡ ev i
      → Held l ev n whole feet₀ (i + 1) (turned_by l words m e) (words_by l words e) (feet_after l words m feet e)
  unfolding after listed choose
  held_next short less fine e is =
      let q : n - i ≡ suc (n - (i + 1)) = omega arith in
      let few : m.ticks ≤ i = h.few in
      let more : (turned_by l words m e).ticks ≤ m.ticks + 1 = event-few l words m h.lines e in
      record {
        lines = lines_by l words m h.lines e;
        count = event-count l words m h.lines e (omega arith) h.count;
        few = omega arith;
        here = event-feet l words m h.lines e feet₀ feet h.count h.here;
        rest = ap (λ (s : State). after l s (listed ev (n - (i + 1)) (i + 1))) (sym (event-is l words m h.lines e) ∙ ap (event_on l (state_of m words h.lines)) is)
            ∙ (rw (q, eq-eqb m.refusal 0 fine) at h.rest);
      }

  finish : state_of m words h.lines ≡ whole → Done whole feet₀ m words feet
  finish e =
      let k = h.count in
      record {
        is = (λ j. record { motion = m.motion; age = m.age; fall = m.fall; ticks = k j; refusal = m.refusal }) ∙ ap minute_of e;
        cells = ap (λ (s : State). s.words) e;
        numbers = h.here ∙ ap (λ (s : State). stored feet₀ 0 (lines_as_numbers s.lines)) e;
      }

  stopped : (s : State) (es : List Event) → (s.refusal ≡ 0 → ⊥) → after l s es ≡ s
  unfolding after choose
  stopped s [] ne = refl
  stopped s (e ∷ es) ne = rw (ne_eqb s.refusal 0 ne)

  -- a refusal ends it
  pub held-stop : (m.refusal ≡ 0 → ⊥) → Done whole feet₀ m words feet
  held-stop ne = finish (sym (stopped (state_of m words h.lines) (listed ev (n - i) i) ne) ∙ h.rest)

  pub held-end : n ≤ i → Done whole feet₀ m words feet
  unfolding after listed
  held-end least = let q : n - i ≡ 0 = omega arith in finish (rw q at h.rest)

-- ---- a turn of the loop, by what the calls answer

module _ (l : MinuteLent) (ev : ℕ → Event) (n : ℕ) (whole : State) (words₀ : List ℕ) (feet₀ : List Float) (i : ℕ) (m : Minute) (words : List ℕ) (feet : List Float)
    (g : Going l ev n whole words₀ feet₀ i m words feet) (less : i < n) (e : Event) (is : e ≡ ev i)
    (m' : Minute) (words' : List ℕ) (feet' : List Float) (em : m' ≡ turned_by l words m e) (ew : words' ≡ words_by l words e) (ef : feet' ≡ feet_after l words m feet e) where
  pub turn-held : Held l ev n whole feet₀ (i + 1) m' words' feet'
  turn-held = rw (em, ew, ef) (held_next l ev n whole feet₀ i m words feet g.held g.short less g.fine e is)

  pub turn-words : length words' ≡ length words₀
  turn-words = ap length ew ∙ words_long l words e ∙ g.words_same

  pub turn-going : m'.refusal ≡ 0 → Going l ev n whole words₀ feet₀ (i + 1) m' words' feet'
  turn-going f = record { held = turn-held; fine = f; short = g.short; words_same = turn-words }
