-- A minute over words with a summary is the minute as separate steps over those of cells and columns, refusals included. Assumes nothing.
use mathlib.Core.Bool.{Bool, true, false, true≢false}
use mathlib.Core.List.{List, []}
use mathlib.Core.Path.{◌≡◌, refl, sym, ap, ◌∙◌, subst}
use Prim.Native.Nat.{ℕ}
use lib.Dec.{T, eqb, eqb→eq}
use lib.ListN.{length}
use borrow.Author.Tests.{eq-eqb, ne_eqb}
use Rattle.base.specs.Choose.{choose}
use Rattle.bodies.specs.declared.MotionNumbers.{MotionNumbers}
use Rattle.bodies.specs.Limits.{number_refusal}
use Rattle.groups.specs.Summary.{has_summary, build_refusal}
use Rattle.summary.specs.Calls.{plain_words}
use Rattle.logs.specs.declared.Event.{Event}
use Rattle.minute_state.specs.Minute.{MinuteLent, minute_window, State, start_refusal, start, minute}
use Rattle.minute_state.specs.Turns.{minute_of}
use Rattle.minute.specs.Separate.{separately, Equals}
use Rattle.minute.proofs.Separate.{minute-separate}
use Rattle.logged.specs.Logged.{logged_refusal, minute_alone}

-- what a host is handed of two states is the same
pub record Same (s t : State) : Type 0 where
  pub is : minute_of s ≡ minute_of t
  pub lines : s.lines ≡ t.lines

or-itself : (n : ℕ) → choose (eqb n 0) 0 n ≡ n
unfolding choose
or-itself n = go (eqb n 0) (eqb→eq n 0)
  where
    go : (b : Bool) → (T b → n ≡ 0) → choose b 0 n ≡ n
    go true f = sym (f tt)
    go false f = refl

module _ (l : MinuteLent) (words : List ℕ) (given : MotionNumbers) (age : ℕ) (events : List Event) (there : has_summary words (minute_window l) ≡ true) where
  abbrev cells : List ℕ
  cells = plain_words words (minute_window l)

  same-refusal : start_refusal l words given ≡ logged_refusal l cells given
  unfolding start_refusal logged_refusal build_refusal choose
  same-refusal = rw (there, or-itself (number_refusal l.records l.rules l.body given))

  runs : start_refusal l words given ≡ 0 → minute_alone l cells given age events ≡ separately l (start given age cells 0) events
  unfolding minute_alone choose
  runs h = rw (eq-eqb (logged_refusal l cells given) 0 (sym same-refusal ∙ h))

  refused-alone : (start_refusal l words given ≡ 0 → ⊥) → minute_alone l cells given age events ≡ start given age cells (logged_refusal l cells given)
  unfolding minute_alone choose
  refused-alone h = rw (ne_eqb (logged_refusal l cells given) 0 (λ z. h (same-refusal ∙ z)))

  refused-minute : (start_refusal l words given ≡ 0 → ⊥) → minute l words given age events ≡ start given age words (start_refusal l words given)
  unfolding minute choose
  refused-minute h = rw (ne_eqb (start_refusal l words given) 0 h)

  -- where nothing is refused before the first event: all of the state, cells and summary with it
  pub alone-equals : start_refusal l words given ≡ 0 → Equals l (minute l words given age events) (minute_alone l cells given age events)
  alone-equals z = subst (λ (t : State). Equals l (minute l words given age events) t) (sym (runs z)) (minute-separate l words given age events z)

  pub alone : Same (minute l words given age events) (minute_alone l cells given age events)
  alone = go (eqb (start_refusal l words given) 0) refl
    where
      go : (b : Bool) → eqb (start_refusal l words given) 0 ≡ b → Same (minute l words given age events) (minute_alone l cells given age events)
      go true e =
          let z = eqb→eq (start_refusal l words given) 0 (subst T (sym e) tt) in
          let q = alone-equals z in
          record {
            is = λ i. record { motion = q.motion i; age = q.age i; fall = q.fall i; ticks = length (q.lines i); refusal = q.refusal i };
            lines = q.lines;
          }
      go false e =
          let h : start_refusal l words given ≡ 0 → ⊥ = λ z. true≢false (sym (eq-eqb (start_refusal l words given) 0 z) ∙ e) in
          rw (refused-minute h, refused-alone h) record { is = ap (λ (n : ℕ). minute_of (start given age [] n)) same-refusal; lines = refl }
