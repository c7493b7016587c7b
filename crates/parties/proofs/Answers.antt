-- What each party has of the midnight call: where it is not refused its half is what that call alone writes, so that each answer is the single
-- step's; where it is, its half is as it was. Assumes nothing.
use mathlib.Core.Path.{◌≡◌, refl, ap, ◌∙◌}
use mathlib.Core.Bool.{Bool, true, false, not, ◌||◌}
use mathlib.Core.List.{List}
use Prim.Native.Nat.{ℕ, ◌*◌, ◌≤◌, ◌<◌}
use native.Mathlib.Omega.{arith}
use lib.Dec.{T, ltb, eqb, nltb→le}
use lib.ListN.{length}
use lib.Ieee.{Float}
use borrow.Author.Tests.{ne_eqb, le-ltb}
use Rattle.base.specs.Choose.{choose}
use Rattle.base.specs.Loop.{stored}
use Rattle.table_check.specs.Check.{table_refusal}
use Rattle.night_rows.specs.Rows.{row_of, row_at, window_at, is_whole, named_in}
use Rattle.answer_rows.specs.Answers.{answer_width, answer_numbers, count_refusal}
use Rattle.night_answers.specs.Answers.{refused_body, single_step}
use Rattle.midnight.specs.Run.{run_refusal, rows_of, checked_written, run_written}
use Rattle.base.proofs.Listed.{listed-length}
use Rattle.night_answers.proofs.Bodies.{Named, no-window}
use Rattle.midnight.proofs.Orders as midnight
use Rattle.parties.specs.Parties.{Call, Who, party_of, lent_to, bodies_in, length_of_half, half_of, party_refusal, refusal_for, party_written, half_after, call_written}
use Rattle.halves.proofs.Halves.{half_length}
use Rattle.parties.proofs.Halves.{own-half}

-- ---- the limits, in the words of the request: "14 for more than 2,048 bodies or 16 windows, then 11 for its half"

go : (m w b c : Bool) → (T (not m) → b ≡ false) → ◌≡◌ {A = ℕ} (choose m 14 (choose (w || b) 14 (choose c 11 0))) (choose (m || w) 14 (choose c 11 0))
unfolding choose
go true w b c e = refl
go false true b c e = refl
go false false b c e = ap (λ (t : Bool). choose t 14 (choose c 11 0)) (e tt)

pub limits : (windows bodies room : ℕ)
    → party_refusal windows bodies room ≡ choose (ltb 2048 bodies || ltb 16 windows) 14 (choose (ltb room (bodies * answer_width)) 11 0)
unfolding party_refusal count_refusal
limits windows bodies room =
    go (ltb 2048 bodies) (ltb 16 windows) (ltb 4096 bodies) (ltb room (bodies * answer_width))
    (λ few. let less : bodies ≤ 4096 = let h : bodies ≤ 2048 = nltb→le 2048 bodies few in omega arith in le-ltb 4096 bodies less)

-- ---- a party that is refused

nothing_written : (t m : Bool) (n : ℕ) (half after : List Float) → (◌≡◌ {A = ℕ} (choose t (choose m 14 n) 1) 0 → ⊥)
    → choose t (choose m half (choose (eqb n 0) after half)) half ≡ half
unfolding choose
nothing_written true true n half after told = refl
nothing_written true false n half after told = ap (λ (b : Bool). choose b after half) (ne_eqb n 0 told)
nothing_written false m n half after told = refl

all-passed : (t m : Bool) (n : ℕ) → ◌≡◌ {A = ℕ} (choose t (choose m 14 n) 1) 0 → (t ≡ true) × (m ≡ false) × (n ≡ 0)
unfolding choose
all-passed true false n e = (refl, refl, e)
all-passed true true n e = absurd (omega arith)
all-passed false m n e = absurd (omega arith)

module _ (who : Who) (call : Call) where
  counted : length (bodies_in who call) ≡ (party_of who call).bodies
  counted = listed-length (row_at false (party_of who call).numbers (party_of who call).words) (party_of who call).bodies 0

  -- its half after the call, by the tests of its refusal
  by_tests : half_after who call
      ≡ choose (eqb (table_refusal call.records call.shapes) 0)
      (choose (ltb 2048 (party_of who call).bodies) (half_of who call.out)
      (choose (eqb (count_refusal (party_of who call).count (party_of who call).bodies (length_of_half call.out)) 0)
      (stored (half_of who call.out) 0 (rows_of (lent_to who call) (bodies_in who call)))
      (half_of who call.out)))
      (half_of who call.out)
  unfolding half_after party_written checked_written
  by_tests = rw (counted, half_length who call.out) refl

  pub unwritten : (refusal_for who call ≡ 0 → ⊥) → half_of who (call_written call) ≡ half_of who call.out
  unfolding refusal_for party_refusal
  unwritten refused =
      own-half call who ∙ by_tests
      ∙ nothing_written (eqb (table_refusal call.records call.shapes) 0) (ltb 2048 (party_of who call).bodies)
      (count_refusal (party_of who call).count (party_of who call).bodies (length_of_half call.out))
      (half_of who call.out) (stored (half_of who call.out) 0 (rows_of (lent_to who call) (bodies_in who call))) refused

  -- ---- a party that is not

  module _ (accepted : refusal_for who call ≡ 0) where
    tests : (eqb (table_refusal call.records call.shapes) 0 ≡ true) × (ltb 2048 (party_of who call).bodies ≡ false)
        × (count_refusal (party_of who call).count (party_of who call).bodies (length_of_half call.out) ≡ 0)
    unfolding refusal_for party_refusal
    tests =
        all-passed (eqb (table_refusal call.records call.shapes) 0) (ltb 2048 (party_of who call).bodies)
        (count_refusal (party_of who call).count (party_of who call).bodies (length_of_half call.out)) accepted

    -- the midnight call alone would not refuse it
    pub run-accepted : run_refusal (lent_to who call) (party_of who call).bodies (length (half_of who call.out)) ≡ 0
    unfolding run_refusal choose
    run-accepted = rw (tests.0, half_length who call.out) tests.2

    -- its half is what the midnight call alone makes of it
    pub as-alone : half_of who (call_written call) ≡ run_written (lent_to who call) (bodies_in who call) (half_of who call.out)
    unfolding choose
    as-alone =
        own-half call who ∙ by_tests
        ∙ rw (tests.0, tests.1, tests.2)
        (midnight.stored-all false (lent_to who call) (party_of who call).numbers (party_of who call).words (party_of who call).bodies (half_of who call.out) run-accepted)

    -- row i is the answer of body i, which is the single step's
    pub each : (i : ℕ) → i < (party_of who call).bodies → Named (lent_to who call) (row_at false (party_of who call).numbers (party_of who call).words i)
        → row_of answer_width (half_of who (call_written call)) i
        ≡ answer_numbers (single_step call.records call.shapes (party_of who call).cells (window_at (party_of who call).windows (named_in (row_at false (party_of who call).numbers (party_of who call).words i))) (row_at false (party_of who call).numbers (party_of who call).words i))
    each i h named =
        ap (λ (l : List Float). row_of answer_width l i) as-alone
        ∙ midnight.each false (lent_to who call) (party_of who call).numbers (party_of who call).words (party_of who call).bodies (half_of who call.out) run-accepted i h named

    -- a number that is none of its own windows', whatever the other party has: 10
    pub names-none : (i : ℕ) → i < (party_of who call).bodies → is_whole (row_at false (party_of who call).numbers (party_of who call).words i) ≡ true
        → (party_of who call).count ≤ named_in (row_at false (party_of who call).numbers (party_of who call).words i)
        → row_of answer_width (half_of who (call_written call)) i ≡ answer_numbers (refused_body 10 (row_at false (party_of who call).numbers (party_of who call).words i))
    names-none i h whole none =
        ap (λ (l : List Float). row_of answer_width l i) as-alone
        ∙ midnight.answer false (lent_to who call) (party_of who call).numbers (party_of who call).words (party_of who call).bodies (half_of who call.out) run-accepted i h
        ∙ ap answer_numbers (no-window (lent_to who call) (row_at false (party_of who call).numbers (party_of who call).words i) whole none)
