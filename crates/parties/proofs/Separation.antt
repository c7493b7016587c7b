-- The theorem of separation. Assumes nothing.
use mathlib.Core.Bool.{false}
use mathlib.Core.Path.{◌≡◌, refl, sym, ap, ◌∙◌}
use mathlib.Core.List.{List}
use Prim.Native.Nat.{ℕ, ◌/◌}
use lib.Dec.{eqb}
use lib.ListN.{length}
use lib.Ieee.{Float}
use Rattle.base.specs.Choose.{choose}
use Rattle.table_check.specs.Check.{table_refusal}
use Rattle.night_answers.specs.Answers.{lent_with}
use Rattle.midnight.specs.Run.{bodies_of, answers_in}
use Rattle.parties.specs.Parties.{Party, Call, Who, first, second, party_of, half_of, party_refusal, refusal_for, call_refusals, party_written, half_after, call_written, told_to}
use Rattle.parties.specs.Separation.{Agree, Separation}
use Rattle.parties.proofs.Halves.{own-half}

-- ---- what a party is told, and its half after the call, of what is its own: the tables, its windows and bodies, and its half

abbrev told_by : List ℕ → List Float → Party → ℕ → ℕ
told_by records shapes p places = choose (eqb (table_refusal records shapes) 0) (party_refusal p.count p.bodies (places / 2)) 1

abbrev half_by : List ℕ → List Float → Party → List Float → List Float
half_by records shapes p half =
    choose (eqb (table_refusal records shapes) 0)
    (party_written (lent_with records shapes p.windows p.count p.cells) (bodies_of false p.numbers p.words p.bodies) half)
    half

told : (who : Who) (call : Call) → told_to who (call_refusals call) ≡ told_by call.records call.shapes (party_of who call) (length call.out)
unfolding refusal_for
told first call = refl
told second call = refl

half-after : (who : Who) (call : Call) → half_of who (call_written call) ≡ half_by call.records call.shapes (party_of who call) (half_of who call.out)
unfolding half_after
half-after who call = own-half call who

-- ---- values that agree

module _ (who : Who) (a b : Call) (same : Agree who a b) where
  told_same : told_to who (call_refusals a) ≡ told_to who (call_refusals b)
  told_same =
      told who a
      ∙ ap (λ (r : List ℕ). told_by r a.shapes (party_of who a) (length a.out)) same.records
      ∙ ap (λ (s : List Float). told_by b.records s (party_of who a) (length a.out)) same.shapes
      ∙ ap (λ (p : Party). told_by b.records b.shapes p (length a.out)) same.party
      ∙ ap (λ (n : ℕ). told_by b.records b.shapes (party_of who b) n) same.room
      ∙ sym (told who b)

  half-same : half_of who (call_written a) ≡ half_of who (call_written b)
  half-same =
      half-after who a
      ∙ ap (λ (r : List ℕ). half_by r a.shapes (party_of who a) (half_of who a.out)) same.records
      ∙ ap (λ (s : List Float). half_by b.records s (party_of who a) (half_of who a.out)) same.shapes
      ∙ ap (λ (p : Party). half_by b.records b.shapes p (half_of who a.out)) same.party
      ∙ ap (λ (l : List Float). half_by b.records b.shapes (party_of who b) l) same.half
      ∙ sym (half-after who b)

pub separation : Separation
separation who a b same =
    record {
      refusal = told_same who a b same;
      answers =
          ap (λ (l : List Float). answers_in l (party_of who a).bodies) (half-same who a b same)
          ∙ ap (λ (p : Party). answers_in (half_of who (call_written b)) p.bodies) same.party;
      half = half-same who a b same;
    }
