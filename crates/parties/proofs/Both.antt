-- What the program does, one half after the other, is the call. Assumes nothing.
use mathlib.Core.Path.{◌≡◌, sym, ap, ◌∙◌}
use mathlib.Core.List.{List, ◌++◌}
use Prim.Native.Nat.{ℕ, ◌+◌, ◌-◌}
use native.Mathlib.Omega.{arith}
use lib.Dec.{eqb}
use lib.ListN.{length, take, drop, take-append-drop}
use lib.Ieee.{Float}
use lib.Seq.{take_at, drop_at, drop-drop}
use borrow.Author.Tests.{ne_eqb}
use Rattle.base.specs.Choose.{choose}
use Rattle.table_check.specs.Check.{table_refusal}
use Rattle.parties.specs.Parties.{Refusals, Call, Who, first, second, party_of, lent_to, bodies_in, length_of_half, half_of, nobodys, party_refusal, refusal_for, call_refusals, party_written, half_after, call_written}
use Rattle.halves.proofs.Halves.{half_length}
use Rattle.parties.proofs.Halves.{written-length}

abbrev refusals : ℕ → ℕ → Refusals
refusals r s = record { first = r; second = s }

-- ---- tables that are refused

module _ (call : Call) (bad : table_refusal call.records call.shapes ≡ 0 → ⊥) where
  pub both-refused : refusals 1 1 ≡ call_refusals call
  unfolding refusal_for choose
  both-refused = rw (ne_eqb (table_refusal call.records call.shapes) 0 bad)

  half-kept : (who : Who) → half_after who call ≡ half_of who call.out
  unfolding half_after choose
  half-kept who = rw (ne_eqb (table_refusal call.records call.shapes) 0 bad)

  pub both-kept : call.out ≡ call_written call
  unfolding call_written
  both-kept =
      let h : ℕ = length_of_half call.out in
      let behind : List Float = drop h call.out in
      sym
      (ap (λ (l : List Float). l ++ (half_after second call ++ nobodys call.out)) (half-kept first)
      ∙ ap (λ (l : List Float). take h call.out ++ (l ++ nobodys call.out)) (half-kept second)
      ∙ ap (λ (l : List Float). take h call.out ++ (take h behind ++ l)) (sym (drop-drop h h call.out))
      ∙ ap (λ (l : List Float). take h call.out ++ l) (take-append-drop h behind)
      ∙ take-append-drop h call.out)

-- ---- tables that pass

module _ (call : Call) (sound : table_refusal call.records call.shapes ≡ 0) where
  told-alone : (who : Who) → party_refusal (party_of who call).count (party_of who call).bodies (length (half_of who call.out)) ≡ refusal_for who call
  unfolding refusal_for choose
  told-alone who =
      ap (λ (k : ℕ). party_refusal (party_of who call).count (party_of who call).bodies k) (half_length who call.out)
      ∙ sym (ap (λ (n : ℕ). choose (eqb n 0) (party_refusal (party_of who call).count (party_of who call).bodies (length_of_half call.out)) 1) sound)

  pub written-alone : (who : Who) → party_written (lent_to who call) (bodies_in who call) (half_of who call.out) ≡ half_after who call
  unfolding half_after choose
  written-alone who =
      sym (ap (λ (n : ℕ). choose (eqb n 0) (party_written (lent_to who call) (bodies_in who call) (half_of who call.out)) (half_of who call.out)) sound)

  -- the first half is written, to x; then the second, of what that left
  module _ (x : List Float) (ex : x ≡ party_written (lent_to first call) (bodies_in first call) (half_of first call.out)) where
    abbrev h : ℕ
    h = length_of_half call.out

    abbrev left : List Float
    left = x ++ drop h call.out

    full : length x ≡ h
    full = ap length ex ∙ written-length (lent_to first call) (bodies_in first call) (half_of first call.out) ∙ half_length first call.out

    one-half : h + h - h ≡ h
    one-half = omega arith

    behind : drop h left ≡ drop h call.out
    behind = drop_at x (drop h call.out) h full

    untouched : take (h + h - h) (drop h left) ≡ half_of second call.out
    untouched = ap (λ (k : ℕ). take k (drop h left)) one-half ∙ ap (λ (l : List Float). take h l) behind

    pub told-both : (r s : ℕ) → r ≡ party_refusal call.first.count call.first.bodies (length (half_of first call.out))
        → s ≡ party_refusal call.second.count call.second.bodies (length (take (h + h - h) (drop h left)))
        → refusals r s ≡ call_refusals call
    told-both r s er es =
        ap (λ (k : ℕ). refusals k s) (er ∙ told-alone first)
        ∙ ap (λ (k : ℕ). refusals (refusal_for first call) k)
        (es ∙ ap (λ (l : List Float). party_refusal call.second.count call.second.bodies (length l)) untouched ∙ told-alone second)

    -- the second half is written, to y, and put back
    pub written_both : (y : List Float) → y ≡ party_written (lent_to second call) (bodies_in second call) (take (h + h - h) (drop h left))
        → take h left ++ (y ++ drop (h + h - h) (drop h left)) ≡ call_written call
    unfolding call_written
    written_both y ey =
        ap (λ (l : List Float). l ++ (y ++ drop (h + h - h) (drop h left))) (take_at x (drop h call.out) h full ∙ ex ∙ written-alone first)
        ∙ ap (λ (l : List Float). half_after first call ++ (l ++ drop (h + h - h) (drop h left)))
        (ey ∙ ap (λ (l : List Float). party_written (lent_to second call) (bodies_in second call) l) untouched ∙ written-alone second)
        ∙ ap (λ (l : List Float). half_after first call ++ (half_after second call ++ l))
        (ap (λ (k : ℕ). drop k (drop h left)) one-half ∙ ap (λ (l : List Float). drop h l) behind ∙ drop-drop h h call.out)
