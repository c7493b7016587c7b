-- What each half of the buffer holds after the call. Assumes nothing.
use mathlib.Core.Path.{◌≡◌, refl, ◌∙◌}
use mathlib.Core.Bool.{Bool, true, false}
use mathlib.Core.List.{List}
use lib.Dec.{ltb, eqb}
use lib.ListN.{length}
use lib.Ieee.{Float}
use Rattle.base.specs.Choose.{choose}
use Rattle.base.specs.Loop.{stored}
use Rattle.table_check.specs.Check.{table_refusal}
use Rattle.night_rows.specs.Rows.{Row}
use Rattle.night_answers.specs.Answers.{NightLent}
use Rattle.answer_rows.specs.Answers.{count_refusal}
use Rattle.midnight.specs.Run.{checked_written, rows_of}
use Rattle.base.proofs.Stored.{stored-length}
use Rattle.halves.proofs.Halves.{half_length, joined_length, first-joined, second-joined, rest-joined}
use Rattle.parties.specs.Parties.{Call, Who, first, second, lent_to, bodies_in, length_of_half, half_of, nobodys, party_written, half_after, call_written}

chosen-length : (t : Bool) (x y half : List Float) → length x ≡ length half → length y ≡ length half → length (choose t x y) ≡ length half
unfolding choose
chosen-length true x y half ex ey = ex
chosen-length false x y half ex ey = ey

-- ---- what a party's code leaves in its half, after 14, or as the midnight call over checked tables

module _ (lent : NightLent) (rows : List Row) (half : List Float) where
  pub written-length : length (party_written lent rows half) ≡ length half
  unfolding party_written checked_written
  written-length =
      chosen-length (ltb 2048 (length rows)) half (checked_written lent rows half) half refl
      (chosen-length (eqb (count_refusal lent.count (length rows) (length half)) 0) (stored half 0 (rows_of lent rows)) half half (stored-length half 0 (rows_of lent rows)) refl)

-- ---- the buffer after a call

module _ (call : Call) where
  pub after-length : (who : Who) → length (half_after who call) ≡ length_of_half call.out
  unfolding half_after
  after-length who =
      chosen-length (eqb (table_refusal call.records call.shapes) 0) (party_written (lent_to who call) (bodies_in who call) (half_of who call.out)) (half_of who call.out) (half_of who call.out)
      (written-length (lent_to who call) (bodies_in who call) (half_of who call.out)) refl
      ∙ half_length who call.out

  -- each half is its party's own
  pub own-half : (who : Who) → half_of who (call_written call) ≡ half_after who call
  unfolding call_written
  own-half first = first-joined call.out (half_after first call) (half_after second call) (after-length first) (after-length second)
  own-half second = second-joined call.out (half_after first call) (half_after second call) (after-length first) (after-length second)

  -- a last odd place keeps its value, and no place is added
  pub odd-kept : nobodys (call_written call) ≡ nobodys call.out
  unfolding call_written
  odd-kept = rest-joined call.out (half_after first call) (half_after second call) (after-length first) (after-length second)

  pub same-places : length (call_written call) ≡ length call.out
  unfolding call_written
  same-places = joined_length call.out (half_after first call) (half_after second call) (after-length first) (after-length second)
