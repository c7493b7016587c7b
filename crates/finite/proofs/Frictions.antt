-- A sampled friction is of size at most 16, where the tables were checked. Assumes nothing.
use mathlib.Core.Path.{◌≡◌, refl}
use mathlib.Core.Bool.{Bool, true, false, ◌&&◌, false≢true}
use mathlib.Core.List.{List}
use Prim.Native.Nat.{ℕ, ◌+◌, ◌*◌, ◌/◌, ◌%◌, ◌≤◌, ◌<◌}
use native.Mathlib.Decide.{dec_lt}
use native.Mathlib.Omega.{arith}
use lib.Dec.{eqb, ltb, leb}
use lib.ListN.{length, get_or-eq_default}
use lib.Ieee.{Float}
use borrow.Author.Tests.{eqb-true}
use Rattle.base.specs.Choose.{choose}
use Rattle.base.specs.Ask.{Ask}
use Rattle.base.specs.Every.{every}
use Rattle.base.proofs.Every.{both, every-at}
use Rattle.base.proofs.Bounds.{Within}
use Rattle.floats.specs.Numbers.{is_within_limit}
use Rattle.cover.specs.Cover.{box_count}
use Rattle.tables.specs.Tables.{word_at, is_registered, friction_at}
use Rattle.table_check.specs.Check.{state_count, table_counts_fit, sixteen, most_depth, words_fit, state_boxes_fit, links_fit, faces_fit, registered_or_zero, record_fits, box_fits, tables_fit}
use Rattle.window.specs.Look.{Block, none, some}
use Rattle.drags.specs.declared.Sample.{Sample}
use Rattle.drags.specs.declared.Sample.TheVariants.{Friction, Air, Unloaded, Unregistered}
use Rattle.drags.specs.Cases.{sample_or}
use Rattle.samples.specs.Samples.{sample_of_state, sample_of_block, sampled}
use Rattle.ticks.proofs.Tells.{Finds, one, after}
use Rattle.finite.proofs.Limits.{from-test}

-- a sampled number is within 16
abbrev Small : Sample → Type 0
Small (Friction f) = Within f 16
Small Air = Unit {0}
Small Unloaded = Unit {0}
Small Unregistered = Unit {0}

pub record Sampled (s : Sample) : Type 0 where
  pub is : Small s

pub sample-within : (default : Float) (s : Sample) → Within default 16 → Sampled s → Within (sample_or default s) 16
sample-within default (Friction f) d h = h.is
sample-within default Air d h = d
sample-within default Unloaded d h = d
sample-within default Unregistered d h = d

module _ (records : List ℕ) (shapes : List Float) (fit : tables_fit records shapes ≡ true) where
  whole-records : length records % 20 ≡ 0
  unfolding tables_fit table_counts_fit
  whole-records = eqb-true _ _ (both _ _ (both _ _ (both _ _ (both _ _ (both _ _ (both _ _ fit).one).one).one).one).one).one

  -- a registered state has a record
  has-record : (id : ℕ) → is_registered records id ≡ true → id < state_count records
  unfolding is_registered choose
  has-record id h = go (dec_lt (id * 20 + 0) (length records))
    where
      places : (id n : ℕ) → n % 20 ≡ 0 → id * 20 + 0 < n → id < n / 20
      places id n e l = omega arith

      beyond : (i n : ℕ) → (i < n → ⊥) → n ≤ i
      beyond i n l = omega arith

      none-there : (w : ℕ) → w ≡ 0 → eqb (w % 2) 1 ≡ true → ⊥
      none-there w e t = let q : w % 2 ≡ 1 = eqb-true (w % 2) 1 t in omega arith

      go : Dec (id * 20 + 0 < length records) → id < state_count records
      go (yes l) = places id (length records) whole-records l
      go (no l) = absurd (none-there (word_at records id 0) (get_or-eq_default records 0 (beyond (id * 20 + 0) (length records) l)) h)

  record-fits : (id : ℕ) → id < state_count records → record_fits records shapes id ≡ true
  unfolding tables_fit
  record-fits id l =
      let a = both (table_counts_fit records shapes && every (state_count records) (record_fits records shapes)) (every (box_count shapes) (box_fits shapes)) fit in
      every-at (state_count records) (record_fits records shapes) (both (table_counts_fit records shapes) (every (state_count records) (record_fits records shapes)) a.one).two id l

  friction-within : (id : ℕ) → is_registered records id ≡ true → Within (friction_at records id) 16
  unfolding record_fits words_fit
  friction-within id h =
      from-test (friction_at records id) 4
      (second (ltb (word_at records id 0) 4) (is_within_limit (friction_at records id) sixteen) (leb (word_at records id 2) 2) (leb (word_at records id 3) (most_depth (word_at records id 2)))
      (leb (word_at records id 4) 4) (leb (word_at records id 5) 2) (leb (word_at records id 6) 5)
      (first (words_fit records id) (state_boxes_fit records shapes id) (links_fit records id) (faces_fit records shapes id) (registered_or_zero records id) (record-fits id (has-record id h))))
    where
      first : (a b c d e : Bool) → a && b && c && d && e ≡ true → a ≡ true
      first true b c d e h = refl
      first false b c d e h = h

      second : (a b c d e f g : Bool) → a && b && c && d && e && f && g ≡ true → b ≡ true
      second true true c d e f g h = refl
      second true false c d e f g h = h
      second false b c d e f g h = absurd (false≢true h)

  state-sampled : (air id : ℕ) → Sampled (sample_of_state records air id)
  unfolding sample_of_state choose
  state-sampled air id = go (eqb id air) (is_registered records id) (friction-within id)
    where
      go : (t u : Bool) → (u ≡ true → Within (friction_at records id) 16) → Sampled (choose t Air (choose u (Friction (friction_at records id)) Unregistered))
      go true u f = record { is = tt }
      go false true f = record { is = f refl }
      go false false f = record { is = tt }

  block-sampled : (air : ℕ) (b : Block) → Sampled (sample_of_block records air b)
  block-sampled air none = record { is = tt }
  block-sampled air (some id) = state-sampled air id

  pub sampled-within : (air : ℕ) (asked : Ask Block) → Finds Sampled (sampled records air asked)
  unfolding sampled
  sampled-within air asked = after asked _ (λ b. one _ (block-sampled air b))
