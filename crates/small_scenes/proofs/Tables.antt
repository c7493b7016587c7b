-- The palette's tables pass their check. Word 19 is defined over every cell of the unit square, which nobody counts out; on f32s it is what the search
-- for gaps answers, and with that put in its place the check computes. Assumes nothing.
use mathlib.Core.Path.{◌≡◌, refl, ◌∙◌}
use mathlib.Core.Bool.{Bool, true, false, ◌&&◌}
use mathlib.Core.List.{List, [], ◌∷◌}
use Prim.Native.Nat.{ℕ, zero, suc, ◌+◌, ◌*◌}
use lib.Dec.{T, eqb, leb}
use lib.ListN.{take, drop}
use lib.Ieee as I
use lib.Ieee.{Float}
use lib.Ieee.Fits.{and_i, and_l, and_r}
use Rattle.base.specs.Choose.{choose}
use Rattle.base.specs.Every.{every, any}
use Rattle.base.specs.Loop.{appended}
use Rattle.base.proofs.Tests.{every-same}
use Rattle.floats.specs.Numbers as N
use Rattle.cover.specs.declared.Side.TheVariants.{North, East, South, West}
use Rattle.cover.specs.Cover as O
use Rattle.cover.specs.Cover.{box_count}
use Rattle.cover.specs.Gaps as G
use Rattle.cover.specs.Gaps.{covers_by_search}
use Rattle.cover.proofs.Examples.{all_fit, full-search}
use Rattle.tables.specs.Tables as B
use Rattle.tables.specs.Tables.{word_at, boxes_at, state_boxes}
use Rattle.table_check.specs.Check as K
use Rattle.table_check.specs.Check.{tables_fit, table_refusal}
use Rattle.small_scenes.specs.Palette as P

-- ---- a state's boxes are f32s where all are
fit-take : (n : ℕ) (l : List Float) → T (all_fit l) → T (all_fit (take n l))
unfolding all_fit
fit-take zero l t = tt
fit-take (suc n) [] t = tt
fit-take (suc n) (x ∷ l) t = and_i (I.fits I.binary32 x) (all_fit (take n l)) (and_l (I.fits I.binary32 x) (all_fit l) t) (fit-take n l (and_r (I.fits I.binary32 x) (all_fit l) t))

fit-drop : (n : ℕ) (l : List Float) → T (all_fit l) → T (all_fit (drop n l))
unfolding all_fit
fit-drop zero l t = t
fit-drop (suc n) [] t = tt
fit-drop (suc n) (x ∷ l) t = fit-drop n l (and_r (I.fits I.binary32 x) (all_fit l) t)

fit-part : (shapes : List Float) (first count : ℕ) → T (all_fit shapes) → T (all_fit (boxes_at shapes first count))
unfolding boxes_at choose all_fit
fit-part shapes first count t = go (leb (first + count) (box_count shapes))
  where
    go : (b : Bool) → T (all_fit (choose b (take (count * 6) (drop (first * 6) shapes)) []))
    go true = fit-take (count * 6) (drop (first * 6) shapes) (fit-drop (first * 6) shapes t)
    go false = tt

-- ---- the check, with word 19 by the search
abbrev searched : List Float → ℕ
searched l = choose (covers_by_search l North) 1 0 + choose (covers_by_search l East) 2 0 + choose (covers_by_search l South) 4 0 + choose (covers_by_search l West) 8 0

abbrev record_searched : List ℕ → List Float → ℕ → Bool
record_searched records shapes state =
    K.words_fit records state
    && K.state_boxes_fit records shapes state
    && K.links_fit records state
    && eqb (word_at records state 19) (searched (state_boxes records shapes state))
    && K.registered_or_zero records state

record-searched : (records : List ℕ) (shapes : List Float) (state : ℕ) → T (all_fit shapes) → K.record_fits records shapes state ≡ record_searched records shapes state
unfolding K.record_fits K.faces_fit
record-searched records shapes state t =
    rw (full-search (state_boxes records shapes state) (fit-part shapes (word_at records state 7) (word_at records state 8) t))

pub tables-searched : (records : List ℕ) (shapes : List Float) → T (all_fit shapes)
    → tables_fit records shapes ≡ (K.table_counts_fit records shapes && every (K.state_count records) (record_searched records shapes) && every (box_count shapes) (K.box_fits shapes))
unfolding tables_fit
tables-searched records shapes t =
    rw (every-same (K.record_fits records shapes) (record_searched records shapes) (λ i. record-searched records shapes i t) (K.state_count records))

pub tables-fit : tables_fit P.records P.shapes ≡ true
unfolding choose every any N.size_of all_fit I.fits O.on_face O.u_place G.spans_line G.has_point G.is_inner G.has_gap_at G.gap_past G.any_gap G.gap_on_line G.gap_on_face G.covers_by_search B.is_registered B.friction_at B.boxes_at K.table_counts_fit K.words_fit K.state_boxes_fit K.all_zero K.leads_on K.all_lead_on K.posts_stay K.links_fit K.registered_or_zero K.side_fits K.box_fits P.off P.on P.fence P.wall appended P.records P.shapes I.is_nan I.of_bits I.lt I.le I.eq
tables-fit = tables-searched P.records P.shapes tt ∙ refl

pub tables-pass : table_refusal P.records P.shapes ≡ 0
unfolding choose
tables-pass = rw tables-fit
