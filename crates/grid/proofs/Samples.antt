-- The premises of demand 3 are not empty: P1 and P4 meet them over a list and through a window, and P1 above the world too; P1 keeps no step-up, P4
-- keeps one. By computing; assumes nothing.
use mathlib.Core.Path.{◌≡◌, refl, ap}
use mathlib.Core.Bool.{Bool, true, false, not, ◌&&◌}
use mathlib.Core.List.{List}
use Prim.Native.Nat.{ℕ}
use lib.Dec.{T, eqb}
use lib.Ieee as I
use Rattle.base.specs.Choose as C
use Rattle.base.specs.Loop as O
use Rattle.base.specs.Ask as A
use Rattle.base.specs.Every as Y
use Rattle.floats.specs.Numbers as N
use Rattle.wholes.specs.Whole as H
use Rattle.sweeps.specs.Entry.{MoveAnswer}
use Rattle.sweeps.specs.Move as M
use Rattle.boxes.specs.Limits as L
use Rattle.sweeps.specs.Entry as E
use Rattle.sweeps.specs.Lists as LS
use Rattle.tables.specs.Tables as B
use Rattle.window.specs.declared.Window.{Window}
use Rattle.window.specs.Window as W
use Rattle.window.specs.Look as U
use Rattle.lent.specs.Lent.{unless, lent_refusal, direct_refusal}
use Rattle.ranges.specs.Ranges as R
use Rattle.ranges.specs.Walk as Q
use Rattle.connect.specs.Connect as J
use Rattle.collection.specs.Collect as P
use Rattle.collection.specs.Settled as Z
use Rattle.moves.specs.Answers as X
use Rattle.grid.specs.Grid as G
use Rattle.grid.specs.Demand as D
use Rattle.grid.specs.Samples as S
use Rattle.small_scenes.specs.Moves as F
use Rattle.small_scenes.specs.Palette as T
use Rattle.small_scenes.proofs.Tables.{tables-fit}

-- ---- over a list
pub record Fair (s : F.MoveScene) (steps_up : Bool) : Type 0 where
  pub on_grid : T (D.list_on_grid (F.list_for s.boxes) F.mover s.delta s.step)
  pub accepted : (E.move_over_list 0 (F.list_for s.boxes) F.mover s.delta s.step s.on_ground).refusal ≡ 0
  pub kept : D.keeps_step s.boxes F.mover s.delta s.step s.on_ground ≡ steps_up

pub sliding-fair : Fair F.p1 false
unfolding C.choose LS.is_cap LS.cap_of N.size_of M.clip_all M.clip_sequence M.stepped_up M.move_over L.are_boxes E.move_over_list G.on_grid G.is_proper G.are_proper G.is_free F.list_for D.list_on_grid D.keeps_step I.of_bits I.round I.add I.sub I.mul I.neg I.lt I.le I.eq I.ne
sliding-fair = record { on_grid = tt; accepted = refl; kept = refl }

pub climbing-fair : Fair F.p4 true
unfolding C.choose LS.is_cap LS.cap_of N.size_of M.clip_all M.clip_sequence M.stepped_up M.move_over L.are_boxes E.move_over_list G.on_grid G.is_proper G.are_proper G.is_free F.list_for D.list_on_grid D.keeps_step I.of_bits I.round I.add I.sub I.mul I.neg I.lt I.le I.eq I.ne
climbing-fair = record { on_grid = tt; accepted = refl; kept = refl }

-- ---- through a window
pub record FairIn (w : Window) (cells : List ℕ) (s : F.MoveScene) (steps_up : Bool) : Type 0 where
  pub on_grid : T (D.window_on_grid T.records T.shapes cells w F.mover s.delta s.step)
  pub accepted : (X.move_entry 0 T.records T.shapes cells w F.mover s.delta s.step s.on_ground).refusal ≡ 0
  pub kept : D.keeps_step_in 0 T.records T.shapes cells w F.mover s.delta s.step s.on_ground ≡ steps_up

-- the tables are taken; what is asked then computes
abbrev lent_to : List ℕ → Window → ℕ
lent_to cells w = C.choose (eqb (W.window_refusal cells w) 0) (C.choose (B.is_registered T.records w.air) 0 3) (W.window_refusal cells w)

taken : (w : Window) (cells : List ℕ) (s : F.MoveScene)
    → X.move_entry 0 T.records T.shapes cells w F.mover s.delta s.step s.on_ground
    ≡ X.move_answer F.mover
    (unless (not (eqb (lent_to cells w) 0)) (lent_to cells w)
    (unless (not (L.is_step s.step)) 3
    (unless (not (L.is_box F.mover && L.is_delta s.delta)) 4
    (X.move_aabb (LS.cap_of 0) (U.look_at cells w) T.records T.shapes F.mover s.delta s.step s.on_ground))))
unfolding C.choose LS.is_cap lent_refusal direct_refusal X.move_entry
taken w cells s = rw tables-fit

pub sliding-through : FairIn S.sample_window S.sliding_cells F.p1 false
unfolding C.choose LS.is_cap LS.cap_of N.size_of O.listed A.turning Y.every H.floor_size H.floor_int H.cell_of M.clip_all M.clip_sequence M.stepped_up M.move_over B.is_registered B.boxes_at W.is_void W.index_of W.column_index_of W.sizes_fit W.coordinate_fits W.origin_fits W.heights_fit W.column_fits W.columns_fit W.window_fits W.window_refusal U.look_at R.span_of R.on_from Q.line Q.layer Q.walk J.connect_kind J.connected_state P.connected_shape P.shape_of P.cell_shape P.offer_all P.visit P.collect_block_boxes Z.settled_boxes X.move_aabb G.on_grid G.is_proper G.is_free D.shape_passes D.every_column D.every_height D.every_place D.window_on_grid D.keeps_step D.keeps_step_in T.records T.shapes S.sample_window S.sliding_cells I.of_int I.of_bits I.round I.add I.sub I.mul I.neg I.lt I.le I.eq I.ne
sliding-through = record { on_grid = tt; accepted = ap (λ (r : MoveAnswer). r.refusal) (taken S.sample_window S.sliding_cells F.p1); kept = refl }

pub climbing-through : FairIn S.sample_window S.climbing_cells F.p4 true
unfolding C.choose LS.is_cap LS.cap_of N.size_of O.listed A.turning Y.every H.floor_size H.floor_int H.cell_of M.clip_all M.clip_sequence M.stepped_up M.move_over B.is_registered B.boxes_at W.is_void W.index_of W.column_index_of W.sizes_fit W.coordinate_fits W.origin_fits W.heights_fit W.column_fits W.columns_fit W.window_fits W.window_refusal U.look_at R.span_of R.on_from Q.line Q.layer Q.walk J.connect_kind J.connected_state P.connected_shape P.shape_of P.cell_shape P.offer_all P.visit P.collect_block_boxes Z.settled_boxes X.move_aabb G.on_grid G.is_proper G.is_free D.shape_passes D.every_column D.every_height D.every_place D.window_on_grid D.keeps_step D.keeps_step_in T.records T.shapes S.sample_window S.climbing_cells I.of_int I.of_bits I.round I.add I.sub I.mul I.neg I.lt I.le I.eq I.ne
climbing-through = record { on_grid = tt; accepted = ap (λ (r : MoveAnswer). r.refusal) (taken S.sample_window S.climbing_cells F.p4); kept = refl }

-- above the highest cell, beside a column that is not loaded
pub sky-through : FairIn S.sky_window S.sky_cells F.p1 false
unfolding C.choose LS.is_cap LS.cap_of N.size_of O.listed A.turning Y.every H.floor_size H.floor_int H.cell_of M.clip_all M.clip_sequence M.stepped_up M.move_over B.is_registered B.boxes_at W.is_void W.index_of W.column_index_of W.sizes_fit W.coordinate_fits W.origin_fits W.heights_fit W.column_fits W.columns_fit W.window_fits W.window_refusal U.look_at R.span_of R.on_from Q.line Q.layer Q.walk J.connect_kind J.connected_state P.connected_shape P.shape_of P.cell_shape P.offer_all P.visit P.collect_block_boxes Z.settled_boxes X.move_aabb G.on_grid G.is_proper G.is_free D.shape_passes D.every_column D.every_height D.every_place D.window_on_grid D.keeps_step D.keeps_step_in T.records T.shapes S.sky_window S.sky_cells I.of_int I.of_bits I.round I.add I.sub I.mul I.neg I.lt I.le I.eq I.ne
sky-through = record { on_grid = tt; accepted = ap (λ (r : MoveAnswer). r.refusal) (taken S.sky_window S.sky_cells F.p1); kept = refl }
