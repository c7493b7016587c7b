-- The body beside the fence meets the premises of `off-grid-window`, falling and walking: the tables pass their check, the window passes its own, the moves are
-- accepted, and nothing overlaps at the start. By computing; assumes nothing.
use mathlib.Core.Path.{◌≡◌, ap}
use mathlib.Core.Bool.{true, not, ◌&&◌}
use mathlib.Core.List.{List, [], ◌∷◌}
use Prim.Native.Nat.{ℕ, zero, suc}
use lib.Dec.{T, eqb}
use lib.ListN.{get_or}
use lib.Ieee.Fits.{and_l, and_r}
use lib.Ieee as I
use Rattle.base.specs.Choose as C
use Rattle.base.specs.Loop as O
use Rattle.base.specs.Ask as A
use Rattle.base.specs.Every as Y
use Rattle.floats.specs.Numbers as N
use Rattle.wholes.specs.Whole as W
use Rattle.boxes.specs.declared.Vec3.{Vec3}
use Rattle.boxes.specs.declared.Aabb.{Aabb}
use Rattle.boxes.specs.Limits as L
use Rattle.sweeps.specs.Entry.{MoveAnswer}
use Rattle.sweeps.specs.Lists as LS
use Rattle.sweeps.specs.Move as M
use Rattle.cover.proofs.Examples.{all_fit}
use Rattle.tables.specs.Tables as B
use Rattle.window.specs.Window as Wd
use Rattle.window.specs.Look as U
use Rattle.lent.specs.Lent.{unless, lent_refusal, direct_refusal}
use Rattle.ranges.specs.Ranges as R
use Rattle.ranges.specs.Walk as Q
use Rattle.connect.specs.Connect as J
use Rattle.collection.specs.Collect as K
use Rattle.collection.specs.Settled as Z
use Rattle.moves.specs.Answers as X
use Rattle.turns.specs.Turns as T
use Rattle.palette_states.specs.States as S
use Rattle.palette_boxes.specs.Shapes as H
use Rattle.palette.specs.Links as Lk
use Rattle.palette.specs.Palette as P
use Rattle.palette_check.proofs.Check.{passes}
use Rattle.grid.specs.Grid as G
use Rattle.grid.specs.Demand as D
use Rattle.off_grid.specs.Scaled.{slack, tight_slack, is_slight}
use Rattle.off_grid.specs.Demand.{TypedMove}
use Rattle.off_grid_window.specs.Demand as E
use Rattle.off_grid_window.proofs.Through.{off-grid-window, off-grid-window-tight}
use Rattle.off_grid_scene.specs.Scene as F

-- ---- the palette's boxes are of f32s
all-at : (l : List I.Float) → T (all_fit l) → (i : ℕ) → T (I.fits I.binary32 (get_or l i N.zero64))
unfolding all_fit I.fits I.of_bits
all-at [] t i = tt
all-at (x ∷ l) t zero = and_l (I.fits I.binary32 x) (all_fit l) t
all-at (x ∷ l) t (suc i) = all-at l (and_r (I.fits I.binary32 x) (all_fit l) t) i

all-fit : T (all_fit H.palette_shapes)
unfolding all_fit C.choose I.fits I.of_bits I.of_int I.div I.round H.palette_shapes H.boxes_of_state O.appended H.part_numbers H.has_part H.box_of_part H.by_kind H.post_edge H.arm_edge H.arm_length H.height S.kind S.index S.bit S.bit_at T.weight T.digit_at S.side_digit S.has_post
all-fit = tt

shapes-typed : E.TypedShapes H.palette_shapes
shapes-typed = record { numbers = all-at H.palette_shapes all-fit }

-- ---- the tables are taken; what is asked then computes
abbrev lent_to : ℕ
lent_to = C.choose (eqb (Wd.window_refusal F.fenced_cells F.fenced_window) 0) (C.choose (B.is_registered P.palette_records (F.fenced_window).air) 0 3) (Wd.window_refusal F.fenced_cells F.fenced_window)

taken : (delta : Vec3)
    → X.move_entry 0 P.palette_records H.palette_shapes F.fenced_cells F.fenced_window F.body_box delta F.step true
    ≡ X.move_answer F.body_box
    (unless (not (eqb lent_to 0)) lent_to
    (unless (not (LS.is_cap 0 && L.is_step F.step)) 3
    (unless (not (L.is_box F.body_box && L.is_delta delta)) 4
    (X.move_aabb (LS.cap_of 0) (U.look_at F.fenced_cells F.fenced_window) P.palette_records H.palette_shapes F.body_box delta F.step true))))
unfolding C.choose LS.is_cap lent_refusal direct_refusal X.move_entry
taken delta = rw passes

pub record Fair (delta : Vec3) : Type 0 where
  pub typed : TypedMove F.body_box delta F.step
  pub accepted : (X.move_entry 0 P.palette_records H.palette_shapes F.fenced_cells F.fenced_window F.body_box delta F.step true).refusal ≡ 0

pub premises : T (E.window_off_grid P.palette_records H.palette_shapes F.fenced_cells F.fenced_window F.body_box)
unfolding C.choose N.size_of O.listed A.turning Y.every W.floor_size W.floor_int W.cell_of B.is_registered B.boxes_at Wd.is_void Wd.index_of Wd.column_index_of U.look_at R.span_of R.on_from J.connect_kind J.is_fence J.is_thin_or_wall J.opposite_face J.gate_decides J.gate_joins J.registered_connects J.side_word J.transition J.transitions J.post_transition J.straight J.raises J.raised_by J.joins J.post J.beside_neighbours J.connected_state K.connected_shape K.shape_of K.cell_shape Z.settled_boxes G.is_free D.shape_passes D.every_column D.every_height D.every_place E.window_off_grid T.weight T.digit_at T.turned T.turned_at T.wall_link T.wall_turn S.kind S.index S.bit S.bit_at S.side_digit S.post_digit S.has_post Lk.fence_link Lk.link H.has_part H.one H.box_count_of H.first_box H.first_box_of H.boxes_of_state O.appended H.part_numbers H.box_of_part H.by_kind H.post_edge H.arm_edge H.arm_length H.height H.palette_shapes P.flags P.faces P.record_word P.palette_word P.palette_records F.fenced_window F.fenced_cells I.of_int I.of_bits I.round I.add I.sub I.mul I.div I.neg I.lt I.le I.eq I.ne
premises = tt

pub falling-fair : Fair F.falling
unfolding C.choose LS.is_cap LS.cap_of N.size_of O.listed A.turning Y.every W.floor_size W.floor_int W.cell_of M.clip_all M.clip_sequence M.stepped_up M.move_over B.is_registered B.boxes_at Wd.is_void Wd.index_of Wd.column_index_of Wd.sizes_fit Wd.coordinate_fits Wd.origin_fits Wd.heights_fit Wd.column_fits Wd.columns_fit Wd.window_fits Wd.window_refusal U.look_at R.span_of R.on_from Q.line Q.layer Q.walk J.connect_kind J.is_fence J.is_thin_or_wall J.opposite_face J.gate_decides J.gate_joins J.registered_connects J.side_word J.transition J.transitions J.post_transition J.straight J.raises J.raised_by J.joins J.post J.beside_neighbours J.connected_state K.connected_shape K.shape_of K.cell_shape K.offer_all K.visit K.collect_block_boxes X.move_aabb T.weight T.digit_at T.turned T.turned_at T.wall_link T.wall_turn S.kind S.index S.bit S.bit_at S.side_digit S.post_digit S.has_post Lk.fence_link Lk.link H.has_part H.one H.box_count_of H.first_box H.first_box_of H.boxes_of_state O.appended H.part_numbers H.box_of_part H.by_kind H.post_edge H.arm_edge H.arm_length H.height H.palette_shapes P.flags P.faces P.record_word P.palette_word P.palette_records F.fenced_window F.fenced_cells I.fits I.of_int I.of_bits I.round I.add I.sub I.mul I.div I.neg I.lt I.le I.eq I.ne
falling-fair = record { typed = record { box = tt; way = tt; step = tt }; accepted = ap (λ (r : MoveAnswer). r.refusal) (taken F.falling) }

pub walking-fair : Fair F.walking
unfolding C.choose LS.is_cap LS.cap_of N.size_of O.listed A.turning Y.every W.floor_size W.floor_int W.cell_of M.clip_all M.clip_sequence M.stepped_up M.move_over B.is_registered B.boxes_at Wd.is_void Wd.index_of Wd.column_index_of Wd.sizes_fit Wd.coordinate_fits Wd.origin_fits Wd.heights_fit Wd.column_fits Wd.columns_fit Wd.window_fits Wd.window_refusal U.look_at R.span_of R.on_from Q.line Q.layer Q.walk J.connect_kind J.is_fence J.is_thin_or_wall J.opposite_face J.gate_decides J.gate_joins J.registered_connects J.side_word J.transition J.transitions J.post_transition J.straight J.raises J.raised_by J.joins J.post J.beside_neighbours J.connected_state K.connected_shape K.shape_of K.cell_shape K.offer_all K.visit K.collect_block_boxes X.move_aabb T.weight T.digit_at T.turned T.turned_at T.wall_link T.wall_turn S.kind S.index S.bit S.bit_at S.side_digit S.post_digit S.has_post Lk.fence_link Lk.link H.has_part H.one H.box_count_of H.first_box H.first_box_of H.boxes_of_state O.appended H.part_numbers H.box_of_part H.by_kind H.post_edge H.arm_edge H.arm_length H.height H.palette_shapes P.flags P.faces P.record_word P.palette_word P.palette_records F.fenced_window F.fenced_cells I.fits I.of_int I.of_bits I.round I.add I.sub I.mul I.div I.neg I.lt I.le I.eq I.ne
walking-fair = record { typed = record { box = tt; way = tt; step = tt }; accepted = ap (λ (r : MoveAnswer). r.refusal) (taken F.walking) }

-- ---- so the theorem speaks of them: of every block box, at the bound that is asked and at the one that is proved
pub beside : (delta : Vec3) → Fair delta → (b : Aabb) → D.IsSettled P.palette_records H.palette_shapes F.fenced_cells F.fenced_window b
    → T (is_slight slack (X.move_entry 0 P.palette_records H.palette_shapes F.fenced_cells F.fenced_window F.body_box delta F.step true).result.aabb b)
beside delta f b c = off-grid-window 0 P.palette_records H.palette_shapes F.fenced_cells F.fenced_window F.body_box delta F.step true shapes-typed f.typed premises f.accepted b c

pub beside-tight : (delta : Vec3) → Fair delta → (b : Aabb) → D.IsSettled P.palette_records H.palette_shapes F.fenced_cells F.fenced_window b
    → T (is_slight tight_slack (X.move_entry 0 P.palette_records H.palette_shapes F.fenced_cells F.fenced_window F.body_box delta F.step true).result.aabb b)
beside-tight delta f b c = off-grid-window-tight 0 P.palette_records H.palette_shapes F.fenced_cells F.fenced_window F.body_box delta F.step true shapes-typed f.typed premises f.accepted b c
