-- Every small scene of the table is as document 01 says, by computing. Assumes nothing.
use mathlib.Core.Path.{refl}
use lib.Ieee as I
use Rattle.base.specs.Choose as C
use Rattle.base.specs.Ask as A
use Rattle.base.specs.Every as EV
use Rattle.base.specs.Loop as LO
use Rattle.floats.specs.Numbers as N
use Rattle.wholes.specs.Whole as H
use Rattle.roots.specs.Root as R
use Rattle.sweeps.specs.Move as M
use Rattle.boxes.specs.Limits as L
use Rattle.sweeps.specs.Entry as E
use Rattle.sweeps.specs.Lists as LS
use Rattle.window.specs.Window as W
use Rattle.window.specs.Look as K
use Rattle.tables.specs.Tables as B
use Rattle.connect.specs.Connect as J
use Rattle.ranges.specs.Ranges as G
use Rattle.ranges.specs.Walk as D
use Rattle.boxes.specs.Vectors as X
use Rattle.flow.specs.Liquid as Q
use Rattle.flow.specs.Flow as F
use Rattle.liquids.specs.Flotation as U
use Rattle.liquids.specs.Living as Y
use Rattle.small_scenes.specs.Moves as T
use Rattle.small_scenes.specs.Palette as P
use Rattle.small_scenes.specs.Windows as Z
use Rattle.small_scenes.specs.Scenes as S
use Rattle.small_scenes.proofs.Tables.{tables-pass}

pub small-scenes : S.SmallScenes
unfolding C.choose LS.is_cap LS.cap_of N.size_of M.clip_all M.clip_sequence M.stepped_up M.move_over L.are_boxes E.move_over_list T.list_for S.holds S.all_of_hold S.scenes W.is_void W.index_of W.column_index_of W.heights_fit W.column_fits W.columns_fit EV.every W.sizes_fit W.coordinate_fits W.origin_fits W.window_fits W.window_refusal K.look_at B.is_registered J.connect_kind J.is_fence J.is_thin_or_wall J.opposite_face J.gate_decides J.gate_joins J.registered_connects J.side_word J.transition J.transitions J.post_transition J.straight J.raises J.raised_by J.joins J.post J.beside_neighbours J.connected_state P.off P.on P.fence P.wall LO.appended P.records Z.around Z.cells_around Z.flat Z.upright Z.flow_among A.asking A.turning H.floor_size H.floor_int H.cell_of R.has_root R.root_of R.root_raised R.root_from R.nearest_from B.blocks_motion B.kind_of B.liquid_of B.liquid_at G.span_of G.on_from D.line D.layer D.walk X.normalised Q.alike Q.liquid_held Q.blocks_liquid_flow F.step_beside F.step_below F.step_above F.unit_to F.effective_depth F.difference_to F.difference_below F.difference F.flowed_by F.walled_by F.side_flow F.side_of F.normalised_flow F.liquid_flow U.surface_at Y.shrunk Y.cells_of Y.surface_of Y.wet_in Y.living_turn Y.living_liquid I.to_bits I.of_bits I.of_int I.round I.add I.sub I.mul I.div I.neg I.lt I.le I.eq I.ne
small-scenes = record { tables = tables-pass; hold = refl }
