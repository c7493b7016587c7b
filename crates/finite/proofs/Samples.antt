-- The samples of specs/Samples.antt, by computing: bounds of the request are reached, and tables must be checked. Assumes nothing.
use mathlib.Core.Bool.{true}
use mathlib.Core.Path.{◌≡◌, refl, subst}
use lib.Ieee as I
use Rattle.base.specs.Choose as C
use Rattle.base.specs.Ask as A
use Rattle.base.specs.Every as EV
use Rattle.base.specs.Loop as LO
use Rattle.floats.specs.Numbers as N
use Rattle.wholes.specs.Whole as H
use Rattle.sweeps.specs.Lists as LS
use Rattle.sweeps.specs.Move as M
use Rattle.tables.specs.Tables as B
use Rattle.window.specs.Window as W
use Rattle.window.specs.Look as K
use Rattle.lent.specs.Lent as L
use Rattle.lent.specs.Lent.{lent_refusal}
use Rattle.ranges.specs.Ranges as G
use Rattle.ranges.specs.Cells as GC
use Rattle.ranges.specs.Walk as D
use Rattle.connect.specs.Connect as J
use Rattle.solids.specs.Shapes as SH
use Rattle.groups.specs.Places as GR
use Rattle.passing.specs.Passing as PS
use Rattle.collection.specs.Collect as CO
use Rattle.collection.specs.Past as PA
use Rattle.through.specs.Through as MA
use Rattle.flow.specs.Liquid as Q
use Rattle.liquids.specs.Flotation as U
use Rattle.liquids.specs.Living as Y
use Rattle.bodies.specs.Body as BB
use Rattle.bodies.specs.Limits as BL
use Rattle.drags.specs.Drags as DR
use Rattle.samples.specs.Samples as SA
use Rattle.ticks.specs.Step as TS
use Rattle.step_answers.specs.Records.{StepAnswer}
use Rattle.step.specs.Answers as SE
use Rattle.step.specs.Answers.{checked_entry}
use Rattle.step.proofs.Laws.{checked-alike}
use Rattle.small_scenes.specs.Palette as P
use Rattle.small_scenes.proofs.Tables.{tables-pass}
use Rattle.finite.specs.Samples as S

-- no smaller number bounds a move
pub goes-farthest : S.is_farthest S.gone ≡ true
unfolding S.is_farthest C.choose N.size_of M.clip_all M.clip_sequence M.stepped_up M.move_over I.of_bits I.round I.add I.sub I.mul I.neg I.lt I.le I.eq I.ne
goes-farthest = refl

-- ---- nor a step's velocity
passes : lent_refusal P.records P.shapes S.low_cells S.low ≡ 0
unfolding L.lent_refusal C.choose EV.every W.sizes_fit W.coordinate_fits W.origin_fits W.heights_fit W.column_fits W.columns_fit W.window_fits W.window_refusal
passes = rw tables-pass

abbrev dived : StepAnswer
dived = checked_entry P.records P.shapes S.low_cells S.low S.plain_rules S.diver S.diving 0

is-fastest : S.is_fastest dived ≡ true
unfolding S.is_fastest C.choose LO.listed A.asking A.turning N.size_of H.floor_size H.floor_int H.cell_of M.clip_all M.clip_sequence M.stepped_up M.move_over G.span_of G.on_from GC.cell_holding D.line D.layer D.walk B.is_registered B.blocks_motion B.friction_at B.kind_of B.liquid_of B.liquid_at B.boxes_at W.is_void W.index_of W.column_index_of K.look_at J.connect_kind J.connected_state SH.connected_shape SH.shape_of SH.cell_shape CO.offer_all CO.visit PA.layer_past PA.walk_past PA.collect_past PS.reach_in PS.passes_by GR.layout_of MA.move_aabb_past LS.is_cap LS.cap_of W.sizes_fit Q.liquid_held U.surface_at Y.shrunk Y.cells_of Y.surface_of Y.wet_in Y.living_turn Y.living_liquid BB.model_of BB.stage_of BB.friction_of BB.is_yes BB.yes_number BB.flap_of BB.body_of BB.motion_of BL.is_extent BL.is_small BL.measures_fit BL.cases_fit BL.rules_fit BL.numbers_are_fit BL.is_position BL.is_velocity BL.motion_fits BL.number_refusal DR.sunk DR.flapped DR.damped DR.floated DR.rests_now DR.pulled DR.unless_stopped SA.sample_of_state SA.told SA.sampled SA.living_sample SA.living_support SA.support_after TS.tick_after TS.after_move TS.move_on_by TS.tick_begins TS.senses TS.step_body_by SE.checked_entry P.off P.on P.fence P.wall LO.appended P.records P.shapes I.to_bits I.of_bits I.of_int I.round I.add I.sub I.mul I.div I.neg I.lt I.le I.eq I.ne
is-fastest = refl

pub dives-fastest : S.is_fastest S.dive ≡ true
dives-fastest = subst (λ (a : StepAnswer). S.is_fastest a ≡ true) (checked-alike P.records P.shapes S.low_cells S.low S.plain_rules S.diver S.diving 0 passes) is-fastest

-- ---- and tables must be checked
pub without-the-check : S.Slid
unfolding C.choose LO.listed A.asking A.turning N.size_of H.floor_size H.floor_int H.cell_of M.clip_all M.clip_sequence M.stepped_up M.move_over G.span_of G.on_from GC.cell_holding D.line D.layer D.walk B.is_registered B.blocks_motion B.friction_at B.kind_of B.liquid_of B.liquid_at B.boxes_at W.is_void W.index_of W.column_index_of K.look_at J.connect_kind J.connected_state SH.connected_shape SH.shape_of SH.cell_shape CO.offer_all CO.visit PA.layer_past PA.walk_past PA.collect_past PS.reach_in PS.passes_by GR.layout_of MA.move_aabb_past LS.is_cap LS.cap_of W.sizes_fit Q.liquid_held BB.model_of BB.stage_of BB.friction_of BB.is_yes BB.yes_number BB.flap_of BB.body_of BB.motion_of BL.is_extent BL.is_small BL.measures_fit BL.cases_fit BL.rules_fit BL.numbers_are_fit BL.is_position BL.is_velocity BL.motion_fits BL.number_refusal DR.pulled DR.unless_stopped SA.sample_of_state SA.told SA.sampled SA.supporting_friction SA.support_after TS.tick_after TS.after_move TS.move_on_by TS.tick_begins TS.senses TS.step_body_by SE.checked_entry P.shapes I.to_bits I.of_bits I.of_int I.round I.add I.sub I.mul I.div I.neg I.lt I.le I.eq I.ne
without-the-check = record { fits = record { accepted = refl; velocity = refl }; bad = record { accepted = refl; velocity = refl } }
