-- The moves of the run are those of the sample, by computing each step; so the theorem says what its record is. Assumes nothing.
use mathlib.Core.Bool.{Bool, true, false}
use mathlib.Core.List.{List, [], ◌∷◌}
use mathlib.Core.Path.{◌≡◌, refl, sym, ap, ◌∙◌, subst}
use lib.Dec.{eqb}
use lib.Ieee as I
use lib.IntN.{negsuc}
use lib.Ieee.{Float, fin}
use Rattle.base.specs.Choose as C
use Rattle.base.specs.Choose.{choose}
use Rattle.base.specs.Ask as A
use Rattle.base.specs.Loop as LO
use Rattle.base.specs.Every as EV
use Rattle.floats.specs.Numbers as N
use Rattle.wholes.specs.Whole as H
use Rattle.sweeps.specs.Move as M
use Rattle.sweeps.specs.Lists as LS
use Rattle.boxes.specs.Limits.{two_to}
use Rattle.tables.specs.declared.LiquidKind.TheVariants.{None, Water}
use Rattle.ranges.specs.Ranges as G
use Rattle.ranges.specs.Cells as GC
use Rattle.ranges.specs.Walk as D
use Rattle.tables.specs.Tables as B
use Rattle.window.specs.Window as W
use Rattle.window.specs.Look as K
use Rattle.lent.specs.Lent as L
use Rattle.lent.specs.Lent.{lent_refusal}
use Rattle.connect.specs.Connect as J
use Rattle.solids.specs.Shapes as SH
use Rattle.collection.specs.Collect as CO
use Rattle.through.specs.Through as MA
use Rattle.flow.specs.Liquid as Q
use Rattle.liquids.specs.Flotation as U
use Rattle.liquids.specs.Living as Y
use Rattle.bodies.specs.declared.MotionNumbers.{MotionNumbers}
use Rattle.bodies.specs.Body as BB
use Rattle.bodies.specs.Body.{is_yes}
use Rattle.bodies.specs.Limits as BL
use Rattle.drags.specs.Drags as DR
use Rattle.samples.specs.Samples as SA
use Rattle.ticks.specs.Step as TS
use Rattle.step_answers.specs.Records.{StepAnswer}
use Rattle.step.specs.Answers as SE
use Rattle.step.specs.Answers.{step_answer, checked_asked, step_entry}
use Rattle.small_scenes.specs.Moves.{whole}
use Rattle.small_scenes.specs.Palette as P
use Rattle.small_scenes.specs.Palette.{records, shapes}
use Rattle.small_scenes.proofs.Tables.{tables-pass}
use Rattle.fall_rule.specs.declared.Fall.{Fall}
use Rattle.fall_rule.specs.Rule.{fall_of, fresh}
use Rattle.falls.specs.Moves.{Move, Fallen, StepCall, played, step_of, moves_of}
use Rattle.falls.specs.Samples.{hundredths, move, sample, since_swim, to_landing}
use Rattle.falls.proofs.Moves.{fallen-one}
use Rattle.falls.proofs.Steps.{steps-fallen}
use Rattle.falls.proofs.Samples.{sample-fallen}
use Rattle.fall_scenes.specs.Run.{cube_column, water_column, bare_column, body, rules, world, cells, at, on_the_way, call_of, calls, run}

-- tables and window pass their checks
passes : lent_refusal records shapes cells world ≡ 0
unfolding L.lent_refusal C.choose EV.every W.sizes_fit W.coordinate_fits W.origin_fits W.heights_fit W.column_fits W.columns_fit W.window_fits W.window_refusal
passes = rw tables-pass

-- so each step is the step without their check
abbrev answer : MotionNumbers → StepAnswer
answer m = step_answer m (checked_asked records shapes cells world rules body m 0)

answered : (m : MotionNumbers) → step_of (call_of m) ≡ answer m
unfolding step_entry choose
answered m = rw passes

abbrev move_by : MotionNumbers → StepAnswer → Move
move_by m a = record { old = m.feet.y; new = a.motion.feet.y; on_ground = is_yes a.motion.on_ground; liquid = a.liquid }

-- a step is accepted, and its move is this
record Goes (m : MotionNumbers) (v : Move) : Type 0 where
  accepted : (answer m).refusal ≡ 0
  moved : move_by m (answer m) ≡ v

then : (m : MotionNumbers) (v : Move) (ms : List MotionNumbers) (vs : List Move) → Goes m v → moves_of (calls ms) ≡ vs → moves_of (calls (m ∷ ms)) ≡ v ∷ vs
unfolding moves_of calls C.choose
then m v ms vs g e = rw (answered m, g.accepted, g.moved, e)

passed : (m : MotionNumbers) (ms : List MotionNumbers) → (answer m).refusal ≡ 4 → moves_of (calls (m ∷ ms)) ≡ moves_of (calls ms)
unfolding moves_of calls C.choose
passed m ms e = rw (answered m, e)

-- 5.65 and 5.45 as f64: written out, so that computing does not compare two ways of rounding them
abbrev high : Float
high = fin false 3180667236830413 (negsuc 48)

abbrev low : Float
low = fin false 6136154492292301 (negsuc 49)

-- each step
record Computed : Type 0 where
  first : Goes (on_the_way cube_column 1000 800) (move 1000 800 false None)
  second : Goes (on_the_way cube_column 800 650) (move 800 650 false None)
  lands : Goes (on_the_way cube_column 650 100) (move 650 600 true None)
  away : (answer (at cube_column (two_to 26) (whole 0))).refusal ≡ 4
  swims : Goes (on_the_way water_column 600 575) (move 600 575 false Water)
  third : Goes (on_the_way bare_column 575 565) record { old = hundredths 575; new = high; on_ground = false; liquid = None }
  fourth : Goes (on_the_way bare_column 565 545) record { old = hundredths 565; new = low; on_ground = false; liquid = None }

computed : Computed
unfolding C.choose LS.is_cap LS.cap_of LO.listed A.asking A.turning N.size_of H.floor_size H.floor_int H.cell_of M.clip_all M.clip_sequence M.stepped_up M.move_over G.span_of G.on_from GC.cell_holding D.line D.layer D.walk B.is_registered B.blocks_motion B.friction_at B.kind_of B.liquid_of B.liquid_at B.boxes_at W.is_void W.index_of W.column_index_of K.look_at J.connect_kind J.connected_state SH.connected_shape SH.shape_of SH.cell_shape CO.offer_all CO.visit CO.collect_block_boxes MA.move_aabb Q.liquid_held U.surface_at Y.shrunk Y.cells_of Y.surface_of Y.wet_in Y.living_turn Y.living_liquid BB.model_of BB.stage_of BB.friction_of BB.is_yes BB.yes_number BB.flap_of BB.body_of BB.motion_of BL.is_extent BL.is_small BL.measures_fit BL.cases_fit BL.rules_fit BL.numbers_are_fit BL.is_position BL.is_velocity BL.motion_fits BL.number_refusal DR.sunk DR.flapped DR.damped DR.floated DR.rests_now DR.pulled DR.unless_stopped SA.sample_of_state SA.told SA.sampled SA.living_sample SA.living_support SA.support_after TS.tick_after TS.after_move TS.move_on_by TS.tick_begins TS.senses TS.step_body_by TS.step_body_sensed P.off P.on P.fence P.wall LO.appended P.records P.shapes I.to_bits I.of_bits I.of_int I.round I.add I.sub I.mul I.div I.neg I.lt I.le I.eq I.ne
computed =
    record {
      first = record { accepted = refl; moved = refl };
      second = record { accepted = refl; moved = refl };
      lands = record { accepted = refl; moved = refl };
      away = refl;
      swims = record { accepted = refl; moved = refl };
      third = record { accepted = refl; moved = refl };
      fourth = record { accepted = refl; moved = refl };
    }

ended : moves_of (calls []) ≡ []
unfolding moves_of calls
ended = refl

pub run-moves : moves_of run ≡ sample
unfolding I.round
run-moves =
    then _ _ _ _ computed.first
    (then _ _ _ _ computed.second
    (then _ _ _ _ computed.lands
    (passed _ _ computed.away
    ∙ then _ _ _ _ computed.swims
    (then _ _ _ _ computed.third
    (then _ _ _ _ computed.fourth ended)))))

-- the record that the run leaves
pub run-leaves : played fresh run ≡ fall_of since_swim to_landing
run-leaves =
    fallen-one sample (played fresh run) (fall_of since_swim to_landing) (subst (λ (ms : List Move). Fallen ms (played fresh run)) run-moves (steps-fallen run)) sample-fallen
