-- `writer::write_checked` meets its contract. Assumes nothing.
use Rattle.std.proofs.Common.{rules}
use Rattle.std.proofs.lemmas.Result.{err_from_is_err_and}
use mathlib.Core.Path.{refl, ap, ◌∙◌}
use native.Mathlib.Omega.{arith}
use lib.ListN.{length}
use Rattle.base.proofs.Answers.{some_number}
use Rattle.base.proofs.Stored.{stored-length}
use Rattle.files.specs.Contents.{contents_of}
use Rattle.scene_room.proofs.Rooms.{room_fits}
use Rattle.writer.proofs.Puts.{no_room, room-refused, room-written}
use Rattle.writer.proofs.write_checked.Goals as goal

pub returns-in_err-n : goal.returns-in_err-n
returns-in_err-n c =
    let t = c.in_err-n.ensures in
    let p = err_from_is_err_and c.from_residual.result c.from_residual.ensures.1 in
    let both = no_room (contents_of c.args.tables.records.now c.args.tables.shapes.now c.args.view.words.now c.args.view.window c.args.numbers.now c.args.words.now c.args.age) _ t.1 in
    rw (p.1, p.2) record { out_after = both.0; value = rw t.0 both.1 }

pub returns-in_err-check_room : goal.returns-in_err-check_room
returns-in_err-check_room c =
    let both = room-refused (contents_of c.args.tables.records.now c.args.tables.shapes.now c.args.view.words.now c.args.view.window c.args.numbers.now c.args.words.now c.args.age) _ _ _ _ c.in_ok-n.ensures c.blocks_for-blocks.ensures c.in_err-check_room.ensures (some_number _) in
    let p = err_from_is_err_and c.from_residual-in_err-check_room.result c.from_residual-in_err-check_room.ensures.1 in
    rw (p.1, p.2) record { out_after = both.0; value = both.1 }

pub put_scene-requires : goal.put_scene-requires
put_scene-requires c =
    let f = room_fits _ _ _ c.in_ok-check_room.ensures refl in let b = c.blocks_for-blocks.ensures in (omega arith, omega arith)

pub overflow_mul-result : goal.overflow_mul-result
overflow_mul-result c =
    let f = room_fits _ _ _ c.in_ok-check_room.ensures refl in search rules

pub shape_of-out : goal.shape_of-out
shape_of-out c =
    ap length c.put_scene.ensures ∙ stored-length _ _ _

pub returns : goal.returns
returns c =
    let both = room-written (contents_of c.args.tables.records.now c.args.tables.shapes.now c.args.view.words.now c.args.view.window c.args.numbers.now c.args.words.now c.args.age) _ _ _ _ c.in_ok-n.ensures c.blocks_for-blocks.ensures c.in_ok-check_room.ensures _ refl c.put_scene.ensures in
    record { out_after = both.0; value = both.1 }
