-- `log_writer::check_log` meets its contract. Assumes nothing.
use Rattle.std.proofs.Common.{rules}
use Rattle.logs.proofs.Files.{scene-most}
use Rattle.log_writer.proofs.check_log.Goals as goal

pub overflow_add-scene : goal.overflow_add-scene
overflow_add-scene c =
    let m = scene-most c.args.out.now in
    let s = c.scene_blocks_in-scene.ensures in
    let l = c.log_blocks-behind.ensures in
    search rules
