-- `log_writer::write_log` meets its contract. Assumes nothing.
use Rattle.std.proofs.Common.{rules, refl}
use Rattle.std.proofs.lemmas.Result.{err_from_is_err_and}
use Rattle.base.proofs.Answers.{some_number}
use Rattle.log_writer.proofs.Puts.{few-of, log-refused, log-put}
use Rattle.log_writer.proofs.write_log.Goals as goal

pub returns-in_err-check_log : goal.returns-in_err-check_log
returns-in_err-check_log c =
    let both = log-refused _ _ _ c.in_err-check_log.ensures (some_number _) in
    let p = err_from_is_err_and c.from_residual.result c.from_residual.ensures.1 in
    rw (p.1, p.2) record { out_after = both.0; value = both.1 }

pub overflow_cast-scene : goal.overflow_cast-scene
overflow_cast-scene c = let f = few-of _ _ _ _ _ c.in_ok-check_log.ensures refl c.scene_blocks_in-scene.ensures c.log_blocks-behind.ensures in search rules

pub overflow_cast-behind : goal.overflow_cast-behind
overflow_cast-behind c = let f = few-of _ _ _ _ _ c.in_ok-check_log.ensures refl c.scene_blocks_in-scene.ensures c.log_blocks-behind.ensures in search rules

pub overflow_add-result : goal.overflow_add-result
overflow_add-result c = let f = few-of _ _ _ _ _ c.in_ok-check_log.ensures refl c.scene_blocks_in-scene.ensures c.log_blocks-behind.ensures in search rules

pub overflow_mul-result : goal.overflow_mul-result
overflow_mul-result c = let f = few-of _ _ _ _ _ c.in_ok-check_log.ensures refl c.scene_blocks_in-scene.ensures c.log_blocks-behind.ensures in search rules

pub returns : goal.returns
returns c = let both = log-put _ _ _ c.in_ok-check_log.ensures _ _ _ refl c.scene_blocks_in-scene.ensures c.log_blocks-behind.ensures (rw c.log_part.ensures at c.put_words.ensures) in record { out_after = both.0; value = both.1 }
