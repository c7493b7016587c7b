-- `scene_anew::rewrite` meets its contract. Assumes nothing.
use Rattle.std.proofs.lemmas.Result.{err_from_is_err_and}
use Rattle.writer.specs.Written.{bytes_told}
use Rattle.scene_anew.proofs.Scenes.{not-rewritten, rewritten-by}
use Rattle.scene_anew.proofs.rewrite.Goals as goal

pub returns-in_err-n : goal.returns-in_err-n
returns-in_err-n c =
    let both = not-rewritten c.args.file.now c.args.out.now _ c.in_err-n.ensures in
    let p = err_from_is_err_and c.from_residual.result c.from_residual.ensures.1 in
    rw (p.1, p.2) record { out_after = both.0; value = both.1 }

pub returns : goal.returns
returns c =
    let both = rewritten-by c.args.file.now c.args.out.now _ _ (bytes_told c.write_in.result) c.in_ok-n.ensures c.write_in.ensures.out_after c.write_in.ensures.value in
    record { out_after = both.0; value = both.1 }
