-- `writer::write_scene` meets its contract. Assumes nothing.
use Rattle.std.proofs.lemmas.Result.{err_from_is_err_and}
use mathlib.Core.Path.{refl, ap, ◌∙◌}
use lib.ListN.{length}
use Rattle.base.proofs.Answers.{some_number}
use Rattle.files.specs.Contents.{contents_of}
use Rattle.writer.specs.Written.{bytes_told}
use Rattle.writer.proofs.Puts.{contents-refused, contents-fit, written-length}
use Rattle.writer.proofs.write_scene.Goals as goal

pub returns-in_err-check_contents : goal.returns-in_err-check_contents
returns-in_err-check_contents c =
    let both = contents-refused (contents_of c.args.tables.records.now c.args.tables.shapes.now c.args.view.words.now c.args.view.window c.args.numbers.now c.args.words.now c.args.age) _ _ c.in_err-check_contents.ensures (some_number _) in
    let p = err_from_is_err_and c.from_residual.result c.from_residual.ensures.1 in
    rw (p.1, p.2) record { out_after = both.0; value = both.1 }

pub shape_of-out : goal.shape_of-out
shape_of-out c =
    ap length c.write_checked.ensures.out_after ∙ written-length _ _ _

pub returns : goal.returns
returns c =
    let both = contents-fit (contents_of c.args.tables.records.now c.args.tables.shapes.now c.args.view.words.now c.args.view.window c.args.numbers.now c.args.words.now c.args.age) c.args.out.now 0 c.in_ok-check_contents.ensures _ (bytes_told c.write_checked.result) refl c.write_checked.ensures.out_after c.write_checked.ensures.value in
    record { out_after = both.0; value = both.1 }
