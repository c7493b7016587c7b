-- `writer::put_scene` meets its contract. Assumes nothing.
use mathlib.Core.Path.{sym, ap}
use lib.ListN.{length}
use Rattle.files.specs.Contents.{contents_of}
use Rattle.writer.proofs.Puts.{all-put, all-length}
use Rattle.writer.proofs.put_scene.Goals as goal

pub slice_bounds-put_words-end-2 : goal.slice_bounds-put_words-end-2
slice_bounds-put_words-end-2 c =
    sym (ap length c.window_words-place.ensures)

pub shape_of-out : goal.shape_of-out
shape_of-out c =
    all-length _ _ _ _ _ _ _ _ _ _ _ _ _ _ _ _ c.put_words.ensures c.put_words-2.ensures c.put_singles.ensures c.put_words-3.ensures c.put_words-4.ensures

pub returns : goal.returns
returns c =
    all-put (contents_of c.args.tables.records.now c.args.tables.shapes.now c.args.view.words.now c.args.view.window c.args.numbers.now c.args.words.now c.args.age) c.args.n _ _ _ _ _ _ _ _ c.requires.0 c.requires.1 c.body_words-body.ensures c.window_words-place.ensures
    (rw c.body_part.ensures at c.put_words.ensures)
    (rw c.record_part.ensures at c.put_words-2.ensures)
    (rw c.box_part.ensures at c.put_singles.ensures)
    (rw c.window_part.ensures at c.put_words-3.ensures)
    (rw c.cell_part.ensures at c.put_words-4.ensures)
