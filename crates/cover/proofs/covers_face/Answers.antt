-- `cover::covers_face` meets its contract. Assumes nothing.
use Rattle.cover.specs.Gaps.{covers_by_search}
use Rattle.cover.proofs.Covered.{covers-search}
use Rattle.cover.proofs.covers_face.Goals as goal

pub returns-then-not-nan_on_face : goal.returns-then-not-nan_on_face
unfolding covers_by_search
returns-then-not-nan_on_face c = rw (covers-search _ _ c.shared_slice_known-1.given, ← c.nan_on_face.ensures, c.if-not-nan_on_face.true, ← c.gap_on_face.ensures)

pub returns-else-not-nan_on_face : goal.returns-else-not-nan_on_face
unfolding covers_by_search
returns-else-not-nan_on_face c = rw (covers-search _ _ c.shared_slice_known-1.given, ← c.nan_on_face.ensures, c.if-not-nan_on_face.false)
