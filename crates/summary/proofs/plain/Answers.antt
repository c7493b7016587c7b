-- `summary::plain` meets its contract. Assumes nothing.
use Rattle.std.proofs.Common.{sym, ap, ◌∙◌}
use Rattle.groups.specs.Places.{layout_seen}
use Rattle.summary.proofs.Parts.{cut-plain, short-plain, no_plain}
use Rattle.summary.proofs.plain.Goals as goal
use Rattle.summary.proofs.plain.Goals.{in-Some, in_default, in_default-via-in-Some+else-layout-view, in_default-via-in_default}

pub returns-clause-words : goal.returns-clause-words
returns-clause-words c =
    let told = sym c.layout_of.ensures in
    elim c.match-layout_of.branch [
      | in-Some w ↦ rw w.words-is (cut-plain _ _ w.in-Some.layout (sym (told ∙ ap layout_seen w.in-Some.is)))
      | in_default w ↦ rw w.words-is (elim w.in_default.branch [
        | in_default-via-in-Some+else-layout-view v ↦ short-plain _ _ v.in-Some.layout (sym (told ∙ ap layout_seen v.in-Some.is)) v.if-layout-view.false
        | in_default-via-in_default v ↦ no_plain _ _ (sym (told ∙ ap layout_seen v.in_default.is))
      ])
    ]
