-- `groups::build_in` meets its contract. Assumes nothing.
use mathlib.Core.Path.{◌∙◌}
use native.Mathlib.Omega.{arith}
use Rattle.base.proofs.Fill.{listed-turn, listed-end}
use Rattle.window.proofs.Check.{sizes-small}
use Rattle.groups.specs.Groups.{group_count, group_at}
use Rattle.groups.specs.Summary.{words_before}
use Rattle.groups.proofs.Counts.{word_fits}
use Rattle.groups.proofs.Same.{itself, behind, word-alike, fresh, build_begins}
use Rattle.groups.proofs.build_in.Goals as goal

pub loop-i-init : goal.loop-i-init
loop-i-init c = record { alike = itself _ _; rest = build_begins _ _ _ }

pub overflow_add-at : goal.overflow_add-at
overflow_add-at c = word_fits _ (sizes-small c.args.w.sizes c.requires) _ _ _ c.words_before-at.ensures c.group_count-i-end.ensures c.loop-i-test.true

pub loop-i-preserved : goal.loop-i-preserved
loop-i-preserved c =
    let a = c.args in
    let l = c.loop-i.words in
    let inv = c.loop-i.invariant in
    let word = c.word_of-word.ensures ∙ word-alike a.w l a.words.now inv.alike a.tables.records.now (group_at a.w.sizes c.loop-i.i) in
    let turn = rw c.group_count-i-end.ensures at c.loop-i-test.true in
    rw (c.put.ensures, c.words_before-at.ensures) record {
      alike = behind a.w.sizes l a.words.now _ _ (omega arith) inv.alike;
      rest = listed-turn (fresh a.tables.records.now a.words.now a.w) (group_count a.w.sizes) (words_before a.w.sizes) c.loop-i.i l _ c.word_of-word.result word turn inv.rest;
    }

pub returns : goal.returns
returns c = listed-end _ _ _ c.loop-i.i c.loop-i.words _ (rw c.group_count-i-end.ensures at c.loop-i-test.false) c.loop-i.invariant.rest
