-- `groups::build_in` meets its contract. Assumes nothing.
use mathlib.Core.Path.{◌≡◌}
use Prim.Native.Nat.{◌+◌, ◌-◌}
use Rattle.base.specs.Loop.{listed, stored}
use Rattle.groups.specs.Groups.{group_count}
use Rattle.groups.specs.Summary.{words_before, summary_of}
use Rattle.groups.proofs.Same.{Alike, fresh}
use Rattle.groups.proofs.build_in.Given as goal

abbrev pub invariant-loop-i : goal.invariant-loop-i
invariant-loop-i l = record {
  alike : Alike l.w.sizes l.words l.initial.words;
  rest : stored l.words (words_before l.w.sizes + l.i) (listed (fresh l.tables.records.now l.initial.words l.w) (group_count l.w.sizes - l.i) l.i) ≡ stored l.initial.words (words_before l.w.sizes) (summary_of l.tables.records.now l.initial.words l.w);
}
