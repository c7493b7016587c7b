-- `body_words::body_words` meets its contract. Assumes nothing.
use Rattle.std.proofs.Common.{rules}
use mathlib.Core.Path.{◌≡◌, refl}
use mathlib.Core.List.{◌++◌}
use Prim.Native.Nat.{◌-◌, ◌≤◌}
use lib.ListN.{length, take, length-set}
use Rattle.base.specs.Loop.{listed}
use Rattle.base.proofs.Fill.{turn}
use Rattle.base.proofs.Listed.{filled}
use Rattle.body_words.specs.Words.{body_word_of}
use Rattle.body_words.proofs.body_words.Goals as goal

pub loop-i-init : goal.loop-i-init
loop-i-init c = (search rules, refl, refl)

pub loop-i-preserved : goal.loop-i-preserved
loop-i-preserved c =
    (search rules, simp length-set c.loop-i.invariant.1, turn (body_word_of c.args.numbers.now c.args.words.now c.args.age c.args.n) 49 c.loop-i.i c.loop-i.body _ c.body_word_of.result c.body_word_of.ensures (search rules) (search rules) c.loop-i.invariant.2)

pub returns : goal.returns
returns c =
    filled (body_word_of c.args.numbers.now c.args.words.now c.args.age c.args.n) 49 c.loop-i.i c.loop-i.body c.loop-i.invariant.1 c.loop-i.invariant.0 (search rules) c.loop-i.invariant.2
