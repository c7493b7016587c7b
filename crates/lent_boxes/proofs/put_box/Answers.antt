-- `lent_boxes::put_box` meets its contract. Assumes nothing.
use mathlib.Core.Path.{sym, ◌∙◌}
use Prim.Native.Nat.{◌*◌}
use Rattle.lent_boxes.proofs.Put.{second, third, fourth, fifth, sixth, stored-six, was-put, no_room}
use Rattle.lent_boxes.proofs.put_box.Goals as goal

pub returns-then-k-numbers : goal.returns-then-k-numbers
returns-then-k-numbers c = sym (no_room c.args.numbers.now c.args.k c.args.b c.if-k-numbers.true)

pub bounds-numbers-at-2 : goal.bounds-numbers-at-2
bounds-numbers-at-2 c = second c.args.numbers.now c.args.k c.if-k-numbers.false _

pub bounds-numbers-at-3 : goal.bounds-numbers-at-3
bounds-numbers-at-3 c = third c.args.numbers.now c.args.k c.if-k-numbers.false _ _

pub bounds-numbers-at-4 : goal.bounds-numbers-at-4
bounds-numbers-at-4 c = fourth c.args.numbers.now c.args.k c.if-k-numbers.false _ _ _

pub bounds-numbers-at-5 : goal.bounds-numbers-at-5
bounds-numbers-at-5 c = fifth c.args.numbers.now c.args.k c.if-k-numbers.false _ _ _ _

pub bounds-numbers-at-6 : goal.bounds-numbers-at-6
bounds-numbers-at-6 c = sixth c.args.numbers.now c.args.k c.if-k-numbers.false _ _ _ _ _

pub returns : goal.returns
returns c = stored-six c.args.numbers.now (c.args.k * 6) _ _ _ _ _ _ ∙ sym (was-put c.args.numbers.now c.args.k c.args.b c.if-k-numbers.false)
