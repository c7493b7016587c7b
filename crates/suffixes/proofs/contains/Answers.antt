-- `suffixes::contains` meets its contract. The invariant: what is left, from `k` on, decides the whole. Assumes nothing.
use mathlib.Core.Bool.{false}
use mathlib.Core.Path.{◌≡◌, refl, sym, ◌∙◌}
use Prim.Native.Nat.{◌+◌, ◌<◌}
use native.Mathlib.Omega.{arith}
use lib.ListN.{length, drop}
use Rattle.suffixes.specs.Bytes.{starts_with, has_within}
use Rattle.suffixes.proofs.Bytes.{starts_by, starts-part, within-short, within_end, within-found, within-next}
use Rattle.suffixes.proofs.contains.Goals as goal
use Rattle.suffixes.proofs.contains.Goals.{Else-starts_with}

-- what is left after a place where the part does not start
on : (c : Else-starts_with) → (c.loop-k.k < length c.args.id.now) × (has_within (drop (c.loop-k.k + 1) c.args.id.now) c.args.part.now ≡ has_within c.args.id.now c.args.part.now)
on c =
    let id = c.args.id.now in
    let part = c.args.part.now in
    let k = c.loop-k.k in
    let e : starts_with (drop k id) part ≡ false = sym (starts_by id part k) ∙ sym c.starts_with.ensures.value ∙ c.if-starts_with.false in
    let p = starts-part (drop k id) part e in
    let h : k < length id = omega arith in
    (h, within-next id part k _ c.loop-k.invariant h e)

pub returns-then-id-part : goal.returns-then-id-part
returns-then-id-part c = sym (within-short c.args.id.now c.args.part.now c.if-id-part.true)

pub loop-k-init : goal.loop-k-init
loop-k-init c = refl

pub returns-then-starts_with : goal.returns-then-starts_with
returns-then-starts_with c =
    let id = c.args.id.now in
    let part = c.args.part.now in
    within-found id part c.loop-k.k _ c.loop-k.invariant (sym (starts_by id part c.loop-k.k) ∙ sym c.starts_with.ensures.value ∙ c.if-starts_with.true)

pub loop-k-preserved : goal.loop-k-preserved
loop-k-preserved c = (on (goal.at.loop-k-preserved c).Else-starts_with).1

pub returns-else-starts_with : goal.returns-else-starts_with
returns-else-starts_with c =
    let a = on (goal.at.returns-else-starts_with c).Else-starts_with in
    within_end c.args.id.now c.args.part.now (c.loop-k.k + 1) _ a.1 (omega arith) (omega arith)
