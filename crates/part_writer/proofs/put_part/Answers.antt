-- `part_writer::put_part` meets its contract. Assumes nothing.
use Rattle.std.proofs.Common.{◌≡◌, ◌*◌, ◌≤◌, length, refl, sym, ap, ◌∙◌, mul-le-mul, arith, rules}
use Rattle.base.proofs.Stored.{stored-length}
use Rattle.base.specs.Loop.{appended, stored}
use Rattle.part_writer.proofs.Singles.{block-from}
use Rattle.part_writer.proofs.Parts.{roomy, turn-stored, all-written, none_written}
use Rattle.part_writer.proofs.put_part.Goals as goal

pub loop-j-init : goal.loop-j-init
unfolding stored appended
loop-j-init g c = (search rules, refl, λ f h. refl)

pub overflow_cast-j : goal.overflow_cast-j
overflow_cast-j g c = let r = roomy _ _ (sym c.part_room.ensures ∙ c.if-part_room.true) in let e = c.blocks_of-j-end.ensures in search rules

pub overflow_mul-j : goal.overflow_mul-j
overflow_mul-j g c =
    let r = roomy _ _ (sym c.part_room.ensures ∙ c.if-part_room.true) in
    let e = c.blocks_of-j-end.ensures in
    let m = c.per_block-per.ensures.most in
    let h : c.loop-j.j * c.per_block-per.result ≤ 15744 = mul-le-mul {n₂ = 128} {m₂ = 123} (omega arith) m in
    search rules

pub put_block-requires : goal.put_block-requires
put_block-requires g c =
    let r = roomy _ _ (sym c.part_room.ensures ∙ c.if-part_room.true) in
    let e = c.blocks_of-j-end.ensures in
    (omega arith, omega arith)

pub loop-j-preserved : goal.loop-j-preserved
loop-j-preserved g c =
    let e = c.blocks_of-j-end.ensures in (
      search rules,
      ap length c.put_block.ensures ∙ stored-length _ _ _ ∙ c.loop-j.invariant.1,
      λ f h. let words = rw c.per_block-per.ensures.value at (c.block_words.ensures f h) in
          turn-stored c.args.p f _ _ c.loop-j.j c.loop-j.invariant.1 (c.loop-j.invariant.2 f h) _ _ c.put_block.ensures (block-from c.args.p f c.loop-j.j _ words),
    )

pub returns-then-part_room : goal.returns-then-part_room
returns-then-part_room g c =
    let e = c.blocks_of-j-end.ensures in
    let q : c.loop-j.j ≡ c.blocks_of-j-end.result = omega arith in
    λ f h. all-written _ _ _ _ _ c.loop-j.invariant.1 (c.loop-j.invariant.2 f h) (sym c.part_room.ensures ∙ c.if-part_room.true) (q ∙ e)

pub returns : goal.returns
returns g c = λ f h. none_written _ _ _ (sym c.part_room.ensures ∙ c.if-part_room.false)
