-- `part_writer::put_words` meets its contract. Assumes nothing.
use Rattle.std.proofs.Common.{◌≡◌, ◌*◌, ◌≤◌, length, refl, sym, ap, ◌∙◌, mul-le-mul, arith, rules}
use Rattle.base.proofs.Stored.{stored-length}
use Rattle.base.specs.Loop.{appended, stored}
use Rattle.part_writer.specs.Bytes.{part_block, word_in}
use Rattle.part_writer.proofs.Parts.{roomy, turn-stored, all-written, none_written}
use Rattle.part_writer.proofs.put_words.Goals as goal

pub loop-j-init : goal.loop-j-init
unfolding stored appended
loop-j-init c = (search rules, refl, refl)

pub overflow_cast-j : goal.overflow_cast-j
overflow_cast-j c = let r = roomy _ _ (sym c.part_room.ensures ∙ c.if-part_room.true) in let e = c.blocks_of-j-end.ensures in search rules

pub overflow_mul-j : goal.overflow_mul-j
overflow_mul-j c =
    let r = roomy _ _ (sym c.part_room.ensures ∙ c.if-part_room.true) in
    let e = c.blocks_of-j-end.ensures in
    let m = c.per_block-per.ensures.most in
    let h : c.loop-j.j * c.per_block-per.result ≤ 15744 = mul-le-mul {n₂ = 128} {m₂ = 123} (omega arith) m in
    search rules

pub put_block-requires : goal.put_block-requires
put_block-requires c =
    let r = roomy _ _ (sym c.part_room.ensures ∙ c.if-part_room.true) in
    let e = c.blocks_of-j-end.ensures in
    (omega arith, omega arith)

pub loop-j-preserved : goal.loop-j-preserved
unfolding part_block
loop-j-preserved c =
    let e = c.blocks_of-j-end.ensures in
    let put = rw c.per_block-per.ensures.value at c.put_block.ensures in (
      search rules,
      ap length c.put_block.ensures ∙ stored-length _ _ _ ∙ c.loop-j.invariant.1,
      turn-stored c.args.p (word_in c.args.words.now) _ _ c.loop-j.j c.loop-j.invariant.1 c.loop-j.invariant.2 _ _ put refl,
    )

pub returns-after-loop-j : goal.returns-after-loop-j
returns-after-loop-j c =
    let e = c.blocks_of-j-end.ensures in
    let q : c.loop-j.j ≡ c.blocks_of-j-end.result = omega arith in
    all-written _ _ _ _ _ c.loop-j.invariant.1 c.loop-j.invariant.2 (sym c.part_room.ensures ∙ c.if-part_room.true) (q ∙ e)

pub returns-else-part_room : goal.returns-else-part_room
returns-else-part_room c = none_written _ _ _ (sym c.part_room.ensures ∙ c.if-part_room.false)
