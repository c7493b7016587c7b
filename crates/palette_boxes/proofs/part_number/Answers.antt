-- `palette_boxes::part_number` meets its contract. Assumes nothing.
use Rattle.std.proofs.Common.{ap, ◌∙◌}
use Rattle.palette_boxes.specs.Shapes.{box_of_part}
use Rattle.palette_boxes.proofs.Boxes.{part_at}
use Rattle.palette_boxes.proofs.part_number.Goals as goal

pub returns : goal.returns
returns c = c.f32_to_f64_with_nan.ensures ∙ c.in_blocks.ensures ∙ part_at c.args.state c.args.part c.args.c c.box_of_part-b.result (c.box_of_part-b.ensures ∙ ap (λ k. box_of_part k c.args.part) c.kind_of.ensures) c.requires.0 c.requires.1
