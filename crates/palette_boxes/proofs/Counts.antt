-- How many boxes the palette has: 658, of six numbers. Assumes nothing.
use Rattle.std.proofs.Common.{◌≡◌, ℕ, ◌*◌, length, refl, ap, ◌∙◌}
use Rattle.base.specs.Choose.{choose}
use Rattle.turns.specs.Turns as T
use Rattle.palette_states.specs.States as S
use Rattle.palette_boxes.specs.Shapes as H
use Rattle.palette_boxes.proofs.Boxes.{first-length}

pub all-boxes : H.first_box 212 ≡ 658
unfolding H.first_box H.box_count_of H.one H.has_part choose T.weight T.digit_at S.kind S.index S.bit S.bit_at S.side_digit S.has_post
all-boxes = refl

pub shapes-length : length H.palette_shapes ≡ 3948
unfolding H.palette_shapes
shapes-length = first-length 212 ∙ ap (λ (n : ℕ). n * 6) all-boxes
