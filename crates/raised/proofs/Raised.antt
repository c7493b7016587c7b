-- "raising the cap alters no outcome other than a refusal 6". Assumes nothing.
use Prim.Native.Nat.{ℕ}
use Rattle.raised.specs.Raised.{Raised, AltersNothingElse}
use Rattle.raised.proofs.Lists.{collected, moved, moved-summed, over-list}
use Rattle.raised.proofs.Steps.{stepped, fallen, stepped-summed, fallen-summed}

pub raising : (cap higher : ℕ) → Raised cap higher → AltersNothingElse cap higher
raising cap higher raise =
    record {
      step = λ records shapes cells w rules body given age. stepped rules cap higher raise records shapes cells w body given age;
      falling = λ records shapes cells w rules body given age fall. fallen rules cap higher raise records shapes cells w body given age fall;
      move = λ records shapes cells w aabb delta step grounded. moved records shapes cells w cap higher raise aabb delta step grounded;
      collection = λ records shapes cells w area. collected records shapes cells w cap higher raise area;
      list = λ boxes aabb delta step grounded. over-list cap higher raise boxes aabb delta step grounded;
      summed_step = λ records shapes words w rules body given age. stepped-summed rules cap higher raise records shapes words w body given age;
      summed_falling = λ records shapes words w rules body given age fall. fallen-summed rules cap higher raise records shapes words w body given age fall;
      summed_move = λ records shapes words w aabb delta step grounded. moved-summed records shapes words w cap higher raise aabb delta step grounded;
    }
