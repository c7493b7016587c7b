-- Document 01's numbers tell the cases apart, so that a number settles the answer. Assumes nothing.
use mathlib.Core.Path.{◌≡◌, refl, sym, ap, ◌∙◌}
use Prim.Native.Nat.{ℕ}
use lib.Dec.{eqb}
use Rattle.base.specs.Choose.{choose}
use Rattle.idents.specs.declared.Connects.{Connects}
use Rattle.idents.specs.declared.Connects.TheVariants.{Nothing, Fence, NetherBrickFence, Thin, Wall}
use Rattle.idents.specs.declared.Post.{Post}
use Rattle.idents.specs.declared.Post.TheVariants.{Never, Always, North, East, South, West, BadDirection}
use Rattle.idents.specs.Connects.{connects_number}
use Rattle.idents.specs.Posts.{post_number}

connects_by : ℕ → Connects
connects_by n = choose (eqb n 0) Nothing (choose (eqb n 1) Fence (choose (eqb n 2) NetherBrickFence (choose (eqb n 3) Thin Wall)))

connects-back : (c : Connects) → connects_by (connects_number c) ≡ c
unfolding connects_by choose
connects-back Nothing = refl
connects-back Fence = refl
connects-back NetherBrickFence = refl
connects-back Thin = refl
connects-back Wall = refl

pub connects-unique : (a b : Connects) → connects_number a ≡ connects_number b → a ≡ b
connects-unique a b e = sym (connects-back a) ∙ ap connects_by e ∙ connects-back b

post_by : ℕ → Post
post_by n =
    choose (eqb n 0) Never
    (choose (eqb n 1) Always
    (choose (eqb n 2) North (choose (eqb n 3) East (choose (eqb n 4) South (choose (eqb n 5) West BadDirection)))))

post-back : (p : Post) → post_by (post_number p) ≡ p
unfolding post_by choose
post-back Never = refl
post-back Always = refl
post-back North = refl
post-back East = refl
post-back South = refl
post-back West = refl
post-back BadDirection = refl

pub post-unique : (a b : Post) → post_number a ≡ post_number b → a ≡ b
post-unique a b e = sym (post-back a) ∙ ap post_by e ∙ post-back b
