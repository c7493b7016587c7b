-- The loops of the code: the boxes of a pass, and the passes of a move. w is what the whole comes to. Assumes nothing.
use mathlib.Core.Path.{◌≡◌, sym, ◌∙◌}
use mathlib.Core.Bool.{true, false}
use mathlib.Core.List.{List}
use Prim.Native.Nat.{ℕ, suc, ◌+◌, ◌-◌, ◌≤◌, ◌<◌, min}
use native.Mathlib.Omega.{arith}
use native.Mathlib.Numerals.{add-one}
use lib.ListN.{length, get_or, take, drop, drop_of_length-le}
use lib.Seq.{drop-cons}
use lib.Ieee.{Float}
use Rattle.base.specs.Choose.{choose}
use Rattle.base.proofs.Cases.{yes, no}
use Rattle.boxes.specs.declared.Aabb.{Aabb}
use Rattle.sweeps.specs.declared.Swept.{Swept}
use Rattle.sweeps.specs.declared.Request.{Request}
use Rattle.sweeps.specs.declared.Sweep.{Sweep}
use Rattle.sweeps.specs.Move.{clip_all}
use Rattle.sweeps.specs.Passes.{axis_of, clip_along, wanted_of, gone_of, next_sweep, pass_of, passes_from}
use Rattle.sweeps.proofs.Lists.{at-box, past-boxes}

module _ (bs : List Aabb) (count most : ℕ) (whole : length bs ≡ most) (n i : ℕ) (counts : n ≡ min count most) (clip : Aabb → Aabb → Float → Float) (mover : Aabb) where
  -- a box of a pass, which comes to e, and the end of a pass
  pub clip-turn : (z : Aabb) (d e w : Float) → i < n → e ≡ clip (get_or bs i z) mover d → clip_all clip (drop i (take count bs)) mover d ≡ w → clip_all clip (drop (i + 1) (take count bs)) mover e ≡ w
  unfolding clip_all
  clip-turn z d e w h q inv = let t = rw (at-box bs count most whole n i counts z h) at inv in rw q t

  clip-end : (d w : Float) → n ≤ i → clip_all clip (drop i (take count bs)) mover d ≡ w → d ≡ w
  unfolding clip_all
  clip-end d w h inv = rw (past-boxes bs count most whole n i counts h) at inv

-- the same of boxes that are all there
module _ (bs : List Aabb) (i : ℕ) (clip : Aabb → Aabb → Float → Float) (mover : Aabb) where
  pub slice-turn : (z : Aabb) (d e w : Float) → i < length bs → e ≡ clip (get_or bs i z) mover d → clip_all clip (drop i bs) mover d ≡ w → clip_all clip (drop (i + 1) bs) mover e ≡ w
  unfolding clip_all
  slice-turn z d e w h q inv = let t = rw (drop-cons bs i z h) at inv in rw (add-one, q) t

  pub slice-end : (d w : Float) → length bs ≤ i → clip_all clip (drop i bs) mover d ≡ w → d ≡ w
  unfolding clip_all
  slice-end d w h inv = rw (drop_of_length-le bs h) at inv

-- a pass, step by step as the code makes it
pub pass-is : (boxes : List Aabb) (q : Request) (pass : ℕ) (s t : Sweep) (got : Swept) (axis : ℕ) (d e : Float) → axis ≡ axis_of pass → d ≡ wanted_of pass axis q s.now → e ≡ clip_all (clip_along axis) boxes s.now.aabb d → got ≡ gone_of pass axis s.now e → t ≡ next_sweep pass q s.first got → t ≡ pass_of pass boxes q s
unfolding pass_of
pass-is boxes q pass s t got axis d e ea ed ee eg et = rw (et, eg, ee, ed, ea)

-- the same of a list whose boxes were gone through
pub made : (bs : List Aabb) (count most : ℕ) → length bs ≡ most → (n i : ℕ) → n ≡ min count most → (q : Request) (pass : ℕ) (s t : Sweep) (got : Swept) (axis : ℕ) (d e : Float) → axis ≡ axis_of pass → d ≡ wanted_of pass axis q s.now → n ≤ i → clip_all (clip_along axis) (drop i (take count bs)) s.now.aabb e ≡ clip_all (clip_along axis) (take count bs) s.now.aabb d → got ≡ gone_of pass axis s.now e → t ≡ next_sweep pass q s.first got → t ≡ pass_of pass (take count bs) q s
made bs count most whole n i counts q pass s t got axis d e ea ed h inv eg et =
    pass-is (take count bs) q pass s t got axis d e ea ed (clip-end bs count most whole n i counts (clip_along axis) s.now.aabb e _ h inv) eg et

module _ (boxes : List Aabb) (q : Request) (pass : ℕ) (s t : Sweep) where
  module _ (w : Sweep) (is : t ≡ pass_of pass boxes q s) where
    turn : pass < 7 → passes_from (7 - pass) pass boxes q s ≡ w → choose t.over t (passes_from (7 - (pass + 1)) (pass + 1) boxes q t) ≡ w
    unfolding passes_from
    turn h inv = let k : 7 - pass ≡ suc (7 - (pass + 1)) = omega arith in rw (k, ← is) at inv

    -- after a pass the move goes on, or is over
    pub pass_on : pass < 7 → t.over ≡ false → passes_from (7 - pass) pass boxes q s ≡ w → passes_from (7 - (pass + 1)) (pass + 1) boxes q t ≡ w
    pass_on h o inv = sym (no t.over t _ o) ∙ turn h inv

    pub pass-over : pass < 7 → t.over ≡ true → passes_from (7 - pass) pass boxes q s ≡ w → t ≡ w
    pass-over h o inv = sym (yes t.over t _ o) ∙ turn h inv

pub passes-end : (boxes : List Aabb) (q : Request) (pass : ℕ) (s w : Sweep) → 7 ≤ pass → passes_from (7 - pass) pass boxes q s ≡ w → s ≡ w
unfolding passes_from
passes-end boxes q pass s w h inv = let k : 7 - pass ≡ 0 = omega arith in rw k at inv
