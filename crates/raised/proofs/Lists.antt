-- Collection, the move through a window, and the move over a list. Assumes nothing.
use mathlib.Core.Path.{◌≡◌, refl}
use mathlib.Core.Bool.{Bool, true, false, not, ◌&&◌}
use mathlib.Core.Logic.{◌⊎◌, inl, inr}
use mathlib.Core.List.{List}
use Prim.Native.Nat.{ℕ, ◌≤◌}
use native.Mathlib.Omega.{arith}
use lib.Dec.{eqb, ltb}
use lib.Ieee.{Float}
use borrow.Author.Tests.{ltb-true, ltb-false}
use Rattle.base.specs.Choose.{choose}
use Rattle.base.specs.Ask.{refused}
use Rattle.boxes.specs.declared.Vec3.{Vec3}
use Rattle.boxes.specs.declared.Aabb.{Aabb}
use Rattle.boxes.specs.Limits.{is_step, is_box, is_delta, are_boxes}
use Rattle.sweeps.specs.declared.BoxList.{BoxList}
use Rattle.sweeps.specs.Lists.{Held, is_cap, cap_of, list_of}
use Rattle.sweeps.specs.Move.{move_over}
use Rattle.sweeps.specs.Entry.{MoveAnswer, answer_of, move_over_list}
use Rattle.window.specs.declared.Window.{Window}
use Rattle.window.specs.Look.{look_at}
use Rattle.lent.specs.Lent.{direct_refusal}
use Rattle.groups.specs.Summary.{summary_refusal}
use Rattle.summary.specs.Calls.{plain_words}
use Rattle.collection.specs.Collect.{swept_area, collect_block_boxes}
use Rattle.collection.specs.Answers.{held_asked}
use Rattle.collection.proofs.Caps.{raised}
use Rattle.through.specs.Through.{move_aabb}
use Rattle.moves.specs.Answers.{collect_entry, move_answer, move_entry, move_summed}
use Rattle.raised.specs.Raised.{Raised, Alters6}
use Rattle.raised.proofs.Asks.{Beside, before, told, chosen}

module _ (records : List ℕ) (shapes : List Float) (cells : List ℕ) (w : Window) where
  -- of caps in force
  pub move-raised : (c d : ℕ) → c ≤ d → (aabb : Aabb) (delta : Vec3) (step : Float) (grounded : Bool)
      → Beside (move_aabb c (look_at cells w) records shapes aabb delta step grounded) (move_aabb d (look_at cells w) records shapes aabb delta step grounded)
  unfolding move_aabb
  move-raised c d h aabb delta step grounded = before _ _ _ _ (raised cells w records shapes (swept_area aabb delta step) c d h) (λ boxes. refl)

  module _ (cap higher : ℕ) (raise : Raised cap higher) where
    pub collected : (area : Aabb) → Alters6 (collect_entry cap records shapes cells w area).refusal (collect_entry cap records shapes cells w area) (collect_entry higher records shapes cells w area)
    unfolding collect_entry choose
    collected area =
        rw (raise.first, raise.second)
        (told held_asked (λ (h : Held). h.refusal) refl _ _
        (chosen (not (eqb (direct_refusal records shapes cells w) 0)) (refused (direct_refusal records shapes cells w)) _ _
        (chosen (not (is_box area)) (refused 4) _ _
        (raised cells w records shapes area (cap_of cap) (cap_of higher) raise.above))))

    pub moved : (aabb : Aabb) (delta : Vec3) (step : Float) (grounded : Bool)
        → Alters6 (move_entry cap records shapes cells w aabb delta step grounded).refusal (move_entry cap records shapes cells w aabb delta step grounded) (move_entry higher records shapes cells w aabb delta step grounded)
    unfolding move_entry choose
    moved aabb delta step grounded =
        rw (raise.first, raise.second)
        (told (move_answer aabb) (λ (a : MoveAnswer). a.refusal) refl _ _
        (chosen (not (eqb (direct_refusal records shapes cells w) 0)) (refused (direct_refusal records shapes cells w)) _ _
        (chosen (not (is_step step)) (refused 3) _ _
        (chosen (not (is_box aabb && is_delta delta)) (refused 4) _ _
        (move-raised (cap_of cap) (cap_of higher) raise.above aabb delta step grounded)))))

-- over a summary
pub moved-summed : (records : List ℕ) (shapes : List Float) (words : List ℕ) (w : Window) (cap higher : ℕ) → Raised cap higher → (aabb : Aabb) (delta : Vec3) (step : Float) (grounded : Bool)
    → Alters6 (move_summed cap records shapes words w aabb delta step grounded).refusal (move_summed cap records shapes words w aabb delta step grounded) (move_summed higher records shapes words w aabb delta step grounded)
unfolding move_summed choose
moved-summed records shapes words w cap higher raise aabb delta step grounded =
    rw (raise.first, raise.second)
    (told (move_answer aabb) (λ (a : MoveAnswer). a.refusal) refl _ _
    (chosen (not (eqb (direct_refusal records shapes (plain_words words w) w) 0)) (refused (direct_refusal records shapes (plain_words words w) w)) _ _
    (chosen (not (is_step step)) (refused 3) _ _
    (chosen (not (is_box aabb && is_delta delta)) (refused 4) _ _
    (chosen (not (eqb (summary_refusal records words w) 0)) (refused (summary_refusal records words w)) _ _
    (move-raised records shapes (plain_words words w) w (cap_of cap) (cap_of higher) raise.above aabb delta step grounded))))))

module _ (cap higher : ℕ) (raise : Raised cap higher) (list : BoxList) (aabb : Aabb) (delta : Vec3) (step : Float) (grounded : Bool) where
  abbrev after : Bool → Bool → Bool → ℕ
  after s f t = choose (not s) 3 (choose (not f) 4 (choose t 6 0))

  abbrev answer : ℕ → MoveAnswer
  answer n = answer_of n (move_over (list_of list) aabb delta step grounded) aabb

  pub over-list : Alters6 (move_over_list cap list aabb delta step grounded).refusal (move_over_list cap list aabb delta step grounded) (move_over_list higher list aabb delta step grounded)
  unfolding move_over_list choose
  over-list =
      rw (raise.first, raise.second)
      (go (is_step step) (is_box aabb && (is_delta delta && are_boxes (list_of list))) (ltb (cap_of cap) list.count) (ltb (cap_of higher) list.count) refl refl)
    where
      go : (s f t v : Bool) → ltb (cap_of cap) list.count ≡ t → ltb (cap_of higher) list.count ≡ v → ((answer (after s f t)).refusal ≡ 6) ⊎ (answer (after s f t) ≡ answer (after s f v))
      go false f t v p q = inr refl
      go true false t v p q = inr refl
      go true true true v p q = inl refl
      go true true false false p q = inr refl
      go true true false true p q = let r = raise.above in absurd (omega (arith, ltb-true, ltb-false))
