-- What the tests for 3 say, number by number. Assumes nothing.
use mathlib.Core.Path.{◌≡◌}
use mathlib.Core.Bool.{true, ◌&&◌}
use mathlib.Core.List.{List}
use Prim.Native.Nat.{ℕ}
use lib.Dec.{ltb}
use Rattle.base.proofs.Every.{both}
use Rattle.boxes.specs.Limits.{is_step}
use Rattle.tables.specs.Tables.{is_registered}
use Rattle.sweeps.specs.Lists.{is_cap}
use Rattle.bodies.specs.declared.BodyNumbers.{BodyNumbers}
use Rattle.bodies.specs.declared.Rules.{Rules}
use Rattle.bodies.specs.Limits.{is_extent, is_small, measures_fit, cases_fit, rules_fit, numbers_are_fit}

pub record Measured (b : BodyNumbers) : Type 0 where
  pub width : is_extent b.width ≡ true
  pub height : is_extent b.height ≡ true
  pub offset : is_small b.offset ≡ true
  pub gravity : is_small b.gravity ≡ true
  pub vertical : is_small b.vertical ≡ true
  pub horizontal : is_small b.horizontal ≡ true
  pub flap : is_small b.flap ≡ true
  pub step : is_step b.step ≡ true

pub measured : (b : BodyNumbers) → measures_fit b ≡ true → Measured b
unfolding measures_fit
measured b h =
    let w = is_extent b.width in
    let t = is_extent b.height in
    let o = is_small b.offset in
    let g = is_small b.gravity in
    let v = is_small b.vertical in
    let z = is_small b.horizontal in
    let f = is_small b.flap in
    let h₁ = both (w && t && o && g && v && z && f) (is_step b.step) h in
    let h₂ = both (w && t && o && g && v && z) f h₁.one in
    let h₃ = both (w && t && o && g && v) z h₂.one in
    let h₄ = both (w && t && o && g) v h₃.one in
    let h₅ = both (w && t && o) g h₄.one in
    let h₆ = both (w && t) o h₅.one in
    let h₇ = both w t h₆.one in
    record {
      width = h₇.one;
      height = h₇.two;
      offset = h₆.two;
      gravity = h₅.two;
      vertical = h₄.two;
      horizontal = h₃.two;
      flap = h₂.two;
      step = h₁.two;
    }

pub record Ruled (r : Rules) : Type 0 where
  pub friction : is_small r.friction ≡ true
  pub depth : is_small r.depth ≡ true
  pub gravity : is_small r.gravity ≡ true
  pub water : is_small r.water ≡ true
  pub lava : is_small r.lava ≡ true

pub ruled : (records : List ℕ) (r : Rules) → rules_fit records r ≡ true → Ruled r
unfolding rules_fit
ruled records r h =
    let f = is_small r.friction in
    let d = is_small r.depth in
    let g = is_small r.gravity in
    let w = is_small r.water in
    let l = is_small r.lava in
    let a = is_registered records r.air in
    let h₀ = both (f && d && g && w && l && a) (is_cap r.cap) h in
    let h₁ = both (f && d && g && w && l) a h₀.one in
    let h₂ = both (f && d && g && w) l h₁.one in
    let h₃ = both (f && d && g) w h₂.one in
    let h₄ = both (f && d) g h₃.one in
    let h₅ = both f d h₄.one in
    record { friction = h₅.one; depth = h₅.two; gravity = h₄.two; water = h₃.two; lava = h₂.two }

-- of body and rules
pub record Fitted (r : Rules) (b : BodyNumbers) : Type 0 where
  pub body : Measured b
  pub rules : Ruled r

pub fitted : (records : List ℕ) (r : Rules) (b : BodyNumbers) (grounded : ℕ) → numbers_are_fit records r b grounded ≡ true → Fitted r b
unfolding numbers_are_fit
fitted records r b grounded h =
    let h₁ = both (measures_fit b && cases_fit b && rules_fit records r) (ltb grounded 2) h in
    let h₂ = both (measures_fit b && cases_fit b) (rules_fit records r) h₁.one in
    record { body = measured b (both (measures_fit b) (cases_fit b) h₂.one).one; rules = ruled records r h₂.two }
