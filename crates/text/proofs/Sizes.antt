-- How long an answer is: there is room for every one. Assumes nothing.
use mathlib.Core.Bool.{Bool, true, false}
use mathlib.Core.List.{List, [], ◌∷◌}
use mathlib.Core.Path.{◌≡◌, refl, ap, ◌∙◌}
use Prim.Native.Nat.{ℕ, ◌+◌, ◌≤◌, ◌<◌, min, max}
use native.Mathlib.Omega.{arith}
use lib.Dec.{eqb, ltb}
use lib.ListN.{length, length-append}
use borrow.Author.Tests.{le-ltb}
use Rattle.base.specs.Choose.{choose}
use Rattle.base.specs.Loop.{listed, stored}
use Rattle.boxes.specs.declared.Vec3.{Vec3}
use Rattle.tables.specs.declared.LiquidKind.{LiquidKind}
use Rattle.tables.specs.declared.LiquidKind.TheVariants.{None, Water, Lava}
use Rattle.bodies.specs.declared.MotionNumbers.{MotionNumbers}
use Rattle.text.specs.Cursor.{behind, Put}
use Rattle.std.specs.Prelude.{Result, Ok, Err}
use Rattle.text.specs.declared.Lines.{Lines}
use Rattle.text.specs.Told.{told_by}
use Rattle.text.specs.Text.{hex_of, joined_text, vec_text, feet_line, velocity_line, ground_line, liquid_line, lines_of, refused_text, text_of, text_room, written, written_count}
use Rattle.base.proofs.Stored.{stored-length}

-- ---- each line

pub feet-length : (v : Vec3) → length (feet_line v) ≡ 56
unfolding feet_line vec_text joined_text hex_of listed
feet-length v = refl

velocity-length : (v : Vec3) → length (velocity_line v) ≡ 60
unfolding velocity_line vec_text joined_text hex_of listed
velocity-length v = refl

ground-length : (grounded : ℕ) → length (ground_line grounded) ≡ 9
unfolding ground_line joined_text
ground-length grounded = refl

liquid-most : (kind : LiquidKind) → length (liquid_line kind) ≤ 13
unfolding liquid_line joined_text
liquid-most None = omega arith
liquid-most Water = omega arith
liquid-most Lava = omega arith

pub refused-length : (n : ℕ) → length (refused_text n) ≡ 10
unfolding refused_text joined_text
refused-length n = refl

-- ---- an answer

pieces-length : (p : List ℕ) (ps : List (List ℕ)) → length (joined_text (p ∷ ps)) ≡ length p + length (joined_text ps)
unfolding joined_text
pieces-length p ps = length-append p (joined_text ps)

no-piece : length (joined_text []) ≡ 0
unfolding joined_text
no-piece = refl

module _ (motion : MotionNumbers) (kind : LiquidKind) where
  lines-most : length (lines_of motion kind) ≤ text_room
  unfolding lines_of
  lines-most =
      let e = feet-length motion.feet in
      let f = velocity-length motion.velocity in
      let g = ground-length motion.on_ground in
      let m = liquid-most kind in
      let z = no-piece in
      simp pieces-length (omega arith)

  module _ (refusal : ℕ) where
    text-most : length (text_of refusal motion kind) ≤ text_room
    unfolding text_of choose
    text-most = go (eqb refusal 0) lines-most (refused-length refusal)
      where
        go : (t : Bool) → length (lines_of motion kind) ≤ text_room → length (refused_text refusal) ≡ 10 → length (choose t (lines_of motion kind) (refused_text refusal)) ≤ text_room
        go true h e = h
        go false h e = omega arith

-- ---- an answer in a buffer

module _ (refusal : ℕ) (motion : MotionNumbers) (kind : LiquidKind) (out : List ℕ) where
  -- one that has room
  pub all-written : {after : List ℕ} {r : ℕ} → text_room ≤ length out → Put out 0 (text_of refusal motion kind) after r
      → (after ≡ written out (text_of refusal motion kind)) × (r ≡ written_count out (text_of refusal motion kind))
  unfolding written written_count choose
  all-written h p =
      let m = text-most motion kind refusal in
      let e : behind (length out) 0 (length (text_of refusal motion kind)) ≡ length (text_of refusal motion kind) = omega arith in
      rw (le-ltb (length out) text_room h) (p.buffer, p.cursor ∙ e)

  pub written-most : written_count out (text_of refusal motion kind) ≤ 160
  unfolding written_count choose
  written-most = go (ltb (length out) text_room) (text-most motion kind refusal)
    where
      go : (b : Bool) → length (text_of refusal motion kind) ≤ text_room → choose b 0 (length (text_of refusal motion kind)) ≤ 160
      go true h = omega arith
      go false h = h

-- ---- an answer that may be a refusal

told-most : {V : Type 0} (says : V → ℕ) (a : Result Lines V) → length (told_by says a) ≤ text_room
told-most says (Ok l) = lines-most l.motion l.liquid
told-most says (Err v) = let h = refused-length (says v) in omega arith

pub all-told : {V : Type 0} (says : V → ℕ) (a : Result Lines V) (out : List ℕ) {after : List ℕ} {r : ℕ} → text_room ≤ length out → Put out 0 (told_by says a) after r
    → (after ≡ written out (told_by says a)) × (r ≡ written_count out (told_by says a))
unfolding written written_count choose
all-told says a out h p =
    let m = told-most says a in
    let e : behind (length out) 0 (length (told_by says a)) ≡ length (told_by says a) = omega arith in
    rw (le-ltb (length out) text_room h) (p.buffer, p.cursor ∙ e)

-- the buffer keeps its length
pub written-length : (out text : List ℕ) → length (written out text) ≡ length out
unfolding written choose
written-length out text = go (ltb (length out) text_room)
  where
    go : (b : Bool) → length (choose b out (stored out 0 text)) ≡ length out
    go true = refl
    go false = stored-length out 0 text
