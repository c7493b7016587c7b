-- What is known where nothing is refused, and what is handed back. Assumes nothing.
use mathlib.Core.Bool.{true}
use mathlib.Core.List.{List}
use mathlib.Core.Path.{◌≡◌, refl, sym, ◌∙◌}
use Prim.Native.Nat.{ℕ, ◌+◌, ◌*◌, ◌/◌, ◌%◌, ◌≤◌}
use native.Mathlib.Omega.{arith}
use lib.ListN.{length}
use borrow.Author.Tests.{ne_eqb}
use Rattle.base.specs.Choose.{choose}
use Rattle.base.proofs.Every.{both}
use Rattle.blocks.specs.Blocks.{per_block, blocks_of, log_part}
use Rattle.part_writer.specs.Bytes.{written_part, word_in}
use Rattle.part_writer.proofs.Parts.{room-there}
use Rattle.writer.specs.Written.{room_for}
use Rattle.scene_room.proofs.Rooms.{room_fits}
use Rattle.writer.proofs.Refusals.{held}
use Rattle.log_writer.specs.Written.{lent_events_fit, scene_there, scene_blocks_in, log_blocks, all_blocks, part_of, log_refusal, written_log, log_answer}

-- a log's part has the blocks that it is said to have
pub log-blocks : (first blocks : ℕ) → blocks_of (log_part first blocks) ≡ blocks
unfolding blocks_of per_block choose
log-blocks first blocks =
    let q : blocks * 120 / 120 ≡ blocks = omega arith in
    let r : blocks * 120 % 120 ≡ 0 = omega arith in
    let z : blocks + 0 ≡ blocks = omega arith in
    rw (q, r) z

module _ (out events : List ℕ) where
  -- ---- nothing is refused
  pub record Passes : Type 0 where
    pub there : scene_there out ≡ true
    pub fit : lent_events_fit events ≡ true
    pub few : all_blocks out events ≤ 128
    pub long : all_blocks out events * 512 ≤ length out

  pub passes : log_refusal out events ≡ 0 → Passes
  unfolding log_refusal
  passes z =
      let h = held _ (room_for (all_blocks out events) (length out)) 7 z in
      let t = both (scene_there out) (lent_events_fit events) h.test in
      let f = room_fits (all_blocks out events) (length out) _ refl h.rest in
      record { there = t.one; fit = t.two; few = f.few; long = f.long }

  -- the same of what the program found: few enough for its numbers
  pub few-of : (r scene behind : ℕ) → r ≡ log_refusal out events → r ≡ 0 → scene ≡ scene_blocks_in out → behind ≡ log_blocks events → scene + behind ≤ 128
  few-of r scene behind er z es eb = let p = (passes (sym er ∙ z)).few in omega arith

  -- ---- what is handed back

  module _ (r : ℕ) (er : r ≡ log_refusal out events) where
    pub log-refused : (r ≡ 0 → ⊥) → (out ≡ written_log out events) × (record { refusal = r; bytes = 0 } ≡ log_answer out events)
    unfolding written_log log_answer choose
    log-refused h = rw (← er, ne_eqb r 0 h) (refl, refl)

    pub log-put : (after : List ℕ) (scene behind : ℕ) → r ≡ 0 → scene ≡ scene_blocks_in out → behind ≡ log_blocks events
        → after ≡ written_part out (log_part scene behind) (word_in events)
        → (after ≡ written_log out events) × (record { refusal = 0; bytes = (scene + behind) * 512 } ≡ log_answer out events)
    unfolding written_log log_answer written_part choose
    log-put after scene behind z es eb e =
        let p = passes (sym er ∙ z) in
        let n = log-blocks (scene_blocks_in out) (log_blocks events) in
        let few = p.few in
        let long = p.long in
        let room = room-there (length out) (part_of out events) (omega arith) (omega arith) in
        rw (← er, z) (rw (es, eb, room) at e, rw (es, eb))
