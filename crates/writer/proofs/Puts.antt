-- The program's parts written one behind another, what has no room, and what is handed back. Assumes nothing.
use mathlib.Core.Bool.{Bool, true, false}
use mathlib.Core.List.{List, [], ◌++◌}
use mathlib.Core.Path.{◌≡◌, refl, sym, ap, ◌∙◌}
use Prim.Native.Nat.{ℕ, ◌+◌, ◌*◌, ◌≤◌, ◌<◌}
use native.Mathlib.Decide.{dec_le}
use native.Mathlib.Omega.{arith}
use lib.Dec.{eqb}
use lib.ListN.{length, length-append}
use borrow.Author.Tests.{ne_eqb}
use Rattle.base.specs.Choose.{choose}
use Rattle.base.specs.Loop.{listed, stored}
use Rattle.blocks.specs.declared.Part.{Part}
use Rattle.blocks.specs.Blocks.{end_of, body_part, record_part, box_part, window_part, cell_part}
use Rattle.files.specs.declared.Counts.{Counts}
use Rattle.files.specs.Files.{blocks_for}
use Rattle.files.proofs.Scenes.{rooms}
use Rattle.part_writer.specs.Bytes.{part_bytes, part_room, written_part, word_in, bits_in}
use Rattle.base.proofs.Listed.{listed-from}
use Rattle.base.proofs.Stored.{stored-length}
use Rattle.part_writer.proofs.Parts.{part_length, part_same, next-written, room-there}
use Rattle.scene_room.proofs.Rooms.{room-many}
use Rattle.lent_words.specs.Words.{window_words}
use Rattle.files.specs.Contents.{Contents}
use Rattle.writer.specs.Contents.{counts_for}
use Rattle.writer.specs.Written.{Written, body_word_of, bytes_by, scene_bytes, scene_blocks, contents_refusal, room_for, scene_refusal, written_unless, answer_by, written_scene, scene_answer, written_checked, checked_answer}

-- ---- the parts

module _ (c : Contents) (n : Counts) where
  abbrev pub first : List ℕ
  first = part_bytes body_part (body_word_of c.numbers c.words c.age n)

  abbrev pub second : List ℕ
  second = part_bytes (record_part n.states) (word_in c.records)

  abbrev pub third : List ℕ
  third = part_bytes (box_part n.states n.boxes) (bits_in c.shapes)

  abbrev pub fourth : List ℕ
  fourth = part_bytes (window_part n.states n.boxes) (word_in (window_words c.window))

  abbrev fifth : List ℕ
  fifth = part_bytes (cell_part n.states n.boxes n.cells) (word_in c.cells)

  pub one-length : length first ≡ end_of body_part * 512
  one-length = let a = part_length body_part (body_word_of c.numbers c.words c.age n) in omega arith

  pub two-length : length (first ++ second) ≡ end_of (record_part n.states) * 512
  two-length = let a = one-length in let b = part_length (record_part n.states) (word_in c.records) in length-append first second ∙ omega arith

  pub three-length : length (first ++ second ++ third) ≡ end_of (box_part n.states n.boxes) * 512
  three-length = let a = two-length in let b = part_length (box_part n.states n.boxes) (bits_in c.shapes) in length-append (first ++ second) third ∙ omega arith

  pub four-length : length (first ++ second ++ third ++ fourth) ≡ end_of (window_part n.states n.boxes) * 512
  four-length =
      let a = three-length in
      let b = part_length (window_part n.states n.boxes) (word_in (window_words c.window)) in
      length-append (first ++ second ++ third) fourth ∙ omega arith

  pub bytes-length : length (bytes_by c n) ≡ blocks_for n * 512
  unfolding bytes_by
  bytes-length =
      let a = four-length in
      let b = part_length (cell_part n.states n.boxes n.cells) (word_in c.cells) in
      length-append (first ++ second ++ third ++ fourth) fifth ∙ omega arith

  -- the program's five calls
  pub all-put : (l₀ l₁ l₂ l₃ l₄ l₅ body place : List ℕ) → blocks_for n ≤ 128 → blocks_for n * 512 ≤ length l₀
      → body ≡ listed (body_word_of c.numbers c.words c.age n) 49 0 → place ≡ window_words c.window
      → l₁ ≡ written_part l₀ body_part (word_in body)
      → l₂ ≡ written_part l₁ (record_part n.states) (word_in c.records)
      → l₃ ≡ written_part l₂ (box_part n.states n.boxes) (bits_in c.shapes)
      → l₄ ≡ written_part l₃ (window_part n.states n.boxes) (word_in place)
      → l₅ ≡ written_part l₄ (cell_part n.states n.boxes n.cells) (word_in c.cells)
      → l₅ ≡ stored l₀ 0 (bytes_by c n)
  unfolding bytes_by stored
  all-put l₀ l₁ l₂ l₃ l₄ l₅ body place few long eb ew e₁ e₂ e₃ e₄ e₅ =
      let s : part_bytes body_part (word_in body) ≡ first =
      part_same body_part (word_in body) (body_word_of c.numbers c.words c.age n)
      (λ i h. rw eb (listed-from (body_word_of c.numbers c.words c.age n) 49 i 0 h)) in
      let p₁ = rw s at (next-written l₀ l₀ l₁ [] body_part (word_in body) (room-there _ _ (omega arith) (omega arith)) refl refl e₁) in
      let p₂ = next-written l₀ l₁ l₂ first (record_part n.states) (word_in c.records) (room-there _ _ (omega arith) (omega arith)) one-length p₁ e₂ in
      let p₃ = next-written l₀ l₂ l₃ (first ++ second) (box_part n.states n.boxes) (bits_in c.shapes) (room-there _ _ (omega arith) (omega arith)) two-length p₂ e₃ in
      let p₄ = next-written l₀ l₃ l₄ (first ++ second ++ third) (window_part n.states n.boxes) (word_in (window_words c.window)) (room-there _ _ (omega arith) (omega arith)) three-length p₃ (rw ew at e₄) in
      next-written l₀ l₄ l₅ (first ++ second ++ third ++ fourth) (cell_part n.states n.boxes n.cells) (word_in c.cells) (room-there _ _ few long) four-length p₄ e₅

-- ---- a part alone that is longer than a scene

module _ (n : Counts) where
  many : (blocks_for n ≤ 128 → ⊥) → 128 < blocks_for n
  many h = go (dec_le (blocks_for n) 128)
    where
      go : Dec (blocks_for n ≤ 128) → 128 < blocks_for n
      go (yes l) = absurd (h l)
      go (no l) = omega arith

  pub many-states : 4096 < n.states → 128 < blocks_for n
  many-states h = many (λ l. let r = (rooms n l).records in less r)
    where
      less : n.states * 20 ≤ 15744 → ⊥
      less r = omega arith

  pub many-boxes : 16384 < n.boxes → 128 < blocks_for n
  many-boxes h = many (λ l. let r = (rooms n l).shapes in less r)
    where
      less : n.boxes * 6 ≤ 15744 → ⊥
      less r = omega arith

  pub many-cells : 15744 < n.cells → 128 < blocks_for n
  many-cells h = many (λ l. let r = (rooms n l).cells in less r)
    where
      less : n.cells ≤ 15744 → ⊥
      less r = omega arith

-- ---- what is handed back

module _ (c : Contents) (out : List ℕ) where
  nothing : (r : ℕ) → eqb r 0 ≡ false → (out ≡ written_unless r out c) × (record { refusal = r; bytes = 0 } ≡ answer_by r c)
  unfolding written_unless answer_by choose
  nothing r e = (rw e, rw e)

  pub no_room : 128 < scene_blocks c → (out ≡ written_checked out c) × (record { refusal = 12; bytes = 0 } ≡ checked_answer (length out) c)
  no_room h = rw (room-many (scene_blocks c) (length out) h) (nothing 12 refl)

  module _ (n : Counts) (blocks r : ℕ) (en : n ≡ counts_for c) (eb : blocks ≡ blocks_for n) (er : r ≡ room_for blocks (length out)) where
    same : r ≡ room_for (scene_blocks c) (length out)
    same = er ∙ ap (λ (k : ℕ). room_for k (length out)) (eb ∙ ap blocks_for en)

    pub room-refused : (r ≡ 0 → ⊥) → (out ≡ written_checked out c) × (record { refusal = r; bytes = 0 } ≡ checked_answer (length out) c)
    room-refused h = rw (← same) (nothing r (ne_eqb r 0 h))

    pub room-written : (after : List ℕ) → r ≡ 0 → after ≡ stored out 0 (bytes_by c n)
        → (after ≡ written_checked out c) × (record { refusal = 0; bytes = blocks * 512 } ≡ checked_answer (length out) c)
    unfolding written_unless answer_by choose
    room-written after z e = rw (← same, z) (e ∙ ap (λ (k : Counts). stored out 0 (bytes_by c k)) en, rw (eb, en))

  -- 1 to 4 come first
  module _ (r : ℕ) (er : r ≡ contents_refusal c.records c.shapes c.cells c.window c.numbers c.words) where
    pub contents-refused : (r ≡ 0 → ⊥) → (out ≡ written_scene out c) × (record { refusal = r; bytes = 0 } ≡ scene_answer (length out) c)
    unfolding scene_refusal choose
    contents-refused h = rw (← er, ne_eqb r 0 h) (nothing r (ne_eqb r 0 h))

    pub contents-fit : (after : List ℕ) (a : Written) → r ≡ 0 → after ≡ written_checked out c → a ≡ checked_answer (length out) c
        → (after ≡ written_scene out c) × (a ≡ scene_answer (length out) c)
    unfolding scene_refusal choose
    contents-fit after a z e f = rw (← er, z) (e, f)

-- ---- the buffer keeps its length

pub written-length : (r : ℕ) (out : List ℕ) (c : Contents) → length (written_unless r out c) ≡ length out
unfolding written_unless choose
written-length r out c = go (eqb r 0)
  where
    go : (b : Bool) → length (choose b (stored out 0 (scene_bytes c)) out) ≡ length out
    go true = stored-length out 0 (scene_bytes c)
    go false = refl

part-kept : (l : List ℕ) (p : Part) (f : ℕ → ℕ) → length (written_part l p f) ≡ length l
unfolding written_part choose
part-kept l p f = go (part_room (length l) p)
  where
    go : (b : Bool) → length (choose b (stored l (p.first * 512) (part_bytes p f)) l) ≡ length l
    go true = stored-length l (p.first * 512) (part_bytes p f)
    go false = refl

pub all-length : (l₀ l₁ l₂ l₃ l₄ l₅ : List ℕ) (p₁ p₂ p₃ p₄ p₅ : Part) (f₁ f₂ f₃ f₄ f₅ : ℕ → ℕ)
    → l₁ ≡ written_part l₀ p₁ f₁ → l₂ ≡ written_part l₁ p₂ f₂ → l₃ ≡ written_part l₂ p₃ f₃ → l₄ ≡ written_part l₃ p₄ f₄ → l₅ ≡ written_part l₄ p₅ f₅ → length l₅ ≡ length l₀
all-length l₀ l₁ l₂ l₃ l₄ l₅ p₁ p₂ p₃ p₄ p₅ f₁ f₂ f₃ f₄ f₅ e₁ e₂ e₃ e₄ e₅ =
    ap length e₅ ∙ part-kept l₄ p₅ f₅ ∙ ap length e₄ ∙ part-kept l₃ p₄ f₄ ∙ ap length e₃ ∙ part-kept l₂ p₃ f₃ ∙ ap length e₂ ∙ part-kept l₁ p₂ f₂ ∙ ap length e₁ ∙ part-kept l₀ p₁ f₁
