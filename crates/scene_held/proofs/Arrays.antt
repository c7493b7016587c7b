-- A scene's tables and cells in two arrays: the records and, behind them, the cells; and the shapes. Assumes nothing.
use mathlib.Core.List.{List, ◌++◌}
use mathlib.Core.Path.{◌≡◌, ap, ◌∙◌}
use Prim.Native.Nat.{ℕ, ◌+◌, ◌-◌, ◌*◌, ◌≤◌, min}
use native.Mathlib.Omega.{arith}
use native.Mathlib.Nat.{mul-le-mul}
use lib.ListN.{length, take, drop, length-take, length-drop}
use lib.Seq.{length-take-le, take_at, drop_at, take-append-le}
use lib.Ieee.{Float, binary32, of_bits}
use Rattle.base.specs.Loop.{listed}
use Rattle.window.specs.declared.Window.{Window}
use Rattle.blocks.specs.declared.Part.{Part}
use Rattle.blocks.specs.Blocks.{per_block, blocks_of, end_of, part_word, record_part, box_part, window_part, cell_part}
use Rattle.blocks.proofs.Parts.{per-block, words-most}
use Rattle.files.specs.declared.Counts.{Counts}
use Rattle.files.specs.Files.{window_in, blocks_for}
use Rattle.files.specs.Contents.{contents_of, numbers_in, late_words, body_age, words_of, singles_of, contents_behind}
use Rattle.files.proofs.Scenes.{rooms}
use Rattle.scene_held.specs.Held.{held_records, held_cells, held_shapes, held_contents}

-- ---- words from place b on were lent and came back as y: those before b stayed, and y begins at b

pub put_front : (f : ℕ → ℕ) (a b k : ℕ) (x y : List ℕ) → b ≡ a → b ≤ length x → take a x ≡ listed f a 0 → take a (take b x ++ (y ++ drop k (drop b x))) ≡ listed f a 0
put_front f a b k x y e h t = take_at (take b x) (y ++ drop k (drop b x)) a (length-take-le b x h ∙ e) ∙ ap (λ (n : ℕ). take n x) e ∙ t

lent_length : (b : ℕ) (x : List ℕ) → length (take (length x - b) (drop b x)) ≡ length x - b
lent_length b x = rw (length-take (length x - b) (drop b x), length-drop b x) (omega arith)

pub put-behind : (g : ℕ → ℕ) (a b n w : ℕ) (x y : List ℕ) → b ≡ a → a ≤ w → length x ≡ w → length y ≡ length (take (length x - b) (drop b x))
    → take (min n (length (take (length x - b) (drop b x)))) y ≡ listed g (min n (length (take (length x - b) (drop b x)))) 0
    → take (min n (w - a)) (drop a (take b x ++ (y ++ drop (length x - b) (drop b x)))) ≡ listed g (min n (w - a)) 0
put-behind g a b n w x y e h lx ly t =
    let m : length (take (length x - b) (drop b x)) ≡ w - a = lent_length b x ∙ (omega arith) in
    let enough : min n (w - a) ≤ length y = let l = ly ∙ m in omega arith in
    let p : length (take b x) ≡ a = length-take-le b x (omega arith) ∙ e in
    ap (λ (l : List ℕ). take (min n (w - a)) l) (drop_at (take b x) (y ++ drop (length x - b) (drop b x)) a p)
    ∙ take-append-le (min n (w - a)) y (drop (length x - b) (drop b x)) enough
    ∙ (rw m at t)

-- ---- what they come to

-- what the program hands on, by how many words there is room for
pub handed-on : (file : List ℕ) (n : Counts) (words : List ℕ) (singles : List Float) (a b c : ℕ) (w : Window)
    → a ≡ held_records n (length words) → b ≡ held_shapes n (length singles) → c ≡ min n.cells (length words - a)
    → w ≡ window_in file (window_part n.states n.boxes)
    → contents_of (take a words) (take b singles) (take (a + c - a) (drop a words)) w (numbers_in file) (late_words file) (body_age file) ≡ held_contents file n words singles
handed-on file n words singles a b c w ea eb ec ew = let q : a + c - a ≡ c = omega arith in rw (q, ec, ea, eb, ew)

-- 128 blocks hold no more than 15,744 words of two parts together, of which one is behind the other
together : (p q : Part) → end_of p ≤ q.first → end_of q ≤ 128 → p.words + q.words ≤ 15744
together p q behind h =
    let a : blocks_of p * per_block p.kind ≤ blocks_of p * 123 = mul-le-mul {n₂ = blocks_of p} {m₂ = 123} (omega arith) (per-block p.kind).most in
    let b : blocks_of q * per_block q.kind ≤ blocks_of q * 123 = mul-le-mul {n₂ = blocks_of q} {m₂ = 123} (omega arith) (per-block q.kind).most in
    let w = words-most p in
    let v = words-most q in
    omega arith

-- with room for all of a scene's words that is what the scene holds
pub all_held : (file : List ℕ) (n : Counts) (words : List ℕ) (singles : List Float) (v u : ℕ)
    → v ≡ 15744 → u ≡ 15744 → length words ≡ 15744 → length singles ≡ 15744
    → take (held_records n v) words ≡ listed (part_word file (record_part n.states)) (held_records n v) 0
    → take (held_cells n v) (drop (held_records n v) words) ≡ listed (part_word file (cell_part n.states n.boxes n.cells)) (held_cells n v) 0
    → take (held_shapes n u) singles ≡ listed (λ i. of_bits binary32 (part_word file (box_part n.states n.boxes) i)) (held_shapes n u) 0
    → blocks_for n ≤ 128
    → held_contents file n words singles ≡ contents_behind file n
unfolding words_of singles_of
all_held file n words singles v u ev eu lw ls er ec es few =
    let h : n.states * 20 + n.cells ≤ 15744 = together (record_part n.states) (cell_part n.states n.boxes n.cells) (omega arith) few in
    let p : min (n.states * 20) 15744 ≡ n.states * 20 = omega arith in
    let q : min n.cells (15744 - n.states * 20) ≡ n.cells = omega arith in
    let s : min (n.boxes * 6) 15744 ≡ n.boxes * 6 = let m = (rooms n few).shapes in omega arith in
    let er' = rw (ev, p) at er in
    let ec' = rw (ev, p, q) at ec in
    let es' = rw (eu, s) at es in
    rw (lw, ls, p, q, s, er', ec', es')
