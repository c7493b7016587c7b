-- A scene's records, shapes and cells in places of the program's own, with room for a summary behind the cells, and what its minute comes to.
-- Assumes nothing.
use mathlib.Core.Bool.{true, ◌&&◌}
use mathlib.Core.List.{List}
use mathlib.Core.Path.{◌≡◌, refl, sym, ap, ◌∙◌, subst}
use Prim.Native.Nat.{ℕ, ◌+◌, ◌*◌, ◌≤◌, min}
use native.Mathlib.Omega.{arith}
use lib.Dec.{leb}
use lib.Ieee.{Float, binary32, of_bits}
use lib.ListN.{length, take}
use lib.Seq.{length-take-le, take-take}
use borrow.Author.Tests.{eq-eqb}
use Rattle.base.specs.Choose.{choose}
use Rattle.base.specs.Loop.{listed}
use Rattle.base.proofs.Every.{both}
use Rattle.bodies.specs.declared.BodyNumbers.{BodyNumbers}
use Rattle.bodies.specs.declared.Rules.{Rules}
use Rattle.bodies.specs.declared.MotionNumbers.{MotionNumbers}
use Rattle.bodies.specs.Lent.{motion_at, body_at, rules_at}
use Rattle.window.specs.declared.Window.{Window}
use Rattle.window.specs.Window.{sizes_fit}
use Rattle.window.proofs.Check.{sizes-small}
use Rattle.groups.specs.Groups.{group_count}
use Rattle.groups.specs.Summary.{words_before, summed_words, has_summary}
use Rattle.groups.proofs.Counts.{all-groups}
use Rattle.summary.specs.Calls.{plain_words}
use Rattle.blocks.specs.Blocks.{part_word, record_part, box_part, window_part, cell_part}
use Rattle.files.specs.declared.Counts.{Counts}
use Rattle.files.specs.Files.{body_word, window_in, sizes_in, counts_in, counts_fit, counts_of, flap_fits, blocks_fit, is_scene}
use Rattle.files.specs.Places.{states_place, boxes_place}
use Rattle.files.specs.Contents.{Contents, contents_of, numbers_in, late_words, body_age, words_of, singles_of, contents_behind}
use Rattle.files.proofs.Scenes.{rooms}
use Rattle.files.proofs.Told.{tells}
use Rattle.logs.specs.declared.Event.{Event}
use Rattle.minute_state.specs.Minute.{lent_by, minute}
use Rattle.logged.specs.Logged.{lent_of, minute_over}
use Rattle.logged.specs.Held.{logged_contents, held_minute}
use Rattle.logged.proofs.Alone.{Same, alone}

-- ---- what the program hands on, by how many words there is room for

pub handed-on : (scene : List ℕ) (n : Counts) (records : List ℕ) (singles : List Float) (words : List ℕ) (a b c d : ℕ) (w : Window)
    → a ≡ min (n.states * 20) (length records) → b ≡ min (n.boxes * 6) (length singles) → c ≡ min d (length words) → d ≡ summed_words w.sizes
    → w ≡ window_in scene (window_part n.states n.boxes)
    → contents_of (take a records) (take b singles) (take c words) w (numbers_in scene) (late_words scene) (body_age scene) ≡ logged_contents scene n records singles words
handed-on scene n records singles words a b c d w ea eb ec ed ew = rw (ec, ed, ea, eb, ew)

-- ---- the minute that the program runs, by the parts of a body that it reads

pub among : (records : List ℕ) (shapes : List Float) (words : List ℕ) (w : Window) (events : List Event) (numbers : List Float) (late : List ℕ)
    (rules : Rules) (body : BodyNumbers) (given : MotionNumbers) (age : ℕ) (N : List Float) (L : List ℕ) (A : ℕ)
    → rules ≡ rules_at numbers late → body ≡ body_at numbers late → given ≡ motion_at numbers late → age ≡ A → numbers ≡ N → late ≡ L
    → minute (lent_by records shapes w rules body) words given age events ≡ held_minute (contents_of records shapes words w N L A) events
unfolding held_minute
among records shapes words w events numbers late rules body given age N L A er eb eg ea en el =
    let r = er ∙ (λ i. rules_at (en i) (el i)) in
    let b = eb ∙ (λ i. body_at (en i) (el i)) in
    let g = eg ∙ (λ i. motion_at (en i) (el i)) in
    λ i. minute (lent_by records shapes w (r i) (b i)) words (g i) (ea i) events

-- ---- what a scene says of its sizes

record Sized (w : Window) (n : Counts) : Type 0 where
  sizes : sizes_fit w.sizes ≡ true
  cells : n.cells ≡ words_before w.sizes

sized : (scene : List ℕ) → is_scene scene ≡ true → Sized (window_in scene (window_part (counts_of scene).states (counts_of scene).boxes)) (counts_of scene)
unfolding is_scene counts_fit counts_in sizes_in
sized scene s =
    let c = (both (counts_fit scene) (flap_fits scene && blocks_fit scene (counts_of scene)) s).one in
    let z = (both (leb 1 (body_word scene states_place) && leb (body_word scene states_place) 4096 && leb (body_word scene boxes_place) 16384) (sizes_fit (sizes_in scene)) c).two in
    record { sizes = z; cells = refl }

-- ---- words with room for a summary

module _ (w : Window) (words : List ℕ) (fits : sizes_fit w.sizes ≡ true) (room : words_before w.sizes ≤ 15744) (long : length words ≡ 19840) where
  enough : words_before w.sizes + group_count w.sizes ≤ length words
  enough = let g = all-groups w.sizes (sizes-small w.sizes fits) in omega arith

  summed-is : min (summed_words w.sizes) (length words) ≡ words_before w.sizes + group_count w.sizes
  unfolding summed_words choose
  summed-is = rw fits (least enough)
    where
      least : {a b : ℕ} → a ≤ b → min a b ≡ a
      least h = omega arith

  there : has_summary (take (min (summed_words w.sizes) (length words)) words) w ≡ true
  unfolding has_summary
  there =
      let e = ap (λ (k : ℕ). length (take k words)) summed-is ∙ length-take-le (words_before w.sizes + group_count w.sizes) words enough in
      rw (fits, eq-eqb (length (take (min (summed_words w.sizes) (length words)) words)) (words_before w.sizes + group_count w.sizes) e)

  first : plain_words (take (min (summed_words w.sizes) (length words)) words) w ≡ take (words_before w.sizes) words
  unfolding plain_words choose
  first =
      let b : words_before w.sizes ≤ words_before w.sizes + group_count w.sizes = omega arith in
      rw (fits, summed-is) (take-take (words_before w.sizes) (words_before w.sizes + group_count w.sizes) words b)

-- ---- the whole: what the program put into its places is what the scene holds

-- the contents without the summary's words
abbrev plainly : Contents → Contents
plainly c = contents_of c.records c.shapes (plain_words c.cells c.window) c.window c.numbers c.words c.age

over_plain : (c : Contents) (events : List Event) → has_summary c.cells c.window ≡ true → Same (held_minute c events) (minute_over (plainly c) events)
unfolding held_minute minute_over plain_words has_summary
over_plain c events t = alone (lent_of c) c.cells (motion_at c.numbers c.words) c.age events t

module _ (scene : List ℕ) (records : List ℕ) (singles : List Float) (words : List ℕ) (s : is_scene scene ≡ true)
    (lr : length records ≡ 15744) (ls : length singles ≡ 15744) (lw : length words ≡ 19840) where
  abbrev n : Counts
  n = counts_of scene

  abbrev w : Window
  w = window_in scene (window_part n.states n.boxes)

  room : words_before w.sizes ≤ 15744
  room =
      let r = (rooms n (tells scene s).few).cells in
      let e = (sized scene s).cells in
      omega arith

  all_held : take (min (n.states * 20) 15744) records ≡ listed (part_word scene (record_part n.states)) (min (n.states * 20) 15744) 0
      → take (min (n.boxes * 6) 15744) singles ≡ listed (λ i. of_bits binary32 (part_word scene (box_part n.states n.boxes) i)) (min (n.boxes * 6) 15744) 0
      → take (min n.cells 19840) words ≡ listed (part_word scene (cell_part n.states n.boxes n.cells)) (min n.cells 19840) 0
      → plainly (logged_contents scene n records singles words) ≡ contents_behind scene n
  unfolding words_of singles_of
  all_held er es ew =
      let z = sized scene s in
      let r = rooms n (tells scene s).few in
      let p : min (n.states * 20) 15744 ≡ n.states * 20 = let h = r.records in omega arith in
      let q : min (n.boxes * 6) 15744 ≡ n.boxes * 6 = let h = r.shapes in omega arith in
      let o : min n.cells 19840 ≡ n.cells = let h = r.cells in omega arith in
      let er' = ap (λ (k : ℕ). take (min (n.states * 20) k) records) lr ∙ er ∙ ap (λ (k : ℕ). listed (part_word scene (record_part n.states)) k 0) p in
      let es' = ap (λ (k : ℕ). take (min (n.boxes * 6) k) singles) ls ∙ es ∙ ap (λ (k : ℕ). listed (λ i. of_bits binary32 (part_word scene (box_part n.states n.boxes) i)) k 0) q in
      let ew' = first w words z.sizes room lw ∙ ap (λ (k : ℕ). take k words) (sym z.cells ∙ sym o) ∙ ew ∙ ap (λ (k : ℕ). listed (part_word scene (cell_part n.states n.boxes n.cells)) k 0) o in
      λ i. contents_of (er' i) (es' i) (ew' i) w (numbers_in scene) (late_words scene) (body_age scene)

  pub held_same : (events : List Event)
      → take (min (n.states * 20) 15744) records ≡ listed (part_word scene (record_part n.states)) (min (n.states * 20) 15744) 0
      → take (min (n.boxes * 6) 15744) singles ≡ listed (λ i. of_bits binary32 (part_word scene (box_part n.states n.boxes) i)) (min (n.boxes * 6) 15744) 0
      → take (min n.cells 19840) words ≡ listed (part_word scene (cell_part n.states n.boxes n.cells)) (min n.cells 19840) 0
      → Same (held_minute (logged_contents scene n records singles words) events) (minute_over (contents_behind scene n) events)
  held_same events er es ew =
      subst (λ (c : Contents). Same (held_minute (logged_contents scene n records singles words) events) (minute_over c events)) (all_held er es ew)
      (over_plain (logged_contents scene n records singles words) events (there w words (sized scene s).sizes room lw))

-- the same of counts that are the scene's, and of what was put into places of these lengths
pub held_by : (scene : List ℕ) (n : Counts) (events : List Event) (records : List ℕ) (singles : List Float) (words : List ℕ) (v u t : ℕ)
    → v ≡ 15744 → u ≡ 15744 → t ≡ 19840 → length records ≡ 15744 → length singles ≡ 15744 → length words ≡ 19840
    → take (min (n.states * 20) v) records ≡ listed (part_word scene (record_part n.states)) (min (n.states * 20) v) 0
    → take (min (n.boxes * 6) u) singles ≡ listed (λ i. of_bits binary32 (part_word scene (box_part n.states n.boxes) i)) (min (n.boxes * 6) u) 0
    → take (min n.cells t) words ≡ listed (part_word scene (cell_part n.states n.boxes n.cells)) (min n.cells t) 0
    → is_scene scene ≡ true → counts_of scene ≡ n
    → Same (held_minute (logged_contents scene n records singles words) events) (minute_over (contents_behind scene n) events)
held_by scene n events records singles words v u t ev eu et lr ls lw er es ew s e =
    subst (λ (k : Counts). take (min (k.states * 20) v) records ≡ listed (part_word scene (record_part k.states)) (min (k.states * 20) v) 0
    → take (min (k.boxes * 6) u) singles ≡ listed (λ i. of_bits binary32 (part_word scene (box_part k.states k.boxes) i)) (min (k.boxes * 6) u) 0
    → take (min k.cells t) words ≡ listed (part_word scene (cell_part k.states k.boxes k.cells)) (min k.cells t) 0
    → Same (held_minute (logged_contents scene k records singles words) events) (minute_over (contents_behind scene k) events)) e
    (λ r q w. held_same scene records singles words s lr ls lw events (rw ev at r) (rw eu at q) (rw et at w)) er es ew
