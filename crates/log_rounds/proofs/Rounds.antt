-- A log that was written is a log, and holds the scene and the events that were handed over. Assumes nothing.
use mathlib.Core.Bool.{true, true≢false}
use mathlib.Core.List.{List, ◌++◌}
use mathlib.Core.Path.{◌≡◌, refl, sym, ap, ◌∙◌}
use Prim.Native.Nat.{ℕ, zero, suc, ◌+◌, ◌-◌, ◌*◌, ◌%◌, ◌<◌, ◌≤◌}
use native.Mathlib.Decide.{dec_lt}
use native.Mathlib.Omega.{arith}
use lib.Dec.{eqb}
use lib.ListN.{length, take, drop, take-append-drop, length-append, get_or-eq_default}
use lib.Seq.{take-append-le, take_at, take-take, drop_at}
use borrow.Author.Tests.{lt-ltb, le-ltb, le-leb, eq-eqb, ne_eqb, eqb-true}
use Rattle.base.specs.Choose.{choose}
use Rattle.base.specs.Every.{every}
use Rattle.base.specs.Loop.{listed}
use Rattle.base.proofs.Every.{both, and-true, every-at, every-from}
use Rattle.base.proofs.Stored.{stored-parts}
use Rattle.blocks.specs.Blocks.{marked, is_second, per_block, blocks_of, end_of, part_fits, part_word, body_part}
use Rattle.block_rules.proofs.Blocks.{block-is}
use Rattle.files.specs.Files.{is_scene}
use Rattle.files.proofs.Told.{tells}
use Rattle.part_writer.specs.Bytes.{word_in}
use Rattle.part_writer.proofs.Parts.{Holds, part_length, holds-last, holds_fits, holds-word}
use Rattle.writer.specs.Written.{written_scene, scene_answer}
use Rattle.rounds.specs.Rounds.{file_of}
use Rattle.rounds.proofs.Written.{written-then-read}
use Rattle.logs.specs.Logs.{is_tick, is_set, event_fits, event_at, end_from, end_fits, rest_of_log_zero, events_fit, scene_in, blocks_in, log_word, log_of, log_fits, whole_log, is_log, events_by, events_of}
use Rattle.log_writer.specs.Written.{lent_event_count, lent_events_fit, lent_events, scene_there, scene_blocks_in, log_blocks, all_blocks, part_of, log_bytes, log_refusal, written_log, log_answer}
use Rattle.log_writer.proofs.Puts.{log-blocks, Passes, passes}
use Rattle.log_rounds.specs.Rounds.{log_file, LogReadsBack, Words, LoggedThenRead, MinuteThenRead}
use Rattle.log_rounds.proofs.Scenes.{scene-first, scene-start}

-- ---- the events, as they are lent

-- an event that fits is no end
number : (word : ℕ → ℕ) (i : ℕ) → event_fits word i ≡ true → word (i * 4) ≡ 0 → ⊥
unfolding event_fits is_tick is_set
number word i h z = true≢false (sym (rw z at h))

module _ (events : List ℕ) (fit : lent_events_fit events ≡ true) where
  record Whole : Type 0 where
    four : length events ≡ lent_event_count events * 4
    each : (i : ℕ) → i < lent_event_count events → event_fits (word_in events) i ≡ true

  whole : Whole
  unfolding lent_events_fit
  whole =
      let t = both (eqb (length events % 4) 0) (every (lent_event_count events) (event_fits (word_in events))) fit in
      let r = eqb-true (length events % 4) 0 t.one in
      record { four = omega arith; each = every-at (lent_event_count events) (event_fits (word_in events)) t.two }

  -- behind them, zeros
  behind : (k : ℕ) → word_in events (lent_event_count events * 4 + k) ≡ 0
  behind k = let f = whole.four in get_or-eq_default events 0 (omega arith)

  end-from : (k i : ℕ) → i ≤ lent_event_count events → lent_event_count events < i + k → end_from (word_in events) k i ≡ lent_event_count events
  unfolding end_from choose
  end-from zero i h l = absurd (none i h l)
    where
      none : (i : ℕ) → i ≤ lent_event_count events → lent_event_count events < i + 0 → ⊥
      none i h l = omega arith
  end-from (suc k) i h l = go (dec_lt i (lent_event_count events)) (λ g. end-from k (i + 1) g (omega arith))
    where
      go : Dec (i < lent_event_count events) → (i + 1 ≤ lent_event_count events → end_from (word_in events) k (i + 1) ≡ lent_event_count events)
          → choose (eqb (word_in events (i * 4)) 0) i (end_from (word_in events) k (i + 1)) ≡ lent_event_count events
      go (yes g) again = rw (ne_eqb (word_in events (i * 4)) 0 (number (word_in events) i (whole.each i g))) (again (omega arith))
      go (no g) again =
          let q : i ≡ lent_event_count events = omega arith in
          let p : lent_event_count events * 4 + 0 ≡ lent_event_count events * 4 = omega arith in
          let z : word_in events (lent_event_count events * 4) ≡ 0 = rw p at (behind 0) in
          rw (q, eq-eqb (word_in events (lent_event_count events * 4)) 0 z)

  end_is : end_from (word_in events) (log_blocks events * 30) 0 ≡ lent_event_count events
  end_is = let f = whole.four in end-from (log_blocks events * 30) 0 (omega arith) (omega arith)

  all-fit : events_fit (word_in events) (log_blocks events) (lent_event_count events) ≡ true
  unfolding events_fit end_fits rest_of_log_zero
  all-fit =
      let f = whole.four in
      rw (
        le-leb (log_blocks events * 30) (lent_event_count events + 30) (omega arith),
        lt-ltb (lent_event_count events) (log_blocks events * 30) (omega arith),
        every-from (lent_event_count events) (event_fits (word_in events)) whole.each,
      )
      (every-from (log_blocks events * 120 - lent_event_count events * 4) _ (λ k h. eq-eqb _ 0 (behind k)))

-- ---- the file

one_block : blocks_of body_part ≡ 1
unfolding blocks_of per_block choose
one_block = refl

module _ (out events : List ℕ) (words : Words events) (z : log_refusal out events ≡ 0) where
  p : Passes out events
  p = passes out events z

  abbrev scene : List ℕ
  scene = scene_in out

  abbrev s : ℕ
  s = scene_blocks_in out

  abbrev b : ℕ
  b = log_blocks events

  abbrev file : List ℕ
  file = scene ++ log_bytes out events

  is-scene : is_scene scene ≡ true
  unfolding scene_there
  is-scene = (both (marked true out) (is_scene scene) p.there).two

  scene-long : length scene ≡ s * 512
  scene-long = let size = (tells scene is-scene).size in omega arith

  at-start : take (s * 512) out ≡ scene
  at-start = rw (← scene-long) (scene-start out)

  log-long : length (log_bytes out events) ≡ b * 512
  log-long = let n = log-blocks s b in let l = part_length (part_of out events) (word_in events) in omega arith

  file-long : length file ≡ all_blocks out events * 512
  file-long = let a = scene-long in let l = log-long in length-append scene (log_bytes out events) ∙ omega arith

  written_is : written_log out events ≡ file ++ drop (all_blocks out events * 512) out
  unfolding written_log choose
  written_is =
      let l = log-long in
      let long = p.long in
      let e : s * 512 + length (log_bytes out events) ≡ all_blocks out events * 512 = omega arith in
      rw z (rw (at-start, e) at (stored-parts out (s * 512) (log_bytes out events) (omega arith)))

  bytes-is : (log_answer out events).bytes ≡ all_blocks out events * 512
  unfolding log_answer choose
  bytes-is = rw z

  file-is : log_file out events ≡ file
  file-is = rw (bytes-is, written_is) (take_at file (drop (all_blocks out events * 512) out) (all_blocks out events * 512) file-long)

  past_is : drop (log_answer out events).bytes (written_log out events) ≡ drop (log_answer out events).bytes out
  past_is = rw (bytes-is, written_is) (drop_at file (drop (all_blocks out events * 512) out) (all_blocks out events * 512) file-long)

  -- ---- its scene, its mark, and its log
  scene-is : scene_in file ≡ scene
  scene-is = scene-first scene (log_bytes out events) is-scene

  blocks_is : blocks_in file ≡ all_blocks out events
  blocks_is = let l = file-long in omega arith

  four : take 4 file ≡ take 4 out
  four =
      let a = scene-long in
      let size = (tells scene is-scene).size in
      let o = one_block in
      take-append-le 4 scene (log_bytes out events) (omega arith) ∙ ap (take 4) (sym at-start) ∙ take-take 4 (s * 512) out (omega arith)

  new : is_second file ≡ true
  unfolding is_second marked scene_there
  new =
      let l = file-long in
      let m = (both (marked true out) (is_scene scene) p.there).one in
      rw (block-is file 0 (omega arith), take-take 4 512 file (omega arith), four) m

  held : Holds file (part_of out events) (word_in events)
  held = holds-last scene (part_of out events) (word_in events) scene-long

  few : end_of (part_of out events) ≤ 128
  few = let n = log-blocks s b in let f = p.few in omega arith

  part-fits : part_fits file (part_of out events) ≡ true
  part-fits = holds_fits file new (part_of out events) (word_in events) held few (omega arith) (λ i h. words i)

  none-at : (i : ℕ) → b * 120 ≤ i → log_word file s b i ≡ 0
  unfolding part_word choose
  none-at i h = rw (le-ltb i (b * 120) h)

  word-at : (i : ℕ) → log_word file s b i ≡ word_in events i
  word-at i = go (dec_lt i (b * 120))
    where
      go : Dec (i < b * 120) → log_word file s b i ≡ word_in events i
      go (yes h) = holds-word file new (part_of out events) (word_in events) held few (omega arith) (λ i h. words i) i h
      go (no h) =
          let o : length events ≤ i = omega arith in
          none-at i (omega arith) ∙ sym (get_or-eq_default events 0 o)

  word-is : log_word file s b ≡ word_in events
  word-is j i = word-at i j

  log_is : log_of file ≡ record { scene = s; blocks = b; events = lent_event_count events }
  log_is =
      let n : all_blocks out events - s ≡ b = omega arith in
      rw (scene-is, blocks_is, n, word-is, end_is events p.fit)

  whole-log : whole_log file record { scene = s; blocks = b; events = lent_event_count events } ≡ true
  unfolding whole_log log_fits
  whole-log =
      let l = file-long in
      let r : length file % 512 ≡ 0 = omega arith in
      rw (blocks_is, le-leb (all_blocks out events) 128 p.few, r, part-fits, word-is) (all-fit events p.fit)

  is-log : is_log file ≡ true
  unfolding is_log
  is-log = and-true (is_scene (scene_in file)) (whole_log file (log_of file)) (ap is_scene scene-is ∙ is-scene) (ap (whole_log file) log_is ∙ whole-log)

  events-is : events_of file ≡ lent_events events
  unfolding events_by
  events-is = ap (events_by file) log_is ∙ ap (λ (word : ℕ → ℕ). listed (event_at word) (lent_event_count events) 0) word-is

  reads-back : LogReadsBack out events
  reads-back = record { log = rw file-is is-log; scene = rw file-is scene-is; same = rw file-is events-is; past = past_is }

pub logged-then-read : LoggedThenRead
logged-then-read out events words z = reads-back out events words z

-- ---- a scene that was written, and the log behind it

pub minute-then-read : MinuteThenRead
minute-then-read out c events t words e z =
    let r = written-then-read out c t e in
    let n = (scene_answer (length out) c).bytes in
    let start : file_of out c ++ drop n (written_scene out c) ≡ written_scene out c = take-append-drop n (written_scene out c) in
    let same : scene_in (written_scene out c) ≡ file_of out c = rw start at (scene-first (file_of out c) (drop n (written_scene out c)) r.scene) in
    rw ((logged-then-read (written_scene out c) events words z).scene, same) r.same
