-- The two rounds of a scene, written and then read, and read and then written. Document 02's words stand in quotes.
use Rattle.std.specs.Prelude.{List, true, ◌≡◌, ℕ, ◌<◌, ◌≤◌, T, length, get_or, take, drop}
use Rattle.std.specs.Float.{binary32, binary64}
use Rattle.std.specs.Float.Ieee.{fits}
use Rattle.base.specs.Loop.{stored}
use Rattle.floats.specs.Numbers.{zero64}
use Rattle.lent_words.specs.Words.{Signed}
use Rattle.blocks.specs.Blocks.{is_second}
use Rattle.files.specs.Files.{is_scene}
use Rattle.files.specs.Contents.{Contents, contents_in}
use Rattle.writer.specs.Contents.{as_written}
use Rattle.writer.specs.Written.{scene_bytes, refusal_of_contents, scene_refusal, written_scene, scene_answer}

-- what the types of a program's parameters say of what it is handed: words of 32 bits, numbers of their format, an age of 64 bits
pub record Typed (c : Contents) : Type 0 where
  pub records : (i : ℕ) → get_or c.records i 0 < 4294967296
  pub shapes : (i : ℕ) → T (fits binary32 (get_or c.shapes i zero64))
  pub cells : (i : ℕ) → get_or c.cells i 0 < 4294967296
  pub window : Signed c.window
  pub numbers : (i : ℕ) → T (fits binary64 (get_or c.numbers i zero64))
  pub words : (i : ℕ) → get_or c.words i 0 < 4294967296
  pub age : c.age < 18446744073709551616

-- the bytes that were written
abbrev pub file_of : List ℕ → Contents → List ℕ
file_of out c = take (scene_answer (length out) c).bytes (written_scene out c)

-- "Reading what it wrote gives back the same numbers, bit for bit": a flap's as zero where none is present, and the window with the body's air state.
-- "Bytes past the scene keep their values." "the writer writes the new one".
pub record ReadsBack (out : List ℕ) (c : Contents) : Type 0 where
  pub scene : is_scene (file_of out c) ≡ true
  pub new : is_second (file_of out c) ≡ true
  pub same : contents_in (file_of out c) ≡ as_written c
  pub past : drop (scene_answer (length out) c).bytes (written_scene out c) ≡ drop (scene_answer (length out) c).bytes out

abbrev pub WrittenThenRead : Type 0
WrittenThenRead = (out : List ℕ) (c : Contents) → Typed c → scene_refusal c (length out) ≡ 0 → ReadsBack out c

-- "a file that passes 8 and 1 to 4 is what the writer makes of its contents": so are its bytes, and so a buffer that has room for them comes out
pub record ComesOut (file : List ℕ) : Type 0 where
  pub bytes : scene_bytes (contents_in file) ≡ file
  pub buffer : (out : List ℕ) → length file ≤ length out → written_scene out (contents_in file) ≡ stored out 0 file
  pub answer : (out : List ℕ) → length file ≤ length out → scene_answer (length out) (contents_in file) ≡ record { refusal = 0; bytes = length file }

-- as long as the file, and for a buffer with room what comes of it
pub record SameNumbers (file : List ℕ) : Type 0 where
  pub scene : is_scene (scene_bytes (contents_in file)) ≡ true
  pub new : is_second (scene_bytes (contents_in file)) ≡ true
  pub same : contents_in (scene_bytes (contents_in file)) ≡ contents_in file
  pub long : length (scene_bytes (contents_in file)) ≡ length file
  pub buffer : (out : List ℕ) → length file ≤ length out → written_scene out (contents_in file) ≡ stored out 0 (scene_bytes (contents_in file))

-- a file is bytes; "request Four's file proof is of those" that have the new mark
abbrev pub ReadThenWritten : Type 0
ReadThenWritten = (file : List ℕ) → ((i : ℕ) → get_or file i 0 < 256) → is_scene file ≡ true → is_second file ≡ true → refusal_of_contents (contents_in file) ≡ 0 → ComesOut file

-- what the writer makes of a file's contents, whichever mark that has: a scene of the new mark that holds the same numbers
abbrev pub WrittenAnew : Type 0
WrittenAnew = (file : List ℕ) → ((i : ℕ) → get_or file i 0 < 256) → is_scene file ≡ true → refusal_of_contents (contents_in file) ≡ 0 → SameNumbers file
