-- How a scene file is laid out: the parts that its blocks are of. Document 01's and 02's words stand in quotes.
use Rattle.std.specs.Prelude.{Bool, List, ℕ, ◌+◌, ◌*◌, ◌/◌, ◌%◌, eqb, ltb}
use Rattle.base.specs.Choose.{choose}
use Rattle.base.specs.Every.{every}
use Rattle.blocks.specs.declared.Part.{Part}
pub use Rattle.block_checks.specs.Checks.{old_mark, new_mark}
unfoldable pub use Rattle.block_checks.specs.Checks.{file_word, marked, sum_of, check_of, second_of, word126}
unfoldable pub use Rattle.block_rules.specs.Rules.{block_of, is_second, rest_zero, block_fits}

-- ---- parts: the blocks of one kind, one after the other

-- the payload words in use in a full block: the body's 49, "six records each" of 20 words, "20 boxes each" of six, the window's eight, "123 cells each",
-- and of a log "30 events each of four words"
unfoldable pub per_block : ℕ → ℕ
per_block kind = choose (eqb kind 1) 49 (choose (eqb kind 2) 120 (choose (eqb kind 3) 120 (choose (eqb kind 4) 8 (choose (eqb kind 6) 120 123))))

-- as many blocks as the words fill, and one more for what is left over
unfoldable pub blocks_of : Part → ℕ
blocks_of p = p.words / per_block p.kind + choose (eqb (p.words % per_block p.kind) 0) 0 1

-- the block after the last
abbrev pub end_of : Part → ℕ
end_of p = p.first + blocks_of p

-- how many words are in use in a part's block j: all of a full one, and what is left over in the last
unfoldable pub used_in : Part → ℕ → ℕ
used_in p j = choose (ltb j (p.words / per_block p.kind)) (per_block p.kind) (p.words % per_block p.kind)

-- each block by the rule of the file's first mark, so that both marks in one file do not fit
unfoldable pub part_fits : List ℕ → Part → Bool
part_fits file p = every (blocks_of p) (λ j. block_fits (is_second file) (block_of file (p.first + j)) (p.first + j) p.kind (used_in p j))

-- word i of a part; 0 where the part has no such word
unfoldable pub part_word : List ℕ → Part → ℕ → ℕ
part_word file p i = choose (ltb i p.words) (file_word (block_of file (p.first + i / per_block p.kind)) (3 + i % per_block p.kind)) 0

-- ---- "Kinds in order: one 1 (body), 2, 3, one 4, 5"

abbrev pub body_part : Part
body_part = record { first = 0; kind = 1; words = 49 }

abbrev pub record_part : ℕ → Part
record_part states = record { first = end_of body_part; kind = 2; words = states * 20 }

abbrev pub box_part : ℕ → ℕ → Part
box_part states boxes = record { first = end_of (record_part states); kind = 3; words = boxes * 6 }

abbrev pub window_part : ℕ → ℕ → Part
window_part states boxes = record { first = end_of (box_part states boxes); kind = 4; words = 8 }

abbrev pub cell_part : ℕ → ℕ → ℕ → Part
cell_part states boxes cells = record { first = end_of (window_part states boxes); kind = 5; words = cells }

-- "Recorders now log a minute: a scene, then blocks of kind 6", so many of them behind the scene's
abbrev pub log_part : ℕ → ℕ → Part
log_part first blocks = record { first = first; kind = 6; words = blocks * 120 }
