-- Whether a scene has room. Document 02's words stand in quotes.
use Rattle.std.specs.Prelude.{ℕ, ◌*◌, leb}
use Rattle.base.specs.Choose.{choose}

-- "then 12, more than 128 blocks; then 11, buffer too short", or 0: for so many blocks, and a buffer of this size
unfoldable pub room_for : ℕ → ℕ → ℕ
room_for blocks size = choose (leb blocks 128) (choose (leb (blocks * 512) size) 0 11) 12
