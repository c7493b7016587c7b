-- How long what is printed of a log file's minute is: 215,050 bytes hold all of it. Assumes nothing.
use mathlib.Core.List.{List}
use mathlib.Core.Path.{◌≡◌}
use Prim.Native.Nat.{ℕ, ◌≤◌}
use native.Mathlib.Omega.{arith}
use lib.ListN.{length}
use Rattle.text.specs.Cursor.{Put}
use Rattle.minute_told.specs.Printed.{minute_text}
use Rattle.minute_told.proofs.Room.{text-length}
use Rattle.logged.specs.Logged.{minute_in}
use Rattle.logged.proofs.Few.{minute-few}

pub text-most : (file : List ℕ) → length (minute_text (minute_in file)) ≤ 215050
text-most file =
    let n = text-length (minute_in file).lines (minute_in file).refusal in
    let f = minute-few file in
    omega arith

-- with that much room the bytes that `answer` tells are all there are
pub all-printed : (file out after : List ℕ) (r : ℕ) → 215050 ≤ length out → Put out 0 (minute_text (minute_in file)) after r → r ≡ length (minute_text (minute_in file))
all-printed file out after r h p =
    let m = text-most file in
    let e = p.cursor in
    omega arith
