-- `night_windows::check_all` meets its contract. Assumes nothing.
use mathlib.Core.Path.{◌≡◌, sym, ◌∙◌}
use mathlib.Core.List.{List, map}
use Prim.Native.Nat.{ℕ, ◌≤◌, ◌<◌}
use native.Mathlib.Omega.{arith}
use lib.ListN.{length, length-set, length-map}
use lib.Seq.{take_all}
use Rattle.std.proofs.lemmas.List.{map-set}
use Rattle.base.specs.Loop.{listed}
use Rattle.base.specs.Refusals.{verdict}
use Rattle.base.proofs.Fill.{turn, whole}
use Rattle.night_windows.specs.Windows.{refusal_within, verdicts}
use Rattle.night_windows.proofs.check_all.Goals as goal

pub loop-j-preserved : goal.loop-j-preserved
loop-j-preserved c =
    let a = c.args in
    let f : ℕ → ℕ = refusal_within a.tables.records.now a.windows.rows.now a.windows.cells.now a.windows.count in
    let l = c.loop-j.checked in
    let n = c.loop-j.invariant.0 in
    let h = c.loop-j-test.true in
    let room : c.loop-j.j < length (verdicts l) = let m : length (map verdict l) ≡ length l = length-map l verdict in omega arith in (
      length-set l c.loop-j.j c.check_within.result ∙ n,
      rw (map-set verdict l c.loop-j.j c.check_within.result) (turn f 16 c.loop-j.j (verdicts l) _ (verdict c.check_within.result) c.check_within.ensures h room c.loop-j.invariant.1),
    )

pub returns : goal.returns
returns c =
    let a = c.args in
    let f : ℕ → ℕ = refusal_within a.tables.records.now a.windows.rows.now a.windows.cells.now a.windows.count in
    let l : List ℕ = verdicts c.loop-j.checked in
    let n = c.loop-j.invariant.0 in
    let all : length l ≤ 16 = let m : length (map verdict c.loop-j.checked) ≡ length c.loop-j.checked = length-map c.loop-j.checked verdict in omega arith in
    sym (take_all 16 l all) ∙ whole f 16 c.loop-j.j l (listed f 16 0) c.loop-j-test.false (c.loop-j.auto.j-end) c.loop-j.invariant.1
