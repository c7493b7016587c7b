-- `parties::run` meets its contract. Assumes nothing.
use mathlib.Core.Path.{◌≡◌, sym}
use native.Mathlib.Omega.{arith}
use Rattle.table_check.specs.Check.{table_refusal}
use Rattle.parties.specs.Parties.{Call, first, party_seen, call_with}
use Rattle.halves.proofs.Halves.{half_length}
use Rattle.parties.proofs.Both.{both-refused, both-kept, told-both, written_both}
use Rattle.parties.proofs.Checked.{passed, refused_by}
use Rattle.parties.proofs.run.Goals as goal

pub returns-then-is_err : goal.returns-then-is_err
returns-then-is_err c =
    let a = c.args in
    let call : Call = call_with a.tables.records.now a.tables.shapes.now (party_seen a.one) (party_seen a.two) a.out.now in
    let bad : table_refusal call.records call.shapes ≡ 0 → ⊥ = refused_by _ _ _ c.check_tables.ensures c.is_err.ensures.value c.if-is_err.true in
    record { value = both-refused call bad; out_after = both-kept call bad }

pub slice_bounds-run_party-end-2 : goal.slice_bounds-run_party-end-2
slice_bounds-run_party-end-2 c = sym (half_length first c.args.out.now)

pub overflow_add-h : goal.overflow_add-h
overflow_add-h c = omega (arith, c.well_formed)

pub offset_bounds-out-h : goal.offset_bounds-out-h
offset_bounds-out-h c = omega (arith, c.well_formed)

pub returns : goal.returns
returns c =
    let a = c.args in
    let call : Call = call_with a.tables.records.now a.tables.shapes.now (party_seen a.one) (party_seen a.two) a.out.now in
    let one = c.run_party-first in
    let two = c.run_party-second in
    let sound : table_refusal call.records call.shapes ≡ 0 = passed _ _ _ c.check_tables.ensures c.is_err.ensures.value c.if-is_err.false in
    record {
      value = told-both call sound _ one.ensures.half_after _ _ one.ensures.value two.ensures.value;
      out_after = written_both call sound _ one.ensures.half_after _ two.ensures.half_after;
    }
