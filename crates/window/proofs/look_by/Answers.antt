-- `window::look_by` meets its contract: what a signed field holds is itself, and the offsets come to the look-up. Assumes nothing.
use mir.Syntax.{w8, w32, w64}
use mir.Val.{SFits}
use mir.ValLaws.{to_z-of_z}
use Rattle.window.specs.Window.{is_void}
use Rattle.window.proofs.Signs.{worked}
use Rattle.window.proofs.Offsets.{looked}
use Rattle.window.proofs.look_by.Goals as goal

pub returns : goal.returns
unfolding is_void
returns c =
    let a = c.args in
    let g = c.struct_told-1.given in
    let h = c.struct_told-2-1.given in
    let w = c.struct_told-3-1.given in
    let o = w.0.1.1 in
    let px : SFits w32 a.p.x = record { sfits = g.0.1 } in
    let py : SFits w32 a.p.y = record { sfits = g.1.0.1 } in
    let pz : SFits w32 a.p.z = record { sfits = g.1.1.0.1 } in
    let dx : SFits w8 a.d.x = record { sfits = h.0.1 } in
    let dy : SFits w8 a.d.y = record { sfits = h.1.0.1 } in
    let dz : SFits w8 a.d.z = record { sfits = h.1.1.0.1 } in
    let ox : SFits w32 a.w.origin.x = record { sfits = o.0.1 } in
    let oy : SFits w32 a.w.origin.y = record { sfits = o.1.0.1 } in
    let oz : SFits w32 a.w.origin.z = record { sfits = o.1.1.0.1 } in
    rw (
      c.look_in.ensures,
      c.offset-x.ensures,
      c.offset-y.ensures,
      c.offset-z.ensures,
      c.is_void-void.ensures,
      to_z-of_z w32 a.p.x px,
      to_z-of_z w32 a.p.y py,
      to_z-of_z w32 a.p.z pz,
      to_z-of_z w8 a.d.x dx,
      to_z-of_z w8 a.d.y dy,
      to_z-of_z w8 a.d.z dz,
      to_z-of_z w32 a.w.origin.x ox,
      to_z-of_z w32 a.w.origin.y oy,
      to_z-of_z w32 a.w.origin.z oz,
      to_z-of_z w32 a.w.lowest record { sfits = w.1.1.0.1 },
      to_z-of_z w32 a.w.highest record { sfits = w.1.1.1.0.1 },
      to_z-of_z w64 _ (worked a.p.x a.d.x a.w.origin.x px dx ox).whole,
      to_z-of_z w64 _ (worked a.p.y a.d.y a.w.origin.y py dy oy).whole,
      to_z-of_z w64 _ (worked a.p.z a.d.z a.w.origin.z pz dz oz).whole,
    )
    (looked _ a.w _)
