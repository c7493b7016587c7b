-- A view is taken apart for a function that takes cells and numbers in its place, and is kept: it is Copy, so what it owns is had twice.
-- The parameters after it are plain, so what they own is facts alone, and is made anew.
use mathlib.Core.Path.{◌≡◌}
use mathlib.Core.List.{List, [], ◌∷◌}
use lib.ListN.{length}
use seplogic.Ra.Ura.{Ura}
use mir.Val.{Val}
use base.Logic.{ent, sep}
use base.Fml.{Fml}
use types.Logic.{Logic, sem}
use types.Kit.{‵, ◌⊛◌, given, ◌$◌, ◌∵◌, !, qed, move, drop, use0, use1, split, learn, fsplit, fjoin, frame, done}
use denote.RattleType.{RattleType, Denots, Valss, owns}
use denote.Laws.{Ises, Are, Makess, owns_make}
use denote.Builtin.{u32}
use denote.Ref.{NamedLft}
use denote.Slice.{slice_val, ShrSlice}
use denote.Struct.Laws as LL
use denote.Struct.Rest.{all_own, own_open}
use denote.Struct.Values.{Values}
use Rattle.window.specs.contracts.Window as N
use Rattle.window.proofs.Window.TheLaws as N'
use Rattle.window.specs.declared.View.{View}
use Rattle.window.specs.contracts.View as T
use Rattle.window.proofs.View.TheLaws as T'

module _ {M : Type 1} {𝓤 : Ura M} (𝓛 : Logic 𝓤) (α : NamedLft) (d : View) (Rs : List RattleType) (a : Denots Rs) (vss : Valss Rs) where
  abbrev mach : List Val
  mach = T'.lowered d ∷ []

  abbrev Own : Fml
  Own = (T.the_row α).own_val d mach

  abbrev fields : Values (T.the_type α).parts
  fields = (d.words, (d.window, tt))

  -- what a function over a view is passed, and what the one over cells and numbers is
  abbrev pub Whole : Fml
  Whole = owns (T.the_row α ∷ Rs) (d, a) (mach, vss)

  abbrev pub Parts : Fml
  Parts = owns (ShrSlice α.mir α.lft u32 ∷ N.the_row ∷ Rs) (d.words, (d.window, a)) (slice_val d.words.ref_ptr (length d.words.now) ∷ [], (N'.lowered d.window ∷ [], vss))

  pub apart : Makess 𝓛 Rs (Ises Rs) → Are Rs (Ises Rs) a vss → ent 𝓤 (sem 𝓛 Whole) (sep 𝓤 (sem 𝓛 Parts) (sem 𝓛 Whole))
  apart plain are =
      qed 𝓛 (‵ Whole ∷ []) ∵
      fsplit ! $ use1 𝓛 (‵ Own ⊛ ‵ Own) ((LL.copy (T.the_type α) (T'.the_copy α) 𝓛).twice d mach) $ split ! $
      -- [what the view owns, twice; what the others own]
      move ! (0 ∷ 2 ∷ []) $ fjoin ! $ move ! (1 ∷ []) $
      use1 𝓛 (given (mach ≡ mach) (‵ (all_own (T.the_type α).parts (T'.the_laws α) fields))) (own_open 𝓛 (T.the_type α) (T'.the_laws α) fields (T'.lowered d)) $ learn ! (λ _.
      -- [what the fields own together; the whole]
      fsplit ! $ move ! (1 ∷ []) $ fsplit ! $ move ! (1 ∷ []) $ drop ! $
      -- [what the numbers own; what the cells own; the whole]
      use0 𝓛 (‵ (owns Rs a vss)) (owns_make 𝓛 Rs (Ises Rs) plain a vss are) $ move ! (1 ∷ 0 ∷ []) $ fjoin ! $ move ! (1 ∷ 0 ∷ []) $ fjoin ! $ frame ! $ done !)
