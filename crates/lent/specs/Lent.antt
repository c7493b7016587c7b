-- What every entry asks first of what it is lent: 1 for the tables, then 2 for the window. 3 and 4 follow in the entry itself.
use Rattle.std.specs.Prelude.{not, List, ℕ, eqb, Float}
use Rattle.base.specs.Choose.{choose}
use Rattle.base.specs.Ask.{Ask}
pub use Rattle.base.specs.Ask.{unless}
use Rattle.tables.specs.Tables.{is_registered}
use Rattle.table_check.specs.Check.{table_refusal}
use Rattle.window.specs.declared.Window.{Window}
use Rattle.window.specs.Window.{window_refusal}

-- 0, or the number of the first refusal of the two
unfoldable pub lent_refusal : List ℕ → List Float → List ℕ → Window → ℕ
lent_refusal records shapes cells w = choose (eqb (table_refusal records shapes) 0) (window_refusal cells w) (table_refusal records shapes)

abbrev pub sound : {A : Type 0} → List ℕ → List Float → List ℕ → Window → Ask A → Ask A
sound records shapes cells w ask =
    unless (not (eqb (lent_refusal records shapes cells w) 0)) (lent_refusal records shapes cells w) ask

-- A call that is given the window's air state directly, and not among a step's rules, refuses one without a registered record by 3, behind 2.
unfoldable pub direct_refusal : List ℕ → List Float → List ℕ → Window → ℕ
direct_refusal records shapes cells w =
    choose (eqb (lent_refusal records shapes cells w) 0)
    (choose (is_registered records w.air) 0 3)
    (lent_refusal records shapes cells w)

abbrev pub direct : {A : Type 0} → List ℕ → List Float → List ℕ → Window → Ask A → Ask A
direct records shapes cells w ask =
    unless (not (eqb (direct_refusal records shapes cells w) 0)) (direct_refusal records shapes cells w) ask
