-- The number of each refusal, and what an answer that may be a refusal says.
use Rattle.std.specs.Prelude.{ℕ, Result, Ok, Err}
use Rattle.base.specs.declared.Refusal.{Refusal}
use Rattle.base.specs.declared.Refusal.TheVariants.{Tables, Window, Number, Place, OutsideWindow, TooManyBoxes, Unregistered, Malformed, NoWindow, Room, TooManyBlocks, Summary, TooMany}
use Rattle.base.specs.Ask.{Ask, refused, found}

abbrev pub number_of : Refusal → ℕ
number_of Tables = 1
number_of Window = 2
number_of Number = 3
number_of Place = 4
number_of OutsideWindow = 5
number_of TooManyBoxes = 6
number_of Unregistered = 7
number_of Malformed = 8
number_of NoWindow = 10
number_of Room = 11
number_of TooManyBlocks = 12
number_of Summary = 13
number_of TooMany = 14

-- what was asked for, or the number of its refusal
abbrev pub asked : {A : Type 0} → Result A Refusal → Ask A
asked (Ok a) = found a
asked (Err e) = refused (number_of e)

-- what a check says that answers nothing else: 0, or the number of its refusal
abbrev pub verdict : {A : Type 0} → Result A Refusal → ℕ
verdict (Ok a) = 0
verdict (Err e) = number_of e

-- the same of what the program answers in a form of its own, which f turns
abbrev pub asked_as : {A B : Type 0} → (A → B) → Result A Refusal → Ask B
asked_as f (Ok a) = found (f a)
asked_as f (Err e) = refused (number_of e)
