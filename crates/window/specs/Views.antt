-- The look-up of a view: of its words, by its numbers.
use Rattle.base.specs.Ask.{Ask}
use Rattle.window.specs.declared.Pos.{Pos}
use Rattle.window.specs.declared.View.{View}
use Rattle.window.specs.Look.{Block, look_at}

abbrev pub look_in : View → Pos → Ask Block
look_in v = look_at v.words.now v.window
