-- The rows of a store that is known, and the names of a path. Assumes nothing.
use Rattle.std.specs.Prelude.{List}
use Rattle.paper.specs.Syntax as Syntax
use Rattle.paper.specs.Layout.{Row}
use Rattle.rows.specs.View.{view}
use Rattle.rows.specs.declared.text.Texts.{Texts}
use Rattle.run.specs.declared.known.Known.{Known}
use Rattle.run.specs.declared.known.Path.{Path}
use Rattle.run.specs.Paths.{names}

abbrev pub rows_of : Texts → Known → List Row
rows_of texts store = view texts.list.now texts.table.now store.rows.bytes.now store.rows.count

abbrev pub names_of : Texts → Path → Syntax.Path
names_of texts path = names texts.list.now texts.table.now path.places.now path.count
