-- Definitions without where they lie in memory.
use Rattle.std.specs.Prelude.{List, map}
use Rattle.st_chunk.specs.Definitions.{Definition}
use Rattle.st_changes.specs.declared.definition.Definition as declared

abbrev pub definition_of : declared.Definition → Definition
definition_of d = record { class = d.class.items; meta = d.meta; category = d.category.items; text = d.text.items }

abbrev pub definitions_of : List declared.Definition → List Definition
definitions_of ds = map definition_of ds
