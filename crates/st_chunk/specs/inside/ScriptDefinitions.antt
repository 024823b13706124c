-- A definition as its bytes have it.
use Rattle.st_chunk.specs.Definitions.{Definition}
use Rattle.st_chunk.specs.declared.reader.LentDefinition as declared

abbrev pub definition_of : declared.LentDefinition → Definition
definition_of d = record { class = d.class.now; meta = d.meta; category = d.category.now; text = d.text.now }
