-- Things and classes without where their names lie in memory.
use Rattle.std.specs.Prelude.{ℕ, List, map}
use Rattle.std.specs.Borrow.{Bor}
use Rattle.st_kernel_text.specs.inside.Lists.{texts_of}
use Rattle.st_first_objects.specs.declared.thing.Thing as declared_thing
use Rattle.st_first_objects.specs.declared.class.Declared as declared_class
use Rattle.st_first_objects.specs.declared.thing.What.{What}
use Rattle.st_first_objects.specs.Things.{Thing, named}
use Rattle.st_first_objects.specs.Classes.{Declared}
use Rattle.st_first_objects.specs.Contents.{Field, Empty, Number, To, Body, Fields, Bytes, NoWords, Content}
use Rattle.st_first_objects.specs.declared.content.Field as code_field
use Rattle.st_first_objects.specs.declared.content.Field.TheVariants as code_fields
use Rattle.st_first_objects.specs.declared.content.Body as code_body
use Rattle.st_first_objects.specs.declared.content.Body.TheVariants as code_bodies
use Rattle.st_first_objects.specs.declared.content.Content as code_content

abbrev pub thing_of : declared_thing.Thing → Thing
thing_of t = record { what = t.what; name = t.name.now; number = t.number }

abbrev pub things_of : List declared_thing.Thing → List Thing
things_of ts = map thing_of ts

abbrev pub declared_of : declared_class.Declared → Declared
declared_of d = record { number = d.number; above = d.above.now; shape = d.shape; variables = texts_of d.variables.now; fields = d.fields }

abbrev pub named_of : List (What × Bor (List ℕ)) → List Thing
named_of ns = map (λ n. named n.0 n.1.now) ns

abbrev pub field_of : code_field.Field → Field
field_of (code_fields.Empty) = Empty
field_of (code_fields.Number n) = Number n
field_of (code_fields.To t) = To (thing_of t)

abbrev pub fields_of : List code_field.Field → List Field
fields_of fs = map field_of fs

abbrev pub body_of : code_body.Body → Body
body_of (code_bodies.Fields fields) = Fields (fields_of fields.items)
body_of (code_bodies.Bytes bytes) = Bytes bytes.now
body_of code_bodies.NoWords = NoWords

abbrev pub content_of : code_content.Content → Content
content_of c = record { class = thing_of c.class; body = body_of c.body }
