-- What the structs of the code mean that say what was found and what is stored.
use Rattle.std.specs.Prelude.{◌≡◌, ℕ, ◌+◌, ◌<◌, ◌≤◌, Bool, true, false, Ok}
use Rattle.st_model.specs.declared.kind.Kind.TheVariants as kind
use Rattle.st_model.specs.Values.{Value, word}
use Rattle.st_model.specs.Machine.{ObjectMemory, Step, answer, ◌>>=◌}
use Rattle.st_model.specs.inside.Calls.{Reads}
use Rattle.st_model.specs.Steps.{fetch_field, top, under}
use Rattle.st_memory.specs.declared.objects.Objects.{Ghosts}
use Rattle.st_frames.specs.inside.Answering.{IsOfKind}
use Rattle.st_model.specs.Storage.{Storing, Standing, Putting, Shape, MethodShape, Replacing}
use Rattle.st_storage.specs.declared.shapes.Element.{Element}
use Rattle.st_storage.specs.declared.shapes.Elements.{Elements}
use Rattle.st_storage.specs.declared.shapes.Elements.TheVariants as elements
use Rattle.st_storage.specs.declared.shapes.MethodShape.{MethodShape as CodeMethodShape}
use Rattle.st_storage.specs.declared.shapes.Put.{Put}
use Rattle.st_storage.specs.declared.shapes.Putting.{Putting as CodePutting}
use Rattle.st_storage.specs.declared.shapes.Replacing.{Replacing as CodeReplacing}
use Rattle.st_storage.specs.declared.shapes.Shape.{Shape as CodeShape}
use Rattle.st_storage.specs.declared.shapes.Standing.{Standing as CodeStanding}
use Rattle.st_storage.specs.declared.shapes.Storing.{Storing as CodeStoring}

-- what a primitive is given that puts a value
pub record Operands : Type 0 where
  pub object : Value
  pub index : Value
  pub value : Value

unfoldable pub put_operands : {H : Type 0} → ObjectMemory H → Step H Operands
put_operands m = do
  object ← under m 2
  index ← under m 1
  value ← top m
  answer (record { object = object; index = index; value = value })

abbrev pub put_in : Put → Operands
put_in p = record { object = word p.indexed.object; index = word p.indexed.index; value = word p.value }

abbrev pub element_unit : Element → ℕ
element_unit e = e.unit

abbrev pub storing_in : CodeStoring → Storing
storing_in s = record { place = s.place; unit = s.unit }

-- what is stored is the value that is put, in the object in which it is put
pub record IsStoringOf (put : Put) (s : CodeStoring) : Type 0 where
  pub object : s.object ≡ put.indexed.object
  pub value : s.value ≡ put.value

abbrev pub are_characters : Elements → Bool
are_characters elements.Objects = false
are_characters elements.Characters = true

abbrev pub standing_in : CodeStanding → Standing
standing_in s = record { position = s.position; place = s.place; characters = are_characters s.elements }

-- the collection is that of the stream, and of kind Bytes where its elements are Characters
pub record StandsIn {M : Type 0} (o : Ghosts M) (m : M) (s : CodeStanding) : Type 0 where
  pub collection : Reads (fetch_field o.names (word s.stream) 0) word (o.table m) (Ok s.collection)
  pub bytes : are_characters s.elements ≡ true → IsOfKind o m s.collection kind.Bytes

abbrev pub putting_in : CodePutting → Putting
putting_in p = record { standing = standing_in p.standing; unit = p.unit }

abbrev pub shape_in : CodeShape → Shape
shape_in s = record { kind = s.kind; size = s.size }

abbrev pub method_shape_in : CodeMethodShape → MethodShape
method_shape_in s = record { header = s.header; bytes = s.bytes }

abbrev pub replacing_in : CodeReplacing → Replacing
replacing_in p = record { first = p.first; last = p.last; from = p.from }

-- they count from 1, and may be none
pub record IsFewBytes (p : CodeReplacing) : Type 0 where
  pub first_low : 1 ≤ p.first
  pub from_low : 1 ≤ p.from
  pub order : p.first ≤ p.last + 1
  pub first_high : p.first < 16384
  pub last_high : p.last < 16384
  pub from_high : p.from < 16384
