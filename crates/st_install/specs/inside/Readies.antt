-- What the code's plans mean.
use Rattle.std.specs.Prelude.{◌≡◌, List, map, length, Result, Ok, Err}
use Rattle.st_model.specs.Values.{value}
use Rattle.st_scope.specs.declared.fault.InstallFault.{InstallFault}
use Rattle.st_install.specs.declared.plan.PlannedValue.{PlannedValue as CodePart}
use Rattle.st_install.specs.declared.plan.PlannedValue.TheVariants as part
use Rattle.st_install.specs.declared.plan.NewObject.{NewObject as CodeObject}
use Rattle.st_install.specs.declared.plan.SymbolStore.{SymbolStore}
use Rattle.st_install.specs.declared.plan.Ready.{Ready}
use Rattle.st_install.specs.Plans.{PlannedValue, There, Made, NewObject, FieldStore, Plan}

abbrev pub part_of : CodePart → PlannedValue
part_of (part.There o) = There (value o)
part_of (part.Made k) = Made k

abbrev pub parts_of : List CodePart → List PlannedValue
parts_of ps = map part_of ps

abbrev pub object_of : CodeObject → NewObject
object_of o = record { class = value o.class; kind = o.kind; fields = parts_of o.fields.items; bytes = o.bytes.items }

abbrev pub objects_of : List CodeObject → List NewObject
objects_of os = map object_of os

abbrev pub store_of : SymbolStore → FieldStore
store_of s = record { object = part_of s.object; field = s.field; value = part_of s.value }

abbrev pub stores_of : List SymbolStore → List FieldStore
stores_of ss = map store_of ss

abbrev pub plan_of : Ready → Plan
plan_of r = record {
  objects = objects_of r.objects.items;
  symbol_stores = stores_of r.symbol_stores.items;
  selector = part_of r.selector;
  method = part_of r.method;
  class = value r.class;
  dictionary = value r.dictionary;
  grown = r.grown;
}

-- there is room for a pointer of each object
abbrev pub HasRoom : Ready → Type 0
HasRoom r = length r.made.items ≡ length r.objects.items

-- what `ready` answers
abbrev pub plan_found : Result Ready InstallFault → Result Plan InstallFault
plan_found (Ok r) = Ok (plan_of r)
plan_found (Err fault) = Err fault
