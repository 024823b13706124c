-- What is prepared of a definition over what a memory contains.
use Rattle.std.specs.Prelude.{◌≡◌, ⊤, Result, Ok, Err}
use Rattle.st_model.specs.Values.{Value}
use Rattle.st_model.specs.Machine.{State, Went}
use Rattle.st_model.specs.Births.{Births}
use Rattle.st_model.specs.Table.{Table, table}
use Rattle.st_model.specs.Show.{Shows}
use Rattle.st_model.specs.View.{View}
use Rattle.st_scan.specs.Views.{MethodView}
use Rattle.st_emit.specs.Names.{NamesView}
use Rattle.st_code.specs.Methods.{PartsView, code}
use Rattle.st_scope.specs.Calls.{class_of_name, names}
use Rattle.st_install.specs.Calls.{ready}
use Rattle.st_install.specs.inside.Readies.{plan_of, HasRoom}
use Rattle.st_install.specs.inside.Carried.{HasSmallBodies}
use Rattle.st_chunk.specs.Definitions.{Definition}
use Rattle.st_protocol.specs.Installing.{Refused}
use Rattle.st_grammar.specs.Syntax.{syntax}
use Rattle.st_install.specs.Defining.{installed}
use Rattle.st_install.specs.declared.preparing.Prepared.{Prepared}
use Rattle.st_install.specs.declared.unprepared.Unprepared.{Unprepared}
use Rattle.st_install.specs.declared.unprepared.Unprepared.TheVariants as unprepared

-- a state over what a memory contains
pub record IsOver (v : View) (c : State Table) : Type 0 where
  pub objects : c.memory ≡ v.objects
  pub head : c.head ≡ v.head

-- The class is found, the text means a tree, its names are seen, it has code, and this is ready.
pub record IsPrepared (v : View) (d : Definition) (p : Prepared) : Type 0 where
  pub class : Value
  pub tree : MethodView
  pub seen : NamesView
  pub parts : PartsView
  pub found : (c : State Table) → c.memory ≡ v.objects → (class_of_name table v.head d.class d.meta).run c ≡ Went (Ok class) c
  pub reads : syntax d.text ≡ Ok tree
  pub sees : (c : State Table) → c.memory ≡ v.objects → (names table v.head class d.meta tree).run c ≡ Went (Ok seen) c
  pub coded : code tree seen ≡ Ok parts
  pub ready : (c : State Table) → c.memory ≡ v.objects → (ready table v.head class d.class d.meta parts).run c ≡ Went (Ok (plan_of p.ready)) c
  pub selector : p.selector.items ≡ parts.selector
  pub room : HasRoom p.ready
  pub bodies : HasSmallBodies (plan_of p.ready)

-- it is prepared, or refused as over all births that are shown; or there was no memory
abbrev pub PreparesAs : View → Definition → Result Prepared Unprepared → Type 0
PreparesAs v d (Ok p) = IsPrepared v d p
PreparesAs v d (Err (unprepared.Refused why)) = (c : State Table) (s : State Births) → IsOver v c → Shows c s → installed d s ≡ Refused why
PreparesAs v d (Err unprepared.OutOfMemory) = ⊤
