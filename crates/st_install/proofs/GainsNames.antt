-- Where the names that a method sees are answered, the symbol table has the form that an installation asks.
use Rattle.std.proofs.Common.{◌++◌, Option, Some, None, Bool, Result}
use Rattle.st_model.specs.Values.{Value}
use Rattle.st_model.specs.Machine.{Head, State}
use Rattle.st_model.specs.Table.{Table, table}
use Rattle.st_scan.specs.Views.{MethodView}
use Rattle.st_emit.specs.Names.{NamesView}
use Rattle.st_scope.specs.declared.fault.InstallFault.{InstallFault}
use Rattle.st_scope.specs.Mentions.{mentioned_in}
use Rattle.st_scope.specs.Shapes.{check_symbol_table, check_symbols}
use Rattle.st_scope.specs.Calls.{as_table, names_seen, names}
use Rattle.st_install.proofs.GoesStoring.{HasFields}
use Rattle.st_install.proofs.GoesReading.{Gives, gives_answer, gives_then, gives_next, gives_less, Any, gives_tried, IsField, gives_field, IsSoundTable}
use Rattle.st_install.proofs.GoesSymbols.{gives_checked}
use Rattle.st_install.proofs.GoesPlanning.{gives_dictionary}
use Rattle.st_install.proofs.GoesNames.{IfSeen, or_shape, lineage_reads, field_names_reads, pools_reads, all_shared_reads}

-- an association, and its value of kind Pointers
pub record HasTable (t : Table) (association : Value) : Type 0 where
  pub value : Value
  pub field : IsField t association 1 value
  pub is : HasFields t value 0

abbrev pub IsTable : Table → Option Value → Type 0
IsTable t None = Unit {0}
IsTable t (Some association) = HasTable t association

module _ (s : State Table) (sound : IsSoundTable s.memory) where
  table_gives : (symbols : Option Value) → Gives s (check_symbols table symbols) (λ a. IsTable s.memory symbols)
  unfolding check_symbols check_symbol_table
  table_gives None = gives_answer s _ tt tt
  table_gives (Some association) =
      gives_next s _ _ _ _ (gives_checked s sound association 2)
      (λ a h. gives_then s _ _ _ _ (gives_field s association 1)
      (λ v f. gives_less s _ _ _ (gives_checked s sound v 0) (λ b k. record { value = v; field = f; is = k })))

  seen_table : (head : Head) (class : Value) (meta : Bool) (tree : MethodView) → Gives s (names_seen table head class meta tree) (λ x. IsTable s.memory head.symbols)
  unfolding names_seen
  seen_table head class meta tree =
      gives_then s Any _ _ _ (lineage_reads s sound class meta).gives
      (λ l z. gives_then s Any _ _ _ (field_names_reads s sound l.owners).gives
      (λ fields y. gives_then s Any _ _ _ (pools_reads s sound l.sharers).gives
      (λ tables x. gives_next s _ _ _ _ (gives_dictionary s sound class)
      (λ a h. gives_next s _ _ _ _ (table_gives head.symbols)
      (λ b w. gives_then s Any _ _ _ (all_shared_reads s sound (tables ++ as_table head.globals) (mentioned_in tree.body)).gives
      (λ shared v. gives_answer s _ _ w))))))

  abbrev pub TableIfOk : Head → Result NamesView InstallFault → Type 0
  TableIfOk head = IfSeen (IsTable s.memory head.symbols)

  pub names_table : (head : Head) (class : Value) (meta : Bool) (tree : MethodView) → Gives s (names table head class meta tree) (TableIfOk head)
  unfolding names
  names_table head class meta tree =
      gives_then s _ _ _ _ (gives_tried s _ _ (seen_table head class meta tree)) (λ x h. gives_answer s (TableIfOk head) _ (or_shape (IsTable s.memory head.symbols) x h))
