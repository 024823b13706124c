-- What contracts say of the method that is read.
use Rattle.std.specs.Prelude.{◌≡◌, ℕ, suc, List, [], take, Option}
use Rattle.std.specs.Borrow.{Bor}
use Rattle.std.specs.Global.{Vec}
use Rattle.st_emit.specs.declared.literal.Literal.{Literal}
use Rattle.st_emit.specs.Literals.{LiteralView}
use Rattle.st_emit.specs.inside.Views.{literal_view}
use Rattle.st_scan.specs.declared.tree.Statement.{Statement}
use Rattle.st_scan.specs.Views.{MethodView, statements_view}
use Rattle.st_code.specs.declared.compiler.MethodParts.{MethodParts}
use Rattle.st_code.specs.inside.MethodDrafts.{parts_view}
use Rattle.st_resolved.specs.Instructions.{on_some, steps_of}
use Rattle.st_expression_stack.specs.declared.item.Statements.{Statements}
use Rattle.st_expression_stack.specs.declared.item.Item.{Item as KeptItem}
use Rattle.st_expression_stack.specs.declared.naming.Calling.{Calling}
use Rattle.st_decompile.specs.declared.reading.Reading.{Reading}
use Rattle.st_decompile.specs.Back.{without_self}
use Rattle.st_expression_stack.specs.Items.{most_high}
use Rattle.st_expression_stack.specs.inside.Called.{calling_view}
use Rattle.st_expression_stack.specs.Names.{name_in}
use Rattle.st_decompile.specs.inside.Read.{region_by}
use Rattle.st_expression_stack.specs.inside.Stacks.{stack_if, taken_view}
use Rattle.st_decompile.specs.Whole.{method_of}

abbrev pub literal_now : Bor Literal → LiteralView
literal_now l = literal_view l.now

-- so many of the first statements are those without ^self
abbrev pub IsCount : List Statement → ℕ → Type 0
IsCount ss n = without_self (statements_view ss) ≡ statements_view (take n ss)

abbrev pub method_by : Calling → MethodParts → Statements → MethodView
method_by c p t = method_of (name_in (calling_view c)) (parts_view p) (taken_view t [])

abbrev pub HasItems : Reading → List ℕ → Option (Vec KeptItem) → Type 0
HasItems r bytes items = stack_if items ≡ on_some (steps_of bytes) (λ ss. region_by r (suc most_high) 0 ss)
