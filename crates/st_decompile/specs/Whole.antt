-- The method that is read of a method's parts: header (chapter 27), literals and bytes.
use Rattle.std.specs.Prelude.{ℕ, suc, ◌-◌, ◌/◌, ◌%◌, ◌==◌, false, List, [], map, length, slice_get, Option, Some, None, if◌then◌else◌}
use Rattle.st_scan.specs.declared.token.Signed.{Signed}
use Rattle.st_scan.specs.Views.{NameView, MethodView}
use Rattle.st_emit.specs.declared.instruction.InstructionOperand.{InstructionOperand}
use Rattle.st_emit.specs.Literals.{LiteralView, number}
use Rattle.st_code.specs.Methods.{PartsView}
use Rattle.st_resolved.specs.Instructions.{on_some, steps_of}
use Rattle.st_emit.specs.Selectors.{arity}
use Rattle.st_expression_stack.specs.Items.{no_arguments, most_high, Taken, statements_of}
use Rattle.st_expression_stack.specs.Choosing.{called}
use Rattle.st_decompile.specs.Reading.{region}
use Rattle.st_decompile.specs.Back.{places_from, without_self}

-- HEADER

abbrev pub flag_in : ℕ → ℕ
flag_in h = h / 8192

-- arguments, temporaries and block arguments; with flag 6 there are none
abbrev pub variables_in : ℕ → ℕ
variables_in h = if flag_in h == 6 then 0 else h / 256 % 32

-- those of the method itself end where the first argument of a block begins
abbrev pub own_in : (variables least : ℕ) → ℕ
own_in variables least = if least == no_arguments then variables else least

-- PRIMITIVE

-- the number before the last literal
abbrev pub size_in : Option LiteralView → ℕ
size_in (Some (number n)) = n.size
size_in _ = 0

abbrev pub extension_in : List LiteralView → ℕ
extension_in ls = size_in (slice_get ls (length ls - 2))

abbrev pub primitive_by : ℕ → Option Signed
primitive_by n = if n == 0 then None else Some (record { minus = false; size = n })

abbrev pub primitive_in : PartsView → Option Signed
primitive_in p = if flag_in p.header == 7 then primitive_by (extension_in p.literals % 256) else None

-- METHODS

module _ (name_of : InstructionOperand → List ℕ) where
  abbrev pub variables_called : (first n : ℕ) → List NameView
  variables_called first n = map (λ p. called (name_of p)) (places_from first n [])

  abbrev pub method_of : PartsView → Taken → MethodView
  method_of p t =
      let n = arity p.selector in
      record {
        selector = p.selector;
        arguments = variables_called 0 n;
        temporaries = variables_called n (own_in (variables_in p.header) t.least - n);
        primitive = primitive_in p;
        body = without_self t.statements;
      }

  abbrev pub candidate : PartsView → Option MethodView
  candidate p = on_some (steps_of p.bytes) (λ ss. on_some (region name_of p.literals (suc most_high) 0 ss) (λ items. Some (method_of p (statements_of items))))
