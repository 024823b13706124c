-- How far jumps go, by the definitions alone: 1023 bytes forward and 1024 back, and one more.
use Rattle.std.proofs.Common.{ℕ, zero, suc, true, false, [], ◌∷◌, refl, None}
use Rattle.std.specs.Prelude.{codes, ◌≡◌}
use Rattle.st_scan.specs.Views.{NameView, ExpressionView, StatementsView, MethodView, MessagesView, ExpressionsView}
use Rattle.st_scan.specs.Views as v
use Rattle.st_code.specs.declared.fault.Cause.TheVariants.{Jump}
use Rattle.st_code.specs.Faults.{fault_at}
use Rattle.st_emit.specs.Names.{NamesView}
use Rattle.st_code.specs.Methods.{fault}

abbrev point : NamesView
point = record { fields = codes "x" ∷ []; shared = []; symbols = true }

-- a statement of two bytes, or a last one of one
abbrev x : ExpressionView
x = v.variable (record { text = codes "x"; place = 1 })

-- an expression of two bytes
abbrev x_size : ExpressionView
x_size = v.send x (v.message (codes "size") v.no_expressions v.no_messages)

abbrev ended_by : ExpressionView → StatementsView
ended_by e = v.statement false e v.no_statements

-- n of these statements before others
abbrev many : ℕ → StatementsView → StatementsView
many zero ss = ss
many (suc n) ss = v.statement false x (many n ss)

abbrev plain : StatementsView → ExpressionView
plain ss = v.block [] ss

abbrev method : ExpressionView → MethodView
method e = record { selector = codes "foo"; arguments = []; temporaries = []; primitive = None; body = v.statement true e v.no_statements }

abbrev chosen : (a b : StatementsView) → MethodView
chosen a b = method (v.send x (v.message (codes "ifTrue:ifFalse:") (v.expression (plain a) (v.expression (plain b) v.no_expressions)) v.no_messages))

abbrev looped : (a b : StatementsView) → MethodView
looped a b = method (v.send (plain a) (v.message (codes "whileTrue:") (v.expression (plain b) v.no_expressions) v.no_messages))

past_second_1023 : fault (chosen (ended_by x) (many 511 (ended_by x))) point ≡ None
past_second_1023 = refl

past_second_1024 : fault (chosen (ended_by x) (many 511 (ended_by x_size))) point ≡ fault_at 0 Jump
past_second_1024 = refl

past_first_1023 : fault (chosen (many 510 (ended_by x)) (many 4 (ended_by x))) point ≡ None
past_first_1023 = refl

past_first_1024 : fault (chosen (many 510 (ended_by x_size)) (many 4 (ended_by x))) point ≡ fault_at 0 Jump
past_first_1024 = refl

past_a_body_1023 : fault (method (plain (many 510 (ended_by x_size)))) point ≡ None
past_a_body_1023 = refl

past_a_body_1024 : fault (method (plain (many 511 (ended_by x_size)))) point ≡ fault_at 0 Jump
past_a_body_1024 = refl

back_1024 : fault (looped (ended_by x) (many 508 (ended_by x_size))) point ≡ None
back_1024 = refl

back_1025 : fault (looped (ended_by x_size) (many 508 (ended_by x_size))) point ≡ fault_at 0 Jump
back_1025 = refl
