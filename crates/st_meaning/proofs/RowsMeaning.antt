-- Worked rows of traces and walks, by the definitions alone: each method's list is the same from its tree and from its code.
use Rattle.std.proofs.Common.{ℕ, Bool, true, false, List, [], ◌∷◌, refl, None, Some}
use Rattle.std.specs.Prelude.{codes, pos, ◌≡◌}
use Rattle.st_scan.specs.Views.{MethodView}
use Rattle.st_scan.specs.Views as v
use Rattle.st_emit.specs.declared.instruction.Constant.{Constant}
use Rattle.st_emit.specs.declared.instruction.Constant.TheVariants.{Receiver, True, False, Nil, Context}
use Rattle.st_scan.proofs.Worked.{signed, name_at as nm, literal_at as lit}
use Rattle.st_emit.proofs.Worked.{point}
use Rattle.st_code.specs.Methods.{body, parts}
use Rattle.st_meaning.specs.declared.deed.Variable.TheVariants.{Field, Temporary, Shared}
use Rattle.st_meaning.specs.declared.deed.Value.{Value}
use Rattle.st_meaning.specs.declared.deed.Value.TheVariants.{Number, First, Block}
use Rattle.st_meaning.specs.inside.Values.{constant_value, AnswerView, DeedView, sent, assigned, made, returned, unsure}
use Rattle.st_meaning.specs.inside.Runs.{Outcome, long, did, assign_to, answer_to, make_block, return_value, be_unsure, jump_back}
use Rattle.st_meaning.specs.inside.Walks.{walk}
use Rattle.st_meaning.specs.inside.Blocks.{block_trace, block_walk}
use Rattle.st_emit.specs.Nodes.{Body, returned as answered, body_of}
use Rattle.st_meaning.specs.inside.Deeds.{Lists}
use Rattle.st_meaning.specs.inside.Meanings.{most, Trace, Walk, trace_of, walk_of, jumps_back}

abbrev trace_by : MethodView → List AnswerView → Outcome Value
trace_by m answers = Trace m point answers

abbrev walk_by : MethodView → List AnswerView → Outcome Value
walk_by m answers = Walk (parts m point) answers

-- a run is over with these deeds, and jumped back so often
abbrev Ended : Outcome Value → List DeedView → (backs : ℕ) → Type 0
Ended o deeds backs = Lists o deeds × (jumps_back o ≡ Some backs)

abbrev gives : Value → AnswerView
gives x = record { value = x; changes = [] }

abbrev self : Value
self = constant_value Receiver

abbrev num : ℕ → Value
num n = Number (pos n)

-- max: a ^self > a ifTrue: [self] ifFalse: [a]
abbrev max : MethodView
max = (record { selector = codes "max:"; arguments = ((nm (codes "a") 6) ∷ []); temporaries = []; primitive = None; body = (v.statement true (v.send (v.send (v.variable (nm (codes "self") 9)) (v.message (codes ">") (v.expression (v.variable (nm (codes "a") 16)) v.no_expressions) v.no_messages)) (v.message (codes "ifTrue:ifFalse:") (v.expression (v.block [] (v.statement false (v.variable (nm (codes "self") 27)) v.no_statements)) (v.expression (v.block [] (v.statement false (v.variable (nm (codes "a") 43)) v.no_statements)) v.no_expressions)) v.no_messages)) v.no_statements) })

-- count | n | n _ 0. [n < 3] whileTrue: [n _ n + 1]. ^n
abbrev count_up : MethodView
count_up = (record { selector = codes "count"; arguments = []; temporaries = ((nm (codes "n") 9) ∷ []); primitive = None; body = (v.statement false (v.assign (nm (codes "n") 13) (lit 17 (v.number (signed false 0)))) (v.statement false (v.send (v.block [] (v.statement false (v.send (v.variable (nm (codes "n") 21)) (v.message (codes "<") (v.expression (lit 25 (v.number (signed false 3))) v.no_expressions) v.no_messages)) v.no_statements)) (v.message (codes "whileTrue:") (v.expression (v.block [] (v.statement false (v.assign (nm (codes "n") 40) (v.send (v.variable (nm (codes "n") 44)) (v.message (codes "+") (v.expression (lit 48 (v.number (signed false 1))) v.no_expressions) v.no_messages))) v.no_statements)) v.no_expressions) v.no_messages)) (v.statement true (v.variable (nm (codes "n") 53)) v.no_statements))) })

-- foo ^x and: [y]
abbrev both : MethodView
both = (record { selector = codes "foo"; arguments = []; temporaries = []; primitive = None; body = (v.statement true (v.send (v.variable (nm (codes "x") 6)) (v.message (codes "and:") (v.expression (v.block [] (v.statement false (v.variable (nm (codes "y") 14)) v.no_statements)) v.no_expressions) v.no_messages)) v.no_statements) })

-- foo ^x at: 1 put: 2; foo; yourself
abbrev casc : MethodView
casc = (record { selector = codes "foo"; arguments = []; temporaries = []; primitive = None; body = (v.statement true (v.send (v.variable (nm (codes "x") 6)) (v.message (codes "at:put:") (v.expression (lit 12 (v.number (signed false 1))) (v.expression (lit 19 (v.number (signed false 2))) v.no_expressions)) (v.message (codes "foo") v.no_expressions (v.message (codes "yourself") v.no_expressions v.no_messages)))) v.no_statements) })

-- foo [true] whileTrue: [nil]
abbrev without_end : MethodView
without_end = (record { selector = codes "foo"; arguments = []; temporaries = []; primitive = None; body = (v.statement false (v.send (v.block [] (v.statement false (v.variable (nm (codes "true") 6)) v.no_statements)) (v.message (codes "whileTrue:") (v.expression (v.block [] (v.statement false (v.variable (nm (codes "nil") 24)) v.no_statements)) v.no_expressions) v.no_messages)) v.no_statements) })

-- foo ^[:a | a + 1]
abbrev with_block : MethodView
with_block = (record { selector = codes "foo"; arguments = []; temporaries = []; primitive = None; body = (v.statement true (v.block ((nm (codes "a") 7) ∷ []) (v.statement false (v.send (v.variable (nm (codes "a") 11)) (v.message (codes "+") (v.expression (lit 15 (v.number (signed false 1))) v.no_expressions) v.no_messages)) v.no_statements)) v.no_statements) })

-- the statements of a block that is returned
abbrev statements_of : Body → Body
statements_of (answered n) = body_of n
statements_of b = b

max_true_trace : Ended (trace_by max (gives (constant_value True) ∷ [])) (sent self (codes ">") (First (Temporary 0) ∷ []) false ∷ returned self ∷ []) 0
unfolding did assign_to answer_to make_block return_value be_unsure jump_back walk
max_true_trace = (refl, refl)

max_true_walk : Ended (walk_by max (gives (constant_value True) ∷ [])) (sent self (codes ">") (First (Temporary 0) ∷ []) false ∷ returned self ∷ []) 0
unfolding did assign_to answer_to make_block return_value be_unsure jump_back walk
max_true_walk = (refl, refl)

max_7_trace : Ended (trace_by max (gives (num 7) ∷ [])) (sent self (codes ">") (First (Temporary 0) ∷ []) false ∷ unsure (num 7) ∷ []) 0
unfolding did assign_to answer_to make_block return_value be_unsure jump_back walk
max_7_trace = (refl, refl)

max_7_walk : Ended (walk_by max (gives (num 7) ∷ [])) (sent self (codes ">") (First (Temporary 0) ∷ []) false ∷ unsure (num 7) ∷ []) 0
unfolding did assign_to answer_to make_block return_value be_unsure jump_back walk
max_7_walk = (refl, refl)

count_trace : Ended (trace_by count_up (gives (constant_value True) ∷ gives (num 1) ∷ gives (constant_value False) ∷ [])) (assigned (Temporary 0) (num 0) ∷ sent (num 0) (codes "<") (num 3 ∷ []) false ∷ sent (num 0) (codes "+") (num 1 ∷ []) false ∷ assigned (Temporary 0) (num 1) ∷ sent (num 1) (codes "<") (num 3 ∷ []) false ∷ returned (num 1) ∷ []) 1
unfolding did assign_to answer_to make_block return_value be_unsure jump_back walk
count_trace = (refl, refl)

count_walk : Ended (walk_by count_up (gives (constant_value True) ∷ gives (num 1) ∷ gives (constant_value False) ∷ [])) (assigned (Temporary 0) (num 0) ∷ sent (num 0) (codes "<") (num 3 ∷ []) false ∷ sent (num 0) (codes "+") (num 1 ∷ []) false ∷ assigned (Temporary 0) (num 1) ∷ sent (num 1) (codes "<") (num 3 ∷ []) false ∷ returned (num 1) ∷ []) 1
unfolding did assign_to answer_to make_block return_value be_unsure jump_back walk
count_walk = (refl, refl)

count_cut_trace : Ended (trace_by count_up (gives (constant_value True) ∷ [])) (assigned (Temporary 0) (num 0) ∷ sent (num 0) (codes "<") (num 3 ∷ []) false ∷ sent (num 0) (codes "+") (num 1 ∷ []) false ∷ []) 0
unfolding did assign_to answer_to make_block return_value be_unsure jump_back walk
count_cut_trace = (refl, refl)

count_cut_walk : Ended (walk_by count_up (gives (constant_value True) ∷ [])) (assigned (Temporary 0) (num 0) ∷ sent (num 0) (codes "<") (num 3 ∷ []) false ∷ sent (num 0) (codes "+") (num 1 ∷ []) false ∷ []) 0
unfolding did assign_to answer_to make_block return_value be_unsure jump_back walk
count_cut_walk = (refl, refl)

and_unsure_trace : Ended (trace_by both []) (unsure (First (Field 0)) ∷ []) 0
unfolding did assign_to answer_to make_block return_value be_unsure jump_back walk
and_unsure_trace = (refl, refl)

and_unsure_walk : Ended (walk_by both []) (unsure (First (Field 0)) ∷ []) 0
unfolding did assign_to answer_to make_block return_value be_unsure jump_back walk
and_unsure_walk = (refl, refl)

cascade_trace : Ended (trace_by casc (gives (num 5) ∷ gives (num 6) ∷ gives (num 7) ∷ [])) (sent (First (Field 0)) (codes "at:put:") (num 1 ∷ num 2 ∷ []) false ∷ sent (First (Field 0)) (codes "foo") [] false ∷ sent (First (Field 0)) (codes "yourself") [] false ∷ returned (num 7) ∷ []) 0
unfolding did assign_to answer_to make_block return_value be_unsure jump_back walk
cascade_trace = (refl, refl)

cascade_walk : Ended (walk_by casc (gives (num 5) ∷ gives (num 6) ∷ gives (num 7) ∷ [])) (sent (First (Field 0)) (codes "at:put:") (num 1 ∷ num 2 ∷ []) false ∷ sent (First (Field 0)) (codes "foo") [] false ∷ sent (First (Field 0)) (codes "yourself") [] false ∷ returned (num 7) ∷ []) 0
unfolding did assign_to answer_to make_block return_value be_unsure jump_back walk
cascade_walk = (refl, refl)

-- with at most 5 jumps back
loop_trace : trace_of 5 0 (body without_end point).part [] ≡ long
unfolding did assign_to answer_to make_block return_value be_unsure jump_back walk
loop_trace = refl

loop_walk : walk_of 5 0 (parts without_end point).literals (parts without_end point).bytes [] ≡ long
unfolding did assign_to answer_to make_block return_value be_unsure jump_back walk
loop_walk = refl

-- with at most 2 deeds: as many are a list, and one more is too many
two_trace : Ended (trace_of 2 0 (body casc point).part (gives (num 5) ∷ [])) (sent (First (Field 0)) (codes "at:put:") (num 1 ∷ num 2 ∷ []) false ∷ sent (First (Field 0)) (codes "foo") [] false ∷ []) 0
unfolding did assign_to answer_to make_block return_value be_unsure jump_back walk
two_trace = (refl, refl)

two_walk : Ended (walk_of 2 0 (parts casc point).literals (parts casc point).bytes (gives (num 5) ∷ [])) (sent (First (Field 0)) (codes "at:put:") (num 1 ∷ num 2 ∷ []) false ∷ sent (First (Field 0)) (codes "foo") [] false ∷ []) 0
unfolding did assign_to answer_to make_block return_value be_unsure jump_back walk
two_walk = (refl, refl)

three_trace : trace_of 2 0 (body casc point).part (gives (num 5) ∷ gives (num 6) ∷ []) ≡ long
unfolding did assign_to answer_to make_block return_value be_unsure jump_back walk
three_trace = refl

three_walk : walk_of 2 0 (parts casc point).literals (parts casc point).bytes (gives (num 5) ∷ gives (num 6) ∷ []) ≡ long
unfolding did assign_to answer_to make_block return_value be_unsure jump_back walk
three_walk = refl

-- a block that is made, and what it does
made_trace : Ended (trace_by with_block []) (made 0 ∷ returned (Block 0) ∷ []) 0
unfolding did assign_to answer_to make_block return_value be_unsure jump_back walk
made_trace = (refl, refl)

made_walk : Ended (walk_by with_block []) (made 0 ∷ returned (Block 0) ∷ []) 0
unfolding did assign_to answer_to make_block return_value be_unsure jump_back walk
made_walk = (refl, refl)

inner_trace : Ended (block_trace most 0 1 (statements_of (body with_block point).part) (gives (num 9) ∷ [])) (assigned (Temporary 0) (First (Temporary 0)) ∷ sent (First (Temporary 0)) (codes "+") (num 1 ∷ []) false ∷ returned (num 9) ∷ []) 0
unfolding did assign_to answer_to make_block return_value be_unsure jump_back walk
inner_trace = (refl, refl)

inner_walk : Ended (block_walk most (parts with_block point).literals (parts with_block point).bytes 5 0 1 (gives (num 9) ∷ [])) (assigned (Temporary 0) (First (Temporary 0)) ∷ sent (First (Temporary 0)) (codes "+") (num 1 ∷ []) false ∷ returned (num 9) ∷ []) 0
unfolding did assign_to answer_to make_block return_value be_unsure jump_back walk
inner_walk = (refl, refl)

-- an answer changes a variable: foo ^x at: 1 put: 2; foo; yourself
changed_trace : Ended (trace_by casc (record { value = num 5; changes = (Field 0, num 6) ∷ [] } ∷ [])) (sent (First (Field 0)) (codes "at:put:") (num 1 ∷ num 2 ∷ []) false ∷ sent (First (Field 0)) (codes "foo") [] false ∷ []) 0
unfolding did assign_to answer_to make_block return_value be_unsure jump_back walk
changed_trace = (refl, refl)

both_changed : trace_by both (gives (constant_value True) ∷ []) ≡ walk_by both (gives (constant_value True) ∷ [])
unfolding did assign_to answer_to make_block return_value be_unsure jump_back walk
both_changed = refl

-- EACH FORM, by its selector: foo ^self a SELECTOR [x], or with [y] as a second block

abbrev named : List ℕ → v.ExpressionView
named text = v.variable (nm text 6)

abbrev unary : (receiver selector : List ℕ) → v.MessagesView → v.ExpressionView
unary receiver selector more = v.send (named receiver) (v.message selector v.no_expressions more)

abbrev block_of : v.ExpressionView → v.ExpressionView
block_of x = v.block [] (v.statement false x v.no_statements)

abbrev form : v.ExpressionView → (selector : List ℕ) → v.ExpressionsView → v.ExpressionView
form receiver selector others = v.send receiver (v.message selector (v.expression (block_of (named (codes "x"))) others) v.no_messages)

abbrev method : (returns : Bool) → v.ExpressionView → MethodView
method returns x = record { selector = codes "foo"; arguments = []; temporaries = []; primitive = None; body = v.statement returns x v.no_statements }

abbrev one_block : List ℕ → MethodView
one_block selector = method true (form (unary (codes "self") (codes "a") v.no_messages) selector v.no_expressions)

abbrev two_blocks : List ℕ → MethodView
two_blocks selector = method true (form (unary (codes "self") (codes "a") v.no_messages) selector (v.expression (block_of (named (codes "y"))) v.no_expressions))

-- where a answers this, the method does
abbrev Ends : MethodView → Constant → Value → Type 0
Ends m k x = Ended (trace_by m (gives (constant_value k) ∷ [])) (sent self (codes "a") [] false ∷ returned x ∷ []) 0

abbrev first_field : Value
first_field = First (Field 0)

abbrev second_field : Value
second_field = First (Field 1)

one_sided : Ends (one_block (codes "ifTrue:")) True first_field × Ends (one_block (codes "ifTrue:")) False (constant_value Nil)
    × Ends (one_block (codes "ifFalse:")) True (constant_value Nil) × Ends (one_block (codes "ifFalse:")) False first_field
    × Ends (one_block (codes "and:")) True first_field × Ends (one_block (codes "and:")) False (constant_value False)
    × Ends (one_block (codes "or:")) True (constant_value True) × Ends (one_block (codes "or:")) False first_field
unfolding did assign_to answer_to make_block return_value be_unsure jump_back walk
one_sided = ((refl, refl), (refl, refl), (refl, refl), (refl, refl), (refl, refl), (refl, refl), (refl, refl), (refl, refl))

two_sided : Ends (two_blocks (codes "ifTrue:ifFalse:")) True first_field × Ends (two_blocks (codes "ifTrue:ifFalse:")) False second_field
    × Ends (two_blocks (codes "ifFalse:ifTrue:")) True second_field × Ends (two_blocks (codes "ifFalse:ifTrue:")) False first_field
unfolding did assign_to answer_to make_block return_value be_unsure jump_back walk
two_sided = ((refl, refl), (refl, refl), (refl, refl), (refl, refl))

-- foo [self a] whileFalse: [x]
while_false : Ended (trace_by (method false (form (block_of (unary (codes "self") (codes "a") v.no_messages)) (codes "whileFalse:") v.no_expressions)) (gives (constant_value False) ∷ gives (constant_value True) ∷ []))
    (sent self (codes "a") [] false ∷ sent self (codes "a") [] false ∷ returned self ∷ []) 1
unfolding did assign_to answer_to make_block return_value be_unsure jump_back walk
while_false = (refl, refl)

-- foo ^super a; b
to_super : Ended (trace_by (method true (unary (codes "super") (codes "a") (v.message (codes "b") v.no_expressions v.no_messages))) (gives (num 1) ∷ gives (num 2) ∷ []))
    (sent self (codes "a") [] true ∷ sent self (codes "b") [] true ∷ returned (num 2) ∷ []) 0
unfolding did assign_to answer_to make_block return_value be_unsure jump_back walk
to_super = (refl, refl)

-- foo ^thisContext, and ^Point
names_mean : Ended (trace_by (method true (named (codes "thisContext"))) []) (returned (constant_value Context) ∷ []) 0
    × Ended (trace_by (method true (named (codes "Point"))) []) (returned (First (Shared 0)) ∷ []) 0
unfolding did assign_to answer_to make_block return_value be_unsure jump_back walk
names_mean = ((refl, refl), (refl, refl))
