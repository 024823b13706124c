-- Worked methods of a class with the variables x and y, by the definitions alone: their parts, and their faults.
use Rattle.std.proofs.Common.{true, false, [], ◌∷◌, refl, Some, None}
use Rattle.std.specs.Prelude.{codes, Ok, Err, ◌≡◌}
use Rattle.st_scan.specs.Views as v
use Rattle.st_code.specs.declared.fault.Cause.TheVariants.{Unknown, Twice, Store, Primitive, Number, Symbols}
use Rattle.st_emit.specs.Literals as l
use Rattle.st_scan.proofs.Worked.{signed, name_at as nm, literal_at as lit}
use Rattle.st_emit.proofs.Worked.{point, no_symbols}
use Rattle.st_code.specs.Methods.{code}

-- x ^x
row_x : code (record { selector = codes "x"; arguments = []; temporaries = []; primitive = None; body = (v.statement true (v.variable (nm (codes "x") 4)) v.no_statements) }) point ≡ (Ok (record { selector = codes "x"; header = 49153; literals = []; bytes = (0 ∷ 124 ∷ []) }))
row_x = refl

-- count | n | n _ 0. [n < 3] whileTrue: [n _ n + 1]. ^n
row_count : code (record { selector = codes "count"; arguments = []; temporaries = ((nm (codes "n") 9) ∷ []); primitive = None; body = (v.statement false (v.assign (nm (codes "n") 13) (lit 17 (v.number (signed false 0)))) (v.statement false (v.send (v.block [] (v.statement false (v.send (v.variable (nm (codes "n") 21)) (v.message (codes "<") (v.expression (lit 25 (v.number (signed false 3))) v.no_expressions) v.no_messages)) v.no_statements)) (v.message (codes "whileTrue:") (v.expression (v.block [] (v.statement false (v.assign (nm (codes "n") 40) (v.send (v.variable (nm (codes "n") 44)) (v.message (codes "+") (v.expression (lit 48 (v.number (signed false 1))) v.no_expressions) v.no_messages))) v.no_statements)) v.no_expressions) v.no_messages)) (v.statement true (v.variable (nm (codes "n") 53)) v.no_statements))) }) point ≡ (Ok (record { selector = codes "count"; header = 259; literals = ((l.number (signed false 3)) ∷ []); bytes = (117 ∷ 104 ∷ 16 ∷ 32 ∷ 178 ∷ 159 ∷ 16 ∷ 118 ∷ 176 ∷ 129 ∷ 64 ∷ 135 ∷ 163 ∷ 244 ∷ 115 ∷ 135 ∷ 16 ∷ 124 ∷ []) }))
row_count = refl

-- max: a ^self > a ifTrue: [self] ifFalse: [a]
row_max : code (record { selector = codes "max:"; arguments = ((nm (codes "a") 6) ∷ []); temporaries = []; primitive = None; body = (v.statement true (v.send (v.send (v.variable (nm (codes "self") 9)) (v.message (codes ">") (v.expression (v.variable (nm (codes "a") 16)) v.no_expressions) v.no_messages)) (v.message (codes "ifTrue:ifFalse:") (v.expression (v.block [] (v.statement false (v.variable (nm (codes "self") 27)) v.no_statements)) (v.expression (v.block [] (v.statement false (v.variable (nm (codes "a") 43)) v.no_statements)) v.no_expressions)) v.no_messages)) v.no_statements) }) point ≡ (Ok (record { selector = codes "max:"; header = 8449; literals = []; bytes = (112 ∷ 16 ∷ 179 ∷ 153 ∷ 112 ∷ 144 ∷ 16 ∷ 124 ∷ []) }))
row_max = refl

-- inc: b ^[:e | e + 1] value: b
row_inc : code (record { selector = codes "inc:"; arguments = ((nm (codes "b") 6) ∷ []); temporaries = []; primitive = None; body = (v.statement true (v.send (v.block ((nm (codes "e") 11) ∷ []) (v.statement false (v.send (v.variable (nm (codes "e") 15)) (v.message (codes "+") (v.expression (lit 19 (v.number (signed false 1))) v.no_expressions) v.no_messages)) v.no_statements)) (v.message (codes "value:") (v.expression (v.variable (nm (codes "b") 29)) v.no_expressions) v.no_messages)) v.no_statements) }) point ≡ (Ok (record { selector = codes "inc:"; header = 8705; literals = []; bytes = (137 ∷ 118 ∷ 200 ∷ 164 ∷ 5 ∷ 105 ∷ 17 ∷ 118 ∷ 176 ∷ 125 ∷ 16 ∷ 202 ∷ 124 ∷ []) }))
row_inc = refl

-- foo | a a |
twice_declared : code (record { selector = codes "foo"; arguments = []; temporaries = ((nm (codes "a") 7) ∷ (nm (codes "a") 9) ∷ []); primitive = None; body = v.no_statements }) point ≡ (Err (record { place = 9; cause = Twice }))
twice_declared = refl

-- a: b b _ 1
store_to_an_argument : code (record { selector = codes "a:"; arguments = ((nm (codes "b") 4) ∷ []); temporaries = []; primitive = None; body = (v.statement false (v.assign (nm (codes "b") 6) (lit 10 (v.number (signed false 1)))) v.no_statements) }) point ≡ (Err (record { place = 6; cause = Store }))
store_to_an_argument = refl

-- foo ^-16385
number_too_low : code (record { selector = codes "foo"; arguments = []; temporaries = []; primitive = None; body = (v.statement true (lit 6 (v.number (signed true 16385))) v.no_statements) }) point ≡ (Err (record { place = 6; cause = Number }))
number_too_low = refl

-- foo <primitive: 0>
primitive_zero : code (record { selector = codes "foo"; arguments = []; temporaries = []; primitive = (Some (signed false 0)); body = v.no_statements }) point ≡ (Err (record { place = 0; cause = Primitive }))
primitive_zero = refl

-- foo ^#a
without_symbols : code (record { selector = codes "foo"; arguments = []; temporaries = []; primitive = None; body = (v.statement true (lit 6 (v.symbol (codes "a"))) v.no_statements) }) no_symbols ≡ (Err (record { place = 0; cause = Symbols }))
without_symbols = refl

-- foo ^1
row_one : code (record { selector = codes "foo"; arguments = []; temporaries = []; primitive = None; body = (v.statement true (lit 6 (v.number (signed false 1))) v.no_statements) }) point ≡ (Ok (record { selector = codes "foo"; header = 1; literals = []; bytes = (118 ∷ 124 ∷ []) }))
row_one = refl

-- foo ^zork
unknown_name : code (record { selector = codes "foo"; arguments = []; temporaries = []; primitive = None; body = (v.statement true (v.variable (nm (codes "zork") 6)) v.no_statements) }) point ≡ (Err (record { place = 6; cause = Unknown }))
unknown_name = refl
