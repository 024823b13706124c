-- Limits, by the definitions alone.
use Rattle.std.proofs.Common.{ℕ, ◌+◌, zero, suc, true, false, List, [], ◌∷◌, ◌++◌, refl, None}
use Rattle.std.specs.Prelude.{codes, replicate, Result, Ok, Err, ◌≡◌}
use Rattle.st_scan.specs.Views as v
use Rattle.st_code.specs.declared.fault.Fault.{Fault}
use Rattle.st_code.specs.declared.fault.Cause.{Cause}
use Rattle.st_code.specs.declared.fault.Cause.TheVariants.{Literals, Temporaries, Depth}
use Rattle.st_emit.specs.Literals as l
use Rattle.st_scan.proofs.Worked.{signed, name_at as nm, literal_at as lit}
use Rattle.st_emit.proofs.Worked.{point}
use Rattle.st_code.specs.Methods.{PartsView, code}

-- WHAT ROWS HAVE IN COMMON

-- a method `foo` with these temporaries and statements
abbrev foo : List v.NameView → v.StatementsView → v.MethodView
foo temporaries body = record { selector = codes "foo"; arguments = []; temporaries = temporaries; primitive = None; body = body }

-- its code
abbrev made : ℕ → List l.LiteralView → List ℕ → Result PartsView Fault
made header literals bytes = Ok (record { selector = codes "foo"; header = header; literals = literals; bytes = bytes })

abbrev refused : Cause → Result PartsView Fault
refused cause = Err (record { place = 0; cause = cause })

-- the name `x` at this place, and so many as arguments, each five places after the one before
abbrev x : ℕ → v.ExpressionView
x place = v.variable (nm (codes "x") place)

abbrev xs : ℕ → ℕ → v.ExpressionsView
xs zero place = v.no_expressions
xs (suc k) place = v.expression (x place) (xs k (place + 5))

-- a message without arguments, and others after it
abbrev bare : List ℕ → v.MessagesView → v.MessagesView
bare selector rest = v.message selector v.no_expressions rest

-- the statements that are this number and those after it, so many, each five places after the one before
abbrev numbers : ℕ → ℕ → ℕ → v.StatementsView → v.StatementsView
numbers zero n place rest = rest
numbers (suc k) n place rest = v.statement false (lit place (v.number (signed false n))) (numbers k (n + 1) (place + 5) rest)

-- these numbers as literals
abbrev number_literals : ℕ → ℕ → List l.LiteralView → List l.LiteralView
number_literals zero n rest = rest
number_literals (suc k) n rest = l.number (signed false n) ∷ number_literals k (n + 1) rest

-- so many codes that push a literal, from this code on, each with a pop
abbrev near_pushes : ℕ → ℕ → List ℕ → List ℕ
near_pushes zero code rest = rest
near_pushes (suc k) code rest = code ∷ 135 ∷ near_pushes k (code + 1) rest

-- the same by the code 128 and a byte that tells which
abbrev far_pushes : ℕ → ℕ → List ℕ → List ℕ
far_pushes zero byte rest = rest
far_pushes (suc k) byte rest = 128 ∷ byte ∷ 135 ∷ far_pushes k (byte + 1) rest

-- `x + (x + (..))` with so many additions, the first `x` at this place
abbrev sum : ℕ → ℕ → v.ExpressionView
sum zero place = x place
sum (suc k) place = v.send (x place) (v.message (codes "+") (v.expression (sum k (place + 5)) v.no_expressions) v.no_messages)

-- its code: pushes of `x`, one more than additions, and as many additions
abbrev sum_bytes : ℕ → List ℕ → List ℕ
sum_bytes k rest = 0 ∷ (replicate k 0 ++ (replicate k 176 ++ rest))

-- the names `t0` to `t11`, and `t12` to `t30`
abbrev twelve : List v.NameView → List v.NameView
twelve rest =
    nm (codes "t0") 7 ∷ nm (codes "t1") 10 ∷ nm (codes "t2") 13 ∷ nm (codes "t3") 16 ∷ nm (codes "t4") 19 ∷ nm (codes "t5") 22 ∷
    nm (codes "t6") 25 ∷ nm (codes "t7") 28 ∷ nm (codes "t8") 31 ∷ nm (codes "t9") 34 ∷ nm (codes "t10") 37 ∷ nm (codes "t11") 41 ∷ rest

abbrev nineteen : List v.NameView → List v.NameView
nineteen rest =
    nm (codes "t12") 45 ∷ nm (codes "t13") 49 ∷ nm (codes "t14") 53 ∷ nm (codes "t15") 57 ∷ nm (codes "t16") 61 ∷ nm (codes "t17") 65 ∷
    nm (codes "t18") 69 ∷ nm (codes "t19") 73 ∷ nm (codes "t20") 77 ∷ nm (codes "t21") 81 ∷ nm (codes "t22") 85 ∷ nm (codes "t23") 89 ∷
    nm (codes "t24") 93 ∷ nm (codes "t25") 97 ∷ nm (codes "t26") 101 ∷ nm (codes "t27") 105 ∷ nm (codes "t28") 109 ∷ nm (codes "t29") 113 ∷
    nm (codes "t30") 117 ∷ rest

-- ROWS

-- foo 100. 101. .. 161. ^163
sixty_three_literals : code (foo [] (numbers 62 100 5 (v.statement true (lit 316 (v.number (signed false 163))) v.no_statements))) point
    ≡ made 127 (number_literals 62 100 (l.number (signed false 163) ∷ [])) (near_pushes 32 32 (far_pushes 30 160 (128 ∷ 190 ∷ 124 ∷ [])))
sixty_three_literals = refl

-- foo 100. 101. .. 161. 163. ^164
sixty_four_literals : code (foo [] (numbers 62 100 5 (v.statement false (lit 315 (v.number (signed false 163))) (v.statement true (lit 321 (v.number (signed false 164))) v.no_statements)))) point
    ≡ refused Literals
sixty_four_literals = refl

-- foo 100. 101. .. 114. x foo; bar
sixteenth_and_next : code (foo [] (numbers 15 100 5 (v.statement false (v.send (x 80) (bare (codes "foo") (bare (codes "bar") v.no_messages))) v.no_statements))) point
    ≡ made 35 (number_literals 15 100 (l.symbol (codes "foo") ∷ l.symbol (codes "bar") ∷ [])) (near_pushes 15 32 (0 ∷ 136 ∷ 223 ∷ 135 ∷ 131 ∷ 16 ∷ 135 ∷ 120 ∷ []))
sixteenth_and_next = refl

-- foo 100. 101. .. 114. x foo: x b: x c: x
sixteenth_with_three : code (foo [] (numbers 15 100 5 (v.statement false (v.send (x 80) (v.message (codes "foo:b:c:") (xs 3 87) v.no_messages)) v.no_statements))) point
    ≡ made 33 (number_literals 15 100 (l.symbol (codes "foo:b:c:") ∷ [])) (near_pushes 15 32 (0 ∷ 0 ∷ 0 ∷ 0 ∷ 131 ∷ 111 ∷ 135 ∷ 120 ∷ []))
sixteenth_with_three = refl

-- foo 100. 101. .. 130. x foo; bar; bar: x
thirty_second_and_next : code (foo [] (numbers 31 100 5 (v.statement false (v.send (x 160) (bare (codes "foo") (bare (codes "bar") (v.message (codes "bar:") (xs 1 177) v.no_messages)))) v.no_statements))) point
    ≡ made 69 (number_literals 31 100 (l.symbol (codes "foo") ∷ l.symbol (codes "bar") ∷ l.symbol (codes "bar:") ∷ [])) (near_pushes 31 32 (0 ∷ 136 ∷ 131 ∷ 31 ∷ 135 ∷ 136 ∷ 132 ∷ 0 ∷ 32 ∷ 135 ∷ 0 ∷ 132 ∷ 1 ∷ 33 ∷ 135 ∷ 120 ∷ []))
thirty_second_and_next = refl

-- foo 100. 101. .. 130. 200. 201
thirty_second_pushed : code (foo [] (numbers 31 100 5 (v.statement false (lit 160 (v.number (signed false 200))) (v.statement false (lit 165 (v.number (signed false 201))) v.no_statements)))) point
    ≡ made 67 (number_literals 31 100 (l.number (signed false 200) ∷ l.number (signed false 201) ∷ [])) (near_pushes 32 32 (128 ∷ 160 ∷ 135 ∷ 120 ∷ []))
thirty_second_pushed = refl

-- foo 100. 101. .. 130. Point. Gone
thirty_second_shared : code (foo [] (numbers 31 100 5 (v.statement false (v.variable (nm (codes "Point") 160)) (v.statement false (v.variable (nm (codes "Gone") 167)) v.no_statements)))) point
    ≡ made 67 (number_literals 31 100 (l.named 100 ∷ l.named 102 ∷ [])) (near_pushes 31 32 (95 ∷ 135 ∷ 128 ∷ 224 ∷ 135 ∷ 120 ∷ []))
thirty_second_shared = refl

-- foo 100. 101. .. 130. super foo. super bar
super_thirty_second : code (foo [] (numbers 31 100 5 (v.statement false (v.send (v.variable (nm (codes "super") 160)) (bare (codes "foo") v.no_messages)) (v.statement false (v.send (v.variable (nm (codes "super") 171)) (bare (codes "bar") v.no_messages)) v.no_statements)))) point
    ≡ made 69 (number_literals 31 100 (l.symbol (codes "foo") ∷ l.symbol (codes "bar") ∷ l.owner ∷ [])) (near_pushes 31 32 (112 ∷ 133 ∷ 31 ∷ 135 ∷ 112 ∷ 134 ∷ 0 ∷ 32 ∷ 135 ∷ 120 ∷ []))
super_thirty_second = refl

-- foo ^x a: x b: x c: x d: x e: x f: x g: x h: x
eight_arguments : code (foo [] (v.statement true (v.send (x 6) (v.message (codes "a:b:c:d:e:f:g:h:") (xs 8 11) v.no_messages)) v.no_statements)) point
    ≡ made 3 (l.symbol (codes "a:b:c:d:e:f:g:h:") ∷ []) (0 ∷ 0 ∷ 0 ∷ 0 ∷ 0 ∷ 0 ∷ 0 ∷ 0 ∷ 0 ∷ 132 ∷ 8 ∷ 0 ∷ 124 ∷ [])
eight_arguments = refl

-- foo x. ^x + (x + (x + (x + (x + (x + (x + (x + (x + (x + (x + (x)))))))))))
depth_twelve : code (foo [] (v.statement false (x 5) (v.statement true (sum 11 9) v.no_statements))) point
    ≡ made 1 [] (0 ∷ 135 ∷ sum_bytes 11 (124 ∷ []))
depth_twelve = refl

-- foo x. ^x + (x + (x + (x + (x + (x + (x + (x + (x + (x + (x + (x + (x))))))))))))
depth_thirteen : code (foo [] (v.statement false (x 5) (v.statement true (sum 12 9) v.no_statements))) point
    ≡ made 129 [] (0 ∷ 135 ∷ sum_bytes 12 (124 ∷ []))
depth_thirteen = refl

-- foo x. ^x + (x + (.. + (x))), with 31 additions
depth_32 : code (foo [] (v.statement false (x 5) (v.statement true (sum 31 9) v.no_statements))) point
    ≡ made 129 [] (0 ∷ 135 ∷ sum_bytes 31 (124 ∷ []))
depth_32 = refl

-- foo x. ^x + (x + (.. + (x))), with 32 additions
depth_33 : code (foo [] (v.statement false (x 5) (v.statement true (sum 32 9) v.no_statements))) point ≡ refused Depth
depth_33 = refl

-- foo ^[:a | x + (x + (x + (x + (x + (x + (x + (x + (x + (x + (x + (x)))))))))))]
block_depth_twelve : code (foo [] (v.statement true (v.block ((nm (codes "a") 8) ∷ []) (v.statement false (sum 11 12) v.no_statements)) v.no_statements)) point
    ≡ made 257 [] (137 ∷ 118 ∷ 200 ∷ 164 ∷ 25 ∷ 104 ∷ sum_bytes 11 (125 ∷ 124 ∷ []))
block_depth_twelve = refl

-- foo ^[:a | x + (x + (x + (x + (x + (x + (x + (x + (x + (x + (x + (x + (x))))))))))))]
block_depth_thirteen : code (foo [] (v.statement true (v.block ((nm (codes "a") 8) ∷ []) (v.statement false (sum 12 12) v.no_statements)) v.no_statements)) point
    ≡ made 385 [] (137 ∷ 118 ∷ 200 ∷ 164 ∷ 27 ∷ 104 ∷ sum_bytes 12 (125 ∷ 124 ∷ []))
block_depth_thirteen = refl

-- foo | t0 t1 t2 t3 t4 t5 t6 t7 t8 t9 t10 t11 | ^self
twelve_temporaries : code (foo (twelve []) (v.statement true (v.variable (nm (codes "self") 48)) v.no_statements)) point
    ≡ made 3073 [] (120 ∷ [])
twelve_temporaries = refl

-- foo | t0 t1 t2 t3 t4 t5 t6 t7 t8 t9 t10 t11 | ^thisContext
twelve_and_context : code (foo (twelve []) (v.statement true (v.variable (nm (codes "thisContext") 48)) v.no_statements)) point
    ≡ made 3201 [] (137 ∷ 124 ∷ [])
twelve_and_context = refl

-- foo | t0 t1 .. t30 | t7 := t8. t15 := t16
temporaries_31 : code (foo (twelve (nineteen [])) (v.statement false (v.assign (nm (codes "t7") 123) (v.variable (nm (codes "t8") 128))) (v.statement false (v.assign (nm (codes "t15") 132) (v.variable (nm (codes "t16") 138))) v.no_statements))) point
    ≡ made 8065 [] (24 ∷ 111 ∷ 128 ∷ 80 ∷ 130 ∷ 79 ∷ 120 ∷ [])
temporaries_31 = refl

-- foo | t0 t1 .. t31 |
temporaries_32 : code (foo (twelve (nineteen ((nm (codes "t31") 121) ∷ []))) v.no_statements) point ≡ refused Temporaries
temporaries_32 = refl
