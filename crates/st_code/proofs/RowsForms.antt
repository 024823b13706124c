-- Forms, by the definitions alone.
use Rattle.std.proofs.Common.{true, false, [], ◌∷◌, refl, Some, None}
use Rattle.std.specs.Prelude.{codes, Ok, Err, ◌≡◌}
use Rattle.st_scan.specs.Views as v
use Rattle.st_code.specs.declared.fault.Cause.TheVariants.{Unknown, Twice, Store}
use Rattle.st_emit.specs.Literals as l
use Rattle.st_scan.proofs.Worked.{signed, name_at as nm, literal_at as lit}
use Rattle.st_emit.proofs.Worked.{point}
use Rattle.st_code.specs.Methods.{code}

-- foo ^x ifTrue: [1] ifFalse: [x. x. x. x x]
over_eight : code (record { selector = codes "foo"; arguments = []; temporaries = []; primitive = None; body = (v.statement true (v.send (v.variable (nm (codes "x") 6)) (v.message (codes "ifTrue:ifFalse:") (v.expression (v.block [] (v.statement false (lit 17 (v.number (signed false 1))) v.no_statements)) (v.expression (v.block [] (v.statement false (v.variable (nm (codes "x") 30)) (v.statement false (v.variable (nm (codes "x") 33)) (v.statement false (v.variable (nm (codes "x") 36)) (v.statement false (v.send (v.variable (nm (codes "x") 39)) (v.message (codes "x") v.no_expressions v.no_messages)) v.no_statements))))) v.no_expressions)) v.no_messages)) v.no_statements) }) point ≡ (Ok (record { selector = codes "foo"; header = 1; literals = []; bytes = (0 ∷ 153 ∷ 118 ∷ 151 ∷ 0 ∷ 135 ∷ 0 ∷ 135 ∷ 0 ∷ 135 ∷ 0 ∷ 206 ∷ 124 ∷ []) }))
over_eight = refl

-- foo ^x ifTrue: [1] ifFalse: [x. x. x. x. x]
over_nine : code (record { selector = codes "foo"; arguments = []; temporaries = []; primitive = None; body = (v.statement true (v.send (v.variable (nm (codes "x") 6)) (v.message (codes "ifTrue:ifFalse:") (v.expression (v.block [] (v.statement false (lit 17 (v.number (signed false 1))) v.no_statements)) (v.expression (v.block [] (v.statement false (v.variable (nm (codes "x") 30)) (v.statement false (v.variable (nm (codes "x") 33)) (v.statement false (v.variable (nm (codes "x") 36)) (v.statement false (v.variable (nm (codes "x") 39)) (v.statement false (v.variable (nm (codes "x") 42)) v.no_statements)))))) v.no_expressions)) v.no_messages)) v.no_statements) }) point ≡ (Ok (record { selector = codes "foo"; header = 1; literals = []; bytes = (0 ∷ 154 ∷ 118 ∷ 164 ∷ 9 ∷ 0 ∷ 135 ∷ 0 ∷ 135 ∷ 0 ∷ 135 ∷ 0 ∷ 135 ∷ 0 ∷ 124 ∷ []) }))
over_nine = refl

-- foo ^x ifTrue: [x. x. x. x] ifFalse: [1]
on_false_eight : code (record { selector = codes "foo"; arguments = []; temporaries = []; primitive = None; body = (v.statement true (v.send (v.variable (nm (codes "x") 6)) (v.message (codes "ifTrue:ifFalse:") (v.expression (v.block [] (v.statement false (v.variable (nm (codes "x") 17)) (v.statement false (v.variable (nm (codes "x") 20)) (v.statement false (v.variable (nm (codes "x") 23)) (v.statement false (v.variable (nm (codes "x") 26)) v.no_statements))))) (v.expression (v.block [] (v.statement false (lit 39 (v.number (signed false 1))) v.no_statements)) v.no_expressions)) v.no_messages)) v.no_statements) }) point ≡ (Ok (record { selector = codes "foo"; header = 1; literals = []; bytes = (0 ∷ 159 ∷ 0 ∷ 135 ∷ 0 ∷ 135 ∷ 0 ∷ 135 ∷ 0 ∷ 144 ∷ 118 ∷ 124 ∷ []) }))
on_false_eight = refl

-- foo ^x ifTrue: [x. x. x. x x] ifFalse: [1]
on_false_nine : code (record { selector = codes "foo"; arguments = []; temporaries = []; primitive = None; body = (v.statement true (v.send (v.variable (nm (codes "x") 6)) (v.message (codes "ifTrue:ifFalse:") (v.expression (v.block [] (v.statement false (v.variable (nm (codes "x") 17)) (v.statement false (v.variable (nm (codes "x") 20)) (v.statement false (v.variable (nm (codes "x") 23)) (v.statement false (v.send (v.variable (nm (codes "x") 26)) (v.message (codes "x") v.no_expressions v.no_messages)) v.no_statements))))) (v.expression (v.block [] (v.statement false (lit 41 (v.number (signed false 1))) v.no_statements)) v.no_expressions)) v.no_messages)) v.no_statements) }) point ≡ (Ok (record { selector = codes "foo"; header = 1; literals = []; bytes = (0 ∷ 172 ∷ 9 ∷ 0 ∷ 135 ∷ 0 ∷ 135 ∷ 0 ∷ 135 ∷ 0 ∷ 206 ∷ 144 ∷ 118 ∷ 124 ∷ []) }))
on_false_nine = refl

-- foo [x] whileTrue: [x. x. x]
loop_out_eight : code (record { selector = codes "foo"; arguments = []; temporaries = []; primitive = None; body = (v.statement false (v.send (v.block [] (v.statement false (v.variable (nm (codes "x") 6)) v.no_statements)) (v.message (codes "whileTrue:") (v.expression (v.block [] (v.statement false (v.variable (nm (codes "x") 21)) (v.statement false (v.variable (nm (codes "x") 24)) (v.statement false (v.variable (nm (codes "x") 27)) v.no_statements)))) v.no_expressions) v.no_messages)) v.no_statements) }) point ≡ (Ok (record { selector = codes "foo"; header = 1; literals = []; bytes = (0 ∷ 159 ∷ 0 ∷ 135 ∷ 0 ∷ 135 ∷ 0 ∷ 135 ∷ 163 ∷ 246 ∷ 115 ∷ 135 ∷ 120 ∷ []) }))
loop_out_eight = refl

-- foo [x] whileTrue: [x. x. x x]
loop_out_nine : code (record { selector = codes "foo"; arguments = []; temporaries = []; primitive = None; body = (v.statement false (v.send (v.block [] (v.statement false (v.variable (nm (codes "x") 6)) v.no_statements)) (v.message (codes "whileTrue:") (v.expression (v.block [] (v.statement false (v.variable (nm (codes "x") 21)) (v.statement false (v.variable (nm (codes "x") 24)) (v.statement false (v.send (v.variable (nm (codes "x") 27)) (v.message (codes "x") v.no_expressions v.no_messages)) v.no_statements)))) v.no_expressions) v.no_messages)) v.no_statements) }) point ≡ (Ok (record { selector = codes "foo"; header = 1; literals = []; bytes = (0 ∷ 172 ∷ 9 ∷ 0 ∷ 135 ∷ 0 ∷ 135 ∷ 0 ∷ 206 ∷ 135 ∷ 163 ∷ 244 ∷ 115 ∷ 135 ∷ 120 ∷ []) }))
loop_out_nine = refl

-- foo ^x ifFalse: [y]
if_false : code (record { selector = codes "foo"; arguments = []; temporaries = []; primitive = None; body = (v.statement true (v.send (v.variable (nm (codes "x") 6)) (v.message (codes "ifFalse:") (v.expression (v.block [] (v.statement false (v.variable (nm (codes "y") 18)) v.no_statements)) v.no_expressions) v.no_messages)) v.no_statements) }) point ≡ (Ok (record { selector = codes "foo"; header = 1; literals = []; bytes = (0 ∷ 168 ∷ 2 ∷ 1 ∷ 144 ∷ 115 ∷ 124 ∷ []) }))
if_false = refl

-- foo ^x and: [y]
and_form : code (record { selector = codes "foo"; arguments = []; temporaries = []; primitive = None; body = (v.statement true (v.send (v.variable (nm (codes "x") 6)) (v.message (codes "and:") (v.expression (v.block [] (v.statement false (v.variable (nm (codes "y") 14)) v.no_statements)) v.no_expressions) v.no_messages)) v.no_statements) }) point ≡ (Ok (record { selector = codes "foo"; header = 1; literals = []; bytes = (0 ∷ 153 ∷ 1 ∷ 144 ∷ 114 ∷ 124 ∷ []) }))
and_form = refl

-- foo ^x or: [y]
or_form : code (record { selector = codes "foo"; arguments = []; temporaries = []; primitive = None; body = (v.statement true (v.send (v.variable (nm (codes "x") 6)) (v.message (codes "or:") (v.expression (v.block [] (v.statement false (v.variable (nm (codes "y") 13)) v.no_statements)) v.no_expressions) v.no_messages)) v.no_statements) }) point ≡ (Ok (record { selector = codes "foo"; header = 1; literals = []; bytes = (0 ∷ 168 ∷ 2 ∷ 1 ∷ 144 ∷ 113 ∷ 124 ∷ []) }))
or_form = refl

-- foo [x] whileFalse: [y]
while_false : code (record { selector = codes "foo"; arguments = []; temporaries = []; primitive = None; body = (v.statement false (v.send (v.block [] (v.statement false (v.variable (nm (codes "x") 6)) v.no_statements)) (v.message (codes "whileFalse:") (v.expression (v.block [] (v.statement false (v.variable (nm (codes "y") 22)) v.no_statements)) v.no_expressions) v.no_messages)) v.no_statements) }) point ≡ (Ok (record { selector = codes "foo"; header = 1; literals = []; bytes = (0 ∷ 168 ∷ 4 ∷ 1 ∷ 135 ∷ 163 ∷ 249 ∷ 115 ∷ 135 ∷ 120 ∷ []) }))
while_false = refl

-- foo ^x ifFalse: [1000] ifTrue: [2000]
reversed : code (record { selector = codes "foo"; arguments = []; temporaries = []; primitive = None; body = (v.statement true (v.send (v.variable (nm (codes "x") 6)) (v.message (codes "ifFalse:ifTrue:") (v.expression (v.block [] (v.statement false (lit 18 (v.number (signed false 1000))) v.no_statements)) (v.expression (v.block [] (v.statement false (lit 33 (v.number (signed false 2000))) v.no_statements)) v.no_expressions)) v.no_messages)) v.no_statements) }) point ≡ (Ok (record { selector = codes "foo"; header = 5; literals = ((l.number (signed false 2000)) ∷ (l.number (signed false 1000)) ∷ []); bytes = (0 ∷ 153 ∷ 32 ∷ 144 ∷ 33 ∷ 124 ∷ []) }))
reversed = refl

-- foo ^x ifFalse: [[:a | a]] ifTrue: [[:b | b]]
reversed_blocks : code (record { selector = codes "foo"; arguments = []; temporaries = []; primitive = None; body = (v.statement true (v.send (v.variable (nm (codes "x") 6)) (v.message (codes "ifFalse:ifTrue:") (v.expression (v.block [] (v.statement false (v.block ((nm (codes "a") 20) ∷ []) (v.statement false (v.variable (nm (codes "a") 24)) v.no_statements)) v.no_statements)) (v.expression (v.block [] (v.statement false (v.block ((nm (codes "b") 39) ∷ []) (v.statement false (v.variable (nm (codes "b") 43)) v.no_statements)) v.no_statements)) v.no_expressions)) v.no_messages)) v.no_statements) }) point ≡ (Ok (record { selector = codes "foo"; header = 513; literals = []; bytes = (0 ∷ 172 ∷ 9 ∷ 137 ∷ 118 ∷ 200 ∷ 164 ∷ 3 ∷ 105 ∷ 17 ∷ 125 ∷ 151 ∷ 137 ∷ 118 ∷ 200 ∷ 164 ∷ 3 ∷ 104 ∷ 16 ∷ 125 ∷ 124 ∷ []) }))
reversed_blocks = refl

-- foo ^x at: 1 put: 2; foo; yourself
cascade_row : code (record { selector = codes "foo"; arguments = []; temporaries = []; primitive = None; body = (v.statement true (v.send (v.variable (nm (codes "x") 6)) (v.message (codes "at:put:") (v.expression (lit 12 (v.number (signed false 1))) (v.expression (lit 19 (v.number (signed false 2))) v.no_expressions)) (v.message (codes "foo") v.no_expressions (v.message (codes "yourself") v.no_expressions v.no_messages)))) v.no_statements) }) point ≡ (Ok (record { selector = codes "foo"; header = 5; literals = ((l.symbol (codes "foo")) ∷ (l.symbol (codes "yourself")) ∷ []); bytes = (0 ∷ 136 ∷ 118 ∷ 119 ∷ 193 ∷ 135 ∷ 136 ∷ 208 ∷ 135 ∷ 209 ∷ 124 ∷ []) }))
cascade_row = refl

-- foo ^super size + (super foo: 3)
super_send : code (record { selector = codes "foo"; arguments = []; temporaries = []; primitive = None; body = (v.statement true (v.send (v.send (v.variable (nm (codes "super") 6)) (v.message (codes "size") v.no_expressions v.no_messages)) (v.message (codes "+") (v.expression (v.send (v.variable (nm (codes "super") 20)) (v.message (codes "foo:") (v.expression (lit 31 (v.number (signed false 3))) v.no_expressions) v.no_messages)) v.no_expressions) v.no_messages)) v.no_statements) }) point ≡ (Ok (record { selector = codes "foo"; header = 9; literals = ((l.symbol (codes "size")) ∷ (l.number (signed false 3)) ∷ (l.symbol (codes "foo:")) ∷ l.owner ∷ []); bytes = (112 ∷ 133 ∷ 0 ∷ 112 ∷ 33 ∷ 133 ∷ 34 ∷ 176 ∷ 124 ∷ []) }))
super_send = refl

-- foo Point. Gone _ Point. ^super foo
association_shared : code (record { selector = codes "foo"; arguments = []; temporaries = []; primitive = None; body = (v.statement false (v.variable (nm (codes "Point") 5)) (v.statement false (v.assign (nm (codes "Gone") 12) (v.variable (nm (codes "Point") 19))) (v.statement true (v.send (v.variable (nm (codes "super") 27)) (v.message (codes "foo") v.no_expressions v.no_messages)) v.no_statements))) }) point ≡ (Ok (record { selector = codes "foo"; header = 9; literals = ((l.named 100) ∷ (l.named 102) ∷ (l.symbol (codes "foo")) ∷ l.owner ∷ []); bytes = (64 ∷ 135 ∷ 64 ∷ 130 ∷ 193 ∷ 112 ∷ 133 ∷ 2 ∷ 124 ∷ []) }))
association_shared = refl

-- foo: a <primitive: 60> ^60
with_primitive : code (record { selector = codes "foo:"; arguments = ((nm (codes "a") 6) ∷ []); temporaries = []; primitive = (Some (signed false 60)); body = (v.statement true (lit 25 (v.number (signed false 60))) v.no_statements) }) point ≡ (Ok (record { selector = codes "foo:"; header = 57607; literals = ((l.number (signed false 60)) ∷ (l.number (signed false 316)) ∷ l.owner ∷ []); bytes = (32 ∷ 124 ∷ []) }))
with_primitive = refl

-- a: a b: b c: c d: d e: e ^e
five_arguments : code (record { selector = codes "a:b:c:d:e:"; arguments = ((nm (codes "a") 4) ∷ (nm (codes "b") 9) ∷ (nm (codes "c") 14) ∷ (nm (codes "d") 19) ∷ (nm (codes "e") 24) ∷ []); temporaries = []; primitive = None; body = (v.statement true (v.variable (nm (codes "e") 27)) v.no_statements) }) point ≡ (Ok (record { selector = codes "a:b:c:d:e:"; header = 58629; literals = ((l.number (signed false 1280)) ∷ l.owner ∷ []); bytes = (20 ∷ 124 ∷ []) }))
five_arguments = refl

-- foo
flag_five : code (record { selector = codes "foo"; arguments = []; temporaries = []; primitive = None; body = v.no_statements }) point ≡ (Ok (record { selector = codes "foo"; header = 40961; literals = []; bytes = (120 ∷ []) }))
flag_five = refl

-- foo ^self
flag_five_self : code (record { selector = codes "foo"; arguments = []; temporaries = []; primitive = None; body = (v.statement true (v.variable (nm (codes "self") 6)) v.no_statements) }) point ≡ (Ok (record { selector = codes "foo"; header = 40961; literals = []; bytes = (120 ∷ []) }))
flag_five_self = refl

-- foo ^y
flag_six : code (record { selector = codes "foo"; arguments = []; temporaries = []; primitive = None; body = (v.statement true (v.variable (nm (codes "y") 6)) v.no_statements) }) point ≡ (Ok (record { selector = codes "foo"; header = 49409; literals = []; bytes = (1 ∷ 124 ∷ []) }))
flag_six = refl

-- foo: a a ifTrue: [^true]. a foo ifTrue: [^nil] ifFalse: [^thisContext]
returns_constants : code (record { selector = codes "foo:"; arguments = ((nm (codes "a") 6) ∷ []); temporaries = []; primitive = None; body = (v.statement false (v.send (v.variable (nm (codes "a") 8)) (v.message (codes "ifTrue:") (v.expression (v.block [] (v.statement true (v.variable (nm (codes "true") 20)) v.no_statements)) v.no_expressions) v.no_messages)) (v.statement false (v.send (v.send (v.variable (nm (codes "a") 27)) (v.message (codes "foo") v.no_expressions v.no_messages)) (v.message (codes "ifTrue:ifFalse:") (v.expression (v.block [] (v.statement true (v.variable (nm (codes "nil") 43)) v.no_statements)) (v.expression (v.block [] (v.statement true (v.variable (nm (codes "thisContext") 59)) v.no_statements)) v.no_expressions)) v.no_messages)) v.no_statements)) }) point ≡ (Ok (record { selector = codes "foo:"; header = 8451; literals = ((l.symbol (codes "foo")) ∷ []); bytes = (16 ∷ 153 ∷ 121 ∷ 144 ∷ 115 ∷ 135 ∷ 16 ∷ 208 ∷ 153 ∷ 123 ∷ 145 ∷ 137 ∷ 124 ∷ 135 ∷ 120 ∷ []) }))
returns_constants = refl

-- foo: a ^(a ifTrue: [^1] ifFalse: [^2]) foo: 1000 bar: 2000 baz: 3000 x: 4000
dead_ends : code (record { selector = codes "foo:"; arguments = ((nm (codes "a") 6) ∷ []); temporaries = []; primitive = None; body = (v.statement true (v.send (v.send (v.variable (nm (codes "a") 10)) (v.message (codes "ifTrue:ifFalse:") (v.expression (v.block [] (v.statement true (lit 22 (v.number (signed false 1))) v.no_statements)) (v.expression (v.block [] (v.statement true (lit 36 (v.number (signed false 2))) v.no_statements)) v.no_expressions)) v.no_messages)) (v.message (codes "foo:bar:baz:x:") (v.expression (lit 45 (v.number (signed false 1000))) (v.expression (lit 55 (v.number (signed false 2000))) (v.expression (lit 65 (v.number (signed false 3000))) (v.expression (lit 73 (v.number (signed false 4000))) v.no_expressions)))) v.no_messages)) v.no_statements) }) point ≡ (Ok (record { selector = codes "foo:"; header = 8459; literals = ((l.number (signed false 1000)) ∷ (l.number (signed false 2000)) ∷ (l.number (signed false 3000)) ∷ (l.number (signed false 4000)) ∷ (l.symbol (codes "foo:bar:baz:x:")) ∷ []); bytes = (16 ∷ 154 ∷ 118 ∷ 124 ∷ 145 ∷ 119 ∷ 124 ∷ 32 ∷ 33 ∷ 34 ∷ 35 ∷ 131 ∷ 132 ∷ 124 ∷ []) }))
dead_ends = refl

-- foo [^1] whileTrue: [x a: 1 b: 2 c: 0 d: 1 e: 1 f: 1 g: 1 h: 1 i: 1 j: 1 k: 1 l: 1]
loop_ends : code (record { selector = codes "foo"; arguments = []; temporaries = []; primitive = None; body = (v.statement false (v.send (v.block [] (v.statement true (lit 7 (v.number (signed false 1))) v.no_statements)) (v.message (codes "whileTrue:") (v.expression (v.block [] (v.statement false (v.send (v.variable (nm (codes "x") 22)) (v.message (codes "a:b:c:d:e:f:g:h:i:j:k:l:") (v.expression (lit 27 (v.number (signed false 1))) (v.expression (lit 32 (v.number (signed false 2))) (v.expression (lit 37 (v.number (signed false 0))) (v.expression (lit 42 (v.number (signed false 1))) (v.expression (lit 47 (v.number (signed false 1))) (v.expression (lit 52 (v.number (signed false 1))) (v.expression (lit 57 (v.number (signed false 1))) (v.expression (lit 62 (v.number (signed false 1))) (v.expression (lit 67 (v.number (signed false 1))) (v.expression (lit 72 (v.number (signed false 1))) (v.expression (lit 77 (v.number (signed false 1))) (v.expression (lit 82 (v.number (signed false 1))) v.no_expressions)))))))))))) v.no_messages)) v.no_statements)) v.no_expressions) v.no_messages)) v.no_statements) }) point ≡ (Ok (record { selector = codes "foo"; header = 3; literals = ((l.symbol (codes "a:b:c:d:e:f:g:h:i:j:k:l:")) ∷ []); bytes = (118 ∷ 124 ∷ 172 ∷ 19 ∷ 0 ∷ 118 ∷ 119 ∷ 117 ∷ 118 ∷ 118 ∷ 118 ∷ 118 ∷ 118 ∷ 118 ∷ 118 ∷ 118 ∷ 118 ∷ 132 ∷ 12 ∷ 0 ∷ 135 ∷ 163 ∷ 233 ∷ 115 ∷ 135 ∷ 120 ∷ []) }))
loop_ends = refl

-- foo ^[:a :b :c | a. b] value: 3
blocks_of_three : code (record { selector = codes "foo"; arguments = []; temporaries = []; primitive = None; body = (v.statement true (v.send (v.block ((nm (codes "a") 8) ∷ (nm (codes "b") 11) ∷ (nm (codes "c") 14) ∷ []) (v.statement false (v.variable (nm (codes "a") 18)) (v.statement false (v.variable (nm (codes "b") 21)) v.no_statements))) (v.message (codes "value:") (v.expression (lit 31 (v.number (signed false 3))) v.no_expressions) v.no_messages)) v.no_statements) }) point ≡ (Ok (record { selector = codes "foo"; header = 771; literals = ((l.number (signed false 3)) ∷ []); bytes = (137 ∷ 32 ∷ 200 ∷ 164 ∷ 7 ∷ 106 ∷ 105 ∷ 104 ∷ 16 ∷ 135 ∷ 17 ∷ 125 ∷ 32 ∷ 202 ∷ 124 ∷ []) }))
blocks_of_three = refl

-- foo ^#(1 #a b nil true (2 $c 'd')) , 'd' , 'd' , #b , #b
arrays : code (record { selector = codes "foo"; arguments = []; temporaries = []; primitive = None; body = (v.statement true (v.send (v.send (v.send (v.send (lit 6 (v.array (v.element 8 (v.number (signed false 1)) (v.element 10 (v.symbol (codes "a")) (v.element 13 (v.symbol (codes "b")) (v.element 15 v.nil_object (v.element 19 v.true_object (v.element 24 (v.array (v.element 25 (v.number (signed false 2)) (v.element 27 (v.character 99) (v.element 30 (v.bytes (codes "d")) v.no_elements)))) v.no_elements)))))))) (v.message (codes ",") (v.expression (lit 38 (v.bytes (codes "d"))) v.no_expressions) v.no_messages)) (v.message (codes ",") (v.expression (lit 44 (v.bytes (codes "d"))) v.no_expressions) v.no_messages)) (v.message (codes ",") (v.expression (lit 50 (v.symbol (codes "b"))) v.no_expressions) v.no_messages)) (v.message (codes ",") (v.expression (lit 55 (v.symbol (codes "b"))) v.no_expressions) v.no_messages)) v.no_statements) }) point ≡ (Ok (record { selector = codes "foo"; header = 11; literals = ((l.array (l.literal (l.number (signed false 1)) (l.literal (l.symbol (codes "a")) (l.literal (l.symbol (codes "b")) (l.literal (l.named 2) (l.literal (l.named 6) (l.literal (l.array (l.literal (l.number (signed false 2)) (l.literal (l.character 99) (l.literal (l.bytes (codes "d")) l.no_literals)))) l.no_literals))))))) ∷ (l.bytes (codes "d")) ∷ (l.symbol (codes ",")) ∷ (l.bytes (codes "d")) ∷ (l.symbol (codes "b")) ∷ []); bytes = (32 ∷ 33 ∷ 226 ∷ 35 ∷ 226 ∷ 36 ∷ 226 ∷ 36 ∷ 226 ∷ 124 ∷ []) }))
arrays = refl

-- foo ^-16384
lowest_number : code (record { selector = codes "foo"; arguments = []; temporaries = []; primitive = None; body = (v.statement true (lit 6 (v.number (signed true 16384))) v.no_statements) }) point ≡ (Ok (record { selector = codes "foo"; header = 3; literals = ((l.number (signed true 16384)) ∷ []); bytes = (32 ∷ 124 ∷ []) }))
lowest_number = refl

-- foo ^[] value: [:a | ]
empty_block : code (record { selector = codes "foo"; arguments = []; temporaries = []; primitive = None; body = (v.statement true (v.send (v.block [] v.no_statements) (v.message (codes "value:") (v.expression (v.block ((nm (codes "a") 18) ∷ []) v.no_statements) v.no_expressions) v.no_messages)) v.no_statements) }) point ≡ (Ok (record { selector = codes "foo"; header = 257; literals = []; bytes = (137 ∷ 117 ∷ 200 ∷ 164 ∷ 2 ∷ 115 ∷ 125 ∷ 137 ∷ 118 ∷ 200 ∷ 164 ∷ 3 ∷ 104 ∷ 115 ∷ 125 ∷ 202 ∷ 124 ∷ []) }))
empty_block = refl

-- foo | a | ^a _ x _ y _ 3
assigned_values : code (record { selector = codes "foo"; arguments = []; temporaries = ((nm (codes "a") 7) ∷ []); primitive = None; body = (v.statement true (v.assign (nm (codes "a") 12) (v.assign (nm (codes "x") 16) (v.assign (nm (codes "y") 20) (lit 24 (v.number (signed false 3)))))) v.no_statements) }) point ≡ (Ok (record { selector = codes "foo"; header = 259; literals = ((l.number (signed false 3)) ∷ []); bytes = (32 ∷ 129 ∷ 1 ∷ 129 ∷ 0 ∷ 129 ∷ 64 ∷ 124 ∷ []) }))
assigned_values = refl

-- foo: a ^a ifTrue: [:b | b] ifFalse: [3]
if_with_argument : code (record { selector = codes "foo:"; arguments = ((nm (codes "a") 6) ∷ []); temporaries = []; primitive = None; body = (v.statement true (v.send (v.variable (nm (codes "a") 9)) (v.message (codes "ifTrue:ifFalse:") (v.expression (v.block ((nm (codes "b") 21) ∷ []) (v.statement false (v.variable (nm (codes "b") 25)) v.no_statements)) (v.expression (v.block [] (v.statement false (lit 38 (v.number (signed false 3))) v.no_statements)) v.no_expressions)) v.no_messages)) v.no_statements) }) point ≡ (Ok (record { selector = codes "foo:"; header = 8709; literals = ((l.number (signed false 3)) ∷ (l.symbol (codes "ifTrue:ifFalse:")) ∷ []); bytes = (16 ∷ 137 ∷ 118 ∷ 200 ∷ 164 ∷ 3 ∷ 105 ∷ 17 ∷ 125 ∷ 137 ∷ 117 ∷ 200 ∷ 164 ∷ 2 ∷ 32 ∷ 125 ∷ 241 ∷ 124 ∷ []) }))
if_with_argument = refl

-- foo: a ^a whileTrue: [3]
while_of_a_name : code (record { selector = codes "foo:"; arguments = ((nm (codes "a") 6) ∷ []); temporaries = []; primitive = None; body = (v.statement true (v.send (v.variable (nm (codes "a") 9)) (v.message (codes "whileTrue:") (v.expression (v.block [] (v.statement false (lit 23 (v.number (signed false 3))) v.no_statements)) v.no_expressions) v.no_messages)) v.no_statements) }) point ≡ (Ok (record { selector = codes "foo:"; header = 8453; literals = ((l.number (signed false 3)) ∷ (l.symbol (codes "whileTrue:")) ∷ []); bytes = (16 ∷ 137 ∷ 117 ∷ 200 ∷ 164 ∷ 2 ∷ 32 ∷ 125 ∷ 225 ∷ 124 ∷ []) }))
while_of_a_name = refl

-- foo ^[:a | b] , -20000
unknown_after : code (record { selector = codes "foo"; arguments = []; temporaries = []; primitive = None; body = (v.statement true (v.send (v.block ((nm (codes "a") 8) ∷ []) (v.statement false (v.variable (nm (codes "b") 12)) v.no_statements)) (v.message (codes ",") (v.expression (lit 17 (v.number (signed true 20000))) v.no_expressions) v.no_messages)) v.no_statements) }) point ≡ (Err (record { place = 12; cause = Unknown }))
unknown_after = refl

-- foo ^[:a | [:a | a]]
block_name_twice : code (record { selector = codes "foo"; arguments = []; temporaries = []; primitive = None; body = (v.statement true (v.block ((nm (codes "a") 8) ∷ []) (v.statement false (v.block ((nm (codes "a") 14) ∷ []) (v.statement false (v.variable (nm (codes "a") 18)) v.no_statements)) v.no_statements)) v.no_statements) }) point ≡ (Err (record { place = 14; cause = Twice }))
block_name_twice = refl

-- foo zork _ 1
unknown_store : code (record { selector = codes "foo"; arguments = []; temporaries = []; primitive = None; body = (v.statement false (v.assign (nm (codes "zork") 5) (lit 12 (v.number (signed false 1)))) v.no_statements) }) point ≡ (Err (record { place = 5; cause = Unknown }))
unknown_store = refl

-- foo super _ 1
store_super : code (record { selector = codes "foo"; arguments = []; temporaries = []; primitive = None; body = (v.statement false (v.assign (nm (codes "super") 5) (lit 13 (v.number (signed false 1)))) v.no_statements) }) point ≡ (Err (record { place = 5; cause = Store }))
store_super = refl
