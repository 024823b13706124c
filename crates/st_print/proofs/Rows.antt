-- The text of trees, by the definition alone.
use Rattle.std.proofs.Common.{true, false, [], ◌∷◌, ◌++◌, refl, Some, None}
use Rattle.std.specs.Prelude.{codes, decimal, ◌≡◌}
use Rattle.st_scan.specs.Views as v
use Rattle.st_scan.proofs.Worked.{signed, name_at, literal_at}
use Rattle.st_print.specs.Printed.{printed}

-- x ^x
unary : printed (record { selector = codes "x"; arguments = []; temporaries = []; primitive = None; body = (v.statement true (v.variable (name_at (codes "x") 4)) v.no_statements) }) ≡ codes "x ^ x"
unary = refl

-- max: a ^self > a ifTrue: [self] ifFalse: [a]
two_keywords : printed (record { selector = codes "max:"; arguments = ((name_at (codes "a") 6) ∷ []); temporaries = []; primitive = None; body = (v.statement true (v.send (v.send (v.variable (name_at (codes "self") 9)) (v.message (codes ">") (v.expression (v.variable (name_at (codes "a") 16)) v.no_expressions) v.no_messages)) (v.message (codes "ifTrue:ifFalse:") (v.expression (v.block [] (v.statement false (v.variable (name_at (codes "self") 27)) v.no_statements)) (v.expression (v.block [] (v.statement false (v.variable (name_at (codes "a") 43)) v.no_statements)) v.no_expressions)) v.no_messages)) v.no_statements) }) ≡ codes "max: a ^ self > a ifTrue: [ self ] ifFalse: [ a ]"
two_keywords = refl

-- inc: b ^[:e | e + 1] value: b
block : printed (record { selector = codes "inc:"; arguments = ((name_at (codes "b") 6) ∷ []); temporaries = []; primitive = None; body = (v.statement true (v.send (v.block ((name_at (codes "e") 11) ∷ []) (v.statement false (v.send (v.variable (name_at (codes "e") 15)) (v.message (codes "+") (v.expression (literal_at 19 (v.number (signed false 1))) v.no_expressions) v.no_messages)) v.no_statements)) (v.message (codes "value:") (v.expression (v.variable (name_at (codes "b") 29)) v.no_expressions) v.no_messages)) v.no_statements) }) ≡ codes "inc: b ^ [ : e | e + " ++ (decimal 1 ++ (codes " ] value: b"))
block = refl

-- foo (-1) abs
signed_first : printed (record { selector = codes "foo"; arguments = []; temporaries = []; primitive = None; body = (v.statement false (v.send (literal_at 6 (v.number (signed true 1))) (v.message (codes "abs") v.no_expressions v.no_messages)) v.no_statements) }) ≡ codes "foo ( -" ++ (decimal 1 ++ (codes " ) abs"))
signed_first = refl

-- foo | | ^1
empty_bars : printed (record { selector = codes "foo"; arguments = []; temporaries = []; primitive = None; body = (v.statement true (literal_at 10 (v.number (signed false 1))) v.no_statements) }) ≡ codes "foo ^ " ++ (decimal 1 ++ (codes ""))
empty_bars = refl

-- foo | a | -1 abs. a := b _ 16rFF
temporaries_before_a_sign : printed (record { selector = codes "foo"; arguments = []; temporaries = ((name_at (codes "a") 7) ∷ []); primitive = None; body = (v.statement false (v.send (literal_at 11 (v.number (signed true 1))) (v.message (codes "abs") v.no_expressions v.no_messages)) (v.statement false (v.assign (name_at (codes "a") 19) (v.assign (name_at (codes "b") 24) (literal_at 28 (v.number (signed false 255))))) v.no_statements)) }) ≡ codes "foo | a | -" ++ (decimal 1 ++ (codes " abs . a _ b _ " ++ (decimal 255 ++ (codes ""))))
temporaries_before_a_sign = refl

-- at: a put: b <primitive: 60> | t | ^t
primitive : printed (record { selector = codes "at:put:"; arguments = ((name_at (codes "a") 5) ∷ (name_at (codes "b") 12) ∷ []); temporaries = ((name_at (codes "t") 32) ∷ []); primitive = (Some (signed false 60)); body = (v.statement true (v.variable (name_at (codes "t") 37)) v.no_statements) }) ≡ codes "at: a put: b | t | < primitive: " ++ (decimal 60 ++ (codes " > ^ t"))
primitive = refl

-- + other ^(a + b) * c - (d * e)
operators : printed (record { selector = codes "+"; arguments = ((name_at (codes "other") 3) ∷ []); temporaries = []; primitive = None; body = (v.statement true (v.send (v.send (v.send (v.variable (name_at (codes "a") 11)) (v.message (codes "+") (v.expression (v.variable (name_at (codes "b") 15)) v.no_expressions) v.no_messages)) (v.message (codes "*") (v.expression (v.variable (name_at (codes "c") 20)) v.no_expressions) v.no_messages)) (v.message (codes "-") (v.expression (v.send (v.variable (name_at (codes "d") 25)) (v.message (codes "*") (v.expression (v.variable (name_at (codes "e") 29)) v.no_expressions) v.no_messages)) v.no_expressions) v.no_messages)) v.no_statements) }) ≡ codes "+ other ^ a + b * c - ( d * e )"
operators = refl

-- foo ^(a foo: b) bar: (c baz: d)
keyword_receiver : printed (record { selector = codes "foo"; arguments = []; temporaries = []; primitive = None; body = (v.statement true (v.send (v.send (v.variable (name_at (codes "a") 7)) (v.message (codes "foo:") (v.expression (v.variable (name_at (codes "b") 14)) v.no_expressions) v.no_messages)) (v.message (codes "bar:") (v.expression (v.send (v.variable (name_at (codes "c") 23)) (v.message (codes "baz:") (v.expression (v.variable (name_at (codes "d") 30)) v.no_expressions) v.no_messages)) v.no_expressions) v.no_messages)) v.no_statements) }) ≡ codes "foo ^ ( a foo: b ) bar: ( c baz: d )"
keyword_receiver = refl

-- foo (a b; c) d; e: (f g; h)
cascade : printed (record { selector = codes "foo"; arguments = []; temporaries = []; primitive = None; body = (v.statement false (v.send (v.send (v.variable (name_at (codes "a") 6)) (v.message (codes "b") v.no_expressions (v.message (codes "c") v.no_expressions v.no_messages))) (v.message (codes "d") v.no_expressions (v.message (codes "e:") (v.expression (v.send (v.variable (name_at (codes "f") 21)) (v.message (codes "g") v.no_expressions (v.message (codes "h") v.no_expressions v.no_messages))) v.no_expressions) v.no_messages))) v.no_statements) }) ≡ codes "foo ( a b ; c ) d ; e: ( f g ; h )"
cascade = refl

-- foo ^#(a #b c: $d 'e''f' #(1 -2) nil + #+ at:put:)
literals : printed (record { selector = codes "foo"; arguments = []; temporaries = []; primitive = None; body = (v.statement true (literal_at 6 (v.array (v.element 8 (v.symbol (codes "a")) (v.element 10 (v.symbol (codes "b")) (v.element 13 (v.symbol (codes "c:")) (v.element 16 (v.character 100) (v.element 19 (v.bytes (codes "e'f")) (v.element 26 (v.array (v.element 28 (v.number (signed false 1)) (v.element 30 (v.number (signed true 2)) v.no_elements))) (v.element 34 v.nil_object (v.element 38 (v.symbol (codes "+")) (v.element 40 (v.symbol (codes "+")) (v.element 43 (v.symbol (codes "at:put:")) v.no_elements)))))))))))) v.no_statements) }) ≡ codes "foo ^ #( #a #b #c: $d 'e''f' #( " ++ (decimal 1 ++ (codes " -" ++ (decimal 2 ++ (codes " ) nil #+ #+ #at:put: )"))))
literals = refl

-- foo ^(a _ b) c
assigned_receiver : printed (record { selector = codes "foo"; arguments = []; temporaries = []; primitive = None; body = (v.statement true (v.send (v.assign (name_at (codes "a") 7) (v.variable (name_at (codes "b") 11))) (v.message (codes "c") v.no_expressions v.no_messages)) v.no_statements) }) ≡ codes "foo ^ ( a _ b ) c"
assigned_receiver = refl

-- foo ^(a b) c
unary_messages : printed (record { selector = codes "foo"; arguments = []; temporaries = []; primitive = None; body = (v.statement true (v.send (v.send (v.variable (name_at (codes "a") 7)) (v.message (codes "b") v.no_expressions v.no_messages)) (v.message (codes "c") v.no_expressions v.no_messages)) v.no_statements) }) ≡ codes "foo ^ a b c"
unary_messages = refl

-- foo [:x :y | ]. [] value. [-1. ^2]
blocks : printed (record { selector = codes "foo"; arguments = []; temporaries = []; primitive = None; body = (v.statement false (v.block ((name_at (codes "x") 7) ∷ (name_at (codes "y") 10) ∷ []) v.no_statements) (v.statement false (v.send (v.block [] v.no_statements) (v.message (codes "value") v.no_expressions v.no_messages)) (v.statement false (v.block [] (v.statement false (literal_at 28 (v.number (signed true 1))) (v.statement true (literal_at 33 (v.number (signed false 2))) v.no_statements))) v.no_statements))) }) ≡ codes "foo [ : x : y | ] . [ ] value . [ -" ++ (decimal 1 ++ (codes " . ^ " ++ (decimal 2 ++ (codes " ]"))))
blocks = refl

-- foo ^(a + b) c: (a + b) d: (a c: b)
keyword_arguments : printed (record { selector = codes "foo"; arguments = []; temporaries = []; primitive = None; body = (v.statement true (v.send (v.send (v.variable (name_at (codes "a") 7)) (v.message (codes "+") (v.expression (v.variable (name_at (codes "b") 11)) v.no_expressions) v.no_messages)) (v.message (codes "c:d:") (v.expression (v.send (v.variable (name_at (codes "a") 18)) (v.message (codes "+") (v.expression (v.variable (name_at (codes "b") 22)) v.no_expressions) v.no_messages)) (v.expression (v.send (v.variable (name_at (codes "a") 29)) (v.message (codes "c:") (v.expression (v.variable (name_at (codes "b") 34)) v.no_expressions) v.no_messages)) v.no_expressions)) v.no_messages)) v.no_statements) }) ≡ codes "foo ^ a + b c: a + b d: ( a c: b )"
keyword_arguments = refl

-- foo a + (b _ c); d
binary_cascade : printed (record { selector = codes "foo"; arguments = []; temporaries = []; primitive = None; body = (v.statement false (v.send (v.variable (name_at (codes "a") 5)) (v.message (codes "+") (v.expression (v.assign (name_at (codes "b") 10) (v.variable (name_at (codes "c") 14))) v.no_expressions) (v.message (codes "d") v.no_expressions v.no_messages))) v.no_statements) }) ≡ codes "foo a + ( b _ c ) ; d"
binary_cascade = refl

-- foo #a:b: foo. -0
symbol : printed (record { selector = codes "foo"; arguments = []; temporaries = []; primitive = None; body = (v.statement false (v.send (literal_at 5 (v.symbol (codes "a:b:"))) (v.message (codes "foo") v.no_expressions v.no_messages)) (v.statement false (literal_at 16 (v.number (signed true 0))) v.no_statements)) }) ≡ codes "foo #a:b: foo . -" ++ (decimal 0 ++ (codes ""))
symbol = refl
