-- Worked rows: the texts of drills.
use Rattle.std.proofs.Common.{◌≡◌, [], ◌∷◌, refl, ap, append-nil, arith}
use Rattle.std.proofs.lemmas.Fmt.{decimal_digit}
use Rattle.std.specs.Prelude.{codes, ◌++◌}
use Rattle.std.specs.List.{flat_map}
use Rattle.st_kernel.specs.Drills.{declarations, class_behind, methods, start, behaviour, drill_text}

-- the text of the drill of 0
first_drill : drill_text 0 ≡ flat_map (λ line. line ++ codes "\n") (
    codes "class Object super nil fixed!"
    ∷ codes "class UndefinedObject super Object fixed!"
    ∷ codes "class False super Object fixed!"
    ∷ codes "class True super Object fixed!"
    ∷ codes "class SmallInteger super Object fixed!"
    ∷ codes "class Metaclass super Object fixed!"
    ∷ codes "class Association super Object fixed a b!"
    ∷ codes "class Point super Object fixed a b!"
    ∷ codes "class Message super Object fixed a b!"
    ∷ codes "class ProcessorScheduler super Object fixed a b!"
    ∷ codes "class LinkedList super Object fixed a b!"
    ∷ codes "class Process super Object fixed a b c d!"
    ∷ codes "class Character super Object fixed a!"
    ∷ codes "class Array super Object indexed!"
    ∷ codes "class MethodContext super Object indexed a b c d e f!"
    ∷ codes "class BlockContext super Object indexed a b c d e f!"
    ∷ codes "class MethodDictionary super Object indexed a b!"
    ∷ codes "class String super Object bytes!"
    ∷ codes "class Symbol super Object bytes!"
    ∷ codes "class LargePositiveInteger super Object bytes!"
    ∷ codes "class CompiledMethod super Object bytes!"
    ∷ codes "class D0 super Object fixed!"
    ∷ codes "global Start!"
    ∷ codes "!Object class methodsFor: 'd'!new <primitive: 70>! !"
    ∷ codes "!D0 methodsFor: 'd'!bump: n ^n >= 1000 ifTrue: [0] ifFalse: [n + 1]! !"
    ∷ codes "!UndefinedObject methodsFor: 'd'!run | d n | n _ 0. [true] whileTrue: [d _ D0 new. n _ d bump: n]! !"
    ∷ codes "start Start run!"
    ∷ [])
first_drill = ap (λ d. declarations ++ methods ++ d ++ start) (decimal_digit 0 (omega arith))

-- the number counts modulo 1000, and the second drill has a second class, of which an instance is made
next_drills : (drill_text 1000 ≡ drill_text 0)
    × (drill_text 3001 ≡ declarations ++ class_behind 0 ++ behaviour 1)
    × (class_behind 8 ≡ codes "class D9 super D8 fixed!\n")
next_drills = (
  refl,
  ap (λ t. declarations ++ t ++ behaviour 1) (append-nil (class_behind 0)),
  λ i. codes "class D" ++ decimal_digit 9 (omega arith) i ++ codes " super D" ++ decimal_digit 8 (omega arith) i ++ codes " fixed!\n",
)
