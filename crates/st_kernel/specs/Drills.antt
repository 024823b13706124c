-- The kernel text of a drill: classes, each below the one before, and a process in which an instance of the last of them counts,
-- without end, by a method of the first.
use Rattle.std.specs.Prelude.{codes, ℕ, suc, ◌%◌, List, ◌++◌}
use Rattle.std.specs.Fmt.{decimal}
use Rattle.std.specs.List.{flat_map, range_with_len}

-- Object, the classes that a kernel needs, and the first class of the drill
abbrev pub declarations : List ℕ
declarations =
    codes "class Object super nil fixed!\n"
    ++ codes "class UndefinedObject super Object fixed!\n"
    ++ codes "class False super Object fixed!\n"
    ++ codes "class True super Object fixed!\n"
    ++ codes "class SmallInteger super Object fixed!\n"
    ++ codes "class Metaclass super Object fixed!\n"
    ++ codes "class Association super Object fixed a b!\n"
    ++ codes "class Point super Object fixed a b!\n"
    ++ codes "class Message super Object fixed a b!\n"
    ++ codes "class ProcessorScheduler super Object fixed a b!\n"
    ++ codes "class LinkedList super Object fixed a b!\n"
    ++ codes "class Process super Object fixed a b c d!\n"
    ++ codes "class Character super Object fixed a!\n"
    ++ codes "class Array super Object indexed!\n"
    ++ codes "class MethodContext super Object indexed a b c d e f!\n"
    ++ codes "class BlockContext super Object indexed a b c d e f!\n"
    ++ codes "class MethodDictionary super Object indexed a b!\n"
    ++ codes "class String super Object bytes!\n"
    ++ codes "class Symbol super Object bytes!\n"
    ++ codes "class LargePositiveInteger super Object bytes!\n"
    ++ codes "class CompiledMethod super Object bytes!\n"
    ++ codes "class D0 super Object fixed!\n"

-- the class behind class i of the drill, which is its subclass
abbrev pub class_behind : ℕ → List ℕ
class_behind i = codes "class D" ++ decimal (suc i) ++ codes " super D" ++ decimal i ++ codes " fixed!\n"

-- the methods, up to the class that is asked for instances
abbrev pub methods : List ℕ
methods =
    codes "global Start!\n"
    ++ codes "!Object class methodsFor: 'd'!new <primitive: 70>! !\n"
    ++ codes "!D0 methodsFor: 'd'!bump: n ^n >= 1000 ifTrue: [0] ifFalse: [n + 1]! !\n"
    ++ codes "!UndefinedObject methodsFor: 'd'!run | d n | n _ 0. [true] whileTrue: [d _ D"

-- what stands behind that class
abbrev pub start : List ℕ
start = codes " new. n _ d bump: n]! !\nstart Start run!\n"

-- an instance of class i of the drill is made, and asked for the number behind n, over and over
abbrev pub behaviour : ℕ → List ℕ
behaviour i = methods ++ decimal i ++ start

-- so many classes behind the first one
abbrev pub drill_of : ℕ → List ℕ
drill_of i = declarations ++ flat_map class_behind (range_with_len 0 i) ++ behaviour i

-- the drill of n has 1 + n modulo 1000 classes
abbrev pub drill_text : ℕ → List ℕ
drill_text n = drill_of (n % 1000)
