-- Worked rows: what is said of a small image, computed from the definitions. Its class Point has the methods y and x, in this order.
use Rattle.std.proofs.Common.{◌≡◌, ℕ, List, [], ◌∷◌, Some, None, Option, true, refl}
use Rattle.std.specs.Prelude.{codes, ◌++◌}
use Rattle.st_model.specs.declared.kind.Kind.TheVariants as kind
use Rattle.st_model.specs.Values.{Value, Small, Ref}
use Rattle.st_model.specs.Objects.{Object, nil}
use Rattle.st_model.specs.Table.{Table}
use Rattle.st_model.specs.View.{is_live, object_of}
use Rattle.st_scope.specs.Texts.{text_at}
use Rattle.st_browse.specs.Fields.{field_at, fields_in, named}
use Rattle.st_browse.specs.Classes.{member, global_at, globals_in, is_class, classes, on_side}
use Rattle.st_browse.specs.Methods.{formed, dictionary_of, if_method, method_at, methods_in, method_named, methods}
use Rattle.st_parts.specs.Cutting.{codes_of}
use Rattle.st_browse.specs.Senders.{is_symbol, is_sent, sends, senders}
use Rattle.st_browse.specs.Sources.{source_text}
use Rattle.st_browse.specs.Asked.{source_in}
use Rattle.st_browse.specs.Replies.{count_text, classes_text, methods_text, code_line, bytecodes_text, senders_text}

pointers : ℕ → List Value → Option Object
pointers class fields = Some (record { class = class; kind = kind.Pointers; fields = fields; units = [] })

symbol : List ℕ → Option Object
symbol us = Some (record { class = 28; kind = kind.Bytes; fields = []; units = us })

method : List Value → List ℕ → Option Object
method fields us = Some (record { class = 17; kind = kind.Method; fields = fields; units = us })

-- of the two globals only one is a class; y sends + and has a literal \, and its last bytecode is cut off
image : Table
unfolding pointers symbol method
image =
    None
    ∷ pointers 6 []
    ∷ pointers 8 (Ref 4 ∷ Ref 3 ∷ nil ∷ [])
    ∷ pointers 13 (Ref 5 ∷ Ref 6 ∷ [])
    ∷ pointers 13 (Ref 9 ∷ Small 3 ∷ [])
    ∷ symbol (codes "Point")
    ∷ pointers 14 (nil ∷ Ref 7 ∷ Small 0 ∷ nil ∷ nil ∷ nil ∷ Ref 5 ∷ nil ∷ nil ∷ [])
    ∷ pointers 13 (Small 2 ∷ Ref 8 ∷ Ref 9 ∷ Ref 10 ∷ [])
    ∷ pointers 8 (Ref 11 ∷ Ref 12 ∷ [])
    ∷ symbol (codes "y")
    ∷ symbol (codes "x")
    ∷ method (Small 2 ∷ Ref 13 ∷ []) (16 ∷ 128 ∷ 5 ∷ 176 ∷ 132 ∷ 1 ∷ [])
    ∷ method (Small 0 ∷ []) (0 ∷ 124 ∷ [])
    ∷ symbol (codes "\\")
    ∷ pointers 6 (nil ∷ nil ∷ [])
    ∷ []

-- LISTS, IN THE ORDER OF BYTES

classes_are : classes_text image (Some (Ref 2)) ≡ count_text (codes "classes") 1 ++ codes "class Point\n"
unfolding image pointers symbol method classes globals_in global_at member named field_at fields_in text_at is_live object_of is_class
classes_are = refl

no_globals : classes_text image None ≡ count_text (codes "classes") 0 ++ []
unfolding classes globals_in
no_globals = refl

methods_are : methods_text image (Ref 6) ≡ count_text (codes "methods") 2 ++ codes "method x\nmethod y\n"
unfolding image pointers symbol method methods methods_in dictionary_of formed method_at if_method named field_at fields_in text_at is_live object_of
methods_are = refl

-- the class side has no dictionary, and so no methods
meta_methods_are : methods_text image (on_side image true (Ref 6)) ≡ count_text (codes "methods") 0 ++ []
unfolding image pointers symbol method on_side methods methods_in dictionary_of formed field_at fields_in is_live object_of
meta_methods_are = refl

-- BYTECODES

codes_are : codes_of (16 ∷ 128 ∷ 5 ∷ 176 ∷ 132 ∷ 1 ∷ []) ≡ (16 ∷ []) ∷ (128 ∷ 5 ∷ []) ∷ (176 ∷ []) ∷ (132 ∷ 1 ∷ []) ∷ []
codes_are = refl

bytecodes_are : bytecodes_text (object_of image (Ref 11))
    ≡ count_text (codes "bytecodes") 4 ++ (code_line 5 (16 ∷ []) ++ (code_line 6 (128 ∷ 5 ∷ []) ++ (code_line 8 (176 ∷ []) ++ (code_line 9 (132 ∷ 1 ∷ []) ++ []))))
unfolding image pointers symbol method object_of
bytecodes_are = refl

-- TEXTS

source_is : source_text (codes "a\r\n\n\\b") ≡ count_text (codes "source") 3 ++ codes "| a\\0d\n| \n| \\5cb\n"
source_is = refl

-- the class has the method, and there is a text
source_there : source_in image (codes "x") (Some (codes "x ^x")) (Ref 6) ≡ Some (count_text (codes "source") 1 ++ codes "| x ^x\n")
unfolding image pointers symbol method methods_in method_named dictionary_of formed method_at if_method named field_at fields_in text_at is_live object_of
source_there = refl

-- there is a text, and the class has no such method
no_method : source_in image (codes "z") (Some (codes "z ^x")) (Ref 6) ≡ None
unfolding image pointers symbol method methods_in method_named dictionary_of formed method_at if_method named field_at fields_in text_at is_live object_of
no_method = refl

-- the class has the method, and there is no text
no_text : source_in image (codes "x") None (Ref 6) ≡ None
unfolding image pointers symbol method methods_in method_named dictionary_of formed method_at if_method named field_at fields_in text_at is_live object_of
no_text = refl

-- SENDERS

-- by a special send, by a literal, whose name is escaped where it is a line's, and by none
special_senders : senders_text image (codes "+") (classes image (Some (Ref 2))) ≡ count_text (codes "senders") 1 ++ codes "sender Point y\n"
unfolding image pointers symbol method senders sends is_sent is_symbol on_side methods methods_in dictionary_of formed method_at if_method classes globals_in global_at member named field_at fields_in text_at is_live object_of is_class
special_senders = refl

literal_senders : senders_text image (codes "\\") (classes image (Some (Ref 2))) ≡ count_text (codes "senders") 1 ++ codes "sender Point y\n"
unfolding image pointers symbol method senders sends is_sent is_symbol on_side methods methods_in dictionary_of formed method_at if_method classes globals_in global_at member named field_at fields_in text_at is_live object_of is_class
literal_senders = refl

no_senders : senders_text image (codes "z") (classes image (Some (Ref 2))) ≡ count_text (codes "senders") 0 ++ []
unfolding image pointers symbol method senders sends is_sent is_symbol on_side methods methods_in dictionary_of formed method_at if_method classes globals_in global_at member named field_at fields_in text_at is_live object_of is_class
no_senders = refl
