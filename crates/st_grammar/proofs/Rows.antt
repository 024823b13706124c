-- Worked texts, by the definitions alone: their pieces, their phrases, and the trees that they mean.
use Rattle.std.proofs.Common.{◌≡◌, ℕ, ◌+◌, Bool, true, false, List, [], ◌∷◌, ◌++◌, length, refl, arith, None}
use Rattle.std.specs.Prelude.{codes}
use Rattle.st_scan.specs.declared.token.Token.{Token}
use Rattle.st_scan.specs.declared.token.Sort.{Sort}
use Rattle.st_scan.specs.declared.token.Sort.TheVariants as sorts
use Rattle.st_scan.specs.Views.{NameView, ExpressionView, ExpressionsView, MessagesView, StatementsView, MethodView}
use Rattle.st_scan.specs.Views as views
use Rattle.st_scan.specs.Scans.{start, after_all, joined, AllStand, tokens_from}
use Rattle.st_scan.specs.inside.Scanned.{EndsBy, ScansTo}
use Rattle.st_scan.specs.Pieces.{Piece, blank, name, keyword, operator, mark}
use Rattle.st_grammar.specs.declared.leaf.Leaf.{Leaf}
use Rattle.st_grammar.specs.declared.leaf.Kind.{Kind}
use Rattle.st_grammar.specs.declared.leaf.Kind.TheVariants as kinds
use Rattle.st_grammar.specs.Phrases as phrases
use Rattle.st_grammar.specs.inside.Meant.{Means}

-- the scan of a text that its pieces are the whole of
abbrev whole_scan : {text : List ℕ} {tokens : List Token} (pieces : List Piece) → joined pieces ++ [] ≡ text → AllStand start pieces [] → tokens_from 0 pieces ≡ tokens → EndsBy (after_all start pieces) (length (joined pieces)) [] None → ScansTo text tokens None
whole_scan pieces parts stand are_tokens ends = record { pieces = pieces; rest = []; parts = parts; stand = stand; are_tokens = are_tokens; ends = ends }

abbrev token : Sort → ℕ → ℕ → Token
token sort start end = record { start = start; end = end; sort = sort }

-- a leaf from a place on, counted from 0
abbrev leaf : Kind → Sort → ℕ → ℕ → Leaf
leaf kind sort start end = record { kind = kind; token = token sort start end; place = start + 1 }

abbrev name_leaf : ℕ → ℕ → Leaf
name_leaf = leaf kinds.Name sorts.Name

abbrev variable : List ℕ → ℕ → ExpressionView
variable text place = views.variable (record { text = text; place = place })

abbrev none : ExpressionsView
none = views.no_expressions

abbrev one : ExpressionView → ExpressionsView
one e = views.expression e views.no_expressions

-- an expression with one message
abbrev sent : ExpressionView → List ℕ → ExpressionsView → ExpressionView
sent receiver selector arguments = views.send receiver (views.message selector arguments views.no_messages)

-- a method with no arguments and one statement
abbrev tree : (returns : Bool) → ExpressionView → MethodView
tree returns e = record { selector = codes "foo"; arguments = []; temporaries = []; primitive = None; body = views.statement returns e views.no_statements }

abbrev the_name : ℕ → ℕ → phrases.One phrases.names
the_name start end = record { leaf = name_leaf start end; fits = refl }

abbrev alone : ℕ → ℕ → phrases.Unary
alone start end = phrases.unary (phrases.name (the_name start end)) []

abbrev simple : ℕ → ℕ → phrases.Binary
simple start end = phrases.binary (alone start end) phrases.no_operations

-- unary messages come before binary ones, and these before keywords
all_messages : Means (codes "foo ^a b + c d: e")
    (tree true (sent (sent (sent (variable (codes "a") 6) (codes "b") none) (codes "+") (one (variable (codes "c") 12))) (codes "d:") (one (variable (codes "e") 17))))
all_messages = record {
  tokens = token sorts.Name 0 3 ∷ token sorts.Mark 4 5 ∷ token sorts.Name 5 6 ∷ token sorts.Name 7 8 ∷ token sorts.Operator 9 10 ∷ token sorts.Name 11 12 ∷ token sorts.Keyword 13 15 ∷ token sorts.Name 16 17 ∷ [];
  scan = whole_scan
      (name (codes "foo") ∷ blank 32 ∷ mark (codes "^") ∷ name (codes "a") ∷ blank 32 ∷ name (codes "b") ∷ blank 32 ∷ operator (codes "+") ∷ blank 32 ∷ name (codes "c") ∷ blank 32 ∷ keyword (codes "d") ∷ blank 32 ∷ name (codes "e") ∷ [])
      refl ((refl, refl, refl), (refl, ((refl, refl), ((refl, refl, refl), (refl, ((refl, refl, refl), (refl, ((refl, refl, refl), (refl, ((refl, refl, refl), (refl, ((refl, refl), (refl, ((refl, refl, refl), tt)))))))))))))) refl refl;
  method = (
    phrases.method
        (phrases.unary_pattern (the_name 0 3))
        phrases.no_options
        (phrases.returned
        (record { leaf = leaf kinds.Return sorts.Mark 4 5; fits = refl })
        (phrases.expression [] (phrases.cascade
        (phrases.keyworded
        (phrases.binary
        (phrases.unary (phrases.name (the_name 5 6)) (the_name 7 8 ∷ []))
        (phrases.operation (record { leaf = leaf kinds.Operator sorts.Operator 9 10; fits = refl }) (alone 11 12) phrases.no_operations))
        (phrases.part (record { leaf = leaf kinds.Keyword sorts.Keyword 13 15; fits = refl }) (simple 16 17) phrases.no_parts))
        phrases.no_messages))),
    (tt, ((tt, refl), tt), ((tt, tt, refl), tt), tt, refl, tt),
    refl,
    refl,
  );
  shallow = omega arith;
}

-- the messages of a cascade go to one receiver
a_cascade : Means (codes "foo x a; + b") (tree false (views.send (variable (codes "x") 5) (views.message (codes "a") none (views.message (codes "+") (one (variable (codes "b") 12)) views.no_messages))))
a_cascade = record {
  tokens = token sorts.Name 0 3 ∷ token sorts.Name 4 5 ∷ token sorts.Name 6 7 ∷ token sorts.Mark 7 8 ∷ token sorts.Operator 9 10 ∷ token sorts.Name 11 12 ∷ [];
  scan = whole_scan
      (name (codes "foo") ∷ blank 32 ∷ name (codes "x") ∷ blank 32 ∷ name (codes "a") ∷ mark (codes ";") ∷ blank 32 ∷ operator (codes "+") ∷ blank 32 ∷ name (codes "b") ∷ [])
      refl ((refl, refl, refl), (refl, ((refl, refl, refl), (refl, ((refl, refl, refl), ((refl, refl), (refl, ((refl, refl, refl), (refl, ((refl, refl, refl), tt)))))))))) refl refl;
  method = (
    phrases.method
        (phrases.unary_pattern (the_name 0 3))
        phrases.no_options
        (phrases.last (phrases.expression [] (phrases.cascade
        (phrases.keyworded (phrases.binary (phrases.unary (phrases.name (the_name 4 5)) (the_name 6 7 ∷ [])) phrases.no_operations) phrases.no_parts)
        (phrases.message
        (record { leaf = leaf kinds.Semicolon sorts.Mark 7 8; fits = refl })
        (phrases.binary_message (record { leaf = leaf kinds.Operator sorts.Operator 9 10; fits = refl }) (alone 11 12))
        phrases.no_messages)))),
    (tt, tt, tt, ((tt, refl), tt), refl, refl),
    refl,
    refl,
  );
  shallow = omega arith;
}

-- the first of two targets is assigned last
assignments : Means (codes "foo a _ b := c") (tree false (views.assign (record { text = codes "a"; place = 5 }) (views.assign (record { text = codes "b"; place = 9 }) (variable (codes "c") 14))))
assignments = record {
  tokens = token sorts.Name 0 3 ∷ token sorts.Name 4 5 ∷ token sorts.Mark 6 7 ∷ token sorts.Name 8 9 ∷ token sorts.Mark 10 12 ∷ token sorts.Name 13 14 ∷ [];
  scan = whole_scan
      (name (codes "foo") ∷ blank 32 ∷ name (codes "a") ∷ blank 32 ∷ mark (codes "_") ∷ blank 32 ∷ name (codes "b") ∷ blank 32 ∷ mark (codes ":=") ∷ blank 32 ∷ name (codes "c") ∷ [])
      refl ((refl, refl, refl), (refl, ((refl, refl, refl), (refl, ((refl, refl), (refl, ((refl, refl, refl), (refl, ((refl, refl), (refl, ((refl, refl, refl), tt))))))))))) refl refl;
  method = (
    phrases.method
        (phrases.unary_pattern (the_name 0 3))
        phrases.no_options
        (phrases.last (phrases.expression
        (record { name = the_name 4 5; assign = record { leaf = leaf kinds.Assign sorts.Mark 6 7; fits = refl } }
        ∷ record { name = the_name 8 9; assign = record { leaf = leaf kinds.Assign sorts.Mark 10 12; fits = refl } }
        ∷ [])
        (phrases.cascade (phrases.keyworded (simple 13 14) phrases.no_parts) phrases.no_messages))),
    (tt, tt, tt, tt, refl, tt),
    refl,
    refl,
  );
  shallow = omega arith;
}
