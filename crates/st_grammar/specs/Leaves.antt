-- Tokens as the grammar sees them: each with its kind, which is found by its sort, its bytes and the token before it.
use Rattle.std.specs.Prelude.{ℕ, ◌+◌, ◌-◌, Bool, true, false, ◌&&◌, ◌==◌, List, [], ◌∷◌, take, drop, if◌then◌else◌, Option, Some, None, codes, bytes_eq}
use Rattle.std.specs.List.{list_any}
use Rattle.std.specs.Str.{byte}
use Rattle.st_scan.specs.declared.token.Token.{Token}
use Rattle.st_scan.specs.declared.token.Sort.{Sort}
use Rattle.st_scan.specs.declared.token.Sort.TheVariants as sorts
use Rattle.st_grammar.specs.declared.leaf.Leaf.{Leaf}
use Rattle.st_grammar.specs.declared.leaf.Kind.{Kind}
use Rattle.st_grammar.specs.declared.leaf.Kind.TheVariants.{Name, Keyword, Joined, Primitive, Operator, Bar, Less, Greater, Number, Constant, Opening, Return, Period, Semicolon, Colon, Assign, Open, Close, OpenBlock, CloseBlock}

-- the bytes of a token, by its span
abbrev pub bytes_of : List ℕ → Token → List ℕ
bytes_of text t = take (t.end - t.start) (drop t.start text)

abbrev pub mark_kind : List ℕ → Kind
mark_kind (b ∷ []) =
    if b == byte "^" then Return
    else (if b == byte "." then Period
    else (if b == byte ";" then Semicolon
    else (if b == byte ":" then Colon
    else (if b == byte "(" then Open
    else (if b == byte ")" then Close
    else (if b == byte "[" then OpenBlock
    else (if b == byte "]" then CloseBlock
    else Assign)))))))
mark_kind _ = Assign

abbrev pub operator_kind : List ℕ → Kind
operator_kind (b ∷ []) =
    if b == byte "|" then Bar
    else (if b == byte "<" then Less
    else (if b == byte ">" then Greater
    else Operator))
operator_kind _ = Operator

abbrev pub keyword_kind : (joined : Bool) → List ℕ → Kind
keyword_kind joined bytes = if joined then Joined else (if bytes_eq bytes (codes "primitive:") then Primitive else Keyword)

abbrev pub kind_of_sort : (joined : Bool) → List ℕ → Sort → Kind
kind_of_sort joined bytes sorts.Name = Name
kind_of_sort joined bytes sorts.Keyword = keyword_kind joined bytes
kind_of_sort joined bytes sorts.Operator = operator_kind bytes
kind_of_sort joined bytes (sorts.Number n) = Number
kind_of_sort joined bytes (sorts.Character b) = Constant
kind_of_sort joined bytes sorts.Bytes = Constant
kind_of_sort joined bytes sorts.Symbol = Constant
kind_of_sort joined bytes sorts.Opening = Opening
kind_of_sort joined bytes sorts.Mark = mark_kind bytes

-- the kind of a token; `joined` says whether it begins where a keyword ends
abbrev pub kind_of : List ℕ → (joined : Bool) → Token → Kind
kind_of text joined t = kind_of_sort joined (bytes_of text t) t.sort

abbrev pub ends_keyword : Sort → Bool
ends_keyword sorts.Keyword = true
ends_keyword _ = false

-- the token begins where the one before it, a keyword, ends
abbrev pub is_joined : Option Token → Token → Bool
is_joined None t = false
is_joined (Some before) t = ends_keyword before.sort && before.end == t.start

abbrev pub leaf_of : List ℕ → Option Token → Token → Leaf
leaf_of text before t = record { kind = kind_of text (is_joined before t) t; token = t; place = t.start + 1 }

-- tokens that stand behind another one, each with its kind and its place
abbrev pub leaves_behind : List ℕ → Option Token → List Token → List Leaf
leaves_behind text before [] = []
leaves_behind text before (t ∷ ts) = leaf_of text before t ∷ leaves_behind text (Some t) ts

abbrev pub leaves_of : List ℕ → List Token → List Leaf
leaves_of text ts = leaves_behind text None ts

-- KINDS

abbrev pub kind_number : Kind → ℕ
kind_number Name = 0
kind_number Keyword = 1
kind_number Joined = 2
kind_number Primitive = 3
kind_number Operator = 4
kind_number Bar = 5
kind_number Less = 6
kind_number Greater = 7
kind_number Number = 8
kind_number Constant = 9
kind_number Opening = 10
kind_number Return = 11
kind_number Period = 12
kind_number Semicolon = 13
kind_number Colon = 14
kind_number Assign = 15
kind_number Open = 16
kind_number Close = 17
kind_number OpenBlock = 18
kind_number CloseBlock = 19

-- the leaf has one of these kinds
abbrev pub among : List Kind → Leaf → Bool
among kinds x = list_any (λ kind. kind_number x.kind == kind_number kind) kinds

-- a keyword, joined or not
abbrev pub keywords : List Kind
keywords = Keyword ∷ Joined ∷ Primitive ∷ []

abbrev pub operators : List Kind
operators = Operator ∷ Bar ∷ Less ∷ Greater ∷ []

-- what opens a bracket, and what closes one
abbrev pub openings : List Kind
openings = Opening ∷ Open ∷ OpenBlock ∷ []

abbrev pub closings : List Kind
closings = Close ∷ CloseBlock ∷ []
