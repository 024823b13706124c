-- What is known of a leaf by its kind.
use Rattle.std.proofs.Common.{◌≡◌, ℕ, zero, suc, ◌≤◌, Bool, true, false, cond, eqb, List, [], ◌∷◌, ◌++◌, length, drop, Option, Some, None, inl, inr, refl, sym, ap, ◌∙◌, subst}
use Rattle.std.specs.Prelude.{IsTrue, codes, bytes_eq, All}
use Rattle.std.specs.Str.{byte}
use Rattle.std.specs.Str.Parse.{digits_value}
use Rattle.std.proofs.lemmas.Bool.{and_parts, leb-true}
use Rattle.std.proofs.lemmas.List.Elements.{All-head, All-tail}
use Rattle.st_scan.specs.declared.token.Token.{Token}
use Rattle.st_scan.specs.declared.token.Sort.{Sort}
use Rattle.st_scan.specs.declared.token.Sort.TheVariants as sorts
use Rattle.st_scan.specs.Views.{ContentView}
use Rattle.st_scan.specs.Views as views
use Rattle.st_scan.specs.Pieces.{Digits, Piece, spelling, size, is_allowed, fits, greatest, is_name, is_operator, keywords_text, Stands, SymbolStands, symbol_text}
use Rattle.st_scan.specs.Pieces as pieces
use Rattle.st_scan.specs.Scans.{sort_of, IsToken}
use Rattle.st_grammar.specs.declared.leaf.Leaf.{Leaf}
use Rattle.st_grammar.specs.declared.leaf.Kind.{Kind}
use Rattle.st_grammar.specs.declared.leaf.Kind.TheVariants.{Name, Keyword, Primitive, Operator, Bar, Less, Greater, Number, Constant, Opening, Return, Period, Semicolon, Colon, Assign, Open, Close, OpenBlock, CloseBlock}
use Rattle.st_grammar.specs.Leaves.{bytes_of, mark_kind, operator_kind, keyword_kind, kind_of_sort, is_joined, leaf_of, leaves_behind, among, keywords, operators}
use Rattle.st_grammar.specs.Phrases.{names, constants, plain_elements}
use Rattle.st_grammar.specs.Trees.{content_of, word_content, number_of}
use Rattle.st_grammar.specs.inside.Formed.{IsSymbol, ContentFormed, LiteralFormed}
use Rattle.st_grammar.proofs.KindSets.{sample, are_apart, apart}

-- KINDS BY SORT

abbrev sort_kinds : Sort → List Kind
sort_kinds sorts.Name = Name ∷ []
sort_kinds sorts.Keyword = keywords
sort_kinds sorts.Operator = operators
sort_kinds (sorts.Number n) = Number ∷ []
sort_kinds (sorts.Character b) = Constant ∷ []
sort_kinds sorts.Bytes = Constant ∷ []
sort_kinds sorts.Symbol = Constant ∷ []
sort_kinds sorts.Opening = Opening ∷ []
sort_kinds sorts.Mark = Return ∷ Period ∷ Semicolon ∷ Colon ∷ Assign ∷ Open ∷ Close ∷ OpenBlock ∷ CloseBlock ∷ []

abbrev option_kinds : Option Sort → List Kind
option_kinds None = []
option_kinds (Some s) = sort_kinds s

chosen : (P : Kind → Type 0) (b : Bool) (k j : Kind) → P k → P j → P (cond b k j)
chosen P true k j p q = p
chosen P false k j p q = q

abbrev IsIn : List Kind → Kind → Type 0
IsIn ks k = among ks (sample k) ≡ true

mark_in : (m : List ℕ) → IsIn (sort_kinds sorts.Mark) (mark_kind m)
mark_in [] = refl
mark_in (b ∷ []) =
    let marks = sort_kinds sorts.Mark in
    chosen (IsIn marks) (eqb b (byte "^")) Return _ refl
    (chosen (IsIn marks) (eqb b (byte ".")) Period _ refl
    (chosen (IsIn marks) (eqb b (byte ";")) Semicolon _ refl
    (chosen (IsIn marks) (eqb b (byte ":")) Colon _ refl
    (chosen (IsIn marks) (eqb b (byte "(")) Open _ refl
    (chosen (IsIn marks) (eqb b (byte ")")) Close _ refl
    (chosen (IsIn marks) (eqb b (byte "[")) OpenBlock _ refl
    (chosen (IsIn marks) (eqb b (byte "]")) CloseBlock Assign refl refl)))))))
mark_in (b ∷ c ∷ m) = refl

operator_in : (o : List ℕ) → IsIn operators (operator_kind o)
operator_in [] = refl
operator_in (b ∷ []) =
    chosen (IsIn operators) (eqb b (byte "|")) Bar _ refl
    (chosen (IsIn operators) (eqb b (byte "<")) Less _ refl
    (chosen (IsIn operators) (eqb b (byte ">")) Greater Operator refl refl))
operator_in (b ∷ c ∷ o) = refl

keyword_in : (j : Bool) (b : List ℕ) → IsIn keywords (keyword_kind j b)
keyword_in true b = refl
keyword_in false b = chosen (IsIn keywords) (bytes_eq b (codes "primitive:")) Primitive Keyword refl refl

kind_in : (j : Bool) (b : List ℕ) (s : Sort) → IsIn (sort_kinds s) (kind_of_sort j b s)
kind_in j b sorts.Name = refl
kind_in j b sorts.Keyword = keyword_in j b
kind_in j b sorts.Operator = operator_in b
kind_in j b (sorts.Number n) = refl
kind_in j b (sorts.Character c) = refl
kind_in j b sorts.Bytes = refl
kind_in j b sorts.Symbol = refl
kind_in j b sorts.Opening = refl
kind_in j b sorts.Mark = mark_in b

-- A LEAF'S PIECE

-- a leaf by the piece at its span
pub record IsLeaf (text : List ℕ) (x : Leaf) : Type 0 where
  pub joined : Bool
  pub piece : Piece
  pub sign : Bool
  pub rest : List ℕ
  pub stands : Stands sign piece rest
  pub sort_is : sort_of piece ≡ Some x.token.sort
  pub spelled : spelling piece ≡ bytes_of text x.token
  pub kind_is : x.kind ≡ kind_of_sort joined (bytes_of text x.token) x.token.sort

-- each of some leaves
abbrev pub Each : List ℕ → List Leaf → Type 0
Each text [] = Unit {0}
Each text (x ∷ ts) = IsLeaf text x × Each text ts

pub each_front : (text : List ℕ) (a b : List Leaf) → Each text (a ++ b) → Each text a
each_front text [] b e = tt
each_front text (x ∷ a) b e = (e.0, each_front text a b e.1)

pub each_back : (text : List ℕ) (a b : List Leaf) → Each text (a ++ b) → Each text b
each_back text [] b e = e
each_back text (x ∷ a) b e = each_back text a b e.1

leaf_is : (text : List ℕ) (before : Option Token) (t : Token) → IsToken text t → IsLeaf text (leaf_of text before t)
leaf_is text before t i = record { joined = is_joined before t; piece = i.which; sign = i.sign; rest = drop t.end text; stands = i.stands; sort_is = i.is_sort; spelled = i.is_text; kind_is = refl }

pub each_leaf : (text : List ℕ) (before : Option Token) (ts : List Token) → All (IsToken text) ts → Each text (leaves_behind text before ts)
each_leaf text before [] all = tt
each_leaf text before (t ∷ ts) all = (leaf_is text before t (All-head (IsToken text) t ts all), each_leaf text (Some t) ts (All-tail (IsToken text) t ts all))

-- BY KINDS

-- a piece of a sort is no leaf of other kinds
not_in : (ks : List Kind) (o : Option Sort) (s : Sort) (j : Bool) (b : List ℕ) (k : Kind) → o ≡ Some s → are_apart (option_kinds o) ks ≡ true → k ≡ kind_of_sort j b s → IsIn ks k → ⊥
not_in ks o s j b k e a is inside =
    let away : are_apart (sort_kinds s) ks ≡ true = ap (λ (p : Option Sort). are_apart (option_kinds p) ks) (sym e) ∙ a in
    let among_sort : IsIn (sort_kinds s) k = ap (λ (i : Kind). among (sort_kinds s) (sample i)) is ∙ kind_in j b s in
    let never : among ks (sample k) ≡ false = apart (sort_kinds s) ks away (sample k) among_sort in
    absurd cc

name_case : (p : Piece) (s : Sort) (j sign : Bool) (b rest : List ℕ) (k : Kind) → Stands sign p rest → sort_of p ≡ Some s → spelling p ≡ b → k ≡ kind_of_sort j b s → IsIn names k → IsTrue (is_name b)
name_case (pieces.name n) s j sign b rest k stands sort spelled kind is = ap is_name (sym spelled) ∙ stands.0
name_case p s j sign b rest k stands sort spelled kind is = absurd (not_in names (sort_of p) s j b k sort refl kind is)

keyword_case : (p : Piece) (s : Sort) (j sign : Bool) (b rest : List ℕ) (k : Kind) → Stands sign p rest → sort_of p ≡ Some s → spelling p ≡ b → k ≡ kind_of_sort j b s → IsIn keywords k → (n : List ℕ) × IsTrue (is_name n) × (n ++ byte ":" ∷ [] ≡ b)
keyword_case (pieces.keyword n) s j sign b rest k stands sort spelled kind is = (n, stands.0, spelled)
keyword_case p s j sign b rest k stands sort spelled kind is = absurd (not_in keywords (sort_of p) s j b k sort refl kind is)

operator_case : (p : Piece) (s : Sort) (j sign : Bool) (b rest : List ℕ) (k : Kind) → Stands sign p rest → sort_of p ≡ Some s → spelling p ≡ b → k ≡ kind_of_sort j b s → IsIn operators k → IsTrue (is_operator b)
operator_case (pieces.operator o) s j sign b rest k stands sort spelled kind is = ap is_operator (sym spelled) ∙ stands.0
operator_case p s j sign b rest k stands sort spelled kind is = absurd (not_in operators (sort_of p) s j b k sort refl kind is)

fits_greatest : (base : ℕ) (ds : List ℕ) → fits base ds ≡ true → digits_value base ds ≤ greatest
fits_greatest base ds e = leb-true (digits_value base ds) greatest (and_parts _ _ e).1

allowed_greatest : (ds : Digits) → is_allowed ds ≡ true → size ds ≤ greatest
allowed_greatest (pieces.decimal ds) e = fits_greatest 10 ds e
allowed_greatest (pieces.radix rs ds) e = fits_greatest (digits_value 10 rs) ds (and_parts _ _ e).1

number_case : (p : Piece) (s : Sort) (j sign : Bool) (b rest : List ℕ) (k : Kind) → Stands sign p rest → sort_of p ≡ Some s → k ≡ kind_of_sort j b s → IsIn (Number ∷ []) k → (number_of s).size ≤ greatest
number_case (pieces.number minus ds) s j sign b rest k stands sort kind is =
    let same : sorts.Number (record { minus = minus; size = size ds }) ≡ s = cc in
    subst (λ (t : Sort). (number_of t).size ≤ greatest) same (allowed_greatest ds stands.1)
number_case p s j sign b rest k stands sort kind is = absurd (not_in (Number ∷ []) (sort_of p) s j b k sort refl kind is)

pub symbol_of_name : (b : List ℕ) → is_name b ≡ true → IsSymbol b
symbol_of_name b e = (zero, e)

symbol_formed : (s : pieces.Symbol) (rest : List ℕ) → SymbolStands s rest → IsSymbol (symbol_text s)
symbol_formed (pieces.unary n) rest stands = (zero, stands.0)
symbol_formed (pieces.keywords n ns) rest stands = (suc (length ns), inr (record { names = n ∷ ns; are_names = stands.0; is_joined = refl; counted = refl }))
symbol_formed (pieces.binary o) rest stands = (suc zero, inl (stands.0, refl))

chosen_content : (P : ContentView → Type 0) (b : Bool) (x y : ContentView) → P x → P y → P (cond b x y)
chosen_content P true x y p q = p
chosen_content P false x y p q = q

word_formed : (b : List ℕ) → is_name b ≡ true → ContentFormed (word_content b)
word_formed b e =
    chosen_content ContentFormed (bytes_eq b (codes "nil")) views.nil_object _ tt
    (chosen_content ContentFormed (bytes_eq b (codes "false")) views.false_object _ tt
    (chosen_content ContentFormed (bytes_eq b (codes "true")) views.true_object (views.symbol b) tt (symbol_of_name b e)))

-- what is made of a sort, whatever gives the sort
at_sort : (P : ContentView → Type 0) (t s : Sort) (b : List ℕ) → Some t ≡ Some s → P (content_of t b) → P (content_of s b)
at_sort P t s b e h = let same : t ≡ s = cc in subst (λ (u : Sort). P (content_of u b)) same h

-- what a piece is as an element
plain_content : (p : Piece) (s : Sort) (j sign : Bool) (b rest : List ℕ) (k : Kind) → Stands sign p rest → sort_of p ≡ Some s → spelling p ≡ b → k ≡ kind_of_sort j b s → IsIn plain_elements k → ContentFormed (content_of s b)
plain_content (pieces.name n) s j sign b rest k stands sort spelled kind is = at_sort ContentFormed _ s b sort (word_formed b (ap is_name (sym spelled) ∙ stands.0))
plain_content (pieces.operator o) s j sign b rest k stands sort spelled kind is = at_sort ContentFormed _ s b sort (suc zero, inl (ap is_operator (sym spelled) ∙ stands.0, refl))
plain_content (pieces.number minus ds) s j sign b rest k stands sort spelled kind is = at_sort ContentFormed _ s b sort (allowed_greatest ds stands.1)
plain_content (pieces.character c) s j sign b rest k stands sort spelled kind is = at_sort ContentFormed _ s b sort tt
plain_content (pieces.string inside) s j sign b rest k stands sort spelled kind is = at_sort ContentFormed _ s b sort tt
plain_content (pieces.symbol x) s j sign b rest k stands sort spelled kind is = at_sort ContentFormed _ s b sort (subst IsSymbol (ap (drop 1) spelled) (symbol_formed x rest stands))
plain_content p s j sign b rest k stands sort spelled kind is = absurd (not_in plain_elements (sort_of p) s j b k sort refl kind is)

-- and as a literal of its own
constant_content : (p : Piece) (s : Sort) (j sign : Bool) (b rest : List ℕ) (k : Kind) → Stands sign p rest → sort_of p ≡ Some s → spelling p ≡ b → k ≡ kind_of_sort j b s → IsIn constants k → LiteralFormed (content_of s b)
constant_content (pieces.number minus ds) s j sign b rest k stands sort spelled kind is = at_sort LiteralFormed _ s b sort (allowed_greatest ds stands.1)
constant_content (pieces.character c) s j sign b rest k stands sort spelled kind is = at_sort LiteralFormed _ s b sort tt
constant_content (pieces.string inside) s j sign b rest k stands sort spelled kind is = at_sort LiteralFormed _ s b sort tt
constant_content (pieces.symbol x) s j sign b rest k stands sort spelled kind is = at_sort LiteralFormed _ s b sort (subst IsSymbol (ap (drop 1) spelled) (symbol_formed x rest stands))
constant_content p s j sign b rest k stands sort spelled kind is = absurd (not_in constants (sort_of p) s j b k sort refl kind is)

module _ (text : List ℕ) (x : Leaf) (l : IsLeaf text x) where
  pub name_formed : among names x ≡ true → IsTrue (is_name (bytes_of text x.token))
  name_formed is = name_case l.piece x.token.sort l.joined l.sign (bytes_of text x.token) l.rest x.kind l.stands l.sort_is l.spelled l.kind_is is

  pub keyword_formed : among keywords x ≡ true → (n : List ℕ) × IsTrue (is_name n) × (n ++ byte ":" ∷ [] ≡ bytes_of text x.token)
  keyword_formed is = keyword_case l.piece x.token.sort l.joined l.sign (bytes_of text x.token) l.rest x.kind l.stands l.sort_is l.spelled l.kind_is is

  pub operator_formed : among operators x ≡ true → IsTrue (is_operator (bytes_of text x.token))
  operator_formed is = operator_case l.piece x.token.sort l.joined l.sign (bytes_of text x.token) l.rest x.kind l.stands l.sort_is l.spelled l.kind_is is

  pub number_formed : among (Number ∷ []) x ≡ true → (number_of x.token.sort).size ≤ greatest
  number_formed is = number_case l.piece x.token.sort l.joined l.sign (bytes_of text x.token) l.rest x.kind l.stands l.sort_is l.kind_is is

  pub plain_formed : among plain_elements x ≡ true → ContentFormed (content_of x.token.sort (bytes_of text x.token))
  plain_formed is = plain_content l.piece x.token.sort l.joined l.sign (bytes_of text x.token) l.rest x.kind l.stands l.sort_is l.spelled l.kind_is is

  pub constant_formed : among constants x ≡ true → LiteralFormed (content_of x.token.sort (bytes_of text x.token))
  constant_formed is = constant_content l.piece x.token.sort l.joined l.sign (bytes_of text x.token) l.rest x.kind l.stands l.sort_is l.spelled l.kind_is is
