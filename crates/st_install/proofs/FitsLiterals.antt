-- Literals, and trees, that need no object of more words than one may have.
use Rattle.std.proofs.Common.{ℕ, suc, ◌+◌, ◌-◌, ◌≤◌, Bool, true, false, cond, List, [], ◌∷◌, length, drop, arith, length-take, length-drop}
use Rattle.std.specs.Prelude.{bytes_eq, codes, ◌==◌}
use Rattle.std.specs.Str.{byte}
use Rattle.st_scan.specs.declared.token.Sort.{Sort}
use Rattle.st_scan.specs.declared.token.Sort.TheVariants as sorts
use Rattle.st_scan.specs.Views.{ContentView, ExpressionView, ExpressionsView, MessagesView, StatementsView, with_message, with_sent}
use Rattle.st_scan.specs.Views as views
use Rattle.st_grammar.specs.Trees.{undoubled, between_quotes, content_of}
use Rattle.st_emit.specs.Literals.{LiteralView, LiteralsView, literal_of}
use Rattle.st_emit.specs.Literals as lits
use Rattle.st_install.specs.Shapes.{most_of_one}

-- LITERALS

abbrev pub count : LiteralsView → ℕ
count lits.no_literals = 0
count (lits.literal l ls) = suc (count ls)

abbrev mutual
  -- An array counts with its size word and its class word. A text has half as many words as bytes, so this is more than enough.
  pub IsSmall : LiteralView → Type 0
  IsSmall (lits.bytes text) = length text ≤ most_of_one
  IsSmall (lits.symbol text) = length text ≤ most_of_one
  IsSmall (lits.array ls) = (2 + count ls ≤ most_of_one) × AreSmallMembers ls
  IsSmall _ = Unit {0}

  pub AreSmallMembers : LiteralsView → Type 0
  AreSmallMembers lits.no_literals = Unit {0}
  AreSmallMembers (lits.literal l ls) = IsSmall l × AreSmallMembers ls

-- TREES

abbrev mutual
  pub Small : ExpressionView → Type 0
  Small (views.variable n) = Unit {0}
  Small (views.literal e) = IsSmall (literal_of e.what)
  Small (views.block names body) = StatementsSmall body
  Small (views.assign target e) = Small e
  Small (views.send receiver ms) = Small receiver × MessagesSmall ms

  pub StatementsSmall : StatementsView → Type 0
  StatementsSmall views.no_statements = Unit {0}
  StatementsSmall (views.statement returns e ss) = Small e × StatementsSmall ss

  pub MessagesSmall : MessagesView → Type 0
  MessagesSmall views.no_messages = Unit {0}
  MessagesSmall (views.message selector es ms) = (length selector ≤ most_of_one) × ArgumentsSmall es × MessagesSmall ms

  pub ArgumentsSmall : ExpressionsView → Type 0
  ArgumentsSmall views.no_expressions = Unit {0}
  ArgumentsSmall (views.expression e es) = Small e × ArgumentsSmall es

-- one more message to what receives some
pub sent_small : (t : ExpressionView) (s : List ℕ) (es : ExpressionsView) → Small t → length s ≤ most_of_one → ArgumentsSmall es → Small (with_sent t s es)
sent_small (views.send r ms) s es h k a = (h.0, more ms h.1)
  where
    more : (ms : MessagesView) → MessagesSmall ms → MessagesSmall (with_message ms s es)
    more views.no_messages f = (k, a, tt)
    more (views.message t fs ms) f = (f.0, f.1, more ms f.2)
sent_small (views.variable n) s es h k a = h
sent_small (views.literal e) s es h k a = h
sent_small (views.block ns body) s es h k a = h
sent_small (views.assign target e) s es h k a = h

-- TOKENS

undoubled_less : (second : Bool) (bs : List ℕ) → length (undoubled second bs) ≤ length bs
undoubled_less second [] = omega arith
undoubled_less true (b ∷ bs) = let h = undoubled_less false bs in omega (arith, h)
undoubled_less false (b ∷ bs) = let h = undoubled_less (b == byte "'") bs in omega (arith, h)

quoted_less : (b : List ℕ) → length (undoubled false (between_quotes b)) ≤ length b
quoted_less b =
    let h = undoubled_less false (between_quotes b) in
    let k = length-take (length b - 2) (drop 1 b) in
    let d = length-drop 1 b in
    omega (arith, h, k, d)

chosen : (P : ContentView → Type 0) (b : Bool) (x y : ContentView) → P x → P y → P (cond b x y)
chosen P true x y p q = p
chosen P false x y p q = q

abbrev SmallContent : ContentView → Type 0
SmallContent what = IsSmall (literal_of what)

-- what a token is as a literal
pub content_small : (s : Sort) (b : List ℕ) → length b ≤ most_of_one → IsSmall (literal_of (content_of s b))
content_small (sorts.Number n) b h = tt
content_small (sorts.Character c) b h = tt
content_small sorts.Bytes b h = let k = quoted_less b in omega (arith, h, k)
content_small sorts.Symbol b h = let d = length-drop 1 b in omega (arith, h, d)
content_small sorts.Name b h =
    chosen SmallContent (bytes_eq b (codes "nil")) views.nil_object _ tt
    (chosen SmallContent (bytes_eq b (codes "false")) views.false_object _ tt
    (chosen SmallContent (bytes_eq b (codes "true")) views.true_object (views.symbol b) tt h))
content_small _ b h = h
