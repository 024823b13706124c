-- A selector has as many arguments as its text says, and so has each message of a tree of the right form.
use Rattle.std.proofs.Common.{◌≡◌, ℕ, zero, suc, ◌+◌, ◌≤◌, Bool, true, false, eqb, ◌==◌, ◌||◌, List, [], ◌∷◌, ◌++◌, length, inl, inr, refl, sym, ap, ◌∙◌, arith}
use Rattle.std.specs.List.{list_all}
use Rattle.std.specs.Str.{byte}
use Rattle.std.specs.Int.{is_in_range}
use Rattle.std.specs.Char.{is_ascii_alphabetic, is_ascii_alphanumeric}
use Rattle.std.proofs.lemmas.Bool.{and_parts, or_cases, ne_eqb}
use Rattle.st_scan.specs.Views.{ExpressionView, StatementsView, MessagesView, ExpressionsView, MethodView}
use Rattle.st_scan.specs.Views as views
use Rattle.st_scan.specs.Pieces.{begins, is_name, is_operator, keywords_text}
use Rattle.st_scan.specs.Bytes.{is_operator_byte}
use Rattle.st_scan.proofs.Classes.{or_second, operator-sign, in_range}
use Rattle.st_grammar.specs.inside.Formed.{IsSelector, ReceiverFormed, StatementsFormed, MessagesFormed, ArgumentsFormed, IsWellFormed, count_of}
use Rattle.st_emit.specs.Selectors.{arity, colons}
use Rattle.st_resolved.specs.inside.Right.{RightExpression, RightStatements, RightMessages, RightAll, arguments_count}

no_colon : (b : ℕ) → is_ascii_alphanumeric b ≡ true → (b == 58) ≡ false
no_colon b e = elim (or_cases (is_in_range 48 57 b || is_in_range 65 90 b) (is_in_range 97 122 b) e) [
  | inl low ↦ elim (or_cases (is_in_range 48 57 b) (is_in_range 65 90 b) low) [
    | inl digit ↦ let r = in_range 48 57 b digit in ne_eqb b 58 (λ s. omega arith)
    | inr upper ↦ let r = in_range 65 90 b upper in ne_eqb b 58 (λ s. omega arith)
  ]
  | inr lower ↦ let r = in_range 97 122 b lower in ne_eqb b 58 (λ s. omega arith)
]

colons_none : (n : List ℕ) → list_all is_ascii_alphanumeric n ≡ true → colons n ≡ 0
colons_none [] e = refl
colons_none (b ∷ n) e =
    let parts = and_parts (is_ascii_alphanumeric b) (list_all is_ascii_alphanumeric n) e in
    rw (no_colon b parts.0) (colons_none n parts.1)

colons_behind : (n rest : List ℕ) → list_all is_ascii_alphanumeric n ≡ true → colons (n ++ rest) ≡ colons rest
colons_behind [] rest e = refl
colons_behind (b ∷ n) rest e =
    let parts = and_parts (is_ascii_alphanumeric b) (list_all is_ascii_alphanumeric n) e in
    rw (no_colon b parts.0) (colons_behind n rest parts.1)

colons_keywords : (ns : List (List ℕ)) → list_all is_name ns ≡ true → colons (keywords_text ns) ≡ length ns
colons_keywords [] e = refl
colons_keywords (n ∷ ns) e =
    let parts = and_parts (is_name n) (list_all is_name ns) e in
    let all = (and_parts (begins is_ascii_alphabetic n) (list_all is_ascii_alphanumeric n) parts.0).1 in
    let one : colons (n ++ byte ":" ∷ keywords_text ns) ≡ colons (keywords_text ns) + 1 = colons_behind n (byte ":" ∷ keywords_text ns) all in
    omega (arith, one, colons_keywords ns parts.1)

-- what begins with a letter has its colons
by_letter : (text : List ℕ) → begins is_ascii_alphabetic text ≡ true → arity text ≡ colons text
by_letter [] e = refl
by_letter (b ∷ bs) e = rw e refl

by_sign : (b : ℕ) (bs : List ℕ) → is_ascii_alphabetic b ≡ false → arity (b ∷ bs) ≡ 1
by_sign b bs e = rw e refl

operator_one : (o : List ℕ) → is_operator o ≡ true → arity o ≡ 1
operator_one [] e = absurd cc
operator_one (b ∷ []) e = by_sign b [] (operator-sign b e).letter
operator_one (b ∷ c ∷ []) e = by_sign b (c ∷ []) (operator-sign b (or_second (eqb b (byte "|")) _ (and_parts (is_operator_byte b) _ e).0)).letter
operator_one (b ∷ c ∷ d ∷ o) e = absurd cc

begins_front : (p : ℕ → Bool) (n rest : List ℕ) → begins p n ≡ true → begins p (n ++ rest) ≡ true
begins_front p [] rest e = absurd cc
begins_front p (b ∷ n) rest e = e

keywords_many : (ns : List (List ℕ)) (n : ℕ) → list_all is_name ns ≡ true → length ns ≡ suc n → arity (keywords_text ns) ≡ suc n
keywords_many [] n e l = absurd (omega (arith, l))
keywords_many (k ∷ ns) n e l =
    let parts = and_parts (is_name k) (list_all is_name ns) e in
    let letter = (and_parts (begins is_ascii_alphabetic k) (list_all is_ascii_alphanumeric k) parts.0).0 in
    by_letter (keywords_text (k ∷ ns)) (begins_front is_ascii_alphabetic k (byte ":" ∷ keywords_text ns) letter) ∙ colons_keywords (k ∷ ns) e ∙ l

pub arity_is : (text : List ℕ) (n : ℕ) → IsSelector text n → arity text ≡ n
arity_is text zero e =
    let parts = and_parts (begins is_ascii_alphabetic text) (list_all is_ascii_alphanumeric text) e in
    by_letter text parts.0 ∙ colons_none text parts.1
arity_is text (suc n) (inl e) = operator_one text e.0 ∙ ap suc (sym e.1)
arity_is text (suc n) (inr k) = ap arity (sym k.is_joined) ∙ keywords_many k.names n k.are_names k.counted

counts_alike : (es : ExpressionsView) → count_of es ≡ arguments_count es
counts_alike views.no_expressions = refl
counts_alike (views.expression e es) = omega (arith, counts_alike es)

mutual
  pub right_expression : (e : ExpressionView) → ReceiverFormed e → RightExpression e
  right_expression (views.variable n) f = tt
  right_expression (views.literal e) f = tt
  right_expression (views.block ns b) f = right_statements b f.1
  right_expression (views.assign target e) f = right_expression e f.1
  right_expression (views.send r ms) f = (right_expression r f.0, right_messages ms f.2)

  pub right_statements : (ss : StatementsView) → StatementsFormed ss → RightStatements ss
  right_statements views.no_statements f = tt
  right_statements (views.statement returns e ss) f = (right_expression e f.0, right_statements ss f.3)

  pub right_messages : (ms : MessagesView) → MessagesFormed ms → RightMessages ms
  right_messages views.no_messages f = tt
  right_messages (views.message s es ms) f = (arity_is s (count_of es) f.0 ∙ counts_alike es, right_all es f.1, right_messages ms f.2)

  pub right_all : (es : ExpressionsView) → ArgumentsFormed es → RightAll es
  right_all views.no_expressions f = tt
  right_all (views.expression e es) f = (right_expression e f.0, right_all es f.2)

-- each tree of the right form sends each message with as many arguments as its selector says, and has as many itself
pub right_tree : (m : MethodView) → IsWellFormed m → RightStatements m.body × (arity m.selector ≡ length m.arguments)
right_tree m w = (right_statements m.body w.body, arity_is m.selector (length m.arguments) w.selector)
