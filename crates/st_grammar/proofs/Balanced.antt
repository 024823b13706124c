-- Each phrase closes what it opens.
use Rattle.std.proofs.Common.{◌≡◌, true, false, List, [], ◌∷◌, ◌++◌, refl}
use Rattle.st_grammar.specs.declared.leaf.Leaf.{Leaf}
use Rattle.st_grammar.specs.declared.leaf.Kind.{Kind}
use Rattle.st_grammar.specs.declared.leaf.Kind.TheVariants.{Joined, Bar, Opening, Return, Period, Semicolon, Colon, Assign, Open, Close, OpenBlock, CloseBlock}
use Rattle.st_grammar.specs.Leaves.{among, keywords, operators, openings, closings}
use Rattle.st_grammar.specs.Phrases.{One, names, constants, plain_elements, first_keywords, Element, plain, keyword_symbol, nested, Elements, no_elements, element, Literal, constant, array, Parameter, Target, Primary, name, literal, block, group, Block, plain_block, full_block, empty_block, Unary, unary, Binary, binary, Operations, no_operations, operation, Keyworded, keyworded, Parts, no_parts, part, Cascade, cascade, Messages, no_messages, message, Message, unary_message, binary_message, keyword_message, Expression, expression, Statements, no_statements, last, next, returned, returned_ended, KeywordName, ones_text, element_text, elements_text, literal_text, parameters_text, targets_text, primary_text, block_text, unary_text, binary_text, operations_text, keyworded_text, parts_text, cascade_text, messages_text, message_text, expression_text, statements_text, keyword_names_text}
use Rattle.st_grammar.proofs.Heights.{IsBalanced, balanced_nil, balanced_one, balanced_append, balanced_bracket}
use Rattle.st_grammar.proofs.KindSets.{apart, within, neutral, are_neutral}

pub one_balanced : (ks : List Kind) (o : One ks) → are_neutral ks ≡ true → IsBalanced (o.leaf ∷ [])
one_balanced ks o e = let n = neutral ks e o.leaf o.fits in balanced_one o.leaf n.0 n.1

-- one leaf, and others
pub one_and : (ks : List Kind) (o : One ks) (ts : List Leaf) → are_neutral ks ≡ true → IsBalanced ts → IsBalanced (o.leaf ∷ ts)
one_and ks o ts e b = balanced_append (o.leaf ∷ []) ts (one_balanced ks o e) b

pub ones_balanced : (ks : List Kind) (os : List (One ks)) → are_neutral ks ≡ true → IsBalanced (ones_text os)
ones_balanced ks [] e = balanced_nil
ones_balanced ks (o ∷ os) e = one_and ks o (ones_text os) e (ones_balanced ks os e)

pub bracket_balanced : (ks js : List Kind) (o : One ks) (ts : List Leaf) (c : One js) → (among openings o.leaf ≡ true) → (among openings c.leaf ≡ false) → (among closings c.leaf ≡ true) → IsBalanced ts → IsBalanced (o.leaf ∷ (ts ++ c.leaf ∷ []))
bracket_balanced ks js o ts c p q r b = balanced_bracket o.leaf ts c.leaf p q r b

pub closes : (c : One (Close ∷ [])) → (among openings c.leaf ≡ false) × (among closings c.leaf ≡ true)
closes c = (apart (Close ∷ []) openings refl c.leaf c.fits, within (Close ∷ []) closings refl c.leaf c.fits)

pub closes_block : (c : One (CloseBlock ∷ [])) → (among openings c.leaf ≡ false) × (among closings c.leaf ≡ true)
closes_block c = (apart (CloseBlock ∷ []) openings refl c.leaf c.fits, within (CloseBlock ∷ []) closings refl c.leaf c.fits)

mutual
  pub element_balanced : (e : Element) → IsBalanced (element_text e)
  element_balanced (plain o) = one_balanced plain_elements o refl
  element_balanced (keyword_symbol k ks) = one_and first_keywords k (ones_text ks) refl (ones_balanced (Joined ∷ []) ks refl)
  element_balanced (nested o es c) =
      balanced_bracket o.leaf (elements_text es) c.leaf (within (Opening ∷ Open ∷ []) openings refl o.leaf o.fits) (closes c).0 (closes c).1 (elements_balanced es)

  pub elements_balanced : (es : Elements) → IsBalanced (elements_text es)
  elements_balanced no_elements = balanced_nil
  elements_balanced (element e es) = balanced_append (element_text e) (elements_text es) (element_balanced e) (elements_balanced es)

pub literal_balanced : (l : Literal) → IsBalanced (literal_text l)
literal_balanced (constant o) = one_balanced constants o refl
literal_balanced (array o es c) = balanced_bracket o.leaf (elements_text es) c.leaf (within (Opening ∷ []) openings refl o.leaf o.fits) (closes c).0 (closes c).1 (elements_balanced es)

pub parameters_balanced : (ps : List Parameter) → IsBalanced (parameters_text ps)
parameters_balanced [] = balanced_nil
parameters_balanced (p ∷ ps) = one_and (Colon ∷ []) p.colon _ refl (one_and names p.name (parameters_text ps) refl (parameters_balanced ps))

pub targets_balanced : (ts : List Target) → IsBalanced (targets_text ts)
targets_balanced [] = balanced_nil
targets_balanced (t ∷ ts) = one_and names t.name _ refl (one_and (Assign ∷ []) t.assign (targets_text ts) refl (targets_balanced ts))

pub keyword_names_balanced : (ks : List KeywordName) → IsBalanced (keyword_names_text ks)
keyword_names_balanced [] = balanced_nil
keyword_names_balanced (k ∷ ks) = one_and keywords k.keyword _ refl (one_and names k.name (keyword_names_text ks) refl (keyword_names_balanced ks))

mutual
  pub primary_balanced : (p : Primary) → IsBalanced (primary_text p)
  primary_balanced (name o) = one_balanced names o refl
  primary_balanced (literal l) = literal_balanced l
  primary_balanced (block o b c) = balanced_bracket o.leaf (block_text b) c.leaf (within (OpenBlock ∷ []) openings refl o.leaf o.fits) (closes_block c).0 (closes_block c).1 (block_balanced b)
  primary_balanced (group o e c) = balanced_bracket o.leaf (expression_text e) c.leaf (within (Open ∷ []) openings refl o.leaf o.fits) (closes c).0 (closes c).1 (expression_balanced e)

  pub block_balanced : (b : Block) → IsBalanced (block_text b)
  block_balanced (plain_block ss) = statements_balanced ss
  block_balanced (full_block p ps b ss) = balanced_append (parameters_text (p ∷ ps)) (b.leaf ∷ statements_text ss) (parameters_balanced (p ∷ ps)) (one_and (Bar ∷ []) b (statements_text ss) refl (statements_balanced ss))
  block_balanced (empty_block p ps) = parameters_balanced (p ∷ ps)

  pub unary_balanced : (u : Unary) → IsBalanced (unary_text u)
  unary_balanced (unary p ns) = balanced_append (primary_text p) (ones_text ns) (primary_balanced p) (ones_balanced names ns refl)

  pub binary_balanced : (b : Binary) → IsBalanced (binary_text b)
  binary_balanced (binary u os) = balanced_append (unary_text u) (operations_text os) (unary_balanced u) (operations_balanced os)

  pub operations_balanced : (os : Operations) → IsBalanced (operations_text os)
  operations_balanced no_operations = balanced_nil
  operations_balanced (operation o u os) = one_and operators o (unary_text u ++ operations_text os) refl (balanced_append (unary_text u) (operations_text os) (unary_balanced u) (operations_balanced os))

  pub keyworded_balanced : (k : Keyworded) → IsBalanced (keyworded_text k)
  keyworded_balanced (keyworded b ks) = balanced_append (binary_text b) (parts_text ks) (binary_balanced b) (parts_balanced ks)

  pub parts_balanced : (ks : Parts) → IsBalanced (parts_text ks)
  parts_balanced no_parts = balanced_nil
  parts_balanced (part k b ks) = one_and keywords k (binary_text b ++ parts_text ks) refl (balanced_append (binary_text b) (parts_text ks) (binary_balanced b) (parts_balanced ks))

  pub cascade_balanced : (c : Cascade) → IsBalanced (cascade_text c)
  cascade_balanced (cascade k ms) = balanced_append (keyworded_text k) (messages_text ms) (keyworded_balanced k) (messages_balanced ms)

  pub messages_balanced : (ms : Messages) → IsBalanced (messages_text ms)
  messages_balanced no_messages = balanced_nil
  messages_balanced (message s m ms) = one_and (Semicolon ∷ []) s (message_text m ++ messages_text ms) refl (balanced_append (message_text m) (messages_text ms) (message_balanced m) (messages_balanced ms))

  pub message_balanced : (m : Message) → IsBalanced (message_text m)
  message_balanced (unary_message n) = one_balanced names n refl
  message_balanced (binary_message o u) = one_and operators o (unary_text u) refl (unary_balanced u)
  message_balanced (keyword_message k b ks) = one_and keywords k (binary_text b ++ parts_text ks) refl (balanced_append (binary_text b) (parts_text ks) (binary_balanced b) (parts_balanced ks))

  pub expression_balanced : (e : Expression) → IsBalanced (expression_text e)
  expression_balanced (expression ts c) = balanced_append (targets_text ts) (cascade_text c) (targets_balanced ts) (cascade_balanced c)

  pub statements_balanced : (ss : Statements) → IsBalanced (statements_text ss)
  statements_balanced no_statements = balanced_nil
  statements_balanced (last e) = expression_balanced e
  statements_balanced (next e p ss) = balanced_append (expression_text e) (p.leaf ∷ statements_text ss) (expression_balanced e) (one_and (Period ∷ []) p (statements_text ss) refl (statements_balanced ss))
  statements_balanced (returned r e) = one_and (Return ∷ []) r (expression_text e) refl (expression_balanced e)
  statements_balanced (returned_ended r e p) = one_and (Return ∷ []) r (expression_text e ++ p.leaf ∷ []) refl (balanced_append (expression_text e) (p.leaf ∷ []) (expression_balanced e) (one_balanced (Period ∷ []) p refl))
