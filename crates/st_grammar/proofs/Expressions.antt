-- What is read of primaries, and of unary and binary expressions.
use Rattle.std.proofs.Common.{◌≡◌, ℕ, ◌<◌, ◌≤◌, Bool, true, false, ◌||◌, ◌&&◌, List, [], ◌∷◌, ◌++◌, ◌⊎◌, inl, inr, length, Ok, refl, sym, ap, ◌∙◌, append_assoc, length-append, arith}
use Rattle.std.proofs.lemmas.List.{append-nil}
use Rattle.st_scan.specs.Views.{is_super, NameView, ElementView, ExpressionView}
use Rattle.st_scan.specs.Views as views
use Rattle.st_grammar.specs.declared.leaf.Leaf.{Leaf}
use Rattle.st_grammar.specs.declared.leaf.Kind.{Kind}
use Rattle.st_grammar.specs.declared.leaf.Kind.TheVariants.{Constant, Opening, Open, Close, OpenBlock, CloseBlock}
use Rattle.st_grammar.specs.Leaves.{among, operators}
use Rattle.st_grammar.specs.Phrases.{One, names, constants, one_text, ones_text, constant, array, Primary, name, literal, block, group, Block, Expression, Unary, unary, Binary, binary, Operations, no_operations, operation, primary_text, block_text, expression_text, unary_text, binary_text, operations_text}
use Rattle.st_grammar.specs.Trees.{bytes, name_at, constant_at, sent, primary_tree, block_tree, expression_tree, after_names, unary_tree, binary_tree, after_operations, PrimaryFits, BlockFits, ExpressionFits, UnaryFits, BinaryFits, OperationsFit}
use Rattle.st_grammar.specs.Reading.{◌>>=◌, first, token_at, primary_starts, name_primary_at, constant_primary_at, array_primary_at, array_at, block_primary_at, group_primary_at, primary_at, bracket_at, names_step, names_at, any_unary_at, unary_at, operations_step, operations_at, any_binary_at, binary_at}
use Rattle.st_grammar.proofs.KindSets.{apart, covered, neutral, sample, one_name, one_operator}
use Rattle.st_grammar.proofs.Balanced.{operations_balanced}
use Rattle.st_grammar.proofs.Readers.{Reads, nothing, first_nothing, is_nil, mapped, renamed, token_reads, both, either, anyway, tested, text_both, goes_both, text_either, tree_either, goes_either}
use Rattle.st_grammar.proofs.Repeats.{IsRepeat, IsMore, repeated}
use Rattle.st_grammar.proofs.Lists.{or_false, or_and_false, ones_reads}
use Rattle.st_grammar.proofs.Literals.{Array, array_text, array_tree, constant_reads, array_reads, hash_open}

pub primary_some : (p : Primary) → 0 < length (primary_text p)
primary_some (name o) = omega arith
primary_some (literal (constant o)) = omega arith
primary_some (literal (array o es c)) = omega arith
primary_some (block o b c) = omega arith
primary_some (group o e c) = omega arith

pub ones_text-append : {ks : List Kind} (os ps : List (One ks)) → ones_text (os ++ ps) ≡ ones_text os ++ ones_text ps
ones_text-append [] ps = refl
ones_text-append (o ∷ os) ps = ap (λ (l : List Leaf). o.leaf ∷ l) (ones_text-append os ps)

module _ (text : List ℕ) where
  -- a name more makes a message
  pub names_sent : (t : ExpressionView) (ns : List (One names)) (n : One names) → is_super (after_names text t (ns ++ n ∷ [])) ≡ false
  names_sent t [] n = refl
  names_sent t (x ∷ ns) n = names_sent (sent t (bytes text x.leaf) views.no_expressions) ns n

  -- an operation is a message
  pub operations_sent : (t : ExpressionView) (o : One operators) (u : Unary) (os : Operations) → is_super (after_operations text t (operation o u os)) ≡ false
  operations_sent t o u no_operations = refl
  operations_sent t o u (operation p v os) = operations_sent (sent t (bytes text o.leaf) (views.expression (unary_tree text u) views.no_expressions)) p v os

  -- PRIMARIES

  abbrev pub FitPrimary : Type 0
  FitPrimary = (p : Primary) × PrimaryFits text p

  abbrev pub FitBlock : Type 0
  FitBlock = (b : Block) × BlockFits text b

  abbrev pub FitExpression : Type 0
  FitExpression = (e : Expression) × ExpressionFits text e

  abbrev pub BlockBracket : Type 0
  BlockBracket = One (OpenBlock ∷ []) × FitBlock × One (CloseBlock ∷ [])

  abbrev pub GroupBracket : Type 0
  GroupBracket = One (Open ∷ []) × FitExpression × One (Close ∷ [])

  abbrev pub block_bracket_text : BlockBracket → List Leaf
  block_bracket_text b = b.0.leaf ∷ (block_text b.1.0 ++ b.2.leaf ∷ [])

  abbrev pub group_bracket_text : GroupBracket → List Leaf
  group_bracket_text b = b.0.leaf ∷ (expression_text b.1.0 ++ b.2.leaf ∷ [])

  -- what is read of the brackets in a primary
  pub record Inner (n m : ℕ) : Type 0 where
    pub fewer : n ≤ m
    pub blocks : Reads {P = BlockBracket} block_bracket_text (λ b. block_tree text b.1.0) (λ b. nothing) (among (OpenBlock ∷ [])) n m (block_primary_at text (array_at text n) (bracket_at text n)) (block_primary_at text (array_at text m) (bracket_at text m))
    pub groups : Reads {P = GroupBracket} group_bracket_text (λ b. expression_tree text b.1.0) (λ b. nothing) (among (Open ∷ [])) n m (group_primary_at text (array_at text n) (bracket_at text n)) (group_primary_at text (array_at text m) (bracket_at text m))

  abbrev PrimarySum : Type 0
  PrimarySum = One names ⊎ (One constants ⊎ (Array hash_open ⊎ (BlockBracket ⊎ GroupBracket)))

  abbrev sum_text : PrimarySum → List Leaf
  sum_text = text_either (one_text {kinds = names}) (text_either (one_text {kinds = constants}) (text_either (array_text {ks = hash_open}) (text_either block_bracket_text group_bracket_text)))

  abbrev sum_tree : PrimarySum → ExpressionView
  sum_tree = tree_either (λ o. views.variable (name_at text o.leaf)) (tree_either (λ o. views.literal (constant_at text o.leaf)) (tree_either (λ a. views.literal (array_tree text a)) (tree_either (λ b. block_tree text b.1.0) (λ b. expression_tree text b.1.0))))

  sum_goes : PrimarySum → Leaf → Bool
  sum_goes =
      goes_either (among names) (λ o. nothing) (text_either (one_text {kinds = constants}) (text_either (array_text {ks = hash_open}) (text_either block_bracket_text group_bracket_text)))
      (goes_either (among constants) (λ o. nothing) (text_either (array_text {ks = hash_open}) (text_either block_bracket_text group_bracket_text))
      (goes_either (among hash_open) (λ o. nothing) (text_either block_bracket_text group_bracket_text) (goes_either (among (OpenBlock ∷ [])) (λ o. nothing) group_bracket_text (λ b. nothing))))

  abbrev to : PrimarySum → FitPrimary
  to (inl o) = (name o, tt)
  to (inr (inl o)) = (literal (constant o), tt)
  to (inr (inr (inl a))) = (literal (array a.0 a.1 a.2), tt)
  to (inr (inr (inr (inl b)))) = (block b.0 b.1.0 b.2, b.1.1)
  to (inr (inr (inr (inr b)))) = (group b.0 b.1.0 b.2, b.1.1)

  abbrev from : FitPrimary → PrimarySum
  from (name o, f) = inl o
  from (literal (constant o), f) = inr (inl o)
  from (literal (array o es c), f) = inr (inr (inl (o, es, c)))
  from (block o b c, f) = inr (inr (inr (inl (o, (b, f), c))))
  from (group o e c, f) = inr (inr (inr (inr (o, (e, f), c))))

  no_goes : (s : PrimarySum) (x : Leaf) → false ≡ sum_goes s x
  unfolding sum_goes
  no_goes (inl o) x = refl
  no_goes (inr (inl o)) x = refl
  no_goes (inr (inr (inl a))) x = refl
  no_goes (inr (inr (inr (inl b)))) x = refl
  no_goes (inr (inr (inr (inr b)))) x = refl

  text_to : (s : PrimarySum) → primary_text (to s).0 ≡ sum_text s
  text_to (inl o) = refl
  text_to (inr (inl o)) = refl
  text_to (inr (inr (inl a))) = refl
  text_to (inr (inr (inr (inl b)))) = refl
  text_to (inr (inr (inr (inr b)))) = refl

  tree_to : (s : PrimarySum) → primary_tree text (to s).0 ≡ sum_tree s
  tree_to (inl o) = refl
  tree_to (inr (inl o)) = refl
  tree_to (inr (inr (inl a))) = refl
  tree_to (inr (inr (inr (inl b)))) = refl
  tree_to (inr (inr (inr (inr b)))) = refl

  text_from : (p : FitPrimary) → sum_text (from p) ≡ primary_text p.0
  text_from (name o, f) = refl
  text_from (literal (constant o), f) = refl
  text_from (literal (array o es c), f) = refl
  text_from (block o b c, f) = refl
  text_from (group o e c, f) = refl

  tree_from : (p : FitPrimary) → sum_tree (from p) ≡ primary_tree text p.0
  tree_from (name o, f) = refl
  tree_from (literal (constant o), f) = refl
  tree_from (literal (array o es c), f) = refl
  tree_from (block o b c, f) = refl
  tree_from (group o e c, f) = refl

  abbrev after_name : List Kind
  after_name = Opening ∷ Open ∷ OpenBlock ∷ constants

  abbrev after_constant : List Kind
  after_constant = Opening ∷ Open ∷ OpenBlock ∷ []

  abbrev after_array : List Kind
  after_array = Open ∷ OpenBlock ∷ []

  others1 : (q : One constants ⊎ (Array hash_open ⊎ (BlockBracket ⊎ GroupBracket))) (x : Leaf) (us : List Leaf) → text_either (one_text {kinds = constants}) (text_either (array_text {ks = hash_open}) (text_either block_bracket_text group_bracket_text)) q ≡ x ∷ us → among names x ≡ false
  others1 (inl o) x us e = let same : o.leaf ≡ x = cc in ap (among names) (sym same) ∙ apart constants names refl o.leaf o.fits
  others1 (inr (inl a)) x us e = let same : a.0.leaf ≡ x = cc in ap (among names) (sym same) ∙ apart hash_open names refl a.0.leaf a.0.fits
  others1 (inr (inr (inl b))) x us e = let same : b.0.leaf ≡ x = cc in ap (among names) (sym same) ∙ apart (OpenBlock ∷ []) names refl b.0.leaf b.0.fits
  others1 (inr (inr (inr b))) x us e = let same : b.0.leaf ≡ x = cc in ap (among names) (sym same) ∙ apart (Open ∷ []) names refl b.0.leaf b.0.fits

  others2 : (q : Array hash_open ⊎ (BlockBracket ⊎ GroupBracket)) (x : Leaf) (us : List Leaf) → text_either (array_text {ks = hash_open}) (text_either block_bracket_text group_bracket_text) q ≡ x ∷ us → among constants x ≡ false
  others2 (inl a) x us e = let same : a.0.leaf ≡ x = cc in ap (among constants) (sym same) ∙ apart hash_open constants refl a.0.leaf a.0.fits
  others2 (inr (inl b)) x us e = let same : b.0.leaf ≡ x = cc in ap (among constants) (sym same) ∙ apart (OpenBlock ∷ []) constants refl b.0.leaf b.0.fits
  others2 (inr (inr b)) x us e = let same : b.0.leaf ≡ x = cc in ap (among constants) (sym same) ∙ apart (Open ∷ []) constants refl b.0.leaf b.0.fits

  others3 : (q : BlockBracket ⊎ GroupBracket) (x : Leaf) (us : List Leaf) → text_either block_bracket_text group_bracket_text q ≡ x ∷ us → among hash_open x ≡ false
  others3 (inl b) x us e = let same : b.0.leaf ≡ x = cc in ap (among hash_open) (sym same) ∙ apart (OpenBlock ∷ []) hash_open refl b.0.leaf b.0.fits
  others3 (inr b) x us e = let same : b.0.leaf ≡ x = cc in ap (among hash_open) (sym same) ∙ apart (Open ∷ []) hash_open refl b.0.leaf b.0.fits

  others4 : (b : GroupBracket) (x : Leaf) (us : List Leaf) → group_bracket_text b ≡ x ∷ us → among (OpenBlock ∷ []) x ≡ false
  others4 b x us e = let same : b.0.leaf ≡ x = cc in ap (among (OpenBlock ∷ [])) (sym same) ∙ apart (Open ∷ []) (OpenBlock ∷ []) refl b.0.leaf b.0.fits

  -- UNARY EXPRESSIONS

  abbrev AnyUnary : Type 0
  AnyUnary = FitPrimary × List (One names)

  abbrev any_unary_text : AnyUnary → List Leaf
  any_unary_text = text_both (λ p. primary_text p.0) ones_text

  abbrev any_unary_tree : AnyUnary → ExpressionView
  any_unary_tree u = after_names text (primary_tree text u.0.0) u.1

  unary_longer : (u : AnyUnary) → is_super (any_unary_tree u) ≡ true → (v : AnyUnary) × (more : List Leaf) × (any_unary_text v ≡ any_unary_text u ++ more) × (is_super (any_unary_tree v) ≡ false)
  unary_longer (p, ns) e = (
    (p, ns ++ one_name ∷ []),
    one_name.leaf ∷ [],
    ap (λ (l : List Leaf). primary_text p.0 ++ l) (ones_text-append ns (one_name ∷ [])) ∙ sym (append_assoc (primary_text p.0) (ones_text ns) (one_name.leaf ∷ [])),
    names_sent (primary_tree text p.0) ns one_name,
  )

  any_unary_some : (u : AnyUnary) → 0 < length (any_unary_text u)
  any_unary_some (p, ns) = omega (arith, primary_some p.0, length-append (primary_text p.0) (ones_text ns))

  abbrev pub FitUnary : Type 0
  FitUnary = (u : Unary) × UnaryFits text u

  abbrev GoodUnary : Type 0
  GoodUnary = (u : AnyUnary) × (is_super (any_unary_tree u) ≡ false)

  abbrev to_unary : GoodUnary → FitUnary
  to_unary u = (unary u.0.0.0 u.0.1, (u.0.0.1, u.1))

  abbrev from_unary : FitUnary → GoodUnary
  from_unary (unary p ns, f) = (((p, f.0), ns), f.1)

  text_from_unary : (u : FitUnary) → any_unary_text (from_unary u).0 ≡ unary_text u.0
  text_from_unary (unary p ns, f) = refl

  tree_from_unary : (u : FitUnary) → any_unary_tree (from_unary u).0 ≡ unary_tree text u.0
  tree_from_unary (unary p ns, f) = refl

  -- BINARY EXPRESSIONS

  abbrev pub FitOperations : Type 0
  FitOperations = (os : Operations) × OperationsFit text os

  abbrev pub FitBinary : Type 0
  FitBinary = (b : Binary) × BinaryFits text b

  abbrev pub one_unary : FitUnary
  one_unary = (unary (name one_name) (one_name ∷ []), (tt, refl))

  -- what operations go on with
  abbrev pub operations_last : Operations → Leaf → Bool
  operations_last no_operations x = false
  operations_last (operation o u os) x = operations_last os x || (is_nil (operations_text os) && among names x)

  or_once : (b : Bool) → (false || b) ≡ b
  or_once b = refl

  -- behind a unary expression
  pub operations_goes : (os : Operations) (x : Leaf) → (operations_last os x || (is_nil (operations_text os) && among names x)) ≡ among names x
  operations_goes no_operations x = refl
  operations_goes (operation o u os) x = or_false (operations_last os x || (is_nil (operations_text os) && among names x)) ∙ operations_goes os x

  pub operations_no_name : (os : Operations) (l : List Leaf) → first (among names) l ≡ false → first (among names) (operations_text os ++ l) ≡ false
  operations_no_name no_operations l e = e
  operations_no_name (operation o u os) l e = apart operators names refl o.leaf o.fits

  operations_repeat : IsRepeat (λ (t : ExpressionView). among operators) (λ (o : One operators × FitUnary). o.0.leaf ∷ unary_text o.1.0) (λ o t. sent t (bytes text o.0.leaf) (views.expression (unary_tree text o.1.0) views.no_expressions)) (λ o. among names)
      (λ t os. OperationsFit text os) operations_text (λ os t. after_operations text t os) operations_last
  operations_repeat = record {
    some = λ p. omega arith;
    nil = no_operations;
    nil_valid = λ a. tt;
    nil_text = refl;
    nil_is = λ a. refl;
    nil_last = λ x. refl;
    cons = λ o os. operation o.0 o.1.0 os;
    cons_more = λ a o os x e v. ((o.1.1, v), refl, refl);
    cons_last = λ a o os x v. refl;
    uncons = uncons;
  }
    where
      uncons : (t : ExpressionView) (os : Operations) → OperationsFit text os → ((operations_text os ≡ []) × (after_operations text t os ≡ t))
          ⊎ IsMore (λ (t : ExpressionView). among operators) (λ (o : One operators × FitUnary). o.0.leaf ∷ unary_text o.1.0) (λ o t. sent t (bytes text o.0.leaf) (views.expression (unary_tree text o.1.0) views.no_expressions)) (λ o. among names)
          (λ t os. OperationsFit text os) operations_text (λ os t. after_operations text t os) operations_last t os
      uncons t no_operations v = inl (refl, refl)
      uncons t (operation o u os) v = inr (record {
        p = (o, (u, v.0));
        rest = os;
        valid = v.1;
        parts = refl;
        is = refl;
        last_is = λ x. refl;
        starts = λ k. o.fits;
        ends = λ x e. apart operators names refl x e;
      })

  abbrev AnyBinary : Type 0
  AnyBinary = FitPrimary × (List (One names) × FitOperations)

  abbrev any_binary_text : AnyBinary → List Leaf
  any_binary_text = text_both (λ p. primary_text p.0) (text_both ones_text (λ os. operations_text os.0))

  abbrev any_binary_tree : AnyBinary → ExpressionView
  any_binary_tree b = after_operations text (after_names text (primary_tree text b.0.0) b.1.0) b.1.1.0

  any_binary_goes : AnyBinary → Leaf → Bool
  any_binary_goes =
      goes_both (λ (p : FitPrimary). nothing) (text_both ones_text (λ (os : FitOperations). operations_text os.0))
      (goes_both (λ (l : List (One names)). among names) (λ (os : FitOperations). operations_text os.0) (λ os x. among operators x || operations_last os.0 x))

  -- a binary expression goes on with an operator or a name
  abbrev pub binary_goes : Leaf → Bool
  binary_goes x = among operators x || among names x

  pub or_assoc : (a b c : Bool) → ((a || b) || c) ≡ (a || (b || c))
  or_assoc true b c = refl
  or_assoc false b c = refl

  goes_binary : (b : AnyBinary) (x : Leaf) → any_binary_goes b x ≡ binary_goes x
  unfolding any_binary_goes
  goes_binary b x =
      or_and_false ((among operators x || operations_last b.1.1.0 x) || (is_nil (operations_text b.1.1.0) && among names x)) (is_nil (ones_text b.1.0 ++ operations_text b.1.1.0))
      ∙ or_assoc (among operators x) (operations_last b.1.1.0 x) (is_nil (operations_text b.1.1.0) && among names x)
      ∙ ap (λ (c : Bool). among operators x || c) (operations_goes b.1.1.0 x)

  any_binary_some : (b : AnyBinary) → 0 < length (any_binary_text b)
  any_binary_some b = omega (arith, primary_some b.0.0, length-append (primary_text b.0.0) (ones_text b.1.0 ++ operations_text b.1.1.0))

  binary_longer : (b : AnyBinary) → is_super (any_binary_tree b) ≡ true → (c : AnyBinary) × (more : List Leaf) × (any_binary_text c ≡ any_binary_text b ++ more) × (is_super (any_binary_tree c) ≡ false)
  binary_longer (p, (ns, (no_operations, f))) e = (
    (p, (ns ++ one_name ∷ [], (no_operations, f))),
    one_name.leaf ∷ [],
    ap (λ (l : List Leaf). primary_text p.0 ++ l) (append-nil (ones_text (ns ++ one_name ∷ [])) ∙ ones_text-append ns (one_name ∷ []))
        ∙ sym (append_assoc (primary_text p.0) (ones_text ns) (one_name.leaf ∷ []))
        ∙ ap (λ (l : List Leaf). (primary_text p.0 ++ l) ++ one_name.leaf ∷ []) (sym (append-nil (ones_text ns))),
    names_sent (primary_tree text p.0) ns one_name,
  )
  binary_longer (p, (ns, (operation o u os, f))) e =
      let no = operations_sent (after_names text (primary_tree text p.0) ns) o u os in
      absurd cc

  abbrev GoodBinary : Type 0
  GoodBinary = (b : AnyBinary) × (is_super (any_binary_tree b) ≡ false)

  abbrev to_binary : GoodBinary → FitBinary
  to_binary b = (binary (unary b.0.0.0 b.0.1.0) b.0.1.1.0, (b.0.0.1, b.0.1.1.1, b.1))

  abbrev from_binary : FitBinary → GoodBinary
  from_binary (binary (unary p ns) os, f) = (((p, f.0), (ns, (os, f.1))), f.2)

  text_from_binary : (b : FitBinary) → any_binary_text (from_binary b).0 ≡ binary_text b.0
  text_from_binary (binary (unary p ns) os, f) = sym (append_assoc (primary_text p) (ones_text ns) (operations_text os))

  tree_from_binary : (b : FitBinary) → any_binary_tree (from_binary b).0 ≡ binary_tree text b.0
  tree_from_binary (binary (unary p ns) os, f) = refl

  module _ (n m : ℕ) (I : Inner n m) where
    name_reads : Reads (one_text {kinds = names}) (λ o. views.variable (name_at text o.leaf)) (λ o. nothing) (among names) n m (name_primary_at text (array_at text n) (bracket_at text n)) (name_primary_at text (array_at text m) (bracket_at text m))
    unfolding name_primary_at
    name_reads = mapped (λ o. views.variable (name_at text o)) (token_reads names one_name (neutral names refl) n m I.fewer)

    literal_reads : Reads (one_text {kinds = constants}) (λ o. views.literal (constant_at text o.leaf)) (λ o. nothing) (among constants) n m (constant_primary_at text (array_at text n) (bracket_at text n)) (constant_primary_at text (array_at text m) (bracket_at text m))
    unfolding constant_primary_at
    literal_reads = mapped views.literal (constant_reads text constants (record { leaf = sample Constant; fits = refl }) n m I.fewer refl)

    array_primary_reads : Reads {P = Array hash_open} (array_text {ks = hash_open}) (λ a. views.literal (array_tree text a)) (λ o. nothing) (among hash_open) n m (array_primary_at text (array_at text n) (bracket_at text n)) (array_primary_at text (array_at text m) (bracket_at text m))
    unfolding array_primary_at
    array_primary_reads = mapped views.literal (array_reads text m n I.fewer)

    pub primary_reads : Reads {P = FitPrimary} (λ p. primary_text p.0) (λ p. primary_tree text p.0) (λ p. nothing) (among primary_starts) n m (primary_at text (array_at text n) (bracket_at text n)) (primary_at text (array_at text m) (bracket_at text m))
    unfolding primary_at sum_goes
    primary_reads =
        renamed (either (among names) (anyway (among names) name_reads)
        (either (among constants) (anyway (among constants) literal_reads)
        (either (among hash_open) (anyway (among hash_open) array_primary_reads)
        (either (among (OpenBlock ∷ [])) (anyway (among (OpenBlock ∷ [])) I.blocks) I.groups (among after_array) (λ x e. e) (λ p l. p.0.fits) others4 (λ x e f. covered after_array (OpenBlock ∷ []) (Open ∷ []) refl x e f))
        (among after_constant) (λ x e. e) (λ p l. p.0.fits) others3 (λ x e f. covered after_constant hash_open after_array refl x e f))
        (among after_name) (λ x e. e) (λ p l. p.fits) others2 (λ x e f. covered after_name constants after_constant refl x e f))
        (among primary_starts) (λ x e. e) (λ p l. p.fits) others1 (λ x e f. covered primary_starts names after_name refl x e f))
        (λ p. primary_text p.0) (λ p. primary_tree text p.0) (λ p. nothing) to text_to tree_to no_goes from text_from tree_from (λ p x. sym (no_goes (from p) x))

    pub names_reads : (t : ExpressionView) → Reads (ones_text {kinds = names}) (λ l. after_names text t l) (λ l. among names) (among names) n m (names_at text t) (names_at text t)
    unfolding names_at names_step
    names_reads t =
        ones_reads names (λ o e. sent e (bytes text o.leaf) views.no_expressions) (λ l e. after_names text e l) (λ e. refl) (λ o l e. refl) refl n m I.fewer
        (λ e ts. token_at names ts >>= λ k. Ok (sent e (bytes text k.0) views.no_expressions, k.1))
        (λ e. mapped (λ k. sent e (bytes text k) views.no_expressions) (token_reads names one_name (neutral names refl) n m I.fewer)) t

    any_unary_reads : Reads {P = AnyUnary} (text_both (λ p. primary_text p.0) ones_text) (λ u. after_names text (primary_tree text u.0.0) u.1) (goes_both (λ p. nothing) ones_text (λ l. among names)) (among primary_starts) n m
        (any_unary_at text (array_at text n) (bracket_at text n)) (any_unary_at text (array_at text m) (bracket_at text m))
    unfolding any_unary_at
    any_unary_reads =
        both primary_reads ones_text (λ l t. after_names text t l) (λ l. among names) (among names) (names_at text) (names_at text) names_reads
        [] (among primary_starts) (λ p q l e. first_nothing (ones_text q ++ l)) (λ x ts e. inl e) (λ p x e. inl (primary_some p.0))

    pub unary_reads : Reads {P = FitUnary} (λ u. unary_text u.0) (λ u. unary_tree text u.0) (λ u. among names) (among primary_starts) n m (unary_at text (array_at text n) (bracket_at text n)) (unary_at text (array_at text m) (bracket_at text m))
    unfolding unary_at
    unary_reads =
        renamed (tested any_unary_reads is_super any_unary_some unary_longer) (λ u. unary_text u.0) (λ u. unary_tree text u.0) (λ u. among names)
        to_unary (λ u. refl) (λ u. refl) (λ u x. sym (or_and_false (among names x) (is_nil (ones_text u.0.1)))) from_unary text_from_unary tree_from_unary (λ u x. or_and_false (among names x) (is_nil (ones_text (from_unary u).0.1)))

    -- BINARY EXPRESSIONS

    pub operation_reads : (t : ExpressionView) → Reads {P = One operators × FitUnary} (λ o. o.0.leaf ∷ unary_text o.1.0) (λ o. sent t (bytes text o.0.leaf) (views.expression (unary_tree text o.1.0) views.no_expressions)) (λ o. among names) (among operators) n m
        (operations_step text (array_at text n) (bracket_at text n) t) (operations_step text (array_at text m) (bracket_at text m) t)
    unfolding operations_step
    operation_reads t =
        renamed (both (token_reads operators one_operator (neutral operators refl) n m I.fewer) (λ (u : FitUnary). unary_text u.0) (λ u o. sent t (bytes text o) (views.expression (unary_tree text u.0) views.no_expressions)) (λ u. among names) (among primary_starts)
        (λ o ts. unary_at text (array_at text n) (bracket_at text n) ts >>= λ u. Ok (sent t (bytes text o) (views.expression u.0 views.no_expressions), u.1))
        (λ o ts. unary_at text (array_at text m) (bracket_at text m) ts >>= λ u. Ok (sent t (bytes text o) (views.expression u.0 views.no_expressions), u.1))
        (λ o. mapped (λ u. sent t (bytes text o) (views.expression u views.no_expressions)) unary_reads)
        one_unary (among operators) (λ p q l e. first_nothing (unary_text q.0 ++ l)) (λ x ts e. inl e) (λ p x e. inl (omega arith)))
        (λ o. o.0.leaf ∷ unary_text o.1.0) (λ o. sent t (bytes text o.0.leaf) (views.expression (unary_tree text o.1.0) views.no_expressions)) (λ o. among names)
        (λ o. o) (λ o. refl) (λ o. refl) (λ o x. sym (or_and_false (among names x) (is_nil (unary_text o.1.0)))) (λ o. o) (λ o. refl) (λ o. refl) (λ o x. or_and_false (among names x) (is_nil (unary_text o.1.0)))

    abbrev pub OperationsReads : ExpressionView → Type 0
    OperationsReads t = Reads {P = FitOperations} (λ os. operations_text os.0) (λ os. after_operations text t os.0) (λ os x. among operators x || operations_last os.0 x) (among operators) n m
        (operations_at text (array_at text n) (bracket_at text n) t) (operations_at text (array_at text m) (bracket_at text m) t)

    pub operations_reads : (t : ExpressionView) → OperationsReads t
    unfolding operations_at
    operations_reads t =
        repeated operations_repeat n m I.fewer (operations_step text (array_at text n) (bracket_at text n)) (operations_step text (array_at text m) (bracket_at text m)) operation_reads operations_balanced t

    tail_reads : (t : ExpressionView) → Reads {P = List (One names) × FitOperations} (text_both ones_text (λ os. operations_text os.0)) (λ q. after_operations text (after_names text t q.0) q.1.0)
        (goes_both (λ l. among names) (λ (os : FitOperations). operations_text os.0) (λ os x. among operators x || operations_last os.0 x)) nothing n m
        (λ ts. names_at text t ts >>= λ u. operations_at text (array_at text n) (bracket_at text n) u.0 u.1)
        (λ ts. names_at text t ts >>= λ u. operations_at text (array_at text m) (bracket_at text m) u.0 u.1)
    tail_reads t =
        both (names_reads t) (λ (os : FitOperations). operations_text os.0) (λ os u. after_operations text u os.0) (λ os x. among operators x || operations_last os.0 x) (among operators)
        (operations_at text (array_at text n) (bracket_at text n)) (operations_at text (array_at text m) (bracket_at text m)) operations_reads
        (no_operations, tt) nothing (λ p q l e. operations_no_name q.0 l e) (λ x ts e. absurd cc) (λ p x e. absurd cc)

    any_binary_reads : Reads {P = AnyBinary} any_binary_text any_binary_tree any_binary_goes (among primary_starts) n m (any_binary_at text (array_at text n) (bracket_at text n)) (any_binary_at text (array_at text m) (bracket_at text m))
    unfolding any_binary_at any_binary_goes
    any_binary_reads =
        both primary_reads (text_both ones_text (λ (os : FitOperations). operations_text os.0)) (λ q t. after_operations text (after_names text t q.0) q.1.0)
        (goes_both (λ (l : List (One names)). among names) (λ (os : FitOperations). operations_text os.0) (λ os x. among operators x || operations_last os.0 x)) nothing
        (λ t ts. names_at text t ts >>= λ u. operations_at text (array_at text n) (bracket_at text n) u.0 u.1)
        (λ t ts. names_at text t ts >>= λ u. operations_at text (array_at text m) (bracket_at text m) u.0 u.1)
        tail_reads ([], (no_operations, tt)) (among primary_starts) (λ p q l e. first_nothing (text_both ones_text (λ (os : FitOperations). operations_text os.0) q ++ l)) (λ x ts e. inl e) (λ p x e. inl (primary_some p.0))

    pub binary_reads : Reads {P = FitBinary} (λ b. binary_text b.0) (λ b. binary_tree text b.0) (λ b. binary_goes) (among primary_starts) n m (binary_at text (array_at text n) (bracket_at text n)) (binary_at text (array_at text m) (bracket_at text m))
    unfolding binary_at
    binary_reads =
        renamed (tested any_binary_reads is_super any_binary_some binary_longer) (λ b. binary_text b.0) (λ b. binary_tree text b.0) (λ b. binary_goes)
        to_binary (λ b. append_assoc (primary_text b.0.0.0) (ones_text b.0.1.0) (operations_text b.0.1.1.0)) (λ b. refl) (λ b x. sym (goes_binary b.0 x)) from_binary text_from_binary tree_from_binary (λ b x. goes_binary (from_binary b).0 x)
