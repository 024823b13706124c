-- What is read of statements.
use Rattle.std.proofs.Common.{◌≡◌, ℕ, ◌<◌, ◌≤◌, Bool, true, false, cond, ◌||◌, ◌&&◌, List, [], ◌∷◌, ◌++◌, ◌⊎◌, inl, inr, length, Ok, refl, sym, ap, ◌∙◌, append_assoc, length-append, arith}
use Rattle.std.proofs.lemmas.List.{append-nil}
use Rattle.std.proofs.lemmas.Bool.{and_parts}
use Rattle.st_scan.specs.Views.{NameView, ExpressionView, StatementsView, with_statement}
use Rattle.st_scan.specs.Views as views
use Rattle.st_grammar.specs.declared.leaf.Leaf.{Leaf}
use Rattle.st_grammar.specs.declared.leaf.Kind.{Kind}
use Rattle.st_grammar.specs.declared.leaf.Kind.TheVariants.{Opening, Return, Period, Open, OpenBlock}
use Rattle.st_grammar.specs.Leaves.{among}
use Rattle.st_grammar.specs.Phrases.{One, names, constants, one_text, constant, array, name, literal, block, group, unary, binary, no_operations, keyworded, no_parts, cascade, no_messages, Expression, expression, Statements, no_statements, last, next, returned, returned_ended, expression_text, statements_text}
use Rattle.st_grammar.specs.Trees.{expression_tree, statements_tree, StatementsFit}
use Rattle.st_grammar.specs.Reading.{Read, ◌>>=◌, first, token_at, primary_starts, statement_starts, BodyView, period_at, array_at, bracket_at, expression_at, returned_at, plain_at, statement_step, statement_looks, body_at, statements_at}
use Rattle.st_grammar.proofs.KindSets.{apart, within, neutral, covered, sample, one_name}
use Rattle.st_grammar.proofs.Balanced.{statements_balanced}
use Rattle.st_grammar.proofs.Readers.{Reads, nothing, first_nothing, is_nil, mapped, renamed, token_reads, both, either, anyway, pure, weaker, agreeing, text_both, goes_both, text_either, tree_either, goes_either}
use Rattle.st_grammar.proofs.Repeats.{IsRepeat, IsMore, repeated}
use Rattle.st_grammar.proofs.Lists.{or_false, or_and_false}
use Rattle.st_grammar.proofs.Expressions.{Inner, FitExpression}
use Rattle.st_grammar.proofs.Assignments.{expression_goes, expression_reads, expression_not, foreign}

abbrev period : List Kind
period = Period ∷ []

abbrev returning : List Kind
returning = Return ∷ []

-- A PERIOD, OR NONE

abbrev MaybePeriod : Type 0
MaybePeriod = One period ⊎ Unit {0}

abbrev period_text : MaybePeriod → List Leaf
period_text = text_either (one_text {kinds = period}) (λ u. [])

abbrev period_goes : MaybePeriod → Leaf → Bool
period_goes = goes_either (among period) (λ o. nothing) (λ u. []) (λ u. nothing)

abbrev period_tree : {B : Type 0} → (Bool → B) → MaybePeriod → B
period_tree f = tree_either (λ o. f true) (λ u. f false)

module _ {B : Type 0} (f : Bool → B) (n m : ℕ) (le : n ≤ m) where
  abbrev period_reader : List Leaf → Read B
  period_reader ts = Ok (f (period_at ts).0, (period_at ts).1)

  abbrev period_choice : List Leaf → Read B
  period_choice ts = cond (first (among period) ts) (token_at period ts >>= λ o. Ok (f true, o.1)) (Ok (f false, ts))

  same_reader : (ts : List Leaf) → period_reader ts ≡ period_choice ts
  same_reader [] = refl
  same_reader (x ∷ ts) = chosen (among period x) refl
    where
      chosen : (b : Bool) → among period x ≡ b → period_reader (x ∷ ts) ≡ period_choice (x ∷ ts)
      chosen true e = rw e refl
      chosen false e = rw e refl

  period_reads : Reads period_text (period_tree f) period_goes nothing n m period_reader period_reader
  period_reads =
      agreeing period_reader period_reader same_reader same_reader
      (either (among period) (anyway (among period) (mapped (λ o. f true) (token_reads period (record { leaf = sample Period; fits = refl }) (neutral period refl) n m le))) (pure (f false) nothing n m le) nothing
      (λ x e. e) (λ p l. p.fits) (λ q x us e. absurd cc) (λ x e g. absurd cc))

-- STATEMENTS ONE BEHIND ANOTHER

abbrev joined_statements : StatementsView → StatementsView → StatementsView
joined_statements views.no_statements ys = ys
joined_statements (views.statement r e xs) ys = views.statement r e (joined_statements xs ys)

joined_none : (xs : StatementsView) → joined_statements xs views.no_statements ≡ xs
joined_none views.no_statements = refl
joined_none (views.statement r e xs) = ap (views.statement r e) (joined_none xs)

joined_one : (xs ys : StatementsView) (r : Bool) (e : ExpressionView) → joined_statements (with_statement xs r e) ys ≡ joined_statements xs (views.statement r e ys)
joined_one views.no_statements ys r e = refl
joined_one (views.statement q x xs) ys r e = ap (views.statement q x) (joined_one xs ys r e)

abbrev body : StatementsView → Bool → BodyView
body ss g = record { statements = ss; goes_on = g }

-- whether another statement may follow
abbrev pub stays : Statements → Bool → Bool
stays no_statements g = g
stays (last e) g = false
stays (next e p ss) g = stays ss true
stays (returned r e) g = false
stays (returned_ended r e p) g = false

module _ (text : List ℕ) where
  abbrev Plain : Type 0
  Plain = FitExpression text × MaybePeriod

  abbrev Returned : Type 0
  Returned = One returning × Plain

  abbrev plain_text : Plain → List Leaf
  plain_text = text_both (λ e. expression_text e.0) period_text

  abbrev returned_text : Returned → List Leaf
  returned_text = text_both one_text plain_text

  abbrev plain_goes : Plain → Leaf → Bool
  plain_goes = goes_both (λ (e : FitExpression text). expression_goes text e.0) period_text period_goes

  abbrev ends_with_period : MaybePeriod → Bool
  ends_with_period (inl o) = true
  ends_with_period (inr u) = false

  abbrev after_plain : Plain → BodyView → BodyView
  after_plain s b = body (with_statement b.statements false (expression_tree text s.0.0)) (ends_with_period s.1)

  abbrev after_returned : Returned → BodyView → BodyView
  after_returned s b = body (with_statement b.statements true (expression_tree text s.1.0.0)) false

  abbrev Step : Type 0
  Step = Returned ⊎ Plain

  abbrev step_text : Step → List Leaf
  step_text (inl s) = s.0.leaf ∷ plain_text s.1
  step_text (inr s) = plain_text s

  abbrev after_step : Step → BodyView → BodyView
  after_step (inl s) b = after_returned s b
  after_step (inr s) b = after_plain s b

  -- what a statement with or without a period goes on with
  abbrev ending_goes : FitExpression text → MaybePeriod → Leaf → Bool
  ending_goes e (inl o) x = false
  ending_goes e (inr u) x = among period x || expression_goes text e.0 x

  abbrev step_goes : Step → Leaf → Bool
  step_goes (inl s) x = ending_goes s.1.0 s.1.1 x
  step_goes (inr s) x = ending_goes s.0 s.1 x

  plain_goes_is : (s : Plain) (x : Leaf) → plain_goes s x ≡ ending_goes s.0 s.1 x
  plain_goes_is (e, inl o) x = refl
  plain_goes_is (e, inr u) x = refl

  plain_tree_is : (s : Plain) (ss : StatementsView) → period_tree (λ g. body ss g) s.1 ≡ body ss (ends_with_period s.1)
  plain_tree_is (e, inl o) ss = refl
  plain_tree_is (e, inr u) ss = refl

  returned_tree_is : (q : MaybePeriod) (ss : StatementsView) → period_tree (λ g. body ss false) q ≡ body ss false
  returned_tree_is (inl o) ss = refl
  returned_tree_is (inr u) ss = refl

  abbrev start_kinds : Leaf → Bool
  start_kinds x = among statement_starts x

  pub expression_begins : (e : Expression) (k : List Leaf) → first (among primary_starts) (expression_text e ++ k) ≡ true
  expression_begins (expression (t ∷ ts) c) k = within names primary_starts refl t.name.leaf t.name.fits
  expression_begins (expression [] (cascade (keyworded (binary (unary (name o) ns) os) ks) ms)) k = within names primary_starts refl o.leaf o.fits
  expression_begins (expression [] (cascade (keyworded (binary (unary (literal (constant o)) ns) os) ks) ms)) k = within constants primary_starts refl o.leaf o.fits
  expression_begins (expression [] (cascade (keyworded (binary (unary (literal (array o es c)) ns) os) ks) ms)) k = within (Opening ∷ []) primary_starts refl o.leaf o.fits
  expression_begins (expression [] (cascade (keyworded (binary (unary (block o b c) ns) os) ks) ms)) k = within (OpenBlock ∷ []) primary_starts refl o.leaf o.fits
  expression_begins (expression [] (cascade (keyworded (binary (unary (group o e c) ns) os) ks) ms)) k = within (Open ∷ []) primary_starts refl o.leaf o.fits

  pub into_statements : (l : List Leaf) → first (among primary_starts) l ≡ true → first start_kinds l ≡ true
  into_statements [] e = absurd cc
  into_statements (x ∷ l) e = within primary_starts statement_starts refl x e

  expression_some : (e : Expression) → 0 < length (expression_text e)
  expression_some e = some (expression_text e) (ap (first (among primary_starts)) (sym (append-nil (expression_text e))) ∙ expression_begins e [])
    where
      some : (l : List Leaf) → first (among primary_starts) l ≡ true → 0 < length l
      some [] e = absurd cc
      some (x ∷ l) e = omega arith

  pub step_some : (s : Step) → 0 < length (step_text s)
  step_some (inl s) = omega arith
  step_some (inr s) = omega (arith, expression_some s.0.0, length-append (expression_text s.0.0) (period_text s.1))

  pub one_expression : FitExpression text
  one_expression = (expression [] (cascade (keyworded (binary (unary (name one_name) []) no_operations) no_parts) no_messages), (tt, tt, tt, tt, refl, tt))

  plain_not_returned : (q : Plain) (x : Leaf) (us : List Leaf) → plain_text q ≡ x ∷ us → among returning x ≡ false
  plain_not_returned q x us e = apart primary_starts returning refl x (begins (expression_text q.0.0) (expression_begins q.0.0 (period_text q.1)) e)
    where
      begins : (l : List Leaf) → first (among primary_starts) (l ++ period_text q.1) ≡ true → l ++ period_text q.1 ≡ x ∷ us → among primary_starts x ≡ true
      begins l b e = sym (ap (first (among primary_starts)) e) ∙ b

  period_not : (e : Expression) (o : One period) → expression_goes text e o.leaf ≡ false
  period_not e o = expression_not text e o.leaf (foreign period refl refl refl refl refl refl o.leaf o.fits)

  behind_period : (e : FitExpression text) (q : MaybePeriod) (l : List Leaf) → first (expression_goes text e.0) l ≡ false → first (expression_goes text e.0) (period_text q ++ l) ≡ false
  behind_period e (inr u) l f = f
  behind_period e (inl o) l f = period_not e.0 o

  returned_goes_is : (s : Returned) (x : Leaf) → goes_both (λ (o : One returning). nothing) plain_text plain_goes s x ≡ ending_goes s.1.0 s.1.1 x
  returned_goes_is s x = or_and_false (plain_goes s.1 x) (is_nil (plain_text s.1)) ∙ plain_goes_is s.1 x

  -- STATEMENTS

  abbrev statement_text : Step → List Leaf
  statement_text = text_either returned_text plain_text

  statement_goes : Step → Leaf → Bool
  statement_goes = goes_either (among returning) (λ (s : Returned). ending_goes s.1.0 s.1.1) plain_text (λ (s : Plain). ending_goes s.0 s.1)

  text_is : (s : Step) → step_text s ≡ statement_text s
  text_is (inl s) = refl
  text_is (inr s) = refl

  tree_is : (b : BodyView) (s : Step) → after_step s b ≡ tree_either (λ s. after_returned s b) (λ s. after_plain s b) s
  tree_is b (inl s) = refl
  tree_is b (inr s) = refl

  goes_is : (s : Step) (x : Leaf) → step_goes s x ≡ statement_goes s x
  unfolding statement_goes
  goes_is (inl s) x = refl
  goes_is (inr s) x = sym (ap (λ (b : Bool). ending_goes s.0 s.1 x || (b && among returning x)) (not_nil (plain_text s) (step_some (inr s))) ∙ or_false (ending_goes s.0 s.1 x))
    where
      not_nil : (l : List Leaf) → 0 < length l → is_nil l ≡ false
      not_nil [] e = absurd (omega arith)
      not_nil (x ∷ l) e = refl

  abbrev after_statements : Statements → BodyView → BodyView
  after_statements ss b = body (joined_statements b.statements (statements_tree text ss)) (stays ss b.goes_on)

  abbrev pub statements_last : Statements → Leaf → Bool
  statements_last no_statements x = false
  statements_last (last e) x = among period x || expression_goes text e x
  statements_last (next e p ss) x = statements_last ss x
  statements_last (returned r e) x = among period x || expression_goes text e x
  statements_last (returned_ended r e p) x = false

  abbrev Valid : BodyView → Statements → Type 0
  Valid b ss = StatementsFit text ss × (b.goes_on ≡ false → ss ≡ no_statements)

  abbrev with_step : Step → Statements → Statements
  with_step (inr (e, inr u)) ss = last e.0
  with_step (inr (e, inl p)) ss = next e.0 p ss
  with_step (inl (r, (e, inr u))) ss = returned r e.0
  with_step (inl (r, (e, inl p))) ss = returned_ended r e.0 p

  more_statements : (b : BodyView) (r : Bool) (e : ExpressionView) (ss : Statements) (g : Bool) → body (joined_statements b.statements (views.statement r e (statements_tree text ss))) g ≡ body (joined_statements (with_statement b.statements r e) (statements_tree text ss)) g
  more_statements b r e ss g = ap (λ (xs : StatementsView). body xs g) (sym (joined_one b.statements (statements_tree text ss) r e))

  last_statement : (b : BodyView) (r : Bool) (e : ExpressionView) (ss : Statements) → ss ≡ no_statements → body (joined_statements b.statements (views.statement r e views.no_statements)) false ≡ after_statements ss (body (with_statement b.statements r e) false)
  last_statement b r e ss is =
      more_statements b r e no_statements false ∙ ap (λ (xs : Statements). after_statements xs (body (with_statement b.statements r e) false)) (sym is)

  opens : (b : BodyView) (x : Leaf) → statement_looks b x ≡ true → b.goes_on ≡ false → ⊥
  opens b x e f = let no = (and_parts b.goes_on (among statement_starts x) e).0 in absurd cc

  at_end : (l : List Leaf) (ss : Statements) → ss ≡ no_statements → l ≡ l ++ statements_text ss
  at_end l ss is = sym (append-nil l) ∙ ap (λ (xs : Statements). l ++ statements_text xs) (sym is)

  cons_more : (b : BodyView) (s : Step) (ss : Statements) (x : Leaf) → statement_looks b x ≡ true → Valid (after_step s b) ss
      → Valid b (with_step s ss) × (statements_text (with_step s ss) ≡ step_text s ++ statements_text ss) × (after_statements (with_step s ss) b ≡ after_statements ss (after_step s b))
  cons_more b (inr (e, inr u)) ss x l v = (
    (e.1, λ f. absurd (opens b x l f)),
    at_end (expression_text e.0) ss (v.1 refl) ∙ ap (λ (k : List Leaf). k ++ statements_text ss) (sym (append-nil (expression_text e.0))),
    last_statement b false (expression_tree text e.0) ss (v.1 refl),
  )
  cons_more b (inr (e, inl p)) ss x l v = (
    ((e.1, v.0), λ f. absurd (opens b x l f)),
    sym (append_assoc (expression_text e.0) (p.leaf ∷ []) (statements_text ss)),
    more_statements b false (expression_tree text e.0) ss (stays ss true),
  )
  cons_more b (inl (r, (e, inr u))) ss x l v = (
    (e.1, λ f. absurd (opens b x l f)),
    ap (λ (k : List Leaf). r.leaf ∷ k) (at_end (expression_text e.0) ss (v.1 refl) ∙ ap (λ (k : List Leaf). k ++ statements_text ss) (sym (append-nil (expression_text e.0)))),
    last_statement b true (expression_tree text e.0) ss (v.1 refl),
  )
  cons_more b (inl (r, (e, inl p))) ss x l v = (
    (e.1, λ f. absurd (opens b x l f)),
    ap (λ (k : List Leaf). r.leaf ∷ k) (at_end (expression_text e.0 ++ p.leaf ∷ []) ss (v.1 refl)),
    last_statement b true (expression_tree text e.0) ss (v.1 refl),
  )

  cons_last : (b : BodyView) (s : Step) (ss : Statements) (x : Leaf) → Valid (after_step s b) ss → statements_last (with_step s ss) x ≡ (statements_last ss x || (is_nil (statements_text ss) && step_goes s x))
  cons_last b (inr (e, inr u)) ss x v = ap (λ (xs : Statements). statements_last xs x || (is_nil (statements_text xs) && (among period x || expression_goes text e.0 x))) (sym (v.1 refl))
  cons_last b (inr (e, inl p)) ss x v = sym (or_and_false (statements_last ss x) (is_nil (statements_text ss)))
  cons_last b (inl (r, (e, inr u))) ss x v = ap (λ (xs : Statements). statements_last xs x || (is_nil (statements_text xs) && (among period x || expression_goes text e.0 x))) (sym (v.1 refl))
  cons_last b (inl (r, (e, inl p))) ss x v = ap (λ (xs : Statements). statements_last xs x || (is_nil (statements_text xs) && false)) (sym (v.1 refl))

  looking : (b : BodyView) (ss : Statements) (l : List Leaf) → (b.goes_on ≡ false → ss ≡ no_statements) → (ss ≡ no_statements → ⊥) → first start_kinds l ≡ true → first (statement_looks b) l ≡ true
  looking b ss [] v some e = absurd cc
  looking b ss (x ∷ l) v some e = go b.goes_on refl
    where
      go : (g : Bool) → b.goes_on ≡ g → (g && among statement_starts x) ≡ true
      go true is = e
      go false is = absurd (some (v is))

  abbrev More : BodyView → Statements → Type 0
  More b ss = IsMore (statement_looks) step_text after_step step_goes Valid statements_text after_statements statements_last b ss

  uncons : (b : BodyView) (ss : Statements) → Valid b ss → ((statements_text ss ≡ []) × (after_statements ss b ≡ b)) ⊎ More b ss
  uncons b no_statements v = inl (refl, ap (λ (xs : StatementsView). body xs b.goes_on) (joined_none b.statements))
  uncons b (last e) v = inr (record {
    p = inr ((e, v.0), inr tt);
    rest = no_statements;
    valid = (tt, λ f. refl);
    parts = sym (append-nil (expression_text e ++ []) ∙ append-nil (expression_text e));
    is = last_statement b false (expression_tree text e) no_statements refl;
    last_is = λ x. refl;
    starts = λ k. looking b (last e) ((expression_text e ++ []) ++ k) v.1 (λ no. absurd cc) (into_statements ((expression_text e ++ []) ++ k) (ap (λ (l : List Leaf). first (among primary_starts) (l ++ k)) (append-nil (expression_text e)) ∙ expression_begins e k));
    ends = λ x f. absurd cc;
  })
  uncons b (next e p ss) v = inr (record {
    p = inr ((e, v.0.0), inl p);
    rest = ss;
    valid = (v.0.1, λ f. absurd cc);
    parts = sym (append_assoc (expression_text e) (p.leaf ∷ []) (statements_text ss));
    is = more_statements b false (expression_tree text e) ss (stays ss true);
    last_is = λ x. sym (or_and_false (statements_last ss x) (is_nil (statements_text ss)));
    starts = λ k. looking b (next e p ss) ((expression_text e ++ p.leaf ∷ []) ++ k) v.1 (λ no. absurd cc) (into_statements ((expression_text e ++ p.leaf ∷ []) ++ k) (ap (first (among primary_starts)) (append_assoc (expression_text e) (p.leaf ∷ []) k) ∙ expression_begins e (p.leaf ∷ k)));
    ends = λ x f. refl;
  })
  uncons b (returned r e) v = inr (record {
    p = inl (r, ((e, v.0), inr tt));
    rest = no_statements;
    valid = (tt, λ f. refl);
    parts = ap (λ (k : List Leaf). r.leaf ∷ k) (sym (append-nil (expression_text e ++ []) ∙ append-nil (expression_text e)));
    is = last_statement b true (expression_tree text e) no_statements refl;
    last_is = λ x. refl;
    starts = λ k. looking b (returned r e) (r.leaf ∷ ((expression_text e ++ []) ++ k)) v.1 (λ no. absurd cc) (within returning statement_starts refl r.leaf r.fits);
    ends = λ x f. absurd cc;
  })
  uncons b (returned_ended r e p) v = inr (record {
    p = inl (r, ((e, v.0), inl p));
    rest = no_statements;
    valid = (tt, λ f. refl);
    parts = ap (λ (k : List Leaf). r.leaf ∷ k) (sym (append-nil (expression_text e ++ p.leaf ∷ [])));
    is = last_statement b true (expression_tree text e) no_statements refl;
    last_is = λ x. refl;
    starts = λ k. looking b (returned_ended r e p) (r.leaf ∷ ((expression_text e ++ p.leaf ∷ []) ++ k)) v.1 (λ no. absurd cc) (within returning statement_starts refl r.leaf r.fits);
    ends = λ x f. absurd cc;
  })

  statements_repeat : IsRepeat (statement_looks) step_text after_step step_goes Valid statements_text after_statements statements_last
  statements_repeat = record {
    some = step_some;
    nil = no_statements;
    nil_valid = λ b. (tt, λ f. refl);
    nil_text = refl;
    nil_is = λ b. ap (λ (xs : StatementsView). body xs b.goes_on) (joined_none b.statements);
    nil_last = λ x. refl;
    cons = with_step;
    cons_more = cons_more;
    cons_last = cons_last;
    uncons = uncons;
  }

  abbrev pub FitStatements : Type 0
  FitStatements = (ss : Statements) × StatementsFit text ss

  -- what statements go on with
  abbrev pub statements_goes : Statements → Leaf → Bool
  statements_goes ss x = (stays ss true && among statement_starts x) || statements_last ss x

  module _ (n m : ℕ) (I : Inner text n m) where
    plain_reads : (b : BodyView) → Reads {P = Plain} plain_text (λ s. after_plain s b) (λ s. ending_goes s.0 s.1) (among primary_starts) n m (plain_at text (array_at text n) (bracket_at text n) b) (plain_at text (array_at text m) (bracket_at text m) b)
    unfolding plain_at
    plain_reads b =
        renamed (both (expression_reads text n m I) period_text (λ q e. period_tree (λ g. body (with_statement b.statements false e) g) q) period_goes nothing
        (λ e ts. Ok (body (with_statement b.statements false e) (period_at ts).0, (period_at ts).1)) (λ e ts. Ok (body (with_statement b.statements false e) (period_at ts).0, (period_at ts).1))
        (λ e. period_reads (λ g. body (with_statement b.statements false e) g) n m I.fewer) (inr tt) (among primary_starts) behind_period (λ x ts e. inl e) (λ p x e. inl (expression_some p.0)))
        plain_text (λ s. after_plain s b) (λ s. ending_goes s.0 s.1)
        (λ s. s) (λ s. refl) (λ s. sym (plain_tree_is s (with_statement b.statements false (expression_tree text s.0.0)))) (λ s x. sym (plain_goes_is s x))
        (λ s. s) (λ s. refl) (λ s. plain_tree_is s (with_statement b.statements false (expression_tree text s.0.0))) plain_goes_is

    returned_reads : (b : BodyView) → Reads {P = Returned} returned_text (λ s. after_returned s b) (λ s. ending_goes s.1.0 s.1.1) (among returning) n m (returned_at text (array_at text n) (bracket_at text n) b) (returned_at text (array_at text m) (bracket_at text m) b)
    unfolding returned_at
    returned_reads b =
        renamed (both (token_reads returning (record { leaf = sample Return; fits = refl }) (neutral returning refl) n m I.fewer) plain_text (λ q r. period_tree (λ g. body (with_statement b.statements true (expression_tree text q.0.0)) false) q.1) plain_goes (among primary_starts)
        (λ r ts. expression_at text (array_at text n) (bracket_at text n) ts >>= λ e. Ok (body (with_statement b.statements true e.0) false, (period_at e.1).1))
        (λ r ts. expression_at text (array_at text m) (bracket_at text m) ts >>= λ e. Ok (body (with_statement b.statements true e.0) false, (period_at e.1).1))
        (λ r. both (expression_reads text n m I) period_text (λ q e. period_tree (λ g. body (with_statement b.statements true e) false) q) period_goes nothing
        (λ e ts. Ok (body (with_statement b.statements true e) false, (period_at ts).1)) (λ e ts. Ok (body (with_statement b.statements true e) false, (period_at ts).1))
        (λ e. period_reads (λ g. body (with_statement b.statements true e) false) n m I.fewer) (inr tt) (among primary_starts) behind_period (λ x ts e. inl e) (λ p x e. inl (expression_some p.0)))
        (one_expression, inr tt) (among returning) (λ p q l e. first_nothing (plain_text q ++ l)) (λ x ts e. inl e) (λ p x e. inl (omega arith)))
        returned_text (λ s. after_returned s b) (λ s. ending_goes s.1.0 s.1.1)
        (λ s. s) (λ s. refl) (λ s. sym (returned_tree_is s.1.1 (with_statement b.statements true (expression_tree text s.1.0.0)))) (λ s x. sym (returned_goes_is s x))
        (λ s. s) (λ s. refl) (λ s. returned_tree_is s.1.1 (with_statement b.statements true (expression_tree text s.1.0.0))) returned_goes_is

    pub step_reads : (b : BodyView) → Reads {P = Step} step_text (λ s. after_step s b) step_goes (statement_looks b) n m (statement_step text (array_at text n) (bracket_at text n) b) (statement_step text (array_at text m) (bracket_at text m) b)
    unfolding statement_step statement_goes
    step_reads b =
        weaker (statement_looks b) (λ x e. (and_parts b.goes_on (among statement_starts x) e).1)
        (renamed (either (among returning) (anyway (among returning) (returned_reads b)) (plain_reads b) (among statement_starts) (λ x e. e) (λ p l. p.0.fits) plain_not_returned (λ x e f. covered statement_starts returning primary_starts refl x e f))
        step_text (λ s. after_step s b) step_goes (λ s. s) text_is (tree_is b) goes_is (λ s. s) (λ s. sym (text_is s)) (λ s. sym (tree_is b s)) (λ s x. sym (goes_is s x)))

    pub statements_reads : Reads {P = FitStatements} (λ ss. statements_text ss.0) (λ ss. statements_tree text ss.0) (λ ss. statements_goes ss.0) nothing n m (statements_at text (array_at text n) (bracket_at text n)) (statements_at text (array_at text m) (bracket_at text m))
    unfolding statements_at body_at
    statements_reads =
        renamed (mapped (λ (b : BodyView). b.statements) (weaker nothing (λ x e. absurd cc) (repeated statements_repeat n m I.fewer (statement_step text (array_at text n) (bracket_at text n)) (statement_step text (array_at text m) (bracket_at text m)) step_reads statements_balanced (body views.no_statements true))))
        (λ ss. statements_text ss.0) (λ ss. statements_tree text ss.0) (λ ss. statements_goes ss.0)
        (λ ss. (ss.0, ss.1.0)) (λ ss. refl) (λ ss. refl) (λ ss x. refl) (λ ss. (ss.0, (ss.1, λ e. absurd cc))) (λ ss. refl) (λ ss. refl) (λ ss x. refl)
