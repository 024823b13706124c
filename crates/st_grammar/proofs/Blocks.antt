-- What is read of blocks, and of everything in brackets.
use Rattle.std.proofs.Common.{◌≡◌, ℕ, zero, suc, ◌≤◌, Bool, true, false, ◌||◌, ◌&&◌, List, [], ◌∷◌, ◌++◌, ◌⊎◌, inl, inr, Ok, refl, sym, ap, ◌∙◌, append_assoc, arith}
use Rattle.std.proofs.lemmas.List.{append-nil}
use Rattle.st_scan.specs.Views.{NameView, ExpressionView}
use Rattle.st_scan.specs.Views as views
use Rattle.st_grammar.specs.declared.leaf.Leaf.{Leaf}
use Rattle.st_grammar.specs.declared.leaf.Kind.{Kind}
use Rattle.st_grammar.specs.declared.leaf.Kind.TheVariants.{Bar, Return, Period, Colon, Open, Close, OpenBlock, CloseBlock}
use Rattle.st_grammar.specs.Leaves.{among, openings, closings}
use Rattle.st_grammar.specs.Phrases.{One, names, one_text, Parameter, plain_block, full_block, empty_block, Expression, Statements, no_statements, last, next, returned, returned_ended, parameters_text, block_text, expression_text, statements_text}
use Rattle.st_grammar.specs.Trees.{name_at, parameters_tree, block_tree, expression_tree, statements_tree}
use Rattle.st_grammar.specs.Reading.{Read, ◌>>=◌, first, token_at, primary_starts, statement_starts, array_at, expression_at, statements_at, parameters_step, parameters_at, argument_body_at, argument_block_at, plain_block_at, block_at, bracket_at, block_primary_at, group_primary_at}
use Rattle.st_grammar.proofs.KindSets.{apart, within, neutral, one_of, one_name}
use Rattle.st_grammar.proofs.Balanced.{parameters_balanced, block_balanced, expression_balanced}
use Rattle.st_grammar.proofs.Readers.{Reads, nothing, first_nothing, is_nil, mapped, renamed, token_reads, both, either, anyway, pure, text_both, goes_both, text_either, tree_either, goes_either}
use Rattle.st_grammar.proofs.Repeats.{IsRepeat, repeated}
use Rattle.st_grammar.proofs.Bracketed.{bracket_zero_zero, bracket_zero_suc, bracket_suc_suc}
use Rattle.st_grammar.proofs.Lists.{lists_repeat, or_false}
use Rattle.st_grammar.proofs.Expressions.{Inner, FitBlock, FitExpression, BlockBracket, GroupBracket, block_bracket_text, group_bracket_text}
use Rattle.st_grammar.proofs.Assignments.{expression_goes, expression_reads, expression_not, foreign, IsForeign}
use Rattle.st_grammar.proofs.Bodies.{FitStatements, statements_goes, statements_last, stays, statements_reads, one_expression, expression_begins, into_statements}
use Rattle.std.proofs.lemmas.Bool.{and_right, or_from}

abbrev colon : List Kind
colon = Colon ∷ []

abbrev bar : List Kind
bar = Bar ∷ []

abbrev parameter_text : Parameter → List Leaf
parameter_text p = p.colon.leaf ∷ p.name.leaf ∷ []

abbrev one_parameter : Parameter
one_parameter = record { colon = one_of Colon; name = one_name }

abbrev returning : List Kind
returning = Return ∷ []

-- what an expression's leaves begin with
first_is : (text : List ℕ) (e : Expression) (l : List Leaf) (x : Leaf) (us k : List Leaf) → l ≡ expression_text e ++ k → l ≡ x ∷ us → among statement_starts x ≡ true
first_is text e l x us k parts is = into_statements text (x ∷ us) (ap (first (among primary_starts)) (sym is ∙ parts) ∙ expression_begins text e k)

-- what closes a bracket
record IsOutside (x : Leaf) : Type 0 where
  alien : IsForeign x
  start : among statement_starts x ≡ false
  period : among (Period ∷ []) x ≡ false
  colon : among colon x ≡ false
  bar : among bar x ≡ false

outside : (x : Leaf) → among closings x ≡ true → IsOutside x
outside x e = record {
  alien = foreign closings refl refl refl refl refl refl x e;
  start = apart closings statement_starts refl x e;
  period = apart closings (Period ∷ []) refl x e;
  colon = apart closings colon refl x e;
  bar = apart closings bar refl x e;
}

closes_outside : (x : Leaf) → among (Close ∷ []) x ≡ true → IsOutside x
closes_outside x e = outside x (within (Close ∷ []) closings refl x e)

closes_block_outside : (x : Leaf) → among (CloseBlock ∷ []) x ≡ true → IsOutside x
closes_block_outside x e = outside x (within (CloseBlock ∷ []) closings refl x e)

module _ (text : List ℕ) where
  last_not : (ss : Statements) (x : Leaf) → IsOutside x → statements_last text ss x ≡ false
  last_not no_statements x o = refl
  last_not (last e) x o = or_from (among (Period ∷ []) x) _ o.period (expression_not text e x o.alien)
  last_not (next e p ss) x o = last_not ss x o
  last_not (returned r e) x o = or_from (among (Period ∷ []) x) _ o.period (expression_not text e x o.alien)
  last_not (returned_ended r e p) x o = refl

  statements_not : (ss : Statements) (x : Leaf) → IsOutside x → statements_goes text ss x ≡ false
  statements_not ss x o = or_from (stays ss true && among statement_starts x) _ (and_right (stays ss true) _ o.start) (last_not ss x o)

  abbrev with_parameter : Parameter → List NameView → List NameView
  with_parameter p ns = ns ++ name_at text p.name.leaf ∷ []

  parameters_repeat : IsRepeat (λ (ns : List NameView). among colon) parameter_text with_parameter (λ p. nothing) (λ ns ps. Unit {0}) parameters_text (λ ps ns. ns ++ parameters_tree text ps) (λ ps. nothing)
  parameters_repeat =
      lists_repeat (among colon) parameter_text with_parameter parameters_text (λ ps ns. ns ++ parameters_tree text ps) (λ p. omega arith) refl (λ p l. refl) (λ p k. p.colon.fits)
      append-nil (λ p ps ns. sym (append_assoc ns (name_at text p.name.leaf ∷ []) (parameters_tree text ps)))

  -- BLOCKS

  abbrev ArgumentBody : Type 0
  ArgumentBody = (One bar × FitStatements text) ⊎ Unit {0}

  abbrev body_text : ArgumentBody → List Leaf
  body_text = text_either (text_both one_text (λ ss. statements_text ss.0)) (λ u. [])

  abbrev body_tree : ArgumentBody → List NameView → ExpressionView
  body_tree b ns = tree_either (λ s. views.block ns (statements_tree text s.1.0)) (λ u. views.block ns views.no_statements) b

  abbrev body_goes : ArgumentBody → Leaf → Bool
  body_goes = goes_either (among bar) (goes_both (λ (o : One bar). nothing) (λ (ss : FitStatements text). statements_text ss.0) (λ ss. statements_goes text ss.0)) (λ u. []) (λ u. nothing)

  abbrev Arguments : Type 0
  Arguments = Parameter × (List Parameter × ArgumentBody)

  abbrev arguments_text : Arguments → List Leaf
  arguments_text = text_both parameter_text (text_both parameters_text body_text)

  abbrev arguments_tree : Arguments → ExpressionView
  arguments_tree a = body_tree a.1.1 ((name_at text a.0.name.leaf ∷ []) ++ parameters_tree text a.1.0)

  abbrev arguments_goes : Arguments → Leaf → Bool
  arguments_goes = goes_both (λ (p : Parameter). nothing) (text_both parameters_text body_text) (goes_both (λ (ps : List Parameter). among colon) body_text body_goes)

  abbrev BlockSum : Type 0
  BlockSum = Arguments ⊎ FitStatements text

  abbrev block_sum_text : BlockSum → List Leaf
  block_sum_text = text_either arguments_text (λ ss. statements_text ss.0)

  block_sum_goes : BlockSum → Leaf → Bool
  block_sum_goes = goes_either (among colon) arguments_goes (λ (ss : FitStatements text). statements_text ss.0) (λ ss. statements_goes text ss.0)

  abbrev to_block : BlockSum → FitBlock text
  to_block (inl (p, (ps, inl b))) = (full_block p ps b.0 b.1.0, b.1.1)
  to_block (inl (p, (ps, inr u))) = (empty_block p ps, tt)
  to_block (inr ss) = (plain_block ss.0, ss.1)

  abbrev from_block : FitBlock text → BlockSum
  from_block (plain_block ss, f) = inr (ss, f)
  from_block (full_block p ps b ss, f) = inl (p, (ps, inl (b, (ss, f))))
  from_block (empty_block p ps, f) = inl (p, (ps, inr tt))

  -- what a block goes on with
  abbrev block_goes : FitBlock text → Leaf → Bool
  block_goes b x = block_sum_goes (from_block b) x

  block_text_to : (s : BlockSum) → block_text (to_block s).0 ≡ block_sum_text s
  block_text_to (inl (p, (ps, inl b))) = refl
  block_text_to (inl (p, (ps, inr u))) = ap (λ (l : List Leaf). p.colon.leaf ∷ p.name.leaf ∷ l) (sym (append-nil (parameters_text ps)))
  block_text_to (inr ss) = refl

  abbrev block_sum_tree : BlockSum → ExpressionView
  block_sum_tree = tree_either arguments_tree (λ ss. views.block [] (statements_tree text ss.0))

  block_tree_to : (s : BlockSum) → block_tree text (to_block s).0 ≡ block_sum_tree s
  block_tree_to (inl (p, (ps, inl b))) = refl
  block_tree_to (inl (p, (ps, inr u))) = refl
  block_tree_to (inr ss) = refl

  block_goes_to : (s : BlockSum) (x : Leaf) → block_goes (to_block s) x ≡ block_sum_goes s x
  block_goes_to (inl (p, (ps, inl b))) x = refl
  block_goes_to (inl (p, (ps, inr u))) x = refl
  block_goes_to (inr ss) x = refl

  block_text_from : (b : FitBlock text) → block_sum_text (from_block b) ≡ block_text b.0
  block_text_from (plain_block ss, f) = refl
  block_text_from (full_block p ps b ss, f) = refl
  block_text_from (empty_block p ps, f) = ap (λ (l : List Leaf). p.colon.leaf ∷ p.name.leaf ∷ l) (append-nil (parameters_text ps))

  block_tree_from : (b : FitBlock text) → block_sum_tree (from_block b) ≡ block_tree text b.0
  block_tree_from (plain_block ss, f) = refl
  block_tree_from (full_block p ps b ss, f) = refl
  block_tree_from (empty_block p ps, f) = refl

  pub statement_begins : (ss : Statements) (x : Leaf) (us : List Leaf) → statements_text ss ≡ x ∷ us → among statement_starts x ≡ true
  statement_begins no_statements x us e = absurd cc
  statement_begins (last e) x us is = first_is text e (statements_text (last e)) x us [] (sym (append-nil (expression_text e))) is
  statement_begins (next e p ss) x us is = first_is text e (statements_text (next e p ss)) x us (p.leaf ∷ statements_text ss) refl is
  statement_begins (returned r e) x us is = let same : r.leaf ≡ x = cc in ap (among statement_starts) (sym same) ∙ within returning statement_starts refl r.leaf r.fits
  statement_begins (returned_ended r e p) x us is = let same : r.leaf ≡ x = cc in ap (among statement_starts) (sym same) ∙ within returning statement_starts refl r.leaf r.fits

  not_colon : (ss : FitStatements text) (x : Leaf) (us : List Leaf) → statements_text ss.0 ≡ x ∷ us → among colon x ≡ false
  not_colon ss x us e = apart statement_starts colon refl x (statement_begins ss.0 x us e)

  body_not : (b : ArgumentBody) (x : Leaf) → IsOutside x → body_goes b x ≡ false
  body_not (inl b) x o = or_from (statements_goes text b.1.0 x) _ (statements_not b.1.0 x o) (and_right (is_nil (statements_text b.1.0)) false refl)
  body_not (inr u) x o = o.bar

  block_ends : (b : FitBlock text) (x : Leaf) → among (CloseBlock ∷ []) x ≡ true → block_goes b x ≡ false
  unfolding block_sum_goes
  block_ends (plain_block ss, f) x e = let o = closes_block_outside x e in or_from (statements_goes text ss x) _ (statements_not ss x o) (and_right (is_nil (statements_text ss)) _ o.colon)
  block_ends (full_block p ps b ss, f) x e =
      let o = closes_block_outside x e in
      or_from (body_goes (inl (b, (ss, f))) x || (is_nil (body_text (inl (b, (ss, f)))) && among colon x)) _
      (or_from (body_goes (inl (b, (ss, f))) x) _ (body_not (inl (b, (ss, f))) x o) (and_right (is_nil (body_text (inl (b, (ss, f))))) _ o.colon))
      (and_right (is_nil (parameters_text ps ++ body_text (inl (b, (ss, f))))) false refl)
  block_ends (empty_block p ps, f) x e =
      let o = closes_block_outside x e in
      or_from (body_goes (inr tt) x || (is_nil (body_text (inr tt)) && among colon x)) _
      (or_from (body_goes (inr tt) x) _ (body_not (inr tt) x o) (and_right (is_nil (body_text (inr tt))) _ o.colon))
      (and_right (is_nil (parameters_text ps ++ body_text (inr tt))) false refl)

  between_parameters : (b : ArgumentBody) (l : List Leaf) → first (among colon) l ≡ false → first (among colon) (body_text b ++ l) ≡ false
  between_parameters (inl b) l e = apart bar colon refl b.0.leaf b.0.fits
  between_parameters (inr u) l e = e

  one_block : FitBlock text
  one_block = (plain_block no_statements, tt)

  module _ (n m : ℕ) (I : Inner text n m) where
    pub parameter_reads : (ns : List NameView) → Reads parameter_text (λ p. with_parameter p ns) (λ p. nothing) (among colon) n m (parameters_step text ns) (parameters_step text ns)
    unfolding parameters_step
    parameter_reads ns =
        renamed (both (token_reads colon one_parameter.colon (neutral colon refl) n m I.fewer) (one_text {kinds = names}) (λ o c. ns ++ name_at text o.leaf ∷ []) (λ o. nothing) (among names)
        (λ c ts. token_at names ts >>= λ k. Ok (ns ++ name_at text k.0 ∷ [], k.1)) (λ c ts. token_at names ts >>= λ k. Ok (ns ++ name_at text k.0 ∷ [], k.1))
        (λ c. mapped (λ k. ns ++ name_at text k ∷ []) (token_reads names one_name (neutral names refl) n m I.fewer)) one_name (among colon) (λ p q l e. first_nothing (one_text q ++ l)) (λ x ts e. inl e) (λ p x e. inl (omega arith)))
        parameter_text (λ p. with_parameter p ns) (λ p. nothing) (λ p. record { colon = p.0; name = p.1 }) (λ p. refl) (λ p. refl) (λ p x. refl) (λ p. (p.colon, p.name)) (λ p. refl) (λ p. refl) (λ p x. refl)

    parameters_reads : (ns : List NameView) → Reads parameters_text (λ ps. ns ++ parameters_tree text ps) (λ ps. among colon) (among colon) n m (parameters_at text ns) (parameters_at text ns)
    unfolding parameters_at
    parameters_reads ns =
        renamed (repeated parameters_repeat n m I.fewer (parameters_step text) (parameters_step text) parameter_reads parameters_balanced ns)
        parameters_text (λ ps. ns ++ parameters_tree text ps) (λ ps. among colon) (λ ps. ps.0) (λ ps. refl) (λ ps. refl) (λ ps x. sym (or_false (among colon x))) (λ ps. (ps, tt)) (λ ps. refl) (λ ps. refl) (λ ps x. or_false (among colon x))

    body_reads : (ns : List NameView) → Reads {P = ArgumentBody} body_text (λ b. body_tree b ns) body_goes nothing n m (argument_body_at text (array_at text n) (bracket_at text n) ns) (argument_body_at text (array_at text m) (bracket_at text m) ns)
    unfolding argument_body_at
    body_reads ns =
        either (among bar)
        (anyway (among bar) (both (token_reads bar (one_of Bar) (neutral bar refl) n m I.fewer) (λ (ss : FitStatements text). statements_text ss.0) (λ ss o. views.block ns (statements_tree text ss.0)) (λ ss. statements_goes text ss.0) nothing
        (λ o ts. statements_at text (array_at text n) (bracket_at text n) ts >>= λ ss. Ok (views.block ns ss.0, ss.1)) (λ o ts. statements_at text (array_at text m) (bracket_at text m) ts >>= λ ss. Ok (views.block ns ss.0, ss.1))
        (λ o. mapped (λ ss. views.block ns ss) (statements_reads text n m I)) (no_statements, tt) (among bar) (λ p q l e. first_nothing (statements_text q.0 ++ l)) (λ x ts e. inl e) (λ p x e. inl (omega arith))))
        (pure (views.block ns views.no_statements) nothing n m I.fewer) nothing (λ x e. e) (λ p l. p.0.fits) (λ q x us e. absurd cc) (λ x e f. absurd cc)

    argument_reads : Reads {P = Arguments} arguments_text arguments_tree arguments_goes (among colon) n m (argument_block_at text (array_at text n) (bracket_at text n)) (argument_block_at text (array_at text m) (bracket_at text m))
    unfolding argument_block_at
    argument_reads =
        both (parameter_reads []) (text_both parameters_text body_text) (λ q ns. body_tree q.1 (ns ++ parameters_tree text q.0)) (goes_both (λ (ps : List Parameter). among colon) body_text body_goes) nothing
        (λ ns ts. parameters_at text ns ts >>= λ ps. argument_body_at text (array_at text n) (bracket_at text n) ps.0 ps.1)
        (λ ns ts. parameters_at text ns ts >>= λ ps. argument_body_at text (array_at text m) (bracket_at text m) ps.0 ps.1)
        (λ ns. both (parameters_reads ns) body_text (λ b ps. body_tree b ps) body_goes nothing (argument_body_at text (array_at text n) (bracket_at text n)) (argument_body_at text (array_at text m) (bracket_at text m)) body_reads
        (inr tt) nothing (λ p q l e. between_parameters q l e) (λ x ts e. absurd cc) (λ p x e. absurd cc))
        ([], inr tt) (among colon) (λ p q l e. first_nothing (text_both parameters_text body_text q ++ l)) (λ x ts e. inl e) (λ p x e. inl (omega arith))

    plain_block_reads : Reads {P = FitStatements text} (λ ss. statements_text ss.0) (λ ss. views.block [] (statements_tree text ss.0)) (λ ss. statements_goes text ss.0) nothing n m (plain_block_at text (array_at text n) (bracket_at text n)) (plain_block_at text (array_at text m) (bracket_at text m))
    unfolding plain_block_at
    plain_block_reads = mapped (views.block []) (statements_reads text n m I)

    abbrev BlockReads : Type 0
    BlockReads = Reads {P = FitBlock text} (λ b. block_text b.0) (λ b. block_tree text b.0) block_goes nothing n m (block_at text (array_at text n) (bracket_at text n)) (block_at text (array_at text m) (bracket_at text m))

    block_reads : BlockReads
    unfolding block_at block_sum_goes
    block_reads =
        renamed (either (among colon) (anyway (among colon) argument_reads) plain_block_reads nothing (λ x e. e) (λ p l. p.0.colon.fits) not_colon (λ x e f. absurd cc))
        (λ b. block_text b.0) (λ b. block_tree text b.0) block_goes to_block block_text_to block_tree_to block_goes_to from_block block_text_from block_tree_from (λ b x. refl)

  -- BRACKETS

  abbrev close_block : (x : Leaf) → among (CloseBlock ∷ []) x ≡ true → (among openings x ≡ false) × (among closings x ≡ true)
  close_block x e = (apart (CloseBlock ∷ []) openings refl x e, within (CloseBlock ∷ []) closings refl x e)

  abbrev close : (x : Leaf) → among (Close ∷ []) x ≡ true → (among openings x ≡ false) × (among closings x ≡ true)
  close x e = (apart (Close ∷ []) openings refl x e, within (Close ∷ []) closings refl x e)

  expression_ends : (e : FitExpression text) (x : Leaf) → among (Close ∷ []) x ≡ true → expression_goes text e.0 x ≡ false
  expression_ends e x c = expression_not text e.0 x (closes_outside x c).alien

  abbrev BlockPrimaryReads : ℕ → ℕ → Type 0
  BlockPrimaryReads n m = Reads {P = BlockBracket text} (block_bracket_text text) (λ b. block_tree text b.1.0) (λ b. nothing) (among (OpenBlock ∷ [])) n m (block_primary_at text (array_at text n) (bracket_at text n)) (block_primary_at text (array_at text m) (bracket_at text m))

  abbrev GroupPrimaryReads : ℕ → ℕ → Type 0
  GroupPrimaryReads n m = Reads {P = GroupBracket text} (group_bracket_text text) (λ b. expression_tree text b.1.0) (λ b. nothing) (among (Open ∷ [])) n m (group_primary_at text (array_at text n) (bracket_at text n)) (group_primary_at text (array_at text m) (bracket_at text m))

  abbrev block_body : ℕ → List Leaf → Read ExpressionView
  block_body k ts = block_at text (array_at text k) (bracket_at text k) ts

  abbrev group_body : ℕ → List Leaf → Read ExpressionView
  group_body k ts = expression_at text (array_at text k) (bracket_at text k) ts

  blocks_zero_zero : BlockPrimaryReads zero zero
  unfolding block_primary_at bracket_at
  blocks_zero_zero =
      bracket_zero_zero (OpenBlock ∷ []) (CloseBlock ∷ []) (one_of OpenBlock) one_block (one_of CloseBlock) (within (OpenBlock ∷ []) openings refl) close_block (λ (b : FitBlock text). block_text b.0) (λ b. block_tree text b.0) block_goes (λ b. block_balanced b.0) block_ends
      block_body (λ k. bracket_at text k true) (λ ts. refl) (λ k ts. refl) (λ x e. e)

  blocks_zero_suc : (j k : ℕ) → Inner text j k → BlockPrimaryReads zero (suc k)
  unfolding block_primary_at bracket_at
  blocks_zero_suc j k I =
      bracket_zero_suc (OpenBlock ∷ []) (CloseBlock ∷ []) (one_of OpenBlock) one_block (one_of CloseBlock) (within (OpenBlock ∷ []) openings refl) close_block (λ (b : FitBlock text). block_text b.0) (λ b. block_tree text b.0) block_goes (λ b. block_balanced b.0) block_ends
      block_body (λ k. bracket_at text k true) (λ ts. refl) (λ k ts. refl) (λ x e. e) j k (block_reads j k I)

  blocks_suc_suc : (j k : ℕ) → Inner text j k → BlockPrimaryReads (suc j) (suc k)
  unfolding block_primary_at bracket_at
  blocks_suc_suc j k I =
      bracket_suc_suc (OpenBlock ∷ []) (CloseBlock ∷ []) (one_of OpenBlock) one_block (one_of CloseBlock) (within (OpenBlock ∷ []) openings refl) close_block (λ (b : FitBlock text). block_text b.0) (λ b. block_tree text b.0) block_goes (λ b. block_balanced b.0) block_ends
      block_body (λ k. bracket_at text k true) (λ ts. refl) (λ k ts. refl) (λ x e. e) j k (block_reads j k I)

  groups_zero_zero : GroupPrimaryReads zero zero
  unfolding group_primary_at bracket_at
  groups_zero_zero =
      bracket_zero_zero (Open ∷ []) (Close ∷ []) (one_of Open) (one_expression text) (one_of Close) (within (Open ∷ []) openings refl) close (λ (e : FitExpression text). expression_text e.0) (λ e. expression_tree text e.0) (λ e. expression_goes text e.0) (λ e. expression_balanced e.0) expression_ends
      group_body (λ k. bracket_at text k false) (λ ts. refl) (λ k ts. refl) (λ x e. e)

  groups_zero_suc : (j k : ℕ) → Inner text j k → GroupPrimaryReads zero (suc k)
  unfolding group_primary_at bracket_at
  groups_zero_suc j k I =
      bracket_zero_suc (Open ∷ []) (Close ∷ []) (one_of Open) (one_expression text) (one_of Close) (within (Open ∷ []) openings refl) close (λ (e : FitExpression text). expression_text e.0) (λ e. expression_tree text e.0) (λ e. expression_goes text e.0) (λ e. expression_balanced e.0) expression_ends
      group_body (λ k. bracket_at text k false) (λ ts. refl) (λ k ts. refl) (λ x e. e) j k (expression_reads text j k I)

  groups_suc_suc : (j k : ℕ) → Inner text j k → GroupPrimaryReads (suc j) (suc k)
  unfolding group_primary_at bracket_at
  groups_suc_suc j k I =
      bracket_suc_suc (Open ∷ []) (Close ∷ []) (one_of Open) (one_expression text) (one_of Close) (within (Open ∷ []) openings refl) close (λ (e : FitExpression text). expression_text e.0) (λ e. expression_tree text e.0) (λ e. expression_goes text e.0) (λ e. expression_balanced e.0) expression_ends
      group_body (λ k. bracket_at text k false) (λ ts. refl) (λ k ts. refl) (λ x e. e) j k (expression_reads text j k I)

  -- with any number of brackets to open
  pub inner_reads : (m n : ℕ) → n ≤ m → Inner text n m
  inner_reads zero zero le = record { fewer = le; blocks = blocks_zero_zero; groups = groups_zero_zero }
  inner_reads zero (suc n) le = absurd (omega arith)
  inner_reads (suc k) zero le = let I = inner_reads k zero (omega arith) in record { fewer = le; blocks = blocks_zero_suc zero k I; groups = groups_zero_suc zero k I }
  inner_reads (suc k) (suc j) le = let I = inner_reads k j (omega arith) in record { fewer = le; blocks = blocks_suc_suc j k I; groups = groups_suc_suc j k I }
