-- A step of a loop takes a leaf or more.
use Rattle.std.proofs.Common.{◌≡◌, ℕ, ◌<◌, Bool, List, [], ◌∷◌, ◌++◌, length, Ok, refl, ap, subst, length-append, arith}
use Rattle.st_scan.specs.Views.{NameView, ElementsView, ExpressionView}
use Rattle.st_scan.specs.Views as views
use Rattle.st_grammar.specs.declared.leaf.Leaf.{Leaf}
use Rattle.st_grammar.specs.declared.leaf.Kind.TheVariants.{Joined}
use Rattle.st_grammar.specs.Trees.{bytes, name_at, sent}
use Rattle.st_grammar.specs.Phrases.{names}
use Rattle.st_grammar.specs.Reading.{Read, PartsView, BodyView, PatternView, array_at, bracket_at, joined_step, elements_step, names_step, operations_step, parts_step, cascade_step, statement_step, parameters_step, pattern_step, name_step}
use Rattle.st_grammar.proofs.KindSets.{neutral, sample, one_name}
use Rattle.st_grammar.proofs.Readers.{Reads, Told, ToldOk, mapped, token_reads}
use Rattle.st_grammar.proofs.Literals.{nested_reads, elements_step_reads, element_some}
use Rattle.st_grammar.proofs.Expressions.{Inner, operation_reads}
use Rattle.st_grammar.proofs.Cascades.{part_reads, cascade_step_reads}
use Rattle.st_grammar.proofs.Bodies.{step_reads, step_some}
use Rattle.st_grammar.proofs.Blocks.{inner_reads, parameter_reads}
use Rattle.st_grammar.proofs.Methods.{pattern_step_reads}

module _ {P A : Type 0} {text : P → List Leaf} {tree : P → A} {goes : P → Leaf → Bool} {begin : Leaf → Bool} {n m : ℕ} {r r' : List Leaf → Read A} (R : Reads text tree goes begin n m r r') (some : (p : P) → 0 < length (text p)) where
  shorter : (ts : List Leaf) (x : A × List Leaf) → r ts ≡ Ok x → length x.1 < length ts
  shorter ts x e = by_told (subst (Told text tree goes begin n r' ts) e (R.told ts))
    where
      by_told : ToldOk text tree goes n ts x → length x.1 < length ts
      by_told t = omega (arith, some t.p, ap length t.parts, length-append (text t.p) x.1)

module _ (text : List ℕ) where
  abbrev inner : (n : ℕ) → Inner text n n
  inner n = inner_reads text n n (omega arith)

  pub joined_shorter : (bs : List ℕ) (ts : List Leaf) (x : List ℕ × List Leaf) → joined_step text bs ts ≡ Ok x → length x.1 < length ts
  unfolding joined_step
  joined_shorter bs ts x e = shorter (mapped (λ k. bs ++ bytes text k) (token_reads (Joined ∷ []) (record { leaf = sample Joined; fits = refl }) (neutral (Joined ∷ []) refl) 0 0 (omega arith))) (λ o. omega arith) ts x e

  pub elements_shorter : (n : ℕ) (es : ElementsView) (ts : List Leaf) (x : ElementsView × List Leaf) → elements_step text (array_at text n) es ts ≡ Ok x → length x.1 < length ts
  elements_shorter n es ts x e = shorter (elements_step_reads text n n (omega arith) (nested_reads text n n (omega arith)) es) element_some ts x e

  pub names_shorter : (t : ExpressionView) (ts : List Leaf) (x : ExpressionView × List Leaf) → names_step text t ts ≡ Ok x → length x.1 < length ts
  unfolding names_step
  names_shorter t ts x e = shorter (mapped (λ k. sent t (bytes text k) views.no_expressions) (token_reads names one_name (neutral names refl) 0 0 (omega arith))) (λ o. omega arith) ts x e

  pub operations_shorter : (n : ℕ) (t : ExpressionView) (ts : List Leaf) (x : ExpressionView × List Leaf) → operations_step text (array_at text n) (bracket_at text n) t ts ≡ Ok x → length x.1 < length ts
  operations_shorter n t ts x e = shorter (operation_reads text n n (inner n) t) (λ o. omega arith) ts x e

  pub parts_shorter : (n : ℕ) (s : PartsView) (ts : List Leaf) (x : PartsView × List Leaf) → parts_step text (array_at text n) (bracket_at text n) s ts ≡ Ok x → length x.1 < length ts
  parts_shorter n s ts x e = shorter (part_reads text n n (inner n) s) (λ o. omega arith) ts x e

  pub cascade_shorter : (n : ℕ) (t : ExpressionView) (ts : List Leaf) (x : ExpressionView × List Leaf) → cascade_step text (array_at text n) (bracket_at text n) t ts ≡ Ok x → length x.1 < length ts
  cascade_shorter n t ts x e = shorter (cascade_step_reads text n n (inner n) t) (λ o. omega arith) ts x e

  pub statement_shorter : (n : ℕ) (b : BodyView) (ts : List Leaf) (x : BodyView × List Leaf) → statement_step text (array_at text n) (bracket_at text n) b ts ≡ Ok x → length x.1 < length ts
  statement_shorter n b ts x e = shorter (step_reads text n n (inner n) b) (step_some text) ts x e

  pub parameter_shorter : (ns : List NameView) (ts : List Leaf) (x : List NameView × List Leaf) → parameters_step text ns ts ≡ Ok x → length x.1 < length ts
  parameter_shorter ns ts x e = shorter (parameter_reads text 0 0 (inner 0) ns) (λ o. omega arith) ts x e

  pub pattern_shorter : (p : PatternView) (ts : List Leaf) (x : PatternView × List Leaf) → pattern_step text p ts ≡ Ok x → length x.1 < length ts
  pattern_shorter p ts x e = shorter (pattern_step_reads text 0 0 (inner 0) p) (λ o. omega arith) ts x e

  pub name_shorter : (ns : List NameView) (ts : List Leaf) (x : List NameView × List Leaf) → name_step text ns ts ≡ Ok x → length x.1 < length ts
  unfolding name_step
  name_shorter ns ts x e = shorter (mapped (λ k. ns ++ name_at text k ∷ []) (token_reads names one_name (neutral names refl) 0 0 (omega arith))) (λ o. omega arith) ts x e
