-- What is known of a text that is parsed, and of a tree that is compiled.
use Rattle.std.proofs.Common.{◌≡◌, ℕ, Bool, true, false, List, Option, Some, None, refl, sym, ap, ◌∙◌, subst}
use Rattle.std.specs.Prelude.{Result, Ok, Err, option_map, IfSome, IfNone}
use Rattle.st_scan.specs.declared.tree.MethodTree.{MethodTree}
use Rattle.st_scan.specs.declared.fault.SyntaxFault.{SyntaxFault}
use Rattle.st_scan.specs.declared.fault.SyntaxFault.TheVariants.{At, OutOfMemory}
use Rattle.st_scan.specs.Views.{MethodView, method_view}
use Rattle.st_scan.specs.inside.Placeless.{without_places}
use Rattle.st_grammar.specs.inside.Meant.{Means}
use Rattle.st_grammar.specs.Texts.{IsOnly}
use Rattle.st_print.specs.Printed.{printed}
use Rattle.st_print.specs.inside.Printing.{IsPrintedBack}
use Rattle.st_emit.specs.Names.{NamesView}
use Rattle.st_code.specs.declared.fault.Fault.{Fault}
use Rattle.st_code.specs.declared.fault.CodeFault.{CodeFault}
use Rattle.st_code.specs.Reported.{reported}
use Rattle.st_code.specs.Methods.{PartsView, code, fault, parts_or}
use Rattle.st_decompile.specs.Comparing.{same_parts}
use Rattle.st_decompile.specs.Whole.{candidate}
use Rattle.st_expression_stack.specs.Names.{CallingView, calling_of, name_in}
use Rattle.st_decompile.specs.inside.Answers.{IsCandidate, IsMeant, HasCode, IsSource, IsSourceOf, IsPrintedRead, IsDecompiled}
use Rattle.st_decompile.proofs.Sameness.{parts_are, parts_same}
use Rattle.st_decompile.proofs.Finding.{found, tree_is, back_is}
use Rattle.st_decompile.proofs.Placeless.{printed_alike}

-- PARSED

pub meant_tree : (text : List ℕ) (r : Result MethodTree SyntaxFault) (t : MethodTree) → r ≡ Ok t → Means text (method_view t) → ((u : MethodView) → Means text u → IsOnly u r) → IsMeant text (Some t)
meant_tree text r t e m only = (m, λ u k. sym (subst (λ (x : Result MethodTree SyntaxFault). IsOnly u x) e (only u k)))

pub meant_none : (text : List ℕ) (r : Result MethodTree SyntaxFault) (place cause : ℕ) → r ≡ Err (At place cause) → ((u : MethodView) → Means text u → IsOnly u r) → IsMeant text None
meant_none text r place cause e only u k = subst (λ (x : Result MethodTree SyntaxFault). IsOnly u x) e (only u k)

-- COMPILED

abbrev as_result : PartsView → Result PartsView Fault
as_result p = Ok p

ok_is : (a b : PartsView) → as_result a ≡ as_result b → a ≡ b
ok_is a b e = cc

pub has_same : (t : MethodView) (names : NamesView) (p made : PartsView) (b : Bool) → code t names ≡ Ok made → b ≡ same_parts made p → HasCode t names p b
has_same t names p made true e s = e ∙ ap (λ (x : PartsView). Ok x) (parts_are made p (sym s))
has_same t names p made false e s = λ h.
    let same = ok_is made p (sym e ∙ h) in
    let no : false ≡ true = s ∙ ap (λ (x : PartsView). same_parts x p) same ∙ parts_same p in
    absurd cc

pub has_fault : (t : MethodView) (names : NamesView) (p : PartsView) (e : CodeFault) → option_map reported (fault t names) ≡ Some e → HasCode t names p false
has_fault t names p e h = by_fault (fault t names) h
  where
    by_fault : (f : Option Fault) → option_map reported f ≡ Some e → parts_or t names f ≡ Ok p → ⊥
    by_fault None i k = absurd cc
    by_fault (Some x) i k = absurd cc

-- FOUND

pub read_by : (names : NamesView) (p : PartsView) (k : CallingView) (t : Option MethodView) → k ≡ calling_of names p.literals → t ≡ candidate (name_in k) p → IsCandidate names p t
read_by names p k t e h = sym (h ∙ ap (λ (c : CallingView). candidate (name_in c) p) e)

pub read_as : (names : NamesView) (p : PartsView) (m o : Option MethodTree) → m ≡ o → IsCandidate names p (option_map method_view m) → IsCandidate names p (option_map method_view o)
read_as names p m o e h = h ∙ ap (option_map method_view) e

pub meant_as : (s text : List ℕ) (m o : Option MethodTree) → s ≡ text → m ≡ o → IsMeant s m → IsMeant text o
meant_as s text m o e f h = subst (λ (x : Option MethodTree). IsMeant text x) f (subst (λ (x : List ℕ). IsMeant x m) e h)

module _ (names : NamesView) (p : PartsView) (tree : MethodView) (is : IsCandidate names p (Some tree)) where
  pub none_meant : IsMeant (printed tree) None → (t : MethodView) → IsSource names p t → ⊥
  none_meant m t s = let b = back_is names p tree is t s in m b.0 b.1

  pub none_same : (u : MethodTree) → IsMeant (printed tree) (Some u) → HasCode (method_view u) names p false → (t : MethodView) → IsSource names p t → ⊥
  none_same u m h t s =
      let b = back_is names p tree is t s in
      h (ap (λ (x : MethodView). code x names) (sym (m.1 b.0 b.1)) ∙ b.2)

  -- what the printed text of the tree means is the tree, places aside
  printed_as_read : (u : MethodTree) → IsMeant (printed tree) (Some u) → HasCode (method_view u) names p true → printed (method_view u) ≡ printed tree
  printed_as_read u m h =
      let f = found names p (method_view u) (record { text = printed tree; means = m.0; same = h }) in
      let back = subst IsPrintedBack (tree_is names p tree is f) f.back in
      printed_alike (method_view u) tree (ap without_places (sym (m.1 back.tree back.means)) ∙ back.is_same)

  pub one_same : (u : MethodTree) → IsMeant (printed tree) (Some u) → HasCode (method_view u) names p true
      → IsSourceOf names p (printed (method_view u)) (method_view u) × IsPrintedRead names p (printed (method_view u))
  one_same u m h =
      let e = printed_as_read u m h in
      (record { means = subst (λ (x : List ℕ). Means x (method_view u)) (sym e) m.0; same = h }, record { tree = tree; is = is; text_is = e })

-- ANSWERED

pub right : (names : NamesView) (p : PartsView) (d : Option MethodTree) → IsDecompiled names p d → IfSome d (λ t. IsSourceOf names p (printed (method_view t)) (method_view t))
right names p None h = tt
right names p (Some s) h = h.0

pub read : (names : NamesView) (p : PartsView) (d : Option MethodTree) → IsDecompiled names p d → IfSome d (λ t. IsPrintedRead names p (printed (method_view t)))
read names p None h = tt
read names p (Some s) h = h.1

pub missed : (names : NamesView) (p : PartsView) (d : Option MethodTree) → IsDecompiled names p d → IfNone d ((t : MethodView) → IsSource names p t → ⊥)
missed names p None h = h
missed names p (Some s) h = tt
