-- Of all parts that are the code of what some text means a tree is found whose printed text means it.
use Rattle.std.proofs.Common.{◌≡◌, ℕ, List, Option, Some, None, sym, ap, ◌∙◌, subst}
use Rattle.std.specs.Prelude.{Ok}
use Rattle.st_scan.specs.Views.{MethodView}
use Rattle.st_grammar.specs.inside.Meant.{Means}
use Rattle.st_grammar.proofs.FormedTrees.{means_formed}
use Rattle.st_print.specs.Printed.{printed}
use Rattle.st_print.specs.inside.Printing.{IsPrintedBack}
use Rattle.st_emit.specs.Names.{NamesView}
use Rattle.st_code.specs.Methods.{PartsView, code}
use Rattle.st_expression_stack.specs.Names.{usable, calling_of, name_in}
use Rattle.st_decompile.specs.Whole.{candidate}
use Rattle.st_decompile.specs.inside.Answers.{IsSource, IsFound}
use Rattle.st_decompile.proofs.Words.{code_alike, agree_back}
use Rattle.st_decompile.proofs.Usable.{usable_agree, are_names, are_words}
use Rattle.st_decompile.proofs.Answered.{IsAnswered, all_answered}

module _ (names : NamesView) (p : PartsView) where
  pub found : (t : MethodView) → IsSource names p t → IsFound names p
  found t s =
      let agree = usable_agree names in
      let usual = code_alike names (usable names) agree t (means_formed s.text t s.means) p s.same in
      let r = all_answered (name_in (calling_of names p.literals)) (usable names) (are_words names p.literals) s.text t p (are_names names p.literals) s.means usual in
      record {
        tree = r.read.tree;
        is = r.read.is;
        back = r.printed;
        same = code_alike (usable names) names (agree_back names (usable names) agree) r.printed.tree (means_formed (printed r.read.tree) r.printed.tree r.printed.means) p r.same;
      }

  -- what isn't found is the code of no text
  pub none_found : candidate (name_in (calling_of names p.literals)) p ≡ None → (t : MethodView) → IsSource names p t → ⊥
  none_found e t s = by_none (sym e ∙ (found t s).is)
    where
      by_none : None ≡ Some (found t s).tree → ⊥
      by_none i = absurd cc

  module _ (tree : MethodView) (is : candidate (name_in (calling_of names p.literals)) p ≡ Some tree) where
    pub tree_is : (f : IsFound names p) → f.tree ≡ tree
    tree_is f = let same = sym f.is ∙ is in cc

    pub back_is : (t : MethodView) → IsSource names p t → (u : MethodView) × Means (printed tree) u × (code u names ≡ Ok p)
    back_is t s =
        let f = found t s in
        (f.back.tree, subst (λ (x : MethodView). Means (printed x) f.back.tree) (tree_is f) f.back.means, f.same)
