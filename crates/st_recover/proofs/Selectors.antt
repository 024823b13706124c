-- The selectors of definitions that are installed, or lost.
use Rattle.std.proofs.Common.{◌≡◌, ◌∙◌, List, [], ◌∷◌, ◌++◌, refl, sym, ap, subst, append_assoc}
use Rattle.std.specs.Prelude.{Option, None, Some, Ok}
use Rattle.std.proofs.lemmas.List.{append-nil}
use Rattle.st_model.specs.View.{View}
use Rattle.st_scan.specs.Views.{MethodView}
use Rattle.st_emit.specs.Names.{NamesView}
use Rattle.st_code.specs.declared.fault.Fault.{Fault}
use Rattle.st_code.specs.Methods.{PartsView, fault, parts_or}
use Rattle.st_chunk.specs.Definitions.{Definition}
use Rattle.st_install.specs.declared.preparing.Prepared.{Prepared}
use Rattle.st_install.specs.inside.Prepareds.{IsPrepared}
use Rattle.st_changes.specs.Last.{HasSelector, FindsEach}
use Rattle.st_changes.proofs.Indexing.{Selector, Finds, each_more}

-- OF ONE

of_code : (tree : MethodView) (seen : NamesView) (f : Option Fault) (parts : PartsView) → parts_or tree seen f ≡ Ok parts → tree.selector ≡ parts.selector
of_code tree seen None parts e = cc
of_code tree seen (Some f) parts e = cc

-- the selector of what is prepared is that of the text's tree
pub prepared_selector : (v : View) (d : Definition) (p : Prepared) → IsPrepared v d p → HasSelector d.text p.selector.items
prepared_selector v d p h = record {
  tree = h.tree;
  means = h.reads;
  is = of_code h.tree h.seen (fault h.tree h.seen) h.parts h.coded ∙ sym h.selector;
}

-- OF EACH

-- of some definitions, of which these are left, each but these has its selector
pub record AreFound (ds rest : List Definition) (ss : List Selector) : Type 0 where
  pub done : List Definition
  pub is : ds ≡ done ++ rest
  pub finds : FindsEach done ss

pub found_none : (ds : List Definition) (ss : List Selector) → ss ≡ [] → AreFound ds ds ss
found_none ds ss empty = record { done = []; is = refl; finds = subst (FindsEach []) (sym empty) tt }

pub found_more : (ds rest later : List Definition) (d : Definition) (ss more : List Selector) (s : Selector) → rest ≡ d ∷ later → more ≡ ss ++ s ∷ [] → Finds d s
    → AreFound ds rest ss → AreFound ds later more
found_more ds rest later d ss more s left pushed finds found = record {
  done = found.done ++ d ∷ [];
  is = found.is ∙ ap (λ (x : List Definition). found.done ++ x) left ∙ sym (append_assoc found.done (d ∷ []) later);
  finds = subst (FindsEach (found.done ++ d ∷ [])) (sym pushed) (each_more found.done ss d s found.finds finds);
}

pub found_all : (ds rest : List Definition) (ss : List Selector) → rest ≡ [] → AreFound ds rest ss → FindsEach ds ss
found_all ds rest ss none found =
    subst (λ (x : List Definition). FindsEach x ss) (sym (found.is ∙ ap (λ (x : List Definition). found.done ++ x) none ∙ append-nil found.done)) found.finds
