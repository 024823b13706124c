-- Compiled code means its source, for each tree that a text means.
use Rattle.std.proofs.Common.{◌≡◌, ℕ, List, Option, Some, None, refl, ap, ◌∙◌}
use Rattle.std.specs.Prelude.{Ok}
use Rattle.st_scan.specs.Views.{MethodView}
use Rattle.st_grammar.specs.inside.Meant.{Means}
use Rattle.st_grammar.proofs.FormedTrees.{means_formed}
use Rattle.st_emit.specs.Names.{NamesView}
use Rattle.st_code.specs.declared.fault.Fault.{Fault}
use Rattle.st_code.specs.Methods.{PartsView, literals, parts, fault, parts_or, code}
use Rattle.st_resolved.proofs.Arity.{right_tree}
use Rattle.st_meaning.specs.inside.Meanings.{most, walk_of}
use Rattle.st_meaning.specs.inside.Laws.{MeansItsSource, BlocksMeanTheirs}
use Rattle.st_meaning.proofs.Means.{walk_is, blocks_are}

pub method_means : (text : List ℕ) (tree : MethodView) (names : NamesView) → Means text tree → fault tree names ≡ None → MeansItsSource tree names
method_means text tree names m f answers =
    let right = right_tree tree (means_formed text tree m) in
    ap (λ (n : ℕ). walk_of most n (literals tree names) (parts tree names).bytes answers) right.1 ∙ walk_is most tree names right.0 f answers

pub blocks_mean : (text : List ℕ) (tree : MethodView) (names : NamesView) → Means text tree → fault tree names ≡ None → BlocksMeanTheirs tree names
blocks_mean text tree names m f answers = blocks_are most tree names (right_tree tree (means_formed text tree m)).0 f answers

-- a tree that has code has no fault
pub coded_sound : (tree : MethodView) (names : NamesView) (p : PartsView) → code tree names ≡ Ok p → fault tree names ≡ None
coded_sound tree names p is = by_fault (fault tree names) is
  where
    by_fault : (o : Option Fault) → parts_or tree names o ≡ Ok p → o ≡ None
    by_fault None e = refl
    by_fault (Some f) e = absurd cc
