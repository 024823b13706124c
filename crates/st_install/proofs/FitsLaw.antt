-- What a text comes to has a size that an object may have.
use Rattle.std.proofs.Common.{Bool, true, false, [], ◌∷◌, subst, arith}
use Rattle.std.specs.Prelude.{if◌then◌else◌, ◌==◌}
use Rattle.st_model.specs.Machine.{ObjectMemory}
use Rattle.st_scan.specs.Views.{MethodView}
use Rattle.st_grammar.specs.inside.Meant.{Means}
use Rattle.st_grammar.specs.inside.SyntaxMeant.{IsSyntax}
use Rattle.st_grammar.proofs.Syntaxes.{is}
use Rattle.st_emit.specs.Names.{NamesView}
use Rattle.st_emit.specs.Literals.{owner}
use Rattle.st_emit.specs.Steps.{sends_super}
use Rattle.st_emit.proofs.Sizes.{sizes-bytes}
use Rattle.st_code.specs.Methods.{extension, body, context, flag, steps, last_literals, literals, parts}
use Rattle.st_install.specs.inside.Fits.{FitParts, TextsFit}
use Rattle.st_install.proofs.Headed.{IsBounded, code_bounded}
use Rattle.st_install.proofs.FitsPhrases.{IsSmallTree, means_small}
use Rattle.st_install.proofs.FitsNaming.{AllSmall, both_small, body_small}
use Rattle.st_install.proofs.FitsPlans.{symbols_small, placed_small, small_append}

last_small : (flagged super : Bool) (m : MethodView) → AllSmall (if flagged then extension m ∷ owner ∷ [] else (if super then owner ∷ [] else []))
last_small true super m = (tt, (tt, tt))
last_small false true m = (tt, tt)
last_small false false m = tt

module _ {H : Type 0} (m : ObjectMemory H) where
  module _ (tree : MethodView) (names : NamesView) (small : IsSmallTree tree) (few : IsBounded tree names) where
    all_small : AllSmall (literals tree names)
    all_small =
        both_small (body tree names).literals (last_literals tree names) (body_small tree.body (context tree names) small.body)
        (last_small (flag tree names == 7) (sends_super (steps tree names)) tree)

    fit : FitParts m (parts tree names)
    fit = record {
      symbols = λ class. symbols_small class tree.selector (literals tree names) small.selector all_small;
      others = λ symbols association class method_class meta next s t placed e.
          let h = placed_small m symbols association class meta next (literals tree names) s t placed all_small e in
          let count = h.1 in
          let bytes = sizes-bytes (steps tree names) in
          let most = few.bytes_few in
          small_append placed.objects _ h.0 (omega (arith, count, bytes, most), tt);
    }

  pub texts_fit : TextsFit m
  texts_fit text tree names p short meant coded =
      let means : Means text tree = subst (IsSyntax text) meant (is text) in
      let bounds = code_bounded tree names p coded in
      subst (FitParts m) bounds.1 (fit tree names (means_small text tree short means) bounds.0)
