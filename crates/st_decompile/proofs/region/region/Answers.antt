use Rattle.std.proofs.Common.{◌≡◌, List, ap, sym, ◌∙◌, subst}
use Rattle.std.proofs.lemmas.Result.{IfOk-weaker}
use Rattle.st_decompile.specs.declared.located.Located.{Located}
use Rattle.st_decompile.specs.inside.Located.{steps_in, AreSpaced}
use Rattle.st_decompile.specs.inside.Read.{region_by}
use Rattle.st_decompile.proofs.Locating.{located_spaced, located_steps}
use Rattle.st_decompile.proofs.region.region.Goals as goal

pub region_in-requires : goal.region_in-requires
region_in-requires c = subst AreSpaced (sym (c.deref.ensures.value ∙ c.in_ok-located.ensures)) (located_spaced c.args.at c.args.steps.now)

pub returns : goal.returns
returns c =
    let same = ap steps_in (c.deref.ensures.value ∙ c.in_ok-located.ensures) ∙ located_steps c.args.at c.args.steps.now in
    IfOk-weaker c.region_in.result _ _ (λ items is. is ∙ ap (λ ss. region_by c.args.reading c.args.depth c.args.at ss) same) c.region_in.ensures
