use Rattle.std.proofs.Common.{rules, ◌≡◌, Err, ap, ◌∙◌}
use Rattle.std.specs.Prelude.{not}
use Rattle.std.specs.Bool.{then_some}
use Rattle.st_model.specs.Values.{value}
use Rattle.st_install.specs.inside.Readies.{part_of}
use Rattle.st_scope.specs.declared.unread.Unread.TheVariants.{Dies}
use Rattle.st_install.proofs.Growths.{no_dictionary, not_grown, number_if}
use Rattle.st_install.proofs.planning.growth_of.Goals as goal

pub returns-in_err-dictionary : goal.returns-in_err-dictionary
returns-in_err-dictionary g c =
    let e : c.from_residual.result ≡ Err (Dies c.in_err-dictionary.field-0.0) = search rules in
    rw e (no_dictionary (value c.args.class) (part_of c.args.selector) c.args.next (g.M.Memory.view c.args.m.now).objects c.in_err-dictionary.field-0.0 c.in_err-dictionary.ensures.fetches)

pub returns-in_err-objects : goal.returns-in_err-objects
returns-in_err-objects g c =
    let e : c.from_residual-in_err-objects.result ≡ Err c.in_err-objects.field-0.0 = search rules in
    rw e (not_grown (value c.args.class) (part_of c.args.selector) c.args.next (g.M.Memory.view c.args.m.now).objects (value c.in_ok-dictionary.dictionary) c.in_ok-dictionary.ensures.fetches c.in_err-objects.field-0.0 c.in_err-objects.ensures)

pub returns : goal.returns
returns g c =
    record {
      dictionary = c.in_ok-dictionary.ensures.fetches;
      grown = c.in_ok-objects.ensures;
      number = c.then_some-number.ensures ∙ ap (λ b. then_some (not b) c.args.next) c.is_empty.ensures ∙ number_if c.in_ok-objects.ensures.grows _ c.args.next (c.in_ok-objects.objects.ok.0 ∙ c.in_ok-objects.ensures.count);
    }
