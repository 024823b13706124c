use Rattle.std.proofs.Common.{ℕ, List, sym, ap, ◌∙◌}
use Rattle.st_kernel_text.specs.Known.{with_variable}
use Rattle.st_kernel_text.proofs.Listed.{variable_refused, variable_put}
use Rattle.st_kernel_text.proofs.variables.Variables.declare_one.Goals as goal

pub returns-then-not-added : goal.returns-then-not-added
returns-then-not-added c =
    let text = c.in_ok-to_vec.ensures.items_if_clones_equal (λ x y h. h) in
    sym (ap (λ (v : List (ℕ × List ℕ)). with_variable c.args.class c.args.name.now v) c.self.view_is)
    ∙ variable_refused c.self.inside.names.keys c.args.class c.in_ok-to_vec.field-0 c.args.name.now c.in_ok-added.added text c.in_ok-added.ensures.added c.if-not-added.true

pub returns : goal.returns
returns c =
    let text = c.in_ok-to_vec.ensures.items_if_clones_equal (λ x y h. h) in
    sym (ap (λ (v : List (ℕ × List ℕ)). with_variable c.args.class c.args.name.now v) c.self.view_is)
    ∙ variable_put c.self.inside.names.keys c.args.class c.in_ok-to_vec.field-0 c.args.name.now c.in_ok-added.added text c.in_ok-added.ensures.added c.insert_full.new.self.keys c.if-not-added.false c.in_ok-added.ensures.keys
