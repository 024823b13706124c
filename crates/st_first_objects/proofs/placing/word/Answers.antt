use Rattle.std.proofs.Common.{ap, sym, ◌∙◌, ◌%◌}
use Rattle.st_first_objects.specs.Pointers.{value_in}
use Rattle.st_first_objects.specs.inside.Views.{field_of}
use Rattle.st_first_objects.proofs.Places.{value_of_nil}
use Rattle.st_first_objects.proofs.placing.word.Goals as goal
use Rattle.st_model.proofs.Pointers.{value_of-odd}

pub returns-in-Empty : goal.returns-in-Empty
returns-in-Empty c = value_of_nil ∙ ap (λ f. value_in c.args.plan.now.order.things (field_of f)) (sym c.in-Empty.is)

pub returns-in-Number : goal.returns-in-Number
returns-in-Number c = value_of-odd (c.in-Number.number % 32768) ∙ ap (λ f. value_in c.args.plan.now.order.things (field_of f)) (sym c.in-Number.is)
