use Rattle.std.proofs.Common.{ℕ, List, ◌++◌, map, ap, ap₂, ◌∙◌, subst}
use Rattle.st_emit.specs.inside.NameViews.{names_view, texts_view}
use Rattle.st_expression_stack.specs.inside.Called.{IsTaken}
use Rattle.st_expression_stack.specs.Names.{usable_or, texts_of}
use Rattle.st_expression_stack.proofs.Kept.{own_called}
use Rattle.st_expression_stack.proofs.naming.calling_of.Goals as goal

pub returns : goal.returns
returns c =
    let names = names_view c.args.names.now in
    let shared : List (List ℕ) = texts_of names.shared in
    let all = ap₂ (λ (xs ys : List (List ℕ)). xs ++ ys) (ap texts_view c.deref-3.ensures.value) (ap texts_view c.deref-4.ensures.value ∙ c.in_ok-texts.ensures) in
    let taken = subst (λ (ts : List (List ℕ)). IsTaken ts c.in_ok-taken.taken) all c.in_ok-taken.ensures in
    let fields = c.in_ok-fields.ensures ∙ ap (λ ts. map usable_or (texts_view ts)) c.deref.ensures.value in
    let own = own_called (names.fields ++ shared) c.in_ok-taken.taken c.in_ok-own.own.items taken c.in_ok-own.ensures in
    λ i. record { fields = fields i; shared = c.in_ok-shared.ensures i; own = own i }
