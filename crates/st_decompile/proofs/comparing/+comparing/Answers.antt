use Rattle.std.proofs.Common.{◌≡◌, ℕ, Some, None, sym, ap, ap₂, ◌∙◌, arith}
use Rattle.std.specs.Prelude.{option_map}
use Rattle.st_emit.specs.inside.Views.{literal_view, members_view}
use Rattle.st_decompile.specs.Comparing.{same_members}
use Rattle.st_decompile.specs.inside.Members.{members_now}
use Rattle.st_decompile.proofs.Sameness.{array_some, array_none, array_is, members_end}
use Rattle.st_decompile.proofs.comparing.+comparing.Goals as goal

pub same_literal-returns-in-Some : goal.same_literal-returns-in-Some
same_literal-returns-in-Some t c =
    let x = c.in-Array-default.x in
    let found = sym c.members_of.ensures ∙ ap (option_map members_now) c.in-Some.is in
    c.same_members.ensures ∙ ap (λ ls. same_members (members_view ls) (members_view c.in-Some.y.now)) c.deref.ensures.value
    ∙ array_some (members_view x.items) (members_view c.in-Some.y.now) (literal_view c.args.b.now) found
    ∙ array_is c.args.a.now x (literal_view c.args.b.now) c.in-Array-default.is-0

pub same_literal-returns-in-None : goal.same_literal-returns-in-None
same_literal-returns-in-None t c =
    let x = c.in-Array-default.x in
    let found = sym c.members_of.ensures ∙ ap (option_map members_now) c.in-None.is in
    array_none (members_view x.items) (literal_view c.args.b.now) found
    ∙ array_is c.args.a.now x (literal_view c.args.b.now) c.in-Array-default.is-0

pub same_members-returns : goal.same_members-returns
same_members-returns t c = c.is_empty.ensures ∙ members_end c.args.a.now _ c.loop-x.x-index _ (omega arith) c.loop-x.invariant
