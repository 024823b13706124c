use Rattle.std.proofs.Common.{◌≡◌, ◌++◌, [], map, sym, ap, ◌∙◌}
use Rattle.std.proofs.lemmas.List.{append-nil}
use Rattle.st_expression_stack.proofs.NameTurns.{texts_map, shared_again}
use Rattle.st_expression_stack.proofs.naming.shared_texts.Goals as goal

pub returns : goal.returns
returns c =
    let texts = c.loop-text.texts.items in
    let none : c.loop-text.text-iterator ≡ [] = c.in-None.ensures.steps.0 in
    texts_map texts ∙ sym (append-nil (map (λ t. t.items) texts)) ∙ ap (λ ss. map (λ t. t.items) texts ++ map (λ s. s.0.items) ss) (sym none)
    ∙ c.loop-text.invariant ∙ shared_again c.args.names.now.shared.entries
