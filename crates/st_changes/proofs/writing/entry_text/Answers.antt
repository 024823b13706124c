use Rattle.std.proofs.Common.{ℕ, List, [], ◌∷◌, ◌++◌, ap, ◌∙◌}
use Rattle.st_changes.specs.inside.Runs.{doubled_by}
use Rattle.st_changes.specs.inside.Views.{definition_of}
use Rattle.st_changes.proofs.EntryTexts.{entry_put}
use Rattle.st_changes.proofs.writing.entry_text.Goals as goal

pub returns : goal.returns
returns c =
    c.in_ok-extend_from_slice-2.ensures.items
    ∙ ap (λ (x : List ℕ). x ++ 33 ∷ 32 ∷ 33 ∷ 10 ∷ [])
    (c.in_ok-put_doubled-2.ensures
    ∙ ap (λ (x : List ℕ). x ++ doubled_by 33 c.deref-2.result.now)
    (c.in_ok-extend_from_slice.ensures.items
    ∙ ap (λ (x : List ℕ). x ++ 33 ∷ 10 ∷ [])
    (c.in_ok-put_doubled.ensures
    ∙ ap (λ (x : List ℕ). x ++ doubled_by 33 c.deref.result.now) (c.in_ok-push.ensures.items ∙ ap (λ (x : List ℕ). x ++ 33 ∷ []) c.new-text.ensures.items))))
    ∙ entry_put (definition_of c.args.definition.now) c.deref.result.now c.deref-2.result.now (c.deref.ensures.value ∙ c.in_ok-header.ensures) c.deref-2.ensures.value
