use Rattle.std.proofs.Common.{ℕ, List, [], ◌∷◌, ◌++◌, ap, ◌∙◌}
use Rattle.st_chunk.specs.Definitions.{header_for}
use Rattle.st_changes.specs.inside.Runs.{doubled_by}
use Rattle.st_changes.specs.inside.Views.{definition_of}
use Rattle.st_changes.proofs.HeaderTexts.{header_put}
use Rattle.st_changes.proofs.writing.header_text.Goals as goal

pub returns : goal.returns
returns c =
    c.in_ok-push.ensures.items
    ∙ ap (λ (x : List ℕ). x ++ 39 ∷ [])
    (c.in_ok-put_doubled.ensures
    ∙ ap (λ (x : List ℕ). x ++ doubled_by 39 c.deref-2.result.now)
    (c.in_ok-extend_from_slice-2.ensures.items
    ∙ ap (λ (x : List ℕ). x ++ c.side_front.result.now) (c.in_ok-extend_from_slice.ensures.items ∙ ap (λ (x : List ℕ). x ++ c.deref.result.now) c.new-text.ensures.items)))
    ∙ header_put (header_for (definition_of c.args.definition.now)) c.deref.result.now c.side_front.result.now c.deref-2.result.now c.deref.ensures.value c.side_front.ensures.value c.deref-2.ensures.value
