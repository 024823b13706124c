use Rattle.std.proofs.Common.{List, ℕ, refl, sym, subst, codes, false, lit≤}
use Rattle.st_chunk.specs.Definitions.{IsDefinition}
use Rattle.st_text_tests.proofs.changes.definition.Goals as goal

good : IsDefinition (record { class = codes "Point"; meta = false; category = codes "it's!"; text = codes "x ^'!'" })
good = record { named = refl; there = lit≤ tt; short = lit≤ tt; front = refl; back = refl; header = lit≤ tt }

pub returns : goal.returns
returns c =
    subst (λ (x : List ℕ). IsDefinition (record { class = x; meta = false; category = c.in_ok-category.category.items; text = c.in_ok-text.text.items })) (sym c.in_ok-class.ensures)
    (subst (λ (x : List ℕ). IsDefinition (record { class = codes "Point"; meta = false; category = x; text = c.in_ok-text.text.items })) (sym c.in_ok-category.ensures)
    (subst (λ (x : List ℕ). IsDefinition (record { class = codes "Point"; meta = false; category = codes "it's!"; text = x })) (sym c.in_ok-text.ensures) good))
