-- What is fixed says what is held, and under which name the memory is borrowed.
use Rattle.std.proofs.Common.{◌≡◌, ℕ, length, sym, ap, ◌∙◌}
use Rattle.std.specs.Prelude.{None}
use Rattle.std.proofs.lemmas.List.{length-replicate}
use Rattle.st_model.specs.View.{View}
use Rattle.st_control.specs.inside.Borrowed.{fixed_of}

pub same_held : (v w : View) (a b : ℕ) → fixed_of w b ≡ fixed_of v a → w.held ≡ v.held
same_held v w a b e = ap (λ (x : View). x.held) e

pub same_name : (v w : View) (a b : ℕ) → fixed_of w b ≡ fixed_of v a → b ≡ a
same_name v w a b e =
    sym (length-replicate b None) ∙ ap (λ (x : View). length x.objects) e ∙ length-replicate a None

pub ruleset fixed = (same_held, same_name)
