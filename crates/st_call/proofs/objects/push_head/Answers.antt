use Rattle.std.proofs.Common.{◌≡◌, ◌*◌, ◌/◌, ◌∙◌, sym, ap, ℕ, List}
use Rattle.st_model.specs.Values.{Value, Ref, value}
use Rattle.st_model.specs.Text.{heading_text, object_head, kind_text}
use Rattle.st_model.specs.View.{object_of}
use Rattle.st_model.specs.Objects.{Object}
use Rattle.st_memory.proofs.Bodies.{even_pointer}
use Rattle.st_call.proofs.Pushing.{push_as}
use Rattle.st_call.proofs.objects.push_head.Goals as goal

heading : (w p : ℕ) (class : Value) (letter : List ℕ) (o : Object) → w ≡ p → 2 * (p / 2) ≡ p → class ≡ Ref o.class → letter ≡ kind_text o.kind → heading_text w class letter ≡ object_head (p / 2) o
heading w p class letter o same even is_class is_letter = λ k. heading_text ((same ∙ sym even) k) (is_class k) (is_letter k)

pub returns : goal.returns
returns g c =
    let o = object_of (g.M.Memory.view c.args.m.now).objects (value c.args.o) in
    push_as c.push_heading.ensures
    (heading c.from.result c.args.o.0 (value c.class_of.result) c.kind_letter.result.now o c.from.ensures (even_pointer _ c.args.o.0 c.requires) c.class_of.ensures.class
    (c.kind_letter.ensures ∙ ap kind_text c.kind.ensures.kind))
