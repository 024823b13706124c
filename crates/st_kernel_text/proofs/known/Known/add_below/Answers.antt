use Rattle.std.proofs.Common.{◌≡◌, ℕ, ◌+◌, length, sym, ap, ◌∙◌, subst}
use Rattle.std.specs.Prelude.{Result, Ok, List}
use Rattle.st_kernel_text.specs.declared.cause.Cause.{Cause}
use Rattle.st_kernel_text.specs.Known.{Known, and_then, with_layout, with_variables}
use Rattle.st_kernel_text.specs.inside.Lists.{texts_of}
use Rattle.st_kernel_text.specs.inside.Views.{class_of}
use Rattle.st_kernel_text.specs.inside.Reading.{Declares}
use Rattle.st_kernel_text.proofs.Chunks.{declares_over}
use Rattle.st_kernel_text.proofs.known.Known.add_below.Goals as goal

pub returns : goal.returns
returns c =
    let now = c.args.self.now in
    let class = class_of c.args.class.now in
    let inside = c.self.inside in
    let declared : with_variables c.args.number class.variables now.fields ≡ Ok c.declare.new.self =
    (λ i. with_variables c.args.number (texts_of (sym c.deref.ensures.value i)) ((sym c.self.view_is i).fields)) ∙ c.in_ok-declare.ensures in
    let fields : c.args.inherited + length class.variables ≡ c.fields_below.result =
    sym (c.fields_below.ensures ∙ ap (λ (n : ℕ). c.args.inherited + n) (ap (λ ts. length (texts_of ts)) c.deref-2.ensures.value)) in
    let same : and_then (with_layout now c.args.number class (c.args.inherited + length class.variables)) (with_variables c.args.number class.variables now.fields)
    ≡ with_layout (record { names = inside.names; fields = inside.fields; shared = inside.shared }) c.args.number class c.fields_below.result c.declare.new.self =
    ap (λ (r : Result (List (ℕ × List ℕ)) Cause). and_then (with_layout now c.args.number class (c.args.inherited + length class.variables)) r) declared
    ∙ (λ i. with_layout (sym c.self.view_is i) c.args.number class (fields i) c.declare.new.self) in
    subst (λ (r : Result Known Cause). Declares r now c.add_layout.new.self c.add_layout.result) (sym same)
    (declares_over _ (record { names = inside.names; fields = c.declare.new.self; shared = inside.shared }) now _ _ (ap (λ (k : Known). k.names) c.self.view_is) c.add_layout.ensures)
