use Rattle.std.proofs.Common.{◌≡◌, ℕ, length, sym, ap, ◌∙◌, subst}
use Rattle.std.specs.Prelude.{Result, Ok, List}
use Rattle.st_kernel_text.specs.declared.cause.Cause.{Cause}
use Rattle.st_kernel_text.specs.declared.named.Layout.{Layout}
use Rattle.st_kernel_text.specs.declared.named.Named.TheVariants.{Class}
use Rattle.st_kernel_text.specs.Known.{Known, and_then, with_name, with_more, with_shared, with_variables}
use Rattle.st_kernel_text.specs.inside.Lists.{texts_of}
use Rattle.st_kernel_text.specs.inside.Views.{pool_of}
use Rattle.st_kernel_text.specs.inside.Reading.{Declares}
use Rattle.st_kernel_text.proofs.Chunks.{declares_over}
use Rattle.st_kernel_text.proofs.known.Known.add_shared.Goals as goal

abbrev named : Known → (name : List ℕ) → Layout → Result Known Cause
named k name of = Ok (with_name k name (Class of))

pub returns : goal.returns
returns c =
    let now = c.args.self.now in
    let pool = pool_of c.args.pool.now in
    let inside = c.self.inside in
    let layout = c.args.layout in
    let all = c.declare.new.self in
    let declared : with_variables layout.number pool.variables now.shared ≡ Ok all =
    (λ i. with_variables layout.number (texts_of (sym c.deref.ensures.value i)) ((sym c.self.view_is i).shared)) ∙ c.in_ok-declare.ensures in
    let more : with_more layout (length pool.variables) ≡ c.with_more-more.result =
    sym (c.with_more-more.ensures ∙ ap (λ ts. with_more layout (length (texts_of ts))) c.deref-2.ensures.value) in
    let same : with_shared now pool layout ≡ named (record { names = inside.names; fields = inside.fields; shared = all }) c.deref-3.result.now c.with_more-more.result =
    ap (λ (r : Result (List (ℕ × List ℕ)) Cause). and_then (λ vs. named (record now { shared = vs }) pool.class (with_more layout (length pool.variables))) r) declared
    ∙ (λ i. named (record (sym c.self.view_is i) { shared = all }) (sym c.deref-3.ensures.value i) (more i)) in
    subst (λ (r : Result Known Cause). Declares r now c.add_name.new.self c.add_name.result) (sym same)
    (declares_over _ (record { names = inside.names; fields = inside.fields; shared = all }) now _ _ (ap (λ (k : Known). k.names) c.self.view_is) c.add_name.ensures)
