use Rattle.std.proofs.Common.{rules, ◌≡◌, [], ◌∷◌, ◌++◌, length, sym, ap, ◌∙◌, subst}
use Rattle.std.specs.Prelude.{Result, Err, option_map}
use Rattle.std.proofs.lemmas.List.{length-map, map-append}
use Rattle.st_kernel_text.specs.declared.cause.Stop.{Stop}
use Rattle.st_kernel_text.specs.inside.Reading.{Tells, account_behind}
use Rattle.st_kernel_text.specs.inside.Views.{part_of, parts_of}
use Rattle.st_kernel_text.specs.inside.States.{state_of}
use Rattle.st_kernel_text.proofs.Chunks.{read_more, read_stops}
use Rattle.st_kernel_text.proofs.reading.Reader.read_chunk.Goals as goal

pub returns-in_err-add : goal.returns-in_err-add
returns-in_err-add c = λ chunks rest.
    let old = c.args.self.now in
    let here = ap length c.as_slice-number.ensures.value ∙ sym (length-map old.parts.items part_of) in
    let formed = sym c.in_ok-part.ensures ∙ ap (option_map part_of) c.in-Some.is in
    let e : c.from_residual-in_err-add.result ≡ Err c.in_err-add.field-0.0 = search rules in
    subst (λ (r : Result Unit Stop). Tells (account_behind (state_of old) (c.args.chunk.now ∷ chunks) rest) (λ s. account_behind s chunks rest) (state_of (record old { known = c.add.new.self })) r) (sym e)
    (read_stops (state_of old) (length c.as_slice-number.result.now) c.args.chunk.now (part_of c.in-Some.part) here formed chunks rest c.add.new.self c.in_err-add.field-0.0 (λ s. account_behind s chunks rest) c.in_err-add.ensures)

pub returns : goal.returns
returns c = λ chunks rest.
    let old = c.args.self.now in
    let here = ap length c.as_slice-number.ensures.value ∙ sym (length-map old.parts.items part_of) in
    let formed = sym c.in_ok-part.ensures ∙ ap (option_map part_of) c.in-Some.is in
    let pushed = ap parts_of c.in_ok-push.ensures.items ∙ map-append part_of old.parts.items (c.in-Some.part ∷ []) in
    read_more (state_of old) (length c.as_slice-number.result.now) c.args.chunk.now (part_of c.in-Some.part) here formed chunks rest c.add.new.self c.in_ok-add.ensures
    ∙ (λ i. account_behind (record { place = sym c.behind_part-self.ensures i; known = c.add.new.self; parts = sym pushed i }) chunks rest)
