use Rattle.std.proofs.Common.{◌≡◌, sym, subst, ap, ◌∙◌, Option, Some, Ok, Result}
use Rattle.st_model.specs.declared.dead.Dead.{Dead}
use Rattle.st_model.specs.declared.word.Word.{Word}
use Rattle.st_model.specs.Values.{Value, value, word}
use Rattle.st_model.specs.Machine.{Went}
use Rattle.st_model.specs.Lookup.{find}
use Rattle.st_model.specs.Table.{bounded_table}
use Rattle.st_model.specs.inside.Calls.{Reads}
use Rattle.st_lookup.specs.inside.Places.{found_word}
use Rattle.st_lookup.specs.inside.Remembered.{watched}
use Rattle.st_memory.proofs.Unbounded.{search_bounded}
use Rattle.st_lookup.proofs.cached.is_seen.Goals as goal
use Rattle.st_model.proofs.SameValues.{value_same}

pub returns-in-Ok-Some : goal.returns-in-Ok-Some
returns-in-Ok-Some g c same s e =
    let t = watched c.args.watch.now.words.items (g.M.Memory.view c.args.m.now).objects in
    let w : Word = c.in-Ok-Some.found in
    let h : Reads (find bounded_table (word c.from.result) (word c.from-2.result)) found_word t (Ok c.in-Ok-Some.field-0) =
    subst (λ (r : Result (Option Word) Dead). Reads (find bounded_table (word c.from.result) (word c.from-2.result)) found_word t r) c.in-Ok-Some.is c.look_up.ensures in
    let h2 : Reads (find bounded_table (word c.from.result) (word c.from-2.result)) found_word t (Ok (Some w)) =
    subst (λ (x : Option Word). Reads (find bounded_table (word c.from.result) (word c.from-2.result)) found_word t (Ok x)) c.in-Ok-Some.field-0-is h in
    let k : Reads (find bounded_table (value c.args.class) (value c.args.selector)) found_word t (Ok (Some w)) = rw (c.from.ensures, c.from-2.ensures) at h2 in
    let m : word w ≡ value c.args.method = value_same (word w) (word c.from-in-Ok-Some.result) (sym c.same.ensures ∙ same) ∙ c.from-in-Ok-Some.ensures in
    ap (λ (q : _). q.run s) (sym (search_bounded (value c.args.class) (value c.args.selector))) ∙ (k s e ∙ ap (λ (v : Value). Went (Some v) s) m)
