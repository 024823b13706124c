use Rattle.std.proofs.Common.{◌≡◌, ◌∙◌, sym, subst, arith, Some, Ok, IfSome}
use Rattle.std.proofs.lemmas.Bool.Decides.{nat_tests}
use Rattle.st_model.specs.Values.{word}
use Rattle.st_model.specs.Lookup.{find}
use Rattle.st_model.specs.Table.{Table, apart}
use Rattle.st_model.specs.inside.Calls.{Reads, itself}
use Rattle.st_draft.specs.declared.notes.Notes.{Notes}
use Rattle.st_draft.specs.declared.exchanges.Exchanges.{Exchanges}
use Rattle.st_draft.specs.inside.Drafts.{draft_table}
use Rattle.st_draft.specs.inside.Noted.{noted, drafted, count_of}
use Rattle.st_draft.proofs.Keeping.{nothing_made}
use Rattle.st_draft.proofs.Moved.{none_exchanged}
use Rattle.st_memory.proofs.Unbounded.{found_apart}
use Rattle.st_draft.proofs.draft.DraftObjects.remembered.Goals as goal

nothing_drafted : (t : Table) (n : Notes) (e : Exchanges) → count_of n e ≡ 0 → drafted t n e ≡ t
nothing_drafted t n e none =
    let made : n.made_count ≡ 0 = omega (arith, none) in
    let changes : n.count ≡ 0 = omega (arith, none) in
    let exchanges : e.count ≡ 0 = omega (arith, none) in
    none_exchanged (noted t n) e exchanges
    ∙ (λ i. draft_table t n.made (made i) n.changes (changes i))
    ∙ nothing_made t n.made n.changes

pub returns : goal.returns
returns g c =
    let d = c.args.self.now in
    let t = (g.M.Memory.view d.base.now).objects in
    let few = c.if-count-gt0.false in
    let count = c.count.ensures in
    let none : count_of d.notes d.exchanges ≡ 0 = grind (arith, nat_tests, few, count) in
    subst (λ u. IfSome c.remembered.result (λ m. Reads (find apart (word c.args.class) (word c.args.selector)) itself u (Ok (Some (word m)))))
    (sym (nothing_drafted t d.notes d.exchanges none))
    (found_apart t (word c.args.class) c.args.selector c.remembered.result c.if-selector-ge65536.false c.remembered.ensures)
