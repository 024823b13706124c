use Rattle.std.proofs.Common.{◌≡◌, ◌<◌, false, length, sym, ap, ◌∙◌, subst, arith}
use Rattle.st_model.specs.Values.{word, is_small, Ref, value_of}
use Rattle.st_model.specs.Table.{Table}
use Rattle.st_memory.specs.declared.made.Made.{Made}
use Rattle.st_draft.specs.inside.Drafts.{AllThere, AreOf, exchanged_by}
use Rattle.st_memory.specs.inside.Making.{made_object}
use Rattle.st_draft.specs.inside.Noted.{noted, drafted}
use Rattle.st_draft.proofs.Behind.{draft_length, next_name}
use Rattle.st_draft.proofs.Keeping.{closed_joined, nil_there, live_joined}
use Rattle.st_memory.proofs.Fresh.{made_of}
use Rattle.st_draft.proofs.Storing.{makes_small, makes_absent, makes}
use Rattle.st_draft.proofs.Exchanged.{of_same, joined_all, length_all}
use Rattle.st_draft.proofs.Moved.{made_more}
use Rattle.st_draft.proofs.draft.DraftObjects.make.Goals as goal

pub returns-then-is_small-clause-makes : goal.returns-then-is_small-clause-makes
returns-then-is_small-clause-makes g c =
    let d = c.args.self.now in
    let now = drafted (g.M.Memory.view d.base.now).objects d.notes d.exchanges in
    makes_small now now c.args.class c.args.kind c.args.size c.args.literals (g.M.Memory.view d.base.now).head (sym c.is_small.ensures ∙ c.if-is_small.true)

pub returns-then-not-is_there-clause-makes : goal.returns-then-not-is_there-clause-makes
returns-then-not-is_there-clause-makes g c =
    let d = c.args.self.now in
    let now = drafted (g.M.Memory.view d.base.now).objects d.notes d.exchanges in
    let even : is_small (word c.args.class) ≡ false = sym c.is_small.ensures ∙ c.if-is_small.false in
    makes_absent now now c.args.class c.args.kind c.args.size c.args.literals (g.M.Memory.view d.base.now).head even (sym c.is_there.ensures ∙ c.if-not-is_there.true)

pub invariant_of-self : goal.invariant_of-self
invariant_of-self g c =
    let d = c.args.self.now in
    let within : d.notes.made_count < length d.notes.made = let a = d.few in let s = d.notes.sizes.0 in let b = c.requires.room in omega (arith, a, s, b) in
    let m : Made = record { class = c.args.class; kind = c.args.kind; size = c.args.size; literals = c.args.literals } in
    let e = c.add-o.ensures in
    let v = g.M.Memory.view d.base.now in
    let even : is_small (word c.args.class) ≡ false = sym c.is_small.ensures ∙ c.if-is_small.false in
    let can = made_of c.args.class c.args.kind c.args.size c.args.literals even c.requires.makeable in
    let whole = g.met.M.Memory.whole d.base.now in
    let table = made_more v.objects d.notes c.add-o.new.self m whole.places within d.notes.named e.made e.made_count e.changes e.count in
    let before = noted (g.M.Memory.view d.base.now).objects d.notes in
    record {
      few = let a = e.made_count in let b = e.count in let r = c.requires.room in omega (arith, a, b, r);
      closed = subst AllThere (sym table) (closed_joined before m can.few d.closed (nil_there v d.notes.made d.notes.made_count d.notes.changes d.notes.count whole (omega (arith, within))));
      there = subst (λ (t : Table). AreOf t d.exchanges.pairs d.exchanges.count) (sym table) (of_same before _ d.exchanges.pairs d.exchanges.count (live_joined before (made_object m)) d.there);
    }

pub returns-clause-makes : goal.returns-clause-makes
returns-clause-makes g c =
    let d = c.args.self.now in
    let within : d.notes.made_count < length d.notes.made = let a = d.few in let s = d.notes.sizes.0 in let b = c.requires.room in omega (arith, a, s, b) in
    let m : Made = record { class = c.args.class; kind = c.args.kind; size = c.args.size; literals = c.args.literals } in
    let e = c.add-o.ensures in
    let v = g.M.Memory.view d.base.now in
    let whole = g.met.M.Memory.whole d.base.now in
    let table = made_more v.objects d.notes c.add-o.new.self m whole.places within d.notes.named e.made e.made_count e.changes e.count in
    let now = drafted (g.M.Memory.view d.base.now).objects d.notes d.exchanges in
    let before = noted (g.M.Memory.view d.base.now).objects d.notes in
    let even : is_small (word c.args.class) ≡ false = sym c.is_small.ensures ∙ c.if-is_small.false in
    let name : word c.add-o.result ≡ Ref (length now) =
    ap value_of e.word ∙ next_name d.notes.made_count
    ∙ ap Ref (sym (draft_length v.objects d.notes.made d.notes.made_count d.notes.changes d.notes.count whole.places (omega (arith, within))) ∙ sym (length_all d.exchanges.pairs before d.exchanges.count d.there)) in
    makes now _ c.args.class c.args.kind c.args.size c.args.literals (g.M.Memory.view d.base.now).head c.add-o.result even (sym c.is_there.ensures ∙ c.if-not-is_there.false) name
    (ap (λ t. exchanged_by t d.exchanges.pairs d.exchanges.count) table ∙ joined_all d.exchanges.pairs before d.exchanges.count d.there (made_object m))

pub add-o-requires-clause-sized : goal.add-o-requires-clause-sized
add-o-requires-clause-sized g c =
    let even : is_small (word c.args.class) ≡ false = sym c.is_small.ensures ∙ c.if-is_small.false in
    made_of c.args.class c.args.kind c.args.size c.args.literals even c.requires.makeable
