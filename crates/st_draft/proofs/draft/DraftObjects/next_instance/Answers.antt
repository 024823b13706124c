use Rattle.std.proofs.Common.{◌≡◌, ℕ, ◌+◌, ◌-◌, ◌<◌, suc, sym, ap, ◌∙◌, arith}
use Rattle.std.specs.Prelude.{None}
use Rattle.st_model.specs.Values.{Value, word}
use Rattle.st_model.specs.Table.{Table}
use Rattle.st_model.specs.Steps.{named_or_not}
use Rattle.st_draft.specs.inside.Noted.{drafted}
use Rattle.st_draft.proofs.Bearing.{first_of, first_some, first_none_here, first_end, reads_first}
use Rattle.st_draft.proofs.draft.DraftObjects.next_instance.Goals as goal

pub returns-then-after-gt32766 : goal.returns-then-after-gt32766
returns-then-after-gt32766 g c =
    let d = c.args.self.now in
    let now = drafted (g.M.Memory.view d.base.now).objects d.notes d.exchanges in
    let h = c.if-after-gt32766.true in
    let none : 32767 - c.args.after ≡ 0 = omega (arith, h) in
    reads_first now (word c.args.class) c.args.after None
    (ap (λ n. named_or_not (first_of now (word c.args.class) (suc c.args.after) n)) none ∙ first_end now (word c.args.class) (suc c.args.after))

-- one place less is left
one_less : (now : Table) (class : Value) (place : ℕ) → place < 32768 → named_or_not (first_of now class place (32768 - place)) ≡ named_or_not (first_of now class place (suc (32767 - place)))
one_less now class place l = let left : 32768 - place ≡ suc (32767 - place) = omega (arith, l) in ap (λ n. named_or_not (first_of now class place n)) left

pub returns-then-is_some : goal.returns-then-is_some
returns-then-is_some g c =
    let d = c.args.self.now in
    let now = drafted (g.M.Memory.view d.base.now).objects d.notes d.exchanges in
    let place = c.loop-place.place in
    reads_first now (word c.args.class) c.args.after c.instance_at-instance.result
    (c.loop-place.invariant.same
    ∙ one_less now (word c.args.class) place c.loop-place-test.true
    ∙ first_some now (word c.args.class) place (32767 - place) c.instance_at-instance.result (sym c.is_some.ensures ∙ c.if-is_some.true) c.instance_at-instance.ensures)

pub loop-place-preserved : goal.loop-place-preserved
loop-place-preserved g c =
    let d = c.args.self.now in
    let now = drafted (g.M.Memory.view d.base.now).objects d.notes d.exchanges in
    let place = c.loop-place.place in
    let l = c.loop-place-test.true in
    let rest : 32767 - place ≡ 32768 - (place + 1) = omega (arith, l) in
    let next : suc place ≡ place + 1 = omega arith in
    record {
      number = c.next_number-number.ensures;
      same = c.loop-place.invariant.same
          ∙ one_less now (word c.args.class) place l
          ∙ first_none_here now (word c.args.class) place (32767 - place) c.instance_at-instance.result (sym c.is_some.ensures ∙ c.if-is_some.false) c.instance_at-instance.ensures
          ∙ ap (λ n. named_or_not (first_of now (word c.args.class) (suc place) n)) rest
          ∙ ap (λ k. named_or_not (first_of now (word c.args.class) k (32768 - (place + 1)))) next;
    }

pub returns : goal.returns
returns g c =
    let d = c.args.self.now in
    let now = drafted (g.M.Memory.view d.base.now).objects d.notes d.exchanges in
    let place = c.loop-place.place in
    let l = c.loop-place-test.false in
    let none : 32768 - place ≡ 0 = omega (arith, l) in
    reads_first now (word c.args.class) c.args.after None
    (c.loop-place.invariant.same ∙ ap (λ n. named_or_not (first_of now (word c.args.class) place n)) none ∙ first_end now (word c.args.class) place)
