use Rattle.std.proofs.Common.{◌≡◌, ℕ, ◌+◌, ◌*◌, ◌/◌, ◌<◌, ◌++◌, suc, take, drop, sym, ap, ◌∙◌, subst, length, true, false, arith, append_assoc}
use Rattle.st_model.specs.declared.oop.Oop.{Oop}
use Rattle.st_model.specs.Values.{value, value_of}
use Rattle.st_model.specs.Table.{Table}
use Rattle.st_model.specs.View.{is_live, object_of}
use Rattle.st_model.specs.Text.{object_text, objects_text}
use Rattle.st_call.proofs.Pushing.{push_none, push_then, push_begun, push_as}
use Rattle.st_memory.proofs.Bodies.{even_pointer}
use Rattle.st_call.proofs.Listing.{IsEmptyFrom, first_line, next_line, cut_lines, all_lines, live_entry, empty_from}
use Rattle.st_call.proofs.objects.push_objects.Goals as goal

-- the lines up to a pointer's, and with it
up_to : (t : Table) (after pointer : ℕ) → after < pointer → is_live t (value_of pointer) ≡ true → ((p : Oop) → after < p.0 → p.0 < pointer → is_live t (value p) ≡ false)
    → objects_text 0 (take (pointer / 2 + 1) t) ≡ objects_text 0 (take (after / 2 + 1) t) ++ object_text (pointer / 2) (object_of t (value_of pointer))
up_to t after pointer later live least =
    let even = even_pointer t pointer live in
    let next : pointer / 2 + 1 ≡ suc (pointer / 2) = omega arith in
    let at : 0 + pointer / 2 ≡ pointer / 2 = omega arith in
    ap (λ n. objects_text 0 (take n t)) next
    ∙ (next_line 0 (after / 2 + 1) (pointer / 2) t (object_of t (value_of pointer)) (omega (arith, later, even)) (empty_from t after pointer least) (live_entry t pointer live)
    ∙ ap (λ n. objects_text 0 (take (after / 2 + 1) t) ++ object_text n (object_of t (value_of pointer))) at)

ended : (t : Table) (after : ℕ) → ((p : Oop) → after < p.0 → is_live t (value p) ≡ false) → objects_text 0 (take (after / 2 + 1) t) ≡ objects_text 0 t
ended t after none =
    let halved : (2 * length t) / 2 ≡ length t = grind arith in
    sym (all_lines 0 (after / 2 + 1) t (subst (λ n. IsEmptyFrom t (after / 2 + 1) n) halved (empty_from t after (2 * length t) (λ p low high. none p low))))

pub loop-o-init : goal.loop-o-init
loop-o-init g c =
    push_as (push_none g.H.Host c.args.host.now (g.met.H.Host.only_now c.args.host.now)) (sym (first_line (g.M.Memory.view c.args.m.now).objects (g.met.M.Memory.whole c.args.m.now).unused))

pub returns-in_err-push_object : goal.returns-in_err-push_object
returns-in_err-push_object g c =
    let t = (g.M.Memory.view c.args.m.now).objects in
    let after = c.loop-o.after in
    let pointer = c.in-Some.o.0 in
    let rest = objects_text (0 + (pointer / 2 + 1)) (drop (pointer / 2 + 1) t) in
    let seen = objects_text 0 (take (after / 2 + 1) t) in
    let line = object_text (pointer / 2) (object_of t (value_of pointer)) in
    let cut = cut_lines 0 (pointer / 2 + 1) t
    ∙ (ap (λ u. u ++ rest) (up_to t after pointer c.in-Some.ensures.found.1 c.in-Some.ensures.found.0 c.in-Some.ensures.least) ∙ append_assoc seen line rest) in
    push_as (push_then c.loop-o.invariant (push_begun rest c.from_residual.ensures.0 c.in_err-push_object.ensures)) (sym cut)

pub loop-o-preserved : goal.loop-o-preserved
loop-o-preserved g c =
    let t = (g.M.Memory.view c.args.m.now).objects in
    let after = c.loop-o.after in
    let same : c.from-after.result ≡ c.in-Some.o.0 = c.from-after.ensures in
    push_as (push_then c.loop-o.invariant c.in_ok-push_object.ensures)
    (sym (ap (λ n. objects_text 0 (take (n / 2 + 1) t)) same ∙ up_to t after c.in-Some.o.0 c.in-Some.ensures.found.1 c.in-Some.ensures.found.0 c.in-Some.ensures.least))

pub returns : goal.returns
returns g c = push_as c.loop-o.invariant (ended (g.M.Memory.view c.args.m.now).objects c.loop-o.after c.in_default.ensures.none)
