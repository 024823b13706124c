use Rattle.std.proofs.Common.{◌≡◌, ◌≢◌, sym, ◌∙◌, ap, arith}
use Rattle.std.proofs.lemmas.Bool.Decides.{nat_tests}
use Rattle.st_model.specs.Values.{value, value_of}
use Rattle.st_plain.specs.inside.Plain.{plain_view}
use Rattle.st_counted.proofs.Instances.{live_instance, other_class, none_below, none_through, none_left}
use Rattle.st_plain.proofs.memory.PlainMemoryMemory.next_of.Goals as goal

pub returns-then-eq-clause-found : goal.returns-then-eq-clause-found
returns-then-eq-clause-found c =
    let same : c.class_of.result.0 ≡ c.args.class.0 = grind (arith, nat_tests) in
    live_instance (plain_view c.args.self.now.contents).objects (value c.args.class) (value c.in-Some.o) c.in-Some.ensures.found.0 (ap value_of (sym same) ∙ c.class_of.ensures.class)

pub returns-then-eq-clause-least : goal.returns-then-eq-clause-least
returns-then-eq-clause-least c = λ p low high.
    none_below (plain_view c.args.self.now.contents).objects (value c.args.class) c.args.after c.loop-o.after c.loop-o.invariant.none c.in-Some.o p c.in-Some.ensures.least low high

pub loop-o-preserved : goal.loop-o-preserved
loop-o-preserved c =
    let t = (plain_view c.args.self.now.contents).objects in
    let on = c.loop-o.invariant.on in
    let found = c.in-Some.ensures.found.1 in
    let is = c.from-after.ensures in
    let differ : c.class_of.result.0 ≢ c.args.class.0 = grind (arith, nat_tests) in
    let other = other_class t c.class_of.result.0 c.args.class.0 (value c.in-Some.o) c.class_of.ensures.class differ in
    record {
      on = omega (arith, on, found, is);
      none = λ p low high. none_through t (value c.args.class) c.args.after c.loop-o.after c.loop-o.invariant.none c.in-Some.o p c.in-Some.ensures.least other low (omega (arith, high, is));
    }

pub returns-clause-none : goal.returns-clause-none
returns-clause-none c = λ p low. none_left (plain_view c.args.self.now.contents).objects (value c.args.class) c.args.after c.loop-o.after c.loop-o.invariant.none p c.in_default.ensures.none low
