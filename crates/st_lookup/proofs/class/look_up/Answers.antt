use Rattle.std.proofs.Common.{◌≡◌, ◌-◌, ◌∙◌, sym, Option, Ok, Err, arith, subst, rules}
use Rattle.st_model.specs.declared.word.Word.{Word}
use Rattle.st_model.specs.Values.{word}
use Rattle.st_model.specs.Lookup.{method_in_class}
use Rattle.st_model.specs.inside.Calls.{Reads}
use Rattle.st_lookup.specs.inside.Places.{found_word}
use Rattle.st_lookup.proofs.Chain.{LeftClasses, some_left, all_classes, chain_ends, chain_dies, class_dies, class_has, above_dies, above_left}
use Rattle.st_lookup.proofs.class.look_up.Goals as goal

pub loop-selector-init : goal.loop-selector-init
loop-selector-init g c = all_classes g.met.O.Reading.tabular (word c.args.selector) (g.O.Reading.table c.args.m.now) (word c.args.class)

pub returns-then-left-eq0 : goal.returns-then-left-eq0
returns-then-left-eq0 g c =
    let none : LeftClasses g.O.Reading.names (word c.args.selector) (word c.args.class) 0 (word c.loop-selector.class) (g.O.Reading.table c.args.m.now) =
    subst (λ n. LeftClasses g.O.Reading.names (word c.args.selector) (word c.args.class) n (word c.loop-selector.class) (g.O.Reading.table c.args.m.now)) c.if-left-eq0.true c.loop-selector.invariant in
    chain_dies g.met.O.Reading.tabular (word c.args.selector) (g.O.Reading.table c.args.m.now) (word c.args.class) (word c.loop-selector.class) none (rw c.word-nil.ensures at (sym c.same.ensures ∙ c.loop-selector-test.true))

pub returns-in_err-method : goal.returns-in_err-method
returns-in_err-method g c =
    let e : c.from_residual.result ≡ Err c.in_err-method.field-0.0 = search rules in
    rw e (class_dies g.met.O.Reading.tabular (word c.args.selector) (g.O.Reading.table c.args.m.now) (word c.args.class) (word c.loop-selector.class) (c.loop-selector.left - 1) (some_left g.O.Reading.names (word c.args.selector) (word c.args.class) c.loop-selector.left (word c.loop-selector.class) (g.O.Reading.table c.args.m.now) (omega arith) c.loop-selector.invariant) (rw c.word-nil.ensures at (sym c.same.ensures ∙ c.loop-selector-test.true)) c.in_err-method.field-0.0 c.in_err-method.ensures)

pub returns-in-Some : goal.returns-in-Some
returns-in-Some g c = class_has g.met.O.Reading.tabular (word c.args.selector) (g.O.Reading.table c.args.m.now) (word c.args.class) (word c.loop-selector.class) (c.loop-selector.left - 1) (some_left g.O.Reading.names (word c.args.selector) (word c.args.class) c.loop-selector.left (word c.loop-selector.class) (g.O.Reading.table c.args.m.now) (omega arith) c.loop-selector.invariant) (rw c.word-nil.ensures at (sym c.same.ensures ∙ c.loop-selector-test.true)) c.in-Some.method (subst (λ (x : Option Word). Reads (method_in_class g.O.Reading.names (word c.loop-selector.class) (word c.args.selector)) found_word (g.O.Reading.table c.args.m.now) (Ok x)) c.in-Some.is c.in_ok-method.ensures)

pub returns-in_err-class : goal.returns-in_err-class
returns-in_err-class g c =
    let e : c.from_residual-in_err-class.result ≡ Err c.in_err-class.field-0.0 = search rules in
    rw e (above_dies g.met.O.Reading.tabular (word c.args.selector) (g.O.Reading.table c.args.m.now) (word c.args.class) (word c.loop-selector.class) (c.loop-selector.left - 1) (some_left g.O.Reading.names (word c.args.selector) (word c.args.class) c.loop-selector.left (word c.loop-selector.class) (g.O.Reading.table c.args.m.now) (omega arith) c.loop-selector.invariant) (rw c.word-nil.ensures at (sym c.same.ensures ∙ c.loop-selector-test.true)) c.in_err-class.field-0.0 (subst (λ (x : Option Word). Reads (method_in_class g.O.Reading.names (word c.loop-selector.class) (word c.args.selector)) found_word (g.O.Reading.table c.args.m.now) (Ok x)) c.in_default.is c.in_ok-method.ensures) c.in_err-class.ensures)

pub loop-selector-preserved : goal.loop-selector-preserved
loop-selector-preserved g c = above_left g.met.O.Reading.tabular (word c.args.selector) (g.O.Reading.table c.args.m.now) (word c.args.class) (word c.loop-selector.class) (c.loop-selector.left - 1) (some_left g.O.Reading.names (word c.args.selector) (word c.args.class) c.loop-selector.left (word c.loop-selector.class) (g.O.Reading.table c.args.m.now) (omega arith) c.loop-selector.invariant) (rw c.word-nil.ensures at (sym c.same.ensures ∙ c.loop-selector-test.true)) c.in_ok-class.class (subst (λ (x : Option Word). Reads (method_in_class g.O.Reading.names (word c.loop-selector.class) (word c.args.selector)) found_word (g.O.Reading.table c.args.m.now) (Ok x)) c.in_default.is c.in_ok-method.ensures) c.in_ok-class.ensures

pub returns : goal.returns
returns g c = chain_ends g.met.O.Reading.tabular (word c.args.selector) (g.O.Reading.table c.args.m.now) (word c.args.class) (word c.loop-selector.class) c.loop-selector.left c.loop-selector.invariant (rw c.word-nil.ensures at (sym c.same.ensures ∙ c.loop-selector-test.false))
