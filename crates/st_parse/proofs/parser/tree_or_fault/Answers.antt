use Rattle.std.proofs.Common.{◌≡◌, ◌-◌, List, length, drop, sym, ap, subst, ◌∙◌}
use Rattle.st_grammar.specs.declared.leaf.Leaf.{Leaf}
use Rattle.st_grammar.specs.Faults.{most}
use Rattle.st_grammar.specs.Reading.{Fails, whole_at}
use Rattle.st_grammar.specs.Texts.{place_at}
use Rattle.st_parse.proofs.Parsing.{is_tree, scanner_fault, grammar_fault}
use Rattle.st_parse.proofs.parser.tree_or_fault.Goals as goal

pub returns-in-None-clause-tree : goal.returns-in-None-clause-tree
returns-in-None-clause-tree c =
    is_tree c.args.text.now c.in_ok-scanned.scanned.tokens.items c.in_ok-scanned.scanned.fault c.deref.result.now _ c.in_ok-scanned.ensures.exact c.in-None.is (c.deref.ensures.value ∙ c.in_ok-leaves.ensures) c.in-Ok.ensures

pub returns-in-Ok-clause-fault : goal.returns-in-Ok-clause-fault
returns-in-Ok-clause-fault c =
    scanner_fault c.args.text.now c.in_ok-scanned.scanned.tokens.items c.in_ok-scanned.scanned.fault c.deref.result.now _ c.in-Some.fault _ c.in_ok-scanned.ensures.exact c.in-Some.is (c.deref.ensures.value ∙ c.in_ok-leaves.ensures) c.in-Ok.ensures c.from.ensures

pub returns-in-Err-Fault-clause-fault : goal.returns-in-Err-Fault-clause-fault
returns-in-Err-Fault-clause-fault c =
    let ws = c.deref.result.now in
    let same : c.deref-in-Err-Fault.result.now ≡ ws = c.deref-in-Err-Fault.ensures.value ∙ sym c.deref.ensures.value in
    let read = subst (λ e. Fails e (whole_at c.args.text.now most ws)) c.in-Err-Fault.field-0-is c.in-Err-Fault.ensures in
    let here = c.place_at-place.ensures ∙ ap (λ (l : List Leaf). place_at c.args.text.now (drop (length l - c.in-Err-Fault.left) l)) same in
    grammar_fault c.args.text.now c.in_ok-scanned.scanned.tokens.items c.in_ok-scanned.scanned.fault ws c.in-Err-Fault.cause c.in-Err-Fault.left _ _ _ c.in_ok-scanned.ensures.exact (c.deref.ensures.value ∙ c.in_ok-leaves.ensures) read here c.first_fault-fault.ensures c.from-in-Err-Fault.ensures
