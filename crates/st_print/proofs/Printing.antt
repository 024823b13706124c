-- The printed text of what some text means, read again.
use Rattle.std.proofs.Common.{ℕ, ◌≤◌, List, sym, ap, subst, arith}
use Rattle.st_scan.specs.Views.{MethodView}
use Rattle.st_grammar.specs.Leaves.{leaves_of}
use Rattle.st_grammar.specs.Faults.{highest, most}
use Rattle.st_grammar.specs.inside.Meant.{Means}
use Rattle.st_grammar.specs.inside.Formed.{IsWellFormed}
use Rattle.st_grammar.proofs.FormedLeaves.{Each}
use Rattle.st_grammar.proofs.FormedTrees.{means_formed, each_of}
use Rattle.st_print.specs.Printed.{method_words, printed}
use Rattle.st_print.specs.inside.Printing.{IsPrintedBack}
use Rattle.st_print.proofs.Nesting.{statements_nesting}
use Rattle.st_print.proofs.Going.{outside}
use Rattle.st_print.proofs.Walks.{method_goes}
use Rattle.st_print.proofs.Scanned.{scanned, open_brackets}
use Rattle.st_print.proofs.MethodBacks.{method_back}
use Rattle.st_print.proofs.Deep.{method_deep}

-- a well-formed tree that nests no deeper than a text may
pub shallow_back : (t : MethodView) → IsWellFormed t → statements_nesting t.body ≤ most → IsPrintedBack t
shallow_back t f low =
    let goes = method_goes most t f (omega arith) low in
    let s = scanned most 0 0 (method_words t) (outside goes.operand) goes.goes in
    let b = method_back (printed t) t (leaves_of (printed t) s.tokens) f s.spells in
    record {
      tree = b.tree;
      means = record {
        tokens = s.tokens;
        scan = s.scan;
        method = b.is;
        shallow = open_brackets (printed t) most _ 0 (method_words t) (outside goes.operand) 0 (leaves_of (printed t) s.tokens) (omega arith) goes.goes s.spells;
      };
      is_same = b.same;
    }

pub prints_back : (text : List ℕ) (t : MethodView) → Means text t → IsPrintedBack t
prints_back text t m =
    let (p, f, e, is) = m.method in
    let deep = method_deep text p f (subst (Each text) (sym e) (each_of text t m)) in
    let same : statements_nesting t.body ≤ highest 0 (leaves_of text m.tokens) = subst (λ (v : MethodView). statements_nesting v.body ≤ highest 0 (leaves_of text m.tokens)) is (omega (arith, deep, ap (highest 0) e)) in
    shallow_back t (means_formed text t m) (omega (arith, same, m.shallow))
