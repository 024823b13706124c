-- Of all parts that are the code of what some text means a tree is answered that a text means, and has this code.
use Rattle.std.proofs.Common.{◌≡◌, ◌≤◌, ℕ, List, sym, ap, subst, arith}
use Rattle.std.specs.Prelude.{Ok}
use Rattle.st_scan.specs.Views.{MethodView}
use Rattle.st_emit.specs.declared.instruction.InstructionOperand.{InstructionOperand}
use Rattle.st_emit.specs.Names.{NamesView}
use Rattle.st_code.specs.Methods.{PartsView, code}
use Rattle.st_grammar.specs.Leaves.{leaves_of}
use Rattle.st_grammar.specs.Faults.{highest, most}
use Rattle.st_grammar.specs.inside.Meant.{Means}
use Rattle.st_grammar.proofs.FormedLeaves.{Each}
use Rattle.st_grammar.proofs.FormedTrees.{means_formed, each_of}
use Rattle.st_print.specs.inside.Printing.{IsPrintedBack}
use Rattle.st_print.proofs.Nesting.{statements_nesting}
use Rattle.st_print.proofs.Deep.{method_deep}
use Rattle.st_print.proofs.Printing.{shallow_back}
use Rattle.st_resolved.proofs.Placeless.{no_places}
use Rattle.st_decompile.specs.inside.Calling.{AreNames}
use Rattle.st_decompile.proofs.ReadTrees.{AreWords, IsRead, all_read}

-- what a text means nests no deeper than a text may
means_shallow : (text : List ℕ) (t : MethodView) → Means text t → statements_nesting t.body ≤ most
means_shallow text t m =
    let (p, f, e, is) = m.method in
    let deep = method_deep text p f (subst (Each text) (sym e) (each_of text t m)) in
    let same : statements_nesting t.body ≤ highest 0 (leaves_of text m.tokens) = subst (λ (v : MethodView). statements_nesting v.body ≤ highest 0 (leaves_of text m.tokens)) is (omega (arith, deep, ap (highest 0) e)) in
    omega (arith, same, m.shallow)

module _ (name_of : InstructionOperand → List ℕ) (names : NamesView) (words : AreWords name_of) where
  -- what is read of the parts; the tree that its printed text means, which is that one but for places; and its code
  pub record IsAnswered (p : PartsView) : Type 0 where
    pub read : IsRead name_of names words most p
    pub printed : IsPrintedBack read.tree
    pub same : code printed.tree names ≡ Ok p

  pub all_answered : (text : List ℕ) (t : MethodView) (p : PartsView) → AreNames name_of names p.literals → Means text t → code t names ≡ Ok p → IsAnswered p
  all_answered text t p are m h =
      let r = all_read name_of names words t p are (means_formed text t m) (means_shallow text t m) h in
      let b = shallow_back r.tree r.well (omega (arith, r.shallow, means_shallow text t m)) in
      record {
        read = record { tree = r.tree; is = r.is; well = r.well; shallow = omega (arith, r.shallow, means_shallow text t m); same = r.same };
        printed = b;
        same = no_places r.tree b.tree names p b.is_same r.same;
      }
