use Rattle.std.proofs.Common.{subst, refl, Err}
use Rattle.st_scan.specs.declared.fault.SyntaxFault.{SyntaxFault}
use Rattle.st_scan.specs.Views.{method_view}
use Rattle.st_grammar.specs.Texts.{IsOnly}
use Rattle.st_grammar.proofs.Syntaxes.{means_tree, reads_tree}
use Rattle.st_changes.proofs.selector.find_selector.Goals as goal

pub returns-in-Err-At : goal.returns-in-Err-At
returns-in-Err-At c selector has = subst (λ (e : SyntaxFault). IsOnly has.tree (Err e)) c.in-Err-At.field-0-is (c.in-Err-At.ensures.only has.tree (means_tree c.args.text.now has.tree has.means))

pub returns-in-Ok : goal.returns-in-Ok
returns-in-Ok c = record { tree = method_view c.in-Ok.tree; means = reads_tree c.args.text.now (method_view c.in-Ok.tree) c.in-Ok.ensures.tree; is = refl }
