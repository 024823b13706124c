use Rattle.std.proofs.Common.{refl, subst, Ok, Err}
use Rattle.st_scan.specs.declared.fault.SyntaxFault.{SyntaxFault}
use Rattle.st_grammar.specs.Texts.{IsOnly}
use Rattle.st_decompile.proofs.Tested.{meant_tree, meant_none}
use Rattle.st_decompile.proofs.decompiler.meant.Goals as goal

pub returns-in-Ok : goal.returns-in-Ok
returns-in-Ok c = meant_tree c.args.text.now (Ok c.in-Ok.tree) c.in-Ok.tree refl c.in-Ok.ensures.tree c.in-Ok.ensures.only

pub returns-in-Err-At : goal.returns-in-Err-At
returns-in-Err-At c = λ u means. subst (λ (e : SyntaxFault). IsOnly u (Err e)) c.in-Err-At.field-0-is (c.in-Err-At.ensures.only u means)
