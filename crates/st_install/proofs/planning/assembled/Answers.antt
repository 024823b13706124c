use Rattle.st_install.proofs.Growths.{assembled_plan}
use Rattle.st_install.proofs.planning.assembled.Goals as goal

pub returns-clause-plan : goal.returns-clause-plan
returns-clause-plan c =
    assembled_plan c.args.class c.args.draft c.args.method c.args.growth c.put_object.new.objects.items c.in_ok-number.number c.in_ok-made.made c.append.new.self c.in_ok-append.ensures.items c.in_ok-number.ensures.objects c.in_ok-number.ensures.part
