use Rattle.st_install.proofs.SymbolsOf.{free_begin}
use Rattle.st_install.proofs.symbol_plan.vacant_field.Goals as goal

pub loop-i-init : goal.loop-i-init
loop-i-init c = free_begin c.args.fields.now
