use Rattle.std.proofs.Common.{sym, ap, ◌∙◌}
use Rattle.std.specs.Prelude.{is_some, option_map}
use Rattle.st_install.specs.inside.Readies.{part_of}
use Rattle.st_install.proofs.SymbolsOf.{name_known}
use Rattle.st_install.proofs.symbol_plan.with_symbol.Goals as goal

pub seek_symbol-requires : goal.seek_symbol-requires
seek_symbol-requires g c = sym c.named_symbol.ensures ∙ ap (option_map part_of) c.in-None.is

pub returns-in-Some : goal.returns-in-Some
returns-in-Some g c =
    λ s h. name_known c.args.association c.args.array c.args.text.now (g.M.Memory.view c.args.m.now).objects c.args.plan.now (ap is_some (sym c.named_symbol.ensures ∙ ap (option_map part_of) c.in-Some.is)) s h
