use Rattle.std.proofs.Common.{◌≡◌, drop}
use Rattle.std.specs.List.{list_all}
use Rattle.st_kernel_text.specs.Known.{has_class}
use Rattle.st_kernel_text.specs.inside.Lists.{names_now}
use Rattle.st_kernel_text.proofs.known.Known.has_classes.Given as goal

abbrev pub invariant-loop-name : goal.invariant-loop-name
invariant-loop-name l = list_all (has_class l.self l.wanted) (names_now (drop l.name-index l.names)) ≡ list_all (has_class l.self l.wanted) (names_now l.names)
