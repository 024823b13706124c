-- What the parts of a method are while they are read, without where they lie in memory.
use Rattle.st_scan.specs.Views.{names_view}
use Rattle.st_parse.specs.declared.method.Pattern.{Pattern}
use Rattle.st_parse.specs.declared.method.Options.{Options}
use Rattle.st_grammar.specs.Reading.{PatternView, OptionsView}

abbrev pub pattern_view : Pattern → PatternView
pattern_view p = record { selector = p.selector.items; arguments = names_view p.arguments.items }

abbrev pub options_view : Options → OptionsView
options_view o = record { temporaries = names_view o.temporaries.items; primitive = o.primitive }
