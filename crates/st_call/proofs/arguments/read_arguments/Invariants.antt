use Rattle.std.proofs.Common.{◌≡◌, drop, map}
use Rattle.std.specs.String.{string_bytes}
use Rattle.st_call.specs.Arguments.{with_words, no_arguments}
use Rattle.st_call.specs.inside.CommandViews.{arguments_view}
use Rattle.st_call.proofs.arguments.read_arguments.Given as goal

-- the words so far said this, and more of them go on from it
abbrev pub invariant-loop-word : goal.invariant-loop-word
invariant-loop-word l = with_words no_arguments (map string_bytes l.words) ≡ with_words (arguments_view l.arguments) (map string_bytes (drop l.word-index l.words))
