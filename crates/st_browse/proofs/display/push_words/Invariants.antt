use Rattle.std.proofs.Common.{take, drop, Ok}
use Rattle.std.specs.List.{flat_map}
use Rattle.st_host.specs.declared.host.SayFault.{SayFault}
use Rattle.st_model.specs.Values.{value}
use Rattle.st_call.specs.inside.Saying.{Pushes}
use Rattle.st_browse.specs.Display.{word_text}
use Rattle.st_browse.specs.inside.Shown.{words_in}
use Rattle.st_browse.proofs.display.push_words.Given as goal

-- the words so far were added
abbrev pub invariant-loop-i : goal.invariant-loop-i
invariant-loop-i g l =
    let words = words_in (g.M.Memory.view l.m).objects (value l.o) in
    Pushes {E = SayFault} g.H.Host (flat_map word_text (take l.i (take l.count (drop l.from words)))) l.initial.host l.host l.initial.out l.out (Ok tt)
