-- The lines of a run's end.
use Rattle.std.specs.Prelude.{ℕ, List, []}
use Rattle.st_model.specs.Text.{ran_text, dead_text, space_text, quit_text, debugger_text}
use Rattle.st_machine.specs.declared.ending.RunEnd.{RunEnd}
use Rattle.st_machine.specs.declared.ending.RunEnd.TheVariants as end

-- The line of a run's end, where so many cycles are finished in all. A snapshot, and bytes that are said, are no end.
abbrev pub end_text : ℕ → RunEnd → List ℕ
end_text n end.Ran = ran_text n
end_text n (end.Space done demand entries words) = space_text n demand (record { entries = entries; words = words })
end_text n (end.Snapshot done) = []
end_text n (end.Say done o) = []
end_text n (end.Quit done) = quit_text n
end_text n (end.Debugger done) = debugger_text n
end_text n (end.Dead done cause) = dead_text n cause
