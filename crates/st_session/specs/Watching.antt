-- What lines see of a machine before each of their cycles, once what comes before the bytecode is done.
use Rattle.std.specs.Prelude.{codes, ℕ, zero, suc, List, [], ◌∷◌, ◌++◌, Option, Some, None, if◌then◌else◌}
use Rattle.st_model.specs.Values.{Value, value}
use Rattle.st_model.specs.Machine.{State}
use Rattle.st_model.specs.Table.{Table}
use Rattle.st_model.specs.Text.{numbers_text}
use Rattle.st_debug.specs.Watched.{At, watched, is_entered, at_text}
use Rattle.st_session.specs.declared.watch.Watch.{Watch}
use Rattle.st_session.specs.declared.watch.Watch.TheVariants as watch

-- what is seen is said, and the cycle follows; or the line stops before the cycle
pub data Look : Type 0 where
  Says : List (List ℕ) → Look
  Stops : Look

-- the bytecode that comes, where its byte can be fetched
abbrev pub bytecode_texts : Option At → List (List ℕ)
bytecode_texts None = []
bytecode_texts (Some at) = at_text at ∷ []

-- `run` sees nothing
abbrev pub nothing_seen : ℕ → State Table → Look
nothing_seen n c = Says []

-- `trace` says the bytecode that comes
abbrev pub bytecode_seen : ℕ → State Table → Look
bytecode_seen n c = Says (bytecode_texts (watched c))

-- `until` stops before the first bytecode of its method, where a cycle or more of the line is finished
abbrev pub entry_seen : Value → ℕ → State Table → Look
entry_seen method zero c = Says []
entry_seen method (suc n) c = if is_entered c method then Stops else Says []

-- as the code has it
abbrev pub look_of : Watch → ℕ → State Table → Look
look_of watch.Nothing = nothing_seen
look_of watch.Bytecodes = bytecode_seen
look_of (watch.Entry method) = entry_seen (value method)

-- where so many cycles are finished
abbrev pub stopped_text : ℕ → List ℕ
stopped_text n = codes "stopped" ++ (numbers_text (n ∷ []) ++ codes "\n")
