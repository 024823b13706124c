-- A long jump on a condition (chapter 28).
use Rattle.std.specs.Prelude.{ℕ, ◌+◌, ◌*◌, Option, pos}
use Rattle.st_model.specs.declared.page.PageObject.{PageObject}
use Rattle.st_model.specs.Machine.{ObjectMemory, Step, ◌>>=◌}
use Rattle.st_model.specs.Steps.{next_byte}
use Rattle.st_model.specs.Sends.{Call}
use Rattle.st_model.specs.Returns.{jump_on}

-- 168 to 175: pops, and jumps by i times 256 plus the next byte on the wanted boolean, and not on the other
unfoldable pub long_conditional_jump : {H : Type 0} → ObjectMemory H → PageObject → PageObject → ℕ → Step H (Option Call)
long_conditional_jump m wanted other i = do
  b ← next_byte m
  jump_on m wanted other (pos (i * 256 + b))
