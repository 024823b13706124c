-- Where a method's bytecodes begin.
use Rattle.std.specs.Prelude.{ℕ, ◌+◌, ◌*◌}
use Rattle.st_model.specs.Values.{Value}
use Rattle.st_model.specs.Methods.{literal_count}

-- two bytes for the header and two for each literal come before the first bytecode
abbrev pub first_byte : Value → ℕ
first_byte header = 2 * literal_count header + 2
