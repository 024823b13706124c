-- What the code keeps of the tokens so far, and what a token adds by its sort and its first byte.
use Rattle.std.specs.Prelude.{ℕ, ◌+◌, ◌-◌, Bool, true, false, ◌&&◌, ◌||◌, ◌==◌, nat_lt, if◌then◌else◌}
use Rattle.std.specs.Str.{byte}
use Rattle.st_scan.specs.declared.token.Sort.{Sort}
use Rattle.st_scan.specs.declared.token.Sort.TheVariants.{Keyword, Operator, Opening, Mark}
use Rattle.st_scan.specs.declared.scanner.Context.{Context as Kept}
use Rattle.st_scan.specs.Scans.{Context}

abbrev pub context_of : Kept → Context
context_of c = record { operand = c.operand; depth = c.depth }

-- the token is a name, a literal, ) or ]
abbrev pub is_operand_token : Sort → ℕ → Bool
is_operand_token Keyword b = false
is_operand_token Operator b = false
is_operand_token Opening b = false
is_operand_token Mark b = b == byte ")" || b == byte "]"
is_operand_token _ b = true

-- how many parentheses of a literal array are open behind the token
abbrev pub depth_behind : ℕ → Sort → ℕ → ℕ
depth_behind n Opening b = n + 1
depth_behind n Mark b = if b == byte "(" && nat_lt 0 n then n + 1 else (if b == byte ")" then n - 1 else n)
depth_behind n _ b = n
