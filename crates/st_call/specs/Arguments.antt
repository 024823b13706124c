-- The words behind a command: its operands, and its options with their values.
use Rattle.std.specs.Prelude.{ℕ, ◌==◌, Bool, false, ◌&&◌, bytes_eq, nat_le, List, [], ◌∷◌, ◌++◌, length, codes, Option, Some, None, option_map, option_and_then, if◌then◌else◌}
use Rattle.std.specs.List.{position_or_len, before_first, after_first}
use Rattle.st_image.specs.declared.head.HeadValues.{HeadValues}
use Rattle.st_chunk.specs.Lines.{number}
use Rattle.st_call.specs.declared.arguments.Next.{Next}
use Rattle.st_call.specs.declared.arguments.Next.TheVariants.{Any, ValueOf, Operand}
use Rattle.st_call.specs.declared.arguments.Setting.{Setting}
use Rattle.st_call.specs.declared.arguments.Setting.TheVariants.{Globals, Symbols, Entries, Words}
use Rattle.st_image.specs.HeadValues.{no_values}

-- OPTIONS

-- the option of this name
abbrev pub setting_named : List ℕ → Option Setting
setting_named w =
    if bytes_eq w (codes "--globals") then Some Globals else
    if bytes_eq w (codes "--symbols") then Some Symbols else
    if bytes_eq w (codes "--entries") then Some Entries else
    if bytes_eq w (codes "--words") then Some Words else None

-- the value that it has so far
abbrev pub value_of : Setting → HeadValues → Option ℕ
value_of Globals values = values.globals
value_of Symbols values = values.symbols
value_of Entries values = values.entries
value_of Words values = values.words

abbrev pub with_value : Setting → ℕ → HeadValues → HeadValues
with_value Globals n values = record values { globals = Some n }
with_value Symbols n values = record values { symbols = Some n }
with_value Entries n values = record values { entries = Some n }
with_value Words n values = record values { words = Some n }

-- WORD BY WORD

-- The operands and the options so far, and what the next word is: an operand or an option, the value of an option, or an operand.
pub record Arguments : Type 0 where
  pub operands : List (List ℕ)
  pub options : HeadValues
  pub next : Next

-- an operand isn't empty, and no command has more than two
abbrev pub with_operand : Arguments → List ℕ → Option Arguments
with_operand a [] = None
with_operand a (b ∷ bs) =
    if nat_le 2 (length a.operands) then None else Some (record a { operands = a.operands ++ (b ∷ bs) ∷ [] })

abbrev pub valued : Arguments → Setting → Option ℕ → Option ℕ → Option Arguments
valued a s None (Some n) = Some (record a { options = with_value s n a.options; next = Any })
valued a s None None = None
valued a s (Some m) n = None

-- an option has one value, a number of 32 bits
abbrev pub with_setting : Arguments → List ℕ → Setting → Option Arguments
with_setting a w s = valued a s (value_of s a.options) (number 4294967295 w)

abbrev pub is_equals : ℕ → Bool
is_equals b = b == 61

-- the name of an option, with its value behind a =, or in the next word
abbrev pub with_option : Arguments → List ℕ → Option Arguments
with_option a w =
    if position_or_len is_equals w == length w
    then option_map (λ s. record a { next = ValueOf s }) (setting_named w)
    else option_and_then (with_setting a (after_first is_equals w)) (setting_named (before_first is_equals w))

-- it begins with a minus sign, and isn't one
abbrev pub is_option : List ℕ → Bool
is_option [] = false
is_option (b ∷ bs) = (b == 45) && nat_le 1 (length bs)

-- behind -- all are operands
abbrev pub with_any : Arguments → List ℕ → Option Arguments
with_any a w =
    if bytes_eq w (codes "--") then Some (record a { next = Operand }) else
    if is_option w then with_option a w else with_operand a w

abbrev pub with_next : Next → Arguments → List ℕ → Option Arguments
with_next Any a w = with_any a w
with_next (ValueOf s) a w = with_setting a w s
with_next Operand a w = with_operand a w

abbrev pub with_words : Arguments → List (List ℕ) → Option Arguments
with_words a [] = Some a
with_words a (w ∷ ws) = option_and_then (λ b. with_words b ws) (with_next a.next a w)

-- no option is without its value
abbrev pub whole : Next → Arguments → Option Arguments
whole (ValueOf s) a = None
whole next a = Some a

abbrev pub no_arguments : Arguments
no_arguments = record { operands = []; options = no_values; next = Any }

-- what these words say; None where they say nothing
abbrev pub arguments_of : List (List ℕ) → Option Arguments
arguments_of ws = option_and_then (λ a. whole a.next a) (with_words no_arguments ws)
