-- The bounds of methods and of the forms of their instructions.
use Rattle.std.specs.Prelude.{ℕ}

-- METHODS

-- variables of the receiver that code can name
abbrev pub most_fields : ℕ
most_fields = 64

abbrev pub most_literals : ℕ
most_literals = 63

-- arguments, temporaries and block arguments together
abbrev pub most_variables : ℕ
most_variables = 31

-- the words that a small and a large context have room for
abbrev pub small_room : ℕ
small_room = 12

abbrev pub large_room : ℕ
large_room = 32

-- the bytes of a method, with its header and its literals
abbrev pub most_bytes : ℕ
most_bytes = 131066

abbrev pub most_primitive : ℕ
most_primitive = 255

-- the size of the least number
abbrev pub least_size : ℕ
least_size = 16384

-- a flag says up to four arguments; and the variables that a flag may return
abbrev pub most_flagged : ℕ
most_flagged = 4

abbrev pub returned_fields : ℕ
returned_fields = 32

-- SHORT FORMS

-- variables and literals that are pushed by one byte, and variables that are popped into by one
abbrev pub short_pushes : ℕ
short_pushes = 16

abbrev pub short_literals : ℕ
short_literals = 32

abbrev pub short_pops : ℕ
short_pops = 8

-- selectors and arguments that are sent by one byte, and by two
abbrev pub short_selectors : ℕ
short_selectors = 16

abbrev pub short_arguments : ℕ
short_arguments = 2

abbrev pub long_selectors : ℕ
long_selectors = 32

abbrev pub long_arguments : ℕ
long_arguments = 7

-- JUMPS

-- how far a jump of one byte goes, and how far one of two goes forward and back
abbrev pub short_jump : ℕ
short_jump = 8

abbrev pub most_forward : ℕ
most_forward = 1023

abbrev pub most_back : ℕ
most_back = 1024
