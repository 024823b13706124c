-- Worked texts, by the definition alone: their pieces, their tokens, and their first fault.
use Rattle.std.proofs.Common.{ℕ, Bool, true, false, [], ◌∷◌, refl, inl}
use Rattle.std.specs.Prelude.{codes}
use Rattle.st_scan.specs.declared.token.Token.{Token}
use Rattle.st_scan.specs.declared.token.Sort.{Sort}
use Rattle.st_scan.specs.declared.token.Sort.TheVariants as sorts
use Rattle.st_scan.specs.declared.fault.Fault.{Fault}
use Rattle.st_scan.specs.declared.fault.Cause.{Cause}
use Rattle.st_scan.specs.declared.fault.Cause.TheVariants as causes
use Rattle.st_scan.specs.Pieces.{decimal, radix, keywords, blank, name, operator, number, string, symbol, opening, mark}
use Rattle.st_scan.specs.inside.Scanned.{HasTokens, HasFault}

abbrev token : Sort → ℕ → ℕ → Token
token sort start end = record { start = start; end = end; sort = sort }

abbrev number_of : Bool → ℕ → Sort
number_of minus size = sorts.Number (record { minus = minus; size = size })

-- an assignment is no keyword
assignment : HasTokens (codes "x:=1") (token sorts.Name 0 1 ∷ token sorts.Mark 1 3 ∷ token (number_of false 1) 3 4 ∷ [])
assignment = record {
  pieces = name (codes "x") ∷ mark (codes ":=") ∷ number false (decimal (codes "1")) ∷ [];
  rest = [];
  parts = refl;
  stand = ((refl, refl, refl), ((refl, refl), (((refl, refl, λ e. absurd cc), refl, refl), tt)));
  are_tokens = refl;
  ends = refl;
}

-- behind a ) the - is an operator
behind_a_parenthesis : HasTokens (codes ") -1") (token sorts.Mark 0 1 ∷ token sorts.Operator 2 3 ∷ token (number_of false 1) 3 4 ∷ [])
behind_a_parenthesis = record {
  pieces = mark (codes ")") ∷ blank 32 ∷ operator (codes "-") ∷ number false (decimal (codes "1")) ∷ [];
  rest = [];
  parts = refl;
  stand = ((refl, refl), (refl, ((refl, refl, refl), (((refl, refl, λ e. absurd cc), refl, refl), tt))));
  are_tokens = refl;
  ends = refl;
}

-- and in a literal array it is a sign
in_an_array : HasTokens (codes "#(a -1)") (token sorts.Opening 0 2 ∷ token sorts.Name 2 3 ∷ token (number_of true 1) 4 6 ∷ token sorts.Mark 6 7 ∷ [])
in_an_array = record {
  pieces = opening ∷ name (codes "a") ∷ blank 32 ∷ number true (decimal (codes "1")) ∷ mark (codes ")") ∷ [];
  rest = [];
  parts = refl;
  stand = (tt, ((refl, refl, refl), (refl, (((refl, refl, λ e. refl), refl, refl), ((refl, refl), tt)))));
  are_tokens = refl;
  ends = refl;
}

-- the last keyword of a symbol is the last that is one
a_symbol : HasTokens (codes "#a:b:=") (token sorts.Symbol 0 3 ∷ token sorts.Name 3 4 ∷ token sorts.Mark 4 6 ∷ [])
a_symbol = record {
  pieces = symbol (keywords (codes "a") []) ∷ name (codes "b") ∷ mark (codes ":=") ∷ [];
  rest = [];
  parts = refl;
  stand = ((refl, refl, refl), ((refl, refl, refl), ((refl, refl), tt)));
  are_tokens = refl;
  ends = refl;
}

-- a quote within a string stands twice
a_string : HasTokens (codes "'it''s'") (token sorts.Bytes 0 7 ∷ [])
a_string = record { pieces = string (codes "it's") ∷ []; rest = []; parts = refl; stand = (refl, tt); are_tokens = refl; ends = refl }

-- a radix, and digits below it
sixteen : HasTokens (codes "16rFF") (token (number_of false 255) 0 5 ∷ [])
sixteen = record { pieces = number false (radix (codes "16") (codes "FF")) ∷ []; rest = []; parts = refl; stand = (((refl, refl, λ e. absurd cc), refl, refl), tt); are_tokens = refl; ends = refl }

abbrev fault_at : ℕ → Cause → Fault
fault_at place cause = record { place = place; cause = cause }

-- one above the greatest number, behind a ^
too_large : HasFault (codes "^340282366920938463463374607431768211456") 2 4
too_large = (
  token sorts.Mark 0 1 ∷ [],
  fault_at 2 causes.Number,
  record {
    pieces = mark (codes "^") ∷ [];
    rest = codes "340282366920938463463374607431768211456";
    parts = refl;
    stand = ((refl, refl), tt);
    are_tokens = refl;
    ends = (refl, (decimal (codes "340282366920938463463374607431768211456"), [], record { minus = false; parts = refl; stands = (refl, refl, λ e. absurd cc) }, refl));
  },
  refl,
  refl,
)

-- a fraction
a_fraction : HasFault (codes "3.5") 1 5
a_fraction = (
  [],
  fault_at 1 causes.Float,
  record {
    pieces = [];
    rest = codes "3.5";
    parts = refl;
    stand = tt;
    are_tokens = refl;
    ends = (refl, (decimal (codes "3"), codes ".5", record { minus = false; parts = refl; stands = (refl, refl, λ e. absurd cc) }, refl, refl));
  },
  refl,
  refl,
)

-- a comment without an end, and no end of a string
unclosed : HasFault (codes "'a' \"x'") 5 2
unclosed = (
  token sorts.Bytes 0 3 ∷ [],
  fault_at 5 causes.Unclosed,
  record {
    pieces = string (codes "a") ∷ blank 32 ∷ [];
    rest = codes "\"x'";
    parts = refl;
    stand = (refl, (refl, tt));
    are_tokens = refl;
    ends = (refl, inl (codes "x'", refl, refl));
  },
  refl,
  refl,
)

-- a # before another one
two_hashes : HasFault (codes "##a") 1 1
two_hashes = ([], fault_at 1 causes.Character, record { pieces = []; rest = codes "##a"; parts = refl; stand = tt; are_tokens = refl; ends = (refl, refl) }, refl, refl)
