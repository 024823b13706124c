-- What the first variables of a method are called, worked out, in a class that shares a name t3.
use Rattle.std.proofs.Common.{◌≡◌, ℕ, true, List, [], ◌∷◌, refl, ap, arith}
use Rattle.std.proofs.lemmas.Fmt.{decimal_digit}
use Rattle.std.specs.Fmt.{decimal}
use Rattle.std.specs.Prelude.{codes}
use Rattle.st_emit.specs.declared.instruction.InstructionOperand.TheVariants.{Temporary}
use Rattle.st_expression_stack.specs.Names.{calling_of, name_in}

one : decimal 1 ≡ codes "1"
one = decimal_digit 1 (omega arith)

two : decimal 2 ≡ codes "2"
two = decimal_digit 2 (omega arith)

three : decimal 3 ≡ codes "3"
three = decimal_digit 3 (omega arith)

four : decimal 4 ≡ codes "4"
four = decimal_digit 4 (omega arith)

written : {a b : List ℕ} → a ≡ b → 116 ∷ a ≡ 116 ∷ b
written e = ap (λ (ds : List ℕ). 116 ∷ ds) e

-- by the names of its instance variables
abbrev called : List (List ℕ) → ℕ → List ℕ
called fields k = name_in (calling_of (record { fields = fields; shared = record { text = codes "t3"; association = 18 } ∷ []; symbols = true }) []) (Temporary k)

first : called [] 0 ≡ codes "t1"
first = rw one (written one)

second : called [] 1 ≡ codes "t2"
second = rw one (rw two (written two))

third : called [] 2 ≡ codes "t4"
third = rw one (rw two (rw three (rw four refl)))

beside_t1 : called (codes "t1" ∷ codes "x" ∷ []) 0 ≡ codes "t2"
beside_t1 = rw one (rw two (written two))

after_it : called (codes "t1" ∷ codes "x" ∷ []) 1 ≡ codes "t4"
after_it = rw one (rw two (rw three (rw four (written four))))

-- other names that begin with t don't count
others : called (codes "tt1" ∷ codes "t01" ∷ codes "t1a" ∷ []) 0 ≡ codes "t1"
others = rw one (written one)
