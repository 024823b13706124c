-- Stacks, whose last word is on top.
use Rattle.std.proofs.Common.{◌≡◌, ℕ, zero, suc, ◌+◌, ◌-◌, ◌≤◌, List, [], ◌∷◌, ◌++◌, length, take, drop, reverse, refl, sym, ap, ◌∙◌, arith, append_assoc, append-nil, length-drop, subst}
use Rattle.std.proofs.lemmas.List.{reverse-append, take-append-drop}
use Rattle.std.specs.Prelude.{Result, IfOk}
use Rattle.st_meaning.specs.declared.deed.Variable.{Variable}
use Rattle.st_meaning.specs.declared.deed.Value.{Value}
use Rattle.st_meaning.specs.declared.code.Walked.{Walked}
use Rattle.st_meaning.specs.declared.code.Top.{Top}
use Rattle.st_meaning.specs.declared.code.Top.TheVariants as top
use Rattle.st_meaning.specs.inside.Codes as codes
use Rattle.st_meaning.specs.inside.Courses.{stack_view, top_walked, Does}

pub pushed_view : (items : List Value) (v : Value) → stack_view (items ++ v ∷ []) ≡ v ∷ stack_view items
pushed_view items v = reverse-append items (v ∷ [])

-- values taken off one after the other stand in the other order
abbrev onto : List Value → List Value → List Value
onto [] acc = acc
onto (v ∷ vs) acc = onto vs (v ∷ acc)

onto_append : (a b acc : List Value) → onto (a ++ b) acc ≡ onto b (onto a acc)
onto_append [] b acc = refl
onto_append (v ∷ a) b acc = onto_append a b (v ∷ acc)

onto_back : (vs acc : List Value) → onto (reverse vs) acc ≡ vs ++ acc
onto_back [] acc = refl
onto_back (v ∷ vs) acc = ap (λ (l : List Value). onto l acc) (reverse-append (v ∷ []) vs) ∙ onto_append (reverse vs) (v ∷ []) acc ∙ ap (λ (l : List Value). v ∷ l) (onto_back vs acc)

length_onto : (vs acc : List Value) → length (onto vs acc) ≡ length vs + length acc
length_onto [] acc = omega arith
length_onto (v ∷ vs) acc = omega (arith, length_onto vs (v ∷ acc))

message_on : (vs acc : List Value) (r : Value) (s : List Value) (f : Value → List Value → List Value → codes.Walked Variable Value) → codes.on_message (length vs) acc (vs ++ r ∷ s) f ≡ f r (onto vs acc) s
message_on [] acc r s f = refl
message_on (v ∷ vs) acc r s f = message_on vs (v ∷ acc) r s f

reverse_length : (vs : List Value) → length (reverse vs) ≡ length vs
reverse_length vs = omega (arith, length_onto (reverse vs) [], ap length (onto_back vs []), ap length (append-nil vs))

-- a stack with a receiver and its arguments on top
message_view : (rest : List Value) (r : Value) (arguments : List Value) → stack_view (rest ++ r ∷ arguments) ≡ reverse arguments ++ r ∷ stack_view rest
message_view rest r arguments =
    reverse-append rest (r ∷ arguments) ∙ ap (λ (l : List Value). l ++ reverse rest) (reverse-append (r ∷ []) arguments) ∙ append_assoc (reverse arguments) (r ∷ []) (reverse rest)

pub message_some : (rest : List Value) (r : Value) (arguments : List Value) (n : ℕ) (f : Value → List Value → List Value → codes.Walked Variable Value) → length arguments ≡ n
    → codes.on_message n [] (stack_view (rest ++ r ∷ arguments)) f ≡ f r arguments (stack_view rest)
message_some rest r arguments n f e =
    ap (λ (l : List Value). codes.on_message n [] l f) (message_view rest r arguments)
    ∙ ap (λ (k : ℕ). codes.on_message k [] (reverse arguments ++ r ∷ stack_view rest) f) (sym e ∙ sym (reverse_length arguments))
    ∙ message_on (reverse arguments) [] r (stack_view rest) f
    ∙ ap (λ (l : List Value). f r l (stack_view rest)) (onto_back arguments [] ∙ append-nil arguments)

few_left : (n : ℕ) (acc s : List Value) (f : Value → List Value → List Value → codes.Walked Variable Value) → length s ≤ n → codes.on_message n acc s f ≡ codes.stuck
few_left zero acc [] f h = refl
few_left (suc n) acc [] f h = refl
few_left zero acc (v ∷ s) f h = absurd (omega (arith, h))
few_left (suc n) acc (v ∷ s) f h = few_left n (v ∷ acc) s f (omega (arith, h))

pub message_none : (items : List Value) (n : ℕ) (f : Value → List Value → List Value → codes.Walked Variable Value) → length items ≤ n → codes.on_message n [] (stack_view items) f ≡ codes.stuck
message_none items n f h = few_left n [] (stack_view items) f (omega (arith, reverse_length items, h))

-- BLOCKS

pub copies_some : (old new : List Value) (r : Value) (arguments : List Value) → old ≡ new ++ r ∷ arguments → length arguments ≡ 1 → ◌≡◌ {A = codes.Walked Variable Value} (codes.copied (stack_view new)) (codes.copies (stack_view old))
copies_some old new r arguments e many =
    sym (ap (λ (l : List Value). codes.copies (stack_view l)) e ∙ message_some new r arguments 1 (λ x xs rest. codes.copied rest) many)

pub copies_none : (old : List Value) → length old ≤ 1 → ◌≡◌ {A = codes.Walked Variable Value} codes.stuck (codes.copies (stack_view old))
copies_none old few = sym (message_none old 1 (λ x xs rest. codes.copied rest) few)

-- a context and a count that are cut off
copies_cut : (old : List Value) → 2 ≤ length old → ◌≡◌ {A = codes.Walked Variable Value} (codes.copied (stack_view (take (length old - 2) old))) (codes.copies (stack_view old))
copies_cut old some = by_two (drop k old) (omega (arith, length-drop k old, some)) (sym (take-append-drop k old))
  where
    k : ℕ
    k = length old - 2

    by_two : (d : List Value) → length d ≡ 2 → old ≡ take k old ++ d → ◌≡◌ {A = codes.Walked Variable Value} (codes.copied (stack_view (take k old))) (codes.copies (stack_view old))
    by_two [] h e = absurd (omega (arith, h))
    by_two (r ∷ []) h e = absurd (omega (arith, h))
    by_two (r ∷ a ∷ []) h e = copies_some old (take k old) r (a ∷ []) e refl
    by_two (r ∷ a ∷ b ∷ d) h e = absurd (omega (arith, h))

pub copies_truncated : (old new : List Value) (words : ℕ) → words ≡ length old → 2 ≤ words → new ≡ take (words - 2) old → ◌≡◌ {A = codes.Walked Variable Value} (codes.copied (stack_view new)) (codes.copies (stack_view old))
copies_truncated old new words many some cut =
    ap (λ (l : List Value). codes.copied (stack_view l)) (cut ∙ ap (λ (n : ℕ). take (n - 2) old) many) ∙ copies_cut old (omega (arith, many, some))

-- THE TOP

pub top_none : (what : Top) → codes.stuck ≡ top_walked what []
top_none (top.Stored p) = refl
top_none (top.Popped p) = refl
top_none top.Dropped = refl
top_none top.Doubled = refl
top_none top.Returned = refl
top_none (top.Tested on d) = refl

pub top_stored : (p : Variable) (v : Value) (below new : List Value) → new ≡ below ++ v ∷ [] → codes.stored p v (stack_view new) ≡ top_walked (top.Stored p) (v ∷ stack_view below)
top_stored p v below new e = ap (λ (l : List Value). codes.stored p v (stack_view l)) e ∙ ap (λ (l : List Value). codes.stored p v l) (pushed_view below v)

-- with the word twice on top
pub top_doubled : (E : Type 0) (v : Value) (below again new : List Value) (r : Result Walked E) → again ≡ below ++ v ∷ []
    → IfOk r (Does (codes.went (v ∷ stack_view again)) new) → IfOk r (Does (top_walked top.Doubled (v ∷ stack_view below)) new)
top_doubled E v below again new r e h =
    subst (λ (l : List Value). IfOk r (Does (codes.went (v ∷ l)) new)) (ap stack_view e ∙ pushed_view below v) h
