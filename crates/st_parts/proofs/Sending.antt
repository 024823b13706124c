-- Whether bytecodes send to super, one after the other.
use Rattle.std.proofs.Common.{◌≡◌, ℕ, zero, suc, ◌+◌, ◌-◌, ◌<◌, ◌≤◌, Bool, true, false, ◌||◌, List, [], ◌∷◌, drop, length, refl, sym, ap, ◌∙◌, arith}
use Rattle.std.specs.Prelude.{slice_index_or, ◌==◌, ◌&&◌, if◌then◌else◌}
use Rattle.std.specs.List.{list_any}
use Rattle.std.proofs.lemmas.Bool.Decides.{nat_tests}
use Rattle.std.proofs.lemmas.List.{at_drop_more, drop_all}
use Rattle.st_parts.specs.Cutting.{code_length, codes_behind}
use Rattle.st_parts.specs.Parts.{is_super_byte, is_super_code}

not_zero : (k : ℕ) → (suc k == 0) ≡ false
not_zero k = grind (arith, nat_tests)

-- behind so many bytes that belong to the bytecode before
abbrev pub super_behind : ℕ → List ℕ → Bool
super_behind k bytes = list_any is_super_code (codes_behind k bytes)

pub super_end : (bytes : List ℕ) (i k : ℕ) (all : Bool) → length bytes ≤ i → super_behind k (drop i bytes) ≡ all → false ≡ all
super_end bytes i k all l h = none k ∙ sym (ap (super_behind k) (drop_all i bytes l)) ∙ h
  where
    none : (j : ℕ) → false ≡ super_behind j []
    none zero = refl
    none (suc j) = refl

module _ (bytes : List ℕ) (i d : ℕ) (l : i < length bytes) (all : Bool) where
  abbrev this : ℕ
  this = slice_index_or bytes i d

  turn : (k : ℕ) → super_behind k (drop i bytes) ≡ all → super_behind k (this ∷ drop (i + 1) bytes) ≡ all
  turn k h = sym (at_drop_more (super_behind k) bytes i d l) ∙ h

  first : super_behind 0 (drop i bytes) ≡ all → (b : Bool) → is_super_byte this ≡ b → (b || super_behind (code_length this - 1) (drop (i + 1) bytes)) ≡ all
  first h b e = ap (λ (c : Bool). c || super_behind (code_length this - 1) (drop (i + 1) bytes)) (sym e) ∙ turn 0 h

  pub super_here : (k : ℕ) → super_behind k (drop i bytes) ≡ all → true ≡ ((k == 0) && is_super_byte this) → true ≡ all
  super_here zero h e = first h true (sym e)
  super_here (suc k) h e = let no : true ≡ false = e ∙ ap (λ (c : Bool). c && is_super_byte this) (not_zero k) in absurd cc

  pub super_next : (k : ℕ) → super_behind k (drop i bytes) ≡ all → false ≡ ((k == 0) && is_super_byte this) → super_behind (if k == 0 then code_length this - 1 else k - 1) (drop (i + 1) bytes) ≡ all
  super_next zero h e = first h false (sym e)
  super_next (suc k) h e =
      let less : suc k - 1 ≡ k = omega arith in
      ap (λ (c : Bool). super_behind (if c then code_length this - 1 else suc k - 1) (drop (i + 1) bytes)) (not_zero k)
      ∙ (ap (λ (j : ℕ). super_behind j (drop (i + 1) bytes)) less ∙ turn (suc k) h)
