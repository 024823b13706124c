-- The laws of every loop of a reader: how it goes on, fails and ends.
use Rattle.std.proofs.Common.{◌≡◌, ℕ, zero, suc, ◌<◌, ◌≤◌, Bool, true, false, List, [], ◌∷◌, length, Ok, Err, refl, sym, ap, ◌∙◌, arith}
use Rattle.st_grammar.specs.declared.leaf.Leaf.{Leaf}
use Rattle.st_grammar.specs.declared.read.ReadError.{ReadError}
use Rattle.st_grammar.specs.declared.read.ReadError.TheVariants as errors
use Rattle.st_grammar.specs.Reading.{Stop, Read, ◌>>=◌, Fails, first, many}

pub first_some : (looks : Leaf → Bool) (ts : List Leaf) → first looks ts ≡ true → 0 < length ts
first_some looks [] e = absurd cc
first_some looks (x ∷ ts) e = omega arith

-- from a value and the leaves that are left, a loop comes to this total
pub record Going {A : Type 0} (looks : A → Leaf → Bool) (step : A → List Leaf → Read A) (a : A) (ts : List Leaf) (total : Read A) : Type 0 where
  pub bound : ℕ
  pub enough : length ts ≤ bound
  pub so_far : many looks step bound a ts ≡ total

module _ {A : Type 0} (looks : A → Leaf → Bool) (step : A → List Leaf → Read A) where
  pub many_stop : (n : ℕ) (a : A) (ts : List Leaf) → first (looks a) ts ≡ false → many looks step n a ts ≡ Ok (a, ts)
  unfolding many
  many_stop zero a ts e = refl
  many_stop (suc n) a ts e = rw e refl

  pub many_step : (n : ℕ) (a : A) (ts : List Leaf) → first (looks a) ts ≡ true → many looks step (suc n) a ts ≡ (step a ts >>= λ x. many looks step n x.0 x.1)
  unfolding many
  many_step n a ts e = rw e refl

  pub start : (a : A) (ts : List Leaf) → Going looks step a ts (many looks step (length ts) a ts)
  start a ts = record { bound = length ts; enough = omega arith; so_far = refl }

module _ {A : Type 0} {looks : A → Leaf → Bool} {step : A → List Leaf → Read A} {a : A} {ts : List Leaf} {total : Read A} (g : Going looks step a ts total) where
  turn : (n : ℕ) (b : A) (rest : List Leaf) → first (looks a) ts ≡ true → length ts ≤ n → many looks step n a ts ≡ total → step a ts ≡ Ok (b, rest) → length rest < length ts → Going looks step b rest total
  turn zero b rest e le so_far s lt = absurd (omega arith)
  turn (suc n) b rest e le so_far s lt =
      record { bound = n; enough = omega arith; so_far = sym (many_step looks step n a ts e ∙ ap (λ (r : Read A). r >>= λ x. many looks step n x.0 x.1) s) ∙ so_far }

  pub go_on : (b : A) (rest : List Leaf) → first (looks a) ts ≡ true → step a ts ≡ Ok (b, rest) → length rest < length ts → Going looks step b rest total
  go_on b rest e s lt = turn g.bound b rest e g.enough g.so_far s lt

  stops : (n : ℕ) (s : Stop) → first (looks a) ts ≡ true → length ts ≤ n → many looks step n a ts ≡ total → step a ts ≡ Err s → total ≡ Err s
  stops zero s e le so_far f = absurd (omega (arith, first_some (looks a) ts e))
  stops (suc n) s e le so_far f = sym so_far ∙ many_step looks step n a ts e ∙ ap (λ (r : Read A). r >>= λ x. many looks step n x.0 x.1) f

  pub go_wrong : (e : ReadError) → first (looks a) ts ≡ true → Fails e (step a ts) → Fails e total
  go_wrong errors.OutOfMemory e f = tt
  go_wrong (errors.Fault cause left) e f = stops g.bound (record { cause = cause; left = left }) e g.enough g.so_far f

  pub end : first (looks a) ts ≡ false → total ≡ Ok (a, ts)
  end e = sym g.so_far ∙ many_stop looks step g.bound a ts e
