-- One more statement, read behind its caret, or where it has none.
use Rattle.std.proofs.Common.{◌≡◌, ℕ, Bool, true, false, List, [], ◌∷◌, Result, Ok, refl, ap}
use Rattle.std.specs.Prelude.{◌&&◌, not, if◌then◌else◌}
use Rattle.st_scan.specs.declared.fault.Cause.TheVariants.{Expected}
use Rattle.st_scan.specs.Views.{ElementsView, ExpressionView, with_statement}
use Rattle.st_grammar.specs.declared.leaf.Leaf.{Leaf}
use Rattle.st_grammar.specs.declared.leaf.Kind.TheVariants.{Return}
use Rattle.st_grammar.specs.declared.read.ReadError.{ReadError}
use Rattle.st_grammar.specs.declared.read.ReadError.TheVariants as errors
use Rattle.st_grammar.specs.Leaves.{among}
use Rattle.st_grammar.specs.Reading.{Stop, Fails, Read, BodyView, ◌>>=◌, stop, period_at, expression_at, statement_step, returned_at, plain_at}
use Rattle.st_parse.specs.inside.Phrases.{caret_at}

-- what goes wrong goes wrong whatever would have followed
pub fails_behind : {A B : Type 0} (e : ReadError) (m : Result A Stop) (f : A → Result B Stop) → Fails e m → Fails e (m >>= f)
fails_behind errors.OutOfMemory m f h = tt
fails_behind (errors.Fault cause left) m f h = ap (λ x. x >>= f) h

module _ (text : List ℕ) (arrays : List Leaf → Read ElementsView) (brackets : Bool → List Leaf → Read ExpressionView) (b : BodyView) where
  -- behind a caret or none
  abbrev pub statement_behind : Bool × List Leaf → Read BodyView
  statement_behind q = expression_at text arrays brackets q.1 >>= λ e.
      Ok (record { statements = with_statement b.statements q.0 e.0; goes_on = not q.0 && (period_at e.1).0 }, (period_at e.1).1)

  by_caret : (x : Leaf) (ts : List Leaf) (c : Bool)
      → (if c then ((if c then Ok (x, ts) else stop Expected (x ∷ ts)) >>= λ r. statement_behind (true, r.1)) else statement_behind (false, x ∷ ts))
      ≡ statement_behind (if c then (true, ts) else (false, x ∷ ts))
  by_caret x ts true = refl
  by_caret x ts false = refl

  pub statement_parts : (ts : List Leaf) → statement_step text arrays brackets b ts ≡ statement_behind (caret_at ts)
  unfolding statement_step returned_at plain_at
  statement_parts [] = refl
  statement_parts (x ∷ ts) = by_caret x ts (among (Return ∷ []) x)
