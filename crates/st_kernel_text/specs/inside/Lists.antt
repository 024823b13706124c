-- Lists of texts without where these lie in memory.
use Rattle.std.specs.Prelude.{ℕ, List, [], ◌∷◌, map, Option}
use Rattle.std.specs.Global.{Vec}
use Rattle.std.specs.Borrow.{Bor}
use Rattle.st_kernel_text.specs.declared.named.Named.{Named}
use Rattle.st_kernel_text.specs.declared.shape.Shape.{Shape}

abbrev pub texts_of : List (Vec ℕ) → List (List ℕ)
texts_of [] = []
texts_of (t ∷ ts) = t.items ∷ texts_of ts

abbrev pub names_of : List (Vec ℕ × Named) → List (List ℕ × Named)
names_of entries = map (λ e. (e.0.items, e.1)) entries

abbrev pub variables_of : List (ℕ × Vec ℕ) → List (ℕ × List ℕ)
variables_of keys = map (λ k. (k.0, k.1.items)) keys

abbrev pub names_now : List (Bor (List ℕ)) → List (List ℕ)
names_now names = map (λ name. name.now) names

abbrev pub needs_of : List (Option (Shape × ℕ) × Bor (List (Bor (List ℕ)))) → List (Option (Shape × ℕ) × List (List ℕ))
needs_of ns = map (λ n. (n.0, names_now n.1.now)) ns
