-- What a stop leaves while deeds are done.
use Rattle.std.specs.Prelude.{◌≡◌, ◌⊎◌, ℕ, List, [], ◌∷◌, ◌++◌}
use Rattle.st_host.specs.Files.{Files}
use Rattle.st_host.specs.Stops.{SaidPart}
use Rattle.st_protocol.specs.Courses.{Deed, Reply, Keep}

module _ {C : Type 0} (opens : C → Files → Type 0) where
  -- A stop at a moment of these deeds, done in order, where `said` was said and the commit stood before them: while bytes are
  -- said, some first ones of them were said; while a commit is made, the files open as before or as it.
  abbrev pub Underway : C → List ℕ → List (Deed C) → Files → List ℕ → Type 0
  Underway c said [] f s = (s ≡ said) × opens c f
  Underway c said (Reply text ∷ ds) f s = (SaidPart said text s × opens c f) ⊎ Underway c (said ++ text) ds f s
  Underway c said (Keep d ∷ ds) f s = ((s ≡ said) × (opens c f ⊎ opens d f)) ⊎ Underway d said ds f s
