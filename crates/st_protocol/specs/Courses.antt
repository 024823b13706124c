-- A course: what is done one after the other, and where that leads, or the status in which it ends. What is kept is a
-- commit, of whatever type.
use Rattle.std.specs.Prelude.{◌≡◌, ℕ, List, [], ◌∷◌, ◌++◌}
use Rattle.st_protocol.specs.declared.status.Status.{Status}

-- bytes are said, or a commit is kept
pub data Deed (C : Type 0) : Type 0 where
  Reply : List ℕ → Deed C
  Keep : C → Deed C

pub data Course (C X : Type 0) : Type 0 where
  Goes : List (Deed C) → X → Course C X
  Ends : List (Deed C) → Status → Course C X

abbrev pub deeds_of : {C X : Type 0} → Course C X → List (Deed C)
deeds_of (Goes ds x) = ds
deeds_of (Ends ds status) = ds

-- the bytes that deeds say
abbrev pub said_of : {C : Type 0} → List (Deed C) → List ℕ
said_of [] = []
said_of (Reply text ∷ ds) = text ++ said_of ds
said_of (Keep c ∷ ds) = said_of ds

-- the commits that they keep, in order
abbrev pub commits_of : {C : Type 0} → List (Deed C) → List C
commits_of [] = []
commits_of (Reply text ∷ ds) = commits_of ds
commits_of (Keep c ∷ ds) = c ∷ commits_of ds

-- the commit that stands after them, where this one stood before
abbrev pub last_of : {C : Type 0} → C → List (Deed C) → C
last_of c [] = c
last_of c (Reply text ∷ ds) = last_of c ds
last_of c (Keep d ∷ ds) = last_of d ds

-- after these deeds
abbrev pub preceded : {C X : Type 0} → List (Deed C) → Course C X → Course C X
preceded ds (Goes es x) = Goes (ds ++ es) x
preceded ds (Ends es status) = Ends (ds ++ es) status

-- where the first leads somewhere, the second follows
abbrev pub and_then : {C X Y : Type 0} → Course C X → (X → Course C Y) → Course C Y
and_then (Goes ds x) f = preceded ds (f x)
and_then (Ends ds status) f = Ends ds status

-- and then the session ends in this status
abbrev pub ended : {C X : Type 0} → Course C X → Status → Course C X
ended c status = and_then c (λ x. Ends [] status)

-- this is said
abbrev pub replies : {C X : Type 0} → List ℕ → X → Course C X
replies text x = Goes (Reply text ∷ []) x

-- the course ends in this status
abbrev pub IsEnd : {C X : Type 0} → Course C X → Status → Type 0
IsEnd (Goes ds x) e = ⊥
IsEnd (Ends ds status) e = e ≡ status
