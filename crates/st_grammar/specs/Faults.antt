-- When leaves are a method, and where the first one stands that cannot stand there.
use Rattle.std.specs.Prelude.{◌≡◌, ℕ, ◌+◌, ◌-◌, ◌≤◌, max, if◌then◌else◌, List, [], ◌∷◌, ◌++◌, length, ◌⊎◌, IsTrue}
use Rattle.st_scan.specs.declared.fault.Cause.{Cause}
use Rattle.st_scan.specs.declared.fault.Cause.TheVariants.{Expected, Deep, Trailing}
use Rattle.st_scan.specs.Views.{MethodView}
use Rattle.st_grammar.specs.declared.leaf.Leaf.{Leaf}
use Rattle.st_grammar.specs.Leaves.{among, openings, closings}
use Rattle.st_grammar.specs.Phrases.{Method, method_text}
use Rattle.st_grammar.specs.Trees.{MethodFits, method_tree}

-- NESTING

-- how many brackets are open behind a leaf, where h are open before it
abbrev pub level : ℕ → Leaf → ℕ
level h x = if among openings x then h + 1 else (if among closings x then h - 1 else h)

-- how many are open behind all leaves
abbrev pub height : ℕ → List Leaf → ℕ
height h [] = h
height h (x ∷ ts) = height (level h x) ts

-- the most that are open at some place
abbrev pub highest : ℕ → List Leaf → ℕ
highest h [] = h
highest h (x ∷ ts) = max h (highest (level h x) ts)

-- the most brackets that may be open
abbrev pub most : ℕ
most = 200

-- METHODS

module _ (text : List ℕ) where
  -- The leaves are those of a method.
  abbrev pub IsMethod : List Leaf → Type 0
  IsMethod ts = (m : Method) × MethodFits text m × (method_text m ≡ ts)

  -- They are those of a method with this tree.
  abbrev pub IsMethodOf : List Leaf → MethodView → Type 0
  IsMethodOf ts t = (m : Method) × MethodFits text m × (method_text m ≡ ts) × (method_tree text m ≡ t)

  -- Some method begins with these leaves.
  abbrev pub Begins : List Leaf → Type 0
  Begins ts = (m : Method) × MethodFits text m × (more : List Leaf) × (method_text m ≡ ts ++ more)

  -- The first of the leaves that are left cannot stand behind the others. At the end: the others are no method.
  abbrev pub CannotStand : List Leaf → List Leaf → Type 0
  CannotStand before [] = IsMethod before → ⊥
  CannotStand before (x ∷ rest) = Begins (before ++ x ∷ []) → ⊥

  -- a bracket that could stand there, but as many are open as may be
  pub record IsTooDeep (before rest : List Leaf) : Type 0 where
    pub bracket : Leaf
    pub behind : List Leaf
    pub parts : rest ≡ bracket ∷ behind
    pub opens : IsTrue (among openings bracket)
    pub could : Begins (before ++ bracket ∷ [])
    pub open_before : height 0 before ≡ most

  -- Why the first of the leaves that are left is a fault: Deep; or Trailing where the leaves before it are a method, and
  -- Expected elsewhere.
  abbrev pub Why : Cause → List Leaf → List Leaf → Type 0
  Why cause before rest =
      ((cause ≡ Deep) × IsTooDeep before rest)
      ⊎ (CannotStand before rest × (((cause ≡ Trailing) × IsMethod before) ⊎ ((cause ≡ Expected) × (IsMethod before → ⊥))))

  -- The first fault of leaves that are no method, or one with too many brackets open: its cause, and how many leaves are
  -- left there.
  pub record FaultAt (ts : List Leaf) (cause : Cause) (left : ℕ) : Type 0 where
    pub before : List Leaf
    pub rest : List Leaf
    pub parts : ts ≡ before ++ rest
    pub place : length rest ≡ left
    pub begins : Begins before
    pub shallow : highest 0 before ≤ most
    pub why : Why cause before rest
