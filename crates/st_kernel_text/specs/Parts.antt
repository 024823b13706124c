-- What a chunk of a kernel text says.
use Rattle.std.specs.Prelude.{ℕ, Bool, List}
use Rattle.st_kernel_text.specs.declared.shape.Shape.{Shape}

-- a class: its name, that of its superclass or nil, the shape of its instances, and the names of its own variables
pub record Class : Type 0 where
  pub name : List ℕ
  pub above : List ℕ
  pub shape : Shape
  pub variables : List (List ℕ)

-- class variables of a class
pub record Pool : Type 0 where
  pub class : List ℕ
  pub variables : List (List ℕ)

-- the side of a class whose methods a group has
pub record Side : Type 0 where
  pub class : List ℕ
  pub meta : Bool

-- with which the machine begins: the value of a global, and the method that runs
pub record Start : Type 0 where
  pub receiver : List ℕ
  pub selector : List ℕ

pub data Part : Type 0 where
  class : Class → Part
  pool : Pool → Part
  global : (name : List ℕ) → Part
  -- the empty chunk that opens a group
  opening : Part
  header : Side → Part
  method : (text : List ℕ) → Part
  -- the empty chunk that closes a group
  closing : Part
  start : Start → Part
