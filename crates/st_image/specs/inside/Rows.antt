-- What the search for the faults of a row, of several and of all answers.
use Rattle.std.specs.Prelude.{◌≡◌, ℕ, ◌<◌, List, Result, Ok, Err}
use Rattle.st_model.specs.declared.fault.ImageFault.{ImageFault}
use Rattle.st_model.specs.declared.head.ImageHead.{ImageHead}
use Rattle.st_model.specs.Faults.{Fails, row, Sooner, IsImageFault}
use Rattle.st_image.specs.declared.error.ReadImage.{ReadImage}
use Rattle.st_image.specs.declared.error.ReadImage.TheVariants.{Fault, OutOfMemory}

-- no fault of row n
abbrev pub IsClean : ImageHead → List ℕ → ℕ → Type 0
IsClean h bytes n = (g : ImageFault) → row g ≡ n → ¬ Fails h bytes g

-- the first fault of row n
pub record IsFirstOf (h : ImageHead) (bytes : List ℕ) (n : ℕ) (f : ImageFault) : Type 0 where
  pub at : row f ≡ n
  pub fails : Fails h bytes f
  pub least : (g : ImageFault) → row g ≡ n → Sooner g f → ¬ Fails h bytes g

-- a row is clean, or the error is its first fault
abbrev pub IsRow : ImageHead → List ℕ → ℕ → Result Unit ImageFault → Type 0
IsRow h bytes n (Ok done) = IsClean h bytes n
IsRow h bytes n (Err f) = IsFirstOf h bytes n f

-- no fault of the rows below n
abbrev pub IsCleanBelow : ImageHead → List ℕ → ℕ → Type 0
IsCleanBelow h bytes n = (g : ImageFault) → row g < n → ¬ Fails h bytes g

-- the fault that an image has, or want of memory
abbrev pub IsReadFault : ImageHead → List ℕ → ReadImage → Type 0
IsReadFault h bytes (Fault f) = IsImageFault h bytes f
IsReadFault h bytes OutOfMemory = Unit {0}

-- a row is clean, or the error is its first fault or want of memory
abbrev pub IsMemoryRow : ImageHead → List ℕ → ℕ → Result Unit ReadImage → Type 0
IsMemoryRow h bytes n (Ok done) = IsClean h bytes n
IsMemoryRow h bytes n (Err (Fault f)) = IsFirstOf h bytes n f
IsMemoryRow h bytes n (Err OutOfMemory) = Unit {0}
