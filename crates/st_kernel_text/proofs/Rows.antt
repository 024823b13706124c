-- Worked texts.
use Rattle.std.proofs.Common.{◌≡◌, ℕ, [], ◌∷◌, refl}
use Rattle.std.specs.Prelude.{Bool, true, false, codes, Some}
use Rattle.st_kernel_text.specs.declared.shape.Shape.{Shape}
use Rattle.st_kernel_text.specs.declared.shape.Shape.TheVariants.{Indexed, Fixed}
use Rattle.st_kernel_text.specs.declared.named.Named.TheVariants.{Global, Class}
use Rattle.st_kernel_text.specs.Known.{Names}
use Rattle.st_kernel_text.specs.declared.cause.Cause.TheVariants.{Form, Name, Variables, Missing}
use Rattle.st_kernel_text.specs.Words.{words}
use Rattle.st_kernel_text.specs.Parts.{class, pool, global}
use Rattle.st_kernel_text.specs.Texts.{account}

two_words : words (codes " ab\t\nc! ") ≡ codes "ab" ∷ codes "c!" ∷ []
two_words = refl

no_chunk : account (codes "") ≡ record { parts = []; names = []; cause = Some Form }
no_chunk = refl

-- the first part declares a class of this layout
abbrev class_a : Shape → (fields : ℕ) → (shares : Bool) → Names
class_a shape fields shares = (codes "A", Class (record { number = 0; shape = shape; fields = fields; shares = shares })) ∷ []

-- behind the declarations the start is missing
without_start : account (codes "class A super nil indexed a b!\npool A c! ")
    ≡ record {
      parts =
          class (record { name = codes "A"; above = codes "nil"; shape = Indexed; variables = codes "a" ∷ codes "b" ∷ [] })
          ∷ pool (record { class = codes "A"; variables = codes "c" ∷ [] })
          ∷ [];
      names = class_a Indexed 2 true;
      cause = Some Form;
    }
without_start = refl

-- a global has a name that no class may have
name_twice : account (codes "global A! class A super nil fixed!") ≡ record { parts = global (codes "A") ∷ []; names = (codes "A", Global) ∷ []; cause = Some Name }
name_twice = refl

-- of two causes the first in order, also where the other stands first in the chunk
least_cause : account (codes "class A super nil words a a!") ≡ record { parts = []; names = []; cause = Some Name }
least_cause = refl

named_words : account (codes "class A super nil words a!") ≡ record { parts = []; names = []; cause = Some Variables }
named_words = refl

-- the chunk that opens the first group ends the declarations
nothing_needed : account (codes "class A super nil fixed! !A methodsFor: 'a'!")
    ≡ record { parts = class (record { name = codes "A"; above = codes "nil"; shape = Fixed; variables = [] }) ∷ []; names = class_a Fixed 0 false; cause = Some Missing }
nothing_needed = refl

unknown_receiver : account (codes "start A b!") ≡ record { parts = []; names = []; cause = Some Name }
unknown_receiver = refl
