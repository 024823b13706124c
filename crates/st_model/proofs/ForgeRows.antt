-- Worked rows of attempts to forge a pointer, computed from the definitions: bytes stored over a method's header, or past its last
-- byte, fail and change nothing. What has exchanged its class with a String understands nothing more. The objects of a row begin
-- with 31.
use Rattle.std.proofs.Common.{◌≡◌, [], ◌∷◌, None, refl}
use Rattle.st_model.specs.declared.dead.Dead.TheVariants as dead
use Rattle.st_model.specs.Values.{Small, Ref}
use Rattle.st_model.specs.Machine.{Died, ◌>>=◌}
use Rattle.st_model.specs.Table.{table}
use Rattle.st_model.specs.Lookup.{find}
use Rattle.st_model.proofs.Opened.{opened, tries}
use Rattle.st_model.proofs.StorageRows.{pointers, bytes, method, string, class, objects, state, trying, failed, Fails}

-- a method without literals, whose one byte has the index 3: its header has 1 and 2
outside : Fails 61 2 (Ref 31 ∷ Small 0 ∷ Small 9 ∷ []) (method (Small 0 ∷ []) (120 ∷ []) ∷ [])
    × Fails 61 2 (Ref 31 ∷ Small 1 ∷ Small 9 ∷ []) (method (Small 0 ∷ []) (120 ∷ []) ∷ [])
    × Fails 61 2 (Ref 31 ∷ Small 4 ∷ Small 9 ∷ []) (method (Small 0 ∷ []) (120 ∷ []) ∷ [])
    × Fails 74 2 (Ref 31 ∷ Small 0 ∷ Small 9 ∷ []) (method (Small 0 ∷ []) (120 ∷ []) ∷ [])
    × Fails 74 2 (Ref 31 ∷ Small 1 ∷ Small 9 ∷ []) (method (Small 0 ∷ []) (120 ∷ []) ∷ [])
    × Fails 74 2 (Ref 31 ∷ Small 4 ∷ Small 9 ∷ []) (method (Small 0 ∷ []) (120 ∷ []) ∷ [])
unfolding opened trying failed state objects method pointers class
outside = (refl, refl, refl, refl, refl, refl)

-- the class 31 becomes the String 32, and then a message to an instance of it is sought
class_gone : (tries table 72 1 >>= (λ done. find table (Ref 31) (Ref 2))).run (state 2 (objects None (Ref 31 ∷ Ref 32 ∷ []) (class 16386 ∷ string (1 ∷ []) ∷ []))) ≡ Died dead.Kind
unfolding opened state objects string bytes pointers class
class_gone = refl
