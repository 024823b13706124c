-- The fields of a region: a pointer and a length.
use Rattle.std.proofs.Common.{◌≡◌, ℕ, ◌^◌, ◌<◌, List, [], ◌∷◌, ◌++◌, refl, ◌∙◌, w64}
use seplogic.Ra.Ura.{Ura}
use mir.Val.{Val, vint, vstruct, vcons, vnil, of_list}
use base.Logic.{ent, emp}
use types.Logic.{Logic, sem}
use denote.RattleType.{RattleType}
use denote.Laws.{Is}
use denote.Opens.{Opens}
use denote.Copied.{Struct-Copied}
use denote.RawPtr.{Ptr, ptr_val}
use denote.Shadow.{makes_shadow}
use denote.Struct.Laws.{RawPtr-copy, usize-copy}
use denote.Struct.Struct.{Struct}
use denote.Struct.Owning.{shape}
use Rattle.st_cells.specs.contracts.region.Region as region

abbrev pub region_val : Ptr → ℕ → Val
region_val p n = vstruct (vcons (ptr_val p) (vcons (vint w64 n) vnil))

abbrev pub Data : RattleType
Data = Struct (shape region.the_type)

pub told : (p : Ptr) (n : ℕ) (vs : List Val) → Is Data (p, (n, tt)) vs → (vs ≡ region_val p n ∷ []) × (n < 2 ^ 64)
told p n vs s = (s.1.0 ∙ (λ i. vstruct (of_list (s.1.1.0 i ++ (s.1.1.1.0.0 i ++ []))) ∷ []), s.1.1.1.0.1)

pub made : {M : Type 1} {𝓤 : Ura M} (𝓛 : Logic 𝓤) (p : Ptr) (n : ℕ) → n < 2 ^ 64 → ent 𝓤 (emp 𝓤) (sem 𝓛 (Data.own_val (p, (n, tt)) (region_val p n ∷ [])))
made 𝓛 p n f = makes_shadow 𝓛 (Data.own_val (p, (n, tt)) (region_val p n ∷ [])) (λ _. (tt, (tt, ((tt, tt), tt)))) ((ptr_val p ∷ [], (vint w64 n ∷ [], tt)), (refl, (refl, ((refl, f), tt))))

pub opened : {M : Type 1} {𝓤 : Ura M} (𝓛 : Logic 𝓤) → Opens 𝓛 Data
opened {M} {𝓤 = 𝓤} 𝓛 = (Struct-Copied 𝓛 (shape region.the_type) (refl, (refl, tt)) (RawPtr-copy.copied M 𝓤 𝓛, (usize-copy.copied M 𝓤 𝓛, tt))).opens
