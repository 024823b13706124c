-- What is declared, and a chunk more of a text that is read.
use Rattle.std.proofs.Common.{◌≡◌, ℕ, suc, ◌+◌, List, [], ◌∷◌, ◌++◌, length, Some, sym, ap, ◌∙◌, arith, append_assoc, length-append}
use Rattle.std.specs.Prelude.{Option, Result, Ok, Err}
use Rattle.std.proofs.lemmas.List.{append-nil}
use Rattle.st_kernel_text.specs.declared.cause.Cause.{Cause}
use Rattle.st_kernel_text.specs.declared.cause.Stop.{Stop}
use Rattle.st_kernel_text.specs.declared.cause.Stop.TheVariants.{At, OutOfMemory}
use Rattle.st_kernel_text.specs.Parts.{Part}
use Rattle.st_kernel_text.specs.Forms.{formed_at, behind_part}
use Rattle.st_kernel_text.specs.Known.{Names, Known, and_then, known_behind}
use Rattle.st_kernel_text.specs.Texts.{Account, with_part, read_part, behind, account_from}
use Rattle.st_kernel_text.specs.inside.Reading.{Declares, Tells, State, with_parts, account_behind}

-- what was to be declared is so over all that has these names
pub declares_over : (expected : Result Known Cause) (old other now : Known) (r : Result Unit Stop) → old.names ≡ other.names → Declares expected old now r → Declares expected other now r
declares_over expected old other now (Ok done) same d = d
declares_over expected old other now (Err (At cause)) same d = (d.0, d.1 ∙ same)
declares_over expected old other now (Err OutOfMemory) same d = tt

module _ (s : State) (number : ℕ) (chunk : List ℕ) (p : Part) (here : number ≡ length s.parts) (formed : formed_at s.place chunk ≡ Some p)
    (chunks : List (List ℕ)) (rest : List ℕ) where
  abbrev told : Result (Part × Known) Cause → Account
  told r = with_parts s.parts (behind s.known.names (λ next after. account_from next after (suc (length s.parts)) chunks rest) r)

  -- the account goes on by what is known behind the part
  comes : (r : Result Known Cause) → known_behind s.place s.known number p ≡ r → account_behind s (chunk ∷ chunks) rest ≡ told (and_then (λ after. Ok (p, after)) r)
  comes r is =
      ap (λ (o : Option Part). told (read_part s.place s.known (length s.parts) o)) formed
      ∙ ap (λ n. told (and_then (λ after. Ok (p, after)) (known_behind s.place s.known n p))) (sym here)
      ∙ ap (λ (q : Result Known Cause). told (and_then (λ after. Ok (p, after)) q)) is

  pub read_more : (after : Known) → known_behind s.place s.known number p ≡ Ok after
      → account_behind s (chunk ∷ chunks) rest ≡ account_behind (record { place = behind_part p; known = after; parts = s.parts ++ p ∷ [] }) chunks rest
  read_more after is =
      let more : suc (length s.parts) ≡ length (s.parts ++ p ∷ []) = omega (arith, length-append s.parts (p ∷ [])) in
      let left = account_from (behind_part p) after (length (s.parts ++ p ∷ [])) chunks rest in
      comes (Ok after) is
      ∙ ap (λ n. with_parts s.parts (with_part p (account_from (behind_part p) after n chunks rest))) more
      ∙ (λ i. record { parts = sym (append_assoc s.parts (p ∷ []) left.parts) i; names = left.names; cause = left.cause })

  read_wrong : (cause : Cause) (names : Names) → known_behind s.place s.known number p ≡ Err cause → names ≡ s.known.names
      → account_behind s (chunk ∷ chunks) rest ≡ record { parts = s.parts; names = names; cause = Some cause }
  read_wrong cause names is same = comes (Err cause) is ∙ (λ i. record { parts = append-nil s.parts i; names = sym same i; cause = Some cause })

  pub read_stops : (known : Known) (e : Stop) (goes_on : State → Account) → Declares (known_behind s.place s.known number p) s.known known (Err e)
      → Tells (account_behind s (chunk ∷ chunks) rest) goes_on (record { place = s.place; known = known; parts = s.parts }) (Err e)
  read_stops known (At cause) goes_on d = read_wrong cause known.names d.0 d.1
  read_stops known OutOfMemory goes_on d = tt
