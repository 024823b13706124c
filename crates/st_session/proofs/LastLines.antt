-- Last lines acknowledge nothing, and none says that a store is made.
use Rattle.std.proofs.Common.{◌≡◌, ℕ, false, true≢false, List, [], ◌∷◌, ◌++◌, refl, sym, ap, ◌∙◌, subst, append-nil, arith}
use Rattle.std.specs.Prelude.{codes, decimal, slice_index, ◌==◌}
use Rattle.std.proofs.lemmas.List.{append_cancel_left}
use Rattle.st_host.specs.Stops.{SaidPart}
use Rattle.st_model.specs.declared.fault.ImageFault.{ImageFault}
use Rattle.st_model.specs.Faults.{row}
use Rattle.st_model.specs.Text.{numbers_text}
use Rattle.st_store.specs.declared.fault.StoreFault.{StoreFault}
use Rattle.st_store.specs.declared.fault.StoreFault.TheVariants as store
use Rattle.st_store.specs.declared.fault.StorePlace.{StorePlace}
use Rattle.st_store.specs.declared.fault.StorePlace.TheVariants.{Roots, Changes}
use Rattle.st_protocol.specs.declared.status.Status.{Status}
use Rattle.st_protocol.specs.declared.status.Status.TheVariants as status
use Rattle.st_protocol.specs.Acknowledged.{counts, acknowledged}
use Rattle.st_protocol.proofs.Counting.{front_of}
use Rattle.st_protocol.proofs.Underways.{nothing_of}
use Rattle.st_call.specs.LastLines.{fault_line, fault_numbers, script_line, place_line, store_line, kernel_line, last_line}
use Rattle.st_session.specs.declared.making.Origin.{Origin}
use Rattle.st_session.specs.declared.making.Origin.TheVariants.{Image, Kernel}
use Rattle.st_session.specs.Makings.{Contents, made_text}
use Rattle.st_session.proofs.WholeLines.{IsLine, one_line, numbers_line}

-- a word and one number
word_line : (word : List ℕ) (n : ℕ) → word ++ (numbers_text (n ∷ []) ++ codes "\n") ≡ word ++ ((codes " " ++ decimal n) ++ codes "\n")
word_line word n = ap (λ t. word ++ (t ++ codes "\n")) (append-nil (codes " " ++ decimal n))

-- a line acknowledges nothing if two letters with which it begins are those of no line that does
quiet_word : (b d : ℕ) (rest word : List ℕ) → ((w : List ℕ) → counts (b ∷ d ∷ w) ≡ 0) → (d ≡ 10 → ⊥) → b ∷ d ∷ rest ≡ word ++ 10 ∷ [] → counts word ≡ 0
quiet_word b d rest [] none inside e = cc
quiet_word b d rest (x ∷ []) none inside e = let second : d ≡ 10 = ap (λ (l : List ℕ). slice_index l 1) e in absurd (inside second)
quiet_word b d rest (x ∷ y ∷ w) none inside e =
    let first : x ≡ b = sym (ap (λ (l : List ℕ). slice_index l 0) e) in
    let second : y ≡ d = sym (ap (λ (l : List ℕ). slice_index l 1) e) in
    (λ i. counts (first i ∷ second i ∷ w)) ∙ none w

quiet : (b d : ℕ) (rest : List ℕ) → ((w : List ℕ) → counts (b ∷ d ∷ w) ≡ 0) → (d ≡ 10 → ⊥) → IsLine (b ∷ d ∷ rest) → acknowledged (b ∷ d ∷ rest) ≡ 0
quiet b d rest none inside l = (one_line 0 (b ∷ d ∷ rest) l (quiet_word b d rest l.word none inside l.is)).count

fault_quiet : (f : ImageFault) → acknowledged (fault_line f) ≡ 0
fault_quiet f = quiet 105 109 _ (λ w. refl) (λ e. omega (arith, e)) (numbers_line (codes "image") (row f ∷ fault_numbers f) refl)

script_quiet : (n : ℕ) → acknowledged (script_line n) ≡ 0
script_quiet n = ap acknowledged (sym (word_line (codes "script") n)) ∙ quiet 115 99 _ (λ w. refl) (λ e. omega (arith, e)) (numbers_line (codes "script") (n ∷ []) refl)

place_quiet : (p : StorePlace) → acknowledged (place_line p) ≡ 0
place_quiet (Roots at) = ap acknowledged (sym (word_line (codes "store damaged roots") at)) ∙ quiet 115 116 _ (λ w. refl) (λ e. omega (arith, e)) (numbers_line (codes "store damaged roots") (at ∷ []) refl)
place_quiet (Changes at) = ap acknowledged (sym (word_line (codes "store damaged changes") at)) ∙ quiet 115 116 _ (λ w. refl) (λ e. omega (arith, e)) (numbers_line (codes "store damaged changes") (at ∷ []) refl)

store_quiet : (f : StoreFault) → acknowledged (store_line f) ≡ 0
store_quiet store.Missing = refl
store_quiet store.Exists = refl
store_quiet (store.NotAStore place) = place_quiet place
store_quiet store.Disk = refl
store_quiet store.OutOfMemory = refl

kernel_quiet : (chunk cause : ℕ) → acknowledged (kernel_line chunk cause) ≡ 0
kernel_quiet chunk cause = quiet 107 101 _ (λ w. refl) (λ e. omega (arith, e)) (numbers_line (codes "kernel") (chunk ∷ cause ∷ []) refl)

pub quiet_line : (e : Status) → acknowledged (last_line e) ≡ 0
quiet_line status.Done = refl
quiet_line status.Usage = refl
quiet_line (status.Image f) = fault_quiet f
quiet_line (status.Script line) = script_quiet line
quiet_line status.ReadFault = refl
quiet_line status.SayFault = refl
quiet_line status.DiskFault = refl
quiet_line (status.Store f) = store_quiet f
quiet_line (status.Kernel chunk cause) = kernel_quiet chunk cause
quiet_line status.TooLarge = refl
quiet_line status.OutOfMemory = refl

-- MADE

-- a line doesn't begin as `built`, and its third letter isn't that of `imported`
record IsOther (line : List ℕ) : Type 0 where
  first : (slice_index line 0 == 98) ≡ false
  third : (slice_index line 2 == 112) ≡ false

store_other : (f : StoreFault) → IsOther (store_line f)
store_other store.Missing = record { first = refl; third = refl }
store_other store.Exists = record { first = refl; third = refl }
store_other (store.NotAStore (Roots at)) = record { first = refl; third = refl }
store_other (store.NotAStore (Changes at)) = record { first = refl; third = refl }
store_other store.Disk = record { first = refl; third = refl }
store_other store.OutOfMemory = record { first = refl; third = refl }

other : (e : Status) → IsOther (last_line e)
other status.Done = record { first = refl; third = refl }
other status.Usage = record { first = refl; third = refl }
other (status.Image f) = record { first = refl; third = refl }
other (status.Script line) = record { first = refl; third = refl }
other status.ReadFault = record { first = refl; third = refl }
other status.SayFault = record { first = refl; third = refl }
other status.DiskFault = record { first = refl; third = refl }
other (status.Store f) = store_other f
other (status.Kernel chunk cause) = record { first = refl; third = refl }
other status.TooLarge = record { first = refl; third = refl }
other status.OutOfMemory = record { first = refl; third = refl }

not_made : (o : Origin) (c : Contents) (e : Status) (rest : List ℕ) → made_text o c ++ rest ≡ last_line e → ⊥
not_made Image c e rest is = true≢false (ap (λ (l : List ℕ). slice_index l 2 == 112) is ∙ (other e).third)
not_made Kernel c e rest is = true≢false (ap (λ (l : List ℕ). slice_index l 0 == 98) is ∙ (other e).first)

-- no part of a last line
pub part_not_made : (o : Origin) (c : Contents) (e : Status) (said s : List ℕ) → SaidPart said (last_line e) s → s ≡ said ++ made_text o c → ⊥
part_not_made o c e said s part whole =
    let front = front_of said (last_line e) s part in
    let same : front.0 ≡ made_text o c = append_cancel_left said front.0 (made_text o c) (sym front.1 ∙ whole) in
    not_made o c e (front.2).0 (subst (λ (w : List ℕ). w ++ (front.2).0 ≡ last_line e) same (front.2).1)

-- nor nothing
pub none_not_made : (o : Origin) (c : Contents) (said s : List ℕ) → s ≡ said → s ≡ said ++ made_text o c → ⊥
none_not_made o c said s same whole = part_not_made o c status.Done said s (nothing_of said [] s same) whole
