-- That a host in memory keeps the laws of a host.
use Rattle.std.specs.Prelude.{◌≡◌, ℕ, ◌≤◌, Bool, true, false, if◌then◌else◌, bytes_eq, List, [], ◌∷◌, length, take, Option, Some, refl}
use Rattle.std.proofs.Common.{inl, inr, ⊎_elim, sym, ◌∙◌, arith, true≢false}
use Rattle.std.proofs.lemmas.Slice.Eq.{bytes_eq-Decides}
use Rattle.st_host.specs.Files.{Files, bytes_of}
use Rattle.st_host.specs.Stops.{Comes, comes, TornByWrite, TornByCut, Here}
use Rattle.st_memory_host.specs.inside.Written.{written, resized, written_torn, resized_torn, begun_torn}
use Rattle.st_host.specs.inside.Names.{same_or_other}
use Rattle.st_memory_host.specs.inside.Deeds.{Deed, Put, Wrote, Tore, Cut, Synced, Said, files_after, ForName, MayLeave, said_after, LeftSince}

-- a fact of a choice by name, from one of each of the two
pub by_name : (name n : List ℕ) (chosen unchanged : Option (List ℕ)) (own other : Option (List ℕ) → Type 0) → own chosen → other unchanged
    → (t : Bool) → bytes_eq n name ≡ t → ForName name n (own (if t then chosen else unchanged)) (other (if t then chosen else unchanged))
by_name name n chosen unchanged own other of_own of_other true e = inl ((bytes_eq-Decides n name).0 e, of_own)
by_name name n chosen unchanged own other of_own of_other false e = inr (λ same. true≢false (sym ((bytes_eq-Decides n name).1 same) ∙ e), of_other)

pub reads_now : (deeds : List Deed) (n : List ℕ) → MayLeave deeds n (files_after deeds n)
reads_now [] n = refl
reads_now (Put name bytes ∷ earlier) n =
    by_name name n (Some bytes) (files_after earlier n) (λ c. c ≡ Some bytes) (MayLeave earlier n) refl (reads_now earlier n) (bytes_eq n name) refl
reads_now (Wrote name at bytes ∷ earlier) n =
    let file = files_after earlier n in
    by_name name n (Some (written at bytes (bytes_of file))) file (λ c. Comes (TornByWrite file at (length bytes)) (MayLeave earlier n) c) (MayLeave earlier n)
    (comes file (reads_now earlier n) (written_torn at bytes file)) (reads_now earlier n) (bytes_eq n name) refl
reads_now (Tore name at bytes done ∷ earlier) n =
    let file = files_after earlier n in
    by_name name n (Some (written at (take done bytes) (bytes_of file))) file (λ c. Comes (TornByWrite file at (length bytes)) (MayLeave earlier n) c) (MayLeave earlier n)
    (comes file (reads_now earlier n) (begun_torn at bytes done file)) (reads_now earlier n) (bytes_eq n name) refl
reads_now (Cut name len ∷ earlier) n =
    let file = files_after earlier n in
    by_name name n (Some (resized len (bytes_of file))) file (λ c. Comes (TornByCut file len) (MayLeave earlier n) c) (MayLeave earlier n)
    (comes file (reads_now earlier n) (resized_torn len file)) (reads_now earlier n) (bytes_eq n name) refl
reads_now (Synced name ∷ earlier) n = ⊎_elim (λ same. inl (same, refl)) (λ other. inr (other, reads_now earlier n)) (same_or_other n name)
reads_now (Said bytes ∷ earlier) n = reads_now earlier n

pub now_counts : (deeds : List Deed) (t : ℕ) (f : Files) (s : List ℕ) → Here (MayLeave deeds) (said_after deeds) f s → LeftSince t deeds f s
now_counts [] t f s here = here
now_counts (deed ∷ earlier) t f s here = inl here

pub now_only : (deeds : List Deed) (f : Files) (s : List ℕ) → LeftSince (length deeds) deeds f s → Here (MayLeave deeds) (said_after deeds) f s
now_only [] f s left = left
now_only (deed ∷ earlier) f s (inl here) = here
now_only (deed ∷ earlier) f s (inr past) = absurd (let le : length (deed ∷ earlier) ≤ length earlier = past.0 in omega arith)
