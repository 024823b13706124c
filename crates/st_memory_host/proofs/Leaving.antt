-- What is left by each of the three ways is one of the states that a stop may leave, and the deeds that leave it do.
use Rattle.std.proofs.Common.{◌≡◌, ◌≢◌, inl, inr, ⊎_elim, ℕ, ◌+◌, max, Bool, true, false, if◌then◌else◌, bytes_eq, List, [], ◌∷◌, length, Option, Some, None, refl, sym, subst, ap, ◌∙◌, arith, take, zero, suc}
use Rattle.std.proofs.lemmas.Slice.Eq.{bytes_eq-Decides}
use Rattle.std.proofs.lemmas.List.{length-replicate}
use Rattle.st_host.specs.Files.{Files, bytes_of}
use Rattle.st_host.specs.Stops.{Comes, comes, Torn, TornByWrite, TornByCut}
use Rattle.st_host.specs.inside.Names.{same_or_other}
use Rattle.st_host.proofs.Touching.{torn_same}
use Rattle.st_memory_host.specs.inside.Written.{written, resized, written_is, resized_is, written_torn, resized_torn, begun_torn}
use Rattle.st_memory_host.specs.inside.Deeds.{Deed, Put, Wrote, Tore, Cut, Synced, Said, files_after, ForName, MayLeave, said_after}
use Rattle.st_memory_host.specs.inside.MemHost.{by_name, reads_now}
use Rattle.st_memory_host.specs.inside.HostState.{HostState}
use Rattle.st_memory_host.specs.inside.Leave.{old_after, ones, ones_after, left_after, IsStopped, copied, deeds_left, host_of}
use Rattle.st_memory_host.specs.declared.replay.Leave.{Leave}
use Rattle.st_memory_host.specs.declared.replay.Leave.TheVariants.{Old, New, Ones}

if_own : (n name : List ℕ) (one other : Option (List ℕ)) → n ≡ name → (if bytes_eq n name then one else other) ≡ one
if_own n name one other same = ap (λ (t : Bool). if t then one else other) ((bytes_eq-Decides n name).1 same)

if_not : (n name : List ℕ) (one other : Option (List ℕ)) → n ≢ name → (t : Bool) → bytes_eq n name ≡ t → (if t then one else other) ≡ other
if_not n name one other differ true e = absurd (differ ((bytes_eq-Decides n name).0 e))
if_not n name one other differ false e = refl

pub if_other : (n name : List ℕ) (one other : Option (List ℕ)) → n ≢ name → (if bytes_eq n name then one else other) ≡ other
if_other n name one other differ = if_not n name one other differ (bytes_eq n name) refl

-- a change to nothing new of a file, and none of another
same_by_name : (name n : List ℕ) (own other : Option (List ℕ) → Type 0) (c : Option (List ℕ)) → own c → other c → ForName name n (own c) (other c)
same_by_name name n own other c of_own of_other = ⊎_elim (λ same. inl (same, of_own)) (λ differ. inr (differ, of_other)) (same_or_other n name)

-- a write that left a file as it could be
write_stays : (name n : List ℕ) (at len : ℕ) (file old : Option (List ℕ)) (could : Option (List ℕ) → Type 0) → could old → ForName name n (Comes (TornByWrite file at len) could old) (could old)
write_stays name n at len file old could can =
    let end = length (bytes_of file) in
    same_by_name name n (λ c. Comes (TornByWrite file at len) could c) could old (comes old can (torn_same end at len (max end (at + len)) old)) can

old_may : (deeds : List Deed) (n : List ℕ) → MayLeave deeds n (old_after deeds n)
old_may [] n = refl
old_may (Put name bytes ∷ earlier) n =
    by_name name n (Some bytes) (old_after earlier n) (λ c. c ≡ Some bytes) (MayLeave earlier n) refl (old_may earlier n) (bytes_eq n name) refl
old_may (Wrote name at bytes ∷ earlier) n = write_stays name n at (length bytes) (files_after earlier n) (old_after earlier n) (MayLeave earlier n) (old_may earlier n)
old_may (Tore name at bytes done ∷ earlier) n = write_stays name n at (length bytes) (files_after earlier n) (old_after earlier n) (MayLeave earlier n) (old_may earlier n)
old_may (Cut name len ∷ earlier) n =
    let file = files_after earlier n in
    let old = old_after earlier n in
    same_by_name name n (λ c. Comes (TornByCut file len) (MayLeave earlier n) c) (MayLeave earlier n) old
    (comes old (old_may earlier n) (torn_same (length (bytes_of file)) 0 0 len old)) (old_may earlier n)
old_may (Synced name ∷ earlier) n =
    let file = files_after earlier n in
    by_name name n file (old_after earlier n) (λ c. c ≡ file) (MayLeave earlier n) refl (old_may earlier n) (bytes_eq n name) refl
old_may (Said bytes ∷ earlier) n = old_may earlier n

-- two files of one length, by a choice of the same name
long_by_name : (t : Bool) (one two other another : Option (List ℕ)) → length (bytes_of one) ≡ length (bytes_of two) → length (bytes_of other) ≡ length (bytes_of another)
    → length (bytes_of (if t then one else other)) ≡ length (bytes_of (if t then two else another))
long_by_name true one two other another chosen unchanged = chosen
long_by_name false one two other another chosen unchanged = unchanged

-- two files of one length stay so where bytes are written in one, and as many others in the other
wrote_long : (name n : List ℕ) (at : ℕ) (bytes : List ℕ) (left file : Option (List ℕ)) → length (bytes_of left) ≡ length (bytes_of file)
    → length (bytes_of (if bytes_eq n name then Some (written at (ones (length bytes)) (bytes_of left)) else left)) ≡ length (bytes_of (if bytes_eq n name then Some (written at bytes (bytes_of file)) else file))
wrote_long name n at bytes left file long =
    let all = ones (length bytes) in
    long_by_name (bytes_eq n name) (Some (written at all (bytes_of left))) (Some (written at bytes (bytes_of file))) left file
    (omega (arith, (written_is at all left).long, (written_is at bytes file).long, long, length-replicate {A = ℕ} (length bytes) 255)) long

ones_long : (deeds : List Deed) (n : List ℕ) → length (bytes_of (ones_after deeds n)) ≡ length (bytes_of (files_after deeds n))
ones_long [] n = refl
ones_long (Put name bytes ∷ earlier) n = long_by_name (bytes_eq n name) (Some bytes) (Some bytes) (ones_after earlier n) (files_after earlier n) refl (ones_long earlier n)
ones_long (Wrote name at bytes ∷ earlier) n = wrote_long name n at bytes (ones_after earlier n) (files_after earlier n) (ones_long earlier n)
ones_long (Tore name at bytes done ∷ earlier) n = wrote_long name n at (take done bytes) (ones_after earlier n) (files_after earlier n) (ones_long earlier n)
ones_long (Cut name len ∷ earlier) n =
    let file = files_after earlier n in
    let left = ones_after earlier n in
    long_by_name (bytes_eq n name) (Some (resized len (bytes_of left))) (Some (resized len (bytes_of file))) left file
    (omega (arith, (resized_is len left).long, (resized_is len file).long))
    (ones_long earlier n)
ones_long (Synced name ∷ earlier) n =
    let file = files_after earlier n in
    ⊎_elim
    (λ same. ap (λ (c : Option (List ℕ)). length (bytes_of c)) (if_own n name file (ones_after earlier n) same))
    (λ differ. ap (λ (c : Option (List ℕ)). length (bytes_of c)) (if_other n name file (ones_after earlier n) differ) ∙ ones_long earlier n)
    (same_or_other n name)
ones_long (Said bytes ∷ earlier) n = ones_long earlier n

ones_taken : (done : ℕ) (bytes : List ℕ) → take done (ones (length bytes)) ≡ ones (length (take done bytes))
ones_taken zero bytes = refl
ones_taken (suc done) [] = refl
ones_taken (suc done) (b ∷ bytes) = ap (λ (x : List ℕ). 255 ∷ x) (ones_taken done bytes)

ones_may : (deeds : List Deed) (n : List ℕ) → MayLeave deeds n (ones_after deeds n)
ones_may [] n = refl
ones_may (Put name bytes ∷ earlier) n =
    by_name name n (Some bytes) (ones_after earlier n) (λ c. c ≡ Some bytes) (MayLeave earlier n) refl (ones_may earlier n) (bytes_eq n name) refl
ones_may (Wrote name at bytes ∷ earlier) n =
    let file = files_after earlier n in
    let left = ones_after earlier n in
    let all = ones (length bytes) in
    let end = length (bytes_of file) in
    let new : Option (List ℕ) = Some (written at all (bytes_of left)) in
    let ends = subst (λ (x : ℕ). Torn x at (length all) (max x (at + length all)) left new) (ones_long earlier n) (written_torn at all left) in
    let torn = subst (λ (x : ℕ). Torn end at x (max end (at + x)) left new) (length-replicate {A = ℕ} (length bytes) 255) ends in
    by_name name n new left (λ c. Comes (TornByWrite file at (length bytes)) (MayLeave earlier n) c) (MayLeave earlier n)
    (comes left (ones_may earlier n) torn) (ones_may earlier n) (bytes_eq n name) refl
ones_may (Tore name at bytes done ∷ earlier) n =
    let file = files_after earlier n in
    let left = ones_after earlier n in
    let part = take done bytes in
    let all = ones (length bytes) in
    let end = length (bytes_of file) in
    let new : Option (List ℕ) = Some (written at (ones (length part)) (bytes_of left)) in
    let cut : take done all ≡ ones (length part) = ones_taken done bytes in
    let begun = subst (λ (x : List ℕ). TornByWrite left at (length all) left (Some (written at x (bytes_of left)))) cut (begun_torn at all done left) in
    let ends = subst (λ (x : ℕ). Torn x at (length all) (max x (at + length all)) left new) (ones_long earlier n) begun in
    let torn = subst (λ (x : ℕ). Torn end at x (max end (at + x)) left new) (length-replicate {A = ℕ} (length bytes) 255) ends in
    by_name name n new left (λ c. Comes (TornByWrite file at (length bytes)) (MayLeave earlier n) c) (MayLeave earlier n)
    (comes left (ones_may earlier n) torn) (ones_may earlier n) (bytes_eq n name) refl
ones_may (Cut name len ∷ earlier) n =
    let file = files_after earlier n in
    let left = ones_after earlier n in
    let new : Option (List ℕ) = Some (resized len (bytes_of left)) in
    let torn = subst (λ (x : ℕ). Torn x 0 0 len left new) (ones_long earlier n) (resized_torn len left) in
    by_name name n new left (λ c. Comes (TornByCut file len) (MayLeave earlier n) c) (MayLeave earlier n)
    (comes left (ones_may earlier n) torn) (ones_may earlier n) (bytes_eq n name) refl
ones_may (Synced name ∷ earlier) n =
    let file = files_after earlier n in
    by_name name n file (ones_after earlier n) (λ c. c ≡ file) (MayLeave earlier n) refl (ones_may earlier n) (bytes_eq n name) refl
ones_may (Said bytes ∷ earlier) n = ones_may earlier n

left_may : (how : Leave) (deeds : List Deed) (n : List ℕ) → MayLeave deeds n (left_after how deeds n)
left_may Old deeds n = old_may deeds n
left_may New deeds n = reads_now deeds n
left_may Ones deeds n = ones_may deeds n

-- an own file that was put, written or cut isn't absent
there : (n name bytes : List ℕ) (other : Option (List ℕ)) → n ≡ name → (if bytes_eq n name then Some bytes else other) ≢ None
there n name bytes other same none = cc (sym (if_own n name (Some bytes) other same) ∙ none)

-- a file that reads as absent was never there
stays_absent : (deeds : List Deed) (n : List ℕ) (c : Option (List ℕ)) → files_after deeds n ≡ None → MayLeave deeds n c → c ≡ None
stays_absent [] n c none may = may
stays_absent (Put name bytes ∷ earlier) n c none (inl own) = absurd (there n name bytes (files_after earlier n) own.0 none)
stays_absent (Put name bytes ∷ earlier) n c none (inr other) =
    stays_absent earlier n c (sym (if_other n name (Some bytes) (files_after earlier n) other.0) ∙ none) other.1
stays_absent (Wrote name at bytes ∷ earlier) n c none (inl own) =
    absurd (there n name (written at bytes (bytes_of (files_after earlier n))) (files_after earlier n) own.0 none)
stays_absent (Wrote name at bytes ∷ earlier) n c none (inr other) =
    let file = files_after earlier n in
    stays_absent earlier n c (sym (if_other n name (Some (written at bytes (bytes_of file))) file other.0) ∙ none) other.1
stays_absent (Tore name at bytes done ∷ earlier) n c none (inl own) =
    absurd (there n name (written at (take done bytes) (bytes_of (files_after earlier n))) (files_after earlier n) own.0 none)
stays_absent (Tore name at bytes done ∷ earlier) n c none (inr other) =
    let file = files_after earlier n in
    stays_absent earlier n c (sym (if_other n name (Some (written at (take done bytes) (bytes_of file))) file other.0) ∙ none) other.1
stays_absent (Cut name len ∷ earlier) n c none (inl own) =
    absurd (there n name (resized len (bytes_of (files_after earlier n))) (files_after earlier n) own.0 none)
stays_absent (Cut name len ∷ earlier) n c none (inr other) =
    let file = files_after earlier n in
    stays_absent earlier n c (sym (if_other n name (Some (resized len (bytes_of file))) file other.0) ∙ none) other.1
stays_absent (Synced name ∷ earlier) n c none (inl own) = own.1 ∙ none
stays_absent (Synced name ∷ earlier) n c none (inr other) = stays_absent earlier n c none other.1
stays_absent (Said bytes ∷ earlier) n c none may = stays_absent earlier n c none may

-- Where a file is copied as it reads, it is left as it reads, and the others as before.
copied_files : (name n : List ℕ) (earlier deeds : List Deed) (left : Files) → ((m : List ℕ) → files_after deeds m ≡ left m) → MayLeave earlier name (left name)
    → (file : Option (List ℕ)) → files_after earlier name ≡ file → files_after (copied name file deeds) n ≡ (if bytes_eq n name then files_after earlier n else left n)
copied_files name n earlier deeds left so may (Some bytes) reads =
    ⊎_elim
    (λ same.
    if_own n name (Some bytes) (files_after deeds n) same ∙ sym reads ∙ ap (λ (m : List ℕ). files_after earlier m) (sym same)
    ∙ sym (if_own n name (files_after earlier n) (left n) same))
    (λ differ. if_other n name (Some bytes) (files_after deeds n) differ ∙ so n ∙ sym (if_other n name (files_after earlier n) (left n) differ))
    (same_or_other n name)
copied_files name n earlier deeds left so may None reads =
    ⊎_elim
    (λ same.
    so n ∙ ap left same ∙ stays_absent earlier name (left name) reads may ∙ sym reads ∙ ap (λ (m : List ℕ). files_after earlier m) (sym same)
    ∙ sym (if_own n name (files_after earlier n) (left n) same))
    (λ differ. so n ∙ sym (if_other n name (files_after earlier n) (left n) differ))
    (same_or_other n name)

either : (t : Bool) (file : Option (List ℕ)) → (if t then file else file) ≡ file
either true file = refl
either false file = refl

old_files : (deeds : List Deed) (n : List ℕ) → files_after (deeds_left Old deeds) n ≡ old_after deeds n
old_files [] n = refl
old_files (Put name bytes ∷ earlier) n = ap (λ (file : Option (List ℕ)). if bytes_eq n name then Some bytes else file) (old_files earlier n)
old_files (Wrote name at bytes ∷ earlier) n = old_files earlier n
old_files (Tore name at bytes done ∷ earlier) n = old_files earlier n
old_files (Cut name len ∷ earlier) n = old_files earlier n
old_files (Synced name ∷ earlier) n =
    copied_files name n earlier (deeds_left Old earlier) (old_after earlier) (old_files earlier) (old_may earlier name) (files_after earlier name) refl
old_files (Said bytes ∷ earlier) n = old_files earlier n

new_files : (deeds : List Deed) (n : List ℕ) → files_after (deeds_left New deeds) n ≡ files_after deeds n
new_files [] n = refl
new_files (Put name bytes ∷ earlier) n = ap (λ (file : Option (List ℕ)). if bytes_eq n name then Some bytes else file) (new_files earlier n)
new_files (Wrote name at bytes ∷ earlier) n =
    ap (λ (file : Option (List ℕ)). if bytes_eq n name then Some (written at bytes (bytes_of file)) else file) (new_files earlier n)
new_files (Tore name at bytes done ∷ earlier) n =
    ap (λ (file : Option (List ℕ)). if bytes_eq n name then Some (written at (take done bytes) (bytes_of file)) else file) (new_files earlier n)
new_files (Cut name len ∷ earlier) n =
    ap (λ (file : Option (List ℕ)). if bytes_eq n name then Some (resized len (bytes_of file)) else file) (new_files earlier n)
new_files (Synced name ∷ earlier) n =
    copied_files name n earlier (deeds_left New earlier) (files_after earlier) (new_files earlier) (reads_now earlier name) (files_after earlier name) refl
    ∙ either (bytes_eq n name) (files_after earlier n)
new_files (Said bytes ∷ earlier) n = new_files earlier n

ones_files : (deeds : List Deed) (n : List ℕ) → files_after (deeds_left Ones deeds) n ≡ ones_after deeds n
ones_files [] n = refl
ones_files (Put name bytes ∷ earlier) n = ap (λ (file : Option (List ℕ)). if bytes_eq n name then Some bytes else file) (ones_files earlier n)
ones_files (Wrote name at bytes ∷ earlier) n =
    ap (λ (file : Option (List ℕ)). if bytes_eq n name then Some (written at (ones (length bytes)) (bytes_of file)) else file) (ones_files earlier n)
ones_files (Tore name at bytes done ∷ earlier) n =
    ap (λ (file : Option (List ℕ)). if bytes_eq n name then Some (written at (ones (length (take done bytes))) (bytes_of file)) else file) (ones_files earlier n)
ones_files (Cut name len ∷ earlier) n =
    ap (λ (file : Option (List ℕ)). if bytes_eq n name then Some (resized len (bytes_of file)) else file) (ones_files earlier n)
ones_files (Synced name ∷ earlier) n =
    copied_files name n earlier (deeds_left Ones earlier) (ones_after earlier) (ones_files earlier) (ones_may earlier name) (files_after earlier name) refl
ones_files (Said bytes ∷ earlier) n = ones_files earlier n

left_files : (how : Leave) (deeds : List Deed) (n : List ℕ) → files_after (deeds_left how deeds) n ≡ left_after how deeds n
left_files Old deeds n = old_files deeds n
left_files New deeds n = new_files deeds n
left_files Ones deeds n = ones_files deeds n

-- after these deeds a stop leaves each file as it reads
abbrev AllSynced : List Deed → Type 0
AllSynced deeds = (n : List ℕ) (c : Option (List ℕ)) → MayLeave deeds n c → c ≡ files_after deeds n

module _ (name : List ℕ) (deeds : List Deed) (all : AllSynced deeds) where
  put_synced : (bytes : List ℕ) → AllSynced (Put name bytes ∷ deeds)
  put_synced bytes n c (inl own) = own.1 ∙ sym (if_own n name (Some bytes) (files_after deeds n) own.0)
  put_synced bytes n c (inr other) = all n c other.1 ∙ sym (if_other n name (Some bytes) (files_after deeds n) other.0)

  write_synced : (at : ℕ) (bytes : List ℕ) → AllSynced (Synced name ∷ Wrote name at bytes ∷ deeds)
  write_synced at bytes n c (inl own) = own.1
  write_synced at bytes n c (inr (differ, inl own)) = absurd (differ own.0)
  write_synced at bytes n c (inr (differ, inr other)) =
      let file = files_after deeds n in
      all n c other.1 ∙ sym (if_other n name (Some (written at bytes (bytes_of file))) file differ)

  cut_synced : (len : ℕ) → AllSynced (Synced name ∷ Cut name len ∷ deeds)
  cut_synced len n c (inl own) = own.1
  cut_synced len n c (inr (differ, inl own)) = absurd (differ own.0)
  cut_synced len n c (inr (differ, inr other)) =
      let file = files_after deeds n in
      all n c other.1 ∙ sym (if_other n name (Some (resized len (bytes_of file))) file differ)

  copied_synced : (file : Option (List ℕ)) → AllSynced (copied name file deeds)
  copied_synced None = all
  copied_synced (Some bytes) = put_synced bytes

all_synced : (how : Leave) (deeds : List Deed) → AllSynced (deeds_left how deeds)
all_synced how [] = λ n c may. may
all_synced how (Put name bytes ∷ earlier) = put_synced name (deeds_left how earlier) (all_synced how earlier) bytes
all_synced Old (Wrote name at bytes ∷ earlier) = all_synced Old earlier
all_synced New (Wrote name at bytes ∷ earlier) = write_synced name (deeds_left New earlier) (all_synced New earlier) at bytes
all_synced Ones (Wrote name at bytes ∷ earlier) = write_synced name (deeds_left Ones earlier) (all_synced Ones earlier) at (ones (length bytes))
all_synced Old (Tore name at bytes done ∷ earlier) = all_synced Old earlier
all_synced New (Tore name at bytes done ∷ earlier) = write_synced name (deeds_left New earlier) (all_synced New earlier) at (take done bytes)
all_synced Ones (Tore name at bytes done ∷ earlier) = write_synced name (deeds_left Ones earlier) (all_synced Ones earlier) at (ones (length (take done bytes)))
all_synced Old (Cut name len ∷ earlier) = all_synced Old earlier
all_synced New (Cut name len ∷ earlier) = cut_synced name (deeds_left New earlier) (all_synced New earlier) len
all_synced Ones (Cut name len ∷ earlier) = cut_synced name (deeds_left Ones earlier) (all_synced Ones earlier) len
all_synced how (Synced name ∷ earlier) = copied_synced name (deeds_left how earlier) (all_synced how earlier) (files_after earlier name)
all_synced how (Said bytes ∷ earlier) = all_synced how earlier

copied_unsaid : (name : List ℕ) (file : Option (List ℕ)) (deeds : List Deed) → said_after (copied name file deeds) ≡ said_after deeds
copied_unsaid name None deeds = refl
copied_unsaid name (Some bytes) deeds = refl

unsaid : (how : Leave) (deeds : List Deed) → said_after (deeds_left how deeds) ≡ []
unsaid how [] = refl
unsaid how (Put name bytes ∷ earlier) = unsaid how earlier
unsaid Old (Wrote name at bytes ∷ earlier) = unsaid Old earlier
unsaid New (Wrote name at bytes ∷ earlier) = unsaid New earlier
unsaid Ones (Wrote name at bytes ∷ earlier) = unsaid Ones earlier
unsaid Old (Tore name at bytes done ∷ earlier) = unsaid Old earlier
unsaid New (Tore name at bytes done ∷ earlier) = unsaid New earlier
unsaid Ones (Tore name at bytes done ∷ earlier) = unsaid Ones earlier
unsaid Old (Cut name len ∷ earlier) = unsaid Old earlier
unsaid New (Cut name len ∷ earlier) = unsaid New earlier
unsaid Ones (Cut name len ∷ earlier) = unsaid Ones earlier
unsaid how (Synced name ∷ earlier) = copied_unsaid name (files_after earlier name) (deeds_left how earlier) ∙ unsaid how earlier
unsaid how (Said bytes ∷ earlier) = unsaid how earlier

pub stopped : (how : Leave) (old new : HostState) → new ≡ host_of (deeds_left how old.deeds) → IsStopped how old new
stopped how old new is =
    let deeds = deeds_left how old.deeds in
    let done : IsStopped how old (host_of deeds) = record {
      files = left_files how old.deeds;
      could = λ n. subst (MayLeave old.deeds n) (sym (left_files how old.deeds n)) (left_may how old.deeds n);
      synced = λ n c. (all_synced how old.deeds n c, λ same. subst (MayLeave deeds n) (sym same) (reads_now deeds n));
      unsaid = unsaid how old.deeds;
      else_fresh = refl;
    } in
    subst (IsStopped how old) (sym is) done
