-- What a call that does a deed to a file, or fails, leaves.
use Rattle.std.proofs.Common.{◌≡◌, inl, inr, ⊎_elim, ℕ, ◌+◌, max, Bool, if◌then◌else◌, bytes_eq, List, ◌∷◌, length, Option, Some, Result, Ok, Err, OnOk, refl, sym, subst, ap, arith, [], ◌++◌, zero, suc, take, ◌∙◌, length-append, ◌≢◌}
use Rattle.std.proofs.lemmas.Slice.Eq.{bytes_eq-Decides}
use Rattle.st_host.specs.Files.{Files, bytes_of, IsWritten, IsCut}
use Rattle.st_host.specs.Stops.{comes, Apart, SameStops, SaidPart, WhileSaying, Follows, TornByWrite, TornByCut, Here, Elapses}
use Rattle.st_memory_host.specs.inside.Written.{written, resized, written_is, resized_is}
use Rattle.st_memory_host.specs.inside.Deeds.{Deed, Wrote, Tore, Cut, Synced, Said, files_after, ForName, MayLeave, MayLeaveDuring, said_after, LeftSince}
use Rattle.st_memory_host.specs.inside.HostState.{HostState, ChangesOrFails, SaysOrFails, disk_failed, with_deed, counted}
use Rattle.st_memory_host.specs.inside.MemHost.{reads_now}
use Rattle.st_host.proofs.Touching.{torn_same}
use Rattle.st_memory_host.proofs.Leaving.{if_other}

chosen : (n : List ℕ) (one other : Option (List ℕ)) → (if bytes_eq n n then one else other) ≡ one
chosen n one other = ap (λ (t : Bool). if t then one else other) ((bytes_eq-Decides n n).1 refl)

own : {own other : Type 0} (n : List ℕ) → ForName n n own other → own
own n (inl same) = same.1
own n (inr not) = absurd (not.0 refl)

module _ (earlier : List Deed) (deed : Deed) where
  -- a deed that isn't said is done at once
  time_on : ((f : Files) (s : List ℕ) → MayLeaveDuring deed earlier f s → ⊥)
      → Elapses (length earlier) (length (deed ∷ earlier)) (λ t. LeftSince t earlier) (λ t. LeftSince t (deed ∷ earlier)) (Here (MayLeave (deed ∷ earlier)) (said_after (deed ∷ earlier)))
  time_on at_once = record {
    later = omega arith;
    nothing_else = λ t f s le left. ⊎_elim (λ here. inr here) (λ past. ⊎_elim (λ was. inl was) (λ during. absurd (at_once f s during)) past.1) left;
    keeps = λ t f s le past. inr (le, inl past);
  }

time_same : (deeds : List Deed) → Elapses (length deeds) (length deeds) (λ t. LeftSince t deeds) (λ t. LeftSince t deeds) (Here (MayLeave deeds) (said_after deeds))
time_same deeds = record { later = omega arith; nothing_else = λ t f s le left. inl left; keeps = λ t f s le past. past }

-- what holds of the deeds after the call, from all cases
after_call : {T E : Type 0} (deed : Deed) (part : ℕ → Deed) (bytes end : ℕ) (old new : HostState) (result : Result T E) (P : List Deed → Type 0)
    → ChangesOrFails deed part bytes end old new result → P old.deeds → P (deed ∷ old.deeds) → ((b : ℕ) → P (part b ∷ old.deeds)) → P new.deeds
after_call deed part bytes end old new (Ok x) P call same done torn = subst P (sym (ap (λ (h : HostState). h.deeds) call.ok)) done
after_call deed part bytes end old new (Err e) P call same done torn = elim call.err [
  | inl is ↦ subst P (sym (ap (λ (h : HostState). h.deeds) is)) same
  | inr tears ↦ subst P (sym (ap (λ (h : HostState). h.deeds) tears.is)) (torn tears.done)
]

after_ok : {T E : Type 0} (deed : Deed) (part : ℕ → Deed) (bytes end : ℕ) (old new : HostState) (result : Result T E) (P : List Deed → Type 0)
    → ChangesOrFails deed part bytes end old new result → P (deed ∷ old.deeds) → OnOk result (P new.deeds)
after_ok deed part bytes end old new (Ok x) P call done = subst P (sym (ap (λ (h : HostState). h.deeds) call.ok)) done
after_ok deed part bytes end old new (Err e) P call done = tt

module _ {T E : Type 0} (name bytes : List ℕ) (at size end : ℕ) (old new : HostState) (result : Result T E) where
  pub write_written : (A : Type 0) → ChangesOrFails (Wrote name at bytes) (Tore name at bytes) size end old new result → OnOk result (A → IsWritten at bytes (files_after old.deeds name) (files_after new.deeds name))
  write_written A call =
      let file = files_after old.deeds name in
      let after : Option (List ℕ) = Some (written at bytes (bytes_of file)) in
      after_ok (Wrote name at bytes) (Tore name at bytes) size end old new result (λ d. A → IsWritten at bytes file (files_after d name)) call
      (λ a. subst (IsWritten at bytes file) (sym (chosen name after file)) (written_is at bytes file))

  pub write_stops : ChangesOrFails (Wrote name at bytes) (Tore name at bytes) size end old new result → Follows (TornByWrite (files_after old.deeds name) at (length bytes)) (MayLeave old.deeds name) (MayLeave new.deeds name)
  write_stops call =
      let file = files_after old.deeds name in
      let read = length (bytes_of file) in
      after_call (Wrote name at bytes) (Tore name at bytes) size end old new result (λ d. Follows (TornByWrite file at (length bytes)) (MayLeave old.deeds name) (MayLeave d name)) call
      (λ c can. comes c can (torn_same read at (length bytes) (max read (at + length bytes)) c))
      (λ c can. own name can)
      (λ b c can. own name can)

  pub write_time : ChangesOrFails (Wrote name at bytes) (Tore name at bytes) size end old new result
      → Elapses (length old.deeds) (length new.deeds) (λ t. LeftSince t old.deeds) (λ t. LeftSince t new.deeds) (Here (MayLeave new.deeds) (said_after new.deeds))
  write_time call = after_call (Wrote name at bytes) (Tore name at bytes) size end old new result (λ d. Elapses (length old.deeds) (length d) (λ t. LeftSince t old.deeds) (λ t. LeftSince t d) (Here (MayLeave d) (said_after d))) call
      (time_same old.deeds) (time_on old.deeds (Wrote name at bytes) (λ f s during. during)) (λ b. time_on old.deeds (Tore name at bytes b) (λ f s during. during))

module _ {T E : Type 0} (name : List ℕ) (len size end : ℕ) (old new : HostState) (result : Result T E) where
  pub cut_cut : (A : Type 0) → ChangesOrFails (Cut name len) (λ b. Cut name len) size end old new result → OnOk result (A → IsCut len (files_after old.deeds name) (files_after new.deeds name))
  cut_cut A call =
      let file = files_after old.deeds name in
      let after : Option (List ℕ) = Some (resized len (bytes_of file)) in
      after_ok (Cut name len) (λ b. Cut name len) size end old new result (λ d. A → IsCut len file (files_after d name)) call
      (λ a. subst (IsCut len file) (sym (chosen name after file)) (resized_is len file))

  pub cut_stops : ChangesOrFails (Cut name len) (λ b. Cut name len) size end old new result → Follows (TornByCut (files_after old.deeds name) len) (MayLeave old.deeds name) (MayLeave new.deeds name)
  cut_stops call =
      let file = files_after old.deeds name in
      after_call (Cut name len) (λ b. Cut name len) size end old new result (λ d. Follows (TornByCut file len) (MayLeave old.deeds name) (MayLeave d name)) call
      (λ c can. comes c can (torn_same (length (bytes_of file)) 0 0 len c))
      (λ c can. own name can)
      (λ b c can. own name can)

  pub cut_time : ChangesOrFails (Cut name len) (λ b. Cut name len) size end old new result
      → Elapses (length old.deeds) (length new.deeds) (λ t. LeftSince t old.deeds) (λ t. LeftSince t new.deeds) (Here (MayLeave new.deeds) (said_after new.deeds))
  cut_time call = after_call (Cut name len) (λ b. Cut name len) size end old new result (λ d. Elapses (length old.deeds) (length d) (λ t. LeftSince t old.deeds) (λ t. LeftSince t d) (Here (MayLeave d) (said_after d))) call
      (time_same old.deeds) (time_on old.deeds (Cut name len) (λ f s during. during)) (λ b. time_on old.deeds (Cut name len) (λ f s during. during))

-- What is left after a sync could be left before.
pub sync_stops : {T E : Type 0} (name : List ℕ) (size end : ℕ) (old new : HostState) (result : Result T E)
    → ChangesOrFails (Synced name) (λ b. Synced name) size end old new result → (c : Option (List ℕ)) → MayLeave new.deeds name c → MayLeave old.deeds name c
sync_stops name size end old new result call =
    after_call (Synced name) (λ b. Synced name) size end old new result (λ d. (c : Option (List ℕ)) → MayLeave d name c → MayLeave old.deeds name c) call
    (λ c can. can)
    (λ c can. subst (MayLeave old.deeds name) (sym (own name can)) (reads_now old.deeds name))
    (λ b c can. subst (MayLeave old.deeds name) (sym (own name can)) (reads_now old.deeds name))

-- what holds of the host after the call, from all cases
after_host : {T E : Type 0} (deed : Deed) (part : ℕ → Deed) (bytes end : ℕ) (old new : HostState) (result : Result T E) (P : HostState → Type 0)
    → ChangesOrFails deed part bytes end old new result → P (disk_failed old) → P (with_deed deed bytes (counted old)) → ((b : ℕ) → P (with_deed (part b) bytes (disk_failed old))) → P new
after_host deed part bytes end old new (Ok x) P call same done torn = subst P (sym call.ok) done
after_host deed part bytes end old new (Err e) P call same done torn = elim call.err [
  | inl is ↦ subst P (sym is) same
  | inr tears ↦ subst P (sym tears.is) (torn tears.done)
]

-- every other file is as before
abbrev StaysApart : List ℕ → List Deed → List Deed → Type 0
StaysApart name old new = Apart name (files_after old) (files_after new) (MayLeave old) (MayLeave new)

not_own : {own other : Type 0} (name n : List ℕ) → n ≢ name → ForName name n own other → other
not_own name n d (inl same) = absurd (d same.0)
not_own name n d (inr not) = not.1

apart_same : (name : List ℕ) (deeds : List Deed) → StaysApart name deeds deeds
apart_same name deeds = record { files = λ n d. refl; fewer = λ n c d can. can; more = λ n c d could. could }

apart_wrote : (name bytes : List ℕ) (at : ℕ) (deeds : List Deed) → StaysApart name deeds (Wrote name at bytes ∷ deeds)
apart_wrote name bytes at deeds = record { files = λ n d. if_other n name _ (files_after deeds n) d; fewer = λ n c d can. not_own name n d can; more = λ n c d could. inr (d, could) }

apart_tore : (name bytes : List ℕ) (at done : ℕ) (deeds : List Deed) → StaysApart name deeds (Tore name at bytes done ∷ deeds)
apart_tore name bytes at done deeds = record { files = λ n d. if_other n name _ (files_after deeds n) d; fewer = λ n c d can. not_own name n d can; more = λ n c d could. inr (d, could) }

apart_cut : (name : List ℕ) (len : ℕ) (deeds : List Deed) → StaysApart name deeds (Cut name len ∷ deeds)
apart_cut name len deeds = record { files = λ n d. if_other n name _ (files_after deeds n) d; fewer = λ n c d can. not_own name n d can; more = λ n c d could. inr (d, could) }

apart_synced : (name : List ℕ) (deeds : List Deed) → StaysApart name deeds (Synced name ∷ deeds)
apart_synced name deeds = record { files = λ n d. refl; fewer = λ n c d can. not_own name n d can; more = λ n c d could. inr (d, could) }

module _ {T E : Type 0} (deed : Deed) (part : ℕ → Deed) (size end : ℕ) (old new : HostState) (result : Result T E) (call : ChangesOrFails deed part size end old new result) where
  pub no_say_fault : new.say_faults ≡ old.say_faults
  no_say_fault = after_host deed part size end old new result (λ h. h.say_faults ≡ old.say_faults) call refl refl (λ b. refl)

  pub nothing_said : said_after (deed ∷ old.deeds) ≡ said_after old.deeds → ((b : ℕ) → said_after (part b ∷ old.deeds) ≡ said_after old.deeds) → said_after new.deeds ≡ said_after old.deeds
  nothing_said done torn = after_call deed part size end old new result (λ d. said_after d ≡ said_after old.deeds) call refl done torn

  stays_apart : (name : List ℕ) → StaysApart name old.deeds (deed ∷ old.deeds) → ((b : ℕ) → StaysApart name old.deeds (part b ∷ old.deeds)) → StaysApart name old.deeds new.deeds
  stays_apart name done torn = after_call deed part size end old new result (λ d. StaysApart name old.deeds d) call (apart_same name old.deeds) done torn

pub write_others : {T E : Type 0} (name bytes : List ℕ) (at size end : ℕ) (old new : HostState) (result : Result T E)
    → ChangesOrFails (Wrote name at bytes) (Tore name at bytes) size end old new result → StaysApart name old.deeds new.deeds
write_others name bytes at size end old new result call =
    stays_apart (Wrote name at bytes) (Tore name at bytes) size end old new result call name (apart_wrote name bytes at old.deeds) (λ b. apart_tore name bytes at b old.deeds)

pub cut_others : {T E : Type 0} (name : List ℕ) (len size end : ℕ) (old new : HostState) (result : Result T E)
    → ChangesOrFails (Cut name len) (λ b. Cut name len) size end old new result → StaysApart name old.deeds new.deeds
cut_others name len size end old new result call =
    stays_apart (Cut name len) (λ b. Cut name len) size end old new result call name (apart_cut name len old.deeds) (λ b. apart_cut name len old.deeds)

pub sync_others : {T E : Type 0} (name : List ℕ) (size end : ℕ) (old new : HostState) (result : Result T E)
    → ChangesOrFails (Synced name) (λ b. Synced name) size end old new result → StaysApart name old.deeds new.deeds
sync_others name size end old new result call =
    stays_apart (Synced name) (λ b. Synced name) size end old new result call name (apart_synced name old.deeds) (λ b. apart_synced name old.deeds)

pub sync_time : {T E : Type 0} (name : List ℕ) (size end : ℕ) (old new : HostState) (result : Result T E) → ChangesOrFails (Synced name) (λ b. Synced name) size end old new result
    → Elapses (length old.deeds) (length new.deeds) (λ t. LeftSince t old.deeds) (λ t. LeftSince t new.deeds) (Here (MayLeave new.deeds) (said_after new.deeds))
sync_time name size end old new result call =
    after_call (Synced name) (λ b. Synced name) size end old new result (λ d. Elapses (length old.deeds) (length d) (λ t. LeftSince t old.deeds) (λ t. LeftSince t d) (Here (MayLeave d) (said_after d))) call
    (time_same old.deeds) (time_on old.deeds (Synced name) (λ f s during. during)) (λ b. time_on old.deeds (Synced name) (λ f s during. during))

-- SAYING

taken : (bytes : List ℕ) (done : ℕ) → take (length (take done bytes)) bytes ≡ take done bytes
taken bytes zero = refl
taken [] (suc done) = refl
taken (b ∷ bytes) (suc done) = ap (λ (x : List ℕ). b ∷ x) (taken bytes done)

starts : (before bytes : List ℕ) (done : ℕ) → take (length (before ++ take done bytes)) (before ++ bytes) ≡ before ++ take done bytes
starts [] bytes done = taken bytes done
starts (x ∷ before) bytes done = ap (λ (y : List ℕ). x ∷ y) (starts before bytes done)

-- what begins the beginning of a list begins the list
begins_more : (whole s : List ℕ) (m : ℕ) → take (length s) (take m whole) ≡ s → take (length s) whole ≡ s
begins_more whole [] m e = refl
begins_more whole (x ∷ s) zero e = cc
begins_more [] (x ∷ s) (suc m) e = cc
begins_more (y ∷ whole) (x ∷ s) (suc m) e =
    let head : y ≡ x = cc in
    let tail : take (length s) (take m whole) ≡ s = cc in
    rw head (ap (λ (z : List ℕ). x ∷ z) (begins_more whole s m tail))

module _ (before bytes : List ℕ) (done : ℕ) where
  part_said : SaidPart before bytes (before ++ take done bytes)
  part_said = record { least = omega (arith, length-append before (take done bytes)); begins = starts before bytes done }

  more_said : (s : List ℕ) → SaidPart before (take done bytes) s → SaidPart before bytes s
  more_said s p = record {
    least = p.least;
    begins = begins_more (before ++ bytes) s (length (before ++ take done bytes)) (ap (λ (x : List ℕ). take (length s) x) (starts before bytes done) ∙ p.begins);
  }

none_said : (before bytes : List ℕ) → SaidPart before bytes before
none_said before bytes = record { least = omega arith; begins = none_begins before bytes }
  where
    none_begins : (before bytes : List ℕ) → take (length before) (before ++ bytes) ≡ before
    none_begins [] bytes = refl
    none_begins (x ∷ before) bytes = ap (λ (y : List ℕ). x ∷ y) (none_begins before bytes)

all_said : (before bytes : List ℕ) → SaidPart before bytes (before ++ bytes)
all_said before bytes = record { least = omega (arith, length-append before bytes); begins = all_begins (before ++ bytes) }
  where
    all_begins : (xs : List ℕ) → take (length xs) xs ≡ xs
    all_begins [] = refl
    all_begins (x ∷ xs) = ap (λ (y : List ℕ). x ∷ y) (all_begins xs)

-- what holds of the deeds after a say, from all cases
after_say : {T E : Type 0} (bytes : List ℕ) (old new : HostState) (result : Result T E) (P : List Deed → Type 0)
    → SaysOrFails bytes old new result → P old.deeds → P (Said bytes ∷ old.deeds) → ((b : ℕ) → P (Said (take b bytes) ∷ old.deeds)) → P new.deeds
after_say bytes old new (Ok x) P call same done torn = subst P (sym (ap (λ (h : HostState). h.deeds) call.ok)) done
after_say bytes old new (Err e) P call same done torn = elim call.err [
  | inl is ↦ subst P (sym (ap (λ (h : HostState). h.deeds) is)) same
  | inr part ↦ subst P (sym (ap (λ (h : HostState). h.deeds) part.is)) (torn part.done)
]

module _ {T E : Type 0} (bytes : List ℕ) (old new : HostState) (result : Result T E) (call : SaysOrFails bytes old new result) where
  pub say_part : SaidPart (said_after old.deeds) bytes (said_after new.deeds)
  say_part = after_say bytes old new result (λ d. SaidPart (said_after old.deeds) bytes (said_after d)) call
      (none_said (said_after old.deeds) bytes) (all_said (said_after old.deeds) bytes) (λ b. part_said (said_after old.deeds) bytes b)

  pub say_alike : (n : List ℕ) → files_after new.deeds n ≡ files_after old.deeds n
  say_alike n = after_say bytes old new result (λ d. files_after d n ≡ files_after old.deeds n) call refl refl (λ b. refl)

  pub say_stops : SameStops (MayLeave old.deeds) (MayLeave new.deeds)
  say_stops = after_say bytes old new result (λ d. SameStops (MayLeave old.deeds) (MayLeave d)) call
      (record { fewer = λ n c can. can; more = λ n c could. could }) (record { fewer = λ n c can. can; more = λ n c could. could }) (λ b. record { fewer = λ n c can. can; more = λ n c could. could })

  time_said : (more : List ℕ) → SaidPart (said_after old.deeds) bytes (said_after old.deeds ++ more) → ((s : List ℕ) → SaidPart (said_after old.deeds) more s → SaidPart (said_after old.deeds) bytes s)
      → Elapses (length old.deeds) (length (Said more ∷ old.deeds)) (λ t. LeftSince t old.deeds) (λ t. LeftSince t (Said more ∷ old.deeds)) (WhileSaying (MayLeave old.deeds) (said_after old.deeds) bytes)
  time_said more whole part = record {
    later = omega arith;
    nothing_else = λ t f s le left. ⊎_elim
        (λ here. inr (here.0, subst (SaidPart (said_after old.deeds) bytes) (sym here.1) whole))
        (λ past. ⊎_elim (λ was. inl was) (λ during. inr (during.0, part s during.1)) past.1) left;
    keeps = λ t f s le past. inr (le, inl past);
  }

  pub say_time : Elapses (length old.deeds) (length new.deeds) (λ t. LeftSince t old.deeds) (λ t. LeftSince t new.deeds) (WhileSaying (MayLeave new.deeds) (said_after old.deeds) bytes)
  say_time = after_say bytes old new result (λ d. Elapses (length old.deeds) (length d) (λ t. LeftSince t old.deeds) (λ t. LeftSince t d) (WhileSaying (MayLeave d) (said_after old.deeds) bytes)) call
      (record { later = omega arith; nothing_else = λ t f s le left. inl left; keeps = λ t f s le past. past })
      (time_said bytes (all_said (said_after old.deeds) bytes) (λ s p. p))
      (λ b. time_said (take b bytes) (part_said (said_after old.deeds) bytes b) (λ s p. more_said (said_after old.deeds) bytes b s p))
