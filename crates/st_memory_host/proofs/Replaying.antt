-- Deeds are done again one after the other, the oldest first.
use Rattle.std.proofs.Common.{◌≡◌, ℕ, List, [], ◌∷◌, ◌++◌, length, take, drop, reverse, slice_index, Option, Some, None, sym, subst, ap, ◌∙◌, arith}
use Rattle.std.proofs.lemmas.List.{ext_get_or, reverse-append, append_assoc}
use Rattle.std.proofs.Math.Seq.{take-append_seam}
use Rattle.st_host.specs.Files.{bytes_of, length_of}
use Rattle.st_memory_host.specs.inside.Deeds.{Deed, Put}
use Rattle.st_memory_host.specs.inside.HostState.{HostState}
use Rattle.st_memory_host.specs.inside.Leave.{with_done, with_copy}
use Rattle.st_memory_host.specs.inside.Log.{IsWindow}

-- A window on a whole file holds it.
pub copied_done : (name into : List ℕ) (file : Option (List ℕ)) (len : ℕ) (host new : HostState) → Some len ≡ length_of file → length into ≡ len
    → IsWindow (bytes_of file) 0 into → new ≡ with_done (Put name into) host → new ≡ with_copy name file host
copied_done name into None len host new is long window done = cc is
copied_done name into (Some bytes) len host new is long window done =
    let all : into ≡ bytes = ext_get_or 0 into bytes (long ∙ cc is) (λ i less. window i less ∙ ap (λ (k : ℕ). slice_index bytes k) (omega arith)) in
    done ∙ ap (λ (x : List ℕ). with_done (Put name x) host) all

-- the deeds that are left and those that were done
pub one_more_done : (deed : Deed) (later done : List Deed) → reverse (deed ∷ later) ++ done ≡ reverse later ++ deed ∷ done
one_more_done deed later done = ap (λ (x : List Deed). x ++ done) (reverse-append (deed ∷ []) later) ∙ append_assoc (reverse later) (deed ∷ []) done

-- a list that was written over a whole one
pub written_over : (file into items now : List ℕ) (len : ℕ) → now ≡ take len (into ++ drop (length into) items) → length into ≡ len
    → IsWindow file 0 into → IsWindow file 0 now
written_over file into items now len is long window =
    let same : now ≡ into = is ∙ ap (λ (n : ℕ). take n (into ++ drop (length into) items)) (sym long) ∙ take-append_seam into (drop (length into) items) in
    subst (IsWindow file 0) (sym same) window

-- the first deed of those that are left is done
pub deed_done : (deed : Deed) (left later done now all : List Deed) → left ≡ deed ∷ later → now ≡ deed ∷ done
    → reverse left ++ done ≡ all → reverse later ++ now ≡ all
deed_done deed left later done now all first added was =
    ap (λ (x : List Deed). reverse later ++ x) added ∙ sym (one_more_done deed later done) ∙ ap (λ (x : List Deed). reverse x ++ done) (sym first) ∙ was
