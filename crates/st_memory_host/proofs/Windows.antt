-- A slice that shows a part of a file goes on to show it after a deed.
use Rattle.std.proofs.Common.{◌≡◌, inl, inr, ⊎_elim, ℕ, ◌+◌, ◌-◌, ◌<◌, ◌≤◌, min, List, ◌++◌, length, take, drop, slice_index, Option, Some, None, unwrap_or, refl, sym, subst, ap, ◌∙◌, arith, length-take, length-drop, length-append}
use Rattle.std.proofs.lemmas.List.{get_or_append_left, get_or-append_right, get_or-take, get_or-drop, get_or_past, ext_get_or}
use Rattle.std.proofs.lemmas.Bool.{cases_lt}
use Rattle.st_host.specs.Files.{bytes_of, length_of, IsRead}
use Rattle.st_memory_host.specs.inside.Written.{written, resized, written_is, resized_is}
use Rattle.st_memory_host.specs.declared.log.Kind.{Kind}
use Rattle.st_memory_host.specs.declared.log.Kind.TheVariants.{Wrote as WroteKind, Tore as ToreKind, Cut as CutKind}
use Rattle.st_memory_host.specs.inside.Log.{changed, IsWindow, Overlays, Clears}

written_window : (at place : ℕ) (bytes : List ℕ) (file : Option (List ℕ)) (old new : List ℕ) → length new ≡ length old
    → Overlays at bytes place old new → IsWindow (bytes_of file) at old → IsWindow (written place bytes (bytes_of file)) at new
written_window at place bytes file old new long over window i less =
    let is = written_is place bytes file in
    ⊎_elim
    (λ before. over.outside i less (inl before) ∙ window i (omega arith) ∙ sym (is.outside (at + i) (inl before)))
    (λ from. ⊎_elim
    (λ within.
    let there : place + (at + i - place) ≡ at + i = omega arith in
    over.inside i less from within ∙ sym (is.inside (at + i - place) (omega arith)) ∙ ap (λ (k : ℕ). slice_index (written place bytes (bytes_of file)) k) there)
    (λ past. over.outside i less (inr past) ∙ window i (omega arith) ∙ sym (is.outside (at + i) (inr past)))
    (cases_lt (at + i) (place + length bytes)))
    (cases_lt (at + i) place)

resized_window : (at len : ℕ) (file : Option (List ℕ)) (old new : List ℕ) → length new ≡ length old
    → Clears at len old new → IsWindow (bytes_of file) at old → IsWindow (resized len (bytes_of file)) at new
resized_window at len file old new long clears window i less =
    let is = resized_is len file in
    ⊎_elim
    (λ before. clears.front i less before ∙ window i (omega arith) ∙ sym (is.same (at + i) before))
    (λ past. clears.back i less past ∙ sym (get_or_past (resized len (bytes_of file)) (at + i) 0 (omega (arith, is.long))))
    (cases_lt (at + i) len)

pub write_window : (kind : Kind) (end place at : ℕ) (bytes : List ℕ) (file : Option (List ℕ)) (old new : List ℕ) → kind ≡ WroteKind end → place ≡ end - length bytes
    → length new ≡ length old → Overlays at bytes place old new → IsWindow (bytes_of file) at old → IsWindow (bytes_of (changed kind bytes file)) at new
write_window kind end place at bytes file old new is placed long over window =
    subst (λ x. IsWindow (bytes_of (changed x bytes file)) at new) (sym is)
    (subst (λ x. IsWindow (written x bytes (bytes_of file)) at new) placed (written_window at place bytes file old new long over window))

pub cut_window : (kind : Kind) (len at : ℕ) (bytes : List ℕ) (file : Option (List ℕ)) (old new : List ℕ) → kind ≡ CutKind len
    → length new ≡ length old → Clears at len old new → IsWindow (bytes_of file) at old → IsWindow (bytes_of (changed kind bytes file)) at new
cut_window kind len at bytes file old new is long clears window =
    subst (λ x. IsWindow (bytes_of (changed x bytes file)) at new) (sym is) (resized_window at len file old new long clears window)

-- The part of a slice that the bytes meet is replaced by their part that it meets: n bytes of each.
pub overlaid : (at place skipped gap n m k : ℕ) (bytes old part : List ℕ) → skipped ≡ at - place → gap ≡ place - at
    → n ≡ min (length bytes - skipped) (length old - gap) → m ≡ n → k ≡ n → part ≡ take m (drop skipped bytes) → gap < length old
    → Overlays at bytes place old (take gap old ++ (part ++ drop k (drop gap old)))
overlaid at place skipped gap n m k bytes old part skips leaves how_many all same is meets =
    let tail = drop k (drop gap old) in
    let long : length part ≡ n = omega (arith, ap length is, length-take m (drop skipped bytes), length-drop skipped bytes) in
    let front : length (take gap old) ≡ gap = omega (arith, length-take gap old) in
    let whole : length (take gap old ++ (part ++ tail)) ≡ length old = omega (arith, length-append (take gap old) (part ++ tail), length-append part tail, length-drop k (drop gap old), length-drop gap old) in
    record {
      inside = λ i less from within.
          let there : skipped + (i - gap) ≡ at + i - place = omega arith in
          let near : i - gap < m = omega arith in
          get_or-append_right (take gap old) (part ++ tail) gap i 0 front (omega arith)
          ∙ get_or_append_left part tail 0 (i - gap) (omega arith)
          ∙ ap (λ x. slice_index x (i - gap)) is
          ∙ get_or-take m (drop skipped bytes) (i - gap) 0 near
          ∙ get_or-drop skipped bytes (i - gap) 0
          ∙ ap (λ (k : ℕ). slice_index bytes k) there;
      outside = λ i less out. ⊎_elim
          (λ before. get_or_append_left (take gap old) (part ++ tail) 0 i (omega arith) ∙ get_or-take gap old i 0 (omega arith))
          (λ past.
          let behind : gap + (k + (i - gap - n)) ≡ i = omega arith in
          get_or-append_right (take gap old) (part ++ tail) gap i 0 front (omega arith)
          ∙ get_or-append_right part tail n (i - gap) 0 long (omega arith)
          ∙ get_or-drop k (drop gap old) (i - gap - n) 0
          ∙ get_or-drop gap old (k + (i - gap - n)) 0
          ∙ ap (λ (k : ℕ). slice_index old k) behind)
          out;
    }

-- A window of a file holds what a whole read gives.
pub window_read : (file : List ℕ) (at k room : ℕ) (into : List ℕ) → k ≡ min (length into) room → room ≡ length file - at
    → IsWindow file at into → IsRead file at k into
window_read file at k room into count left window =
    let enough : k ≤ length file - at = omega arith in
    record {
      count = omega arith;
      bytes = ext_get_or 0 (take k into) (take k (drop at file)) (omega (arith, length-take k into, length-take k (drop at file), length-drop at file))
          (λ i less.
          let near : i < k = omega (arith, length-take k into, less) in
          get_or-take k into i 0 near ∙ window i (omega arith) ∙ sym (get_or-take k (drop at file) i 0 near ∙ get_or-drop at file i 0));
    }

length_or-none : (file : Option (List ℕ)) → unwrap_or (length_of file) 0 ≡ length (bytes_of file)
length_or-none None = refl
length_or-none (Some bytes) = refl

pub length_is : (file : Option (List ℕ)) (told : Option ℕ) (n : ℕ) → told ≡ length_of file → n ≡ unwrap_or told 0 → n ≡ length (bytes_of file)
length_is file told n is given = given ∙ ap (λ x. unwrap_or x 0) is ∙ length_or-none file

pub take_least : (done : ℕ) (bytes : List ℕ) → take (min done (length bytes)) bytes ≡ take done bytes
take_least done bytes = ext_get_or 0 (take (min done (length bytes)) bytes) (take done bytes)
    (omega (arith, length-take (min done (length bytes)) bytes, length-take done bytes))
    (λ i less.
    let near : i < min done (length bytes) = omega (arith, length-take (min done (length bytes)) bytes, less) in
    get_or-take (min done (length bytes)) bytes i 0 near ∙ sym (get_or-take done bytes i 0 (omega (arith, near))))

pub tore_window : (kind : Kind) (end done place at k : ℕ) (bytes : List ℕ) (file : Option (List ℕ)) (old new : List ℕ) → kind ≡ ToreKind end done → place ≡ end - length bytes
    → k ≡ min done (length bytes) → length new ≡ length old → Overlays at (take k bytes) place old new → IsWindow (bytes_of file) at old → IsWindow (bytes_of (changed kind bytes file)) at new
tore_window kind end done place at k bytes file old new is placed least long over window =
    let part : take k bytes ≡ take done bytes = ap (λ (n : ℕ). take n bytes) least ∙ take_least done bytes in
    subst (λ x. IsWindow (bytes_of (changed x bytes file)) at new) (sym is)
    (subst (λ (ys : List ℕ). IsWindow (written (end - length bytes) ys (bytes_of file)) at new) part
    (subst (λ (x : ℕ). IsWindow (written x (take k bytes) (bytes_of file)) at new) placed (written_window at place (take k bytes) file old new long over window)))
