-- What a write, a cut and more bytes held back make of the text of a file.
use Rattle.std.proofs.Common.{◌≡◌, ℕ, ◌+◌, ◌<◌, ◌≤◌, List, [], ◌++◌, length, take, drop, get_or, Option, sym, ap, ◌∙◌, arith, inl, append_assoc, length-take}
use Rattle.std.specs.Prelude.{Some, None}
use Rattle.std.proofs.lemmas.List.{append-nil, get_or-take, get_or-drop, length-take-le}
use Rattle.std.proofs.lemmas.Grind.{same_number_lists}
use Rattle.std.proofs.Math.Seq.{take-add}
use Rattle.std.proofs.Common.{length-drop}
use Rattle.st_host.specs.Files.{bytes_of, IsWritten, IsCut}
use Rattle.st_host.specs.inside.Pieces.{Holds}

-- the file before the bytes that were written
front : (at : ℕ) (bytes : List ℕ) (file new : Option (List ℕ)) → IsWritten at bytes file new → at ≤ length (bytes_of file) → take at (bytes_of new) ≡ take at (bytes_of file)
front at bytes file new is there = same_number_lists _ _
    (omega (arith, is.long, length-take at (bytes_of new), length-take at (bytes_of file)))
    (λ i less.
    let below : i < at = omega (arith, length-take at (bytes_of new)) in
    get_or-take at (bytes_of new) i 0 below ∙ is.outside i (inl below) ∙ sym (get_or-take at (bytes_of file) i 0 below))

-- the bytes that were written
back : (at : ℕ) (bytes : List ℕ) (file new : Option (List ℕ)) → IsWritten at bytes file new → take (length bytes) (drop at (bytes_of new)) ≡ bytes
back at bytes file new is = same_number_lists _ _
    (omega (arith, is.long, length-take (length bytes) (drop at (bytes_of new)), length-drop at (bytes_of new)))
    (λ i less.
    let below : i < length bytes = omega (arith, length-take (length bytes) (drop at (bytes_of new))) in
    get_or-take (length bytes) (drop at (bytes_of new)) i 0 below ∙ get_or-drop at (bytes_of new) i 0 ∙ is.inside i below)

pub flushed : (at : ℕ) (bytes : List ℕ) (file new : Option (List ℕ)) (t : List ℕ) → IsWritten at bytes file new
    → Holds file (record { at = at; bytes = bytes }) t → Holds new (record { at = at + length bytes; bytes = [] }) t
flushed at bytes file new t is holds = record {
  there = omega (arith, is.long);
  is = append-nil (take (at + length bytes) (bytes_of new))
      ∙ (take-add at (length bytes) (bytes_of new)
      ∙ ((λ k. front at bytes file new is holds.there k ++ back at bytes file new is k) ∙ holds.is));
}

pub held_more : (at : ℕ) (bytes more : List ℕ) (file : Option (List ℕ)) (t : List ℕ)
    → Holds file (record { at = at; bytes = bytes }) t → Holds file (record { at = at; bytes = bytes ++ more }) (t ++ more)
held_more at bytes more file t holds = record {
  there = holds.there;
  is = sym (append_assoc (take at (bytes_of file)) bytes more) ∙ ap (λ (x : List ℕ). x ++ more) holds.is;
}

pub cut_whole : (at : ℕ) (file new : Option (List ℕ)) (t : List ℕ) → IsCut at file new → Holds file (record { at = at; bytes = [] }) t → new ≡ Some t
cut_whole at file None t is holds = let a = is.there in cc
cut_whole at file (Some b) t is holds = ap Some (same_number_lists b t (omega (arith, is.long, long)) (λ i less.
    let below : i < at = omega (arith, is.long) in
    is.same i below ∙ sym (get_or-take at (bytes_of file) i 0 below) ∙ ap (λ (x : List ℕ). get_or x i 0) text))
  where
    text : take at (bytes_of file) ≡ t
    text = sym (append-nil (take at (bytes_of file))) ∙ holds.is

    long : length t ≡ at
    long = ap length (sym text) ∙ length-take-le at (bytes_of file) holds.there
