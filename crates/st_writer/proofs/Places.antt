-- What is known of the places of a table and the objects there, and texts that grow.
use Rattle.std.proofs.Common.{◌≡◌, ℕ, zero, suc, ◌+◌, ◌-◌, ◌*◌, ◌/◌, ◌%◌, ◌<◌, ◌≤◌, ◌⊎◌, inl, inr, cond, ◌==◌, true, false, List, [], ◌∷◌, ◌++◌, length, take, map, get_or, refl, sym, ap, ◌∙◌, arith}
use Rattle.std.specs.Prelude.{Option, Some, None, is_some, slice_get, unwrap_or}
use Rattle.std.specs.List.{flat_map}
use Rattle.std.proofs.lemmas.Bool.{cases_Bool, eqb-true, eqb-false}
use Rattle.std.proofs.lemmas.Grind.{flat_map-append}
use Rattle.std.proofs.lemmas.List.{take_more, take-map}
use Rattle.std.proofs.lemmas.Option.{get_or_from_slice_get, slice_get_within}
use Rattle.st_model.specs.Values.{Value, Small, Ref, value_of}
use Rattle.st_model.specs.Objects.{Object, words_of}
use Rattle.st_model.specs.Table.{Table, entry}
use Rattle.st_model.specs.Formed.{IsFormed}
use Rattle.st_model.specs.View.{View, IsWhole, is_live, object_of, nothing, table_of}
use Rattle.st_model.proofs.WholeLemmas.{formed_live}
use Rattle.st_writer.specs.Written.{used_below, word_bytes, long_bytes, word_of, unit_words, root_word, bytes_at, space_below}
use Rattle.st_writer.proofs.Bodies.{words_in_parts, length-object}
use Rattle.st_writer.proofs.Bytes.{joined_next}

pub some_there : (e : Option Object) → is_some e ≡ true → e ≡ Some (unwrap_or e nothing)
some_there None live = cc
some_there (Some o) live = refl

pub none_there : (e : Option Object) → is_some e ≡ false → e ≡ None
none_there None live = refl
none_there (Some o) live = cc

pub there : (t : Table) (x : Value) (k : ℕ) → x ≡ Ref k → is_live t x ≡ true → entry t k ≡ Some (object_of t x)
unfolding is_live object_of
there t (Small m) k e live = cc
there t (Ref m) k e live = let same : m ≡ k = cc in ap (entry t) (sym same) ∙ some_there (entry t m) live

pub absent : (t : Table) (x : Value) (k : ℕ) → x ≡ Ref k → is_live t x ≡ false → entry t k ≡ None
unfolding is_live
absent t (Small m) k e live = cc
absent t (Ref m) k e live = let same : m ≡ k = cc in ap (entry t) (sym same) ∙ none_there (entry t m) live

-- the bytes of an object
pub most_bytes : (v : View) (k : ℕ) → IsWhole v → length (bytes_at (entry v.objects k)) ≤ 131070
most_bytes v k whole = last (entry v.objects k) (whole.formed k)
  where
    last : (e : Option Object) → ((o : Object) → e ≡ Some o → IsFormed o) → length (bytes_at e) ≤ 131070
    last None formed = omega arith
    last (Some o) formed = let is = formed o refl in let l = length-object o is in let s = is.size in omega arith

-- of the first places those up to the last one with an object

pub used_skip : (t : Table) (k : ℕ) (x : Value) → 0 < k → x ≡ Ref (k - 1) → is_live t x ≡ false → used_below t k ≡ used_below t (k - 1)
unfolding used_below
used_skip t zero x above e live = absurd (omega arith)
used_skip t (suc k) x above e live =
    let same : suc k - 1 ≡ k = omega arith in
    let none : entry t k ≡ None = absent t x k (e ∙ ap Ref same) live in
    rw (none, same) refl

pub used_stop : (t : Table) (k : ℕ) (x : Value) → 0 < k → x ≡ Ref (k - 1) → is_live t x ≡ true → used_below t k ≡ k
unfolding used_below
used_stop t zero x above e live = absurd (omega arith)
used_stop t (suc k) x above e live =
    let same : suc k - 1 ≡ k = omega arith in
    rw (there t x k (e ∙ ap Ref same) live) refl

pub used_none : (t : Table) (k : ℕ) → k ≤ 0 → used_below t k ≡ k
unfolding used_below
used_none t zero le = refl
used_none t (suc k) le = absurd (omega arith)

-- the words of an object
pub object_words : (v : View) (x : Value) → IsWhole v → is_live v.objects x ≡ true
    → (words_of (object_of v.objects x) ≡ 2 + length (object_of v.objects x).fields + unit_words (object_of v.objects x).kind (length (object_of v.objects x).units))
    × (words_of (object_of v.objects x) ≤ 65535)
object_words v x whole live = let formed = formed_live v whole x live in (words_in_parts (object_of v.objects x) formed, formed.size)

-- TEXTS

pub word_back : (w : ℕ) → word_of (value_of w) ≡ w
unfolding value_of
word_back w = last (cases_Bool (w % 2 == 1))
  where
    last : (((w % 2 == 1) ≡ true) ⊎ ((w % 2 == 1) ≡ false)) → word_of (cond (w % 2 == 1) (Small (w / 2)) (Ref (w / 2))) ≡ w
    last (inl e) = let odd = eqb-true (w % 2) 1 e in rw e (omega arith)
    last (inr e) = rw e (even (eqb-false (w % 2) 1 e))
      where
        even : (w % 2 ≡ 1 → ⊥) → 2 * (w / 2) ≡ w
        even other = omega arith

-- the word of a pointer
pub pointer_word : (w k : ℕ) → value_of w ≡ Ref k → w ≡ 2 * k
pointer_word w k e = sym (word_back w) ∙ ap word_of e

pub root_back : (w : ℕ) (r : Option Value) → table_of w ≡ r → w ≡ root_word r
root_back w r e = last (cases_Bool (w == 0)) ∙ ap root_word e
  where
    last : (((w == 0) ≡ true) ⊎ ((w == 0) ≡ false)) → w ≡ root_word (cond (w == 0) None (Some (value_of w)))
    last (inl z) = rw z (eqb-true w 0 z)
    last (inr other) = rw other (sym (word_back w))

pub words_more : (ws : List ℕ) (i w : ℕ) → slice_get ws i ≡ Some w → flat_map word_bytes (take (i + 1) ws) ≡ flat_map word_bytes (take i ws) ++ word_bytes w
words_more ws i w e =
    let inside = slice_get_within ws i w e in
    let x = get_or_from_slice_get ws i w 0 e in
    ap (flat_map word_bytes) (take_more ws i 0 inside)
    ∙ flat_map-append word_bytes (take i ws) (get_or ws i 0 ∷ [])
    ∙ ap (λ (y : ℕ). flat_map word_bytes (take i ws) ++ word_bytes y) x

map_at : (xs : List Value) (i : ℕ) (x : Value) → slice_get xs i ≡ Some x → slice_get (map word_of xs) i ≡ Some (word_of x)
map_at [] i x e = cc
map_at (y ∷ ys) zero x e = let q : y ≡ x = cc in ap (λ (z : Value). Some (word_of z)) q
map_at (y ∷ ys) (suc i) x e = map_at ys i x e

pub fields_more : (xs : List Value) (i w : ℕ) → slice_get xs i ≡ Some (value_of w)
    → flat_map word_bytes (map word_of (take (i + 1) xs)) ≡ flat_map word_bytes (map word_of (take i xs)) ++ word_bytes w
fields_more xs i w e =
    ap (flat_map word_bytes) (sym (take-map word_of (i + 1) xs))
    ∙ words_more (map word_of xs) i w (map_at xs i (value_of w) e ∙ ap Some (word_back w))
    ∙ ap (λ (ys : List ℕ). flat_map word_bytes ys ++ word_bytes w) (take-map word_of i xs)

pub bytes_more : (us : List ℕ) (i u : ℕ) → slice_get us i ≡ Some u → take (i + 1) us ≡ take i us ++ u ∷ []
bytes_more us i u e =
    take_more us i 0 (slice_get_within us i u e) ∙ ap (λ (y : ℕ). take i us ++ y ∷ []) (get_or_from_slice_get us i u 0 e)

pub longs_more : (ns : List ℕ) (i : ℕ) → i < length ns → flat_map long_bytes (take (i + 1) ns) ≡ flat_map long_bytes (take i ns) ++ long_bytes (get_or ns i 0)
longs_more ns i inside = ap (flat_map long_bytes) (take_more ns i 0 inside) ∙ flat_map-append long_bytes (take i ns) (get_or ns i 0 ∷ [])

pub space_more : (t : Table) (k : ℕ) → space_below t (k + 1) ≡ space_below t k ++ bytes_at (entry t k)
space_more t k = joined_next (λ j. bytes_at (entry t j)) k
