-- What a change of one object comes to.
use Rattle.std.proofs.Common.{◌≡◌, ℕ, zero, suc, ◌+◌, ◌-◌, ◌<◌, ◌≤◌, List, [], ◌∷◌, length, Option, Some, None, Bool, true, false, refl, sym, ap, ◌∙◌, arith, is_some}
use Rattle.std.specs.Prelude.{if◌then◌else◌, slice_set, unwrap_or, nat_le, nat_lt, ◌&&◌, ◌/◌, ◌%◌}
use Rattle.std.proofs.lemmas.Bool.Decides.{nat_tests}
use Rattle.st_model.specs.Values.{Value, Small, Ref}
use Rattle.st_model.specs.Objects.{Object, is_pointers, is_words, has_bytes, first_unit, size_of, with_field, object_with_unit}
use Rattle.st_model.specs.Machine.{is_there}
use Rattle.st_model.specs.Primitives.{bytes_within}
use Rattle.st_model.specs.Table.{Table, table, entry, changed}
use Rattle.st_model.specs.View.{View, is_live, object_of, with_unit, with_stored, nothing}
use Rattle.st_model.specs.Deeds.{changed_object, changed_by, word_stored, byte_stored, bytes_stored}
use Rattle.st_model.proofs.TableLemmas.{changed-some}
use Rattle.st_model.proofs.KindTests.{bytes_pointers, bytes_words, words_pointers}
use Rattle.st_model.proofs.Entries.{changed-again}
use Rattle.st_model.proofs.Resting.{changed-itself}
use Rattle.st_input.specs.inside.Named.{ChangesOne}
use Rattle.st_memory.proofs.Wide.{small_not_live}

-- an object that is there, or isn't

pub absent_gone : (t : Table) (v : Value) → is_there table t v ≡ false → is_live t v ≡ false
unfolding is_live
absent_gone t (Small n) e = refl
absent_gone t (Ref n) e = e

pub ruleset named_objects = (small_not_live, absent_gone)

-- what isn't there isn't changed

gone_at : (f : Object → Object) (t : Table) (n : ℕ) (e : Option Object) → is_some e ≡ false → changed_object f t n e ≡ t
gone_at f t n None e = refl
gone_at f t n (Some o) e = cc

pub gone_stays : (f : Object → Object) (t : Table) (v : Value) → is_live t v ≡ false → t ≡ changed_by f t v
unfolding is_live
gone_stays f t (Small n) e = refl
gone_stays f t (Ref n) e = sym (gone_at f t n (entry t n) e)

-- nor an object that a change leaves

left_at : (f : Object → Object) (t : Table) (n : ℕ) (e : Option Object) → entry t n ≡ e → f (unwrap_or e nothing) ≡ unwrap_or e nothing → changed_object f t n e ≡ t
left_at f t n None e k = refl
left_at f t n (Some o) e k = ap (changed t n) k ∙ changed-itself t n o e

pub left_stays : (f : Object → Object) (t : Table) (v : Value) → f (object_of t v) ≡ object_of t v → t ≡ changed_by f t v
unfolding object_of
left_stays f t (Small n) k = refl
left_stays f t (Ref n) k = sym (left_at f t n (entry t n) refl k)

-- an object that becomes another one

becomes_at : (f : Object → Object) (t : Table) (n : ℕ) (e : Option Object) → is_some e ≡ true → changed_object f t n e ≡ changed t n (f (unwrap_or e nothing))
becomes_at f t n None e = cc
becomes_at f t n (Some o) e = refl

unit_becomes : (f : Object → Object) (t : Table) (v : Value) (i x : ℕ) → is_live t v ≡ true → f (object_of t v) ≡ object_with_unit (object_of t v) i x → with_unit t v i x ≡ changed_by f t v
unfolding is_live object_of with_unit
unit_becomes f t (Small n) i x e k = cc
unit_becomes f t (Ref n) i x e k = sym (becomes_at f t n (entry t n) e ∙ ap (changed t n) k)

pub field_becomes : (f : Object → Object) (t : Table) (v : Value) (i : ℕ) (x : Value) → is_live t v ≡ true → f (object_of t v) ≡ with_field (object_of t v) i x → with_stored t v i x ≡ changed_by f t v
unfolding is_live object_of with_stored
field_becomes f t (Small n) i x e k = cc
field_becomes f t (Ref n) i x e k = sym (becomes_at f t n (entry t n) e ∙ ap (changed t n) k)

-- one change after another

again_at : (f g : Object → Object) (t : Table) (n : ℕ) (e : Option Object) → entry t n ≡ e → changed_object g (changed_object f t n e) n (entry (changed_object f t n e) n) ≡ changed_object (λ o. g (f o)) t n e
again_at f g t n None e = ap (changed_object g t n) e
again_at f g t n (Some o) e = ap (changed_object g (changed t n (f o)) n) (changed-some t n (f o) o e) ∙ changed-again t n (f o) (g (f o))

pub by_both : (f g : Object → Object) (t : Table) (v : Value) → changed_by g (changed_by f t v) v ≡ changed_by (λ o. g (f o)) t v
by_both f g t (Small n) = refl
by_both f g t (Ref n) = again_at f g t n (entry t n) refl

-- a place that isn't there

pub set_past : {A : Type 0} (xs : List A) (i : ℕ) (x : A) → length xs ≤ i → slice_set xs i x ≡ xs
set_past [] i x l = refl
set_past (y ∷ ys) zero x l = absurd (omega (arith, l))
set_past (y ∷ ys) (suc i) x l = ap (λ q. y ∷ q) (set_past ys i x (omega (arith, l)))

unit_past : (o : Object) (i x : ℕ) → length o.units ≤ i → object_with_unit o i x ≡ o
unit_past o i x l = ap (λ us. record { class = o.class; kind = o.kind; fields = o.fields; units = us }) (set_past o.units i x l)

pub field_past : (o : Object) (i : ℕ) (x : Value) → length o.fields ≤ i → with_field o i x ≡ o
field_past o i x l = ap (λ us. record { class = o.class; kind = o.kind; fields = us; units = o.units }) (set_past o.fields i x l)

pub and_false : (b : Bool) → (b && false) ≡ false
and_false true = refl
and_false false = refl

sized : (o : Object) → is_pointers o.kind ≡ false → size_of o ≡ first_unit o + length o.units
sized o e = rw e refl

-- words

module _ (t : Table) (v : Value) (i x : ℕ) where
  pub word_here : is_live t v ≡ true → is_words (object_of t v).kind ≡ true → with_unit t v i x ≡ changed_by (word_stored i x) t v
  word_here live k = unit_becomes (word_stored i x) t v i x live (rw k refl)

  pub word_elsewhere : is_words (object_of t v).kind ≡ false → t ≡ changed_by (word_stored i x) t v
  word_elsewhere k = left_stays (word_stored i x) t v (rw k refl)

  pub word_past : is_words (object_of t v).kind ≡ true → length (object_of t v).fields ≡ 0 → size_of (object_of t v) ≤ i → t ≡ changed_by (word_stored i x) t v
  word_past k none l =
      let o = object_of t v in
      let s = sized o (words_pointers o.kind k) in
      left_stays (word_stored i x) t v (rw k (unit_past o i x (omega (arith, s, l))))

pub ruleset words = (gone_stays, word_here, word_elsewhere, word_past)

-- bytes

module _ (t : Table) (v : Value) (i x : ℕ) where
  pub byte_here : is_live t v ≡ true → has_bytes (object_of t v).kind ≡ true → first_unit (object_of t v) ≤ i → with_unit t v (i - first_unit (object_of t v)) x ≡ changed_by (byte_stored i x) t v
  byte_here live k l =
      let r : nat_le (first_unit (object_of t v)) i ≡ true = grind (arith, nat_tests) in
      unit_becomes (byte_stored i x) t v (i - first_unit (object_of t v)) x live (rw (k, r) refl)

  pub byte_elsewhere : has_bytes (object_of t v).kind ≡ false → t ≡ changed_by (byte_stored i x) t v
  byte_elsewhere k = left_stays (byte_stored i x) t v (rw k refl)

  pub byte_before : i < first_unit (object_of t v) → t ≡ changed_by (byte_stored i x) t v
  byte_before l =
      let r : nat_le (first_unit (object_of t v)) i ≡ false = grind (arith, nat_tests) in
      left_stays (byte_stored i x) t v (rw (r, and_false (has_bytes (object_of t v).kind)) refl)

  pub byte_past : has_bytes (object_of t v).kind ≡ true → first_unit (object_of t v) ≤ i → size_of (object_of t v) ≤ i → t ≡ changed_by (byte_stored i x) t v
  byte_past k f l =
      let o = object_of t v in
      let s = sized o (bytes_pointers o.kind k) in
      let r : nat_le (first_unit o) i ≡ true = grind (arith, nat_tests) in
      left_stays (byte_stored i x) t v (rw (k, r) (unit_past o (i - first_unit o) x (omega (arith, s, l))))

pub ruleset bytes = (gone_stays, byte_here, byte_elsewhere, byte_before, byte_past, bytes_words)

-- the bytes of a number

module _ (t u : Table) (v : Value) (place left : ℕ) (few : place < 16) where
  within : bytes_within (16 - place) left ≡ (if nat_lt left 256 then left ∷ [] else left % 256 ∷ bytes_within (16 - suc place) (left / 256))
  within = let e : 16 - place ≡ suc (16 - suc place) = omega (arith, few) in ap (λ n. bytes_within n left) e

  pub last_byte : left < 256 → u ≡ changed_by (byte_stored place left) t v → u ≡ changed_by (bytes_stored place (bytes_within (16 - place) left)) t v
  last_byte l e =
      let r : nat_lt left 256 ≡ true = grind (arith, nat_tests) in
      e ∙ ap (λ bs. changed_by (bytes_stored place bs) t v) (sym (within ∙ ap (λ b. if b then left ∷ [] else left % 256 ∷ bytes_within (16 - suc place) (left / 256)) r))

  pub next_byte : 256 ≤ left → u ≡ changed_by (byte_stored place (left % 256)) t v
      → changed_by (bytes_stored (suc place) (bytes_within (16 - suc place) (left / 256))) u v ≡ changed_by (bytes_stored place (bytes_within (16 - place) left)) t v
  next_byte l e =
      let r : nat_lt left 256 ≡ false = grind (arith, nat_tests) in
      let rest = bytes_within (16 - suc place) (left / 256) in
      ap (λ w. changed_by (bytes_stored (suc place) rest) w v) e ∙ by_both (byte_stored place (left % 256)) (bytes_stored (suc place) rest) t v
      ∙ ap (λ bs. changed_by (bytes_stored place bs) t v) (sym (within ∙ ap (λ b. if b then left ∷ [] else left % 256 ∷ rest) r))

pub no_byte : (t : Table) (v : Value) (place : ℕ) → t ≡ changed_by (bytes_stored place []) t v
no_byte t v place = left_stays (λ o. o) t v refl

-- the four bytes of a time

pub four_stored : (t : Table) (v : Value) (a b c d : ℕ)
    → changed_by (byte_stored 3 d) (changed_by (byte_stored 2 c) (changed_by (byte_stored 1 b) (changed_by (byte_stored 0 a) t v) v) v) v
    ≡ changed_by (bytes_stored 0 (a ∷ b ∷ c ∷ d ∷ [])) t v
four_stored t v a b c d =
    ap (λ u. changed_by (byte_stored 3 d) (changed_by (byte_stored 2 c) u v) v) (by_both (byte_stored 0 a) (byte_stored 1 b) t v)
    ∙ ap (λ u. changed_by (byte_stored 3 d) u v) (by_both (λ o. byte_stored 1 b (byte_stored 0 a o)) (byte_stored 2 c) t v)
    ∙ by_both (λ o. byte_stored 2 c (byte_stored 1 b (byte_stored 0 a o))) (byte_stored 3 d) t v

pub ruleset times = (four_stored)

-- nothing is changed
pub unchanged : (v : View) (f : Object → Object) (x : Value) → v.objects ≡ changed_by f v.objects x → ChangesOne v v f x
unchanged v f x e = record { objects = e; held = refl; head = refl }
