-- Tables of objects in which one place is given an object.
use Rattle.std.proofs.Common.{◌≡◌, ℕ, ◌+◌, ◌<◌, [], ◌∷◌, length, true, false, Some, None, refl, sym, ap, ◌∙◌, subst, arith}
use Rattle.std.specs.Prelude.{slice_set, slice_get, unwrap_or, is_some}
use Rattle.std.proofs.lemmas.List.{set-set}
use Rattle.std.proofs.Math.ListN.{length-set}
use Rattle.st_model.specs.Values.{Value, Ref}
use Rattle.st_model.specs.Objects.{Object, with_field, object_with_unit, is_method}
use Rattle.st_model.specs.Formed.{IsHeader}
use Rattle.st_model.specs.Table.{Table, entry, changed}
use Rattle.st_model.specs.View.{View, is_live, object_of, nothing, with_object, with_stored, with_unit}
use Rattle.st_clean.specs.Filling.{IsPart, Puts, PutsPart, IsAmong}
use Rattle.st_clean.proofs.Parts.{part_field, part_unit, part_whole}
use Rattle.st_model.proofs.Entries.{entry-set_same, changed-set, set-same}

pub with-ref : (t : Table) (k : ℕ) (o : Object) → with_object t (Ref k) o ≡ slice_set t k (Some o)
unfolding with_object
with-ref t k o = refl

live-ref : (t : Table) (k : ℕ) (o : Object) → entry t k ≡ Some o → is_live t (Ref k) ≡ true
unfolding is_live
live-ref t k o e = ap (λ x. is_some x) e

pub free_ref : (t : Table) (k : ℕ) → entry t k ≡ None → is_live t (Ref k) ≡ false
unfolding is_live
free_ref t k e = ap (λ x. is_some x) e

pub object-ref : (t : Table) (k : ℕ) (o : Object) → entry t k ≡ Some o → object_of t (Ref k) ≡ o
unfolding object_of
object-ref t k o e = ap (λ x. unwrap_or x nothing) e

stored-ref : (t : Table) (k i : ℕ) (o : Object) (x : Value) → entry t k ≡ Some o → with_stored t (Ref k) i x ≡ slice_set t k (Some (with_field o i x))
unfolding with_stored
stored-ref t k i o x e = ap (λ a. changed t k (with_field a i x)) (object-ref t k o e) ∙ changed-set t k o (with_field o i x) e

unit-ref : (t : Table) (k i : ℕ) (o : Object) (u : ℕ) → entry t k ≡ Some o → with_unit t (Ref k) i u ≡ slice_set t k (Some (object_with_unit o i u))
unfolding with_unit
unit-ref t k i o u e = ap (λ a. changed t k (object_with_unit a i u)) (object-ref t k o e) ∙ changed-set t k o (object_with_unit o i u) e

-- what is known where a part stands

pub part_live : (v : View) (x : Value) (i j : ℕ) (o : Object) → IsAmong v x i j o → is_live v.objects x ≡ true
part_live v x i j o a = ap (is_live v.objects) a.is ∙ live-ref v.objects a.place a.part a.there

pub part_is : (v : View) (x : Value) (i j : ℕ) (o : Object) (a : IsAmong v x i j o) → object_of v.objects x ≡ a.part
part_is v x i j o a = ap (object_of v.objects) a.is ∙ object-ref v.objects a.place a.part a.there

pub puts_itself : (v : View) (x : Value) (i j : ℕ) (o : Object) → IsAmong v x i j o → PutsPart v v x i j o
puts_itself v x i j o a = record {
  part = a.part;
  is_part = a.is_part;
  puts = record {
    objects = sym (ap (λ y. with_object v.objects y a.part) a.is ∙ (with-ref v.objects a.place a.part ∙ set-same v.objects a.place a.part a.there));
    held = refl;
    head = refl;
  };
}

-- where a part was put, it stands
module _ (old new : View) (x : Value) (o : Object) (k : ℕ) (is : x ≡ Ref k) (inside : k < length old.objects) where
  put_is : (p : Object) → new.objects ≡ with_object old.objects x p → new.objects ≡ slice_set old.objects k (Some p)
  put_is p e = e ∙ (ap (λ y. with_object old.objects y p) is ∙ with-ref old.objects k p)

  pub among : (i j : ℕ) → PutsPart old new x i j o → IsAmong new x i j o
  among i j h =
      let e = put_is h.part h.puts.objects in
      record {
        place = k;
        is = is;
        inside = let l = ap length e ∙ length-set old.objects k (Some h.part) in omega (arith, l, inside);
        part = h.part;
        there = ap (λ t. entry t k) e ∙ entry-set_same old.objects k (Some h.part) inside;
        is_part = h.is_part;
      }

  module _ (b : View) (held : b.held ≡ new.held) (head : b.head ≡ new.head) where
    more : (i j : ℕ) (h : PutsPart old new x i j o) (q : Object) (m n : ℕ) → IsPart m n o q → b.objects ≡ slice_set new.objects k (Some q) → PutsPart old b x m n o
    more i j h q m n part e = record {
      part = q;
      is_part = part;
      puts = record {
        objects = e ∙ (ap (λ (t : Table). slice_set t k (Some q)) (put_is h.part h.puts.objects) ∙ (set-set old.objects k (Some h.part) (Some q) ∙ sym (ap (λ y. with_object old.objects y q) is ∙ with-ref old.objects k q)));
        held = held ∙ h.puts.held;
        head = head ∙ h.puts.head;
      };
    }

    pub puts_field : (i : ℕ) (v : Value) → PutsPart old new x i 0 o → slice_get o.fields i ≡ Some v → b.objects ≡ with_stored new.objects x i v → PutsPart old b x (i + 1) 0 o
    unfolding among
    puts_field i v h at e =
        let a = among i 0 h in
        more i 0 h (with_field h.part i v) (i + 1) 0 (part_field i o h.part v h.is_part at) (e ∙ (ap (λ y. with_stored new.objects y i v) is ∙ stored-ref new.objects k i h.part v a.there))

    pub puts_unit : (n j : ℕ) (u : ℕ) → PutsPart old new x n j o → slice_get o.units j ≡ Some u → b.objects ≡ with_unit new.objects x j u → PutsPart old b x n (j + 1) o
    unfolding among
    puts_unit n j u h at e =
        let a = among n j h in
        more n j h (object_with_unit h.part j u) n (j + 1) (part_unit n j o h.part u h.is_part at) (e ∙ (ap (λ y. with_unit new.objects y j u) is ∙ unit-ref new.objects k j h.part u a.there))

-- a header stays one where the object has as many fields
pub header_part : (i j k : ℕ) (o p : Object) (v : Value) → IsPart i j o p → IsHeader o k v → IsHeader p k v
header_part i j k o p v h header = λ m z. let r = header (sym (ap is_method h.kind) ∙ m) z in (r.0, r.1 ∙ sym h.many_fields)

-- what was put last stands
pub puts_puts : (a b c : View) (x : Value) (k : ℕ) → x ≡ Ref k → (o p : Object) → Puts a b x o → Puts b c x p → Puts a c x p
puts_puts a b c x k is o p q r =
    let at : (t : Table) (y : Object) → with_object t x y ≡ slice_set t k (Some y) = λ t y. ap (λ z. with_object t z y) is ∙ with-ref t k y in
    record {
      objects = r.objects ∙ (at b.objects p ∙ (ap (λ (t : Table). slice_set t k (Some p)) (q.objects ∙ at a.objects o) ∙ (set-set a.objects k (Some o) (Some p) ∙ sym (at a.objects p))));
      held = r.held ∙ q.held;
      head = r.head ∙ q.head;
    }

-- an object is placed, its fields are stored and its units: it was put
pub again : (a b c d : View) (x : Value) (k : ℕ) → x ≡ Ref k → (o : Object) (i j : ℕ) → i ≡ length o.fields → j ≡ length o.units → PutsPart a b x 0 0 o → PutsPart b c x i 0 o → PutsPart c d x i j o → Puts a d x o
again a b c d x k is o i j f u p q r =
    let whole = part_whole i j o r.part f u r.is_part in
    puts_puts a c d x k is q.part o (puts_puts a b c x k is p.part q.part p.puts q.puts) (subst (λ y. Puts c d x y) whole r.puts)
