-- Names that were sought in tables, one after the other.
use Rattle.std.proofs.Common.{◌≡◌, ℕ, Bool, true, false, ◌||◌, List, [], ◌∷◌, ◌++◌, Option, Some, None, Result, Ok, Err, length, take, get_or, ◌+◌, ◌<◌, refl, sym, ap, ◌∙◌, subst, true≢false}
use Rattle.std.specs.Prelude.{bytes_eq, if◌then◌else◌, OnOk, IfSome}
use Rattle.std.specs.Borrow.{Bor}
use Rattle.std.proofs.lemmas.List.{take_more, map-append}
use Rattle.st_scan.specs.declared.tree.Name.{Name}
use Rattle.st_scope.specs.inside.Walks.{mentions_of}
use Rattle.std.specs.Global.{Vec}
use Rattle.std.specs.declared.cmp.Ordering.{Ordering}
use Rattle.std.specs.declared.cmp.Ordering.TheVariants.{Less, Equal, Greater}
use Rattle.std.specs.Ordering.{is_eq, nat_cmp, match_ordering}
use Rattle.std.specs.BTreeMap.{BTreeMap, UpdatesBy}
use Rattle.std.specs.BTreeSet.{insert_key}
use Rattle.std.specs.List.{list_any}
use Rattle.std.specs.Cmp.Lexicographic.{slice_cmp, bytes_decides, nat_list_eq_equiv}
use Rattle.std.proofs.lemmas.Map.Text.{is_eq-slice_cmp}
use Rattle.st_model.specs.declared.oop.Oop.{Oop}
use Rattle.st_model.specs.Values.{value}
use Rattle.st_model.specs.Table.{Table, table}
use Rattle.st_model.specs.inside.Calls.{Reads}
use Rattle.st_model.specs.View.{is_live}
use Rattle.st_emit.specs.Names.{or_else}
use Rattle.st_emit.proofs.Noting.{at_put}
use Rattle.st_scope.specs.declared.sought.Search.{Search}
use Rattle.st_scope.specs.Variables.{association_in}
use Rattle.st_scope.specs.inside.Meanings.{values}
use Rattle.st_scope.specs.Texts.{found}
use Rattle.st_scope.specs.inside.Sought.{is_among, shared_at, was_sought, NotesShared, NotesSought, Notes, AreSought}
use Rattle.st_emit.proofs.NamePlaces.{same_text, decides}

-- NOTES

abbrev by_items : Vec ℕ → Vec ℕ → Ordering
by_items x y = slice_cmp nat_cmp x.items y.items

pub shared_noted : (m n : BTreeMap (Vec ℕ) Oop) (k : Vec ℕ) (association : Oop) (text : List ℕ) → k.items ≡ text → UpdatesBy by_items (by_items k) m n (Some association) → NotesShared text (Some association) m.entries n.entries
shared_noted m n k association text e updates t =
    at_put (λ q. q.items) bytes_eq same_text by_items decides m n k (Some association) updates t
    ∙ ap (λ x. if bytes_eq x t then Some association else shared_at m.entries t) e

pub none_noted : (entries : List (Vec ℕ × Oop)) (text : List ℕ) → NotesShared text None entries entries
none_noted entries text t = by (bytes_eq text t) (shared_at entries t)
  where
    by : (b : Bool) (x : Option Oop) → x ≡ (if b then x else x)
    by true x = refl
    by false x = refl

pub sought_there : (keys : List (Vec ℕ)) (text : List ℕ) → list_any (λ q. is_eq (slice_cmp nat_cmp text q.items)) keys ≡ was_sought keys text
sought_there keys text = λ t. list_any (λ q. is_eq-slice_cmp text q.items t) keys

-- a key that was put among others
key_put : (keys : List (Vec ℕ)) (k : Vec ℕ) (t : List ℕ) → was_sought (insert_key by_items keys k) t ≡ true → (bytes_eq k.items t || was_sought keys t) ≡ true
key_put [] k t h = turned k t h
  where
    turned : (k : Vec ℕ) (t : List ℕ) → (bytes_eq t k.items || false) ≡ true → (bytes_eq k.items t || false) ≡ true
    turned k t h = subst (λ b. (b || false) ≡ true) (nat_list_eq_equiv.symm t k.items) h
key_put (x ∷ xs) k t h = by (by_items k x) (key_put xs k t) h
  where
    more : (a b c d : Bool) → b ≡ c → (b || (a || d)) ≡ true → (c || (a || d)) ≡ true
    more a b c d e f = subst (λ z. (z || (a || d)) ≡ true) e f

    later : (a c d : Bool) (e : Bool) → (e ≡ true → (c || d) ≡ true) → (a || e) ≡ true → (c || (a || d)) ≡ true
    later true true d e f g = refl
    later true false d e f g = refl
    later false c d true f g = f refl
    later false c d false f g = cc

    none_of : (a c d : Bool) → (a || d) ≡ true → (c || (a || d)) ≡ true
    none_of a true d f = refl
    none_of a false d f = f

    by : (o : Ordering) → (was_sought (insert_key by_items xs k) t ≡ true → (bytes_eq k.items t || was_sought xs t) ≡ true)
        → was_sought (match_ordering o (k ∷ x ∷ xs) (x ∷ xs) (x ∷ insert_key by_items xs k)) t ≡ true → (bytes_eq k.items t || was_sought (x ∷ xs) t) ≡ true
    by Less f g = more (bytes_eq t x.items) (bytes_eq t k.items) (bytes_eq k.items t) (was_sought xs t) (nat_list_eq_equiv.symm t k.items) g
    by Equal f g = none_of (bytes_eq t x.items) (bytes_eq k.items t) (was_sought xs t) g
    by Greater f g = later (bytes_eq t x.items) (bytes_eq k.items t) (was_sought xs t) (was_sought (insert_key by_items xs k) t) f g

pub sought_noted : (keys new : List (Vec ℕ)) (k : Vec ℕ) (text : List ℕ) → k.items ≡ text → new ≡ insert_key by_items keys k → NotesSought text keys new
sought_noted keys new k text e f t h = subst (λ x. (bytes_eq x t || was_sought keys t) ≡ true) e (key_put keys k t (subst (λ ks. was_sought ks t ≡ true) f h))

-- MEMBERS

among_more : (texts : List (List ℕ)) (text t : List ℕ) → is_among (texts ++ text ∷ []) t ≡ (is_among texts t || bytes_eq text t)
among_more [] text t = or_false (bytes_eq text t)
  where
    or_false : (b : Bool) → (b || false) ≡ b
    or_false true = refl
    or_false false = refl
among_more (x ∷ xs) text t = ap (λ b. bytes_eq x t || b) (among_more xs text t) ∙ or_assoc (bytes_eq x t) (is_among xs t) (bytes_eq text t)
  where
    or_assoc : (a b c : Bool) → (a || (b || c)) ≡ ((a || b) || c)
    or_assoc true b c = refl
    or_assoc false b c = refl

module _ (t : Table) (tables : List Oop) (texts : List (List ℕ)) (text : List ℕ) where
  -- a text that was sought before
  pub sought_again : (search : Search) → was_sought search.names.keys text ≡ true → AreSought t tables texts search → AreSought t tables (texts ++ text ∷ []) search
  sought_again search there h =
      record {
        shared = record {
          each = λ x e. h.shared.each x (before x e);
          none = λ x e. h.shared.none x (not_before x e);
          live = h.shared.live;
        };
        names = λ x e. rw (among_more texts text x, h.names x e) refl;
      }
    where
      before : (x : List ℕ) → is_among (texts ++ text ∷ []) x ≡ true → is_among texts x ≡ true
      before x e = by (is_among texts x) (bytes_eq text x) (sym (among_more texts text x) ∙ e) (λ f. subst (λ y. is_among texts y ≡ true) (same_text text x f) (h.names text there))
        where
          by : (a b : Bool) → (a || b) ≡ true → (b ≡ true → a ≡ true) → a ≡ true
          by true b e f = refl
          by false true e f = f refl
          by false false e f = cc

      not_before : (x : List ℕ) → is_among (texts ++ text ∷ []) x ≡ false → is_among texts x ≡ false
      not_before x e = by (is_among texts x) (bytes_eq text x) (sym (among_more texts text x) ∙ e)
        where
          by : (a b : Bool) → (a || b) ≡ false → a ≡ false
          by true b e = cc
          by false b e = refl

  -- a text that is sought now
  module _ (old new : Search) (association : Option Oop) (reads : Reads (association_in table (values tables) text) found t (Ok association))
      (live : (a : Oop) → association ≡ Some a → is_live t (value a) ≡ true) (notes : Notes text association old new) (h : AreSought t tables texts old) where
    abbrev was : List ℕ → Option Oop
    was x = shared_at old.shared.entries x

    abbrev is : List ℕ → Option Oop
    is x = shared_at new.shared.entries x

    noted : (x : List ℕ) (b : Bool) → bytes_eq text x ≡ b → is x ≡ (if b then or_else association (was x) else was x)
    noted x b e = notes.shared x ∙ ap (λ (c : Bool). if c then or_else association (was x) else was x) e

    found_now : (a : Option Oop) → a ≡ association → Reads (association_in table (values tables) text) found t (Ok (or_else a (was text)))
    found_now (Some a) q = subst (λ y. Reads (association_in table (values tables) text) found t (Ok y)) (sym q) reads
    found_now None q = by (is_among texts text) refl
      where
        by : (b : Bool) → is_among texts text ≡ b → Reads (association_in table (values tables) text) found t (Ok (was text))
        by true e = h.shared.each text e
        by false e = subst (λ y. Reads (association_in table (values tables) text) found t (Ok y)) (sym (h.shared.none text e ∙ q)) reads

    now : Reads (association_in table (values tables) text) found t (Ok (is text))
    now = subst (λ y. Reads (association_in table (values tables) text) found t (Ok y)) (sym (noted text true ((bytes_decides text text).1 refl))) (found_now association refl)

    each_now : (x : List ℕ) → (is_among texts x || bytes_eq text x) ≡ true → Reads (association_in table (values tables) x) found t (Ok (is x))
    each_now x e = by (bytes_eq text x) refl
      where
        left_one : (a b : Bool) → (a || b) ≡ true → b ≡ false → a ≡ true
        left_one true b f g = refl
        left_one false true f g = cc
        left_one false false f g = cc

        by : (b : Bool) → bytes_eq text x ≡ b → Reads (association_in table (values tables) x) found t (Ok (is x))
        by true f = subst (λ y. Reads (association_in table (values tables) y) found t (Ok (is y))) (same_text text x f) now
        by false f = subst (λ y. Reads (association_in table (values tables) x) found t (Ok y)) (sym (noted x false f)) (h.shared.each x (left_one (is_among texts x) (bytes_eq text x) e f))

    none_now : (x : List ℕ) → (is_among texts x || bytes_eq text x) ≡ false → is x ≡ None
    none_now x e = noted x false (right_one (is_among texts x) (bytes_eq text x) e) ∙ h.shared.none x (first_one (is_among texts x) (bytes_eq text x) e)
      where
        right_one : (a b : Bool) → (a || b) ≡ false → b ≡ false
        right_one true b f = cc
        right_one false b f = f

        first_one : (a b : Bool) → (a || b) ≡ false → a ≡ false
        first_one true b f = cc
        first_one false b f = refl

    live_now : (x : List ℕ) (a : Oop) → is x ≡ Some a → is_live t (value a) ≡ true
    live_now x a e = by (bytes_eq text x) refl
      where
        either_one : (b c : Option Oop) → b ≡ association → or_else b c ≡ Some a → (c ≡ Some a → is_live t (value a) ≡ true) → is_live t (value a) ≡ true
        either_one (Some y) c q f g = live a (sym q ∙ f)
        either_one None c q f g = g f

        by : (b : Bool) → bytes_eq text x ≡ b → is_live t (value a) ≡ true
        by true f = either_one association (was x) refl (sym (noted x true f) ∙ e) (h.shared.live x a)
        by false f = h.shared.live x a (sym (noted x false f) ∙ e)

    names_now : (x : List ℕ) → was_sought new.names.keys x ≡ true → (is_among texts x || bytes_eq text x) ≡ true
    names_now x e = by (is_among texts x) (bytes_eq text x) (was_sought old.names.keys x) (notes.sought x e) (h.names x)
      where
        by : (a b c : Bool) → (b || c) ≡ true → (c ≡ true → a ≡ true) → (a || b) ≡ true
        by true b c f g = refl
        by false true c f g = refl
        by false false true f g = g refl
        by false false false f g = cc

    pub sought_now : AreSought t tables (texts ++ text ∷ []) new
    sought_now = record {
      shared = record {
        each = λ x e. each_now x (sym (among_more texts text x) ∙ e);
        none = λ x e. none_now x (sym (among_more texts text x) ∙ e);
        live = live_now;
      };
      names = λ x e. among_more texts text x ∙ names_now x e;
    }

-- nothing is sought yet
pub none_sought : (t : Table) (tables : List Oop) (search : Search) → search.names.keys ≡ [] → search.shared.entries ≡ [] → AreSought t tables [] search
none_sought t tables search e f = record {
  shared = record {
    each = λ x g. absurd (true≢false (sym g));
    none = λ x g. ap (λ es. shared_at es x) f;
    live = λ x a g. absurd (nothing (sym (ap (λ es. shared_at es x) f) ∙ g));
  };
  names = λ x g. absurd (true≢false (sym (sym (ap (λ ks. was_sought ks x) e) ∙ g)));
}
  where
    nothing : {a : Oop} → None ≡ Some a → ⊥
    nothing g = cc

pub ok_then : {A E : Type 0} (r : Result A E) (P Q : Type 0) → (P → Q) → OnOk r P → OnOk r Q
ok_then (Ok x) P Q f h = f h
ok_then (Err e) P Q f h = h

pub some_live : (t : Table) (x : Option Oop) → IfSome x (λ a. is_live t (value a) ≡ true) → (a : Oop) → x ≡ Some a → is_live t (value a) ≡ true
some_live t None h a e = absurd cc
some_live t (Some b) h a e = subst (λ (y : Oop). is_live t (value y) ≡ true) (cc) h

-- one name more
pub mentions_more : (names : List (Bor Name)) (i : ℕ) (d : Bor Name) → i < length names → mentions_of (take i names) ++ (get_or names i d).now.text.items ∷ [] ≡ mentions_of (take (i + 1) names)
mentions_more names i d l = sym (ap mentions_of (take_more names i d l) ∙ map-append (λ (n : Bor Name). n.now.text.items) (take i names) (get_or names i d ∷ []))
