-- What is read of a BitBlt and its Forms, call by call.
use Rattle.std.proofs.Common.{◌≡◌, ℕ, zero, suc, ◌+◌, ◌*◌, ◌<◌, ◌≤◌, List, [], ◌∷◌, length, true, false, Option, Some, None, Ok, Err, inl, inr, refl, sym, ap, ◌∙◌, arith}
use Rattle.std.specs.Prelude.{slice_get, nat_le, unwrap_or, is_some}
use Rattle.std.proofs.lemmas.Bool.Decides.{nat_tests}
use Rattle.st_model.specs.declared.dead.Dead.{Dead}
use Rattle.st_model.specs.declared.dead.Dead.TheVariants as dead
use Rattle.st_model.specs.declared.kind.Kind.{Kind}
use Rattle.st_model.specs.declared.page.PageObject.TheVariants.{NilObject}
use Rattle.st_model.specs.Values.{Value, Ref, value_of}
use Rattle.st_model.specs.Objects.{Object, is_words}
use Rattle.st_model.specs.Machine.{ObjectMemory, State, Transition, Died, Went, Step, answer, die, after, ◌>>=◌, ◌>>◌}
use Rattle.st_model.specs.Table.{Table, table, entry, IsTabular}
use Rattle.st_model.specs.Steps.{object, check, or_die, fetch_kind, fetch_word, fetch_field, of_page, same_value}
use Rattle.st_model.specs.Deeds.{over_table}
use Rattle.st_model.specs.View.{is_live, object_of, nothing}
use Rattle.st_model.specs.inside.Calls.{Reads, itself}
use Rattle.st_model.specs.BitBlt.{Form, Axis, fetch_words, fetch_positive, read_form, read_unless, read_form_if_any, fetch_form, fetch_destination, fetch_halftone, fetch_rule, fetch_axis, read_copy}
use Rattle.st_model.specs.Pixels.{row_words}
use Rattle.std.proofs.lemmas.Bool.{cases_lt}
use Rattle.st_model.proofs.Tabular.{object-as}
use Rattle.st_model.proofs.Runs.{run-live}
use Rattle.st_model.proofs.Words.{value_of-nil}
use Rattle.st_bitblt.specs.inside.Reading.{units_in, HasWordsIn, checked_words}
use Rattle.st_model.proofs.Looking.{object-went}

-- the words of an object

died_at : {A : Type 0} (x : Transition (State Table) Object) (g : Object → A) (c : Dead) → after x (λ o t. Went (g o) t) ≡ Died c → x ≡ Died c
unfolding after
died_at (Died k) g c e = let q : k ≡ c = cc in ap Died q
died_at (Went o u) g c e = cc

went_at : {A : Type 0} (x : Transition (State Table) Object) (g : Object → A) (a : A) (u : State Table) → after x (λ o t. Went (g o) t) ≡ Went a u → (o : Object) × (x ≡ Went o u) × (g o ≡ a)
unfolding after
went_at (Died k) g a u e = cc
went_at (Went o t) g a u e = let q : g o ≡ a = cc in let r : t ≡ u = cc in (o, ap (Went o) r, q)

some_below : (us : List ℕ) (i : ℕ) (s : State Table) (w : ℕ) → (or_die dead.Field (slice_get us i)).run s ≡ Went w s → i < length us
unfolding or_die die
some_below [] i s w e = cc
some_below (u ∷ us) zero s w e = omega arith
some_below (u ∷ us) (suc i) s w e = let l = some_below us i s w e in omega (arith, l)

none_past : (us : List ℕ) (i : ℕ) (s : State Table) (c : Dead) → (or_die dead.Field (slice_get us i)).run s ≡ Died c → (length us ≤ i) × (c ≡ dead.Field)
unfolding or_die die answer
none_past [] i s c e = (omega arith, cc)
none_past (u ∷ us) zero s c e = cc
none_past (u ∷ us) (suc i) s c e = let l = none_past us i s c e in (omega (arith, l.0), l.1)

module _ {m : ObjectMemory Table} (h : IsTabular m) (v : Value) (t : Table) where
  -- the object of which the kind was told
  kind_object : (k : Kind) (s : State Table) → s.memory ≡ t → (fetch_kind m v).run s ≡ Went k s → ((object m v).run s ≡ Went (object_of t v) s) × (k ≡ (object_of t v).kind) × (is_live t v ≡ true)
  unfolding fetch_kind ◌>>=◌ answer object_of is_live
  kind_object k s q e =
      let x = went_at ((object m v).run s) (λ (o : Object). o.kind) k s e in
      let a : (object table v).run s ≡ Went x.0 s = ap (λ (st : Step Table Object). st.run s) (sym (object-as h v)) ∙ x.1 in
      let b = object-went v s s x.0 a in
      let f : entry t b.0 ≡ Some x.0 = ap (λ u. entry u b.0) (sym q) ∙ b.2 in
      let g : object_of t v ≡ x.0 = ap (object_of t) b.1 ∙ ap (λ y. unwrap_or y nothing) f in
      (x.1 ∙ ap (λ o. Went o s) (sym g), sym x.2 ∙ ap (λ (o : Object). o.kind) (sym g), ap (is_live t) b.1 ∙ ap is_some f)

  module _ (n : ℕ) where
    pub checked-gone : (c : Dead) → Reads (fetch_kind m v) itself t (Err c) → Reads (checked_words m v n) (λ (u : Unit {0}). units_in t v) t (Err c)
    unfolding fetch_kind fetch_words checked_words ◌>>=◌ ◌>>◌ answer after
    checked-gone c r s e = let x = died_at ((object m v).run s) (λ (o : Object). o.kind) c (r s e) in rw x refl

    pub checked-other : (k : Kind) → Reads (fetch_kind m v) itself t (Ok k) → is_words k ≡ false → Reads (checked_words m v n) (λ (u : Unit {0}). units_in t v) t (Err dead.Kind)
    unfolding fetch_words checked_words ◌>>=◌ ◌>>◌ answer after check die
    checked-other k r b s e =
        let x = kind_object k s e (r s e) in
        let y : is_words (object_of t v).kind ≡ false = ap is_words (sym x.1) ∙ b in
        rw (x.0, y) refl

    checked_went : (s : State Table) → (object m v).run s ≡ Went (object_of t v) s → is_words (object_of t v).kind ≡ true → n ≤ length (units_in t v) → (checked_words m v n).run s ≡ Went (units_in t v) s
    unfolding fetch_words checked_words ◌>>=◌ ◌>>◌ answer after check
    checked_went s x y l = let z : nat_le n (length (units_in t v)) ≡ true = grind (arith, nat_tests) in rw (x, y, z) refl

    checked_short : (s : State Table) → (object m v).run s ≡ Went (object_of t v) s → is_words (object_of t v).kind ≡ true → length (units_in t v) < n → (checked_words m v n).run s ≡ Died dead.Field
    unfolding fetch_words checked_words ◌>>=◌ ◌>>◌ answer after check die
    checked_short s x y l = let z : nat_le n (length (units_in t v)) ≡ false = grind (arith, nat_tests) in rw (x, y, z) refl

    -- an object's last word is there, or isn't
    word_went : (s : State Table) (w i : ℕ) → (object m v).run s ≡ Went (object_of t v) s → is_words (object_of t v).kind ≡ true → (fetch_word m v i).run s ≡ Went w s → i < length (units_in t v)
    unfolding fetch_word ◌>>=◌ ◌>>◌ answer after check
    word_went s w i x y e = let z : (or_die dead.Field (slice_get (units_in t v) i)).run s ≡ Went w s = rw (x, y) at e in some_below (units_in t v) i s w z

    word_died : (s : State Table) (c : Dead) (i : ℕ) → (object m v).run s ≡ Went (object_of t v) s → is_words (object_of t v).kind ≡ true → (fetch_word m v i).run s ≡ Died c → (length (units_in t v) ≤ i) × (c ≡ dead.Field)
    unfolding fetch_word ◌>>=◌ ◌>>◌ answer after check
    word_died s c i x y e = let z : (or_die dead.Field (slice_get (units_in t v) i)).run s ≡ Died c = rw (x, y) at e in none_past (units_in t v) i s c z

    pub checked-none : (k : Kind) → Reads (fetch_kind m v) itself t (Ok k) → is_words k ≡ true → n ≡ 0 → Reads (checked_words m v n) (λ (u : Unit {0}). units_in t v) t (Ok tt)
    checked-none k r b z s e =
        let x = kind_object k s e (r s e) in
        checked_went s x.0 (ap is_words (sym x.1) ∙ b) (omega arith)

    pub checked-words : (k : Kind) (w i : ℕ) → Reads (fetch_kind m v) itself t (Ok k) → is_words k ≡ true → n ≡ i + 1 → Reads (fetch_word m v i) itself t (Ok w) → Reads (checked_words m v n) (λ (u : Unit {0}). units_in t v) t (Ok tt)
    checked-words k w i r b z f s e =
        let x = kind_object k s e (r s e) in
        let y = ap is_words (sym x.1) ∙ b in
        let l = word_went s w i x.0 y (f s e) in
        checked_went s x.0 y (omega (arith, l))

    pub checked-short : (k : Kind) (c : Dead) (i : ℕ) → Reads (fetch_kind m v) itself t (Ok k) → is_words k ≡ true → n ≡ i + 1 → Reads (fetch_word m v i) itself t (Err c) → Reads (checked_words m v n) (λ (u : Unit {0}). units_in t v) t (Err c)
    checked-short k c i r b z f s e =
        let x = kind_object k s e (r s e) in
        let y = ap is_words (sym x.1) ∙ b in
        let l = word_died s c i x.0 y (f s e) in
        checked_short s x.0 y (omega (arith, l.0)) ∙ ap Died (sym l.1)

    pub words-none : (k : Kind) → Reads (fetch_kind m v) itself t (Ok k) → is_words k ≡ true → n ≡ 0 → HasWordsIn t v n
    words-none k r b z =
        let s = over_table t in
        let x = kind_object k s refl (r s refl) in
        record { live = x.2; kind = ap is_words (sym x.1) ∙ b; enough = omega arith }

    pub words-read : (k : Kind) (w i : ℕ) → Reads (fetch_kind m v) itself t (Ok k) → is_words k ≡ true → n ≡ i + 1 → Reads (fetch_word m v i) itself t (Ok w) → HasWordsIn t v n
    words-read k w i r b z f =
        let s = over_table t in
        let x = kind_object k s refl (r s refl) in
        let y = ap is_words (sym x.1) ∙ b in
        let l = word_went s w i x.0 y (f s refl) in
        record { live = x.2; kind = y; enough = omega (arith, l) }

-- a Form, or none

pub form-none : (m : ObjectMemory Table) (v nil : Value) (s : State Table) → same_value v nil ≡ true → (read_unless m v (same_value v nil)).run s ≡ Went None s
unfolding read_unless answer
form-none m v nil s e = rw e refl

pub form-read : (m : ObjectMemory Table) (v nil : Value) (s : State Table) → same_value v nil ≡ false → (read_unless m v (same_value v nil)).run s ≡ after ((read_form m v).run s) (λ f t. Went (Some f) t)
unfolding read_unless answer ◌>>=◌
form-read m v nil s e = rw e refl

pub page-nil : (m : ObjectMemory Table) → IsTabular m → (s : State Table) → (of_page m NilObject).run s ≡ Went (value_of 2) s
unfolding of_page value_of
page-nil m h s = rw h.named refl

pub ruleset forms = (form-none, form-read, page-nil)

-- what a Form's words are once they were checked

checked_on : {A : Type 0} (x : Transition (State Table) (List ℕ)) (n : ℕ) (f : List ℕ → A) (us : List ℕ) (u : State Table)
    → after x (λ ws t. after ((check dead.Field (nat_le n (length ws))).run t) (λ b t. Went ws t)) ≡ Went us u
    → after x (λ ws t. after ((check dead.Field (nat_le n (length ws))).run t) (λ b t. Went (f ws) t)) ≡ Went (f us) u
unfolding after
checked_on (Died c) n f us u e = cc
checked_on (Went ws t) n f us u e = by_check ((check dead.Field (nat_le n (length ws))).run t) e
  where
    by_check : (y : Transition (State Table) Unit) → after y (λ b t. Went ws t) ≡ Went us u → after y (λ b t. Went (f ws) t) ≡ Went (f us) u
    by_check (Died c) e = cc
    by_check (Went b w) e = let q : ws ≡ us = cc in let r : w ≡ u = cc in ap (λ z. Went (f z) w) q ∙ ap (Went (f us)) r

checked_off : {A : Type 0} (x : Transition (State Table) (List ℕ)) (n : ℕ) (f : List ℕ → A) (c : Dead)
    → after x (λ ws t. after ((check dead.Field (nat_le n (length ws))).run t) (λ b t. Went ws t)) ≡ Died c
    → after x (λ ws t. after ((check dead.Field (nat_le n (length ws))).run t) (λ b t. Went (f ws) t)) ≡ Died c
unfolding after
checked_off (Died k) n f c e = let q : k ≡ c = cc in ap Died q
checked_off (Went ws t) n f c e = by_check ((check dead.Field (nat_le n (length ws))).run t) e
  where
    by_check : (y : Transition (State Table) Unit) → after y (λ b t. Went ws t) ≡ Died c → after y (λ b t. Went (f ws) t) ≡ Died c
    by_check (Died k) e = let q : k ≡ c = cc in ap Died q
    by_check (Went b w) e = cc

module _ (m : ObjectMemory Table) (v bits : Value) (w n : ℕ) (s : State Table) (a : (fetch_field m v 0).run s ≡ Went bits s) (b : (fetch_positive m v 1).run s ≡ Went w s) (c : (fetch_positive m v 2).run s ≡ Went n s) where
  pub form_went : (us : List ℕ) → (checked_words m bits (n * row_words w)).run s ≡ Went us s → (read_form m v).run s ≡ Went (record { words = us; width = w; height = n }) s
  unfolding read_form checked_words ◌>>=◌ ◌>>◌ answer after
  form_went us e = rw (a, b, c) (checked_on ((fetch_words m bits).run s) (n * row_words w) (λ ws. record { words = ws; width = w; height = n }) us s e)

  pub form_died : (k : Dead) → (checked_words m bits (n * row_words w)).run s ≡ Died k → (read_form m v).run s ≡ Died k
  unfolding read_form checked_words ◌>>=◌ ◌>>◌ answer after
  form_died k e = rw (a, b, c) (checked_off ((fetch_words m bits).run s) (n * row_words w) (λ ws. record { words = ws; width = w; height = n }) k e)

module _ {m : ObjectMemory Table} (h : IsTabular m) (r x : Value) (i : ℕ) (s : State Table) (a : (fetch_field m r i).run s ≡ Went x s) where
  pub fetch_form_none : same_value x (value_of 2) ≡ true → (fetch_form m r i).run s ≡ Went None s
  unfolding fetch_form read_form_if_any of_page ◌>>=◌ after
  fetch_form_none b =
      let e : same_value x (Ref (m.named s.memory NilObject)) ≡ true = ap (λ f. same_value x (Ref (f s.memory NilObject))) h.named ∙ ap (same_value x) (sym value_of-nil) ∙ b in
      rw a (form-none m x (Ref (m.named s.memory NilObject)) s e)

  pub fetch_form_died : (c : Dead) → same_value x (value_of 2) ≡ false → (read_form m x).run s ≡ Died c → (fetch_form m r i).run s ≡ Died c
  unfolding fetch_form read_form_if_any of_page ◌>>=◌ after
  fetch_form_died c b d =
      let e : same_value x (Ref (m.named s.memory NilObject)) ≡ false = ap (λ f. same_value x (Ref (f s.memory NilObject))) h.named ∙ ap (same_value x) (sym value_of-nil) ∙ b in
      rw a (form-read m x (Ref (m.named s.memory NilObject)) s e ∙ ap (λ y. after y (λ f t. Went (Some f) t)) d)

  pub fetch_form_went : (f : Form) → same_value x (value_of 2) ≡ false → (read_form m x).run s ≡ Went f s → (fetch_form m r i).run s ≡ Went (Some f) s
  unfolding fetch_form read_form_if_any of_page ◌>>=◌ after
  fetch_form_went f b d =
      let e : same_value x (Ref (m.named s.memory NilObject)) ≡ false = ap (λ f. same_value x (Ref (f s.memory NilObject))) h.named ∙ ap (same_value x) (sym value_of-nil) ∙ b in
      rw a (form-read m x (Ref (m.named s.memory NilObject)) s e ∙ ap (λ y. after y (λ f t. Went (Some f) t)) d)

-- words of an object that is there are too few
checked_dies : {m : ObjectMemory Table} (h : IsTabular m) (v : Value) (t : Table) (n k : ℕ) (s : State Table) (c : Dead) → HasWordsIn t v k → s.memory ≡ t → (checked_words m v n).run s ≡ Died c → (length (units_in t v) < n) × (c ≡ dead.Field)
checked_dies h v t n k s c has q e =
    let live : is_live s.memory v ≡ true = ap (λ u. is_live u v) q ∙ has.live in
    let o : (object _ v).run s ≡ Went (object_of t v) s = ap (λ (st : Step Table Object). st.run s) (object-as h v) ∙ run-live v s live ∙ ap (λ u. Went (object_of u v) s) q in
    elim (cases_lt (length (units_in t v)) n) [
      | inl l ↦ let d : Died dead.Field ≡ Died c = sym (checked_short h v t n s o has.kind l) ∙ e in (l, cc)
      | inr l ↦ let d : Went (units_in t v) s ≡ Died c = sym (checked_went h v t n s o has.kind l) ∙ e in cc
    ]

pub halftone_short : {m : ObjectMemory Table} (h : IsTabular m) (r v : Value) (t : Table) (k : ℕ) (f : Form) (s : State Table) (c : Dead) → HasWordsIn t v k → s.memory ≡ t → f.words ≡ units_in t v
    → (fetch_form m r 2).run s ≡ Went (Some f) s → (checked_words m v 16).run s ≡ Died c → (fetch_halftone m r).run s ≡ Died c
unfolding fetch_halftone ◌>>=◌ ◌>>◌ after check die
halftone_short h r v t k f s c has q w a e =
    let d = checked_dies h v t 16 k s c has q e in
    let b : nat_le 16 (length f.words) ≡ false = rw w (grind (arith, nat_tests, d.0)) in
    rw (a, b) (ap Died (sym d.1))

-- a BitBlt, once its parts were read
module _ (m : ObjectMemory Table) (r : Value) (s : State Table) (d : Form) (f g : Option Form) (rule : ℕ) (x : Axis)
    (a1 : (fetch_destination m r).run s ≡ Went d s) (a2 : (fetch_form m r 1).run s ≡ Went f s) (a3 : (fetch_halftone m r).run s ≡ Went g s)
    (a4 : (fetch_rule m r).run s ≡ Went rule s) (a5 : (fetch_axis m r 0).run s ≡ Went x s) where
  pub copy_died : (c : Dead) → (fetch_axis m r 1).run s ≡ Died c → (read_copy m r).run s ≡ Died c
  unfolding read_copy ◌>>=◌ after
  copy_died c e = rw (a1, a2, a3, a4, a5, e) refl

  pub copy_went : (y : Axis) → (fetch_axis m r 1).run s ≡ Went y s → (read_copy m r).run s ≡ Went (record { destination = d; source = f; halftone = g; rule = rule; across = x; down = y }) s
  unfolding read_copy ◌>>=◌ after answer
  copy_went y e = rw (a1, a2, a3, a4, a5, e) refl
