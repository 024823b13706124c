-- What the calls of a draft that only read come to.
use Rattle.std.proofs.Common.{◌≡◌, ℕ, ◌*◌, ◌/◌, ◌<◌, ◌≤◌, zero, suc, Bool, true, false, List, [], ◌∷◌, length, Result, Ok, Err, refl, sym, ap, ◌∙◌, subst, arith, is_some}
use Rattle.std.specs.Prelude.{ℤ, slice_get, unwrap_or, Option, Some, None, IfSome, IfNone}
use Rattle.std.specs.Result.{is_ok}
use Rattle.st_model.specs.declared.dead.Dead.{Dead}
use Rattle.st_model.specs.declared.dead.Dead.TheVariants as dead
use Rattle.st_model.specs.declared.kind.Kind.{Kind}
use Rattle.st_model.specs.declared.word.Word.{Word}
use Rattle.st_model.specs.Values.{Value, Small, Ref, word, value_of}
use Rattle.st_model.specs.Objects.{Object, is_pointers, is_method, nil}
use Rattle.st_model.specs.Machine.{Step, Died, Went, is_there}
use Rattle.st_model.specs.Steps.{fetch_field, count_fields, class_of, literal, fetch_method_field, byte_at}
use Rattle.st_model.specs.Methods.{method_header, literal_from_last}
use Rattle.st_model.specs.Table.{Table, table, bounded_table, apart, entry}
use Rattle.st_model.specs.View.{nothing, is_live, object_of, Lacks, SmallInteger, Gone, OtherKind}
use Rattle.st_model.specs.inside.Calls.{Reads, itself}
use Rattle.st_model.proofs.Pointers.{value_of-pointer}
use Rattle.st_model.proofs.Tabular.{fetch_field-as, count_fields-as, class_of-as, literal-as, fetch_method_field-as, byte_at-as, method_header-as, literal_from_last-as}
use Rattle.st_memory.specs.declared.made.Made.{Made}
use Rattle.st_draft.specs.declared.change.Change.{Change}
use Rattle.st_memory.specs.inside.Tabular.{apart_tabular, bounded_tabular}
use Rattle.st_draft.specs.inside.Drafts.{with_made, field_value, draft_table, HasField, IsLike, AreLike, named_object}
use Rattle.st_memory.specs.inside.Making.{made_object, alone}
use Rattle.st_memory.proofs.Fresh.{class_fresh, kind_fresh, fields_fresh}
use Rattle.st_memory.proofs.Looking.{Got, result_got, Looks, reads_got, got_reads, reads_moved, or_got, checked, looked, look_at, fetch_looks, count_looks, header_looks, literal_looks, method_field_looks, last_looks, byte_looks, class_in, class_look, class_looks}
use Rattle.st_draft.proofs.Alike.{look_same, look_alike, method_same, count_same, class_look_alike, class_look_same, counted, uncounted, fetch_died, fetch_is}
use Rattle.st_draft.proofs.Writing.{field_like}
use Rattle.st_draft.proofs.Replaying.{replayed_like}
use Rattle.st_model.proofs.Runs.{get-past}

-- why fields can't be counted is why there aren't any
pub lacks_died : (t : Table) (v : Value) (k : Dead) (from n : ℕ) → look_at is_pointers (λ o. Some (length o.fields)) dead.Field v t ≡ Died k → Lacks t v from n k
unfolding is_live object_of
lacks_died t (Small j) k from n h = let q : dead.Small ≡ k = cc in subst (Lacks t (Small j) from n) q (SmallInteger refl)
lacks_died t (Ref j) k from n h = by_entry (entry t j) refl h
  where
    by_kind : (o : Object) (b : Bool) → entry t j ≡ Some o → is_pointers o.kind ≡ b → checked b (Went (length o.fields) tt) ≡ Died k → Lacks t (Ref j) from n k
    by_kind o true e p h = cc
    by_kind o false e p h =
        let q : dead.Kind ≡ k = cc in
        subst (Lacks t (Ref j) from n) q (OtherKind (ap is_some e) (ap (λ x. is_pointers (unwrap_or x nothing).kind) e ∙ p))

    by_entry : (e : Option Object) → entry t j ≡ e → looked is_pointers (λ o. Some (length o.fields)) dead.Field e ≡ Died k → Lacks t (Ref j) from n k
    by_entry None e h = let q : dead.Kind ≡ k = cc in subst (Lacks t (Ref j) from n) q (Gone refl (ap is_some e))
    by_entry (Some o) e h = by_kind o (is_pointers o.kind) e refl h

module _ {A B : Type 0} (P Q R : Step Table A) (f : B → A) (g : Table → Got A) (looks : Looks R g) (q : Q ≡ R) (t u : Table) (r : Result B Dead) where
  -- a step that looks over one table looks the same over another
  pub moved : P ≡ R → g u ≡ g t → Reads P f t r → Reads Q f u r
  moved p same h = subst (λ m. Reads m f u r) (sym q) (reads_moved R g f looks t u r same (subst (λ m. Reads m f t r) p h))

  pub given : g u ≡ result_got f r → Reads Q f u r
  given e = subst (λ m. Reads m f u r) (sym q) (got_reads R g f looks u r e)

  pub taken : Reads Q f u r → g u ≡ result_got f r
  taken h = reads_got R g f looks u r (subst (λ m. Reads m f u r) q h)

look_named : {A : Type 0} (test : Kind → Bool) (f : Object → Option A) (cause : Dead) (t : Table) (v : Value) (o : Object) → named_object t v ≡ Some o → look_at test f cause v t ≡ looked test f cause (Some o)
look_named test f cause t (Small n) o e = cc
look_named test f cause t (Ref n) o e = ap (looked test f cause) e

object_named_is : (t : Table) (v : Value) (o : Object) → named_object t v ≡ Some o → object_of t v ≡ o
unfolding object_of
object_named_is t (Small n) o e = cc
object_named_is t (Ref n) o e = ap (λ x. unwrap_or x nothing) e

object_same : (t u : Table) (v : Value) → named_object t v ≡ named_object u v → object_of t v ≡ object_of u v
unfolding object_of
object_same t u (Small n) e = refl
object_same t u (Ref n) e = ap (λ x. unwrap_or x nothing) e

pub field_same : (t u : Table) (v : Value) (i : ℕ) → named_object t v ≡ named_object u v → HasField t v i → HasField u v i
field_same t u v i e has = record {
  pointers = subst (λ (o : Object). is_pointers o.kind ≡ true) (object_same t u v e) has.pointers;
  place = subst (λ (o : Object). i < length o.fields) (object_same t u v e) has.place;
}

got_field : (xs : List Value) (i : ℕ) → i < length xs → (y : Value) × (slice_get xs i ≡ Some y)
got_field [] i l = absurd (omega (arith, l))
got_field (x ∷ xs) zero l = (x, refl)
got_field (x ∷ xs) (suc i) l = got_field xs i (omega (arith, l))

some_live : (e : Option Object) (i : ℕ) → i < length (unwrap_or e nothing).fields → is_some e ≡ true
some_live None i l = absurd (omega (arith, l))
some_live (Some o) i l = refl

pub has_live : (t : Table) (v : Value) (i : ℕ) → HasField t v i → is_live t v ≡ true
unfolding object_of is_live
has_live t (Small n) i has = let l = has.place in absurd (omega (arith, l))
has_live t (Ref n) i has = some_live (entry t n) i has.place

answered : (y : Value) (r : Result Word Dead) → Went y tt ≡ result_got word r → (x : Word) × (r ≡ Ok x) × (y ≡ word x)
answered y (Ok x) e = let q : y ≡ word x = cc in (x, refl, q)
answered y (Err c) e = cc

module _ (t : Table) (ms : List Made) (n : ℕ) (cs : List Change) (k : ℕ) (v : Value) where
  abbrev start : Table
  start = with_made t ms n

  abbrev now : Table
  now = draft_table t ms n cs k

  like : AreLike now start
  like = replayed_like start cs k

  module _ {A : Type 0} (test : Kind → Bool) (f : Object → Option A) (cause : Dead) (same : (x y : Object) → IsLike x y → test y.kind ≡ true → f x ≡ f y) where
    pub look_base : named_object start v ≡ named_object t v → look_at test f cause v now ≡ look_at test f cause v t
    look_base e = look_alike test f cause now start v same like ∙ look_same test f cause start t v e

    pub look_made : (m : Made) → named_object start v ≡ Some (made_object m) → look_at test f cause v now ≡ looked test f cause (Some (made_object m))
    look_made m e = look_alike test f cause now start v same like ∙ look_named test f cause start v (made_object m) e

  -- the calls that read one object

  pub count_base : (r : Result ℕ Dead) → named_object start v ≡ named_object t v → Reads (count_fields bounded_table v) itself t r → Reads (count_fields apart v) itself now r
  count_base r e h = moved (count_fields bounded_table v) (count_fields apart v) (count_fields table v) itself _ (count_looks v) (count_fields-as apart_tabular v) t now r (count_fields-as bounded_tabular v) (look_base is_pointers _ dead.Field count_same e) h

  module _ {A B : Type 0} (Q R S : Step Table A) (f : B → A) (test : Kind → Bool) (g : Object → Option A) (cause : Dead) (same : (x y : Object) → IsLike x y → test y.kind ≡ true → g x ≡ g y)
      (looks : Looks R (look_at test g cause v)) (first : Looks S (look_at test g cause (Ref 0))) (q : Q ≡ R) (r : Result B Dead) where
    -- what is read of a made object is what is read of it alone
    pub made_reads : (m : Made) → named_object start v ≡ Some (made_object m) → Reads S f (alone (made_object m)) r → Reads Q f now r
    made_reads m e h = given Q Q R f _ looks q t now r (look_made test g cause same m e ∙ reads_got S (look_at test g cause (Ref 0)) f first (alone (made_object m)) r h)

  pub count_made : (m : Made) (r : Result ℕ Dead) → named_object start v ≡ Some (made_object m) → Reads (count_fields table (Ref 0)) itself (alone (made_object m)) r → Reads (count_fields apart v) itself now r
  count_made m r e h = made_reads (count_fields apart v) (count_fields table v) (count_fields table (Ref 0)) itself is_pointers (λ (o : Object). Some (length o.fields)) dead.Field count_same (count_looks v) (count_looks (Ref 0)) (count_fields-as apart_tabular v) r m e h

  pub class_base : (r : Result Word Dead) → named_object start v ≡ named_object t v → Reads (class_of bounded_table v) word t r → Reads (class_of apart v) word now r
  class_base r e h = moved (class_of bounded_table v) (class_of apart v) (class_of table v) word _ (class_looks v) (class_of-as apart_tabular v) t now r (class_of-as bounded_tabular v) (class_look_alike now start v like ∙ class_look_same start t v e) h

  class_named : (m : Made) (w : Value) → named_object start w ≡ Some (made_object m) → class_look w start ≡ Went (Ref (m.class.0 / 2)) tt
  class_named m (Small j) e = cc
  class_named m (Ref j) e = ap class_in e ∙ ap (λ c. Went (Ref c) tt) (class_fresh (m.class.0 / 2) m.kind m.size m.literals)

  pub class_made : (m : Made) → named_object start v ≡ Some (made_object m) → Reads (class_of apart v) word now (Ok (record { 0 = m.class.0 / 2 * 2 }))
  class_made m e =
      let c : word (record { 0 = m.class.0 / 2 * 2 }) ≡ Ref (m.class.0 / 2) = ap value_of (omega arith) ∙ value_of-pointer (m.class.0 / 2) in
      given (class_of bounded_table v) (class_of apart v) (class_of table v) word _ (class_looks v) (class_of-as apart_tabular v) t now (Ok (record { 0 = m.class.0 / 2 * 2 })) (class_look_alike now start v like ∙ class_named m v e ∙ ap (λ x. Went x tt) (sym c))

  module _ {A B : Type 0} (P Q R : Step Table A) (f : B → A) (g : Object → Option A) (cause : Dead) (looks : Looks R (look_at is_method g cause v)) (p : P ≡ R) (q : Q ≡ R) (r : Result B Dead) where
    -- what is read of a method
    pub method_base : named_object start v ≡ named_object t v → Reads P f t r → Reads Q f now r
    method_base e h = moved P Q R f _ looks q t now r p (look_base is_method g cause (method_same g) e) h

  module _ {A B : Type 0} (Q R S : Step Table A) (f : B → A) (g : Object → Option A) (cause : Dead) (looks : Looks R (look_at is_method g cause v)) (first : Looks S (look_at is_method g cause (Ref 0))) (q : Q ≡ R) (r : Result B Dead) where
    pub method_made : (m : Made) → named_object start v ≡ Some (made_object m) → Reads S f (alone (made_object m)) r → Reads Q f now r
    method_made m e h = made_reads Q R S f is_method g cause (method_same g) looks first q r m e h

  pub header_base : (r : Result Word Dead) → named_object start v ≡ named_object t v → Reads (method_header bounded_table v) word t r → Reads (method_header apart v) word now r
  header_base r e h = method_base (method_header bounded_table v) (method_header apart v) (method_header table v) word _ dead.Field (header_looks v) (method_header-as bounded_tabular v) (method_header-as apart_tabular v) r e h

  pub header_made : (m : Made) (r : Result Word Dead) → named_object start v ≡ Some (made_object m) → Reads (method_header table (Ref 0)) word (alone (made_object m)) r → Reads (method_header apart v) word now r
  header_made m r e h = method_made (method_header apart v) (method_header table v) (method_header table (Ref 0)) word _ dead.Field (header_looks v) (header_looks (Ref 0)) (method_header-as apart_tabular v) r m e h

  pub literal_base : (i : ℕ) (r : Result Word Dead) → named_object start v ≡ named_object t v → Reads (literal bounded_table v i) word t r → Reads (literal apart v i) word now r
  literal_base i r e h = method_base (literal bounded_table v i) (literal apart v i) (literal table v i) word _ dead.Field (literal_looks v i) (literal-as bounded_tabular v i) (literal-as apart_tabular v i) r e h

  pub literal_made : (i : ℕ) (m : Made) (r : Result Word Dead) → named_object start v ≡ Some (made_object m) → Reads (literal table (Ref 0) i) word (alone (made_object m)) r → Reads (literal apart v i) word now r
  literal_made i m r e h = method_made (literal apart v i) (literal table v i) (literal table (Ref 0) i) word _ dead.Field (literal_looks v i) (literal_looks (Ref 0) i) (literal-as apart_tabular v i) r m e h

  pub method_field_base : (i : ℕ) (r : Result Word Dead) → named_object start v ≡ named_object t v → Reads (fetch_method_field bounded_table v i) word t r → Reads (fetch_method_field apart v i) word now r
  method_field_base i r e h = method_base (fetch_method_field bounded_table v i) (fetch_method_field apart v i) (fetch_method_field table v i) word _ dead.Field (method_field_looks v i) (fetch_method_field-as bounded_tabular v i) (fetch_method_field-as apart_tabular v i) r e h

  pub method_field_made : (i : ℕ) (m : Made) (r : Result Word Dead) → named_object start v ≡ Some (made_object m) → Reads (fetch_method_field table (Ref 0) i) word (alone (made_object m)) r → Reads (fetch_method_field apart v i) word now r
  method_field_made i m r e h = method_made (fetch_method_field apart v i) (fetch_method_field table v i) (fetch_method_field table (Ref 0) i) word _ dead.Field (method_field_looks v i) (method_field_looks (Ref 0) i) (fetch_method_field-as apart_tabular v i) r m e h

  pub last_base : (j : ℕ) (r : Result Word Dead) → named_object start v ≡ named_object t v → Reads (literal_from_last bounded_table v j) word t r → Reads (literal_from_last apart v j) word now r
  last_base j r e h = method_base (literal_from_last bounded_table v j) (literal_from_last apart v j) (literal_from_last table v j) word _ dead.Field (last_looks v j) (literal_from_last-as bounded_tabular v j) (literal_from_last-as apart_tabular v j) r e h

  pub last_made : (j : ℕ) (m : Made) (r : Result Word Dead) → named_object start v ≡ Some (made_object m) → Reads (literal_from_last table (Ref 0) j) word (alone (made_object m)) r → Reads (literal_from_last apart v j) word now r
  last_made j m r e h = method_made (literal_from_last apart v j) (literal_from_last table v j) (literal_from_last table (Ref 0) j) word _ dead.Field (last_looks v j) (last_looks (Ref 0) j) (literal_from_last-as apart_tabular v j) r m e h

  pub byte_base : (ip : ℤ) (r : Result ℕ Dead) → named_object start v ≡ named_object t v → Reads (byte_at bounded_table v ip) itself t r → Reads (byte_at apart v ip) itself now r
  byte_base ip r e h = method_base (byte_at bounded_table v ip) (byte_at apart v ip) (byte_at table v ip) itself _ dead.Ip (byte_looks v ip) (byte_at-as bounded_tabular v ip) (byte_at-as apart_tabular v ip) r e h

  pub byte_made : (ip : ℤ) (m : Made) (r : Result ℕ Dead) → named_object start v ≡ Some (made_object m) → Reads (byte_at table (Ref 0) ip) itself (alone (made_object m)) r → Reads (byte_at apart v ip) itself now r
  byte_made ip m r e h = method_made (byte_at apart v ip) (byte_at table v ip) (byte_at table (Ref 0) ip) itself _ dead.Ip (byte_looks v ip) (byte_looks (Ref 0) ip) (byte_at-as apart_tabular v ip) r m e h

  -- what is there

  there_alike : (w : Value) → (is_live now w ≡ is_live start w) → is_there apart now w ≡ is_there table start w
  unfolding is_live
  there_alike (Small j) e = refl
  there_alike (Ref j) e = e

  there_as : (w : Value) → named_object start w ≡ named_object t w → is_there table start w ≡ is_there bounded_table t w
  there_as (Small j) e = refl
  there_as (Ref j) e = ap is_some e

  there_some : (w : Value) (o : Object) → named_object start w ≡ Some o → is_there table start w ≡ true
  there_some (Small j) o e = cc
  there_some (Ref j) o e = ap is_some e

  pub there_base : named_object start v ≡ named_object t v → is_there apart now v ≡ is_there bounded_table t v
  there_base e = there_alike v (like.live v) ∙ there_as v e

  pub there_made : (o : Object) → named_object start v ≡ Some o → is_there apart now v ≡ true
  there_made o e = there_alike v (like.live v) ∙ there_some v o e

  -- the fields that are counted

  pub count_now : (c : ℕ) → Reads (count_fields apart v) itself now (Ok c) → (is_pointers (object_of now v).kind ≡ true) × (length (object_of now v).fields ≡ c) × (is_live now v ≡ true)
  count_now c h = counted now v c (taken (count_fields apart v) (count_fields apart v) (count_fields table v) itself _ (count_looks v) (count_fields-as apart_tabular v) now now (Ok c) h)

  pub has_start : (c i : ℕ) → Reads (count_fields apart v) itself now (Ok c) → i < c → HasField start v i
  has_start c i h l =
      let r = count_now c h in
      let l' = (like.objects v).count in
      record { pointers = ap is_pointers (sym (like.objects v).kind) ∙ r.0; place = let q = r.1 in omega (arith, l, l', q) }

  pub has_not : (e : Dead) (i : ℕ) → Reads (count_fields apart v) itself now (Err e) → HasField start v i → ⊥
  has_not e i h has = uncounted now v i e (taken (count_fields apart v) (count_fields apart v) (count_fields table v) itself _ (count_looks v) (count_fields-as apart_tabular v) now now (Err e) h) (field_like now start v i like has)

  pub has_past : (c i : ℕ) → Reads (count_fields apart v) itself now (Ok c) → c ≤ i → HasField start v i → ⊥
  has_past c i h l has = let r = count_now c h in let q = r.1 in let p = has.place in let l' = (like.objects v).count in absurd (omega (arith, l, l', q, p))

  -- a field that is fetched

  pub fetch_err : (e : Dead) (i : ℕ) → Reads (count_fields apart v) itself now (Err e) → Reads (fetch_field apart v i) word now (Err e)
  fetch_err e i h =
      given (fetch_field apart v i) (fetch_field apart v i) (fetch_field table v i) word _ (fetch_looks v i) (fetch_field-as apart_tabular v i) now now (Err e)
      (fetch_died now v i e (taken (count_fields apart v) (count_fields apart v) (count_fields table v) itself _ (count_looks v) (count_fields-as apart_tabular v) now now (Err e) h))

  pub fetch_ok : (c i : ℕ) (x : Word) → Reads (count_fields apart v) itself now (Ok c) → field_value now v i ≡ Some (word x) → Reads (fetch_field apart v i) word now (Ok x)
  fetch_ok c i x h e =
      let r = count_now c h in
      given (fetch_field apart v i) (fetch_field apart v i) (fetch_field table v i) word _ (fetch_looks v i) (fetch_field-as apart_tabular v i) now now (Ok x)
      (fetch_is now v i r.2 r.0 ∙ ap (or_got dead.Field) e)

  pub fetch_past : (c i : ℕ) → Reads (count_fields apart v) itself now (Ok c) → c ≤ i → Reads (fetch_field apart v i) word now (Err dead.Field)
  fetch_past c i h l =
      let r = count_now c h in
      let none : field_value now v i ≡ None = get-past (object_of now v).fields i (let q = r.1 in omega (arith, l, q)) in
      given (fetch_field apart v i) (fetch_field apart v i) (fetch_field table v i) word _ (fetch_looks v i) (fetch_field-as apart_tabular v i) now now (Err dead.Field)
      (fetch_is now v i r.2 r.0 ∙ ap (or_got dead.Field) none)

  -- a field before all changes

  pub made_field : (m : Made) (i : ℕ) → named_object start v ≡ Some (made_object m) → HasField start v i → field_value start v i ≡ Some nil
  made_field m i e has =
      let is = object_named_is start v (made_object m) e in
      let pointers = subst (λ (o : Object). is_pointers o.kind ≡ true) is has.pointers in
      let within = subst (λ (o : Object). i < length o.fields) is has.place in
      ap (λ (o : Object). slice_get o.fields i) is
      ∙ fields_fresh (m.class.0 / 2) m.kind m.size m.literals i (ap is_pointers (sym (kind_fresh (m.class.0 / 2) m.kind m.size m.literals)) ∙ pointers) within

  pub base_field : (i : ℕ) (r : Result Word Dead) → named_object start v ≡ named_object t v → HasField start v i → Reads (fetch_field bounded_table v i) word t r → (x : Word) × (r ≡ Ok x) × (field_value start v i ≡ Some (word x))
  base_field i r e has h =
      let there = field_same start t v i e has in
      let live = has_live t v i there in
      let y = got_field (object_of t v).fields i there.place in
      let g = sym (fetch_is t v i live there.pointers ∙ ap (or_got dead.Field) y.1) ∙ taken (fetch_field bounded_table v i) (fetch_field bounded_table v i) (fetch_field table v i) word _ (fetch_looks v i) (fetch_field-as bounded_tabular v i) t t r h in
      let z = answered y.0 r g in
      (z.0, z.1, ap (λ (o : Object). slice_get o.fields i) (object_same start t v e) ∙ y.1 ∙ ap (λ a. Some a) z.2)

  -- whether something is there, by whether it was made

  pub there_if : (r : Option Made) → is_some r ≡ true → IfSome r (λ m. named_object start v ≡ Some (made_object m)) → is_there apart now v ≡ true
  there_if None s h = cc
  there_if (Some m) s h = there_made (made_object m) h

  pub there_else : (r : Option Made) → is_some r ≡ false → IfNone r (named_object start v ≡ named_object t v) → is_there apart now v ≡ is_there bounded_table t v
  there_else None s h = there_base h
  there_else (Some m) s h = cc

  pub made_if : (r : Option Made) → is_some r ≡ true → IfSome r (λ m. named_object start v ≡ Some (made_object m)) → (m : Made) × (named_object start v ≡ Some (made_object m))
  made_if None s h = cc
  made_if (Some m) s h = (m, h)

  pub base_if : (r : Option Made) → is_some r ≡ false → IfNone r (named_object start v ≡ named_object t v) → named_object start v ≡ named_object t v
  base_if None s h = h
  base_if (Some m) s h = cc

pub ok_of : (r : Result Word Dead) (x : Word) → r ≡ Ok x → is_ok r ≡ true
ok_of r x e = ap is_ok e

pub nil_is : word (record { 0 = 2 }) ≡ nil
unfolding value_of
nil_is = refl

pub ok_same : (r : Result Word Dead) (x y : Word) → r ≡ Ok x → r ≡ Ok y → x ≡ y
ok_same r x y e f = cc
