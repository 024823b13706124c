-- What a draft reads of an object that was exchanged is what it reads of the word that had it before.
use Rattle.std.proofs.Common.{◌≡◌, ℕ, ◌+◌, ◌*◌, ◌<◌, ◌≤◌, true, false, set, Result, Ok, Err, refl, sym, ap, ◌∙◌, subst, arith}
use Rattle.std.specs.Prelude.{ℤ, slice_get, slice_index_or, length, List, Bool, Option, Some}
use Rattle.st_model.specs.declared.dead.Dead.{Dead}
use Rattle.st_model.specs.declared.dead.Dead.TheVariants as dead
use Rattle.st_model.specs.declared.kind.Kind.{Kind}
use Rattle.st_model.specs.declared.word.Word.{Word}
use Rattle.st_model.specs.Values.{Value, Small, Ref, word, is_small}
use Rattle.st_model.specs.Objects.{Object, is_pointers, is_method}
use Rattle.st_model.specs.Machine.{Step, is_there}
use Rattle.st_model.specs.Steps.{fetch_field, count_fields, class_of, literal, fetch_method_field, byte_at, code_byte}
use Rattle.st_model.specs.Methods.{method_header, literal_from_last, from_last}
use Rattle.st_model.specs.Lookup.{half_word}
use Rattle.st_model.specs.Table.{Table, table, apart, joined}
use Rattle.st_model.specs.View.{is_live, object_of, Has, Lacks, TooFew}
use Rattle.st_model.specs.inside.Calls.{Reads, itself}
use Rattle.st_model.proofs.Tabular.{fetch_field-as, count_fields-as, class_of-as, literal-as, fetch_method_field-as, byte_at-as, method_header-as, literal_from_last-as}
use Rattle.st_memory.specs.declared.made.Made.{Made}
use Rattle.st_draft.specs.declared.change.Change.{Change}
use Rattle.st_draft.specs.declared.change.Change.TheVariants.{Field, Fields}
use Rattle.st_draft.specs.declared.change.Exchange.{Exchange}
use Rattle.st_draft.specs.declared.notes.Notes.{Notes}
use Rattle.st_draft.specs.declared.exchanges.Exchanges.{Exchanges}
use Rattle.st_memory.specs.inside.Tabular.{apart_tabular}
use Rattle.st_draft.specs.inside.Drafts.{named_object, with_made, after_change, no_change, highest, draft_table, exchanged_by, value_first, AreOf, Names}
use Rattle.st_memory.specs.inside.Making.{made_object}
use Rattle.st_draft.specs.inside.Noted.{noted}
use Rattle.st_memory.proofs.Looking.{Got, Looks, looked, look_at, class_in, class_look, fetch_looks, count_looks, header_looks, literal_looks, method_field_looks, last_looks, byte_looks, class_looks}
use Rattle.st_draft.proofs.Alike.{counted}
use Rattle.st_draft.proofs.Drafted.{given, taken, lacks_died}
use Rattle.st_draft.proofs.Exchanged.{names_all, there_all, field_all, fields_all, length_all, live_all}
use Rattle.st_draft.proofs.Freeing.{half_alike}
use Rattle.st_draft.proofs.Keeping.{there_apart}
use Rattle.st_draft.proofs.Replaying.{replayed_more}
use Rattle.st_draft.proofs.Behind.{draft_more}

-- the word before the exchanges names the same before them
pub names_of : (t : Table) (pairs : List Exchange) (n : ℕ) → AreOf t pairs n → (v w : Value) → w ≡ value_first pairs n v → Names (exchanged_by t pairs n) t v w
names_of t pairs n of v w is = subst (λ x. Names (exchanged_by t pairs n) t v x) (sym is) (names_all pairs t n of v)

module _ {t u : Table} {v w : Value} (names : Names t u v w) where
  pub look_names : {A : Type 0} (test : Kind → Bool) (f : Object → Option A) (cause : Dead) → look_at test f cause v t ≡ look_at test f cause w u
  look_names test f cause = by_value v w names.object names.small
    where
      by_value : (v w : Value) → named_object t v ≡ named_object u w → is_small v ≡ is_small w → look_at test f cause v t ≡ look_at test f cause w u
      by_value (Small a) (Small b) e s = refl
      by_value (Small a) (Ref b) e s = cc
      by_value (Ref a) (Small b) e s = cc
      by_value (Ref a) (Ref b) e s = ap (looked test f cause) e

  class_names_look : class_look v t ≡ class_look w u
  class_names_look = by_value v w names.object names.small
    where
      by_value : (v w : Value) → named_object t v ≡ named_object u w → is_small v ≡ is_small w → class_look v t ≡ class_look w u
      by_value (Small a) (Small b) e s = refl
      by_value (Small a) (Ref b) e s = cc
      by_value (Ref a) (Small b) e s = cc
      by_value (Ref a) (Ref b) e s = ap class_in e

  module _ {A B : Type 0} (P Q R S : Step Table A) (f : B → A) (g h : Table → Got A) (looks : Looks R g) (other : Looks S h) (p : P ≡ R) (q : Q ≡ S) (same : g t ≡ h u) (r : Result B Dead) where
    pub read_names : Reads Q f u r → Reads P f t r
    read_names reads = given Q P R f g looks p u t r (same ∙ taken P Q S f h other q t u r reads)

  pub count_names : (r : Result ℕ Dead) → Reads (count_fields apart w) itself u r → Reads (count_fields apart v) itself t r
  count_names r h = read_names (count_fields apart v) (count_fields apart w) (count_fields table v) (count_fields table w) itself _ _ (count_looks v) (count_looks w) (count_fields-as apart_tabular v) (count_fields-as apart_tabular w) (look_names is_pointers (λ o. Some (length o.fields)) dead.Field) r h

  pub fetch_names : (i : ℕ) (r : Result Word Dead) → Reads (fetch_field apart w i) word u r → Reads (fetch_field apart v i) word t r
  fetch_names i r h = read_names (fetch_field apart v i) (fetch_field apart w i) (fetch_field table v i) (fetch_field table w i) word _ _ (fetch_looks v i) (fetch_looks w i) (fetch_field-as apart_tabular v i) (fetch_field-as apart_tabular w i) (look_names is_pointers (λ o. slice_get o.fields i) dead.Field) r h

  pub class_names : (r : Result Word Dead) → Reads (class_of apart w) word u r → Reads (class_of apart v) word t r
  class_names r h = read_names (class_of apart v) (class_of apart w) (class_of table v) (class_of table w) word _ _ (class_looks v) (class_looks w) (class_of-as apart_tabular v) (class_of-as apart_tabular w) class_names_look r h

  pub header_names : (r : Result Word Dead) → Reads (method_header apart w) word u r → Reads (method_header apart v) word t r
  header_names r h = read_names (method_header apart v) (method_header apart w) (method_header table v) (method_header table w) word _ _ (header_looks v) (header_looks w) (method_header-as apart_tabular v) (method_header-as apart_tabular w) (look_names is_method (λ o. slice_get o.fields 0) dead.Field) r h

  pub literal_names : (i : ℕ) (r : Result Word Dead) → Reads (literal apart w i) word u r → Reads (literal apart v i) word t r
  literal_names i r h = read_names (literal apart v i) (literal apart w i) (literal table v i) (literal table w i) word _ _ (literal_looks v i) (literal_looks w i) (literal-as apart_tabular v i) (literal-as apart_tabular w i) (look_names is_method (λ o. slice_get o.fields (i + 1)) dead.Field) r h

  pub method_field_names : (i : ℕ) (r : Result Word Dead) → Reads (fetch_method_field apart w i) word u r → Reads (fetch_method_field apart v i) word t r
  method_field_names i r h = read_names (fetch_method_field apart v i) (fetch_method_field apart w i) (fetch_method_field table v i) (fetch_method_field table w i) word _ _ (method_field_looks v i) (method_field_looks w i) (fetch_method_field-as apart_tabular v i) (fetch_method_field-as apart_tabular w i) (look_names is_method (λ o. slice_get o.fields i) dead.Field) r h

  pub last_names : (k : ℕ) (r : Result Word Dead) → Reads (literal_from_last apart w k) word u r → Reads (literal_from_last apart v k) word t r
  last_names k r h = read_names (literal_from_last apart v k) (literal_from_last apart w k) (literal_from_last table v k) (literal_from_last table w k) word _ _ (last_looks v k) (last_looks w k) (literal_from_last-as apart_tabular v k) (literal_from_last-as apart_tabular w k) (look_names is_method (λ o. from_last o k) dead.Field) r h

  pub byte_names : (ip : ℤ) (r : Result ℕ Dead) → Reads (byte_at apart w ip) itself u r → Reads (byte_at apart v ip) itself t r
  byte_names ip r h = read_names (byte_at apart v ip) (byte_at apart w ip) (byte_at table v ip) (byte_at table w ip) itself _ _ (byte_looks v ip) (byte_looks w ip) (byte_at-as apart_tabular v ip) (byte_at-as apart_tabular w ip) (look_names is_method (λ o. code_byte o ip) dead.Ip) r h

-- the fields that are counted of a table

module _ (now : Table) (v : Value) where
  counts_now : (c : ℕ) → Reads (count_fields apart v) itself now (Ok c) → (is_pointers (object_of now v).kind ≡ true) × (length (object_of now v).fields ≡ c) × (is_live now v ≡ true)
  counts_now c h = counted now v c (taken (count_fields apart v) (count_fields apart v) (count_fields table v) itself _ (count_looks v) (count_fields-as apart_tabular v) now now (Ok c) h)

  pub lacks_now : (e : Dead) (from n : ℕ) → Reads (count_fields apart v) itself now (Err e) → Lacks now v from n e
  lacks_now e from n h = lacks_died now v e from n (taken (count_fields apart v) (count_fields apart v) (count_fields table v) itself _ (count_looks v) (count_fields-as apart_tabular v) now now (Err e) h)

  pub few_now : (c from n : ℕ) → Reads (count_fields apart v) itself now (Ok c) → c < from + n → Lacks now v from n dead.Field
  few_now c from n h l = let r = counts_now c h in TooFew r.2 r.0 (let q = r.1 in omega (arith, l, q))

  pub has_now : (c from n : ℕ) → Reads (count_fields apart v) itself now (Ok c) → from + n ≤ c → Has now v from n
  has_now c from n h l = let r = counts_now c h in record { live = r.2; kind = r.0; fields = let q = r.1 in omega (arith, l, q) }

-- what is there

pub there_draft : (t : Table) (pairs : List Exchange) (n : ℕ) → AreOf t pairs n → (x : Value) → is_there apart (exchanged_by t pairs n) x ≡ is_there apart t x
there_draft t pairs n of x = sym (there_apart (exchanged_by t pairs n) x) ∙ there_all pairs t n of x ∙ there_apart t x

pub there_before : (t : Table) (pairs : List Exchange) (n : ℕ) → AreOf t pairs n → (x : Value) → is_there table t x ≡ is_there apart (exchanged_by t pairs n) x
there_before t pairs n of x = sym (there_all pairs t n of x) ∙ there_apart (exchanged_by t pairs n) x

pub live_there : (t : Table) (v : Value) → is_small v ≡ false → is_live t v ≡ is_there apart t v
unfolding is_live
live_there t (Small n) e = cc
live_there t (Ref n) e = refl

pub half_exchanged : (t : Table) (e : Exchanges) → AreOf t e.pairs e.count → (v : Value) (r : ℕ) → Reads (half_word apart v) itself t (Ok r) → Reads (half_word apart v) itself (exchanged_by t e.pairs e.count) (Ok r)
half_exchanged t e of v r h = half_alike (exchanged_by t e.pairs e.count) t (length_all e.pairs t e.count of) (live_all e.pairs t e.count of) v r h

-- what is noted

pub none_exchanged : (t : Table) (e : Exchanges) → e.count ≡ 0 → exchanged_by t e.pairs e.count ≡ t
unfolding exchanged_by
none_exchanged t e none = ap (exchanged_by t e.pairs) none

pub note_more : (t : Table) (old new : Notes) (c : Change) → old.count < length old.changes → new.made ≡ old.made → new.made_count ≡ old.made_count → new.changes ≡ set old.changes old.count c → new.count ≡ old.count + 1
    → noted t new ≡ after_change (noted t old) c
note_more t old new c within made made_count changes count =
    (λ i. draft_table t (made i) (made_count i) (changes i) (count i))
    ∙ replayed_more (with_made t old.made old.made_count) old.changes old.count c within

pub made_more : (t : Table) (old new : Notes) (m : Made) → length t ≡ 32768 → old.made_count < length old.made → ((j : ℕ) → j < old.count → highest (slice_index_or old.changes j no_change) < 65536 + 2 * old.made_count)
    → new.made ≡ set old.made old.made_count m → new.made_count ≡ old.made_count + 1 → new.changes ≡ old.changes → new.count ≡ old.count
    → noted t new ≡ joined (noted t old) (made_object m)
made_more t old new m places within below made made_count changes count =
    (λ i. draft_table t (made i) (made_count i) (changes i) (count i))
    ∙ draft_more t old.made old.made_count m old.changes old.count places within below

-- a change noted of the words before the exchanges is that change of the words behind them

pub field_behind : (t u : Table) (e f : Exchanges) (o p x : Word) (i : ℕ) → u ≡ after_change t (Field p i x) → f ≡ e → AreOf t e.pairs e.count → word p ≡ value_first e.pairs e.count (word o)
    → exchanged_by u f.pairs f.count ≡ after_change (exchanged_by t e.pairs e.count) (Field o i x)
field_behind t u e f o p x i is same of before =
    (λ k. exchanged_by (is k) (same k).pairs (same k).count) ∙ field_all e.pairs t e.count of o p x i before

pub fields_behind : (t u : Table) (e f : Exchanges) (source target s r : Word) (n from to : ℕ) → u ≡ after_change t (Fields n s from r to) → f ≡ e → AreOf t e.pairs e.count
    → word s ≡ value_first e.pairs e.count (word source) → word r ≡ value_first e.pairs e.count (word target)
    → exchanged_by u f.pairs f.count ≡ after_change (exchanged_by t e.pairs e.count) (Fields n source from target to)
fields_behind t u e f source target s r n from to is same of first second =
    (λ k. exchanged_by (is k) (same k).pairs (same k).count) ∙ fields_all e.pairs t e.count of n from to source target s r first second
