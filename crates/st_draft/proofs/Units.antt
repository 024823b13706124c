-- Words and bytes that are read of an object.
use Rattle.std.proofs.Common.{◌≡◌, ℕ, true, List, Result, ap}
use Rattle.std.specs.Prelude.{slice_get, Option, Some}
use Rattle.st_model.specs.declared.dead.Dead.{Dead}
use Rattle.st_model.specs.declared.dead.Dead.TheVariants as dead
use Rattle.st_model.specs.Values.{Value, Ref}
use Rattle.st_model.specs.Objects.{Object, is_words, has_bytes}
use Rattle.st_model.specs.Steps.{fetch_word, fetch_byte}
use Rattle.st_model.specs.Table.{Table, table, bounded_table, apart}
use Rattle.st_model.specs.inside.Calls.{Reads, itself}
use Rattle.st_model.proofs.Tabular.{fetch_word-as, fetch_byte-as}
use Rattle.st_memory.specs.inside.Tabular.{apart_tabular, bounded_tabular}
use Rattle.st_memory.specs.declared.made.Made.{Made}
use Rattle.st_draft.specs.declared.change.Change.{Change}
use Rattle.st_draft.specs.inside.Drafts.{with_made, draft_table, named_object, IsLike, Names}
use Rattle.st_memory.specs.inside.Making.{made_object, alone}
use Rattle.st_memory.proofs.Looking.{byte_in, word_looks, fetch_byte_looks}
use Rattle.st_draft.proofs.Drafted.{moved, look_base, made_reads}
use Rattle.st_draft.proofs.Moved.{read_names, look_names}
use Rattle.st_model.proofs.KindTests.{bytes_pointers, words_pointers}

words_same : {A : Type 0} (f : Object → Option A) (x y : Object) → IsLike x y → is_words y.kind ≡ true → f x ≡ f y
words_same f x y like e = ap f (like.same (words_pointers y.kind e))

bytes_same : {A : Type 0} (f : Object → Option A) (x y : Object) → IsLike x y → has_bytes y.kind ≡ true → f x ≡ f y
bytes_same f x y like e = ap f (like.same (bytes_pointers y.kind e))

module _ (t : Table) (ms : List Made) (n : ℕ) (cs : List Change) (k : ℕ) (v : Value) (i : ℕ) where
  pub word_base : (r : Result ℕ Dead) → named_object (with_made t ms n) v ≡ named_object t v → Reads (fetch_word bounded_table v i) itself t r → Reads (fetch_word apart v i) itself (draft_table t ms n cs k) r
  word_base r e h = moved (fetch_word bounded_table v i) (fetch_word apart v i) (fetch_word table v i) itself _ (word_looks v i) (fetch_word-as apart_tabular v i) t (draft_table t ms n cs k) r (fetch_word-as bounded_tabular v i)
      (look_base t ms n cs k v is_words (λ (o : Object). slice_get o.units i) dead.Field (words_same (λ (o : Object). slice_get o.units i)) e) h

  pub word_made : (m : Made) (r : Result ℕ Dead) → named_object (with_made t ms n) v ≡ Some (made_object m) → Reads (fetch_word table (Ref 0) i) itself (alone (made_object m)) r → Reads (fetch_word apart v i) itself (draft_table t ms n cs k) r
  word_made m r e h = made_reads t ms n cs k v (fetch_word apart v i) (fetch_word table v i) (fetch_word table (Ref 0) i) itself is_words (λ (o : Object). slice_get o.units i) dead.Field (words_same (λ (o : Object). slice_get o.units i)) (word_looks v i) (word_looks (Ref 0) i) (fetch_word-as apart_tabular v i) r m e h

  pub byte_base : (r : Result ℕ Dead) → named_object (with_made t ms n) v ≡ named_object t v → Reads (fetch_byte bounded_table v i) itself t r → Reads (fetch_byte apart v i) itself (draft_table t ms n cs k) r
  byte_base r e h = moved (fetch_byte bounded_table v i) (fetch_byte apart v i) (fetch_byte table v i) itself _ (fetch_byte_looks v i) (fetch_byte-as apart_tabular v i) t (draft_table t ms n cs k) r (fetch_byte-as bounded_tabular v i)
      (look_base t ms n cs k v has_bytes (byte_in i) dead.Field (bytes_same (byte_in i)) e) h

  pub byte_made : (m : Made) (r : Result ℕ Dead) → named_object (with_made t ms n) v ≡ Some (made_object m) → Reads (fetch_byte table (Ref 0) i) itself (alone (made_object m)) r → Reads (fetch_byte apart v i) itself (draft_table t ms n cs k) r
  byte_made m r e h = made_reads t ms n cs k v (fetch_byte apart v i) (fetch_byte table v i) (fetch_byte table (Ref 0) i) itself has_bytes (byte_in i) dead.Field (bytes_same (byte_in i)) (fetch_byte_looks v i) (fetch_byte_looks (Ref 0) i) (fetch_byte-as apart_tabular v i) r m e h

module _ {t u : Table} {v w : Value} (names : Names t u v w) (i : ℕ) (r : Result ℕ Dead) where
  pub word_names : Reads (fetch_word apart w i) itself u r → Reads (fetch_word apart v i) itself t r
  word_names h = read_names names (fetch_word apart v i) (fetch_word apart w i) (fetch_word table v i) (fetch_word table w i) itself _ _ (word_looks v i) (word_looks w i) (fetch_word-as apart_tabular v i) (fetch_word-as apart_tabular w i) (look_names names is_words (λ (o : Object). slice_get o.units i) dead.Field) r h

  pub byte_names : Reads (fetch_byte apart w i) itself u r → Reads (fetch_byte apart v i) itself t r
  byte_names h = read_names names (fetch_byte apart v i) (fetch_byte apart w i) (fetch_byte table v i) (fetch_byte table w i) itself _ _ (fetch_byte_looks v i) (fetch_byte_looks w i) (fetch_byte-as apart_tabular v i) (fetch_byte-as apart_tabular w i) (look_names names has_bytes (byte_in i) dead.Field) r h
