-- Over a bounded table what was made is filled and stored as over a table: nothing is made.
use Rattle.std.proofs.Common.{◌≡◌, ℕ, ◌+◌, ◌-◌, ◌*◌, zero, suc, List, [], ◌∷◌, length, Option, Some, None, Bool, true, false, refl, ap, ◌∙◌}
use Rattle.std.specs.Prelude.{bit_and, get_or}
use Rattle.st_model.specs.declared.kind.Kind.{Kind}
use Rattle.st_model.specs.declared.kind.Kind.TheVariants as kind
use Rattle.st_model.specs.declared.page.PageObject.TheVariants.{NilObject}
use Rattle.st_model.specs.Values.{Value}
use Rattle.st_model.specs.Machine.{Step, answer, ◌>>=◌, ◌>>◌}
use Rattle.st_model.specs.Steps.{same_value, store_fields, store_bytes}
use Rattle.st_model.specs.Table.{Table, table, bounded_table}
use Rattle.st_model.proofs.Tabular.{of_page-as, fetch_field-as, count_fields-as, store_field-as, store_method_field-as, store_byte-as}
use Rattle.st_memory.specs.inside.Tabular.{bounded_tabular}
use Rattle.st_install.specs.Plans.{NewObject, FieldStore, Plan}
use Rattle.st_install.specs.Dictionaries.{Ending, Holds, Vacant, Nowhere, ends_at, seek_at, seek_among, seek_from, count_places, seek, place_of_selector, put_method, put_at, refill_unless, refill_from, refill_among, refill, raised_tally}
use Rattle.st_install.specs.Installing.{part_value, part_values, store_method_fields, fill_method, fill_by, fill_all, store_all, target, Placing, find_place, adopt, add_at, store_planned, fill_and_store}
use Rattle.st_memory.proofs.Unbounded.{half_bounded}

store_fields-same : (v : Value) (to : ℕ) (xs : List Value) → store_fields bounded_table v to xs ≡ store_fields table v to xs
unfolding store_fields
store_fields-same v to [] = refl
store_fields-same v to (x ∷ xs) = λ i. store_field-as bounded_tabular v to x i >> store_fields-same v (suc to) xs i

store_method_fields-same : (v : Value) (to : ℕ) (xs : List Value) → store_method_fields bounded_table v to xs ≡ store_method_fields table v to xs
unfolding store_method_fields
store_method_fields-same v to [] = refl
store_method_fields-same v to (x ∷ xs) = λ i. store_method_field-as bounded_tabular v to x i >> store_method_fields-same v (suc to) xs i

store_bytes-same : (v : Value) (to : ℕ) (bs : List ℕ) → store_bytes bounded_table v to bs ≡ store_bytes table v to bs
unfolding store_bytes
store_bytes-same v to [] = refl
store_bytes-same v to (b ∷ bs) = λ i. store_byte-as bounded_tabular v to b i >> store_bytes-same v (suc to) bs i

fill_by-same : (v : Value) (fs : List Value) (bs : List ℕ) (k : Kind) → fill_by bounded_table v fs bs k ≡ fill_by table v fs bs k
unfolding fill_by fill_method
fill_by-same v fs bs kind.Pointers = store_fields-same v 0 fs
fill_by-same v fs bs kind.Words = refl
fill_by-same v fs bs kind.Bytes = store_bytes-same v 0 bs
fill_by-same v fs bs kind.Method = λ i. store_method_fields-same v 0 fs i >> store_bytes-same v (2 * length fs) bs i

module _ (nil : Value) (made : List Value) where
  fill_all-same : (vs : List Value) (os : List NewObject) → fill_all bounded_table nil made vs os ≡ fill_all table nil made vs os
  unfolding fill_all
  fill_all-same [] [] = refl
  fill_all-same [] (o ∷ os) = refl
  fill_all-same (v ∷ vs) [] = refl
  fill_all-same (v ∷ vs) (o ∷ os) = λ i. fill_by-same v (part_values nil made o.fields) o.bytes o.kind i >> fill_all-same vs os i

  store_all-same : (ss : List FieldStore) → store_all bounded_table nil made ss ≡ store_all table nil made ss
  unfolding store_all
  store_all-same [] = refl
  store_all-same (s ∷ ss) = λ i. store_field-as bounded_tabular (part_value nil made s.object) s.field (part_value nil made s.value) i >> store_all-same ss i

-- PLACES

seek_at-same : (d x : Value) (k : ℕ) (rest : Step Table Ending) → seek_at bounded_table d x k rest ≡ seek_at table d x k rest
unfolding seek_at
seek_at-same d x k rest = λ i. fetch_field-as bounded_tabular d (2 + k) i >>= (λ s. of_page-as bounded_tabular NilObject i >>= (λ nil. ends_at k (same_value s x) (same_value s nil) rest))

seek_among-same : (d x : Value) (k left : ℕ) (r q : Step Table Ending) → r ≡ q → seek_among bounded_table d x k left r ≡ seek_among table d x k left q
unfolding seek_among
seek_among-same d x k zero r q e = e
seek_among-same d x k (suc left) r q e = seek_at-same d x k (seek_among bounded_table d x (suc k) left r) ∙ ap (seek_at table d x k) (seek_among-same d x (suc k) left r q e)

seek_from-same : (d x : Value) (places start : ℕ) → seek_from bounded_table d x places start ≡ seek_from table d x places start
unfolding seek_from
seek_from-same d x places start = seek_among-same d x start (places - start) _ _ (seek_among-same d x 0 start (answer Nowhere) (answer Nowhere) refl)

count_places-same : (d : Value) → count_places bounded_table d ≡ count_places table d
unfolding count_places
count_places-same d = λ i. count_fields-as bounded_tabular d i >>= (λ n. answer (n - 2))

seek-same : (d x s : Value) → seek bounded_table d x s ≡ seek table d x s
unfolding seek
seek-same d x s = λ i. count_places-same d i >>= (λ places. half_bounded s i >>= (λ half. seek_from-same d x places (bit_and half (places - 1)) i))

-- DICTIONARIES

put_method-same : (d ms : Value) (k : ℕ) (s meth : Value) → put_method bounded_table d ms k s meth ≡ put_method table d ms k s meth
unfolding put_method
put_method-same d ms k s meth = λ i. store_field-as bounded_tabular d (2 + k) s i >> store_field-as bounded_tabular ms k meth i

put_at-same : (d s meth : Value) (end : Ending) → put_at bounded_table d s meth end ≡ put_at table d s meth end
unfolding put_at
put_at-same d s meth (Holds k) = λ i. fetch_field-as bounded_tabular d 1 i >>= (λ ms. put_method-same d ms k s meth i)
put_at-same d s meth (Vacant k) = refl
put_at-same d s meth Nowhere = refl

refill_unless-same : (old new : Value) (k : ℕ) (s : Value) (b : Bool) → refill_unless bounded_table old new k s b ≡ refill_unless table old new k s b
unfolding refill_unless
refill_unless-same old new k s true = refl
refill_unless-same old new k s false = λ i.
    fetch_field-as bounded_tabular old 1 i >>= (λ ms. fetch_field-as bounded_tabular ms k i >>= (λ meth. of_page-as bounded_tabular NilObject i >>= (λ nil. seek-same new nil s i >>= (λ end. put_at-same new s meth end i))))

refill_from-same : (old new : Value) (k : ℕ) → refill_from bounded_table old new k ≡ refill_from table old new k
unfolding refill_from
refill_from-same old new k = λ i. fetch_field-as bounded_tabular old (2 + k) i >>= (λ s. of_page-as bounded_tabular NilObject i >>= (λ nil. refill_unless-same old new k s (same_value s nil) i))

refill_among-same : (old new : Value) (k left : ℕ) → refill_among bounded_table old new k left ≡ refill_among table old new k left
unfolding refill_among
refill_among-same old new k zero = refl
refill_among-same old new k (suc left) = λ i. refill_from-same old new k i >> refill_among-same old new (suc k) left i

refill-same : (old new : Value) → refill bounded_table old new ≡ refill table old new
unfolding refill
refill-same old new = λ i. count_places-same old i >>= (λ places. refill_among-same old new 0 places i)

-- ALL OF IT

target-same : (nil : Value) (made : List Value) (old : Value) (grown : Option ℕ) → target bounded_table nil made old grown ≡ target table nil made old grown
unfolding target
target-same nil made old None = refl
target-same nil made old (Some k) = λ i. refill-same old (get_or made k nil) i >> answer (get_or made k nil)

place_of_selector-same : (d s : Value) → place_of_selector bounded_table d s ≡ place_of_selector table d s
unfolding place_of_selector
place_of_selector-same d s = seek-same d s s

find_place-same : (d s : Value) → find_place bounded_table d s ≡ find_place table d s
unfolding find_place
find_place-same d s = λ i.
    fetch_field-as bounded_tabular d 1 i >>= (λ ms. fetch_field-as bounded_tabular d 0 i >>= (λ tally. place_of_selector-same d s i >>= (λ end. answer (record { dictionary = d; methods = ms; tally = tally; end = end }))))

adopt-same : (class d : Value) (grown : Option ℕ) → adopt bounded_table class d grown ≡ adopt table class d grown
unfolding adopt
adopt-same class d None = refl
adopt-same class d (Some k) = store_field-as bounded_tabular class 1 d

add_at-same : (p : Placing) (s meth : Value) (end : Ending) → add_at bounded_table p s meth end ≡ add_at table p s meth end
unfolding add_at
add_at-same p s meth (Holds k) = store_field-as bounded_tabular p.methods k meth
add_at-same p s meth (Vacant k) = λ i. put_method-same p.dictionary p.methods k s meth i >> store_field-as bounded_tabular p.dictionary 0 (raised_tally p.tally) i
add_at-same p s meth Nowhere = refl

store_planned-same : (nil : Value) (made : List Value) (p : Plan) (placing : Placing) → store_planned bounded_table nil made p placing ≡ store_planned table nil made p placing
unfolding store_planned
store_planned-same nil made p placing = λ i.
    store_all-same nil made p.symbol_stores i >> (adopt-same p.class placing.dictionary p.grown i >> add_at-same placing (part_value nil made p.selector) (part_value nil made p.method) placing.end i)

pub fill_and_store-same : (nil : Value) (made : List Value) (p : Plan) → fill_and_store bounded_table nil made p ≡ fill_and_store table nil made p
unfolding fill_and_store
fill_and_store-same nil made p = λ i.
    fill_all-same nil made made p.objects i >> (target-same nil made p.dictionary p.grown i >>= (λ d. find_place-same d (part_value nil made p.selector) i >>= (λ placing. store_planned-same nil made p placing i)))
