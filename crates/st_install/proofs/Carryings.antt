-- An installation that is ready is carried out.
use Rattle.std.proofs.Common.{◌≡◌, ◌≤◌, List, [], ◌∷◌, length, true, Ok, refl, sym, subst}
use Rattle.std.specs.List.{AllByRecursion}
use Rattle.st_model.specs.declared.oop.Oop.{Oop}
use Rattle.st_model.specs.declared.page.PageObject.TheVariants.{NilObject}
use Rattle.st_model.specs.Values.{Value, value}
use Rattle.st_model.specs.Objects.{nil}
use Rattle.st_model.specs.Machine.{Step, ◌>>=◌}
use Rattle.st_model.specs.Steps.{of_page}
use Rattle.st_model.specs.Table.{Table, table, bounded_table}
use Rattle.st_model.specs.inside.Calls.{Reads, itself}
use Rattle.st_model.specs.View.{View, IsWhole, fits}
use Rattle.st_install.specs.declared.plan.NewObject.{NewObject as CodeObject}
use Rattle.st_install.specs.declared.plan.Ready.{Ready}
use Rattle.st_install.specs.declared.storing.Placing.{Placing as CodePlacing}
use Rattle.st_install.specs.Plans.{NewObject, Plan, words_of_new, words_of_all, demand_of_all}
use Rattle.st_install.specs.inside.Goes.{IsReadyFor, IsOfKind}
use Rattle.st_install.specs.inside.Carried.{HasGone, Goes, Becomes, IsPlannable}
use Rattle.st_install.specs.Installing.{part_value, make_all, fill_all, target, Placing, find_place, store_planned, fill_and_store, install}
use Rattle.st_install.specs.inside.Placings.{placing_of}
use Rattle.st_scope.specs.inside.Meanings.{values}
use Rattle.st_install.specs.inside.Readies.{part_of, objects_of, plan_of}
use Rattle.st_install.proofs.Going.{goes-first, goes-after, goes-read, goes-then, becomes-after, becomes-read, becomes-then}
use Rattle.st_install.proofs.Unbounded.{fill_and_store-same}
use Rattle.st_install.proofs.GoesLaw.{ready_installs, ready_objects, plan_room}
use Rattle.st_install.proofs.Makings.{fits_if}

-- FILLED AND STORED

module _ (vs : List Value) (p : Plan) (v : View) (h : Goes (fill_and_store table nil vs p) v) where
  abbrev filled : Step Table Unit
  filled = fill_all table nil vs vs p.objects

  abbrev dictionary_found : Step Table Value
  dictionary_found = target table nil vs p.dictionary p.grown

  abbrev place_found : Value → Step Table Placing
  place_found d = find_place table d (part_value nil vs p.selector)

  abbrev stored : Placing → Step Table Unit
  stored placing = store_planned table nil vs p placing

  abbrev dictionary_then : Value → Step Table Unit
  dictionary_then d = place_found d >>= stored

  abbrev filled_then : Step Table Unit
  filled_then = dictionary_found >>= dictionary_then

  begun : Goes (filled >>= (λ a. filled_then)) v
  unfolding fill_and_store
  begun = goes-then filled filled_then v h

  pub fill_goes : Goes (fill_all table nil vs vs p.objects) v
  fill_goes = goes-first filled (λ a. filled_then) v begun

  module _ (w : View) (b : Becomes (fill_all table nil vs vs p.objects) v tt w) where
    after_fill : Goes filled_then w
    after_fill = goes-after filled (λ a. filled_then) v begun tt w b

    pub target_goes : Goes (target table nil vs p.dictionary p.grown) w
    target_goes = goes-first dictionary_found dictionary_then w after_fill

    module _ (d : Value) (u : View) (c : Becomes (target table nil vs p.dictionary p.grown) w d u) where
      after_target : Goes (dictionary_then d) u
      after_target = goes-after dictionary_found dictionary_then w after_fill d u c

      pub place_goes : Goes (find_place table d (part_value nil vs p.selector)) u
      place_goes = goes-first (place_found d) stored u after_target

      module _ (k : CodePlacing) (e : Reads (find_place table d (part_value nil vs p.selector)) placing_of u.objects (Ok k)) where
        pub stores_go : Goes (store_planned table nil vs p (placing_of k)) u
        stores_go = goes-read (place_found d) stored u after_target placing_of k e

        pub all_done : (x : View) → Becomes (store_planned table nil vs p (placing_of k)) u tt x → Becomes (fill_and_store table nil vs p) v tt x
        unfolding fill_and_store
        all_done x f =
            becomes-then filled filled_then v tt x
            (becomes-after filled (λ a. filled_then) v tt x tt w b
            (becomes-after dictionary_found dictionary_then w tt x d u c
            (becomes-read (place_found d) stored u tt x placing_of k e f)))

-- the same of the code's plan, whose objects and selector are read first
module _ (vs : List Value) (r : Ready) (v : View) (h : Goes (fill_and_store table nil vs (plan_of r)) v) (os : List CodeObject) (o : os ≡ r.objects.items) (w : View) (b : Becomes (fill_all table nil vs vs (objects_of os)) v tt w) where
  all_filled : Becomes (fill_all table nil vs vs (objects_of r.objects.items)) v tt w
  all_filled = subst (λ (ns : List CodeObject). Becomes (fill_all table nil vs vs (objects_of ns)) v tt w) o b

  pub dictionary_goes : Goes (target table nil vs (value r.dictionary) r.grown) w
  dictionary_goes = target_goes vs (plan_of r) v h w all_filled

  module _ (d : Value) (u : View) (c : Becomes (target table nil vs (value r.dictionary) r.grown) w d u) (s : Value) (q : s ≡ part_value nil vs (part_of r.selector)) where
    pub selector_goes : Goes (find_place table d s) u
    selector_goes = subst (λ (x : Value). Goes (find_place table d x) u) (sym q) (place_goes vs (plan_of r) v h w all_filled d u c)

    module _ (k : CodePlacing) (e : Reads (find_place table d s) placing_of u.objects (Ok k)) where
      selector_placed : Reads (find_place table d (part_value nil vs (part_of r.selector))) placing_of u.objects (Ok k)
      selector_placed = subst (λ (x : Value). Reads (find_place table d x) placing_of u.objects (Ok k)) q e

      pub planned_go : Goes (store_planned table nil vs (plan_of r) (placing_of k)) u
      planned_go = stores_go vs (plan_of r) v h w all_filled d u c k selector_placed

      pub planned_done : (x : View) → Becomes (store_planned table nil vs (plan_of r) (placing_of k)) u tt x → Becomes (fill_and_store table nil vs (plan_of r)) v tt x
      planned_done = all_done vs (plan_of r) v h w all_filled d u c k selector_placed

-- MADE FIRST

page_read : (t : Table) → Reads (of_page bounded_table NilObject) itself t (Ok nil)
unfolding of_page
page_read t s e = refl

module _ (p : Plan) (v : View) (h : Goes (install bounded_table p) v) where
  abbrev made_then : List Value → Step Table Unit
  made_then vs = fill_and_store bounded_table nil vs p

  abbrev nil_then : Value → Step Table Unit
  nil_then x = make_all bounded_table p.objects >>= (λ vs. fill_and_store bounded_table x vs p)

  opened : Goes (of_page bounded_table NilObject >>= nil_then) v
  unfolding install
  opened = h

  after_nil : Goes (make_all bounded_table p.objects >>= made_then) v
  after_nil = goes-read (of_page bounded_table NilObject) nil_then v opened itself nil (page_read v.objects)

  pub make_goes : Goes (make_all bounded_table p.objects) v
  make_goes = goes-first (make_all bounded_table p.objects) made_then v after_nil

  module _ (vs : List Value) (w : View) (b : Becomes (make_all bounded_table p.objects) v vs w) where
    pub rest_goes : Goes (fill_and_store table nil vs p) w
    rest_goes = subst (λ (m : Step Table Unit). Goes m w) (fill_and_store-same nil vs p) (goes-after (make_all bounded_table p.objects) made_then v after_nil vs w b)

    pub installed : (u : View) → Becomes (fill_and_store table nil vs p) w tt u → Becomes (install bounded_table p) v tt u
    unfolding install
    installed u c =
        becomes-read (of_page bounded_table NilObject) nil_then v tt u itself nil (page_read v.objects)
        (becomes-after (make_all bounded_table p.objects) made_then v tt u vs w b (subst (λ (m : Step Table Unit). Becomes m w tt u) (sym (fill_and_store-same nil vs p)) c))

-- READY

pub ready_goes : (p : Plan) (v : View) → IsWhole v → IsReadyFor v p → Goes (install bounded_table p) v
ready_goes p v whole h = record { gone = λ s e a. subst HasGone (sym ((ready_installs v p whole h).goes s e a)) tt }

plannable : (os : List NewObject) → AllByRecursion IsOfKind os → AllByRecursion (λ o. words_of_new o ≤ 65535) os → AllByRecursion IsPlannable os
plannable [] h b = tt
plannable (o ∷ os) h b = (record { of_kind = h.0; body = b.0 }, plannable os h.1 b.1)

pub ready_plannable : (p : Plan) (v : View) → IsWhole v → IsReadyFor v p → AllByRecursion (λ o. words_of_new o ≤ 65535) p.objects → AllByRecursion IsPlannable p.objects
ready_plannable p v whole h b = plannable p.objects (ready_objects v p whole h) b

pub ready_room : (p : Plan) (v : View) → IsWhole v → IsReadyFor v p → fits v (demand_of_all p.objects) ≡ true
ready_room p v whole h = let r = plan_room v p whole h in fits_if v (length p.objects) (words_of_all p.objects) r.entries r.words

-- the same of the code's plan, whose objects are read first, and whose pointers are written
module _ (r : Ready) (v : View) (whole : IsWhole v) (h : IsReadyFor v (plan_of r)) (os : List CodeObject) (o : os ≡ r.objects.items) (made : List Oop) (w : View) (b : Becomes (make_all bounded_table (objects_of os)) v (values made) w)
    (written : List Oop) (q : written ≡ made) where
  all_made : Becomes (make_all bounded_table (objects_of r.objects.items)) v (values made) w
  all_made = subst (λ (ns : List CodeObject). Becomes (make_all bounded_table (objects_of ns)) v (values made) w) o b

  pub made_rest_goes : Goes (fill_and_store table nil (values written) (plan_of r)) w
  made_rest_goes = subst (λ (xs : List Oop). Goes (fill_and_store table nil (values xs) (plan_of r)) w) (sym q) (rest_goes (plan_of r) v (ready_goes (plan_of r) v whole h) (values made) w all_made)

  pub made_installed : (u : View) → Becomes (fill_and_store table nil (values written) (plan_of r)) w tt u → Becomes (install bounded_table (plan_of r)) v tt u
  made_installed u c = installed (plan_of r) v (ready_goes (plan_of r) v whole h) (values made) w all_made u (subst (λ (xs : List Oop). Becomes (fill_and_store table nil (values xs) (plan_of r)) w tt u) q c)
