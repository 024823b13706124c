-- The search for a method over births does the same over pointers.
use Rattle.std.proofs.Common.{◌≡◌, ℕ, zero, suc, Option, Some, None, Bool, true, false, refl, inr}
use Rattle.st_model.specs.Values.{Value, Small, Ref, renamed}
use Rattle.st_model.specs.Objects.{Object}
use Rattle.st_model.specs.Machine.{ObjectMemory, Step}
use Rattle.st_model.specs.Lookup.{pointer_if, half_word, checked_method, method_at, place_says, look_at_place, look_at_places, search_from, search_dictionary, or_above, method_in_class, look_in_class, unless_nil, end_at_nil, find_within, find}
use Rattle.st_simulation.proofs.Same.{OptionSame, Simulation, ValueSame, OptionalSame, SameOption, SameAnswer, steps_same}
use Rattle.st_simulation.proofs.StepsSame.{parts_same}
use Rattle.st_simulation.proofs.ContextsSame.{headers_same}

module _ {H K : Type 0} {M : ObjectMemory H} {N : ObjectMemory K} (sim : Simulation M N) where
  pointer_if-same : (h : H) (k : K) (n : ℕ) (a b : Option Object) → sim.heaps h k → sim.live n → M.read h n ≡ a → OptionSame sim.live sim.name a b
      → pointer_if N k (sim.name n) b ≡ pointer_if M h n a
  pointer_if-same h k n None b s l e o = rw o refl
  pointer_if-same h k n (Some a) b s l e o = rw o.1 (sim.pointer h k n a s l e)

  pub half_word-same : (v w : Value) → ValueSame sim v w → SameAnswer sim (half_word M v) (half_word N w)
  unfolding half_word
  half_word-same (Small n) w l = rw l.is (search steps_same)
  half_word-same (Ref n) w l = rw l.is (record {
    go = λ s t st. inr (tt, pointer_if-same s.memory t.memory n (M.read s.memory n) (N.read t.memory (sim.name n)) st.memory l.live refl (sim.read s.memory t.memory n st.memory l.live), st);
    stay = λ s o. (tt, o);
  })

  checked_method-same : (v w : Value) → ValueSame sim v w → SameOption sim (checked_method M v) (checked_method N w)
  unfolding checked_method
  checked_method-same v w l = search headers_same depth 16 fits 4000

  method_at-same : (d e : Value) (k : ℕ) → ValueSame sim d e → SameOption sim (method_at M d k) (method_at N e k)
  unfolding method_at
  method_at-same d e k l = search (headers_same, checked_method-same) depth 16 fits 4000

  place_says-same : (d e : Value) (k : ℕ) (a b a' b' : Bool) (o : Step H (Option Value)) (p : Step K (Option Value)) → ValueSame sim d e → a' ≡ a → b' ≡ b
      → SameOption sim o p → SameOption sim (place_says M d k a b o) (place_says N e k a' b' p)
  unfolding place_says
  place_says-same d e k true b a' b' o p l q r s = rw q (method_at-same d e k l)
  place_says-same d e k false true a' b' o p l q r s = rw (q, r) (search steps_same)
  place_says-same d e k false false a' b' o p l q r s = rw (q, r) s

  look_at_place-same : (d e x y : Value) (k : ℕ) (o : Step H (Option Value)) (p : Step K (Option Value)) → ValueSame sim d e → ValueSame sim x y
      → SameOption sim o p → SameOption sim (look_at_place M d x k o) (look_at_place N e y k p)
  unfolding look_at_place
  look_at_place-same d e x y k o p l h s = search (parts_same, place_says-same) depth 16 fits 4000

  look_at_places-same : (d e x y : Value) (k left : ℕ) (o : Step H (Option Value)) (p : Step K (Option Value)) → ValueSame sim d e → ValueSame sim x y
      → SameOption sim o p → SameOption sim (look_at_places M d x k left o) (look_at_places N e y k left p)
  unfolding look_at_places
  look_at_places-same d e x y k zero o p l h s = s
  look_at_places-same d e x y k (suc left) o p l h s = look_at_place-same d e x y k _ _ l h (look_at_places-same d e x y (suc k) left o p l h s)

  search_from-same : (d e x y : Value) (places start : ℕ) → ValueSame sim d e → ValueSame sim x y → SameOption sim (search_from M d x places start) (search_from N e y places start)
  unfolding search_from
  search_from-same d e x y places start l h = search (steps_same, look_at_places-same)

  search_dictionary-same : (d e x y : Value) (places : ℕ) → ValueSame sim d e → ValueSame sim x y → SameOption sim (search_dictionary M d x places) (search_dictionary N e y places)
  unfolding search_dictionary
  search_dictionary-same d e x y places l h = search (parts_same, half_word-same, search_from-same) depth 16 fits 4000

  or_above-same : (c d : Value) (a b : Option Value) (f : Value → Step H (Option Value)) (g : Value → Step K (Option Value)) → ValueSame sim c d → OptionalSame sim a b
      → ((v w : Value) → ValueSame sim v w → SameOption sim (f v) (g w)) → SameOption sim (or_above M c a f) (or_above N d b g)
  unfolding or_above
  or_above-same c d None b f g l h s = rw h.is (search parts_same depth 16 fits 4000)
  or_above-same c d (Some v) b f g l h s = let k : ValueSame sim v (renamed sim.name v) = record { live = h.live; is = refl } in rw h.is (search parts_same depth 16 fits 4000)

  method_in_class-same : (c d x y : Value) → ValueSame sim c d → ValueSame sim x y → SameOption sim (method_in_class M c x) (method_in_class N d y)
  unfolding method_in_class
  method_in_class-same c d x y l h = search (parts_same, search_dictionary-same) depth 20 fits 4000

  look_in_class-same : (c d x y : Value) (f : Value → Step H (Option Value)) (g : Value → Step K (Option Value)) → ValueSame sim c d → ValueSame sim x y
      → ((v w : Value) → ValueSame sim v w → SameOption sim (f v) (g w)) → SameOption sim (look_in_class M c x f) (look_in_class N d y g)
  unfolding look_in_class
  look_in_class-same c d x y f g l h s = search (parts_same, method_in_class-same, or_above-same) depth 20 fits 4000

  unless_nil-same : (a b : Bool) (o : Step H (Option Value)) (p : Step K (Option Value)) → b ≡ a → SameOption sim o p → SameOption sim (unless_nil a o) (unless_nil b p)
  unfolding unless_nil
  unless_nil-same true b o p e s = rw e (search steps_same)
  unless_nil-same false b o p e s = rw e s

  end_at_nil-same : (c d : Value) (o : Step H (Option Value)) (p : Step K (Option Value)) → ValueSame sim c d → SameOption sim o p → SameOption sim (end_at_nil M c o) (end_at_nil N d p)
  unfolding end_at_nil
  end_at_nil-same c d o p l s = search (parts_same, unless_nil-same) depth 16 fits 4000

  find_within-same : (x y : Value) (left : ℕ) (c d : Value) → ValueSame sim x y → ValueSame sim c d → SameOption sim (find_within M x left c) (find_within N y left d)
  unfolding find_within
  find_within-same x y zero c d h l = end_at_nil-same c d _ _ l (search steps_same)
  find_within-same x y (suc left) c d h l = end_at_nil-same c d _ _ l (look_in_class-same c d x y _ _ l h (λ v w k. find_within-same x y left v w h k))

  pub find-same : (c d x y : Value) → ValueSame sim c d → ValueSame sim x y → SameOption sim (find M c x) (find N d y)
  unfolding find
  find-same c d x y l h = find_within-same x y 32767 c d h l
