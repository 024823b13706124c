-- Deeds that follow each other.
use Rattle.std.proofs.Common.{◌≡◌, List, [], ◌∷◌, ◌++◌, refl, sym, ap, ◌∙◌, append_assoc, append-nil}
use Rattle.st_protocol.specs.Courses.{Deed, Reply, Keep, Course, Goes, Ends, deeds_of, said_of, commits_of, last_of, preceded, and_then}

module _ {C : Type 0} where
  pub said_of_both : (a b : List (Deed C)) → said_of (a ++ b) ≡ said_of a ++ said_of b
  said_of_both [] b = refl
  said_of_both (Reply text ∷ a) b = ap (λ t. text ++ t) (said_of_both a b) ∙ sym (append_assoc text (said_of a) (said_of b))
  said_of_both (Keep c ∷ a) b = said_of_both a b

  pub last_of_both : (c : C) (a b : List (Deed C)) → last_of c (a ++ b) ≡ last_of (last_of c a) b
  last_of_both c [] b = refl
  last_of_both c (Reply text ∷ a) b = last_of_both c a b
  last_of_both c (Keep d ∷ a) b = last_of_both d a b

  pub commits_of_both : (a b : List (Deed C)) → commits_of (a ++ b) ≡ commits_of a ++ commits_of b
  commits_of_both [] b = refl
  commits_of_both (Reply text ∷ a) b = commits_of_both a b
  commits_of_both (Keep c ∷ a) b = ap (λ l. c ∷ l) (commits_of_both a b)

  -- where no commit is made, the same one stands
  pub last_unkept : (c : C) (ds : List (Deed C)) → commits_of ds ≡ [] → last_of c ds ≡ c
  last_unkept c [] none = refl
  last_unkept c (Reply text ∷ ds) none = last_unkept c ds none
  last_unkept c (Keep d ∷ ds) none = cc

  pub preceded_none : {X : Type 0} (c : Course C X) → preceded [] c ≡ c
  preceded_none (Goes ds x) = refl
  preceded_none (Ends ds e) = refl

  pub preceded_both : {X : Type 0} (a b : List (Deed C)) (c : Course C X) → preceded (a ++ b) c ≡ preceded a (preceded b c)
  preceded_both a b (Goes ds x) = ap (λ l. Goes l x) (append_assoc a b ds)
  preceded_both a b (Ends ds e) = ap (λ l. Ends l e) (append_assoc a b ds)

  pub preceded_then : {X Y : Type 0} (ds : List (Deed C)) (c : Course C X) (f : X → Course C Y) → and_then (preceded ds c) f ≡ preceded ds (and_then c f)
  preceded_then ds (Goes es x) f = preceded_both ds es (f x)
  preceded_then ds (Ends es e) f = refl

  -- what follows what follows
  pub then_then : {X Y Z : Type 0} (c : Course C X) (f : X → Course C Y) (g : Y → Course C Z) → and_then (and_then c f) g ≡ and_then c (λ x. and_then (f x) g)
  then_then (Goes ds x) f g = preceded_then ds (f x) g
  then_then (Ends ds e) f g = refl

  -- a course that nothing follows
  pub then_goes : {X : Type 0} (c : Course C X) → and_then c (λ x. Goes [] x) ≡ c
  then_goes (Goes ds x) = ap (λ l. Goes l x) (append-nil ds)
  then_goes (Ends ds e) = refl

  pub deeds_preceded : {X : Type 0} (ds : List (Deed C)) (c : Course C X) → deeds_of (preceded ds c) ≡ ds ++ deeds_of c
  deeds_preceded ds (Goes es x) = refl
  deeds_preceded ds (Ends es e) = refl
