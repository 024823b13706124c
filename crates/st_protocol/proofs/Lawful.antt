-- Courses that acknowledge each commit, one after the other.
use Rattle.std.proofs.Common.{ℕ, ◌+◌, List, [], ◌∷◌, ◌++◌, ap, ◌∙◌}
use Rattle.st_protocol.specs.Acknowledged.{acknowledged_from, rest_from, IsLines, AcknowledgesEach}
use Rattle.st_protocol.specs.Courses.{Deed, Reply, Keep, Course, Goes, Ends, deeds_of, preceded, and_then}
use Rattle.st_protocol.proofs.Counting.{acknowledged_both, rest_both}

pub lines_both : (m n : ℕ) (a b : List ℕ) → IsLines m a → IsLines n b → IsLines (m + n) (a ++ b)
lines_both m n a b h k = record {
  whole = rest_both [] a b ∙ (ap (λ l. rest_from l b) h.whole ∙ k.whole);
  count = acknowledged_both [] a b ∙ ((λ i. h.count i + acknowledged_from (h.whole i) b) ∙ ap (λ x. m + x) k.count);
}

module _ {C : Type 0} where
  pub law_both : (a b : List (Deed C)) → AcknowledgesEach a → AcknowledgesEach b → AcknowledgesEach (a ++ b)
  law_both [] b h k = k
  law_both (Reply text ∷ a) b h k = (h.0, law_both a b h.1 k)
  law_both (Keep c ∷ []) b h k = absurd h
  law_both (Keep c ∷ Keep d ∷ a) b h k = absurd h
  law_both (Keep c ∷ Reply text ∷ a) b h k = (h.0, law_both a b h.1 k)

  -- what a course does acknowledges each commit, and where it leads P holds
  abbrev pub IsLawful : {X : Type 0} → (X → Type 0) → Course C X → Type 0
  IsLawful P (Goes ds x) = AcknowledgesEach ds × P x
  IsLawful P (Ends ds e) = AcknowledgesEach ds

  pub lawful_preceded : {X : Type 0} (P : X → Type 0) (ds : List (Deed C)) (c : Course C X) → AcknowledgesEach ds → IsLawful P c → IsLawful P (preceded ds c)
  lawful_preceded P ds (Goes es x) h k = (law_both ds es h k.0, k.1)
  lawful_preceded P ds (Ends es e) h k = law_both ds es h k

  pub lawful_then : {X Y : Type 0} (P : X → Type 0) (Q : Y → Type 0) (c : Course C X) (f : X → Course C Y) → IsLawful P c → ((x : X) → P x → IsLawful Q (f x)) → IsLawful Q (and_then c f)
  lawful_then P Q (Goes ds x) f h k = lawful_preceded Q ds (f x) h.0 (k x h.1)
  lawful_then P Q (Ends ds e) f h k = h

  pub law_of : {X : Type 0} (P : X → Type 0) (c : Course C X) → IsLawful P c → AcknowledgesEach (deeds_of c)
  law_of P (Goes ds x) h = h.0
  law_of P (Ends ds e) h = h
