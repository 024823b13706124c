-- Patterns with one more name: the name is read as one more of a list is.
use Rattle.std.proofs.Common.{◌≡◌, ℕ, List, [], ◌∷◌, ◌++◌, Ok, Err, refl}
use Rattle.st_scan.specs.Views.{NameView}
use Rattle.st_grammar.specs.declared.leaf.Leaf.{Leaf}
use Rattle.st_grammar.specs.Leaves.{keywords, operators}
use Rattle.st_grammar.specs.Phrases.{names}
use Rattle.st_grammar.specs.Trees.{bytes, name_at}
use Rattle.st_grammar.specs.Reading.{Read, PatternView, ◌>>=◌, token_at, name_step, pattern_step, binary_pattern_at}

-- a selector with these bytes more, and these names
abbrev pub with_names : List ℕ → List ℕ → List NameView × List Leaf → Read PatternView
with_names selector more ns = Ok (record { selector = selector ++ more; arguments = ns.0 }, ns.1)

-- these names with that of a leaf
abbrev with_name : List ℕ → List NameView → Leaf × List Leaf → List NameView × List Leaf
with_name text ns n = (ns ++ name_at text n.0 ∷ [], n.1)

behind_name : (text selector more : List ℕ) (ns : List NameView) (m : Read Leaf)
    → (m >>= λ n. with_names selector more (with_name text ns n)) ≡ ((m >>= λ n. Ok (with_name text ns n)) >>= λ l. with_names selector more l)
behind_name text selector more ns (Ok n) = refl
behind_name text selector more ns (Err e) = refl

behind_keyword : (text selector : List ℕ) (ns : List NameView) (m : Read Leaf)
    → (m >>= λ k. token_at names k.1 >>= λ n. with_names selector (bytes text k.0) (with_name text ns n))
    ≡ (m >>= λ k. (token_at names k.1 >>= λ n. Ok (with_name text ns n)) >>= λ l. with_names selector (bytes text k.0) l)
behind_keyword text selector ns (Ok k) = behind_name text selector (bytes text k.0) ns (token_at names k.1)
behind_keyword text selector ns (Err e) = refl

pub pattern_by_names : (text : List ℕ) (p : PatternView) (ts : List Leaf)
    → pattern_step text p ts ≡ (token_at keywords ts >>= λ k. name_step text p.arguments k.1 >>= λ l. with_names p.selector (bytes text k.0) l)
unfolding pattern_step name_step
pattern_by_names text p ts = behind_keyword text p.selector p.arguments (token_at keywords ts)

pub binary_by_names : (text : List ℕ) (ts : List Leaf)
    → binary_pattern_at text ts ≡ (token_at operators ts >>= λ k. name_step text [] k.1 >>= λ l. with_names [] (bytes text k.0) l)
unfolding binary_pattern_at name_step
binary_by_names text ts = behind_keyword text [] [] (token_at operators ts)
