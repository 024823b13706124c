-- The values of all items but the last one.
use Rattle.std.proofs.Common.{◌≡◌, ◌-◌, List, map, length, take, sym, ap, ◌∙◌}
use Rattle.std.proofs.lemmas.List.{length-map, take-map}

pub map_shorter : {X Y : Type 0} (f : X → Y) (xs : List X) → map f (take (length xs - 1) xs) ≡ take (length (map f xs) - 1) (map f xs)
map_shorter f xs = sym (take-map f (length xs - 1) xs) ∙ ap (λ n. take (n - 1) (map f xs)) (sym (length-map xs f))
