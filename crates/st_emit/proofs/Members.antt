-- Literal arrays that are made of their members.
use Rattle.std.proofs.Common.{◌≡◌, List, [], ◌∷◌, refl, ap, ◌∙◌, map}
use Rattle.std.specs.Global.{Vec}
use mathlib.Core.Former.{Count}
use Rattle.st_scan.specs.declared.tree.Element.{Element}
use Rattle.st_scan.specs.Views.{content_view, elements_view}
use Rattle.st_emit.specs.declared.literal.Literal.{Literal, Row_of-Literal, end_of-Literal, more_of-Literal, items-the_row-Literal, items_hidden-the_row-Literal-0}
use Rattle.st_emit.specs.declared.literal.Literal.TheVariants.{Array, Array'}
use Rattle.st_emit.specs.Literals.{LiteralView, LiteralsView, no_literals, literal, array, literal_of, members_of}
use Rattle.st_emit.specs.inside.Views.{literal_view, literals_view, members_in, members_view}

-- the members of a row are those of the list
members_row : (n : Count) (row : Row_of-Literal n) → members_in row ≡ members_view (items-the_row-Literal n row)
members_row n end_of-Literal = refl
members_row n (more_of-Literal l rest) = ap (literal (literal_view l)) (members_row _ rest)

abbrev row_of : Literal → (n : Count) × Row_of-Literal n
row_of (Array' _ row) = (_, row)
row_of _ = (_, end_of-Literal)

pub array_view : (ls : Vec Literal) → literal_view (Array ls) ≡ array (members_view ls.items)
array_view ls =
    let row = row_of (Array ls) in
    ap array (members_row row.0 row.1 ∙ ap members_view (items_hidden-the_row-Literal-0 ls))

-- literals one behind the other
abbrev gathered : List LiteralView → LiteralsView
gathered [] = no_literals
gathered (l ∷ ls) = literal l (gathered ls)

members_gathered : (ls : List Literal) → members_view ls ≡ gathered (literals_view ls)
members_gathered [] = refl
members_gathered (l ∷ ls) = ap (literal (literal_view l)) (members_gathered ls)

elements_gathered : (es : List Element) → gathered (map (λ e. literal_of (content_view e.what)) es) ≡ members_of (elements_view es)
elements_gathered [] = refl
elements_gathered (e ∷ es) = ap (literal (literal_of (content_view e.what))) (elements_gathered es)

-- the literal of each element
pub members_same : (ls : List Literal) (es : List Element) → literals_view ls ≡ map (λ e. literal_of (content_view e.what)) es → members_view ls ≡ members_of (elements_view es)
members_same ls es h = members_gathered ls ∙ ap gathered h ∙ elements_gathered es
