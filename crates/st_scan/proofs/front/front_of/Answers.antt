use Rattle.std.proofs.Common.{◌≡◌, false, ◌&&◌, ◌==◌, get_or, drop, refl, sym, ◌∙◌}
use Rattle.std.proofs.lemmas.Bool.{eq-eqb, ne_eqb}
use Rattle.std.proofs.lemmas.List.{take_rest}
use Rattle.std.specs.Char.{is_ascii_digit}
use Rattle.st_scan.specs.Pieces.{begins}
use Rattle.st_scan.specs.Fronts.{front_of}
use Rattle.st_scan.proofs.Fronts.{first_behind, front_behind, no_sign, no_signs}
use Rattle.st_scan.proofs.front.front_of.Goals as goal
use Rattle.st_scan.proofs.front.front_of.Goals.{else-is_sign-via-then-is_sign+else-signs, else-is_sign-via-else-is_sign}

pub returns-then-is_blank : goal.returns-then-is_blank
unfolding front_of
returns-then-is_blank c =
    rw (front_behind c.args.signs c.args.text.now c.in-len1-up.len_at_least, sym c.is_blank.ensures ∙ c.if-is_blank.true)
    refl

pub returns-then-first-eq34 : goal.returns-then-first-eq34
unfolding front_of
returns-then-first-eq34 c =
    rw (front_behind c.args.signs c.args.text.now c.in-len1-up.len_at_least, sym c.is_blank.ensures ∙ c.if-is_blank.false, eq-eqb _ _ c.if-first-eq34.true)
    (rw take_rest at c.comment.ensures)

pub returns-then-is_ascii_alphabetic : goal.returns-then-is_ascii_alphabetic
unfolding front_of
returns-then-is_ascii_alphabetic c =
    rw (front_behind c.args.signs c.args.text.now c.in-len1-up.len_at_least, sym c.is_blank.ensures ∙ c.if-is_blank.false, ne_eqb _ _ c.if-first-eq34.false, sym c.is_ascii_alphabetic.ensures.value ∙ c.if-is_ascii_alphabetic.true, first_behind c.args.text.now c.in-len1-up.len_at_least)
    c.word.ensures

pub returns-then-is_ascii_digit : goal.returns-then-is_ascii_digit
unfolding front_of
returns-then-is_ascii_digit c =
    rw (front_behind c.args.signs c.args.text.now c.in-len1-up.len_at_least, sym c.is_blank.ensures ∙ c.if-is_blank.false, ne_eqb _ _ c.if-first-eq34.false, sym c.is_ascii_alphabetic.ensures.value ∙ c.if-is_ascii_alphabetic.false, sym c.is_ascii_digit.ensures.value ∙ c.if-is_ascii_digit.true, first_behind c.args.text.now c.in-len1-up.len_at_least)
    c.number.ensures

pub returns-then-signs : goal.returns-then-signs
unfolding front_of
returns-then-signs c =
    let sign = rw take_rest at c.is_sign.ensures in
    rw (front_behind c.args.signs c.args.text.now c.in-len1-up.len_at_least, sym c.is_blank.ensures ∙ c.if-is_blank.false, ne_eqb _ _ c.if-first-eq34.false, sym c.is_ascii_alphabetic.ensures.value ∙ c.if-is_ascii_alphabetic.false, sym c.is_ascii_digit.ensures.value ∙ c.if-is_ascii_digit.false, sym sign ∙ c.if-is_sign.true, c.if-signs.true)
    (rw take_rest at c.number-then-signs.ensures)

pub returns-then-is_mark : goal.returns-then-is_mark
unfolding front_of
returns-then-is_mark c =
    let sign = rw take_rest at c.is_sign.ensures in
    let none : ((get_or c.args.text.now 0 0 == 45 && begins is_ascii_digit (drop 1 c.args.text.now)) && c.args.signs) ≡ false = elim c.else-is_sign.branch [
      | else-is_sign-via-then-is_sign+else-signs w ↦ no_signs _ _ w.if-signs.false
      | else-is_sign-via-else-is_sign w ↦ no_sign _ _ (sym sign ∙ w.if-is_sign.false)
    ] in
    rw (front_behind c.args.signs c.args.text.now c.in-len1-up.len_at_least, sym c.is_blank.ensures ∙ c.if-is_blank.false, ne_eqb _ _ c.if-first-eq34.false, sym c.is_ascii_alphabetic.ensures.value ∙ c.if-is_ascii_alphabetic.false, sym c.is_ascii_digit.ensures.value ∙ c.if-is_ascii_digit.false, none, sym c.begins_operator.ensures ∙ c.if-begins_operator.false, sym c.is_mark.ensures ∙ c.if-is_mark.true)
    (rw take_rest at c.mark.ensures)

pub returns-then-first-eq36 : goal.returns-then-first-eq36
unfolding front_of
returns-then-first-eq36 c =
    let sign = rw take_rest at c.is_sign.ensures in
    let none : ((get_or c.args.text.now 0 0 == 45 && begins is_ascii_digit (drop 1 c.args.text.now)) && c.args.signs) ≡ false = elim c.else-is_sign.branch [
      | else-is_sign-via-then-is_sign+else-signs w ↦ no_signs _ _ w.if-signs.false
      | else-is_sign-via-else-is_sign w ↦ no_sign _ _ (sym sign ∙ w.if-is_sign.false)
    ] in
    rw (front_behind c.args.signs c.args.text.now c.in-len1-up.len_at_least, sym c.is_blank.ensures ∙ c.if-is_blank.false, ne_eqb _ _ c.if-first-eq34.false, sym c.is_ascii_alphabetic.ensures.value ∙ c.if-is_ascii_alphabetic.false, sym c.is_ascii_digit.ensures.value ∙ c.if-is_ascii_digit.false, none, sym c.begins_operator.ensures ∙ c.if-begins_operator.false, sym c.is_mark.ensures ∙ c.if-is_mark.false, eq-eqb _ _ c.if-first-eq36.true)
    (rw take_rest at c.character.ensures)

pub returns-then-first-eq39 : goal.returns-then-first-eq39
unfolding front_of
returns-then-first-eq39 c =
    let sign = rw take_rest at c.is_sign.ensures in
    let none : ((get_or c.args.text.now 0 0 == 45 && begins is_ascii_digit (drop 1 c.args.text.now)) && c.args.signs) ≡ false = elim c.else-is_sign.branch [
      | else-is_sign-via-then-is_sign+else-signs w ↦ no_signs _ _ w.if-signs.false
      | else-is_sign-via-else-is_sign w ↦ no_sign _ _ (sym sign ∙ w.if-is_sign.false)
    ] in
    rw (front_behind c.args.signs c.args.text.now c.in-len1-up.len_at_least, sym c.is_blank.ensures ∙ c.if-is_blank.false, ne_eqb _ _ c.if-first-eq34.false, sym c.is_ascii_alphabetic.ensures.value ∙ c.if-is_ascii_alphabetic.false, sym c.is_ascii_digit.ensures.value ∙ c.if-is_ascii_digit.false, none, sym c.begins_operator.ensures ∙ c.if-begins_operator.false, sym c.is_mark.ensures ∙ c.if-is_mark.false, ne_eqb _ _ c.if-first-eq36.false, eq-eqb _ _ c.if-first-eq39.true)
    (rw take_rest at c.string.ensures)

pub returns-then-first-eq35 : goal.returns-then-first-eq35
unfolding front_of
returns-then-first-eq35 c =
    let sign = rw take_rest at c.is_sign.ensures in
    let none : ((get_or c.args.text.now 0 0 == 45 && begins is_ascii_digit (drop 1 c.args.text.now)) && c.args.signs) ≡ false = elim c.else-is_sign.branch [
      | else-is_sign-via-then-is_sign+else-signs w ↦ no_signs _ _ w.if-signs.false
      | else-is_sign-via-else-is_sign w ↦ no_sign _ _ (sym sign ∙ w.if-is_sign.false)
    ] in
    rw (front_behind c.args.signs c.args.text.now c.in-len1-up.len_at_least, sym c.is_blank.ensures ∙ c.if-is_blank.false, ne_eqb _ _ c.if-first-eq34.false, sym c.is_ascii_alphabetic.ensures.value ∙ c.if-is_ascii_alphabetic.false, sym c.is_ascii_digit.ensures.value ∙ c.if-is_ascii_digit.false, none, sym c.begins_operator.ensures ∙ c.if-begins_operator.false, sym c.is_mark.ensures ∙ c.if-is_mark.false, ne_eqb _ _ c.if-first-eq36.false, ne_eqb _ _ c.if-first-eq39.false, eq-eqb _ _ c.if-first-eq35.true)
    (rw take_rest at c.hash.ensures)

pub returns-else-first-eq35 : goal.returns-else-first-eq35
unfolding front_of
returns-else-first-eq35 c =
    let sign = rw take_rest at c.is_sign.ensures in
    let none : ((get_or c.args.text.now 0 0 == 45 && begins is_ascii_digit (drop 1 c.args.text.now)) && c.args.signs) ≡ false = elim c.else-is_sign.branch [
      | else-is_sign-via-then-is_sign+else-signs w ↦ no_signs _ _ w.if-signs.false
      | else-is_sign-via-else-is_sign w ↦ no_sign _ _ (sym sign ∙ w.if-is_sign.false)
    ] in
    rw (front_behind c.args.signs c.args.text.now c.in-len1-up.len_at_least, sym c.is_blank.ensures ∙ c.if-is_blank.false, ne_eqb _ _ c.if-first-eq34.false, sym c.is_ascii_alphabetic.ensures.value ∙ c.if-is_ascii_alphabetic.false, sym c.is_ascii_digit.ensures.value ∙ c.if-is_ascii_digit.false, none, sym c.begins_operator.ensures ∙ c.if-begins_operator.false, sym c.is_mark.ensures ∙ c.if-is_mark.false, ne_eqb _ _ c.if-first-eq36.false, ne_eqb _ _ c.if-first-eq39.false, ne_eqb _ _ c.if-first-eq35.false)
    refl
