use Rattle.std.proofs.Common.{◌≡◌, ℕ, ◌-◌, List, ◌∷◌, ◌++◌, length, take, drop, sym, ap, ◌∙◌, subst}
use Rattle.st_chunk.specs.Groups.{header_text}
use Rattle.st_chunk.specs.Definitions.{header_for, method_part}
use Rattle.st_changes.specs.Entries.{header_of, IsMethod, FindsHead, FindsMethod, IsFoundHead}
use Rattle.st_changes.proofs.Fronts.{tail_is}
use Rattle.st_changes.proofs.EntryTexts.{head_same, head_run, entry_head, entry_method}
use Rattle.st_changes.proofs.entry.find_entry.Goals as goal

pub returns-in_default : goal.returns-in_default
returns-in_default c d behind begins =
    let text = c.args.text.now in
    subst (FindsHead text) c.in_default.is c.in_ok-head.ensures (header_for d) (method_part d ++ behind) (entry_head d text behind begins)

pub returns-in_default-2 : goal.returns-in_default-2
returns-in_default-2 c d behind begins =
    let text = c.args.text.now in
    let head = c.in-Some.head in
    let found : IsFoundHead text head = subst (FindsHead text) c.in-Some.is c.in_ok-head.ensures in
    let run = head_run text (header_of head.header) (drop head.length text) found.is in
    let same = head_same text (header_for d) (method_part d ++ behind) (header_text (header_of head.header)) (10 ∷ drop head.length text) (entry_head d text behind begins) run in
    let tail : take (length text - head.length) (drop head.length text) ≡ method_part d ++ behind = tail_is text head.length ∙ ap (drop 1) same.1 in
    subst (FindsMethod (take (length text - head.length) (drop head.length text))) c.in_default-2.is c.in_ok-method.ensures d.text behind
    (subst (λ (x : List ℕ). IsMethod x d.text behind) (sym tail) (entry_method d behind begins.good))
