use Rattle.std.proofs.Common.{◌≡◌, length, ◌∙◌, arith}
use Rattle.st_meaning.proofs.Stacks.{copies_truncated, copies_none}
use Rattle.st_meaning.proofs.code.copies.Goals as goal

pub returns-then-words-lt2 : goal.returns-then-words-lt2
returns-then-words-lt2 c =
    let many : c.len-words.result ≡ length c.args.stack.now.items = c.len-words.ensures ∙ c.args.stack.now.ok.0 in
    copies_none c.args.stack.now.items (omega (arith, many))

pub returns : goal.returns
returns c =
    copies_truncated c.args.stack.now.items c.truncate.new.self.items c.len-words.result (c.len-words.ensures ∙ c.args.stack.now.ok.0) (omega arith) c.truncate.ensures.items
