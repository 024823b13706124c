use Rattle.std.proofs.Common.{arith}
use Rattle.std.proofs.lemmas.List.{length-append}
use Rattle.st_emit.specs.inside.NameViews.{texts_view}
use Rattle.st_expression_stack.proofs.Kept.{texts_length, kept_both}
use Rattle.st_expression_stack.proofs.own.taken_of.Goals as goal

pub returns : goal.returns
returns c =
    let fields = texts_view c.args.fields.now in
    let shared = texts_view c.args.shared.now in
    let all = length-append fields shared in
    let one = texts_length c.args.fields.now in
    let two = texts_length c.args.shared.now in
    record {
      names = kept_both fields shared c.new-names.result.keys c.keep_all.new.taken.keys c.keep_all-2.new.taken.keys c.new-names.ensures.empty c.in_ok-keep_all.ensures c.in_ok-keep_all-2.ensures;
      count = omega (arith, all, one, two, c.in_ok-count.ensures);
    }
