use Rattle.std.proofs.Common.{◌≡◌, drop}
use Rattle.std.specs.List.{list_any}
use Rattle.st_model.specs.Values.{value}
use Rattle.st_model.specs.View.{object_of}
use Rattle.st_browse.specs.Senders.{is_symbol}
use Rattle.st_browse.proofs.sending.has_literal.Given as goal

-- no literal so far is the Symbol
abbrev pub invariant-loop-i : goal.invariant-loop-i
invariant-loop-i g l =
    let t = (g.M.Memory.view l.m).objects in
    let fields = (object_of t (value l.body.method)).fields in
    list_any (is_symbol t l.text) (drop l.i fields) ≡ list_any (is_symbol t l.text) (drop 1 fields)
