use Rattle.std.proofs.Common.{◌-◌, ltb, rules}
use Rattle.std.proofs.lemmas.List.Sorted.{IsPartitionPoint-from_clause}
use Rattle.st_decompile.proofs.Locating.{is_parted, point_within}
use Rattle.st_decompile.proofs.located.count_within.Goals as goal

pub returns-clause-within : goal.returns-clause-within
returns-clause-within c =
    let ls = c.args.steps.now in
    let start = c.first_place-start.result in
    let point = IsPartitionPoint-from_clause (λ l. ltb (l.at - start) c.args.distance) ls _ c.partition_point.ensures.partitioned (is_parted c.args.distance start ls c.requires) (λ a r q k. search rules) in
    point_within c.args.distance start ls c.partition_point.result c.requires c.first_place-start.ensures c.partition_point.ensures.bound point
