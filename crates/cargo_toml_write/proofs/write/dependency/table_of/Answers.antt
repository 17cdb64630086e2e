use Rattle.cargo_toml_write.proofs.Cited.{IsStrictlySortedBy, string_cmp}
use Rattle.cargo_toml_write.proofs.Writers.{◌≡◌, Ascend, Gathers, ap, ascend-bytes, detail_of, err_from_is_err_and, feature_way, features_meaning, gather_end, gather_err, gather_start, gather_step, keys_of, makes_table, map, map_meaning, pairs_ascend, rules, same_names, string_bytes, subst, told_features, with_details}
use Rattle.cargo_toml_write.proofs.write.dependency.table_of.Goals as goal

pub loop-name-init : goal.loop-name-init
loop-name-init c =
    let whole : c.into_iter-name-iterator.result ≡ c.args.lists.now.entries = search rules in
    gather_start feature_way _ _ _ (ap (with_details (map_meaning detail_of c.args.details.now)) whole) c.in_ok-pairs.ensures.items

pub loop-name-preserved : goal.loop-name-preserved
loop-name-preserved c =
    let all = told_features (features_meaning c.args.lists.now c.args.details.now) in
    let so_far = subst (λ rest. Gathers feature_way all (with_details (map_meaning detail_of c.args.details.now) rest) c.loop-name.pairs.items) c.in-Some.ensures.steps c.loop-name.invariant in
    let same : string_bytes c.in_ok-key.key ≡ string_bytes c.in-Some.name.now = search rules in
    gather_step feature_way all _ _ _ _ _ c.in_ok-key.key c.in_ok-feature_value.field-0 so_far c.in_ok-feature_value.ensures same c.in_ok-push.ensures.items

pub returns-in_err-feature_value : goal.returns-in_err-feature_value
returns-in_err-feature_value c =
    let all = told_features (features_meaning c.args.lists.now c.args.details.now) in
    let so_far = subst (λ rest. Gathers feature_way all (with_details (map_meaning detail_of c.args.details.now) rest) c.loop-name.pairs.items) c.in-Some.ensures.steps c.loop-name.invariant in
    let p = err_from_is_err_and c.from_residual-in_err-feature_value.result c.from_residual-in_err-feature_value.ensures.1 in
    rw (p.1, p.2) (gather_err feature_way all _ _ c.loop-name.pairs.items _ _ so_far c.in_err-feature_value.ensures)

pub map_of_pairs-requires : goal.map_of_pairs-requires
map_of_pairs-requires c =
    let sorted : IsStrictlySortedBy string_cmp (keys_of c.args.lists.now.entries) = search rules in
    let details = map_meaning detail_of c.args.details.now in
    let ascend = subst Ascend (same_names _ details) (ascend-bytes (λ v. map string_bytes v.items) c.args.lists.now.entries sorted) in
    record { ascend = pairs_ascend feature_way _ c.loop-name.pairs.items ascend (gather_end feature_way _ _ c.loop-name.pairs.items c.loop-name.invariant (ap (with_details details) c.in-None.ensures.steps.0)) }

pub returns : goal.returns
returns c =
    let sorted : IsStrictlySortedBy string_cmp (keys_of c.args.lists.now.entries) = search rules in
    let details = map_meaning detail_of c.args.details.now in
    let ascend = subst Ascend (same_names _ details) (ascend-bytes (λ v. map string_bytes v.items) c.args.lists.now.entries sorted) in
    makes_table feature_way _ c.loop-name.pairs.items c.in_ok-map_of_pairs.field-0 ascend (gather_end feature_way _ _ c.loop-name.pairs.items c.loop-name.invariant (ap (with_details details) c.in-None.ensures.steps.0)) c.in_ok-map_of_pairs.ensures
