use Rattle.std.specs.{List.Sorted.IsStrictlySortedBy, String.string_cmp}
use Rattle.cargo_toml_write.proofs.Writers.{◌≡◌, Gathers, ap, ascend-bytes, err_from_is_err_and, gather_end, gather_err, gather_start, gather_step, keys_of, makes_table, map_meaning, pairs_ascend, pairs_meaning, rules, string_bytes, subst}
use Rattle.cargo_toml_write.proofs.write.collections.table_of.Goals as goal

pub loop-key-init : goal.loop-key-init
loop-key-init g c =
    let whole : c.into_iter-key-iterator.result ≡ c.args.map.now.entries = search rules in
    gather_start g.T.ToValue.way _ _ _ (ap (pairs_meaning g.T.ToValue.meaning) whole) c.in_ok-pairs.ensures.items

pub loop-key-preserved : goal.loop-key-preserved
loop-key-preserved g c =
    let all = map_meaning g.T.ToValue.meaning c.args.map.now in
    let so_far = subst (λ rest. Gathers g.T.ToValue.way all (pairs_meaning g.T.ToValue.meaning rest) c.loop-key.pairs.items) c.in-Some.ensures.steps c.loop-key.invariant in
    let same : string_bytes c.in_ok-name.name ≡ string_bytes c.in-Some.key.now = search rules in
    gather_step g.T.ToValue.way all _ _ _ _ _ c.in_ok-name.name c.in_ok-to_value.field-0 so_far c.in_ok-to_value.ensures same c.in_ok-push.ensures.items

pub returns-in_err-to_value : goal.returns-in_err-to_value
returns-in_err-to_value g c =
    let all = map_meaning g.T.ToValue.meaning c.args.map.now in
    let so_far = subst (λ rest. Gathers g.T.ToValue.way all (pairs_meaning g.T.ToValue.meaning rest) c.loop-key.pairs.items) c.in-Some.ensures.steps c.loop-key.invariant in
    let p = err_from_is_err_and c.from_residual-in_err-to_value.result c.from_residual-in_err-to_value.ensures.1 in
    rw (p.1, p.2) (gather_err g.T.ToValue.way all _ _ c.loop-key.pairs.items _ _ so_far c.in_err-to_value.ensures)

pub map_of_pairs-requires : goal.map_of_pairs-requires
map_of_pairs-requires g c =
    let sorted : IsStrictlySortedBy string_cmp (keys_of c.args.map.now.entries) = search rules in
    record {
      ascend = pairs_ascend g.T.ToValue.way _ c.loop-key.pairs.items (ascend-bytes g.T.ToValue.meaning c.args.map.now.entries sorted)
          (gather_end g.T.ToValue.way (map_meaning g.T.ToValue.meaning c.args.map.now) _ c.loop-key.pairs.items c.loop-key.invariant (ap (pairs_meaning g.T.ToValue.meaning) c.in-None.ensures.steps.0));
    }

pub returns : goal.returns
returns g c =
    let sorted : IsStrictlySortedBy string_cmp (keys_of c.args.map.now.entries) = search rules in
    makes_table g.T.ToValue.way _ c.loop-key.pairs.items c.in_ok-map_of_pairs.field-0 (ascend-bytes g.T.ToValue.meaning c.args.map.now.entries sorted)
    (gather_end g.T.ToValue.way (map_meaning g.T.ToValue.meaning c.args.map.now) _ c.loop-key.pairs.items c.loop-key.invariant (ap (pairs_meaning g.T.ToValue.meaning) c.in-None.ensures.steps.0)) c.in_ok-map_of_pairs.ensures
