use Rattle.cargo_toml_check.proofs.Cited.{YieldsList-from_copied, YieldsList-from_rest, items_from_collect}
use Rattle.cargo_toml_check.proofs.features.BTreeSetRefStrToJson.to_json.Goals as goal

pub returns : goal.returns
returns c =
    let all = items_from_collect _ c.collect.ensures.ran (YieldsList-from_copied (YieldsList-from_rest c.args.self.now.keys cc)) in
    let same = rw c.in_ok-texts.was at all in
    rw (← same, ← c.as_slice.ensures.value) c.array.ensures
