use Rattle.std.proofs.Common.{rules}
use Rattle.std.proofs.lemmas.Iterator.Adapters.{fact_from_collect, YieldsList-from_vec}
use Rattle.std.specs.BTreeMap as tree
use Rattle.std.specs.String.{string_cmp}
use Rattle.cargo_toml_parts.proofs.Collected.{made}
use Rattle.cargo_toml_parts.proofs.read.map_of_pairs.Goals as goal

pub returns : goal.returns
returns g c =
    made c.args.pairs.items c.collect.result (search rules)
    (fact_from_collect (tree.IsFromIterResult string_cmp) c.collect.result c.collect.ensures.ran (YieldsList-from_vec c.args.pairs.items c.into_iter.ensures.rest (search rules)))
