use Rattle.{std.proofs.Common.rules, std.proofs.Common.◌<◌, std.proofs.Common.length, cargo_toml_resolve.proofs.InOrder.place_below}
use Rattle.cargo_toml_resolve.proofs.node_sets.list_of.Goals as goal

pub offset_bounds-texts-place : goal.offset_bounds-texts-place
offset_bounds-texts-place c = (let lt : c.place.result < length c.args.texts.now = place_below c.args.nodes.now (length c.args.texts.now) c.loop-x.x-index _ _ c.requires c.loop-x-test.true c.x-item.is c.place.ensures in search rules)

pub bounds-texts-place : goal.bounds-texts-place
bounds-texts-place c = place_below c.args.nodes.now (length c.args.texts.now) c.loop-x.x-index _ _ c.requires c.loop-x-test.true c.x-item.is c.place.ensures
