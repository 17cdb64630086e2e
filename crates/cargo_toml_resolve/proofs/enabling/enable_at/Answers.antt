use Rattle.{std.proofs.lemmas.Result.on_ok_weaker, cargo_toml_resolve.proofs.Learning.one_learns, cargo_toml_resolve.proofs.Learning.text_gained}
use Rattle.cargo_toml_resolve.proofs.enabling.enable_at.Goals as goal

pub returns : goal.returns
returns c =
    let v = c.index_mut-feature.result.now in
    rw c.place.ensures (on_ok_weaker c.add_text.result
    (λ has. one_learns c.args.features.now.items c.args.at c.args.source.now v c.add_text.new.set c.requires (rw c.place.ensures at c.index_mut-feature.ensures.value)
    (text_gained v.enabled_by c.add_text.new.set c.args.source.now has)) c.add_text.ensures)
