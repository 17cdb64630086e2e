use Rattle.cargo_toml_features.proofs.Cited.{Vertex, ap, false, option_map_or, refl, sym}
use Rattle.cargo_toml_features.proofs.{Merging.vertex_here, Merging.vertex_missing}
use Rattle.cargo_toml_features.proofs.vertices.lists.Goals as goal

pub returns-in-Some : goal.returns-in-Some
returns-in-Some c =
    let vs = c.args.vertices.now in
    let there = c.in-Some.ensures.found in
    sym (ap (λ o. option_map_or (λ (v : Vertex). v.is_listed) o false) (vertex_here vs c.args.name.now c.in-Some.place c.index-vertices-place.result c.requires there.0 there.1))

pub returns-in-None : goal.returns-in-None
returns-in-None c = sym (ap (λ o. option_map_or (λ (v : Vertex). v.is_listed) o false) (vertex_missing c.args.vertices.now c.args.name.now (c.in-None.ensures.missing refl)))
