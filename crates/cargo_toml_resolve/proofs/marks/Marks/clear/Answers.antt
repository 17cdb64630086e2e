use Rattle.std.proofs.Common.{◌<◌, false, replicate, length, ap, ◌∙◌, arith}
use Rattle.{std.proofs.lemmas.List.length-map, std.specs.Vec.vec_len, cargo_toml_resolve.proofs.Steps.none_marked, cargo_toml_resolve.proofs.Steps.none_at_first}
use Rattle.cargo_toml_resolve.proofs.marks.Marks.clear.Goals as goal

pub returns-in-Some : goal.returns-in-Some
returns-in-Some c =
    let later : c.self.inside.epoch < c.in-Some.epoch = omega arith in
    none_marked c.self.inside.stamps.items c.self.inside.epoch c.in-Some.epoch c.self.invariant later
    ∙ ap (λ l. replicate (length l) false) c.self.view_is

pub returns-in-None : goal.returns-in-None
returns-in-None c = grind (arith, none_at_first (vec_len c.self.inside.stamps), length-map)
