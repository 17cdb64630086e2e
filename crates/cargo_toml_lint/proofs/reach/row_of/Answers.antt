use Rattle.cargo_toml_lint.proofs.Cited.{◌∷◌, [], Among, among-second, arith, inl, refl, subst, sym}
use Rattle.cargo_toml_lint.proofs.Searching.{path_inside, search_ends}
use Rattle.cargo_toml_lint.proofs.reach.row_of.Goals as goal

pub meet-requires-clause-inside : goal.meet-requires-clause-inside
meet-requires-clause-inside c =
    let x = c.in-Some.x in
    path_inside c.args.reach.now c.requires.whole c.args.start x c.requires.inside (c.loop-x.invariant.met x
    (subst (λ ws. Among ws x) (sym c.in-Some.ensures.items) (among-second c.pop.new.self.items (x ∷ []) x (inl refl))))

pub returns-clause-right : goal.returns-clause-right
returns-clause-right c =
    let none = (rw c.in_default.is at c.pop.ensures.cases).0 in
    search_ends c.args.reach.now c.args.start c.loop-x.row.items c.loop-x.waiting.items (omega (arith, none)) c.loop-x.invariant
