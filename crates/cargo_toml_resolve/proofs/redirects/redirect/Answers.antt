use Rattle.{std.proofs.Common.◌≡◌, std.proofs.Common.◌<◌, std.proofs.Common.length, std.proofs.Common.ap, std.proofs.Common.sym, std.proofs.Common.subst, cargo_toml_graph.specs.Reach.Among}
use Rattle.cargo_toml_resolve.{proofs.Steps.path_inside, specs.Numbers.HasLabel, specs.Numbers.Replaces}
use Rattle.cargo_toml_resolve.proofs.redirects.redirect.Goals as goal

pub finish-requires-clause-passed : goal.finish-requires-clause-passed
finish-requires-clause-passed c = λ b i.
    subst (λ n. b < n) (sym c.requires.within.same) (path_inside (length c.args.edges.now) c.requires.within.edges_inside ((c.in_ok-pass.ensures.passed b).0 i).1)

pub finish-requires-2-clause-passed : goal.finish-requires-2-clause-passed
finish-requires-2-clause-passed c = λ b i.
    let same : c.finish.new.walk.passed.items ≡ c.pass.new.self.passed.items = ap (λ v. v.items) c.in_ok-is_moved.ensures.passed in
    path_inside (length c.args.edges.now) c.requires.within.edges_inside ((c.in_ok-pass.ensures.passed b).0 (subst (λ l. Among l b) same i)).1

pub returns-clause-rows : goal.returns-clause-rows
returns-clause-rows c =
    let same : c.finish.new.walk.passed.items ≡ c.pass.new.self.passed.items = ap (λ v. v.items) c.in_ok-is_moved.ensures.passed in (
      c.pass.new.self.passed.items,
      c.in_ok-pass.ensures.passed,
      subst (λ l. Replaces c.args.own (HasLabel (Among l) c.args.edges.now c.args.finished.now c.args.own) c.args.edges.now c.finish-2.new.rows) same c.in_ok-finish.ensures.row.row,
      c.in_ok-is_moved.ensures.row,
    )
