use Rattle.cargo_toml_program.proofs.Cited.{AllByRecursion, Bor, List, Text, deref, line_at, rest_all, rest_more, rules, string_bytes, subst}
use Rattle.cargo_toml_program.proofs.Growing.{Told, all_told, each_line, each_told, one_more, told_of_all}
use Rattle.cargo_toml_program.proofs.features.write_all.Goals as goal

pub loop-name-init : goal.loop-name-init
loop-name-init g c = record {
  lines = search rules;
  in_order = λ told. told;
}

pub loop-name-preserved : goal.loop-name-preserved
loop-name-preserved g c =
    let is = rest_more deref _ _ _ c.in-Some.name c.in-Some.is c.next.ensures.steps in
    record {
      lines = one_more (λ (k : Bor Text). line_at g.T.Shown.line c.args.held.now k.now) c.in-Some.name.now _ _ _ _ _ is
          c.in_ok-write_one.ensures.lines c.loop-name.invariant.lines;
      in_order = each_told (Told c.args.held.now g.T.Shown.ascends) _ c.in-Some.name.now _ _ is
          c.in_ok-write_one.ensures.in_order c.loop-name.invariant.in_order;
    }

pub returns : goal.returns
returns g c =
    let walk = c.into_iter-name-iterator.ensures.into_iter_gives in
    let none = rest_all deref _ _ _ c.in-None.is c.next.ensures.steps in
    let told = all_told (Told c.args.held.now g.T.Shown.ascends) _ _ none c.loop-name.invariant.in_order in
    record {
      lines = each_line g.T.Shown.line c.args.held.now (string_bytes c.args.text.now) _ c.in_ok-names.names _ _ c.in_ok-names.ensures walk.4 walk.0
          none c.loop-name.invariant.lines;
      in_order = told_of_all c.args.held.now g.T.Shown.ascends c.in_ok-names.names c.in_ok-names.ensures
          (subst (λ (ks : List (Bor Text)). AllByRecursion (Told c.args.held.now g.T.Shown.ascends) ks) walk.0 told);
    }
