use Rattle.cargo_toml_program.proofs.Cited.{AllByRecursion, flat_map, line_at, string_bytes, ◌++◌, ◌≡◌}
use Rattle.cargo_toml_program.proofs.Growing.{Told}
use Rattle.cargo_toml_program.proofs.features.write_all.Given as goal

abbrev pub invariant-loop-name : goal.invariant-loop-name
invariant-loop-name g l = record {
  lines :
      string_bytes l.text ++ flat_map (λ k. line_at g.T.Shown.line l.held k.now) l.name-iterator
      ≡ string_bytes l.initial.text ++ flat_map (λ k. line_at g.T.Shown.line l.held k.now) l.initial.name-iterator;
  in_order : AllByRecursion (Told l.held g.T.Shown.ascends) l.name-iterator
      → AllByRecursion (Told l.held g.T.Shown.ascends) l.initial.name-iterator;
}
