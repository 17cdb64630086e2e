use Rattle.cargo_toml_program.proofs.Cited.{AskedAscend, action_text, between_commas, codes, flat_map, string_bytes, ◌++◌, ◌≡◌}
use Rattle.cargo_toml_program.proofs.features.write_actions.Given as goal

abbrev pub invariant-loop-key : goal.invariant-loop-key
invariant-loop-key l = record {
  lines :
      string_bytes l.text ++ flat_map (λ e. codes ", " ++ action_text e) l.key-iterator
      ≡ string_bytes l.fn.text ++ (l.fn.title ++ between_commas action_text l.fn.actions.entries);
  asked : AskedAscend l.key-iterator → AskedAscend l.fn.actions.entries;
}
