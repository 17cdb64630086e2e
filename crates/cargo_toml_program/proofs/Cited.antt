-- The names that proofs of this crate cite of definitions and of other libraries. Declares nothing.
pub use Rattle.cargo_toml_features.specs.Views.{answer_of, set_has, value_at}
pub use Rattle.cargo_toml_program.specs.Lines.{AddsLines, AskedAscend, TextsAscend, action_text, between_commas, line_at}
pub use Rattle.std.proofs.Common.{Bor, Err, Global, IfNone, IfOk, IfSome, List, None, Ok, Option, Result, Some, String, [], ap, append-nil, append_assoc, arith, codes, drop, false, get_or, inl, inr, is_some, length, map, refl, rules, string_bytes, subst, sym, take, true, ℕ, ◌++◌, ◌+◌, ◌<◌, ◌∙◌, ◌∷◌, ◌≡◌}
pub use Rattle.std.proofs.lemmas.List.{get_or-map, length-map, map_push, take_more}
pub use Rattle.std.proofs.lemmas.Result.{IfErr-weaker, IfOk-weaker, err_from_is_err_and}
pub use Rattle.std.specs.Io.KnownBytes.{Appends, Consumes, Keeps}
pub use Rattle.std.specs.List.{AllByRecursion, flat_map, list_any}
pub use Rattle.cargo_toml_discovery.{proofs.Faults.from_input}
pub use Rattle.cargo_toml_graph.{specs.Action.Text}
pub use Rattle.cargo_toml_manifest.{proofs.PathFaults.some_from, specs.Manifests.manifest_meaning, specs.Roots.IsFromSlice}
pub use Rattle.cargo_toml_parts.{specs.Products.product_meaning}
pub use Rattle.cargo_toml_program.{specs.Completed.product_line, specs.Outcomes.line, specs.Printed.IsSpelled, specs.Words.AskFor, specs.Words.IsLimit, specs.declared.arguments.Command.Command, specs.declared.arguments.Command.TheVariants.Complete, specs.declared.arguments.Command.TheVariants.Features}
pub use Rattle.cargo_toml_resolve.{specs.Filter.Asked, specs.Filter.FilterTells}
pub use Rattle.cargo_toml_resolver.{specs.Parsed.IsParsed}
pub use Rattle.std.{proofs.Output.has_written_append, proofs.lemmas.Bool.false≢true, proofs.lemmas.Bool.or_cases, proofs.lemmas.List.Concat.flat_map-append, proofs.lemmas.Map.Iter.rest_all, proofs.lemmas.Map.Iter.rest_more, proofs.lemmas.Map.Text.is_eq-slice_cmp, proofs.lemmas.Slice.Eq.bytes_eq-Decides}
pub use Rattle.std.{specs.BTreeMap.is_at, specs.BTreeSet.BTreeSet, specs.Cmp.Lexicographic.slice_cmp, specs.HashMap.HashMap, specs.Map.Iter.deref, specs.Ordering.nat_cmp, specs.Prelude.OnOk}
