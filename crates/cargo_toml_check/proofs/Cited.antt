-- The names that proofs of this crate cite of definitions and of other libraries. Declares nothing.
pub use Rattle.cargo_toml.specs.Manifests.{ManifestMeaning, held, manifest_meaning, manifest_reads}
pub use Rattle.cargo_toml.specs.{Action.Text, Error.Error, Manifest.Manifest, Targets.target_meaning, Texts.any_tree, Texts.document_reads, Views.answer_of}
pub use Rattle.cargo_toml_check.specs.Blamed.{blamed_items, blamed_members, blamed_parts, inner_paths, or_own, path_of, reads, reads_alone}
pub use Rattle.cargo_toml_check.specs.Listed.{action_json, is_cut_target, is_over, row_at}
pub use Rattle.cargo_toml_check.specs.Shown.{IsShown, IsShownAsJson, IsUnshown, json_items, json_of, with_json}
pub use Rattle.cargo_toml_check.specs.{Alone.Part, Alone.part_of, FromFiles.HoldsOfCompleted, FromFiles.IsListed, FromFiles.IsRefusedFor, declared.search.Fault.Fault}
pub use Rattle.cargo_toml_tools.specs.{Alone.IsCompletedFrom, FromFiles.IsOfInput, declared.files.alone.Source.Source, IndexEntries.with_rows}
pub use Rattle.serde_json.specs.Data.{Data as Json, Members as JsonMembers, array, item, no_members, object}
pub use Rattle.serde_json.specs.View.{items_of, members_view as json_members, view as json_view}
pub use Rattle.std.proofs.Common.{Bool, Bor, Global, IsSome, List, Option, String, [], ap, arith, drop, false, if◌then◌else◌, inl, inr, is_some, length, map, refl, rules, string_bytes, subst, sym, take, tests, true, ◌++◌, ◌<◌, ◌↔◌, ◌∙◌, ◌∷◌, ◌≡◌}
pub use Rattle.std.proofs.lemmas.{Grind.common_steps, Iterator.items_from_collect, Iterator.Consumers.YieldsList-from_copied, Iterator.Consumers.YieldsList-from_rest, Iterator.Search.any_from_yields_List, List.length-map, List.map-append, List.nil_from_length, List.take_all, Map.Iter.rest_all, Map.Iter.rest_more}
pub use Rattle.std.proofs.lemmas.Result.{IfErr-weaker, IfOk-weaker, err_from_is_err_and}
pub use Rattle.std.specs.{List.flat_map, Map.Iter.deref, Prelude.IfErr, Prelude.IfOk, Prelude.Result}
pub use Rattle.toml.{proofs.Views.view-Table, specs.Data.Data, specs.Parse.parse_document, specs.View.items_view, specs.View.members_view, specs.View.view, specs.declared.value.Value.Value}
pub use Rattle.{cargo_toml_discovery.proofs.Faults.from_input, cargo_toml_lint.proofs.Gathered.any_map, cargo_toml_lint.proofs.Resolving.parsed_at, cargo_toml_lint.proofs.Resolving.tells_of, cargo_toml_tools.proofs.Placed.with_both}
