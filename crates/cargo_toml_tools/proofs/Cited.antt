-- The names that proofs of this crate cite of definitions and of other libraries. Declares nothing.
pub use Rattle.cargo_toml.specs.Action.{Action, IsJoin, Text, item_of, join_option}
pub use Rattle.cargo_toml.specs.Views.{action_at, set_has, table_in, value_at}
pub use Rattle.cargo_toml.specs.{Ascending.Ascend, Feature.Feature, Graph.Table, Manifests.ManifestMeaning, Manifests.held, Manifests.manifest_meaning}
pub use Rattle.cargo_toml.specs.{Packages.PackageMeaning, Packages.package_meaning, Reach.Among, Reached.IsKeyed, Reads.map_meaning, Targets.target_meaning}
pub use Rattle.cargo_toml_discovery.proofs.Faults.{from_input}
pub use Rattle.cargo_toml_features.proofs.{Pending.key_of, Thinning.has_filtered}
pub use Rattle.cargo_toml_graph.proofs.Filtered.{filter_next, filter_past, those_among, those_ascend}
pub use Rattle.cargo_toml_graph.proofs.{JoinLaws.join_option_none, Joins.join_alike, Joins.join_halves, Joins.join_one, Texts.bytes_eq_refl}
pub use Rattle.cargo_toml_lint.proofs.Gathered.{any_map, at_head, has_in, list_of, listed_in}
pub use Rattle.cargo_toml_lint.{specs.declared.finding.Finding.Finding, proofs.Adding.asked_is, proofs.Adding.entry_of, proofs.Adding.target_of, specs.Turning.turning}
pub use Rattle.cargo_toml_tools.specs.Documented.{ActsOf, AreRows, IsRowOf, is_beside, lists_default, told_at}
pub use Rattle.cargo_toml_tools.specs.IndexEntries.{feature_rows, index_data, index_entries, is_extended, is_kept, is_newer, kept_lists, key_if, line_data, list_rows, lists_object, table_entries, table_keys, with_rows}
pub use Rattle.cargo_toml_tools.specs.Indexed.{DependencyTable, Refusal, Wanted, address_named, dependency_tables, entry_refusal, finding_refusal, first_refusal, folder_of, folder_refusal, is_named, is_number, naming_refusal, package_refusal, refusal_of, table_refusal, target_tables, written}
pub use Rattle.cargo_toml.specs.Choosing.{handed_of, own_choice}
pub use Rattle.cargo_toml.specs.InheritedDependencies.{Entries, any_left, any_target_left, target_left}
pub use Rattle.cargo_toml.specs.InheritedPackages.{any_field_left, leavable_rows}
pub use Rattle.cargo_toml.specs.Refusing.{IsRefusedAt, IsRefusedBy, MayLose}
pub use Rattle.cargo_toml_parts.specs.FaultValues.{Fault, fault_of, fault_step, workspace_integrity}
pub use Rattle.cargo_toml_parts.specs.declared.error.Error.{Error, WorkspaceIntegrity, fold-roll-Error}
pub use Rattle.cargo_toml_parts.specs.declared.error.Error.{TheOpen.Error-F, TheVariants.rolls-WorkspaceIntegrity}
pub use Rattle.cargo_toml.specs.{InheritedManifests.needs, Manifest.Manifest}
pub use Rattle.cargo_toml.specs.{Sharing.shared, Targets.TargetMeaning, Told.ToldRoot, Workspaces.WorkspaceMeaning}
pub use Rattle.cargo_toml_package.specs.Replacing.{entries_meaning}
pub use Rattle.cargo_toml_tools.specs.Alone.{IsRefusedFor, needed, no_root_found, no_roots}
pub use Rattle.cargo_toml_tools.specs.Left.{Left, first_left, first_of, left_entry, left_if, left_in, left_in_package, left_key, left_name, left_of, left_target, left_words}
pub use Rattle.cargo_toml_tools.specs.Sections.{lists_meaning, names_of, refused, table_of, wanted_of}
pub use Rattle.cargo_toml_tools.specs.declared.{document.listing.Row.Row, index.refusals.Fault.TheVariants.NoPackage}
pub use Rattle.serde_json.specs.Data.{Data, Members, number, put, string, unsigned}
pub use Rattle.serde_json.specs.{View.members_view, View.view, declared.value.Value.Value}
pub use Rattle.std.proofs.Common.{Bool, Bor, Global, IfErr, IfOk, IfSome, IsTrue, List, None, Option, Some, String, [], add-one, ap, ap₂, arith, bytes_eq, codes, drop, drop-cons, false, filter, fold, get_or, if◌then◌else◌, inl, inr, is_some, length, lit<, map, option_map, refl, rules, string_bytes, subst, sym, take, tests, true, ℕ, ◌&&◌, ◌++◌, ◌+◌, ◌<◌, ◌||◌, ◌↔◌, ◌∙◌, ◌∷◌, ◌≡◌, ◌⊎◌}
pub use Rattle.std.proofs.lemmas.Bool.{and_from, and_parts, false≢true, or_left, or_right}
pub use Rattle.std.proofs.lemmas.Result.{IfErr-weaker, err_from_is_err_and, on_ok_weaker}
pub use Rattle.std.proofs.lemmas.{Fn.filter_same, Iterator.YieldsList-from_slice, Iterator.Consumers.nth_from_yields_List, Iterator.Search.all_from_yields_List, Iterator.Search.any_from_yields_List, Iterator.Splits.YieldsList-from_str_split}
pub use Rattle.std.proofs.lemmas.{List.append-nil, List.drop_all, List.map-append, List.Concat.flat_map-append, Map.Iter.rest_all, Map.Iter.rest_more, Map.Text.is_eq-slice_cmp}
pub use Rattle.std.specs.List.{AllByRecursion, flat_map, list_any}
pub use Rattle.std.specs.{HashMap.HashMap, Map.Iter.deref, Option.option_copied, Option.option_map_or, Option.option_or}
pub use Rattle.toml.specs.{Data.Members as TomlMembers, View.table_view}
