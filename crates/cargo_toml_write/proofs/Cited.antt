-- The names that proofs of this crate cite of definitions and of other libraries. Declares nothing.
pub use Rattle.cargo_toml_discovery.specs.Seen.{Seen, seen, seen_as}
pub use Rattle.cargo_toml_manifest.specs.Choosing.{Choice, from, lost, unclear_root}
pub use Rattle.cargo_toml_manifest.specs.Completing.{complete_by, gives, seen_at, then_found}
pub use Rattle.cargo_toml_manifest.specs.Finding.{found_for, stated_by, wanted_by, with_discovered}
pub use Rattle.cargo_toml_manifest.specs.Inheriting.{inherited_from, inherited_if_there, inherited_manifest, own_tables}
pub use Rattle.cargo_toml_manifest.specs.Manifests.{ManifestMeaning, badges_reads, by_zero_rule, manifest_meaning, manifest_of, manifest_reads, no_badges, no_profiles, product_reads, profiles_reads, target_reads, zero_rule_applies}
pub use Rattle.cargo_toml_package.specs.Dependencies.{DependencyMeaning, DetailMeaning, InheritedMeaning, detail_keys, detail_of_table, detailed, inherited, inherited_of, inherited_or, no_detail, simple, strict_of}
pub use Rattle.cargo_toml_package.specs.Details.{Detail, detail_of, is_plain, plain_detail}
pub use Rattle.cargo_toml_package.specs.Features.{FeaturesMeaning, apart, details_of, feature_of, features_meaning, features_of, lists_of, no_features, table_feature}
pub use Rattle.cargo_toml_package.specs.InheritedDependencies.{Entries, detail_of_requirement, entry_at, from_template, inherited_entries, inherited_entry, inherited_target, inherited_targets, with_entry}
pub use Rattle.cargo_toml_package.specs.Inheriting.{any_field_left, filled_field, inherited_package, with_template_if_there}
pub use Rattle.cargo_toml_package.specs.Packages.{PackageMeaning, package_meaning, package_of_table}
pub use Rattle.cargo_toml_package.specs.Sharing.{LintsByTool, Shared, inherited_lints}
pub use Rattle.cargo_toml_package.specs.Templates.{TemplateMeaning, template_of}
pub use Rattle.cargo_toml_package.specs.Workspaces.{WorkspaceMeaning, workspace_meaning, workspace_of}
pub use Rattle.cargo_toml_parts.specs.Answers.{beside, each, ◌>>=◌}
pub use Rattle.cargo_toml_parts.specs.Badges.{BadgeMeaning, BadgesMeaning, badge_of, badge_reads, badges_of, maintenance_of, maintenance_reads, or_none, status_of}
pub use Rattle.cargo_toml_parts.specs.Inherits.{by_flag, inheritable_map, inheritable_of, set_or, workspace_flag}
pub use Rattle.cargo_toml_parts.specs.Lints.{LintMeaning, level_alone, level_of, lint_keys, lint_of, table_lint}
pub use Rattle.cargo_toml_parts.specs.Products.{ProductMeaning, either_flag, product_of}
pub use Rattle.cargo_toml_parts.specs.ProfileSettings.{debug_of, lto_of, strip_of}
pub use Rattle.cargo_toml_parts.specs.Profiles.{ProfileMeaning, ProfilesMeaning, profile_keys, profile_of, profile_reads, profiles_of}
pub use Rattle.cargo_toml_parts.specs.Reads.{array_of, flag_at, given_at, given_of, is_among, items_reads, list_at, list_of, map_at, map_meaning, map_of, optional_at, optional_of, others_read, pairs_meaning, required_at, required_of}
pub use Rattle.cargo_toml_parts.specs.Settings.{File, Registries, among, edition_reads, edition_text, everywhere, file_of, flag, path, publish_of, resolver_reads, resolver_text}
pub use Rattle.cargo_toml_parts.specs.Versions.{Parts, requirement_of, version_of}
pub use Rattle.cargo_toml_parts.specs.declared.lint.LintLevel.TheVariants.{Allow, Deny, Forbid, ForceWarn, Warn}
pub use Rattle.cargo_toml_parts.specs.declared.settings.Edition.TheVariants.{E2015, E2018, E2021, E2024}
pub use Rattle.cargo_toml_parts.specs.declared.settings.Resolver.TheVariants.{V1, V2, V3}
pub use Rattle.cargo_toml_write.specs.Asked.{Asked, EachValue, IfSet, ManifestMeets, TargetMeets, WorkspaceMeets, nothing_asked}
pub use Rattle.cargo_toml_write.specs.Requirements.{CanBeRead, after_major, comparator_text, requirement_text, sign_of, star_of}
pub use Rattle.cargo_toml_write.specs.Reread.{ChoiceIsTold, IsTold, SaysTrue, SharedIsTold, each_value, reread, reread_dependency, reread_target, reread_workspace, says_true, told}
pub use Rattle.cargo_toml_write.specs.Ways.{Ascend, AsksOf, Begins, IsMap, all_of, exactly, free_way, inheritable_way, inherited_tree, is_nil, is_set_and, list_way, map_way, members_of, number_way, over_way, requirement_way, small_way, table_way, text_way, texts_way, truth_way, unless_missing, version_way}
pub use Rattle.cargo_toml_write.specs.Writes.{AreEntries, AreItems, AreWritten, EntriesRefused, IsHeld, IsReadAgain, IsWriting, ItemsRefused, Row, Way, WritingEnds, optional_row, put_member, put_some, required_row, unless}
pub use Rattle.cargo_toml_write.specs.WrittenDependencies.{AreTold, DependencyAgain, DetailAgain, dependencies_way, dependency_way, detail_reads, detail_under, detail_way, feature_way, features_in, features_way, inherited_reads, inherited_rows, inherited_way, known_rows, target_rows, target_way, told_features, told_rows, told_way}
pub use Rattle.cargo_toml_write.specs.WrittenManifests.{all_features, manifest_rows, manifest_way}
pub use Rattle.cargo_toml_write.specs.WrittenPackages.{AreReadAgain, IsVersionAgain, MetadataAgain, TemplateAgain, VersionAgain, package_rows, package_way, template_rows, template_way, workspace_rows, workspace_way}
pub use Rattle.cargo_toml_write.specs.WrittenTables.{AreApart, IsApart, badge_rows, badge_way, badges_rows, badges_way, debug_tree, debug_way, edition_way, file_way, has_no_badge, has_no_profile, is_level_alone, is_unrestricted, is_usual, known_profiles, level_text, level_way, lint_groups_way, lint_part, lint_rows, lint_way}
pub use Rattle.cargo_toml_write.specs.WrittenTables.{lto_tree, lto_way, maintenance_rows, maintenance_way, product_rows, product_way, profile_rows, profile_way, profiles_way, publish_way, resolver_way, status_text, status_way, strip_tree, strip_way}
pub use Rattle.semver.proofs.Grammar.{bind-ok, identifier-ok, version_parts-complete, version_parts-sound}
pub use Rattle.semver.proofs.Numerals.{numeric-of_text, numeric-text, ok-value, starts_digit}
pub use Rattle.semver.proofs.Requirements.{held, req-end, req-more}
pub use Rattle.semver.proofs.Segments.{good, not_zero, scan-all}
pub use Rattle.semver.specs.Identifiers.{comparator_view, marked, parts_of}
pub use Rattle.semver.specs.OrderLaws.{join-parts, join_dots, parts-shape}
pub use Rattle.semver.specs.Parse.{Held, Minor, Parsed, Patch, build_part, comparator_in, comparator_of, comparator_or, first_or_equal, has, identifier_len, identifier_of, minor_of, minor_part, next_text, numeric, op_of, patch_number, patch_of, patch_part, pre_part, prepend, req_after, req_next, req_of, scan, version_parts, wild_req, wildcard_of}
pub use Rattle.std.proofs.Common.{Bool, Equal, Err, Global, Greater, IfErr, IfSome, IsTrue, Less, List, None, Ok, Option, Ordering, Result, Some, String, Vec, [], ap, append-nil, append_assoc, arith, codes, cond, drop, false, get_or, if◌then◌else◌, inl, inr, is_eq, is_some, length, lit<, map, nat_cmp, not, option_and_then, option_map, refl, string_bytes, subst, suc, sym, take, true, zero, ℕ, ◌&&◌, ◌++◌, ◌+◌, ◌<◌, ◌==◌, ◌^◌, ◌||◌, ◌∙◌, ◌∷◌, ◌≡◌, ◌≤◌, ◌⊎◌}
pub use Rattle.std.proofs.lemmas.Bool.{and_parts, cases_Bool, eq-eqb, false≢true, not-true}
pub use Rattle.std.proofs.lemmas.List.{drop_at, drop_more, take_all, take_at}
pub use Rattle.std.specs.BTreeMap.{BTreeMap, get_by, insert_entry, is_at}
pub use Rattle.std.specs.List.{All, AllByRecursion, flat_map, list_all}
pub use Rattle.toml.proofs.Views.{Entry, view-Boolean, view-String}
pub use Rattle.toml.specs.Data.{Data, Items, Members, array, as_bool, as_str, as_table, boolean, get_member, item, member, no_items, no_members, string, table}
pub use Rattle.toml.specs.View.{items_view, members_view, table_view, view}
pub use Rattle.cargo_toml_discovery.{specs.Around.around, specs.Discovering.discovered, specs.Names.Name}
pub use Rattle.cargo_toml_manifest.{specs.Texts.any_tree, specs.Texts.document_reads, specs.declared.manifest.Manifest.Manifest}
pub use Rattle.cargo_toml_package.{proofs.Apart.ascend-keys, specs.Targets.TargetMeaning, specs.Targets.target_of, specs.declared.package.Package.Package, specs.declared.target.FeatureDetail.FeatureDetail, specs.declared.workspace.Workspace.Workspace}
pub use Rattle.cargo_toml_parts.{proofs.Steps.stops, specs.FaultValues.Fault, specs.Floats.has_no_float, specs.Floats.without_floats, specs.Keys.inherited_at, specs.Numbers.i8_of, specs.Numbers.u16_of, specs.Paths.workspace_folder, specs.declared.badge.MaintenanceStatus.MaintenanceStatus, specs.declared.error.Error.Error}
pub use Rattle.cargo_toml_parts.{specs.declared.error.Error.Memory, specs.declared.inheritable.Inheritable.Inheritable, specs.declared.inheritable.Inheritable.TheVariants.Inherited, specs.declared.inheritable.Inheritable.TheVariants.Set, specs.declared.lint.LintLevel.LintLevel}
pub use Rattle.cargo_toml_write.{specs.Examples.untested_binary}
pub use Rattle.semver.{specs.Grammar.is_pre_identifier, specs.Grammar.is_pre_release, specs.Order.parts, specs.declared.Comparator.Comparator, specs.declared.Op.Op, specs.declared.Op.TheVariants.Caret, specs.declared.Op.TheVariants.Wildcard, specs.declared.error.Position.Position}
pub use Rattle.std.{proofs.lemmas.Bool.Decides.Decides-int_eq, proofs.lemmas.Cmp.nat_list_cmp_total, proofs.lemmas.Iterator.Adapters.option_map_id, proofs.lemmas.List.Elements.All-from_recursion, proofs.lemmas.List.Elements.recursion_from_All, proofs.lemmas.List.Folds.flat_map-map}
pub use Rattle.std.{proofs.lemmas.Map.Text.is_eq-slice_cmp, proofs.lemmas.Slice.Eq.bytes_eq-Decides, specs.Char.is_ascii_digit, specs.Cmp.tied_itself, specs.Cmp.Lexicographic.slice_cmp, specs.Fmt.decimal, specs.Map.keys_of, specs.Map.lookup, specs.Option.unwrap_or}
pub use Rattle.std.{specs.Ordering.match_ordering, specs.Ordering.ordering_reverse, specs.Result.result_ok, specs.Str.bytes_eq, specs.String.string_cmp}
pub use Rattle.toml.{specs.declared.value.Value.Value}
unfoldable pub use Rattle.cargo_toml_package.specs.Dependencies.{dependency_of}
unfoldable pub use Rattle.cargo_toml_package.specs.Packages.{package_reads}
unfoldable pub use Rattle.cargo_toml_package.specs.Templates.{template_reads}
unfoldable pub use Rattle.cargo_toml_package.specs.Workspaces.{workspace_reads}
unfoldable pub use Rattle.cargo_toml_write.specs.Writes.{WritesFrom}
unfoldable pub use Rattle.semver.specs.Parse.{digits_from, req_from, strip_spaces}
unfoldable pub use Rattle.std.specs.List.Sorted.{IsStrictlySortedBy}
