-- The words in which the answers of writers are given, passed on from where they are defined.
pub use Rattle.cargo_toml_package.proofs.Apart.{ascend-bytes}
pub use Rattle.cargo_toml_package.specs.{Dependencies.dependency_of, Dependencies.detail_meaning, Dependencies.detailed, Dependencies.inherited, Dependencies.inherited_meaning, Dependencies.simple, Details.detail_of, Features.features_meaning}
pub use Rattle.cargo_toml_parts.specs.{Reads.map_meaning, Reads.pairs_meaning, Badges.badge_meaning, Badges.badges_meaning, Lints.lint_meaning, Profiles.profile_meaning, Profiles.profiles_meaning}
pub use Rattle.cargo_toml_write.proofs.Rows.{◌then_same◌, ◌then◌, done, Gathers, chain, detail_at-map, ends, ends_over, gather_end, gather_err, gather_start, gather_step, is_put, items_end, items_err, makes_table, pairs_ascend, stopped, with_details}
pub use Rattle.cargo_toml_write.proofs.ReadAgain.{again, alone, floatless_again, list_again, map_any, reads_again, tree_again}
pub use Rattle.cargo_toml_write.proofs.ReadAgainTypes.{badge_again, badges_again, dependency_again, detail_again, entries_again, groups_again, inherited_again, lint_again, lint_writing, maintenance_again, manifest_again, manifest_features, package_again, product_again, profile_again, profiles_again, publish_again, requirement_again, same_names, target_again, template_again, workspace_again}
pub use Rattle.cargo_toml_write.specs.WrittenDependencies.{detail_way, inherited_way, known_rows, target_way, detail_under, feature_way, features_in, features_way, inherited_rows, target_rows, told_features, told_rows}
pub use Rattle.cargo_toml_write.specs.WrittenTables.{badge_rows, badge_way, badges_rows, badges_way, lint_way, maintenance_way, product_way, profiles_way, known_profiles, lint_rows, maintenance_rows, product_rows, profile_rows, profile_way}
pub use Rattle.cargo_toml_write.specs.{Reread.reread, Reread.reread_workspace, Ways.Ascend, Ways.free_way, Ways.map_way, Ways.requirement_way, Ways.texts_way, Writes.put_member, WrittenPackages.package_rows, WrittenPackages.package_way, WrittenPackages.template_rows, WrittenPackages.template_way, WrittenPackages.workspace_rows, WrittenPackages.workspace_way}
pub use Rattle.std.proofs.Common.{◌∙◌, ◌≡◌, ap, arith, false, is_some, map, option_map, refl, rules, string_bytes, subst, sym}
pub use Rattle.std.proofs.lemmas.Result.{err_from_is_err_and}
pub use Rattle.std.specs.Map.{keys_of}
pub use Rattle.toml.proofs.Views.{view-Array, view-String, view-Table}
pub use Rattle.toml.specs.{Data.string, View.members_view, View.table_view, View.view}
