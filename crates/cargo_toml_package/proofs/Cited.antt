-- The names that proofs of this crate cite of definitions and of other libraries. Declares nothing.
pub use Rattle.cargo_toml_package.specs.Dependencies.{DependencyMeaning, DetailMeaning, InheritedMeaning, dependency_meaning, detail_keys, detail_meaning, detail_of_table, detailed, inherited, inherited_meaning, inherited_of, inherited_or, says_workspace, simple, strict_of}
pub use Rattle.cargo_toml_package.specs.Details.{Detail, detail_of, is_plain, plain_detail}
pub use Rattle.cargo_toml_package.specs.Features.{apart, details_of, feature_meaning, feature_of, lists_of, table_feature}
pub use Rattle.cargo_toml_package.specs.InheritedDependencies.{Entries, IsShort, any_left, any_target_left, entry_at, inherited_entries, inherited_entry, inherited_target, inherited_targets, is_left, target_left}
pub use Rattle.cargo_toml_package.specs.Inheriting.{IsFilled, any_field_left, checked_package, field_is_left, filled_field, filled_if_there, inherited_package, installed_package, is_left_there, with_template, with_template_if_there}
pub use Rattle.cargo_toml_package.specs.Packages.{PackageFaults, PackageMeaning, held_package, package_meaning, package_of_table}
pub use Rattle.cargo_toml_package.specs.Replacing.{made_meaning, next_for, next_target, replaced, replaced_target, replaced_targets, rest_for}
pub use Rattle.cargo_toml_package.specs.Targets.{TargetMeaning, target_meaning, target_of}
pub use Rattle.cargo_toml_package.specs.Templates.{TemplateMeaning, template_meaning, template_of}
pub use Rattle.cargo_toml_parts.proofs.Chain.{ends, plain, shape, shape_list, shape_map}
pub use Rattle.cargo_toml_parts.proofs.CopiedFields.{copied, ends_if_not, ends_ok, steady}
pub use Rattle.cargo_toml_parts.proofs.Places.{all_left, begins, ends_left, ends_told, held_in, known, means_none, takes, takes_last, takes_last_optional, takes_optional, takes_required, told, told_optional}
pub use Rattle.cargo_toml_parts.proofs.Readers.{OthersSoFar, others_push, others_start}
pub use Rattle.cargo_toml_parts.proofs.SameCopies.{option_same, requirement_same, zip_same}
pub use Rattle.cargo_toml_parts.proofs.Shapes.{itself, list_shape, map_shape, of_array, of_list}
pub use Rattle.cargo_toml_parts.specs.Answers.{Gives, beside, each, ◌>>=◌}
pub use Rattle.cargo_toml_parts.specs.FaultValues.{Fault, fault_of, fault_step, inherited_unknown_value, workspace_integrity}
pub use Rattle.cargo_toml_parts.specs.Reads.{Faulty, OptionalRefuses, WrongShape, given_of, map_meaning, others_read, pairs_meaning, required_at, required_of}
pub use Rattle.cargo_toml_parts.specs.declared.error.Error.{Error, InheritedUnknownValue, Memory, fold-roll-Error}
pub use Rattle.cargo_toml_parts.specs.declared.error.Error.TheVariants.{WorkspaceIntegrity, rolls-InheritedUnknownValue, rolls-WorkspaceIntegrity}
pub use Rattle.std.proofs.Common.{Bool, Err, IsSome, IsTrue, Less, List, None, Ok, Option, Result, Some, String, [], ap, append_assoc, arith, codes, cond, drop, false, inl, inr, is_some, map, not, option_and_then, option_map, refl, rules, string_bytes, subst, sym, true, ℕ, ◌++◌, ◌||◌, ◌∙◌, ◌∷◌, ◌≡◌, ◌⊎◌}
pub use Rattle.std.proofs.lemmas.List.Elements.{All-head, All-same, All-tail}
pub use Rattle.std.specs.BTreeMap.{BTreeMap, get_by, is_at}
pub use Rattle.std.specs.List.{All, AllByRecursion, list_any}
pub use Rattle.toml.specs.Data.{Data, Members, array, as_array, as_bool, as_str, get_member}
pub use Rattle.cargo_toml_package.{specs.Near.AreEntriesOf, specs.PackageAnswers.is_known, specs.Workspaces.WorkspaceFaults, specs.Workspaces.workspace_of, specs.declared.dependency.Dependency.Dependency, specs.declared.dependency.Dependency.TheVariants.Detailed, specs.declared.dependency.Dependency.TheVariants.Simple}
pub use Rattle.cargo_toml_package.{specs.declared.dependency.DependencyDetail.DependencyDetail, specs.declared.dependency.InheritedDependencyDetail.InheritedDependencyDetail, specs.declared.feature.WrittenFeature.WrittenFeature, specs.declared.inheriting.NewFields.NewFields, specs.declared.package.Package.Package}
pub use Rattle.cargo_toml_package.{specs.declared.target.FeatureDetail.FeatureDetail, specs.declared.workspace_dependencies.targets.NewTarget.NewTarget}
pub use Rattle.cargo_toml_parts.{proofs.Collected.mean_alike, proofs.Steps.blames, proofs.Taken.rest_read, specs.Faults.IsShape, specs.Faults.wrong_shape, specs.InheritableValues.value_of, specs.Inherits.inheritable_map, specs.Settings.File, specs.Settings.PublishRefuses, specs.Versions.requirement_meaning}
pub use Rattle.cargo_toml_parts.{specs.declared.error.Error.TheOpen.Error-F, specs.declared.inheritable.Inheritable.Inheritable, specs.declared.inheritable.Inheritable.TheVariants.Inherited, specs.declared.inheritable.Inheritable.TheVariants.Set}
pub use Rattle.std.{proofs.lemmas.Bool.or_parts, proofs.lemmas.Grind.common_steps, proofs.lemmas.List.map_push, proofs.lemmas.Map.Text.is_eq-slice_cmp, proofs.lemmas.Result.err_from_is_err_and, specs.Cmp.Lexicographic.slice_cmp, specs.Map.keys_of, specs.Map.lookup}
pub use Rattle.std.{specs.Map.Calls.RetainsPairs, specs.Option.option_copied, specs.Ordering.nat_cmp, specs.Prelude.Vec, specs.Result.result_and, specs.Result.result_map_both, specs.Str.bytes_eq, specs.String.string_cmp, specs.Vec.Iter.into_iter_items, specs.declared.alloc.Global.Global}
pub use Rattle.toml.{proofs.Views.Entry, specs.View.table_view, specs.View.view, specs.declared.value.Value.Value}
unfoldable pub use Rattle.std.specs.List.Sorted.{IsStrictlySortedBy}
