-- The names that proofs of this crate cite of definitions and of other libraries. Declares nothing.
pub use Rattle.cargo_toml_discovery.proofs.Faults.{fault_of-io, fault_of-memory, from_input, has_memory, memory_alone, no_absence, no_input}
pub use Rattle.cargo_toml_discovery.proofs.Unique.{own, texts_in-itself, texts_in-ordered}
pub use Rattle.cargo_toml_discovery.specs.Answers.{Answers, answer_at, answers_of, around_in, below, entries_if, filled, filled_by, named_in, names_in, texts_in}
pub use Rattle.cargo_toml_discovery.specs.Around.{Around, around, each_named, entries_at, make_around, named_at, named_by}
pub use Rattle.cargo_toml_discovery.specs.Discovering.{DiscoveredMeaning, StatedMeaning, discovered, discovered_meaning, restated, stated_meaning}
pub use Rattle.cargo_toml_discovery.specs.Folders.{AnswersNames, IsListed, RefusesBy}
pub use Rattle.cargo_toml_discovery.specs.Names.{Name, has_text, in_folder, is_source, may_be_folder}
pub use Rattle.cargo_toml_discovery.specs.Seen.{IsOneOf, MayTell, Seen, Tells, and_then, faulty, is_absence, is_not_found, names_at, pair, root_names, seen, seen_as, unclear}
pub use Rattle.cargo_toml_discovery.specs.Told.{Told, absent, denied, names, open_path}
pub use Rattle.cargo_toml_manifest.specs.Answering.{IsAnsweredAt, IsAnsweredBy, IsFaultOf, IsRefusal}
pub use Rattle.cargo_toml_manifest.specs.Choosing.{AnswersHint, Choice, Handed, MayFind, RootsTold, choice, from, handed_of, hint_of, lost, own_choice, roots_of, told_choice, unclear_root}
pub use Rattle.cargo_toml_manifest.specs.Completing.{GivenBy, IsLasting, Meets, Outcome, complete, complete_by, gives, inherited_by, no_workspace, path_of, refuses, seen_at, then_found, untold}
pub use Rattle.cargo_toml_manifest.specs.Finding.{found_around, found_for, stated_by, wanted_by, with_discovered, with_found, with_found_for}
pub use Rattle.cargo_toml_manifest.specs.Gathering.{AnswerFits, Fits, Grows, Has, HasAll, HasEach, HasProducts, HasRoot, IsHeard, Listed, MayTellOneOf, Sorts}
pub use Rattle.cargo_toml_manifest.specs.Inheriting.{inherited_from, inherited_if_there, inherited_manifest, needs, own_tables}
pub use Rattle.cargo_toml_manifest.specs.Installing.{installed, installed_if_there, taken, with_completion}
pub use Rattle.cargo_toml_manifest.specs.Manifests.{ManifestFaults, ManifestMeaning, ManifestRefuses, held, manifest_meaning, manifest_of, manifest_reads}
pub use Rattle.cargo_toml_manifest.specs.RealFiles.{IsNoWorkspace, IsPathFault, IsReadAndCompleted, IsRootFault, IsTextFault, expected_workspace}
pub use Rattle.cargo_toml_manifest.specs.Refusing.{IsCause, IsRefusedAt, IsRefusedBy, IsToldWith, MayHold, MayLose, ReadsBy}
pub use Rattle.cargo_toml_manifest.specs.Roots.{IsFromSlice, IsNoRoot, IsRootAt, not_a_workspace}
pub use Rattle.cargo_toml_manifest.specs.Texts.{AnyRefuses, DocumentRefuses, IsFromBytes, IsFromText, IsTree, IsTreeOfBytes, any_tree, document_reads, tree_of}
pub use Rattle.cargo_toml_manifest.specs.Told.{AnswersRoot, IsRootIn, ReadsRoot, ToldRoot, heard, no_root, open_root, root}
pub use Rattle.cargo_toml_package.proofs.Lasting.{files-own, filled_package, package-kept}
pub use Rattle.cargo_toml_package.specs.Dependencies.{DependencyMeaning, InheritedMeaning, detailed, inherited, simple}
pub use Rattle.cargo_toml_package.specs.InheritedDependencies.{Entries, adds_nothing, any_left, any_target_left, detail_of_requirement, entry_at, from_template, inherited_entries, inherited_entry, inherited_target, inherited_targets, is_left, target_left, with_entry}
pub use Rattle.cargo_toml_package.specs.Inheriting.{IsFilled, any_field_left, inherited_package, with_template_if_there}
pub use Rattle.cargo_toml_package.specs.Sharing.{LintsByTool, Shared, inherited_lints, shared, shared_of}
pub use Rattle.cargo_toml_parts.proofs.CopiedFields.{copied, ends, steady, surely}
pub use Rattle.cargo_toml_parts.proofs.Places.{begins, held_in, means_none, takes, takes_last, takes_optional}
pub use Rattle.cargo_toml_parts.proofs.Shapes.{itself, list_shape, map_shape}
pub use Rattle.cargo_toml_parts.specs.Answers.{Gives, beside, each, ◌>>=◌}
pub use Rattle.cargo_toml_parts.specs.FaultValues.{Fault, fault_of, fault_step, io, workspace_integrity}
pub use Rattle.cargo_toml_parts.specs.declared.error.Error.{Error, Io, Memory, WorkspaceIntegrity, fold-roll-Error}
pub use Rattle.std.proofs.Common.{Bool, Err, IfErr, IfOk, List, None, Ok, Option, Result, Some, String, Vec, [], ap, arith, codes, cond, false, filter, get_or, inl, inr, is_some, length, map, refl, rules, string_bytes, subst, suc, sym, take, true, zero, ℕ, ◌&&◌, ◌++◌, ◌+◌, ◌<◌, ◌∙◌, ◌∷◌, ◌≡◌, ◌⊎◌}
pub use Rattle.std.proofs.lemmas.Result.{IfErr-weaker, IfOk-weaker, err_from_is_err_and}
pub use Rattle.std.specs.Prelude.{IfSome, IsSome, IsUtf8, if◌then◌else◌, not, option_and_then, option_map, unwrap_or}
pub use Rattle.toml.specs.Data.{Data, Members, no_members, table}
pub use Rattle.cargo_toml_discovery.{proofs.Again.discovered-again, proofs.Lookups.is_some-seen, specs.Found.Named, specs.declared.discovery.Discovered.Discovered, specs.declared.discovery.Stated.Stated, specs.declared.listings.Wanted.Wanted}
pub use Rattle.cargo_toml_manifest.{specs.Completed.IsCompleted, specs.declared.finding.Completion.Completion, specs.declared.held.HeldManifest.HeldManifest, specs.declared.manifest.Manifest.Manifest}
pub use Rattle.cargo_toml_package.{proofs.LastingDependencies.target-kept, proofs.LastingDependencies.targets-kept, specs.Packages.PackageMeaning, specs.Packages.package_meaning, specs.Targets.TargetMeaning, specs.Templates.TemplateMeaning, specs.Workspaces.WorkspaceMeaning, specs.Workspaces.workspace_meaning}
pub use Rattle.cargo_toml_package.{specs.declared.inheriting.NewFields.NewFields, specs.declared.package.Package.Package, specs.declared.sharing.NewParts.NewParts, specs.declared.workspace.Workspace.Workspace}
pub use Rattle.cargo_toml_parts.{proofs.Chain.plain, specs.Faults.IsFromIo, specs.Floats.RefusedIf, specs.Floats.has_no_float, specs.InheritableValues.is_set, specs.InheritableValues.value_of, specs.Paths.workspace_folder, specs.Products.product_meaning, specs.Reads.IsReading, specs.Reads.WrongShape, specs.Settings.file_meaning}
pub use Rattle.cargo_toml_parts.{specs.Settings.flag, specs.Wrapping.wrap, specs.declared.error.Error.TheOpen.Error-F, specs.declared.error.Error.TheVariants.rolls-WorkspaceIntegrity, specs.declared.inheritable.Inheritable.Inheritable, specs.declared.inheritable.Inheritable.TheVariants.Inherited}
pub use Rattle.cargo_toml_parts.{specs.declared.inheritable.Inheritable.TheVariants.Set, specs.declared.settings.Edition.TheVariants.E2015}
pub use Rattle.std.{proofs.lemmas.Bool.or_parts, proofs.lemmas.List.map_push, proofs.lemmas.List.take_more, proofs.lemmas.Slice.Eq.bytes_eq-Decides, specs.BTreeMap.BTreeMap, specs.BTreeSet.BTreeSet, specs.HashSet.HashSet, specs.IoError.error_kind, specs.List.list_any, specs.Option.option_copied}
pub use Rattle.std.{specs.Option.option_map_or, specs.Result.IsErrAnd, specs.Str.bytes_eq, specs.contracts.io.ErrorKind.the_type, specs.declared.alloc.Global.Global, specs.declared.io.ErrorKind.ErrorKind, specs.declared.io.ErrorKind.TheVariants.NotFound, specs.declared.io.ErrorKind.TheVariants.Unsupported}
pub use Rattle.toml.{specs.Parse.parse_document, specs.View.table_view, specs.View.view, specs.declared.value.Value.Value}
pub use denote.Enum.{Bare.sameb}
